use Rattle.std.proofs.Common.{◌∙◌, ap, length}
use Rattle.tm_client_tests.specs.Playing.{one_object, opening}
use Rattle.tm_client_tests.proofs.Beginning.{trustee_begins}
use Rattle.tm_client_tests.proofs.tests.start.greater.Goals as goal

pub new-requires-3-clause-begins : goal.new-requires-3-clause-begins
new-requires-3-clause-begins g c =
    let (v, is) = c.requires.first in (
      opening v c.args.trusts 1,
      one_object v,
      trustee_begins v c.args.trusts _ _ _ _ c.requires.some c.requires.most c.small.ensures is c.new-2.ensures.items (ap (λ l. length l) c.new.ensures.items),
    )

pub returns-in-Ok-clause-serving : goal.returns-in-Ok-clause-serving
returns-in-Ok-clause-serving g c = λ v is.
    c.in-Ok.ensures.begun (opening v c.args.trusts 1) (one_object v)
    (trustee_begins v c.args.trusts _ _ _ _ c.requires.some c.requires.most c.small.ensures is (c.in-Ok.ensures.nested ∙ c.new-2.ensures.items)
    (ap (λ l. length l) (c.in-Ok.ensures.above ∙ c.new.ensures.items)))
