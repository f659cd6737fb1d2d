use Rattle.std.proofs.Common.{◌≡◌, [], ◌∷◌, length, sym, ap, subst}
use Rattle.std.specs.List.{AllByRecursion}
use Rattle.tm_batch.specs.declared.config.Config.{Config}
use Rattle.tm_model.specs.Opening.{opening_of}
use Rattle.tm_pair.specs.Views.{new_client}
use Rattle.tm_pair.specs.Plain.{client_at}
use Rattle.tm_client.specs.Begun.{HasBegun}
use Rattle.tm_client_tests.specs.Playing.{one_object, opening, small}
use Rattle.tm_client_tests.proofs.Beginning.{client_begins}
use Rattle.tm_client_tests.proofs.tests.start.client.Goals as goal

pub new-requires-clause-begins : goal.new-requires-clause-begins
new-requires-clause-begins g c = (
  one_object c.requires.value,
  client_begins c.requires.value c.args.trusts c.args.number _ _ _ c.requires.some c.requires.most c.requires.number c.small.ensures
      (ap (λ l. length l) c.in_ok-sides.ensures.items) c.in_ok-held.ensures,
)

pub new-requires-clause-sides : goal.new-requires-clause-sides
new-requires-clause-sides g c =
    subst (λ l. AllByRecursion (λ side. client_at side ≡ new_client c.args.number) l) (sym c.in_ok-sides.ensures.items) (c.requires.low, (c.requires.high, tt))

pub returns-clause-client : goal.returns-clause-client
returns-clause-client g c = λ v.
    c.in_ok-began.ensures.client (one_object v) (opening v c.args.trusts)
    (client_begins v c.args.trusts c.args.number _ _ _ c.requires.some c.requires.most c.requires.number c.small.ensures
    (ap (λ l. length l) c.in_ok-sides.ensures.items) c.in_ok-held.ensures)
    (λ t lt. ap (λ (x : Config). opening_of t x (one_object v)) (sym c.small.ensures))

pub returns-clause-begun : goal.returns-clause-begun
returns-clause-begun g c =
    let books = c.in_ok-began.began.0.books in
    let n = c.args.number in
    subst (λ h. HasBegun n (small c.args.trusts) (c.args.low ∷ c.args.high ∷ []) h books) c.in_ok-held.ensures
    (subst (λ sides. HasBegun n (small c.args.trusts) sides c.in_ok-held.held.items books) c.in_ok-sides.ensures.items
    (subst (λ (x : Config). HasBegun n x c.in_ok-sides.sides.items c.in_ok-held.held.items books) c.small.ensures c.in_ok-began.ensures.begun))
