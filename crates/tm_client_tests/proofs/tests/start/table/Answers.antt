use Rattle.std.proofs.Common.{◌<◌, sym, subst}
use Rattle.tm_batch.specs.declared.config.Config.{Config}
use Rattle.tm_model.specs.Opening.{opening_of}
use Rattle.tm_pair.specs.Plain.{plain_theory}
use Rattle.tm_pair.specs.Theory.{IsNewTable}
use Rattle.tm_client_tests.specs.Playing.{small}
use Rattle.tm_client_tests.proofs.Beginning.{buildable_so}
use Rattle.tm_client_tests.proofs.tests.start.table.Goals as goal

pub new-requires-clause-buildable : goal.new-requires-clause-buildable
new-requires-clause-buildable g c =
    let (v, is) = c.requires.first in buildable_so v c.args.trusts _ _ c.requires.some c.requires.most c.small.ensures is

pub new-requires-clause-number : goal.new-requires-clause-number
new-requires-clause-number g c = subst (λ (x : Config). c.args.number < x.trustees) (sym c.small.ensures) c.requires.number

pub returns : goal.returns
returns g c = λ v is.
    let opened = c.in_ok-opened.opened in
    let kind = g.S.Entrusted.kind in
    subst (λ l. IsNewTable (plain_theory kind) (opening_of c.args.number (small c.args.trusts) l) opened.0 opened.1.items opened.2) is
    (subst (λ (x : Config). IsNewTable (plain_theory kind) (opening_of c.args.number x c.args.first.now.items) opened.0 opened.1.items opened.2) c.small.ensures
    c.in_ok-opened.ensures.new)
