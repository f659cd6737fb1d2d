use Rattle.std.proofs.Common.{◌<◌, refl}
use Rattle.tm_objects.specs.Live.{total}
use Rattle.tm_state.proofs.RowsKeep.{asked_as}
use Rattle.tm_state.proofs.RowsLive.{held_at, of_live}
use Rattle.tm_state.proofs.RowsTotal.{total_few}
use Rattle.tm_state.proofs.RowsGrant.{grant_true, grant_false}
use Rattle.tm_state.proofs.state.TrusteeState.grant.Goals.{then-grant, else-grant}
use Rattle.tm_state.proofs.state.TrusteeState.grant.Goals as goal

pub grant-requires-clause-live : goal.grant-requires-clause-live
grant-requires-clause-live g c =
    let (opening, s, asked) = c.requires in
    let a = asked_as c.self.view_is asked in
    let at = held_at c.args.name.id refl a in
    of_live at (λ o. total o < 18446744073709551615) (total_few a at)

pub returns-clause-served : goal.returns-clause-served
returns-clause-served g c = λ opening s asked.
    let e = c.grant.ensures in
    let a = asked_as c.self.view_is asked in
    elim c.if-grant.branch [
      | then-grant w ↦
          grant_true g.S.Entrusted.kind opening s c.args.place _ c.args.name c.args.to a c.grant.new.self c.index.result.now c.grant.result
          c.index.ensures c.if-index.false e.granted e.waiting e.held c.if-grant.result w.if-grant.true w.result-is
      | else-grant w ↦
          grant_false g.S.Entrusted.kind opening s c.args.place _ c.args.name c.args.to a c.grant.new.self c.index.result.now c.grant.result
          c.index.ensures c.if-index.false e.granted e.waiting e.held c.if-grant.result w.if-grant.false w.result-is
    ]
