use Rattle.std.proofs.Common.{◌≤◌, refl}
use Rattle.tm_objects.specs.Live.{holds_of}
use Rattle.tm_state.proofs.RowsKeep.{asked_as}
use Rattle.tm_state.proofs.RowsLive.{held_at, of_live}
use Rattle.tm_state.proofs.RowsGivenUp.{reclaim_ok, reclaim_err}
use Rattle.tm_state.proofs.state.TrusteeState.reclaim.Goals.{in-Ok, in-Err}
use Rattle.tm_state.proofs.state.TrusteeState.reclaim.Goals as goal

pub reclaim-requires-clause-live : goal.reclaim-requires-clause-live
reclaim-requires-clause-live g c =
    let (opening, s, asked) = c.requires in
    let at = held_at c.args.name.id refl (asked_as c.self.view_is asked) in
    of_live at (λ o. 1 ≤ holds_of o c.args.place) at.held

pub returns-clause-served : goal.returns-clause-served
returns-clause-served g c = λ opening s asked.
    let e = c.reclaim.ensures in
    let a = asked_as c.self.view_is asked in
    elim c.match-reclaim.branch [
      | in-Ok w ↦
          reclaim_ok g.S.Entrusted.kind opening s c.args.place _ c.reclaim.new.self c.reclaim.result c.args.name a e.last e.more
          w.in-Ok.value c.match-reclaim.result w.in-Ok.is w.result-is
      | in-Err w ↦
          reclaim_err g.S.Entrusted.kind opening s c.args.place _ c.reclaim.new.self c.reclaim.result c.args.name a e.last e.more
          _ c.match-reclaim.result w.in-Err.is w.result-is
    ]
