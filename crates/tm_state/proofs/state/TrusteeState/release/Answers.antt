use Rattle.std.proofs.Common.{◌≤◌, refl}
use Rattle.tm_objects.specs.Live.{holds_of}
use Rattle.tm_state.proofs.RowsKeep.{asked_as}
use Rattle.tm_state.proofs.RowsLive.{held_at, of_live}
use Rattle.tm_state.proofs.RowsGivenUp.{release_row}
use Rattle.tm_state.proofs.state.TrusteeState.release.Goals as goal

pub release-requires-clause-live : goal.release-requires-clause-live
release-requires-clause-live g c =
    let (opening, s, asked) = c.requires in
    let at = held_at c.args.name.id refl (asked_as c.self.view_is asked) in
    of_live at (λ o. 1 ≤ holds_of o c.args.place) at.held

pub returns-clause-served : goal.returns-clause-served
returns-clause-served g c = λ opening s asked.
    release_row g.S.Entrusted.kind opening s c.args.place _ c.release.new.self c.args.name (asked_as c.self.view_is asked) c.release.ensures.released
