use Rattle.std.proofs.Common.{◌<◌, [], ◌∷◌, ◌++◌, refl, arith, ap, sym, subst, ◌∙◌}
use Rattle.tm_objects.specs.Live.{HasLive, total}
use Rattle.tm_state.proofs.BatchGrows.{grows_one}
use Rattle.tm_state.proofs.RowsKeep.{asked_as}
use Rattle.tm_state.proofs.RowsLive.{held_at, is_live, of_live}
use Rattle.tm_state.proofs.RowsTotal.{total_few}
use Rattle.tm_state.proofs.RowsRoom.{launched_room}
use Rattle.tm_state.proofs.RowsLaunch.{launch_found}
use Rattle.tm_state.proofs.state.TrusteeState.launch.Goals as goal

pub placed-found-requires : goal.placed-found-requires
placed-found-requires g c =
    let (opening, s, asked) = c.requires in
    is_live (held_at c.args.name.id refl (asked_as c.self.view_is asked))

pub begin-requires : goal.begin-requires
begin-requires g c =
    let (opening, s, asked) = c.requires in
    let a = asked_as c.self.view_is asked in
    let at = held_at c.args.name.id refl a in
    subst (λ id. HasLive c.self.inside.objects.live id (λ o. total o < 18446744073709551615)) (sym c.placed-found.ensures)
    (of_live at (λ o. total o < 18446744073709551615) (total_few a at))

pub add-requires-clause-room : goal.add-requires-clause-room
add-requires-clause-room g c =
    let (opening, s, asked) = c.requires in
    let few = launched_room c.args.name c.args.task (asked_as c.self.view_is asked) in
    let room = c.self.invariant.0 in
    omega (arith, few, room)

pub returns-clause-served : goal.returns-clause-served
returns-clause-served g c = λ opening s asked.
    let a = asked_as c.self.view_is asked in
    launch_found g.S.Entrusted.kind opening s c.args.place _ c.args.name c.args.task a c.placed-found.result.id c.begin.new.self c.add.new.self.launched c.placed-found.ensures
    (omega (arith, c.if-self.false)) c.begin.ensures
    (c.add.ensures.launched ∙ ap (λ t. c.self.inside.launches.launched ++ t ∷ []) c.to_begin.ensures)

pub add-requires-clause-begin : goal.add-requires-clause-begin
add-requires-clause-begin g c = ap (λ t. t.task.awaits) c.to_begin.ensures

pub returns-clause-launched : goal.returns-clause-launched
returns-clause-launched g c =
    rw (← c.self.view_is)
    (grows_one _ _ _ c.add.ensures.launched (ap (λ t. t.task.awaits) c.to_begin.ensures))
