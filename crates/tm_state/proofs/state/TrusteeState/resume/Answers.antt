use Rattle.std.proofs.Common.{◌≡◌, refl, ap, subst}
use Rattle.std.specs.declared.option.Option.TheVariants.{Some}
use Rattle.tm_latch.specs.Tickets.{first_of}
use Rattle.tm_state.specs.StateView.{StateView}
use Rattle.tm_state.proofs.ResumeRuns.{may_begin, if_none, all_await, object_marked, counts_marked, place_marked, room_marked, gone_marked, keeps_marked, fewer_marked}
use Rattle.tm_state.proofs.state.TrusteeState.resume.Goals as goal

pub returns-in_err-launch-clause-none : goal.returns-in_err-launch-clause-none
returns-in_err-launch-clause-none g c =
    if_none c.from_residual.result _
    (all_await g.S.Entrusted.kind c.args.self.now c.self.inside.launches.launched c.self.inside.launches.begins (ap (λ h. h.launched) c.self.view_is) c.self.invariant.1 c.in_err-launch.ensures.none)

pub value_mut-requires : goal.value_mut-requires
value_mut-requires g c =
    let m = c.mark-mark.ensures in
    object_marked g.S.Entrusted.kind g.met.S.Entrusted.laws c.args.held.now _ c.args.self.now c.self.view_is c.in_ok-launch.launch c.in_ok-launch.ensures.first _ _ _ m.id m.ticket m.place
    c.args.made.now.entries.items c.requires

pub settle-requires-clause-object : goal.settle-requires-clause-object
settle-requires-clause-object g c =
    let m = c.mark-mark.ensures in
    counts_marked g.S.Entrusted.kind g.met.S.Entrusted.laws c.args.held.now _ c.args.self.now c.self.view_is c.in_ok-launch.launch c.in_ok-launch.ensures.first _ _ _ m.id m.ticket m.place
    c.args.made.now.entries.items c.requires _

pub settle-requires-clause-place : goal.settle-requires-clause-place
settle-requires-clause-place g c =
    let m = c.mark-mark.ensures in
    place_marked g.S.Entrusted.kind g.met.S.Entrusted.laws c.args.held.now _ c.args.self.now c.self.view_is c.in_ok-launch.launch c.in_ok-launch.ensures.first _ _ _ m.id m.ticket m.place
    c.args.made.now.entries.items c.requires c.value_mut.result.now

pub settle-requires-clause-room : goal.settle-requires-clause-room
settle-requires-clause-room g c =
    let m = c.mark-mark.ensures in
    room_marked g.S.Entrusted.kind g.met.S.Entrusted.laws c.args.held.now _ c.args.self.now c.self.view_is c.in_ok-launch.launch c.in_ok-launch.ensures.first _ _ _ m.id m.ticket m.place
    c.args.made.now.entries.items c.requires c.value_mut.result.now

pub returns-clause-goes : goal.returns-clause-goes
returns-clause-goes g c =
    let m = c.mark-mark.ensures in
    let l = c.in_ok-launch.launch in
    let did = c.go_on-next.ensures in (
      l,
      did.0,
      subst (λ (h : StateView _ _ _ _). first_of l.id h.launched ≡ Some l) c.self.view_is c.in_ok-launch.ensures.first,
      c.in_ok-launch.ensures.begin,
      did.1,
      gone_marked g.S.Entrusted.kind g.met.S.Entrusted.laws c.args.held.now _ c.args.self.now c.self.view_is l c.in_ok-launch.ensures.first _ _ _ m.id m.ticket m.place
          c.args.made.now.entries.items c.requires
          _ did.0 _ _ _ _ _ _ _ c.self.inside.objects c.self.inside.entries c.value_mut.ensures.value did.3 c.next.ensures.launched c.settle.ensures.settled (record c.args.self.now { launched = c.settle.new.launches.launched; ready = c.settle.new.ready }) refl refl,
    )

pub returns-clause-fewer : goal.returns-clause-fewer
returns-clause-fewer g c =
    let m = c.mark-mark.ensures in
    let l = c.in_ok-launch.launch in
    let did = c.go_on-next.ensures in
    fewer_marked g.S.Entrusted.kind g.met.S.Entrusted.laws c.args.held.now _ c.args.self.now c.self.view_is l c.in_ok-launch.ensures.first _ _ _ m.id m.ticket m.place
    c.args.made.now.entries.items c.requires
    _ did.0 _ _ _ _ _ _ _ c.self.inside.objects c.self.inside.entries c.value_mut.ensures.value did.3 c.next.ensures.launched c.settle.ensures.settled c.in_ok-launch.ensures.begin

pub returns-clause-keeps : goal.returns-clause-keeps
returns-clause-keeps g c =
    let m = c.mark-mark.ensures in
    let l = c.in_ok-launch.launch in
    let did = c.go_on-next.ensures in
    keeps_marked g.S.Entrusted.kind g.met.S.Entrusted.laws c.args.held.now _ c.args.self.now c.self.view_is l c.in_ok-launch.ensures.first _ _ _ m.id m.ticket m.place
    c.args.made.now.entries.items c.requires
    _ did.0 _ _ _ _ _ _ _ c.settle.new.objects _ c.value_mut.ensures.value did.3 c.next.ensures.launched c.settle.ensures.settled c.go_on-next.new.made.entries.items
    (may_begin _ l.task.awaits c.in_ok-launch.ensures.begin) did.1.entries c.settle.ensures.objects did.2
