use Rattle.std.proofs.Common.{◌≡◌, ◌∙◌, refl, sym, ap, subst}
use Rattle.std.specs.declared.option.Option.TheVariants.{Some}
use Rattle.tm_latch.specs.Tickets.{first_of}
use Rattle.tm_state.specs.StateView.{StateView}
use Rattle.tm_state.proofs.ResumeRuns.{may_reply, object_marked, counts_marked, place_marked, room_marked, gone_marked, keeps_marked}
use Rattle.tm_state.proofs.state.TrusteeState.reply.Goals as goal

pub value_mut-requires : goal.value_mut-requires
value_mut-requires g c =
    let first = subst (λ (h : StateView _ _ _ _). first_of c.args.launch.id h.launched ≡ Some c.args.launch) (sym c.self.view_is) c.requires.first in
    let m = c.mark-mark.ensures in
    object_marked g.S.Entrusted.kind g.met.S.Entrusted.laws c.args.held.now _ c.args.self.now c.self.view_is c.args.launch first _ _ _ m.id m.ticket m.place c.args.made.now.entries.items c.requires.may

pub settle-requires-clause-object : goal.settle-requires-clause-object
settle-requires-clause-object g c =
    let first = subst (λ (h : StateView _ _ _ _). first_of c.args.launch.id h.launched ≡ Some c.args.launch) (sym c.self.view_is) c.requires.first in
    let m = c.mark-mark.ensures in
    counts_marked g.S.Entrusted.kind g.met.S.Entrusted.laws c.args.held.now _ c.args.self.now c.self.view_is c.args.launch first _ _ _ m.id m.ticket m.place c.args.made.now.entries.items c.requires.may _

pub settle-requires-clause-gone : goal.settle-requires-clause-gone
settle-requires-clause-gone g c = ap (λ i. first_of i c.self.inside.launches.begins) c.mark-mark.ensures.id ∙ c.known.ensures

pub settle-requires-clause-place : goal.settle-requires-clause-place
settle-requires-clause-place g c =
    let first = subst (λ (h : StateView _ _ _ _). first_of c.args.launch.id h.launched ≡ Some c.args.launch) (sym c.self.view_is) c.requires.first in
    let m = c.mark-mark.ensures in
    place_marked g.S.Entrusted.kind g.met.S.Entrusted.laws c.args.held.now _ c.args.self.now c.self.view_is c.args.launch first _ _ _ m.id m.ticket m.place c.args.made.now.entries.items c.requires.may
    c.value_mut.result.now

pub settle-requires-clause-room : goal.settle-requires-clause-room
settle-requires-clause-room g c =
    let first = subst (λ (h : StateView _ _ _ _). first_of c.args.launch.id h.launched ≡ Some c.args.launch) (sym c.self.view_is) c.requires.first in
    let m = c.mark-mark.ensures in
    room_marked g.S.Entrusted.kind g.met.S.Entrusted.laws c.args.held.now _ c.args.self.now c.self.view_is c.args.launch first _ _ _ m.id m.ticket m.place c.args.made.now.entries.items c.requires.may
    c.value_mut.result.now

pub invariant_of-self : goal.invariant_of-self
invariant_of-self g c = (c.settle.ensures.room ∙ c.self.invariant.0, c.settle.ensures.begins (λ id t ne first start. c.self.invariant.1 id t first start))

pub returns-clause-goes : goal.returns-clause-goes
returns-clause-goes g c =
    let first = subst (λ (h : StateView _ _ _ _). first_of c.args.launch.id h.launched ≡ Some c.args.launch) (sym c.self.view_is) c.requires.first in
    let m = c.mark-mark.ensures in
    let did = c.go_on-next.ensures in (
      did.0,
      did.1,
      gone_marked g.S.Entrusted.kind g.met.S.Entrusted.laws c.args.held.now _ c.args.self.now c.self.view_is c.args.launch first _ _ _ m.id m.ticket m.place c.args.made.now.entries.items c.requires.may
          _ did.0 _ _ _ _ _ _ _ c.self.inside.objects c.self.inside.entries c.value_mut.ensures.value did.3 refl c.settle.ensures.settled (record c.args.self.now { launched = c.settle.new.launches.launched; ready = c.settle.new.ready }) refl refl,
    )

pub returns-clause-keeps : goal.returns-clause-keeps
returns-clause-keeps g c =
    let first = subst (λ (h : StateView _ _ _ _). first_of c.args.launch.id h.launched ≡ Some c.args.launch) (sym c.self.view_is) c.requires.first in
    let m = c.mark-mark.ensures in
    let did = c.go_on-next.ensures in
    keeps_marked g.S.Entrusted.kind g.met.S.Entrusted.laws c.args.held.now _ c.args.self.now c.self.view_is c.args.launch first _ _ _ m.id m.ticket m.place c.args.made.now.entries.items c.requires.may
    _ did.0 _ _ _ _ _ _ _ c.settle.new.objects _ c.value_mut.ensures.value did.3 refl c.settle.ensures.settled c.go_on-next.new.made.entries.items
    (may_reply c.args.launch.task.awaits c.args.reply c.requires.begun) did.1.entries c.settle.ensures.objects did.2
