use Rattle.std.proofs.Common.{◌<◌, ◌∙◌, length, sym, subst, refl}
use Rattle.tm_state.specs.StateView.{StateView}
use Rattle.tm_state.proofs.BatchLeaves.{has_place, ready_place, has_left}
use Rattle.tm_state.proofs.state.TrusteeState.leave.Goals as goal

pub take_gifts-requires : goal.take_gifts-requires
take_gifts-requires g c =
    let there = has_place g.S.Entrusted.kind c.args.place c.args.self.now c.requires.may in
    let within = subst (λ (h : StateView _ _ _ _). c.args.place < length h.stock.gifts) (sym c.self.view_is) there in (
      g.met.S.FitsAnswers.fits,
      (c.requires.room, (c.requires.empty, within)),
    )

pub take_ready-requires : goal.take_ready-requires
take_ready-requires g c =
    let there = ready_place g.S.Entrusted.kind c.args.place c.args.self.now c.requires.may in
    let within = subst (λ (h : StateView _ _ _ _). c.args.place < length h.ready) (sym c.self.view_is) there in (
      g.met.S.FitsAnswers.fits,
      (c.take_gifts.ensures.completions ∙ c.requires.none, within),
    )

pub returns-clause-left : goal.returns-clause-left
returns-clause-left g c =
    has_left g.S.Entrusted.kind c.args.place c.args.room
    (record c.take_ready.new.answers { front = c.saturating_add-self-inside.result }) c.args.self.now _ c.take_gifts.new.objects c.take_ready.new.ready c.saturating_add-self-inside.result c.self.view_is
    c.requires.room c.take_gifts.ensures.taken (c.take_ready.ensures.gifts ∙ c.take_gifts.ensures.gifts) c.take_ready.ensures.completions c.take_ready.ensures.taken c.saturating_add-self-inside.ensures refl
