use Rattle.std.proofs.Common.{[], ◌∷◌, ◌++◌, sym, ap, ◌∙◌, arith, append_assoc}
use Rattle.tm_state.proofs.OpenedState.{may_place, begun_more, all_placed, begun_represents}
use Rattle.tm_state.proofs.state.TrusteeState.new.Goals as goal

pub place-requires : goal.place-requires
place-requires g c =
    let more = ap (λ l. c.loop-object.yielded ++ l) (sym c.in-Some.ensures.steps.0) ∙ c.loop-object.invariant.1 in
    may_place g.row.S-Op.Denot g.row.S-Reply.Denot g.row.S-Task.Denot c.args.number c.args.config c.requires.0 c.args.first.items c.loop-object.yielded c.next.new.self.rest.items c.in-Some.object c.loop-object.state c.requires.1
    more c.loop-object.invariant.0

pub loop-object-preserved : goal.loop-object-preserved
loop-object-preserved g c =
    let more = ap (λ l. c.loop-object.yielded ++ l) (sym c.in-Some.ensures.steps.0) ∙ c.loop-object.invariant.1 in (
      begun_more g.row.S-Op.Denot g.row.S-Reply.Denot g.row.S-Task.Denot c.args.number c.args.config c.loop-object.yielded c.in-Some.object c.loop-object.state c.place.new.self c.loop-object.invariant.0 c.place.ensures,
      append_assoc c.loop-object.yielded (c.in-Some.object ∷ []) c.next.new.self.rest.items ∙ more,
    )

pub returns-clause-opened : goal.returns-clause-opened
returns-clause-opened g c = λ whole may.
    let none = c.loop-object.object-iterator.rest.ok.0 in
    let end = c.in-None.ensures.steps.0 in
    begun_represents g.S.Entrusted.kind c.args.number c.args.config whole c.args.first.items c.loop-object.state may
    (all_placed g.row.S-Op.Denot g.row.S-Reply.Denot g.row.S-Task.Denot c.loop-object.yielded c.loop-object.object-iterator.rest.items c.args.first.items c.args.number c.args.config c.loop-object.state (omega (arith, none, end))
    c.loop-object.invariant.1 c.loop-object.invariant.0)
