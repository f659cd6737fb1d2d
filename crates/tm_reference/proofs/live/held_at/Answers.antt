use Rattle.std.proofs.Common.{◌∙◌, ap, arith}
use Rattle.tm_model.specs.State.{Object, holds_of}
use Rattle.tm_reference.proofs.live.held_at.Goals as goal

pub returns-then-holds_of-gt0 : goal.returns-then-holds_of-gt0
returns-then-holds_of-gt0 g c =
    let at = c.in-Some.ensures in
    let same = c.index-live-at.is ∙ at.1.here c.index-live-at.result in
    let holds = c.holds_of.ensures ∙ ap (λ (o : Object _ _). holds_of o c.args.place) same in
    (at.0, at.1, omega (arith, holds, c.if-holds_of-gt0.true))
