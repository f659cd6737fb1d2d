use Rattle.tm_turns.proofs.Driving.{to_drive, is_to_drive, pending_awaits}
use Rattle.tm_turns.proofs.turns.driving_ends.Goals as goal

pub returns : goal.returns
returns g c = (
  λ k. (λ turns. to_drive g.S.Entrusted.kind k turns, is_to_drive g.S.Entrusted.kind g.met.S.Entrusted.laws k),
  λ k t old new are is. pending_awaits g.S.Entrusted.kind k t old new are is,
)
