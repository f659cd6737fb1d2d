use Rattle.tm_turns.proofs.TurnKeeps.{turn_keeps}
use Rattle.tm_turns.proofs.turns.deeds_keep.Goals as goal

pub returns : goal.returns
returns g c = λ c t answer old new is. turn_keeps g.S.Entrusted.kind c t answer old new is
