use Rattle.tm_core.proofs.Sound as sound
use Rattle.tm_core.proofs.log_laws.states_are_sound.Goals as goal

pub returns : goal.returns
returns g c = sound.states_are_sound g.S.Entrusted.kind
