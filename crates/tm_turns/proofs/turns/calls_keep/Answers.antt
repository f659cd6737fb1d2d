use Rattle.tm_turns.proofs.Clients.{calls_keep}
use Rattle.tm_turns.proofs.turns.calls_keep.Goals as goal

pub returns : goal.returns
returns g c = calls_keep g.S.Entrusted.kind
