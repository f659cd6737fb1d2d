use Rattle.tm_turns.proofs.Launched.{all_latched}
use Rattle.tm_turns.proofs.laws.launches_are_latched.Goals as goal

pub returns : goal.returns
returns g c = all_latched _ g.S.Entrusted.kind
