use Rattle.tm_turns.proofs.Launched.{all_tied}
use Rattle.tm_turns.proofs.laws.asks_are_tied.Goals as goal

pub returns : goal.returns
returns g c = all_tied _ g.S.Entrusted.kind
