use Rattle.tm_turns.proofs.OneCore.{one_core_each}
use Rattle.tm_turns.proofs.turns.one_good_core.Goals as goal

pub returns : goal.returns
returns g c = one_core_each g.S.Entrusted.kind c.args.turns.now c.requires
