use Rattle.std.proofs.Common.{ap, Err}
use Rattle.mc_top.proofs.Endings.{unrun}
use Rattle.mc_top.proofs.top.top_in_turns.Goals as goal

pub returns-in-Err-clause-does : goal.returns-in-Err-clause-does
returns-in-Err-clause-does g c = unrun c.args.words.now c.in-Err.status _ c.in-Err.ensures.why (λ bad. c.in-Err.ensures.refused (ap (λ why. Err why) bad))
