use Rattle.std.proofs.Common.{take}
use Rattle.mc_grammar.proofs.Steps.{line_goes_on}
use Rattle.mc_grammar.proofs.Taking.{takes_then}
use Rattle.mc_grammar.proofs.lines.line.Goals as goal

pub returns-in_ok-progress-in-Some-clause-ok : goal.returns-in_ok-progress-in-Some-clause-ok
returns-in_ok-progress-in-Some-clause-ok c =
    let n = c.in-Some.n in
    let from = c.args.from.now in
    takes_then _ _ _ from n c.in_ok-progress-in-Some.taken c.in-Some.ensures.within.1 (line_goes_on c.args.front (take n from))
    (rw (c.split_at.ensures.front, c.split_at.ensures.back) at c.in_ok-progress-in-Some.ensures.ok)
