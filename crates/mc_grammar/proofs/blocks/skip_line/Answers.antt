use Rattle.std.proofs.Common.{take}
use Rattle.mc_grammar.proofs.Steps.{pass_line, pass_ends}
use Rattle.mc_grammar.proofs.Taking.{takes_all}
use Rattle.mc_grammar.proofs.blocks.skip_line.Goals as goal

pub returns-in-None : goal.returns-in-None
returns-in-None c = takes_all _ _ c.args.from.now (pass_line c.args.fault c.args.from.now c.in-None.ensures.within) c.requires

pub returns-in-Some : goal.returns-in-Some
returns-in-Some c = record {
  within = c.in-Some.ensures.within.1;
  goes = pass_ends c.args.fault (take c.in-Some.n c.args.from.now) c.in-Some.ensures.within.2;
  sound = tt;
  through = λ _. tt;
}
