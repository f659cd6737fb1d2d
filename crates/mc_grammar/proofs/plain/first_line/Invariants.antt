use Rattle.std.proofs.Common.{take}
use Rattle.mc_model.specs.Line.{HasNoEnd}
use Rattle.mc_grammar.proofs.plain.first_line.Given as goal

abbrev pub invariant-loop-i : goal.invariant-loop-i
invariant-loop-i l = HasNoEnd (take l.i l.text)
