use Rattle.std.proofs.Common.{◌≡◌, take}
use Rattle.mc_route.proofs.frame.copy_of.Given as goal

abbrev pub invariant-loop-at : goal.invariant-loop-at
invariant-loop-at l = l.copy ≡ take l.at l.keys
