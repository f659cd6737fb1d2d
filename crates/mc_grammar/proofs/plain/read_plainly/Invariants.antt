use Rattle.std.proofs.Common.{◌≤◌, ◌-◌, length, take}
use Rattle.mc_model.specs.Stream.{Spelled}
use Rattle.mc_grammar.proofs.plain.read_plainly.Given as goal

abbrev pub invariant-loop-messages : goal.invariant-loop-messages
invariant-loop-messages l = record {
  within : l.at ≤ length l.text;
  spelled : Spelled (take l.at l.text) l.messages.items;
}

abbrev pub decreases-loop-messages : goal.decreases-loop-messages
decreases-loop-messages l = length l.text - l.at
