use Rattle.std.proofs.Common.{◌≤◌}
use Rattle.std.specs.List.{range_with_len}
use Rattle.tm_turns.specs.Going.{AllGo}
use Rattle.tm_turns.proofs.turns.Turns.go_round.Given as goal

-- the numbers before this one had their turns
abbrev pub invariant-loop-number : goal.invariant-loop-number
invariant-loop-number g l = record {
  goes : AllGo g.S.Entrusted.kind (range_with_len 0 l.number) l.moved l.initial.self l.self;
  most : l.moved ≤ l.number;
}
