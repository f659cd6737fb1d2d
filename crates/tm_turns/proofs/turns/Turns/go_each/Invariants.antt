use Rattle.std.proofs.Common.{◌≤◌, take}
use Rattle.tm_turns.specs.Going.{AllGo}
use Rattle.tm_turns.proofs.turns.Turns.go_each.Given as goal

-- the numbers before this one had their turns
abbrev pub invariant-loop-number : goal.invariant-loop-number
invariant-loop-number g l = record {
  goes : AllGo g.S.Entrusted.kind (take l.number-index l.order) l.moved l.initial.self l.self;
  most : l.moved ≤ l.number-index;
}
