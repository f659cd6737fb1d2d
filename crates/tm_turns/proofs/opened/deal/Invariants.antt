use Rattle.std.proofs.Common.{◌≡◌, ◌++◌, length, map}
use Rattle.tm_turns.specs.Opening.{dealt}
use Rattle.tm_turns.proofs.opened.deal.Given as goal

-- the sides so far are dealt, and the others are to come
abbrev pub invariant-loop-side : goal.invariant-loop-side
invariant-loop-side g l = record {
  dealt_is : map (λ v. v.items) l.seats.items ≡ dealt l.yielded (map (λ v. v.items) l.initial.seats.items);
  place_is : l.place ≡ length l.yielded;
  rest : l.yielded ++ l.side-iterator.rest.items ≡ l.fn.sides.items;
}
