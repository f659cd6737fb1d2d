use Rattle.std.proofs.Common.{◌≡◌, take}
use Rattle.tm_objects.specs.Stock.{gifts_of, gifts_taken}
use Rattle.tm_state.proofs.state.take_gifts.Given as goal

-- so many gifts were taken
abbrev pub invariant-loop : goal.invariant-loop
invariant-loop g l = record {
  answers : l.answers.answers.items ≡ l.fn.answers.answers.items;
  completions : l.answers.completions.items ≡ l.fn.answers.completions.items;
  gifts : l.answers.gifts.items ≡ take l.counter (gifts_of l.fn.objects.gifts l.fn.place);
  taken : l.objects ≡ gifts_taken l.fn.place l.counter l.fn.objects;
}
