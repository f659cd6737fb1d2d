use Rattle.std.proofs.Common.{◌≡◌, [], take, drop, slice_index_or, slice_set}
use Rattle.tm_state.proofs.state.take_ready.Given as goal

-- so many completions were taken
abbrev pub invariant-loop : goal.invariant-loop
invariant-loop g l = record {
  answers : l.answers.answers.items ≡ l.fn.answers.answers.items;
  gifts : l.answers.gifts.items ≡ l.fn.answers.gifts.items;
  completions : l.answers.completions.items ≡ take l.counter (slice_index_or l.fn.ready l.fn.place []);
  taken : l.ready ≡ slice_set l.fn.ready l.fn.place (drop l.counter (slice_index_or l.fn.ready l.fn.place []));
}
