use Rattle.std.proofs.Common.{◌≡◌, ◌+◌, ◌≤◌, ◌++◌, length, drop, min}
use Rattle.tm_client.specs.Launches.{arrivals_of, launches_of}
use Rattle.tm_client.proofs.turning.arrive.Given as goal

abbrev pub invariant-loop-batch : goal.invariant-loop-batch
invariant-loop-batch g l = record {
  arrives : l.arrived.items ++ arrivals_of l.trustee l.afters.items l.batch.answers.items
      ≡ l.initial.arrived.items ++ arrivals_of l.trustee l.initial.afters.items l.initial.batch.answers.items;
  launches : l.launched.items ++ launches_of l.afters.items l.batch.answers.items
      ≡ l.initial.launched.items ++ launches_of l.initial.afters.items l.initial.batch.answers.items;
  drops : drop (length l.batch.answers.items) l.afters.items ≡ drop (length l.initial.batch.answers.items) l.initial.afters.items;
  room : length l.arrived.items + min (length l.batch.answers.items) (length l.afters.items) ≤ l.arrived.capacity;
  launched_room : length l.launched.items + min (length l.batch.answers.items) (length l.afters.items) ≤ l.launched.capacity;
  count : length l.arrived.items + length l.launched.items + min (length l.batch.answers.items) (length l.afters.items)
      ≡ length l.initial.arrived.items + length l.initial.launched.items + min (length l.initial.batch.answers.items) (length l.initial.afters.items);
  capacity : l.arrived.capacity ≡ l.initial.arrived.capacity;
  launched_capacity : l.launched.capacity ≡ l.initial.launched.capacity;
  afters_room : l.afters.capacity ≡ l.initial.afters.capacity;
  gifts : l.batch.gifts ≡ l.initial.batch.gifts;
  completions : l.batch.completions ≡ l.initial.batch.completions;
}

abbrev pub decreases-loop-batch : goal.decreases-loop-batch
decreases-loop-batch g l = length l.batch.answers.items
