use Rattle.std.proofs.Common.{◌≡◌, ◌+◌, ◌≤◌, ◌++◌, length}
use Rattle.std.specs.Prelude.{nat_eq}
use Rattle.std.specs.List.{IsDistinct}
use Rattle.tm_client.specs.Launches.{ended_tickets, tickets_of, launches_left, finished_of}
use Rattle.tm_client.proofs.finishing.finish.Given as goal

abbrev pub invariant-loop-batch : goal.invariant-loop-batch
invariant-loop-batch g l = record {
  arrives : l.arrived.items ++ finished_of l.trustee l.launched.items l.batch.completions.items
      ≡ l.initial.arrived.items ++ finished_of l.trustee l.initial.launched.items l.initial.batch.completions.items;
  leaves : launches_left (ended_tickets l.batch.completions.items) l.launched.items
      ≡ launches_left (ended_tickets l.initial.batch.completions.items) l.initial.launched.items;
  once : IsDistinct nat_eq (tickets_of l.launched.items);
  ended : IsDistinct nat_eq (ended_tickets l.batch.completions.items);
  room : length l.arrived.items + length l.launched.items ≤ l.arrived.capacity;
  capacity : l.arrived.capacity ≡ l.initial.arrived.capacity;
  launched_room : l.launched.capacity ≡ l.initial.launched.capacity;
  gifts : l.batch.gifts ≡ l.initial.batch.gifts;
}

abbrev pub decreases-loop-batch : goal.decreases-loop-batch
decreases-loop-batch g l = length l.batch.completions.items
