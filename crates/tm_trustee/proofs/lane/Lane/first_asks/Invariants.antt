use Rattle.std.proofs.Common.{◌≡◌, take, drop}
use Rattle.tm_trustee.proofs.lane.Lane.first_asks.Given as goal

-- the first that waited are in the batch
abbrev pub invariant-loop : goal.invariant-loop
invariant-loop g l = record {
  batch : l.batch.requests.items ≡ take l.counter l.initial.self.waits.items;
  waits : l.self.waits.items ≡ drop l.counter l.initial.self.waits.items;
  capacity : l.self.waits.capacity ≡ l.initial.self.waits.capacity;
  room : l.batch.room ≡ 0;
  only : l.self ≡ record l.initial.self { waits = l.self.waits };
}
