use Rattle.std.proofs.Common.{◌≡◌, ◌++◌, length, take, drop}
use Rattle.tm_client.proofs.finishing.rotate.Given as goal

-- so many items stand behind the others
abbrev pub invariant-loop : goal.invariant-loop
invariant-loop g l = record {
  items : l.ring.items ≡ drop l.counter l.initial.ring.items ++ take l.counter l.initial.ring.items;
  long : length l.ring.items ≡ length l.initial.ring.items;
  capacity : l.ring.capacity ≡ l.initial.ring.capacity;
}
