use Rattle.std.proofs.Common.{◌≡◌, ◌≤◌, take, drop, vec_len}
use Rattle.std.specs.Vec.{vec_capacity}
use Rattle.tm_reference.proofs.place.move_front.Given as goal

abbrev pub invariant-loop : goal.invariant-loop
invariant-loop g l =
    record {
      front : l.taken.items ≡ take l.counter l.fn.items.items;
      left : l.items.items ≡ drop l.counter l.fn.items.items;
      count : vec_len l.taken ≡ l.counter;
      room : l.most ≤ vec_capacity l.taken;
    }
