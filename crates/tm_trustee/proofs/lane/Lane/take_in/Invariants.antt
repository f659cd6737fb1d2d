use Rattle.std.proofs.Common.{◌≡◌, ◌+◌, ◌≤◌, ◌++◌, length}
use Rattle.tm_trustee.specs.NestedAsks.{replied_in}
use Rattle.tm_trustee.proofs.lane.Lane.take_in.Given as goal

-- the replies that were noted, and those that are left, are all
abbrev pub invariant-loop-answers : goal.invariant-loop-answers
invariant-loop-answers g l = record {
  came : l.self.came.items ++ replied_in l.answers.items ≡ l.initial.self.came.items ++ replied_in l.initial.answers.items;
  capacity : l.self.came.capacity ≡ l.initial.self.came.capacity;
  few : length l.self.came.items + length l.answers.items ≤ l.self.came.capacity;
  only : l.self ≡ record l.initial.self { came = l.self.came };
}

abbrev pub decreases-loop-answers : goal.decreases-loop-answers
decreases-loop-answers g l = length l.answers.items
