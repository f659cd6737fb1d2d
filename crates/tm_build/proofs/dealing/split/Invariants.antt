use Rattle.std.proofs.Common.{◌≡◌, ◌++◌, map}
use Rattle.tm_build.specs.Dealing.{AreSplit}
use Rattle.tm_build.proofs.dealing.split.Given as goal

-- the objects so far are dealt, and the others are to come
abbrev pub invariant-loop-f : goal.invariant-loop-f
invariant-loop-f g l = record {
  dealt : AreSplit l.trustees l.yielded (map (λ v. v.items) l.lists.items);
  rest : l.yielded ++ l.f-iterator.rest.items ≡ l.fn.first.items;
}
