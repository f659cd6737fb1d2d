use Rattle.std.proofs.Common.{◌≡◌, ℕ, ◌<◌, ◌++◌, length, take, drop, slice_index_or}
use Rattle.tm_model.specs.Opening.{placed_on}
use Rattle.tm_build.specs.Holding.{held_from, held_of, ids_in}
use Rattle.tm_build.proofs.held.held_by.Given as goal

-- the objects so far are counted by their trustees, and those of them that name the place are held
abbrev pub invariant-loop-f : goal.invariant-loop-f
invariant-loop-f g l = record {
  many : length l.counts.items ≡ l.fn.config.trustees;
  counted : (t : ℕ) → t < l.fn.config.trustees → slice_index_or l.counts.items t 0 ≡ length (placed_on t (take l.f-index l.f-items));
  so_far : ids_in l.held.items ++ held_from l.place (take l.f-index l.f-items) (drop l.f-index l.f-items) ≡ held_of l.place l.f-items;
}
