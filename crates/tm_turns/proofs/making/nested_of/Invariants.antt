use Rattle.std.proofs.Common.{◌≡◌, ℕ, ◌+◌, List, length, map}
use Rattle.std.specs.Prelude.{slice_get}
use Rattle.std.specs.declared.option.Option.TheVariants.{Some}
use Rattle.tm_batch.specs.declared.message.Name.{Name}
use Rattle.tm_build.specs.Holding.{held_of, ids_in}
use Rattle.tm_turns.proofs.making.nested_of.Given as goal

-- the lists of the trustees so far
abbrev pub invariant-loop-number : goal.invariant-loop-number
invariant-loop-number g l = record {
  as_many : length l.nested.items ≡ l.number;
  each : (t : ℕ) (names : List (ℕ × Name)) → slice_get (map (λ v. v.items) l.nested.items) t ≡ Some names
      → ids_in names ≡ held_of (l.config.clients + t) l.first.items;
}
