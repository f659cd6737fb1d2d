use Rattle.std.proofs.Common.{◌≡◌, ℕ, ◌<◌}
use Rattle.std.specs.Prelude.{slice_get}
use Rattle.std.specs.declared.option.Option.TheVariants.{Some}
use Rattle.tm_client.specs.declared.lane.Lane.{Lane}
use Rattle.tm_asking.proofs.counting.none_counts.Given as goal

-- none counts at the trustees before this one
abbrev pub invariant-loop-trustee : goal.invariant-loop-trustee
invariant-loop-trustee g l = (t : ℕ) (lane : Lane _ ℕ _ _ _ _) → t < l.trustee → slice_get l.client.books.lanes.items t ≡ Some lane → lane.counting ≡ 0
