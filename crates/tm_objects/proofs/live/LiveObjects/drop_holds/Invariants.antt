use Rattle.std.proofs.Common.{◌≡◌, ℕ, ◌≤◌, map}
use Rattle.std.specs.Prelude.{count_by}
use Rattle.std.specs.Vec.{vec_capacity}
use Rattle.slab.specs.Slab.{get, slab_len}
use Rattle.tm_objects.specs.Listing.{IsSound}
use Rattle.tm_objects.specs.Counted.{flags_of, is_in, AreCounted}
use Rattle.tm_objects.proofs.Swept.{beside_past}
use Rattle.tm_objects.proofs.live.LiveObjects.drop_holds.Given as goal

-- the place has gone from the slots that are no longer in its set, and the slots are sound
abbrev pub invariant-loop-key : goal.invariant-loop-key
invariant-loop-key g l = record {
  sound : IsSound l.self-inside.slots (map (λ row. row.items) l.self-inside.spare.items) (vec_capacity l.self-inside.spare) l.initial.self-inside.given l.initial.self-inside.most l.initial.self-inside.places;
  counted : AreCounted l.self-inside.slots l.self-inside.held.items l.initial.self-inside.places;
  done : (j : ℕ) → get l.self-inside.slots j ≡ beside_past l.place (is_in l.self-inside.held.items l.place j) (get l.initial.self-inside.slots j);
  fewer : slab_len l.self-inside.slots ≤ slab_len l.initial.self-inside.slots;
  given : l.self-inside.given ≡ l.initial.self-inside.given;
  most : l.self-inside.most ≡ l.initial.self-inside.most;
  places : l.self-inside.places ≡ l.initial.self-inside.places;
}

abbrev pub decreases-loop-key : goal.decreases-loop-key
decreases-loop-key g l = count_by (λ b. b) (flags_of l.self-inside.held.items l.place)
