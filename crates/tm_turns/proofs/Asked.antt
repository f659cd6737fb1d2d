-- What a write makes of a sum and of what is read; and which boxes a look leaves that found nothing.
use Rattle.std.proofs.Common.{◌≡◌, ℕ, zero, suc, ◌+◌, ◌≤◌, false, List, [], ◌∷◌, slice_index_or, refl, arith}
use Rattle.std.specs.Prelude.{slice_set}
use Rattle.tm_model.specs.Slots.{Empty, Asked, Taken, Answered, no_slot, slot_of, is_asked, taken, see, is_answered, collected, looked, collect}
use Rattle.tm_model.specs.Good.{FullBox, FullSlot, FullCore}
use Rattle.tm_client.specs.Clients.{total}

module _ {X : Type 0} (f : X → ℕ) (d : X) (least : f d ≡ 0) where
  -- the sum after a write, which may be out of range
  pub total_write : (xs : List X) (c : ℕ) (y : X) → total f (slice_set xs c y) + f (slice_index_or xs c d) ≤ total f xs + f y
  total_write [] c y = omega (arith, least)
  total_write (x ∷ xs) zero y = omega arith
  total_write (x ∷ xs) (suc c) y = let rest = total_write xs c y in omega (arith, rest)

module _ {X : Type 0} where
  -- what is read at an index after a write keeps what the write kept
  pub read_write : {Y : Type 0} (f : X → Y) (d : X) (xs : List X) (c k : ℕ) (y : X) → f y ≡ f (slice_index_or xs c d)
      → f (slice_index_or (slice_set xs c y) k d) ≡ f (slice_index_or xs k d)
  read_write f d [] c k y e = refl
  read_write f d (x ∷ xs) zero zero y e = e
  read_write f d (x ∷ xs) zero (suc k) y e = refl
  read_write f d (x ∷ xs) (suc c) zero y e = refl
  read_write f d (x ∷ xs) (suc c) (suc k) y e = read_write f d xs c k y e

module _ {V O R T : Type 0} where
  -- a look of the trustee that found nothing leaves all boxes
  taken_none : (box : FullBox V O R T) → is_asked box ≡ false → taken box ≡ box
  taken_none Empty e = refl
  taken_none (Asked b room) e = absurd cc
  taken_none (Taken b room) e = refl
  taken_none (Answered a upto room) e = refl

  pub see_none :
      (core : FullCore V O R T) (c k : ℕ) → is_asked (slot_of core c).box ≡ false → (slot_of (see c core) k).box ≡ (slot_of core k).box
  see_none core c k e =
      let was = slot_of core c in
      read_write (λ (slot : FullSlot V O R T). slot.box) no_slot core.slots c k
      (record was { box = taken was.box; trustee = looked (is_asked was.box) was.trustee }) (taken_none was.box e)

  -- so does one of a client
  collected_none : (box : FullBox V O R T) (slot : FullSlot V O R T) → is_answered box ≡ false → (collected box slot).box ≡ slot.box
  collected_none Empty slot e = refl
  collected_none (Asked b room) slot e = refl
  collected_none (Taken b room) slot e = refl
  collected_none (Answered a upto room) slot e = absurd cc

  pub collect_none :
      (core : FullCore V O R T) (c k : ℕ) → is_answered (slot_of core c).box ≡ false → (slot_of (collect c core) k).box ≡ (slot_of core k).box
  collect_none core c k e =
      let was = slot_of core c in
      let seen : FullSlot V O R T = record was { client = looked (is_answered was.box) was.client } in
      read_write (λ (slot : FullSlot V O R T). slot.box) no_slot core.slots c k (collected was.box seen) (collected_none was.box seen e)
