-- What a reference trustee keeps of its own.
use Rattle.std.specs.Prelude.{◌≡◌, ℕ, List, length}
use Rattle.tm_model.specs.State.{Object, Place}
use Rattle.tm_reference.specs.Live.{Rises}

-- ids rise, below the next one, launches are of places of the table, and there are as many places as the table has
pub record IsKept {V O R T : Type 0} (count next : ℕ) (places : List (Place V O R T)) (live : List (Object V T)) : Type 0 where
  pub rises : Rises count 1 next live
  pub as_many : length places ≡ count
