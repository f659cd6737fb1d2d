-- What the places of a table in one thread show of its slots.
use Rattle.std.specs.Prelude.{◌≡◌, ℕ, ◌<◌, List, length, slice_index_or}
use Rattle.tm_model.specs.Slots.{Empty, Asked, Taken, Answered, slot_of}
use Rattle.tm_model.specs.Good.{FullBox, FullSlot, FullCore}
use Rattle.tm_pair.specs.declared.place.Content.{Content}
use Rattle.tm_pair.specs.declared.place.Content.TheVariants.{Empty as Free, Asked as Out, Taken as InHand, Answered as Back}
use Rattle.tm_pair.specs.declared.place.Place.{Place}

module _ {V O R T : Type 0} where
  -- what stands in a place is what stands in a box
  abbrev pub ShowsBox : Content V O R T → FullBox V O R T → Type 0
  ShowsBox Free Empty = Unit {0}
  ShowsBox (Out batch) (Asked b room) = (batch.requests.items ≡ b) × (batch.room ≡ room)
  ShowsBox InHand (Taken b room) = Unit {0}
  ShowsBox (Back answers) (Answered a upto room) = answers ≡ a
  ShowsBox _ _ = ⊥

  -- a place has the words and the box of a slot
  pub record ShowsSlot (place : Place V O R T) (slot : FullSlot V O R T) : Type 0 where
    pub request_word : place.request_word ≡ slot.request_word
    pub response_word : place.response_word ≡ slot.response_word
    pub box : ShowsBox place.content slot.box

  -- places have the words and the boxes of a core
  pub record ShowsCore (places : List (Place V O R T)) (core : FullCore V O R T) : Type 0 where
    pub count : length core.slots ≡ length places
    pub slots : (c : ℕ) (place : Place V O R T) → c < length places → place ≡ slice_index_or places c place → ShowsSlot place (slot_of core c)
