-- The places and the clients' sides of a table in one thread at first.
use Rattle.std.specs.Prelude.{◌≡◌, ℕ, ◌<◌, List, [], ◌∷◌, length, slice_index_or}
use Rattle.tm_pair.specs.Places.{IsNewPlace}
use Rattle.tm_pair.specs.declared.moves.Move.TheVariants.{Open}
use Rattle.tm_pair.specs.declared.place.Place.{Place}
use Rattle.tm_pair.specs.declared.plain.PlainClient.{PlainClient}

module _ {V O R T : Type 0} where
  -- places at first
  unfoldable pub AreNewPlaces : List (Place V O R T) → Type 0
  AreNewPlaces places = (c : ℕ) (place : Place V O R T) → c < length places → place ≡ slice_index_or places c place → IsNewPlace place

  -- the client's side of place c of so many at first
  pub record IsNewClient (places c : ℕ) (side : PlainClient V O R T) : Type 0 where
    pub place : side.place ≡ c
    pub past : side.past.items ≡ Open places ∷ []

  -- clients' sides at first, one for each place in order
  unfoldable pub AreNewClients : ℕ → List (PlainClient V O R T) → Type 0
  AreNewClients places sides = (c : ℕ) (side : PlainClient V O R T) → c < length sides → side ≡ slice_index_or sides c side → IsNewClient places c side
