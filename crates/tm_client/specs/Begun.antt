-- How a client begins.
use Rattle.std.specs.Prelude.{◌≡◌, ℕ, ◌+◌, ◌*◌, ◌<◌, ◌≤◌, false, List, [], ◌∷◌, length, map}
use Rattle.std.specs.List.{AllByRecursion}
use Rattle.std.specs.declared.option.Option.TheVariants.{Some}
use Rattle.circular_buffer.specs.Buffer.{buffer}
use Rattle.tm_batch.specs.declared.limits.TheConstants.{WINDOW}
use Rattle.tm_batch.specs.declared.config.Config.{Config}
use Rattle.tm_batch.specs.declared.config.First.{First}
use Rattle.tm_batch.specs.declared.message.Name.{Name}
use Rattle.tm_model.specs.State.{State, holds_at}
use Rattle.tm_model.specs.Opening.{IsBuildable, opening_of}
use Rattle.tm_pair.specs.Views.{ClientView}
use Rattle.tm_client.specs.declared.lane.Lane.{Lane}
use Rattle.tm_client.specs.declared.holds.Holds.{Holds}
use Rattle.tm_client.specs.declared.trust.Trust.{Trust}
use Rattle.tm_client.specs.declared.books.Books.{Books}
use Rattle.tm_client.specs.Listing.{hold_of, is_at, listed, held_count, room_for, held_at}
use Rattle.tm_client.specs.Asking.{IsHeldBy}
use Rattle.tm_client.specs.Clients.{IsClient}

-- how often some names, by the numbers of their trustees, have an id of trustee t
abbrev pub named_at : ℕ → ℕ → List (ℕ × Name) → ℕ
named_at t id [] = 0
named_at t id (h ∷ held) = is_at t id h.0 h.1.id + named_at t id held

-- a trust stands in a list at the place that it tells
abbrev pub StandsIn : Holds → Trust → Type 0
StandsIn list trust = held_at list trust.at ≡ Some (hold_of trust.trustee trust.name)

-- the trust of one of them, of client c
pub record IsTrustOf (c : ℕ) (held : ℕ × Name) (trust : Trust) : Type 0 where
  pub trustee : trust.trustee ≡ held.0
  pub name : trust.name ≡ held.1
  pub client : trust.client ≡ c

module _ (V O R T : Type 0) where
  -- the parts of client `number` at first, by a config and the whole list of the build: so many sides, one for each trustee, and names
  -- of what it holds, by the numbers of their trustees, which is at each trustee what the opening state gives it
  pub record MayBegin (number : ℕ) (config : Config) (whole : List (First V)) (sides : ℕ) (held : List (ℕ × Name)) : Type 0 where
    pub buildable : IsBuildable config whole
    pub number_of : number < config.clients
    pub sides_of : sides ≡ config.trustees
    pub trustees : AllByRecursion (λ h. h.0 < config.trustees) held
    pub given : (t id : ℕ) → t < config.trustees
        → named_at t id held ≡ holds_at (opening_of {V = V} {O = O} {R = R} {T = T} t config whole) number id
    pub most : length held ≤ config.trusts

  -- they may be the parts of one
  abbrev pub IsBeginnable : ℕ → Config → ℕ → List (ℕ × Name) → Type 0
  IsBeginnable number config sides held = (whole : List (First V)) × MayBegin number config whole sides held

module _ {V O R T : Type 0} where
  -- these are the states in which the trustees open
  abbrev pub AreOpenings : Config → List (First V) → (ℕ → State V O R T) → Type 0
  AreOpenings config whole openings = (t : ℕ) → t < config.trustees → openings t ≡ opening_of t config whole

module _ {V C D O R T : Type 0} where
  -- what is kept for a trustee at first: nothing was accepted, nothing waits or is out, and neither `fetch` nor `close` was called
  abbrev pub new_lane : D → Lane V C D O R T
  new_lane side = record {
    side = side;
    waits = buffer [] WINDOW;
    afters = buffer [] WINDOW;
    launched = buffer [] WINDOW;
    out = false;
    room = 0;
    counting = 0;
    fetching = false;
    closing = false;
    said = false;
  }

  -- client `number` at first, with these sides, which holds what these names say: nothing has come, and all room is reserved
  pub record HasBegun (number : ℕ) (config : Config) (sides : List D) (held : List (ℕ × Name)) (books : Books V C D O R T) : Type 0 where
    pub number_of : books.number ≡ number
    pub clients : books.clients ≡ config.clients
    pub most : books.most ≡ config.trusts
    pub lanes : books.lanes.items ≡ map new_lane sides
    pub holds : (t id : ℕ) → listed t id books.held ≡ named_at t id held
    pub holds_count : held_count books.held ≡ length held
    pub holds_room : config.trusts ≤ room_for books.held
    pub arrived : books.arrived ≡ buffer [] (WINDOW * length sides)
    pub gifts : books.gifts ≡ buffer [] config.trusts
    pub coming : books.coming ≡ 0

  -- the trust of one of the names of what a client holds at first, which it holds, at the place that the trust tells
  pub record IsFirstTrust (books : Books V C D O R T) (held : ℕ × Name) (trust : Trust) : Type 0 where
    pub names : IsTrustOf books.number held trust
    pub stands : StandsIn books.held trust
    pub listed : IsHeldBy books trust

  -- whatever the list of the build, it is a client at the states in which the trustees open
  abbrev pub IsFirstClient : (D → ClientView V O R T) → ℕ → Config → ℕ → List (ℕ × Name) → Books V C D O R T → Type 0
  IsFirstClient view number config sides held books =
      (whole : List (First V)) (openings : ℕ → State V O R T) → MayBegin V O R T number config whole sides held
      → AreOpenings config whole openings → IsClient view openings books
