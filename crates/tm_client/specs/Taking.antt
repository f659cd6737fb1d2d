-- What a client hands out of what came.
use Rattle.std.specs.Prelude.{◌≡◌, ℕ, ◌+◌, ◌∷◌, slice_get, slice_set}
use Rattle.std.specs.declared.option.Option.TheVariants.{Some}
use Rattle.tm_batch.specs.declared.message.Name.{Name}
use Rattle.tm_batch.specs.declared.message.Answer.{Answer}
use Rattle.tm_batch.specs.declared.message.Answer.TheVariants.{Entrusted, NotEntrusted, Replied, TicketsSpent, Granted, Gone, GiftsFull, Released, Reclaimed, Shared}
use Rattle.tm_client.specs.declared.lane.Lane.{Lane}
use Rattle.tm_client.specs.declared.holds.Holds.{Holds}
use Rattle.tm_client.specs.declared.trust.Trust.{Trust}
use Rattle.tm_client.specs.declared.answers.Came.{Came}
use Rattle.tm_client.specs.declared.answers.Came.TheVariants.{Answered, Finished}
use Rattle.tm_client.specs.declared.answers.Got.{Got}
use Rattle.tm_client.specs.declared.answers.Got.TheVariants.{Entrusted as TrustOf, NotEntrusted as Back, Replied as ReplyOf, Finished as EndOf, TicketsSpent as TaskOf, Granted as IsGranted, Gone as IsGone, GiftsFull as AreFull, Released as IsReleased, Reclaimed as ValueOf, Shared as StillOf}
use Rattle.tm_client.specs.declared.books.Books.{Books}
use Rattle.tm_client.specs.Listing.{hold_of, Gains}
use Rattle.tm_client.specs.Clients.{brings_by}

-- a trust of this name of trustee t stands in the list of client c at the place that it tells, and did not before
pub record IsListed (t c : ℕ) (asked : Name) (trust : Trust) (old new : Holds) : Type 0 where
  pub trustee : trust.trustee ≡ t
  pub name : trust.name ≡ asked
  pub client : trust.client ≡ c
  pub gains : Gains (hold_of t asked) trust.at old new

module _ {V O R T : Type 0} where
  -- what is handed out for the answer of trustee t to a request of this name of client c, and what the client's list becomes: it has the
  -- trust that is handed out, and is as it was where none is
  abbrev pub IsGot : ℕ → ℕ → Name → Answer V O R T → Got V O R T → Holds → Holds → Type 0
  IsGot t c asked (Entrusted n) got old new = (trust : Trust) × (got ≡ TrustOf trust) × IsListed t c n trust old new
  IsGot t c asked (NotEntrusted refusal v) got old new = (got ≡ Back refusal v) × (new ≡ old)
  IsGot t c asked (Replied r) got old new = (got ≡ ReplyOf r) × (new ≡ old)
  IsGot t c asked (TicketsSpent task) got old new = (got ≡ TaskOf task) × (new ≡ old)
  IsGot t c asked Granted got old new = (got ≡ IsGranted) × (new ≡ old)
  IsGot t c asked Gone got old new = (got ≡ IsGone) × (new ≡ old)
  IsGot t c asked GiftsFull got old new = (got ≡ AreFull) × (new ≡ old)
  IsGot t c asked Released got old new = (got ≡ IsReleased) × (new ≡ old)
  IsGot t c asked (Reclaimed v) got old new = (got ≡ ValueOf v) × (new ≡ old)
  IsGot t c asked Shared got old new = (trust : Trust) × (got ≡ StillOf trust) × IsListed t c asked trust old new
  IsGot t c asked _ got old new = ⊥

  -- so for what came: for a completion its reply is handed out
  abbrev pub IsHanded : ℕ → ℕ → Name → Came V O R T → Got V O R T → Holds → Holds → Type 0
  IsHanded t c asked (Answered a) got old new = IsGot t c asked a got old new
  IsHanded t c asked (Finished reply) got old new = (got ≡ EndOf reply) × (new ≡ old)

module _ {V O R T C D : Type 0} where
  -- a lane has one request less that counts
  pub record CountsLess (old new : Lane V C D O R T) : Type 0 where
    pub side : new.side ≡ old.side
    pub waits : new.waits ≡ old.waits
    pub afters : new.afters ≡ old.afters
    pub launched : new.launched ≡ old.launched
    pub counting : old.counting ≡ new.counting + 1
    pub out : new.out ≡ old.out
    pub room : new.room ≡ old.room
    pub fetching : new.fetching ≡ old.fetching
    pub closing : new.closing ≡ old.closing
    pub said : new.said ≡ old.said

  -- the first of what arrived was taken and handed out, its continuation with what its answer or its completion gives. It counts no more
  pub record HasTaken (after : C) (got : Got V O R T) (old new : Books V C D O R T) : Type 0 where
    pub came : Came V O R T
    pub t : ℕ
    pub name : Name
    pub lane : Lane V C D O R T
    pub becomes : Lane V C D O R T
    pub first : old.arrived.items ≡ (record { trustee = t; name = name; after = after; came = came }) ∷ new.arrived.items
    pub capacity : new.arrived.capacity ≡ old.arrived.capacity
    pub is_got : IsHanded t old.number name came got old.held new.held
    pub coming : old.coming ≡ new.coming + brings_by came
    pub of_lane : slice_get old.lanes.items t ≡ Some lane
    pub counts : CountsLess lane becomes
    pub lanes : new.lanes.items ≡ slice_set old.lanes.items t becomes
    pub gifts : new.gifts ≡ old.gifts
    pub number : new.number ≡ old.number
    pub clients : new.clients ≡ old.clients
    pub most : new.most ≡ old.most

  -- the first gift was taken, and stands in the list
  pub record HasTakenGift (gift : Trust) (old new : Books V C D O R T) : Type 0 where
    pub first : (at : ℕ) × (old.gifts.items ≡ (record { trustee = gift.trustee; name = gift.name; client = gift.client; at = at }) ∷ new.gifts.items)
    pub capacity : new.gifts.capacity ≡ old.gifts.capacity
    pub held : Gains (hold_of gift.trustee gift.name) gift.at old.held new.held
    pub coming : old.coming ≡ new.coming + 1
    pub lanes : new.lanes ≡ old.lanes
    pub arrived : new.arrived ≡ old.arrived
    pub number : new.number ≡ old.number
    pub clients : new.clients ≡ old.clients
    pub most : new.most ≡ old.most
