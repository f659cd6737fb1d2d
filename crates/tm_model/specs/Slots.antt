-- The slots of a trustee and the log behind them, over any requests Q, answer batches G and log entries E.
use Rattle.std.specs.Prelude.{◌≡◌, ℕ, ◌+◌, ◌<◌, ◌≤◌, Bool, true, false, not, List, [], ◌∷◌, ◌++◌, length, slice_index_or, slice_set}
use Rattle.std.proofs.Math.ListN.{replicate}
use Rattle.tm_batch.specs.declared.limits.TheConstants.{MOST_REQUESTS, MOST_ROOM}

-- what stands in a slot: nothing, a batch that was asked or taken with its room, or answers, with the log up to them and the room of their batch
pub data Box (Q G E : Type 0) : Type 0 where
  Empty : Box Q G E
  Asked : List Q → ℕ → Box Q G E
  Taken : List Q → ℕ → Box Q G E
  Answered : G → List E → ℕ → Box Q G E

-- how often a side looked, and whether its last look found something
pub record Looks : Type 0 where
  pub count : ℕ
  pub found : Bool

-- a place: its two words, its box, what it sent and got, the log that it has seen, its floor, and the looks of its two sides
pub record Slot (Q G E : Type 0) : Type 0 where
  pub request_word : Bool
  pub response_word : Bool
  pub box : Box Q G E
  pub sent : List Q
  pub got : List G
  pub seen : List E
  pub floor : ℕ
  pub client : Looks
  pub trustee : Looks

-- the log of a trustee, and its places
pub record Core (Q G E : Type 0) : Type 0 where
  pub log : List E
  pub slots : List (Slot Q G E)

-- one look more, which found something or not
abbrev pub looked : Bool → Looks → Looks
looked found looks = record { count = looks.count + 1; found = found }

-- a look was made between two counts, and found nothing
abbrev pub FoundNothing : Looks → Looks → Type 0
FoundNothing old new = (new.count ≡ old.count + 1) × (new.found ≡ false)

module _ {Q G E : Type 0} where
  -- a place at first
  abbrev pub no_slot : Slot Q G E
  no_slot = record {
    request_word = false;
    response_word = false;
    box = Empty;
    sent = [];
    got = [];
    seen = [];
    floor = 0;
    client = record { count = 0; found = false };
    trustee = record { count = 0; found = false };
  }

  -- the core at first
  abbrev pub first_core : ℕ → Core Q G E
  first_core places = record { log = []; slots = replicate places no_slot }

  -- a place of a core
  abbrev pub slot_of : Core Q G E → ℕ → Slot Q G E
  slot_of core c = slice_index_or core.slots c no_slot

  abbrev pub with_slot : ℕ → Slot Q G E → Core Q G E → Core Q G E
  with_slot c slot core = record core { slots = slice_set core.slots c slot }

  -- place c may publish the batch b
  pub record MayPublish (core : Core Q G E) (c : ℕ) (b : List Q) (room : ℕ) : Type 0 where
    pub in_range : c < length core.slots
    pub is_empty : (slot_of core c).box ≡ Empty
    pub most : length b ≤ MOST_REQUESTS
    pub most_gifts : room ≤ MOST_ROOM

  abbrev pub published : List Q → ℕ → Slot Q G E → Slot Q G E
  published b room slot = record slot {
    request_word = not slot.request_word;
    box = Asked b room;
    sent = slot.sent ++ b;
    floor = length slot.seen;
  }

  -- place c publishes a batch
  abbrev pub publish : ℕ → List Q → ℕ → Core Q G E → Core Q G E
  publish c b room core = with_slot c (published b room (slot_of core c)) core

  -- whether a batch was asked
  abbrev pub is_asked : Box Q G E → Bool
  is_asked (Asked _ _) = true
  is_asked Empty = false
  is_asked (Taken _ _) = false
  is_asked (Answered _ _ _) = false

  abbrev pub taken : Box Q G E → Box Q G E
  taken (Asked b room) = Taken b room
  taken Empty = Empty
  taken (Taken b room) = Taken b room
  taken (Answered a upto room) = Answered a upto room

  -- the trustee looks at place c, and takes a batch that was asked
  abbrev pub see : ℕ → Core Q G E → Core Q G E
  see c core =
      with_slot c (let slot = slot_of core c in record slot { box = taken slot.box; trustee = looked (is_asked slot.box) slot.trustee }) core

  -- the trustee may answer the batch b of place c
  pub record MayAnswer (core : Core Q G E) (c : ℕ) (b : List Q) (room : ℕ) : Type 0 where
    pub in_range : c < length core.slots
    pub is_taken : (slot_of core c).box ≡ Taken b room

  abbrev pub answered : G → List E → ℕ → Slot Q G E → Slot Q G E
  answered a upto room slot = record slot { response_word = not slot.response_word; box = Answered a upto room }

  -- the trustee answers a batch of place c by the answer batch a, and its log grows by es
  abbrev pub answer : ℕ → G → List E → ℕ → Core Q G E → Core Q G E
  answer c a es room core = record {
    log = core.log ++ es;
    slots = slice_set core.slots c (answered a (core.log ++ es) room (slot_of core c));
  }

  -- whether answers stand there
  abbrev pub is_answered : Box Q G E → Bool
  is_answered (Answered _ _ _) = true
  is_answered Empty = false
  is_answered (Asked _ _) = false
  is_answered (Taken _ _) = false

  abbrev pub collected : Box Q G E → Slot Q G E → Slot Q G E
  collected (Answered a upto room) slot = record slot { box = Empty; got = slot.got ++ a ∷ []; seen = upto }
  collected Empty slot = slot
  collected (Asked b room) slot = slot
  collected (Taken b room) slot = slot

  -- place c looks, and collects answers that stand there
  abbrev pub collect : ℕ → Core Q G E → Core Q G E
  collect c core =
      with_slot c (let slot = slot_of core c in collected slot.box (record slot { client = looked (is_answered slot.box) slot.client })) core
