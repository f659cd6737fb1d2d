-- What the sides of a table stand for.
use Rattle.std.specs.Prelude.{ℕ, false, List, [], slice_index_or}
use Rattle.std.proofs.Math.ListN.{replicate}
use Rattle.std.specs.declared.option.Option.{Option}
use Rattle.std.specs.declared.option.Option.TheVariants.{None}
use Rattle.tm_batch.specs.declared.message.Request.{Request}
use Rattle.tm_batch.specs.declared.message.AnswerBatch.{AnswerBatch}
use Rattle.tm_model.specs.declared.entry.Entry.{Entry}
use Rattle.tm_model.specs.Slots.{Looks}

-- a batch: its requests, and how many gifts may come with its answers
pub record BatchView (V O R T : Type 0) : Type 0 where
  pub requests : List (Request V O R T)
  pub room : ℕ

-- a client's side: its place, what it sent and got, the log that it has seen, its batch that is out, and its looks
pub record ClientView (V O R T : Type 0) : Type 0 where
  pub place : ℕ
  pub sent : List (Request V O R T)
  pub got : List (AnswerBatch V O R T)
  pub seen : List (Entry V O R T)
  pub out : Option (BatchView V O R T)
  pub looks : Looks

-- the trustee's side: its log, and by place the batch in hand, which was taken and not yet answered, and its looks
pub record TrusteeView (V O R T : Type 0) : Type 0 where
  pub log : List (Entry V O R T)
  pub hands : List (Option (BatchView V O R T))
  pub looks : List Looks

-- the looks of a side that never looked
abbrev pub no_looks : Looks
no_looks = record { count = 0; found = false }

module _ {V O R T : Type 0} where
  -- the batch of place c that is in hand
  abbrev pub hand_of : TrusteeView V O R T → ℕ → Option (BatchView V O R T)
  hand_of view c = slice_index_or view.hands c None

  -- the trustee's looks at place c
  abbrev pub looks_at : TrusteeView V O R T → ℕ → Looks
  looks_at view c = slice_index_or view.looks c no_looks

  -- the side of place c at first, which sent nothing
  abbrev pub new_client : ℕ → ClientView V O R T
  new_client c = record { place = c; sent = []; got = []; seen = []; out = None; looks = no_looks }

  -- the trustee's side of so many places at first: its log is empty, and nothing is in hand
  abbrev pub new_trustee : ℕ → TrusteeView V O R T
  new_trustee places = record { log = []; hands = replicate places None; looks = replicate places no_looks }
