-- What is in hand after a call of the trustee. Other crates import this file.
use Rattle.std.proofs.Common.{◌≡◌, ◌≢◌, ℕ, ◌<◌, List, length, sym, ◌∙◌, ap, subst, slice_index_or, get_or-set_same, get_or-set_other}
use Rattle.std.specs.Prelude.{IsSomeAnd}
use Rattle.std.specs.declared.option.Option.{Option}
use Rattle.std.specs.declared.option.Option.TheVariants.{None, Some}
use Rattle.tm_seq.specs.Kind.{Kind}
use Rattle.tm_batch.specs.declared.batch.Batch.{Batch}
use Rattle.tm_batch.specs.declared.message.AnswerBatch.{AnswerBatch}
use Rattle.tm_model.specs.declared.entry.Entry.{Entry}
use Rattle.tm_model.specs.State.{State, place_count}
use Rattle.tm_pair.specs.Views.{TrusteeView, hand_of}
use Rattle.tm_pair.specs.Calls.{Sees, HasAnswered}
use Rattle.tm_pair.specs.Sides.{IsGoodTrustee}

module _ {V O R T : Type 0} where
  -- a batch that was answered is in hand no more
  pub hand_answered :
      (c : ℕ) (resumes : List (Entry V O R T)) (a : AnswerBatch V O R T) (old new : TrusteeView V O R T) → c < length old.hands
      → HasAnswered c resumes a old new → hand_of new c ≡ None
  hand_answered c resumes a old new lt has = ap (λ hands. slice_index_or hands c None) has.hands ∙ get_or-set_same old.hands c None None lt

  -- the others stay
  pub other_answered :
      (c d : ℕ) (resumes : List (Entry V O R T)) (a : AnswerBatch V O R T) (old new : TrusteeView V O R T) → d ≢ c
      → HasAnswered c resumes a old new → hand_of new d ≡ hand_of old d
  other_answered c d resumes a old new ne has = ap (λ hands. slice_index_or hands d None) has.hands ∙ get_or-set_other old.hands c d None None ne

module _ {V O R T : Type 0} (kind : Kind V O R T) (opening : State V O R T) where
  pub hand_in_range : (c : ℕ) (view : TrusteeView V O R T) → IsGoodTrustee kind opening view → c < place_count opening.setup → c < length view.hands
  hand_in_range c view good lt = subst (λ n. c < n) (sym good.hands) lt

  -- a batch that was found is in hand
  pub batch_taken :
      (c : ℕ) (seen : Option (Batch V O R T)) (P : Batch V O R T → Type 0) (old new : TrusteeView V O R T) → c < length old.hands
      → Sees kind opening c seen old new → IsSomeAnd seen P
      → (b : Batch V O R T) × P b × (hand_of new c ≡ Some (record { requests = b.requests.items; room = b.room }))
  batch_taken c None P old new lt sees some = absurd some
  batch_taken c (Some b) P old new lt takes some = (
    b,
    some,
    ap (λ hands. slice_index_or hands c None) takes.hands
        ∙ get_or-set_same old.hands c (Some (record { requests = b.requests.items; room = b.room })) None lt,
  )

  -- the others stay
  pub other_seen :
      (c d : ℕ) (seen : Option (Batch V O R T)) (old new : TrusteeView V O R T) → d ≢ c
      → Sees kind opening c seen old new → hand_of new d ≡ hand_of old d
  other_seen c d None old new ne sees = ap (λ hands. slice_index_or hands d None) sees.hands
  other_seen c d (Some b) old new ne takes =
      ap (λ hands. slice_index_or hands d None) takes.hands
      ∙ get_or-set_other old.hands c d (Some (record { requests = b.requests.items; room = b.room })) None ne
