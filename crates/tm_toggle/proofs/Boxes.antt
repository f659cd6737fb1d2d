-- What the words of a place tell of its box, and what a look leaves.
use Rattle.std.proofs.Common.{◌≡◌, ◌≢◌, ℕ, false, List, refl}
use Rattle.std.specs.declared.option.Option.TheVariants.{None, Some}
use Rattle.tm_seq.specs.Kind.{Kind}
use Rattle.tm_batch.specs.declared.message.Request.{Request}
use Rattle.tm_batch.specs.declared.message.AnswerBatch.{AnswerBatch}
use Rattle.tm_model.specs.declared.entry.Entry.{Entry}
use Rattle.tm_model.specs.State.{State}
use Rattle.tm_model.specs.Legal.{IsLegal}
use Rattle.tm_model.specs.Slots.{Empty, Asked, Taken, Answered, is_asked, taken, is_answered, collected}
use Rattle.tm_model.specs.GoodSlots.{Agrees}
use Rattle.tm_model.specs.Good.{FullBox, FullSlot}
use Rattle.tm_model.specs.Ran.{mark_of}
use Rattle.tm_model.specs.Batches.{batches}
use Rattle.tm_pair.specs.Views.{BatchView}
use Rattle.tm_pair.specs.SideViews.{batch_out, hand_in}
use Rattle.tm_toggle.proofs.Facts.{off}

module _ {V O R T : Type 0} where
  -- a box of which a batch is out is not empty
  pub not_empty : (box : FullBox V O R T) (sent : List (Request V O R T)) (batch : BatchView V O R T) → batch_out box sent ≡ Some batch → box ≢ Empty
  not_empty Empty sent batch e = absurd cc
  not_empty (Asked b room) sent batch e = λ z. absurd cc
  not_empty (Taken b room) sent batch e = λ z. absurd cc
  not_empty (Answered a upto room) sent batch e = λ z. absurd cc

  pub is_back :
      (kind : Kind V O R T) (opening : State V O R T) (box : FullBox V O R T) (slot : FullSlot V O R T) (c : ℕ) (log : List (Entry V O R T))
      → box ≢ Empty → slot.request_word ≡ slot.response_word → Agrees mark_of (batches kind opening) (IsLegal kind opening) box slot c log
      → (a : AnswerBatch V O R T) × (upto : List (Entry V O R T)) × (most : ℕ) × (box ≡ Answered a upto most)
  is_back kind opening Empty slot c log ne same agrees = absurd (ne refl)
  is_back kind opening (Asked b most) slot c log ne same agrees = absurd (agrees.0 same)
  is_back kind opening (Taken b most) slot c log ne same agrees = absurd (agrees.0 same)
  is_back kind opening (Answered a upto most) slot c log ne same agrees = (a, upto, most, refl)

  pub not_back :
      (kind : Kind V O R T) (opening : State V O R T) (box : FullBox V O R T) (slot : FullSlot V O R T) (c : ℕ) (log : List (Entry V O R T))
      → slot.request_word ≢ slot.response_word → Agrees mark_of (batches kind opening) (IsLegal kind opening) box slot c log
      → is_answered box ≡ false
  not_back kind opening Empty slot c log ne agrees = refl
  not_back kind opening (Asked b most) slot c log ne agrees = refl
  not_back kind opening (Taken b most) slot c log ne agrees = refl
  not_back kind opening (Answered a upto most) slot c log ne agrees = absurd (ne agrees.0)

  pub is_out :
      (kind : Kind V O R T) (opening : State V O R T) (box : FullBox V O R T) (slot : FullSlot V O R T) (c : ℕ) (log : List (Entry V O R T))
      → hand_in box ≡ None → slot.request_word ≢ slot.response_word → Agrees mark_of (batches kind opening) (IsLegal kind opening) box slot c log
      → (b : List (Request V O R T)) × (room : ℕ) × (box ≡ Asked b room)
  is_out kind opening Empty slot c log e ne agrees = absurd (ne agrees.0)
  is_out kind opening (Asked b room) slot c log e ne agrees = (b, room, refl)
  is_out kind opening (Taken b room) slot c log e ne agrees = absurd cc
  is_out kind opening (Answered a upto room) slot c log e ne agrees = absurd (ne agrees.0)

  pub not_out :
      (kind : Kind V O R T) (opening : State V O R T) (box : FullBox V O R T) (slot : FullSlot V O R T) (c : ℕ) (log : List (Entry V O R T))
      → slot.request_word ≡ slot.response_word → Agrees mark_of (batches kind opening) (IsLegal kind opening) box slot c log
      → (is_asked box ≡ false) × (taken box ≡ box)
  not_out kind opening Empty slot c log same agrees = (refl, refl)
  not_out kind opening (Asked b room) slot c log same agrees = absurd (agrees.0 same)
  not_out kind opening (Taken b room) slot c log same agrees = absurd (agrees.0 same)
  not_out kind opening (Answered a upto room) slot c log same agrees = (refl, refl)

  -- a look of a client
  pub collected_words : (box : FullBox V O R T) (slot : FullSlot V O R T) → ((collected box slot).request_word ≡ slot.request_word) × ((collected box slot).response_word ≡ slot.response_word)
  collected_words Empty slot = (refl, refl)
  collected_words (Asked b room) slot = (refl, refl)
  collected_words (Taken b room) slot = (refl, refl)
  collected_words (Answered a upto room) slot = (refl, refl)

  pub collected_box : (box : FullBox V O R T) (slot : FullSlot V O R T) → is_answered box ≡ false → slot.box ≡ box → (collected box slot).box ≡ box
  collected_box Empty slot e at = at
  collected_box (Asked b room) slot e at = at
  collected_box (Taken b room) slot e at = at
  collected_box (Answered a upto room) slot e at = absurd (off e)
