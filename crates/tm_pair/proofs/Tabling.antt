-- A table after a call: what it stands for, and that its places show it.
use Rattle.std.proofs.Common.{◌≡◌, ◌≢◌, ℕ, ◌<◌, not, List, ◌++◌, length, slice_index_or, slice_set, inl, inr, refl, sym, ◌∙◌, ap, subst, arith, get_or-set_same, get_or-set_other, length-set}
use Rattle.std.specs.Vec.{with_item}
use Rattle.std.specs.declared.option.Option.{Option}
use Rattle.std.proofs.lemmas.Bool.{cases_eq}
use Rattle.tm_ghost.specs.declared.list.GhostList.{GhostList}
use Rattle.tm_seq.specs.Kind.{Kind}
use Rattle.tm_batch.specs.declared.batch.Batch.{Batch}
use Rattle.tm_batch.specs.declared.message.Request.{Request}
use Rattle.tm_batch.specs.declared.message.AnswerBatch.{AnswerBatch}
use Rattle.tm_model.specs.declared.entry.Entry.{Entry}
use Rattle.tm_model.specs.State.{place_count}
use Rattle.tm_model.specs.Slots.{Empty, Asked, Taken, Answered, no_slot, slot_of, publish, published, see, taken, collect, collected, looked, is_answered, answered}
use Rattle.tm_model.specs.Good.{FullBox, FullSlot, FullCore, IsGood}
use Rattle.tm_model.specs.Entries.{added}
use Rattle.tm_model.specs.Answering.{answer_with}
use Rattle.tm_pair.specs.Moves.{core_after, FindsAsked}
use Rattle.tm_pair.specs.Places.{KeepsWords, Gave, Found}
use Rattle.tm_pair.specs.Shown.{ShowsBox, ShowsSlot, ShowsCore}
use Rattle.tm_pair.specs.Plain.{opening_at, core_at, IsTable}
use Rattle.tm_pair.specs.declared.table.Collected.{Collected}
use Rattle.tm_pair.specs.declared.moves.Move.{Move}
use Rattle.tm_pair.specs.declared.place.Content.{Content}
use Rattle.tm_pair.specs.declared.place.Content.TheVariants.{Empty as Free, Asked as Out, Taken as InHand, Answered as Back}
use Rattle.tm_pair.specs.declared.place.Place.{Place}
use Rattle.tm_pair.specs.declared.plain.PlainTable.{PlainTable}
use Rattle.tm_pair.proofs.Stepping.{looked_at, seen_slot, IsLook}

module _ {V O R T : Type 0} where
  -- one place and one slot change
  shows_set :
      (places : List (Place V O R T)) (i : ℕ) (new : Place V O R T) (core : FullCore V O R T) (log : List (Entry V O R T)) (slot : FullSlot V O R T)
      → i < length places → ShowsCore places core → ShowsSlot new slot
      → ShowsCore (slice_set places i new) (record { log = log; slots = slice_set core.slots i slot })
  shows_set places i new core log slot lt shown own =
      let within : i < length core.slots = omega (arith, lt, shown.count) in
      record {
        count = length-set core.slots i slot ∙ shown.count ∙ sym (length-set places i new);
        slots = λ c place l is.
            elim (cases_eq c i) [
              | inl e ↦
                  let there : place ≡ new = is ∙ ap (λ d. slice_index_or (slice_set places i new) d place) e ∙ get_or-set_same places i new place lt in
                  rw (e, there, get_or-set_same core.slots i slot no_slot within) own
              | inr ne ↦
                  let before : c < length places = subst (λ n. c < n) (length-set places i new) l in
                  let was = shown.slots c place before (is ∙ get_or-set_other places i c new place ne) in
                  rw (get_or-set_other core.slots i c slot no_slot ne) was
            ];
      }

  module _ (places : List (Place V O R T)) (i : ℕ) (was new : Place V O R T) (core : FullCore V O R T) (lt : i < length places)
      (is : was ≡ slice_index_or places i was) (shown : ShowsCore places core) where
    pub slot_shown : ShowsSlot was (slot_of core i)
    slot_shown = shown.slots i was lt is

    pub publish_shown :
        (b : Batch V O R T) → new.request_word ≡ not was.request_word → new.response_word ≡ was.response_word → new.content ≡ Out b
        → ShowsCore (slice_set places i new) (publish i b.requests.items b.room core)
    publish_shown b request response content =
        shows_set places i new core core.log (published b.requests.items b.room (slot_of core i)) lt shown
        (record { request_word = request ∙ ap not slot_shown.request_word; response_word = response ∙ slot_shown.response_word; box = rw content (refl, refl) })

    gave_shows :
        (content now : Content V O R T) (given : Option (Batch V O R T)) (box : FullBox V O R T) → ShowsBox content box → Gave content now given
        → ShowsBox now (taken box)
    gave_shows Free now given Empty shows gave = rw gave.0 tt
    gave_shows (Out b) now given (Asked requests room) shows gave = rw gave.0 tt
    gave_shows InHand now given (Taken requests room) shows gave = rw gave.0 tt
    gave_shows (Back a) now given (Answered answers upto room) shows gave = rw gave.0 shows
    gave_shows _ now given _ shows gave = absurd shows

    pub see_shown :
        (given : Option (Batch V O R T)) → Gave was.content new.content given → KeepsWords was new → ShowsCore (slice_set places i new) (see i core)
    see_shown given gave words =
        shows_set places i new core core.log (seen_slot (slot_of core i)) lt shown
        (record {
          request_word = words.request_word ∙ slot_shown.request_word;
          response_word = words.response_word ∙ slot_shown.response_word;
          box = gave_shows was.content new.content given (slot_of core i).box slot_shown.box gave;
        })

    found_shows :
        (content : Content V O R T) (found : Collected V O R T) (box : FullBox V O R T) (slot : FullSlot V O R T) → slot.box ≡ box
        → ShowsBox content box → Found content new.content found → new.request_word ≡ slot.request_word → new.response_word ≡ slot.response_word
        → ShowsSlot new (collected box slot)
    found_shows Free found Empty slot at shows finds request response =
        record { request_word = request; response_word = response; box = rw (finds.0, at) tt }
    found_shows (Out b) found (Asked requests room) slot at shows finds request response =
        record { request_word = request; response_word = response; box = rw (finds.0, at) shows }
    found_shows InHand found (Taken requests room) slot at shows finds request response =
        record { request_word = request; response_word = response; box = rw (finds.0, at) tt }
    found_shows (Back a) found (Answered answers upto room) slot at shows finds request response =
        record { request_word = request; response_word = response; box = rw finds.0 tt }
    found_shows _ found _ slot at shows finds request response = absurd shows

    pub collect_shown :
        (found : Collected V O R T) → Found was.content new.content found → KeepsWords was new → ShowsCore (slice_set places i new) (collect i core)
    collect_shown found finds words =
        let slot = slot_of core i in
        shows_set places i new core core.log (looked_at slot) lt shown
        (found_shows was.content found slot.box (record slot { client = looked (is_answered slot.box) slot.client }) refl slot_shown.box finds
        (words.request_word ∙ slot_shown.request_word) (words.response_word ∙ slot_shown.response_word))

    pub answer_shown :
        (b : List (Request V O R T)) (room : ℕ) (resumes : List (Entry V O R T)) (a : AnswerBatch V O R T) → new.request_word ≡ was.request_word
        → new.response_word ≡ not was.response_word → new.content ≡ Back a → ShowsCore (slice_set places i new) (answer_with i b room resumes a core)
    answer_shown b room resumes a request response content =
        let log = core.log ++ added core.log resumes i b room a.answers.items in
        shows_set places i new core log (answered a log room (slot_of core i)) lt shown
        (record { request_word = request ∙ slot_shown.request_word; response_word = response ∙ ap not slot_shown.response_word; box = rw content refl })

  -- a slot is free where its place is
  pub free_is_empty : (content : Content V O R T) (box : FullBox V O R T) → ShowsBox content box → content ≡ Free → box ≡ Empty
  free_is_empty Free Empty shows e = refl
  free_is_empty (Out b) (Asked requests room) shows e = absurd cc
  free_is_empty InHand (Taken requests room) shows e = absurd cc
  free_is_empty (Back a) (Answered answers upto room) shows e = absurd cc
  free_is_empty _ _ shows e = absurd shows

  pub empty_is_free : (content : Content V O R T) (box : FullBox V O R T) → ShowsBox content box → box ≡ Empty → content ≡ Free
  empty_is_free Free Empty shows e = refl
  empty_is_free (Out b) (Asked requests room) shows e = absurd cc
  empty_is_free InHand (Taken requests room) shows e = absurd cc
  empty_is_free (Back a) (Answered answers upto room) shows e = absurd cc
  empty_is_free _ _ shows e = absurd shows

  -- a batch that is taken is in hand
  pub taken_in_hand : (content : Content V O R T) (box : FullBox V O R T) (b : List (Request V O R T)) (room : ℕ) → ShowsBox content box → box ≡ Taken b room → content ≡ InHand
  taken_in_hand InHand (Taken requests r) b room shows e = refl
  taken_in_hand Free Empty b room shows e = absurd cc
  taken_in_hand (Out q) (Asked requests r) b room shows e = absurd cc
  taken_in_hand (Back a) (Answered answers upto r) b room shows e = absurd cc
  taken_in_hand _ _ b room shows e = absurd shows

  -- a look of the trustee finds what was asked
  pub gave_finds :
      (content now : Content V O R T) (given : Option (Batch V O R T)) (box : FullBox V O R T) → ShowsBox content box → Gave content now given
      → FindsAsked given box
  gave_finds Free now given Empty shows gave = rw gave.1 refl
  gave_finds (Out b) now given (Asked requests room) shows gave =
      rw gave.1 (ap (λ q. Asked q room) (sym shows.0) ∙ ap (λ r. Asked b.requests.items r) (sym shows.1))
  gave_finds InHand now given (Taken requests room) shows gave = rw gave.1 refl
  gave_finds (Back a) now given (Answered answers upto room) shows gave = rw gave.1 refl
  gave_finds _ now given _ shows gave = absurd shows

  -- a look of a client at a place that is not free finds the answers that are back
  pub found_looks :
      (content now : Content V O R T) (found : Collected V O R T) (box : FullBox V O R T) → content ≢ Free → ShowsBox content box → Found content now found
      → IsLook found box
  found_looks Free now found Empty ne shows finds = absurd (ne refl)
  found_looks (Out b) now found (Asked requests room) ne shows finds = rw finds.1 (λ e. absurd cc, λ e. absurd cc, refl)
  found_looks InHand now found (Taken requests room) ne shows finds = rw finds.1 (λ e. absurd cc, λ e. absurd cc, refl)
  found_looks (Back a) now found (Answered answers upto room) ne shows finds =
      rw finds.1 (λ e. absurd cc, λ e. absurd cc, (upto, room, ap (λ x. Answered x upto room) (sym shows)))
  found_looks _ now found _ ne shows finds = absurd shows

  module _ (kind : Kind V O R T) (table : PlainTable V O R T) (of : IsTable kind table) where
    -- places of a table
    pub slot_in_range : (c : ℕ) → c < place_count (opening_at table).setup → c < length (core_at table).slots
    slot_in_range c lt = subst (λ n. c < n) (sym of.good.places) lt

    pub place_in_range : (c : ℕ) → c < place_count (opening_at table).setup → c < length table.places.items
    place_in_range c lt = subst (λ n. c < n) of.shows.count (slot_in_range c lt)

    -- a table after a call
    pub next_table :
        (i : ℕ) (new : Place V O R T) (past : GhostList (Move V O R T)) (core : FullCore V O R T) → core_after past.items ≡ core
        → IsGood kind (opening_at table) core → ShowsCore (slice_set table.places.items i new) core
        → IsTable kind (record table { places = with_item table.places i new; past = past })
    next_table i new past core e good shows = record {
      buildable = of.buildable;
      number = of.number;
      good = subst (λ k. IsGood kind (opening_at table) k) (sym e) good;
      shows = subst (λ k. ShowsCore (slice_set table.places.items i new) k) (sym e) shows;
    }
