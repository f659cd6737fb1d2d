-- The cells of the machine show the core after each step, and after one that fails for want of memory the core before it.
use Rattle.std.proofs.Common.{◌≡◌, ◌≢◌, ℕ, ◌<◌, not, Vec, Global, List, ◌++◌, length, slice_index_or, slice_set, inl, inr, refl, sym, ◌∙◌, ap, subst, arith, get_or-set_same, get_or-set_other, length-set}
use Rattle.std.proofs.lemmas.Bool.{cases_eq}
use Rattle.tm_model.specs.Slots.{Empty, Asked, Taken, Answered, no_slot, slot_of, published, taken, answered, collected, looked, is_asked, is_answered}
use Rattle.tm_core.specs.declared.cell.Content.{Content}
use Rattle.tm_core.specs.declared.cell.Content.TheVariants.{Empty as Free, Asked as Out, Taken as InHand, Answered as Back}
use Rattle.tm_core.specs.declared.cell.Cell.{Cell}
use Rattle.tm_core.specs.declared.step.Step.TheVariants.{Publish, See, Answer, Collect}
use Rattle.tm_core.specs.Numbers.{Logged, NumberBox, NumberSlot, NumberCore, ran, batch_entries}
use Rattle.tm_core.specs.Steps.{in_hand}
use Rattle.tm_core.specs.Cells.{hand_of, seen, taken_out, KeepsRest}
use Rattle.tm_core.specs.Shown.{ShowsBox, ShowsSlot, ShowsCore, CellsGo, CellsStay}
use Rattle.tm_core.proofs.NumberLogs.{batch_ran_own, batch_ran_other}

-- one cell and one slot change
shows_set :
    (old : List Cell) (i : ℕ) (new : Cell) (core : NumberCore) (log : List Logged) (slot : NumberSlot) → i < length old → ShowsCore old core
    → ((d : ℕ) → d ≢ i → ran d log ≡ ran d core.log) → ShowsSlot log i new slot
    → ShowsCore (slice_set old i new) (record { log = log; slots = slice_set core.slots i slot })
shows_set old i new core log slot lt shown same own =
    let within : i < length core.slots = omega (arith, lt, shown.places) in
    record {
      places = length-set core.slots i slot ∙ shown.places ∙ sym (length-set old i new);
      slots = λ c cell l is.
          elim (cases_eq c i) [
            | inl e ↦
                let cell_is : cell ≡ new = is ∙ ap (λ d. slice_index_or (slice_set old i new) d cell) e ∙ get_or-set_same old i new cell lt in
                rw (e, cell_is, get_or-set_same core.slots i slot no_slot within) own
            | inr ne ↦
                let there : c < length old = subst (λ n. c < n) (length-set old i new) l in
                let was = shown.slots c cell there (is ∙ get_or-set_other old i c new cell ne) in
                rw (get_or-set_other core.slots i c slot no_slot ne)
                (record { request_word = was.request_word; response_word = was.response_word; box = was.box; sent = was.sent; ran = was.ran ∙ sym (same c ne) })
          ];
    }

module _ (old : List Cell) (i : ℕ) (was new : Cell) (lt : i < length old) (is : was ≡ slice_index_or old i was) where
  pub stays : KeepsRest was new → new.content ≡ was.content → CellsStay old (slice_set old i new)
  unfolding CellsStay
  stays kept content = λ core shown. record {
    places = shown.places ∙ sym (length-set old i new);
    slots = λ c cell l cell_at.
        elim (cases_eq c i) [
          | inl e ↦
              let cell_is : cell ≡ new = cell_at ∙ ap (λ d. slice_index_or (slice_set old i new) d cell) e ∙ get_or-set_same old i new cell lt in
              let had = shown.slots i was lt is in
              rw (e, cell_is)
              (record {
                request_word = kept.request_word ∙ had.request_word;
                response_word = kept.response_word ∙ had.response_word;
                box = rw content had.box;
                sent = kept.sent ∙ had.sent;
                ran = kept.ran ∙ had.ran;
              })
          | inr ne ↦ shown.slots c cell (subst (λ n. c < n) (length-set old i new) l) (cell_at ∙ get_or-set_other old i c new cell ne)
        ];
  }

  pub publishes :
      (b : Vec ℕ Global) → new.request_word ≡ not was.request_word → new.response_word ≡ was.response_word → new.content ≡ Out b
      → new.sent.items ≡ was.sent.items ++ b.items → new.ran.items ≡ was.ran.items → CellsGo old (Publish i b) (slice_set old i new)
  unfolding CellsGo
  publishes b request response content sent ran_is = λ core may shown.
      let had = shown.slots i was lt is in
      shows_set old i new core core.log (published b.items 0 (slot_of core i)) lt shown (λ d ne. refl)
      (record {
        request_word = request ∙ ap not had.request_word;
        response_word = response ∙ had.response_word;
        box = rw content (refl, refl);
        sent = sent ∙ ap (λ l. l ++ b.items) had.sent;
        ran = ran_is ∙ had.ran;
      })

  seen_shows : (content : Content) (box : NumberBox) → ShowsBox content box → ShowsBox (seen content) (taken box)
  seen_shows Free Empty h = tt
  seen_shows (Out b) (Asked requests room) h = h
  seen_shows (InHand b) (Taken requests room) h = h
  seen_shows (Back a) (Answered answers upto room) h = h
  seen_shows _ _ h = absurd h

  pub sees : new.content ≡ seen was.content → KeepsRest was new → CellsGo old (See i) (slice_set old i new)
  unfolding CellsGo
  sees content kept = λ core may shown.
      let had = shown.slots i was lt is in
      let slot = slot_of core i in
      shows_set old i new core core.log (record slot { box = taken slot.box; trustee = looked (is_asked slot.box) slot.trustee }) lt shown (λ d ne. refl)
      (record {
        request_word = kept.request_word ∙ had.request_word;
        response_word = kept.response_word ∙ had.response_word;
        box = rw content (seen_shows was.content slot.box had.box);
        sent = kept.sent ∙ had.sent;
        ran = kept.ran ∙ had.ran;
      })

  hand_shows : (content : Content) (box : NumberBox) → ShowsBox content box → hand_of content ≡ in_hand box
  hand_shows Free Empty h = refl
  hand_shows (Out b) (Asked requests room) h = refl
  hand_shows (InHand b) (Taken requests room) h = h.0
  hand_shows (Back a) (Answered answers upto room) h = refl
  hand_shows _ _ h = absurd h

  pub answers :
      (a : Vec ℕ Global) → new.request_word ≡ was.request_word → new.response_word ≡ not was.response_word → new.content ≡ Back a
      → new.sent.items ≡ was.sent.items → new.ran.items ≡ was.ran.items ++ hand_of was.content → CellsGo old (Answer i a) (slice_set old i new)
  unfolding CellsGo
  answers a request response content sent ran_is = λ core may shown.
      let had = shown.slots i was lt is in
      let slot = slot_of core i in
      let hand : in_hand slot.box ≡ may.0 = ap in_hand may.1.is_taken in
      let many : length a.items ≡ length (in_hand slot.box) = may.2 ∙ ap length (sym hand) in
      let es = batch_entries core.log i (in_hand slot.box) a.items in
      shows_set old i new core (core.log ++ es) (answered a.items (core.log ++ es) 0 slot) lt shown
      (λ d ne. batch_ran_other core.log i (in_hand slot.box) a.items many d ne)
      (record {
        request_word = request ∙ had.request_word;
        response_word = response ∙ ap not had.response_word;
        box = rw content refl;
        sent = sent ∙ had.sent;
        ran = ran_is ∙ ap (λ l. l ++ hand_of was.content) had.ran ∙ ap (λ l. ran i core.log ++ l) (hand_shows was.content slot.box had.box)
            ∙ sym (batch_ran_own core.log i (in_hand slot.box) a.items many);
      })

  collect_shows :
      (log : List Logged) (content : Content) (box : NumberBox) (slot : NumberSlot) → ShowsBox content box → slot.box ≡ box
      → new.content ≡ taken_out content → new.request_word ≡ slot.request_word → new.response_word ≡ slot.response_word
      → new.sent.items ≡ slot.sent → new.ran.items ≡ ran i log → ShowsSlot log i new (collected box slot)
  collect_shows log Free Empty slot h at now request response sent ran_is =
      record { request_word = request; response_word = response; box = rw (now, at) tt; sent = sent; ran = ran_is }
  collect_shows log (Out b) (Asked requests room) slot h at now request response sent ran_is =
      record { request_word = request; response_word = response; box = rw (now, at) h; sent = sent; ran = ran_is }
  collect_shows log (InHand b) (Taken requests room) slot h at now request response sent ran_is =
      record { request_word = request; response_word = response; box = rw (now, at) h; sent = sent; ran = ran_is }
  collect_shows log (Back a) (Answered answers upto room) slot h at now request response sent ran_is =
      record { request_word = request; response_word = response; box = rw now tt; sent = sent; ran = ran_is }
  collect_shows log _ _ slot h at now request response sent ran_is = absurd h

  pub collects : new.content ≡ taken_out was.content → KeepsRest was new → CellsGo old (Collect i) (slice_set old i new)
  unfolding CellsGo
  collects content kept = λ core may shown.
      let had = shown.slots i was lt is in
      let slot = slot_of core i in
      shows_set old i new core core.log (collected slot.box (record slot { client = looked (is_answered slot.box) slot.client })) lt shown (λ d ne. refl)
      (collect_shows core.log was.content slot.box (record slot { client = looked (is_answered slot.box) slot.client }) had.box refl content
      (kept.request_word ∙ had.request_word) (kept.response_word ∙ had.response_word) (kept.sent ∙ had.sent) (kept.ran ∙ had.ran))
