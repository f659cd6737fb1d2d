-- The machine's tests on its cells decide which steps are allowed of the core that the cells show.
use Rattle.std.proofs.Common.{◌≡◌, ◌↔◌, ℕ, ◌<◌, ◌≤◌, Bool, true, false, leb, ltb, IsTrue, Vec, Global, List, length, slice_index_or, refl, sym, ◌∙◌, ap, arith}
use Rattle.std.proofs.lemmas.Bool.Decides.{nat_tests}
use Rattle.tm_batch.specs.declared.limits.TheConstants.{MOST_REQUESTS}
use Rattle.tm_model.specs.Slots.{Empty, Asked, Taken, Answered, slot_of}
use Rattle.tm_core.specs.declared.cell.Content.{Content}
use Rattle.tm_core.specs.declared.cell.Content.TheVariants.{Empty as Free, Asked as Out, Taken as InHand, Answered as Back}
use Rattle.tm_core.specs.declared.cell.Cell.{Cell}
use Rattle.tm_core.specs.declared.step.Step.{Step}
use Rattle.tm_core.specs.declared.step.Step.TheVariants.{Publish, See, Answer, Collect}
use Rattle.tm_core.specs.Numbers.{NumberBox, NumberCore}
use Rattle.tm_core.specs.Steps.{IsAllowed, after_step, client_of}
use Rattle.tm_core.specs.Cells.{HasInHand}
use Rattle.tm_core.specs.Shown.{ShowsBox, ShowsCore, Tells, CellsGo, CellsStay}

not_true : IsTrue false → ⊥
not_true h = cc

free_shows : (content : Content) (box : NumberBox) → ShowsBox content box → content ≡ Free → box ≡ Empty
free_shows Free Empty h e = refl
free_shows (Out b) box h e = absurd cc
free_shows (InHand b) box h e = absurd cc
free_shows (Back a) box h e = absurd cc
free_shows _ _ h e = absurd h

empty_shows : (content : Content) (box : NumberBox) → ShowsBox content box → box ≡ Empty → content ≡ Free
empty_shows Free Empty h e = refl
empty_shows content (Asked b room) h e = absurd cc
empty_shows content (Taken b room) h e = absurd cc
empty_shows content (Answered a upto room) h e = absurd cc
empty_shows _ _ h e = absurd h

hand_shows :
    (content : Content) (box : NumberBox) (n : ℕ) → ShowsBox content box → HasInHand content n → (b : List ℕ) × (box ≡ Taken b 0) × (n ≡ length b)
hand_shows (InHand v) (Taken b room) n h many = (b, ap (Taken b) h.1, many ∙ ap length h.0)
hand_shows Free box n h many = absurd many
hand_shows (Out v) box n h many = absurd many
hand_shows (Back v) box n h many = absurd many
hand_shows _ _ n h many = absurd h

taken_shows : (content : Content) (box : NumberBox) (n : ℕ) (b : List ℕ) → ShowsBox content box → box ≡ Taken b 0 → n ≡ length b → HasInHand content n
taken_shows (InHand v) (Taken requests room) n b h e many =
    let same : requests ≡ b = cc in
    many ∙ ap length (sym same) ∙ ap length (sym h.0)
taken_shows content Empty n b h e many = absurd cc
taken_shows content (Asked requests room) n b h e many = absurd cc
taken_shows content (Answered a upto room) n b h e many = absurd cc
taken_shows _ _ n b h e many = absurd h

module _ (cells : List Cell) (c : ℕ) where
  pub beyond_publish : (b : Vec ℕ Global) → length cells ≤ c → Tells cells (Publish c b) false
  unfolding Tells
  beyond_publish b le = λ core shown.
      (λ h. absurd (not_true h), λ may. absurd (omega (arith, le, may.in_range, shown.places)))

  pub beyond_answer : (a : Vec ℕ Global) → length cells ≤ c → Tells cells (Answer c a) false
  unfolding Tells
  beyond_answer a le = λ core shown.
      (λ h. absurd (not_true h), λ may. absurd (omega (arith, le, may.1.in_range, shown.places)))

  pub tells_see : Tells cells (See c) (ltb c (length cells))
  unfolding Tells
  tells_see = λ core shown.
      let places = shown.places in
      (λ h. grind (arith, nat_tests, places), λ lt. grind (arith, nat_tests, places))

  pub tells_collect : Tells cells (Collect c) (ltb c (length cells))
  unfolding Tells
  tells_collect = λ core shown.
      let places = shown.places in
      (λ h. grind (arith, nat_tests, places), λ lt. grind (arith, nat_tests, places))

  module _ (cell : Cell) (lt : c < length cells) (is : cell ≡ slice_index_or cells c cell) where
    pub free_publish : (b : Vec ℕ Global) (n : ℕ) → cell.content ≡ Free → n ≡ length b.items → Tells cells (Publish c b) (leb n MOST_REQUESTS)
    unfolding Tells
    free_publish b n free many = λ core shown.
        let had = shown.slots c cell lt is in (
          λ h. record {
            in_range = omega (arith, lt, shown.places);
            is_empty = free_shows cell.content (slot_of core c).box had.box free;
            most = grind (arith, nat_tests, many);
            most_gifts = omega arith;
          },
          λ may. let most = may.most in grind (arith, nat_tests, many),
        )

    pub held_publish : (b : Vec ℕ Global) → ¬ (cell.content ≡ Free) → Tells cells (Publish c b) false
    unfolding Tells
    held_publish b held = λ core shown.
        let had = shown.slots c cell lt is in
        (λ h. absurd (not_true h), λ may. absurd (held (empty_shows cell.content (slot_of core c).box had.box may.is_empty)))

    pub tells_answer : (a : Vec ℕ Global) (n : ℕ) (r : Bool) → n ≡ length a.items → IsTrue r ↔ HasInHand cell.content n → Tells cells (Answer c a) r
    unfolding Tells
    tells_answer a n r many iff = λ core shown.
        let had = shown.slots c cell lt is in (
          λ h.
              let (b, taken, same) = hand_shows cell.content (slot_of core c).box n had.box (iff.0 h) in
              (b, record { in_range = omega (arith, lt, shown.places); is_taken = taken }, sym many ∙ same),
          λ may. iff.1 (taken_shows cell.content (slot_of core c).box n may.0 had.box may.1.is_taken (many ∙ may.2)),
        )

module _ (cells : List Cell) (step : Step) (core : NumberCore) (shown : ShowsCore cells core) where
  pub is_allowed : Tells cells step true → IsAllowed core step
  unfolding Tells
  is_allowed tells = (tells core shown).0 cc

  pub is_not_allowed : Tells cells step false → ¬ IsAllowed core step
  unfolding Tells
  is_not_allowed tells may = not_true ((tells core shown).1 may)

  pub shows_next : (next : List Cell) → CellsGo cells step next → IsAllowed core step → ShowsCore next (after_step step core)
  unfolding CellsGo
  shows_next next goes may = goes core may shown

  pub shows_same : (next : List Cell) → CellsStay cells next → ShowsCore next core
  unfolding CellsStay
  shows_same next stays = stays core shown

  place_of_step : (step : Step) → IsAllowed core step → client_of step < length core.slots
  place_of_step (Publish c b) may = may.in_range
  place_of_step (See c) may = may
  place_of_step (Answer c a) may = may.1.in_range
  place_of_step (Collect c) may = may

  pub in_range : IsAllowed core step → client_of step < length cells
  in_range may = omega (arith, place_of_step step may, shown.places)
