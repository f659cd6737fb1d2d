-- The cells of a new machine show the first core.
use Rattle.std.proofs.Common.{◌≡◌, ℕ, ◌<◌, List, [], ◌∷◌, ◌++◌, length, slice_index_or, inl, inr, refl, sym, ◌∙◌, ap, subst, arith, length-append, length-set}
use Rattle.std.proofs.Math.ListN.{length-replicate, get_or-replicate}
use Rattle.std.proofs.Math.Seq.{get_or-append_seam}
use Rattle.std.proofs.Math.ListN.{get_or-append}
use Rattle.std.proofs.lemmas.Bool.{cases_eq}
use Rattle.tm_model.specs.Slots.{no_slot, first_core}
use Rattle.tm_core.specs.declared.cell.Cell.{Cell}
use Rattle.tm_core.specs.declared.step.Step.{Step}
use Rattle.tm_core.specs.declared.step.Step.TheVariants.{Publish, See, Answer, Collect}
use Rattle.tm_core.specs.Numbers.{NumberCore}
use Rattle.tm_core.specs.Steps.{IsAllowed, AreAllowed, after_step, after_steps}
use Rattle.tm_core.specs.Cells.{IsNewCell}
use Rattle.tm_core.specs.Shown.{ShowsCore, AreNew}

pub none_new : (cells : List Cell) → cells ≡ [] → AreNew cells
unfolding AreNew
none_new cells e = rw e (λ c cell lt is. absurd (omega (arith, lt)))

pub one_more_new : (old : List Cell) (cell : Cell) (new : List Cell) → new ≡ old ++ cell ∷ [] → AreNew old → IsNewCell cell → AreNew new
unfolding AreNew
one_more_new old cell new e all own = rw e (λ c d lt is.
    elim (cases_eq c (length old)) [
      | inl at ↦
          let there : d ≡ cell = is ∙ ap (λ k. slice_index_or (old ++ cell ∷ []) k d) at ∙ get_or-append_seam old cell [] d in
          subst IsNewCell (sym there) own
      | inr ne ↦
          let before : c < length old = omega (arith, lt, length-append old (cell ∷ []), ne) in
          all c d before (is ∙ get_or-append old (cell ∷ []) d c before)
    ])

pub new_shows : (cells : List Cell) (places : ℕ) → length cells ≡ places → AreNew cells → ShowsCore cells (first_core places)
unfolding AreNew
new_shows cells places count new = record {
  places = length-replicate places no_slot ∙ sym count;
  slots = λ c cell lt is.
      let own = new c cell lt is in
      rw (get_or-replicate places c no_slot no_slot (subst (λ n. c < n) count lt))
      (record { request_word = own.request_word; response_word = own.response_word; box = rw own.content tt; sent = own.sent; ran = own.ran });
}

pub after-append : (xs ys : List Step) (core : NumberCore) → after_steps (xs ++ ys) core ≡ after_steps ys (after_steps xs core)
after-append [] ys core = refl
after-append (x ∷ xs) ys core = after-append xs ys (after_step x core)

pub allowed-append :
    (xs : List Step) (y : Step) (core : NumberCore) → AreAllowed core xs → IsAllowed (after_steps xs core) y → AreAllowed core (xs ++ y ∷ [])
allowed-append [] y core all one = (one, tt)
allowed-append (x ∷ xs) y core all one = (all.0, allowed-append xs y (after_step x core) all.1 one)

-- a step keeps how many places there are
pub places_kept : (step : Step) (core : NumberCore) → length (after_step step core).slots ≡ length core.slots
places_kept (Publish c b) core = length-set core.slots c _
places_kept (See c) core = length-set core.slots c _
places_kept (Answer c a) core = length-set core.slots c _
places_kept (Collect c) core = length-set core.slots c _
