-- Of two fronts of a log one begins the other, and what a front ran for a place begins what the place sent.
use Rattle.std.proofs.Common.{◌≡◌, ◌⊎◌, ◌<◌, ℕ, length, subst, List, [], ◌∷◌, ◌++◌, inl, inr, refl, sym, ◌∙◌, ap, append_assoc, append-nil}
use Rattle.tm_seq.specs.Kind.{Kind}
use Rattle.tm_model.specs.declared.entry.Entry.{Entry}
use Rattle.tm_model.specs.State.{State}
use Rattle.tm_model.specs.Legal.{IsLegal}
use Rattle.tm_model.specs.Lists.{IsPrefix}
use Rattle.tm_model.specs.Slots.{Empty, Asked, Taken, Answered, slot_of}
use Rattle.tm_model.specs.GoodSlots.{Agrees}
use Rattle.tm_model.specs.Ran.{mark_of, ran}
use Rattle.tm_model.specs.Batches.{batches}
use Rattle.tm_model.specs.Good.{FullBox, FullSlot, FullCore, IsGood}
use Rattle.tm_model.specs.Laws.{SeenLogsAgree}
use Rattle.tm_model.specs.ClientLaws.{FrontsAgree}
use Rattle.tm_core.proofs.Joins.{legal_logs_join}
use Rattle.tm_core.proofs.Marks.{ran-append}

-- of two lists that begin one list, one begins the other
one_begins : {X : Type 0} (xs ys r t : List X) → xs ++ r ≡ ys ++ t → IsPrefix xs ys ⊎ IsPrefix ys xs
one_begins [] ys r t e = inl (ys, refl)
one_begins (x ∷ xs) [] r t e = inr (x ∷ xs, refl)
one_begins (x ∷ xs) (y ∷ ys) r t e =
    let rest : xs ++ r ≡ ys ++ t = cc in
    let first : x ≡ y = cc in
    elim (one_begins xs ys r t rest) [
      | inl (more, is) ↦ inl (more, ap (λ l. y ∷ l) is ∙ ap (λ z. z ∷ (xs ++ more)) (sym first))
      | inr (more, is) ↦ inr (more, ap (λ l. x ∷ l) is ∙ ap (λ z. z ∷ (ys ++ more)) first)
    ]

module _ {V O R T : Type 0} where
  ran_begins :
      (kind : Kind V O R T) (opening : State V O R T) (box : FullBox V O R T) (slot : FullSlot V O R T) (c : ℕ) (log : List (Entry V O R T))
      → Agrees mark_of (batches kind opening) (IsLegal kind opening) box slot c log → IsPrefix (ran c log) slot.sent
  ran_begins kind opening Empty slot c log (words, sent) = ([], sent ∙ sym (append-nil (ran c log)))
  ran_begins kind opening (Asked b room) slot c log (words, sent) = (b, sent)
  ran_begins kind opening (Taken b room) slot c log (words, sent) = (b, sent)
  ran_begins kind opening (Answered a upto room) slot c log (words, sent) = ([], sent ∙ sym (append-nil (ran c log)))

  -- what a front of the log ran for a place begins what the place sent
  front_sent :
      (kind : Kind V O R T) (opening : State V O R T) (core : FullCore V O R T) (front : List (Entry V O R T)) (c : ℕ) → IsGood kind opening core
      → c < length core.slots → IsPrefix front core.log → IsPrefix (ran c front) (slot_of core c).sent
  front_sent kind opening core front c good lt (rest, begins) =
      let slot = slot_of core c in
      let (waits, sent) = ran_begins kind opening slot.box slot c core.log (good.slots.slots c lt).agrees in (
        ran c rest ++ waits,
        sent ∙ ap (λ l. ran c l ++ waits) begins ∙ ap (λ l. l ++ waits) (ran-append mark_of c front rest)
            ∙ append_assoc (ran c front) (ran c rest) waits,
      )

  pub fronts_agree : (kind : Kind V O R T) → FrontsAgree kind
  fronts_agree kind opening core front other c good (rest, begins) (more, starts) lt = (
    one_begins front other rest more (sym begins ∙ starts),
    ((legal_logs_join kind opening front rest).0 (subst (λ l. IsLegal kind opening l) begins good.slots.is_legal)).0,
    front_sent kind opening core front c good lt (rest, begins),
    (good.slots.slots c lt).seen.prefix,
  )

  pub seen_logs_agree : (kind : Kind V O R T) → SeenLogsAgree kind
  seen_logs_agree kind opening core c d good in_c in_d =
      let one = (good.slots.slots c in_c).seen.prefix in
      let other = (good.slots.slots d in_d).seen.prefix in
      let all = fronts_agree kind opening core (slot_of core c).seen (slot_of core d).seen d good one other in_d in
      (all.0, all.2)
