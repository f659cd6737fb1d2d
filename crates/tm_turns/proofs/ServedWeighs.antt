-- What serving the places of a table makes of the weight of the batches that wait there and of the work that was accepted.
use Rattle.std.proofs.Common.{◌≡◌, ◌≢◌, ℕ, zero, suc, ◌+◌, ◌≤◌, ◌<◌, ◌⊎◌, inl, inr, List, [], ◌++◌, true, refl, sym, ◌∙◌, ap, subst, arith, get_or-set_other}
use Rattle.std.specs.Prelude.{IsSomeAnd}
use Rattle.std.specs.declared.option.Option.{Option}
use Rattle.std.proofs.lemmas.Bool.{cases_eq}
use Rattle.tm_seq.specs.Kind.{Kind}
use Rattle.tm_batch.specs.declared.message.Request.{Request}
use Rattle.tm_batch.specs.declared.message.AnswerBatch.{AnswerBatch}
use Rattle.tm_model.specs.declared.entry.Entry.{Entry}
use Rattle.tm_model.specs.State.{State, place_count}
use Rattle.tm_model.specs.Slots.{Empty, Asked, Taken, Answered, no_slot, slot_of, is_asked, see}
use Rattle.tm_model.specs.Entries.{added}
use Rattle.tm_model.specs.Good.{FullBox, FullCore, FullSlot}
use Rattle.tm_pair.specs.Views.{BatchView}
use Rattle.tm_pair.specs.Moves.{answer_taken}
use Rattle.tm_pair.specs.Sides.{IsGoodTrustee}
use Rattle.tm_pair.specs.Plain.{opening_at, core_at, trustee_at, IsTrusteeOf, plain_theory}
use Rattle.tm_pair.specs.declared.plain.PlainTable.{PlainTable}
use Rattle.tm_pair.specs.declared.plain.PlainTrustee.{PlainTrustee}
use Rattle.tm_trustee.specs.Places.{ServesPlace, ServesBelow}
use Rattle.tm_trustee.proofs.Serving.{taken_in_hand}
use Rattle.tm_turns.proofs.Works.{begun}
use Rattle.tm_turns.proofs.Light.{pending, batch_weight, light_batch, work_of, box_weight, slot_weight, core_weight, see_weighs, answer_weighs, added_begun}

module _ {V O R T : Type 0} where
  -- a batch that is asked in a slot is light
  abbrev pub IsLightSlot : FullSlot V O R T → Type 0
  IsLightSlot slot = (b : List (Request V O R T)) (room : ℕ) → slot.box ≡ Asked b room → (b ≡ []) × (1 ≤ pending slot.sent slot.got)

  see_other : (c k : ℕ) (core : FullCore V O R T) → k ≢ c → slot_of (see c core) k ≡ slot_of core k
  see_other c k core ne = get_or-set_other core.slots c k _ no_slot ne

  answer_other :
      (c k : ℕ) (resumes : List (Entry V O R T)) (a : AnswerBatch V O R T) (box : FullBox V O R T) (core : FullCore V O R T) → k ≢ c
      → slot_of (answer_taken box c resumes a core) k ≡ slot_of core k
  answer_other c k resumes a Empty core ne = refl
  answer_other c k resumes a (Asked b room) core ne = refl
  answer_other c k resumes a (Taken b room) core ne = get_or-set_other core.slots c k _ no_slot ne
  answer_other c k resumes a (Answered x upto room) core ne = refl

  pub asked_same : (b d : List (Request V O R T)) (m n : ℕ) (box : FullBox V O R T) → box ≡ Asked b m → box ≡ Asked d n → d ≡ b
  asked_same b d m n box e f =
      let same : Asked d n ≡ Asked b m = sym f ∙ e in cc

  module _ (kind : Kind V O R T) (opening : State V O R T) where
    pub place_other :
        (c k : ℕ) (was now : PlainTable V O R T) (old new : PlainTrustee V O R T) → ServesPlace (plain_theory kind) kind opening c was now old new → k ≢ c
        → slot_of (core_at now) k ≡ slot_of (core_at was) k
    place_other c k was now old new (inl passes) ne =
        ap (λ (core : FullCore V O R T). slot_of core k) passes.saw.core ∙ see_other c k (core_at was) ne
    place_other c k was now old new (inr answers) ne =
        let r = answers.replied in
        ap (λ (core : FullCore V O R T). slot_of core k) r.did.core
        ∙ answer_other c k r.resumes r.answers (slot_of (core_at answers.between) c).box (core_at answers.between) ne
        ∙ ap (λ (core : FullCore V O R T). slot_of core k) answers.saw.core ∙ see_other c k (core_at was) ne

    -- the places that were not served stay
    pub places_other :
        (n k : ℕ) (was now : PlainTable V O R T) (old new : PlainTrustee V O R T) → ServesBelow (plain_theory kind) kind opening n was now old new → n ≤ k
        → slot_of (core_at now) k ≡ slot_of (core_at was) k
    unfolding ServesBelow
    places_other zero k was now old new none le = ap (λ (x : PlainTable V O R T). slot_of (core_at x) k) none.0
    places_other (suc n) k was now old new serves le =
        let (between, mid, below, mine, here) = serves in
        place_other n k between now mid new here (λ e. absurd (omega (arith, e, le))) ∙ places_other n k was between old mid below (omega (arith, le))

    pub place_opens :
        (c : ℕ) (was now : PlainTable V O R T) (old new : PlainTrustee V O R T) → ServesPlace (plain_theory kind) kind opening c was now old new
        → opening_at now ≡ opening_at was
    place_opens c was now old new (inl passes) = passes.keeps.opening
    place_opens c was now old new (inr answers) = answers.replied.keeps.opening ∙ answers.keeps.opening

    pub below_opens :
        (n : ℕ) (was now : PlainTable V O R T) (old new : PlainTrustee V O R T) → ServesBelow (plain_theory kind) kind opening n was now old new
        → opening_at now ≡ opening_at was
    unfolding ServesBelow
    below_opens zero was now old new none = ap (λ (x : PlainTable V O R T). opening_at x) none.0
    below_opens (suc n) was now old new (between, mid, below, mine, here) =
        place_opens n between now mid new here ∙ below_opens n was between old mid below

    -- what a table and its trustee's log weigh
    abbrev pub weighs : PlainTable V O R T → PlainTrustee V O R T → ℕ
    weighs table side = core_weight kind (core_at table) + begun kind (trustee_at side).log

    place_weighs :
        (c : ℕ) (was now : PlainTable V O R T) (old new : PlainTrustee V O R T) → ServesPlace (plain_theory kind) kind opening c was now old new
        → IsTrusteeOf kind was old → opening_at was ≡ opening → c < place_count opening.setup
        → (weighs now new + 1 ≤ weighs was old) ⊎ ((weighs now new ≤ weighs was old) × IsLightSlot (slot_of (core_at was) c))
    place_weighs c was now old new (inl passes) mine opens lt =
        let falls = see_weighs kind (core_at was) c in
        let saw : core_weight kind (core_at now) + slot_weight kind (slot_of (core_at was) c) ≤ core_weight kind (core_at was) =
        subst (λ (core : FullCore V O R T). core_weight kind core + slot_weight kind (slot_of (core_at was) c) ≤ core_weight kind (core_at was)) (sym passes.saw.core) falls in
        let log = ap (begun kind) passes.sees.log in
        inr (
          omega (arith, saw, log),
          λ b room e. absurd (let yes : is_asked (slot_of (core_at was) c).box ≡ true = ap (λ x. is_asked x) e in let no = passes.saw.may in cc),
        )
    place_weighs c was now old new (inr answers) mine opens lt =
        let slot = slot_of (core_at was) c in
        let batch = answers.batch in
        let b = batch.requests.items in
        let r = answers.replied in
        let good : IsGoodTrustee kind opening (trustee_at old) = subst (λ s. IsGoodTrustee kind s (trustee_at old)) opens mine.is_good in
        let hand = taken_in_hand kind opening (trustee_at old) (trustee_at answers.mid) c batch good lt answers.takes in
        let p : ℕ = pending slot.sent slot.got in
        let falls = see_weighs kind (core_at was) c in
        let saw : core_weight kind (core_at answers.between) + slot_weight kind slot ≤ core_weight kind (core_at was) =
        subst (λ (core : FullCore V O R T). core_weight kind core + slot_weight kind slot ≤ core_weight kind (core_at was)) (sym answers.saw.core) falls in
        let own : slot_weight kind slot ≡ batch_weight p b + work_of kind b = ap (λ (x : FullBox V O R T). box_weight kind p x) answers.saw.may in
        let then = answer_weighs kind (core_at answers.between) c r.resumes r.answers (slot_of (core_at answers.between) c).box in
        let after : core_weight kind (core_at now) ≤ core_weight kind (core_at answers.between) =
        subst (λ (core : FullCore V O R T). core_weight kind core ≤ core_weight kind (core_at answers.between)) (sym r.did.core) then in
        let log : (trustee_at new).log ≡ (trustee_at answers.mid).log ++ added (trustee_at answers.mid).log r.resumes c b batch.room r.answers.answers.items =
        subst (λ (o : Option (BatchView V O R T)). IsSomeAnd o (λ h. (trustee_at new).log ≡ (trustee_at answers.mid).log ++ added (trustee_at answers.mid).log r.resumes c h.requests h.room r.answers.answers.items)) hand
        r.answered.log in
        let begins = ap (begun kind) log in
        let more = added_begun kind (trustee_at answers.mid).log r.resumes c b batch.room r.answers.answers.items r.only in
        let same = ap (begun kind) answers.takes.log in
        elim (cases_eq (batch_weight p b) 0) [
          | inl nothing ↦
              let light = light_batch p b nothing in
              inr (
                omega (arith, saw, own, after, begins, more, same),
                λ d room e. (asked_same b d batch.room room slot.box answers.saw.may e ∙ light.0, light.1),
              )
          | inr something ↦ inl (omega (arith, saw, own, after, begins, more, same, something))
        ]

    -- serving the places below n lessens it, or each batch that was found was light
    pub places_weigh :
        (n : ℕ) (was now : PlainTable V O R T) (old new : PlainTrustee V O R T) → ServesBelow (plain_theory kind) kind opening n was now old new
        → IsTrusteeOf kind was old → opening_at was ≡ opening → n ≤ place_count opening.setup
        → ((weighs now new + 1 ≤ weighs was old)
        ⊎ ((weighs now new ≤ weighs was old) × ((c : ℕ) → c < n → IsLightSlot (slot_of (core_at was) c))))
        × (opening_at now ≡ opening_at was)
    unfolding ServesBelow
    places_weigh zero was now old new none mine opens most =
        let table : core_weight kind (core_at now) ≡ core_weight kind (core_at was) = ap (λ (x : PlainTable V O R T). core_weight kind (core_at x)) none.0 in
        let log : begun kind (trustee_at new).log ≡ begun kind (trustee_at old).log = ap (λ (x : PlainTrustee V O R T). begun kind (trustee_at x).log) none.1 in
        (inr (omega (arith, table, log), λ c lt. absurd (omega (arith, lt))), ap (λ (x : PlainTable V O R T). opening_at x) none.0)
    places_weigh (suc n) was now old new serves mine opens most =
        let (between, mid, below, its, here) = serves in
        let (rest, kept) = places_weigh n was between old mid below mine opens (omega (arith, most)) in
        let one = place_weighs n between now mid new here its (kept ∙ opens) (omega (arith, most)) in
        let stays = places_other n n was between old mid below (omega arith) in (
          elim rest [
            | inl less ↦ elim one [ inl l ↦ inl (omega (arith, less, l)) | inr (l, light) ↦ inl (omega (arith, less, l)) ]
            | inr (no_more, lights) ↦
                elim one [
                  | inl l ↦ inl (omega (arith, no_more, l))
                  | inr (l, light) ↦
                      inr (
                        omega (arith, no_more, l),
                        λ c lt. elim (cases_eq c n) [
                          | inl e ↦ subst (λ k. IsLightSlot (slot_of (core_at was) k)) (sym e) (subst IsLightSlot stays light)
                          | inr ne ↦ lights c (omega (arith, lt, ne))
                        ],
                      )
                ]
          ],
          place_opens n between now mid new here ∙ kept,
        )
