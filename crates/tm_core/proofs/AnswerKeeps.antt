-- An answer keeps the slots good: that of its own place, and those of others, whose log only grew.
use Rattle.std.proofs.Common.{◌≡◌, ◌≢◌, ℕ, ◌+◌, ◌<◌, ◌≤◌, Bool, true, false, not, List, [], ◌∷◌, ◌++◌, length, inl, inr, refl, sym, ◌∙◌, ap, subst, arith, add-zero, zero-add, eq-eqb, length-append, append_assoc, append-nil}
use Rattle.tm_model.specs.Slots.{Box, Empty, Asked, Taken, Answered, Slot, slot_of, answered}
use Rattle.tm_model.specs.GoodSlots.{Mark, Ran, Left, Other, IsOf, IsRunOf, ran_by, left_by, IsSettled, IsLastBehind, Agrees, Reached, HasSeen, Shows, IsLate, IsGoodSlot, Adds, left_before, AnswerKeepsSlots}
use Rattle.tm_core.proofs.Keeps.{replaced}
use Rattle.tm_core.proofs.Lists.{prefix_more, prefix_length, split}
use Rattle.tm_core.proofs.Marks.{AreNotOf, ran-append, left-append, settled-append, settled_behind, ran_none, left_none, settled_none, not_of-append, not_of_at, none_not_of, batch_ran, batch_left, batch_settled, batch_not_of}

equal_not : (a b : Bool) → a ≢ b → a ≡ not b
equal_not true true h = absurd (h refl)
equal_not true false h = refl
equal_not false true h = refl
equal_not false false h = absurd (h refl)

module _ {Q G E : Type 0} (mark : E → Mark Q) (out : ℕ → List E → List G) (legal : List E → Type 0) where
  abbrev IsGood : List E → ℕ → Slot Q G E → Type 0
  IsGood log c slot = IsGoodSlot mark out legal log c slot

  agrees_same :
      (box : Box Q G E) (slot : Slot Q G E) (d : ℕ) (log longer : List E) → ran_by mark d longer ≡ ran_by mark d log
      → Agrees mark out legal box slot d log → Agrees mark out legal box slot d longer
  agrees_same Empty slot d log longer e (words, sent) = (words, sent ∙ sym e)
  agrees_same (Asked b room) slot d log longer e (words, sent) = (words, sent ∙ ap (λ l. l ++ b) (sym e))
  agrees_same (Taken b room) slot d log longer e (words, sent) = (words, sent ∙ ap (λ l. l ++ b) (sym e))
  agrees_same (Answered a upto room) slot d log longer e (words, sent) = (words, sent ∙ sym e)

  reached_same :
      (box : Box Q G E) (slot : Slot Q G E) (d : ℕ) (log longer : List E) → out d longer ≡ out d log
      → Reached mark out legal box slot d log → Reached mark out legal box slot d longer
  reached_same Empty slot d log longer e got = e ∙ got
  reached_same (Asked b room) slot d log longer e got = e ∙ got
  reached_same (Taken b room) slot d log longer e got = e ∙ got
  reached_same (Answered a upto room) slot d log longer e got = e ∙ got

  shows_more :
      (box : Box Q G E) (slot : Slot Q G E) (d : ℕ) (log es : List E)
      → Shows mark out legal box slot d log → Shows mark out legal box slot d (log ++ es)
  shows_more Empty slot d log es shown = tt
  shows_more (Asked b room) slot d log es shown = tt
  shows_more (Taken b room) slot d log es shown = tt
  shows_more (Answered a upto room) slot d log es shown = record {
    prefix = prefix_more upto log es shown.prefix;
    is_legal = shown.is_legal;
    runs = shown.runs;
    leaves = shown.leaves;
    grown = shown.grown;
  }

  -- the last batch of a place stands where it stood, if the log grew by entries that are not its own
  last_behind_more :
      (floor d : ℕ) (log es : List E) → AreNotOf mark d es → IsLastBehind mark floor d log → IsLastBehind mark floor d (log ++ es)
  last_behind_more floor d log es not late before after e is of last =
      elim (split log es before e after is) [
        | inl (mid, in_log, rest) ↦
            let same : left_by mark d (e ∷ after) ≡ left_by mark d (e ∷ mid) =
            ap (λ l. left_by mark d (e ∷ l)) rest ∙ left-append mark d (e ∷ mid) es ∙ ap (λ n. left_by mark d (e ∷ mid) + n) (left_none mark d es not)
            ∙ add-zero _ in
            late before mid e in_log of (sym same ∙ last)
        | inr (mid, past, in_es) ↦ absurd (not_of_at mark d mid e after (subst (λ l. AreNotOf mark d l) in_es not) of)
      ]

  late_more :
      (box : Box Q G E) (slot : Slot Q G E) (d : ℕ) (log es : List E) → AreNotOf mark d es
      → IsLate mark out legal box slot d log → IsLate mark out legal box slot d (log ++ es)
  late_more Empty slot d log es not late = last_behind_more slot.floor d log es not late
  late_more (Asked b room) slot d log es not late = tt
  late_more (Taken b room) slot d log es not late = tt
  late_more (Answered a upto room) slot d log es not late = last_behind_more slot.floor d log es not late

  -- a log that grows by entries that are not of a place ran the same for it
  pub ran_more : (log es : List E) (c : ℕ) → AreNotOf mark c es → ran_by mark c (log ++ es) ≡ ran_by mark c log
  ran_more log es c not = ran-append mark c log es ∙ ap (λ l. ran_by mark c log ++ l) (ran_none mark c es not) ∙ append-nil _

  -- a place stays good where the log grows by entries that are not its own
  others_good :
      (log es : List E) (d : ℕ) (slot : Slot Q G E) → AreNotOf mark d es → out d (log ++ es) ≡ out d log
      → IsGood log d slot → IsGood (log ++ es) d slot
  others_good log es d slot not same was =
      let ran_is : ran_by mark d (log ++ es) ≡ ran_by mark d log = ran_more log es d not in
      let longer : length log ≤ length (log ++ es) = prefix_length log (log ++ es) (es, refl) in
      let low : slot.floor ≤ length log = was.floor in
      record {
        agrees = agrees_same slot.box slot d log (log ++ es) ran_is was.agrees;
        reached = reached_same slot.box slot d log (log ++ es) same was.reached;
        seen = record {
          prefix = prefix_more _ _ es was.seen.prefix;
          is_legal = was.seen.is_legal;
          leaves = was.seen.leaves;
          cut = was.seen.cut;
          runs = was.seen.runs;
        };
        shows = shows_more slot.box slot d log es was.shows;
        floor = omega arith;
        late = late_more slot.box slot d log es not was.late;
        settled = settled-append mark d log es was.settled (settled_none mark d es not);
      }

  -- behind an entry of place c that is settled, a batch of c left
  left_at : (c : ℕ) (e : E) (after : List E) → IsOf c (mark e) → IsSettled mark c (e ∷ after) → 0 < left_by mark c (e ∷ after)
  left_at c e after of settled =
      elim (mark e) as (λ m. IsOf c m → (IsRunOf c m → 0 < left_by mark c after) → 0 < left_before c m (left_by mark c after)) [
        | Ran d q ↦ λ of runs. runs of
        | Left d room ↦ λ of runs. rw (eq-eqb d c of) (omega arith)
        | Other ↦ λ of runs. absurd of
      ] of settled.0

  -- the last batch of a place stands behind a log that its answers to it make longer
  last_is_new :
      (floor c : ℕ) (log es : List E) → floor ≤ length log → IsSettled mark c log → left_by mark c es ≡ 1 → IsLastBehind mark floor c (log ++ es)
  last_is_new floor c log es low settled one before after e is of last =
      elim (split log es before e after is) [
        | inl (mid, in_log, rest) ↦
            let some : 0 < left_by mark c (e ∷ mid) = left_at c e mid of (settled_behind mark c before (e ∷ mid) (subst (λ l. IsSettled mark c l) in_log settled)) in
            let more : left_by mark c (e ∷ after) ≡ left_by mark c (e ∷ mid) + left_by mark c es =
            ap (λ l. left_by mark c (e ∷ l)) rest ∙ left-append mark c (e ∷ mid) es in
            absurd (omega (arith, some, more, one, last))
        | inr (mid, past, in_es) ↦ rw (past, length-append) (omega (arith, low))
      ]

  module _ (log es : List E) (c : ℕ) (b : List Q) (room : ℕ) (a : G) (adds : Adds mark out legal c b room a log es) where
    -- what an answer adds is of no other place
    pub added_not_of : (d : ℕ) → d ≢ c → AreNotOf mark d es
    added_not_of d ne =
        let (more, own, is, none, is_batch) = adds.grows in
        rw is (not_of-append mark d more own (none_not_of mark d more none) (batch_not_of mark c room d ne b own is_batch))

    added_ran : ran_by mark c (log ++ es) ≡ ran_by mark c log ++ b
    added_ran =
        let (more, own, is, none, is_batch) = adds.grows in
        ran-append mark c log es
        ∙ ap (λ l. ran_by mark c log ++ l)
        (ap (ran_by mark c) is ∙ ran-append mark c more own
        ∙ ap (λ l. l ++ ran_by mark c own) (ran_none mark c more (none_not_of mark c more none)) ∙ batch_ran mark c room b own is_batch)

    added_left : left_by mark c es ≡ 1
    added_left =
        let (more, own, is, none, is_batch) = adds.grows in
        ap (left_by mark c) is ∙ left-append mark c more own
        ∙ ap (λ n. n + left_by mark c own) (left_none mark c more (none_not_of mark c more none)) ∙ zero-add _ ∙ batch_left mark c room b own is_batch

    added_settled : IsSettled mark c es
    added_settled =
        let (more, own, is, none, is_batch) = adds.grows in
        rw is (settled-append mark c more own (settled_none mark c more (none_not_of mark c more none)) (batch_settled mark c room b own is_batch))

    joined : (xs rest more own : List E) → log ≡ xs ++ rest → es ≡ more ++ own → log ++ es ≡ xs ++ (rest ++ more) ++ own
    joined xs rest more own begins is =
        rw (begins, is, append_assoc xs rest (more ++ own), ← append_assoc rest more own, ← append_assoc xs (rest ++ more) own) refl

    answered_good :
        (slot : Slot Q G E) → IsGood log c slot → Agrees mark out legal (Taken b room) slot c log
        → Reached mark out legal (Taken b room) slot c log → HasSeen mark out legal (Taken b room) slot c
        → IsGood (log ++ es) c (answered a (log ++ es) room slot)
    answered_good slot was agrees reached seen =
        let sent_is : slot.sent ≡ ran_by mark c (log ++ es) = agrees.1 ∙ sym added_ran in
        let out_is : out c (log ++ es) ≡ slot.got ++ a ∷ [] = adds.leaves ∙ ap (λ l. l ++ a ∷ []) reached in
        let longer : length log ≤ length (log ++ es) = prefix_length log (log ++ es) (es, refl) in
        let low : slot.floor ≤ length log = was.floor in
        let (rest, begins) = was.seen.prefix in
        let (more, own, is, none, is_batch) = adds.grows in
        let before : ran_by mark c (slot.seen ++ (rest ++ more)) ≡ ran_by mark c log =
        ap (ran_by mark c) (sym (append_assoc slot.seen rest more) ∙ ap (λ l. l ++ more) (sym begins)) ∙ ran_more log more c (none_not_of mark c more none) in
        record {
          agrees = (equal_not slot.request_word slot.response_word agrees.0, sent_is);
          reached = out_is;
          seen = record {
            prefix = prefix_more _ _ es was.seen.prefix;
            is_legal = was.seen.is_legal;
            leaves = was.seen.leaves;
            cut = was.seen.cut;
            runs = (b, seen);
          };
          shows = record {
            prefix = ([], sym (append-nil (log ++ es)));
            is_legal = adds.is_legal;
            runs = sent_is;
            leaves = out_is;
            grown = (rest ++ more, own, b, joined slot.seen rest more own begins is, is_batch, agrees.1 ∙ ap (λ l. l ++ b) (sym before));
          };
          floor = omega arith;
          late = last_is_new slot.floor c log es low was.settled added_left;
          settled = settled-append mark c log es was.settled added_settled;
        }

  pub answer_keeps : AnswerKeepsSlots mark out legal
  answer_keeps core c b room a es may adds good =
      let slot = slot_of core c in
      let was : IsGood core.log c slot = good.slots c may.in_range in
      let agrees : Agrees mark out legal (Taken b room) slot c core.log = subst (λ box. Agrees mark out legal box slot c core.log) may.is_taken was.agrees in
      let reached : Reached mark out legal (Taken b room) slot c core.log = subst (λ box. Reached mark out legal box slot c core.log) may.is_taken was.reached in
      let seen : HasSeen mark out legal (Taken b room) slot c = subst (λ box. HasSeen mark out legal box slot c) may.is_taken was.seen.runs in
      record {
        is_legal = adds.is_legal;
        slots = replaced mark out legal core.log (core.log ++ es) core.slots c (answered a (core.log ++ es) room slot) may.in_range
            (answered_good core.log es c b room a adds slot was agrees reached seen)
            (λ d ne s h. others_good core.log es d s (added_not_of core.log es c b room a adds d ne) (adds.leaves_other d ne) h)
            good.slots;
      }
