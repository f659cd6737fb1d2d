-- The answers that left for a place, and then those that wait, are the answers that the log has for it; none waits in a settled log.
-- Other crates import from this file.
use Rattle.std.proofs.Common.{◌≡◌, ℕ, ◌+◌, ◌<◌, Bool, true, false, cond, List, [], ◌∷◌, ◌++◌, length, inl, inr, refl, sym, ◌∙◌, ap, arith, eq-eqb, ne_eqb, append_assoc, append-nil}
use Rattle.std.specs.Prelude.{◌==◌}
use Rattle.std.proofs.lemmas.Bool.{cases_eq}
use Rattle.tm_seq.specs.Kind.{Kind}
use Rattle.tm_batch.specs.declared.message.Answer.{Answer}
use Rattle.tm_model.specs.declared.entry.Entry.{Entry}
use Rattle.tm_model.specs.declared.entry.Entry.TheVariants.{By, Resume, Sent}
use Rattle.tm_model.specs.State.{State}
use Rattle.tm_model.specs.Serve.{after}
use Rattle.tm_model.specs.GoodSlots.{IsSettled, left_by}
use Rattle.tm_model.specs.Ran.{mark_of, ran, answered, waiting_after}
use Rattle.tm_model.specs.Batches.{leaving, batches_from}
use Rattle.tm_model.specs.Holds.{answers_in}
use Rattle.tm_model.specs.Laws.{BatchesHaveAllAnswers}

cond_length : {X Y : Type 0} (t : Bool) (x : X) (y : Y) (l : List X) (m : List Y) → length l ≡ length m → length (cond t (x ∷ l) l) ≡ length (cond t (y ∷ m) m)
cond_length true x y l m e = omega (arith, e)
cond_length false x y l m e = e

module _ {V O R T : Type 0} where
  all_answers :
      (kind : Kind V O R T) (c n : ℕ) (w : List (Answer V O R T)) (s : State V O R T) (es : List (Entry V O R T))
      → answers_in (batches_from kind c n w s es) ++ waiting_after c w es ≡ w ++ answered c es
  all_answers kind c n w s [] = sym (append-nil w)
  all_answers kind c n w s (By d k q a ∷ es) =
      all_answers kind c (n + 1) (cond (d == c) (w ++ a ∷ []) w) (after kind s (By d k q a)) es
      ∙ (elim (d == c) as (λ t. cond t (w ++ a ∷ []) w ++ answered c es ≡ w ++ cond t (a ∷ answered c es) (answered c es)) [
        | true ↦ append_assoc w (a ∷ []) (answered c es)
        | false ↦ refl
      ])
  all_answers kind c n w s (Resume id ticket event next ∷ es) = all_answers kind c (n + 1) w (after kind s (Resume id ticket event next)) es
  all_answers kind c n w s (Sent d room ∷ es) =
      let s' = after kind s (Sent d room) in
      elim (d == c) as
      (λ t. answers_in (cond t (leaving c room (n + 1) w s ∷ batches_from kind c (n + 1) [] s' es) (batches_from kind c (n + 1) w s' es))
      ++ waiting_after c (cond t [] w) es ≡ w ++ answered c es) [
        | true ↦
            append_assoc w (answers_in (batches_from kind c (n + 1) [] s' es)) (waiting_after c [] es)
            ∙ ap (λ l. w ++ l) (all_answers kind c (n + 1) [] s' es)
        | false ↦ all_answers kind c (n + 1) w s' es
      ]

  pub as_many : (c : ℕ) (es : List (Entry V O R T)) → length (answered c es) ≡ length (ran c es)
  as_many c [] = refl
  as_many c (By d k q a ∷ es) = cond_length (d == c) a q (answered c es) (ran c es) (as_many c es)
  as_many c (Resume id ticket event next ∷ es) = as_many c es
  as_many c (Sent d room ∷ es) = as_many c es

  -- behind a settled log nothing waits but what waited before, and not even that where a batch left
  record Waits (c : ℕ) (w : List (Answer V O R T)) (log : List (Entry V O R T)) : Type 0 where
    some : 0 < left_by mark_of c log → waiting_after c w log ≡ []
    none : left_by mark_of c log ≡ 0 → waiting_after c w log ≡ w

  settled_then : {c : ℕ} {log : List (Entry V O R T)} → Waits c [] log → waiting_after c [] log ≡ []
  settled_then {c} {log} all =
      elim (cases_eq (left_by mark_of c log) 0) [ inl e ↦ all.none e | inr ne ↦ all.some (omega (arith, ne)) ]

  settled_waits : (c : ℕ) (w : List (Answer V O R T)) (log : List (Entry V O R T)) → IsSettled mark_of c log → Waits c w log
  settled_waits c w [] h = record { some = λ lt. absurd (omega (arith, lt)); none = λ e. refl }
  settled_waits c w (By d k q a ∷ es) h =
      elim (cases_eq d c) [
        | inl is ↦
            let left : 0 < left_by mark_of c es = h.0 is in
            let more = settled_waits c (cond (d == c) (w ++ a ∷ []) w) es h.1 in
            record { some = λ lt. more.some left; none = λ e. absurd (omega (arith, left, e)) }
        | inr ne ↦
            let more = settled_waits c w es h.1 in
            let same : cond (d == c) (w ++ a ∷ []) w ≡ w = ap (λ t. cond t (w ++ a ∷ []) w) (ne_eqb d c ne) in
            record {
              some = λ lt. ap (λ v. waiting_after c v es) same ∙ more.some lt;
              none = λ e. ap (λ v. waiting_after c v es) same ∙ more.none e;
            }
      ]
  settled_waits c w (Resume id ticket event next ∷ es) h =
      let more = settled_waits c w es h.1 in
      record { some = λ lt. more.some lt; none = λ e. more.none e }
  settled_waits c w (Sent d room ∷ es) h =
      let n = left_by mark_of c es in
      elim (cases_eq d c) [
        | inl is ↦
            let more = settled_waits c [] es h.1 in
            let gone : cond (d == c) [] w ≡ [] = ap (λ t. cond t [] w) (eq-eqb d c is) in
            let left : cond (d == c) (n + 1) n ≡ n + 1 = ap (λ t. cond t (n + 1) n) (eq-eqb d c is) in
            record {
              some = λ lt. ap (λ v. waiting_after c v es) gone ∙ settled_then more;
              none = λ e. absurd (omega (arith, left, e));
            }
        | inr ne ↦
            let more = settled_waits c w es h.1 in
            let same : cond (d == c) [] w ≡ w = ap (λ t. cond t [] w) (ne_eqb d c ne) in
            let left : cond (d == c) (n + 1) n ≡ n = ap (λ t. cond t (n + 1) n) (ne_eqb d c ne) in
            record {
              some = λ lt. ap (λ v. waiting_after c v es) same ∙ more.some (omega (arith, lt, left));
              none = λ e. ap (λ v. waiting_after c v es) same ∙ more.none (omega (arith, e, left));
            }
      ]

  pub settled_none_waits : (c : ℕ) (log : List (Entry V O R T)) → IsSettled mark_of c log → waiting_after c [] log ≡ []
  settled_none_waits c log h = settled_then (settled_waits c [] log h)

  pub batches_have_all_answers : (kind : Kind V O R T) → BatchesHaveAllAnswers kind
  batches_have_all_answers kind = λ opening log c. (all_answers kind c 0 [] opening log, as_many c log, settled_none_waits c log)
