-- A batch of numbers that is answered makes the log grow by that batch.
use Rattle.std.proofs.Common.{◌≡◌, ◌≢◌, ℕ, zero, suc, ◌+◌, ◌<◌, Bool, true, false, cond, List, [], ◌∷◌, ◌++◌, length, inl, inr, refl, sym, ◌∙◌, ap, arith, eq-eqb, ne_eqb, append_assoc, append-nil, length-append, add-zero, zero-add}
use Rattle.std.specs.Prelude.{◌==◌}
use Rattle.std.specs.List.{range_with_len}
use Rattle.std.proofs.lemmas.Bool.{cases_eq}
use Rattle.tm_model.specs.GoodSlots.{Ran, left_by, IsSettled, IsBatchOf, Adds}
use Rattle.tm_core.specs.Numbers.{Logged, By, Sent, mark_of, ran, numbers, IsNumbered, batches_from, batches, entries_by, batch_entries}
use Rattle.tm_core.proofs.Marks.{ran-append, ran_none, batch_ran, batch_not_of}

pub entries_are_batch :
    (c k : ℕ) (b answers : List ℕ) → length answers ≡ length b → IsBatchOf mark_of c b 0 (entries_by c k b answers ++ Sent c ∷ [])
entries_are_batch c k [] answers e = refl
entries_are_batch c k (q ∷ b) [] e = absurd cc
entries_are_batch c k (q ∷ b) (a ∷ answers) e =
    ap (λ l. Ran c q ∷ l) (entries_are_batch c (k + 1) b answers (omega (arith, e)))

module _ (log : List Logged) (c : ℕ) (b answers : List ℕ) (many : length answers ≡ length b) where
  pub batch_ran_own : ran c (log ++ batch_entries log c b answers) ≡ ran c log ++ b
  batch_ran_own =
      ran-append mark_of c log (batch_entries log c b answers)
      ∙ ap (λ l. ran c log ++ l) (batch_ran mark_of c 0 b _ (entries_are_batch c (length (ran c log)) b answers many))

  pub batch_ran_other : (d : ℕ) → d ≢ c → ran d (log ++ batch_entries log c b answers) ≡ ran d log
  batch_ran_other d ne =
      ran-append mark_of d log (batch_entries log c b answers)
      ∙ ap (λ l. ran d log ++ l)
      (ran_none mark_of d _ (batch_not_of mark_of c 0 d ne b _ (entries_are_batch c (length (ran c log)) b answers many)))
      ∙ append-nil _

cond_append : {X : Type 0} (t : Bool) (x : X) (l r : List X) → cond t (x ∷ (l ++ r)) (l ++ r) ≡ cond t (x ∷ l) l ++ r
cond_append true x l r = refl
cond_append false x l r = refl

numbers-append : (c : ℕ) (xs ys : List Logged) → numbers c (xs ++ ys) ≡ numbers c xs ++ numbers c ys
numbers-append c [] ys = refl
numbers-append c (By d k q a ∷ xs) ys =
    ap (λ l. cond (d == c) (k ∷ l) l) (numbers-append c xs ys) ∙ cond_append (d == c) k (numbers c xs) (numbers c ys)
numbers-append c (Sent d ∷ xs) ys = numbers-append c xs ys

numbers_own :
    (c k : ℕ) (b answers : List ℕ) → length answers ≡ length b → numbers c (entries_by c k b answers ++ Sent c ∷ []) ≡ range_with_len k (length b)
numbers_own c k [] answers e = refl
numbers_own c k (q ∷ b) [] e = absurd cc
numbers_own c k (q ∷ b) (a ∷ answers) e =
    rw (eq-eqb c c refl) (ap (λ l. k ∷ l) (numbers_own c (k + 1) b answers (omega (arith, e))))

numbers_other : (d c k : ℕ) → d ≢ c → (b answers : List ℕ) → numbers d (entries_by c k b answers ++ Sent c ∷ []) ≡ []
numbers_other d c k ne [] answers = refl
numbers_other d c k ne (q ∷ b) [] = refl
numbers_other d c k ne (q ∷ b) (a ∷ answers) = rw (ne_eqb c d (λ e. ne (sym e))) (numbers_other d c (k + 1) ne b answers)

range_plus : (k n m : ℕ) → range_with_len k (n + m) ≡ range_with_len k n ++ range_with_len (k + n) m
range_plus k zero m = rw (zero-add, add-zero) refl
range_plus k (suc n) m =
    let e : suc n + m ≡ suc (n + m) = omega arith in
    rw e
    (ap (λ l. k ∷ l)
    (range_plus (k + 1) n m ∙ ap (λ j. range_with_len (k + 1) n ++ range_with_len j m) (let j : k + 1 + n ≡ k + suc n = omega arith in j)))

-- the answers that have not left for place c after some entries
abbrev waits : ℕ → List ℕ → List Logged → List ℕ
waits c w [] = w
waits c w (By d k q a ∷ es) = waits c (cond (d == c) (w ++ a ∷ []) w) es
waits c w (Sent d ∷ es) = waits c (cond (d == c) [] w) es

cond_cons_append : {X : Type 0} (t : Bool) (x : X) (l m r : List X) → cond t (x ∷ (l ++ r)) (m ++ r) ≡ cond t (x ∷ l) m ++ r
cond_cons_append true x l m r = refl
cond_cons_append false x l m r = refl

batches-append : (c : ℕ) (w : List ℕ) (xs ys : List Logged) → batches_from c w (xs ++ ys) ≡ batches_from c w xs ++ batches_from c (waits c w xs) ys
batches-append c w [] ys = refl
batches-append c w (By d k q a ∷ xs) ys = batches-append c (cond (d == c) (w ++ a ∷ []) w) xs ys
batches-append c w (Sent d ∷ xs) ys =
    elim (d == c) as
    (λ t. cond t (w ∷ batches_from c [] (xs ++ ys)) (batches_from c w (xs ++ ys))
    ≡ cond t (w ∷ batches_from c [] xs) (batches_from c w xs) ++ batches_from c (waits c (cond t [] w) xs) ys) [
      | true ↦ ap (λ l. w ∷ l) (batches-append c [] xs ys)
      | false ↦ batches-append c w xs ys
    ]

batches_own :
    (c k : ℕ) (w b answers : List ℕ) → length answers ≡ length b → batches_from c w (entries_by c k b answers ++ Sent c ∷ []) ≡ (w ++ answers) ∷ []
batches_own c k w [] [] e = rw (eq-eqb c c refl, append-nil w) refl
batches_own c k w [] (a ∷ answers) e = absurd cc
batches_own c k w (q ∷ b) [] e = absurd cc
batches_own c k w (q ∷ b) (a ∷ answers) e =
    let own : cond (c == c) (w ++ a ∷ []) w ≡ w ++ a ∷ [] = ap (λ t. cond t (w ++ a ∷ []) w) (eq-eqb c c refl) in
    ap (λ v. batches_from c v (entries_by c (k + 1) b answers ++ Sent c ∷ [])) own
    ∙ batches_own c (k + 1) (w ++ a ∷ []) b answers (omega (arith, e))
    ∙ ap (λ l. l ∷ []) (append_assoc w (a ∷ []) answers)

batches_other : (d c k : ℕ) (w : List ℕ) → d ≢ c → (b answers : List ℕ) → batches_from d w (entries_by c k b answers ++ Sent c ∷ []) ≡ []
batches_other d c k w ne [] answers = rw (ne_eqb c d (λ e. ne (sym e))) refl
batches_other d c k w ne (q ∷ b) [] = rw (ne_eqb c d (λ e. ne (sym e))) refl
batches_other d c k w ne (q ∷ b) (a ∷ answers) = batches_other d c (k + 1) (cond (c == d) (w ++ a ∷ []) w) ne b answers

-- behind a settled log nothing waits but what waited before, and not even that where a batch left
record Waits (c : ℕ) (w : List ℕ) (log : List Logged) : Type 0 where
  some : 0 < left_by mark_of c log → waits c w log ≡ []
  none : left_by mark_of c log ≡ 0 → waits c w log ≡ w

settled_then : {c : ℕ} {log : List Logged} → Waits c [] log → waits c [] log ≡ []
settled_then {c} {log} all =
    elim (cases_eq (left_by mark_of c log) 0) [ inl e ↦ all.none e | inr ne ↦ all.some (omega (arith, ne)) ]

settled_waits : (c : ℕ) (w : List ℕ) (log : List Logged) → IsSettled mark_of c log → Waits c w log
settled_waits c w [] h = record { some = λ lt. absurd (omega (arith, lt)); none = λ e. refl }
settled_waits c w (By d k q a ∷ es) h =
    elim (cases_eq d c) [
      | inl is ↦
          let left : 0 < left_by mark_of c es = h.0 is in
          let more = settled_waits c (cond (d == c) (w ++ a ∷ []) w) es h.1 in
          record { some = λ lt. more.some left; none = λ e. absurd (omega (arith, left, e)) }
      | inr ne ↦
          let more = settled_waits c w es h.1 in
          let same : cond (d == c) (w ++ a ∷ []) w ≡ w = ap (λ t. cond t (w ++ a ∷ []) w) (ne_eqb d c ne) in
          record {
            some = λ lt. ap (λ v. waits c v es) same ∙ more.some lt;
            none = λ e. ap (λ v. waits c v es) same ∙ more.none e;
          }
    ]
settled_waits c w (Sent d ∷ es) h =
    let n = left_by mark_of c es in
    elim (cases_eq d c) [
      | inl is ↦
          let more = settled_waits c [] es h.1 in
          let gone : cond (d == c) [] w ≡ [] = ap (λ t. cond t [] w) (eq-eqb d c is) in
          let left : cond (d == c) (n + 1) n ≡ n + 1 = ap (λ t. cond t (n + 1) n) (eq-eqb d c is) in
          record {
            some = λ lt. ap (λ v. waits c v es) gone ∙ settled_then more;
            none = λ e. absurd (omega (arith, left, e));
          }
      | inr ne ↦
          let more = settled_waits c w es h.1 in
          let same : cond (d == c) [] w ≡ w = ap (λ t. cond t [] w) (ne_eqb d c ne) in
          let left : cond (d == c) (n + 1) n ≡ n = ap (λ t. cond t (n + 1) n) (ne_eqb d c ne) in
          record {
            some = λ lt. ap (λ v. waits c v es) same ∙ more.some (omega (arith, lt, left));
            none = λ e. ap (λ v. waits c v es) same ∙ more.none (omega (arith, e, left));
          }
    ]

settled_none_waits : (c : ℕ) (log : List Logged) → IsSettled mark_of c log → waits c [] log ≡ []
settled_none_waits c log h = settled_then (settled_waits c [] log h)

-- a log grows by a batch that is answered
pub numbers_add :
    (log : List Logged) (c : ℕ) (b answers : List ℕ) → length answers ≡ length b → IsNumbered log → IsSettled mark_of c log
    → Adds mark_of batches IsNumbered c b 0 answers log (batch_entries log c b answers)
numbers_add log c b answers many legal settled =
    let es = batch_entries log c b answers in
    record {
      is_legal = λ d.
          elim (cases_eq d c) [
            | inl e ↦
                rw (e, batch_ran_own log c b answers many, length-append, range_plus 0 (length (ran c log)) (length b))
                (numbers-append c log es ∙ ap (λ l. l ++ numbers c es) (legal c)
                ∙ ap (λ l. range_with_len 0 (length (ran c log)) ++ l)
                (numbers_own c (length (ran c log)) b answers many ∙ ap (λ k. range_with_len k (length b)) (sym (zero-add _))))
            | inr ne ↦
                rw (batch_ran_other log c b answers many d ne)
                (numbers-append d log es ∙ ap (λ l. numbers d log ++ l) (numbers_other d c (length (ran c log)) ne b answers) ∙ append-nil _ ∙ legal d)
          ];
      grows = ([], es, refl, tt, entries_are_batch c (length (ran c log)) b answers many);
      leaves = batches-append c [] log es
          ∙ ap (λ l. batches c log ++ l)
          (ap (λ w. batches_from c w es) (settled_none_waits c log settled) ∙ batches_own c (length (ran c log)) [] b answers many);
      leaves_other = λ d ne.
          batches-append d [] log es
          ∙ ap (λ l. batches d log ++ l) (batches_other d c (length (ran c log)) (waits d [] log) ne b answers) ∙ append-nil _;
    }
