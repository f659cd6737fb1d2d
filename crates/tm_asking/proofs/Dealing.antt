-- The questions to one trustee among all, and their numbers.
use Rattle.std.proofs.Common.{◌≡◌, ◌≢◌, ℕ, zero, suc, ◌+◌, ◌<◌, ◌≤◌, ◌⊎◌, inl, inr, true, false, cond, List, [], ◌∷◌, ◌++◌, length, map, refl, sym, ◌∙◌, ap, subst, arith, eq-eqb, ne_eqb}
use Rattle.std.specs.Prelude.{◌==◌, Bool, slice_get, slice_set}
use Rattle.std.specs.List.{AllByRecursion, Contains}
use Rattle.std.proofs.lemmas.Bool.{cases_eq}
use Rattle.std.proofs.lemmas.List.Elements.{Contains-append_left}
use Rattle.tm_batch.specs.declared.message.Answer.{Answer}
use Rattle.tm_model.specs.declared.entry.Entry.{Entry}
use Rattle.tm_client.proofs.Elements.{contained}
use Rattle.tm_asking.specs.Questions.{Question, requests_at}
use Rattle.tm_asking.specs.Asking.{numbers_at, IsNoted}
use Rattle.tm_asking.proofs.Among.{none_among, among_cases, all_among, both_parts, map_among}

module _ {X : Type 0} where
  cond_joined : (b : Bool) (x : X) (xs ys : List X) → cond b (x ∷ (xs ++ ys)) (xs ++ ys) ≡ cond b (x ∷ xs) xs ++ ys
  cond_joined true x xs ys = refl
  cond_joined false x xs ys = refl

  pub read_other : (xs : List X) (i k : ℕ) (v : X) → k ≢ i → slice_get (slice_set xs i v) k ≡ slice_get xs k
  read_other [] i k v ne = refl
  read_other (x ∷ xs) zero zero v ne = absurd (ne refl)
  read_other (x ∷ xs) zero (suc k) v ne = refl
  read_other (x ∷ xs) (suc i) zero v ne = refl
  read_other (x ∷ xs) (suc i) (suc k) v ne = read_other xs i k v (λ e. ne (ap (λ n. suc n) e))

-- numbers that rise
abbrev IsRising : List ℕ → Type 0
IsRising [] = Unit {0}
IsRising (n ∷ ns) = AllByRecursion (λ m. n < m) ns × IsRising ns

rising_front : (xs ys : List ℕ) → IsRising (xs ++ ys) → IsRising xs
rising_front [] ys h = tt
rising_front (x ∷ xs) ys h = ((both_parts (λ m. x < m) xs ys h.0).0, rising_front xs ys h.1)

module _ {V O R T : Type 0} where
  pub requests_here : (t : ℕ) (q : Question V O R T) (qs : List (Question V O R T)) → q.trustee ≡ t → requests_at t (q ∷ qs) ≡ q.request ∷ requests_at t qs
  requests_here t q qs e = ap (λ b. cond b (q.request ∷ requests_at t qs) (requests_at t qs)) (eq-eqb q.trustee t e)

  pub requests_other : (t : ℕ) (q : Question V O R T) (qs : List (Question V O R T)) → q.trustee ≢ t → requests_at t (q ∷ qs) ≡ requests_at t qs
  requests_other t q qs ne = ap (λ b. cond b (q.request ∷ requests_at t qs) (requests_at t qs)) (ne_eqb q.trustee t ne)

  pub requests_more : (t : ℕ) (qs rs : List (Question V O R T)) → requests_at t (qs ++ rs) ≡ requests_at t qs ++ requests_at t rs
  requests_more t [] rs = refl
  requests_more t (q ∷ qs) rs =
      ap (λ xs. cond (q.trustee == t) (q.request ∷ xs) xs) (requests_more t qs rs) ∙ cond_joined (q.trustee == t) q.request (requests_at t qs) (requests_at t rs)

  pub numbers_here : (t n : ℕ) (q : Question V O R T) (qs : List (Question V O R T)) → q.trustee ≡ t → numbers_at t n (q ∷ qs) ≡ n ∷ numbers_at t (n + 1) qs
  numbers_here t n q qs e = ap (λ b. cond b (n ∷ numbers_at t (n + 1) qs) (numbers_at t (n + 1) qs)) (eq-eqb q.trustee t e)

  pub numbers_other : (t n : ℕ) (q : Question V O R T) (qs : List (Question V O R T)) → q.trustee ≢ t → numbers_at t n (q ∷ qs) ≡ numbers_at t (n + 1) qs
  numbers_other t n q qs ne = ap (λ b. cond b (n ∷ numbers_at t (n + 1) qs) (numbers_at t (n + 1) qs)) (ne_eqb q.trustee t ne)

  pub numbers_more : (t n : ℕ) (qs rs : List (Question V O R T)) → numbers_at t n (qs ++ rs) ≡ numbers_at t n qs ++ numbers_at t (n + length qs) rs
  numbers_more t n [] rs = ap (λ m. numbers_at t m rs) (omega arith)
  numbers_more t n (q ∷ qs) rs =
      let later : (n + 1) + length qs ≡ n + length (q ∷ qs) = omega arith in
      ap (λ xs. cond (q.trustee == t) (n ∷ xs) xs) (numbers_more t (n + 1) qs rs ∙ ap (λ m. numbers_at t (n + 1) qs ++ numbers_at t m rs) later)
      ∙ cond_joined (q.trustee == t) n (numbers_at t (n + 1) qs) (numbers_at t (n + length (q ∷ qs)) rs)

  -- the question of number k, where the first has number n, is one to trustee t
  abbrev pub IsNumberOf : ℕ → ℕ → List (Question V O R T) → ℕ → Type 0
  IsNumberOf t n [] k = ⊥
  IsNumberOf t n (q ∷ qs) k = ((k ≡ n) × (q.trustee ≡ t)) ⊎ IsNumberOf t (n + 1) qs k

  pub number_is : (t n : ℕ) (qs : List (Question V O R T)) (k : ℕ) → Contains (numbers_at t n qs) k → IsNumberOf t n qs k
  number_is t n [] k h = none_among k h
  number_is t n (q ∷ qs) k h =
      elim (cases_eq q.trustee t) [
        | inl e ↦
            elim (among_cases n (numbers_at t (n + 1) qs) k (subst (λ xs. Contains xs k) (numbers_here t n q qs e) h)) [
              | inl is ↦ inl (is, e)
              | inr later ↦ inr (number_is t (n + 1) qs k later)
            ]
        | inr ne ↦ inr (number_is t (n + 1) qs k (subst (λ xs. Contains xs k) (numbers_other t n q qs ne) h))
      ]

  pub number_from : (t n : ℕ) (qs : List (Question V O R T)) (k : ℕ) → IsNumberOf t n qs k → n ≤ k
  number_from t n [] k h = absurd h
  number_from t n (q ∷ qs) k (inl (is, e)) = omega (arith, is)
  number_from t n (q ∷ qs) k (inr h) = let later = number_from t (n + 1) qs k h in omega (arith, later)

  pub number_below : (t n : ℕ) (qs : List (Question V O R T)) (k : ℕ) → IsNumberOf t n qs k → k < n + length qs
  number_below t n [] k h = absurd h
  number_below t n (q ∷ qs) k (inl (is, e)) = omega (arith, is)
  number_below t n (q ∷ qs) k (inr h) = let later = number_below t (n + 1) qs k h in omega (arith, later)

  -- a question has one trustee
  pub number_once : (t u n : ℕ) (qs : List (Question V O R T)) (k : ℕ) → IsNumberOf t n qs k → IsNumberOf u n qs k → t ≡ u
  number_once t u n [] k h i = absurd h
  number_once t u n (q ∷ qs) k (inl (is, e)) (inl (also, f)) = sym e ∙ f
  number_once t u n (q ∷ qs) k (inl (is, e)) (inr i) = absurd (let from = number_from u (n + 1) qs k i in omega (arith, is, from))
  number_once t u n (q ∷ qs) k (inr h) (inl (also, f)) = absurd (let from = number_from t (n + 1) qs k h in omega (arith, also, from))
  number_once t u n (q ∷ qs) k (inr h) (inr i) = number_once t u (n + 1) qs k h i

  -- the numbers of the questions to a trustee rise
  numbers_rise : (t n : ℕ) (qs : List (Question V O R T)) → IsRising (numbers_at t n qs)
  numbers_rise t n [] = tt
  numbers_rise t n (q ∷ qs) =
      let rest = numbers_rise t (n + 1) qs in
      let later : AllByRecursion (λ m. n < m) (numbers_at t (n + 1) qs) =
      all_among (λ m. n < m) (numbers_at t (n + 1) qs) (λ m has. let from = number_from t (n + 1) qs m (number_is t (n + 1) qs m has) in omega (arith, from)) in
      elim (cases_eq q.trustee t) [
        | inl e ↦ subst IsRising (sym (numbers_here t n q qs e)) (later, rest)
        | inr ne ↦ subst IsRising (sym (numbers_other t n q qs ne)) rest
      ]

  one_answer_in : (told : List (ℕ × Answer V O R T)) (k : ℕ) (a b : Answer V O R T) → IsRising (map (λ c. c.0) told) → Contains told (k, a) → Contains told (k, b)
      → a ≡ b
  one_answer_in [] k a b rising one other = absurd (none_among (k, a) one)
  one_answer_in (c ∷ told) k a b rising one other =
      let behind : (x : Answer V O R T) → Contains told (k, x) → c.0 < k =
      λ x has. contained (λ m. c.0 < m) (map (λ c. c.0) told) k rising.0 (map_among (λ c. c.0) told (k, x) has) in
      elim (among_cases c told (k, a) one) [
        | inl e ↦
            elim (among_cases c told (k, b) other) [
              | inl f ↦ ap (λ c. c.1) (e ∙ sym f)
              | inr later ↦ absurd (let same : k ≡ c.0 = ap (λ c. c.0) e in let less = behind b later in omega (arith, same, less))
            ]
        | inr sooner ↦
            elim (among_cases c told (k, b) other) [
              | inl f ↦ absurd (let same : k ≡ c.0 = ap (λ c. c.0) f in let less = behind a sooner in omega (arith, same, less))
              | inr later ↦ one_answer_in told k a b rising.1 sooner later
            ]
      ]

  -- of the answers that came to a trustee's questions one is that of each number
  pub one_answer :
      (t : ℕ) (qs : List (Question V O R T)) (told : List (ℕ × Answer V O R T)) (rest : List ℕ) (k : ℕ) (a b : Answer V O R T)
      → map (λ c. c.0) told ++ rest ≡ numbers_at t 0 qs → Contains told (k, a) → Contains told (k, b) → a ≡ b
  one_answer t qs told rest k a b numbers one other =
      one_answer_in told k a b (rising_front (map (λ c. c.0) told) rest (subst IsRising (sym numbers) (numbers_rise t 0 qs))) one other

  -- and each is that of the number of a question to the trustee
  pub told_number :
      (t : ℕ) (qs : List (Question V O R T)) (told : List (ℕ × Answer V O R T)) (rest : List ℕ) (c : ℕ × Answer V O R T)
      → map (λ c. c.0) told ++ rest ≡ numbers_at t 0 qs → Contains told c → IsNumberOf t 0 qs c.0
  told_number t qs told rest c numbers has =
      number_is t 0 qs c.0
      (subst (λ xs. Contains xs c.0) numbers (Contains-append_left (map (λ c. c.0) told) rest c.0 (map_among (λ c. c.0) told c has)))

  -- what is noted stays so where another number is noted
  pub noted_other :
      (missing : R) (log : List (Entry V O R T)) (replies : List R) (k : ℕ) (r : R) (c : ℕ × Answer V O R T) → c.0 ≢ k → IsNoted missing log replies c
      → IsNoted missing log (slice_set replies k r) c
  noted_other missing log replies k r c ne (reply, there, is) = (reply, read_other replies k c.0 r ne ∙ there, is)
