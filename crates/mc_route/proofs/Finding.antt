-- That each class stands at its index among the objects of its trustee.
use Rattle.std.proofs.Common.{◌≡◌, ◌∙◌, ℕ, zero, suc, ◌+◌, ◌-◌, ◌*◌, ◌/◌, ◌%◌, ◌<◌, ◌≤◌, Bool, true, false, cond, List, [], ◌∷◌, ◌++◌, map, take, drop, get_or, length, Some, refl, ap, sym, arith, length-append, append_assoc}
use Rattle.std.specs.Prelude.{slice_get, ◌==◌}
use Rattle.std.specs.List.{filter, range_with_len}
use Rattle.std.proofs.Math.Nat.{zero-mul, suc-mul}
use Rattle.std.proofs.lemmas.Bool.{eq-eqb, eqb-true, eqb-false}
use Rattle.std.proofs.lemmas.Nat.{div-add-mod', mod-mul-add, mod_below}
use Rattle.std.proofs.lemmas.List.{take-append-drop, drop_more}
use Rattle.std.proofs.lemmas.List.Elements.{filter-append}
use Rattle.std.proofs.lemmas.List.FromFn.{filter_of_map_range_with_len_more, take-map-range_with_len, get_or-map-range_with_len, length-map-range_with_len}
use Rattle.tm_batch.specs.declared.config.First.{First}
use Rattle.mc_route.specs.Places.{StoreValue, trustee_of, index_of, first_shard, first_desk, store_first}
use Rattle.mc_route.specs.Laws.{standing_on}

-- ---- how many numbers below one have a remainder

-- with one number more, where the count so far is known
one_counted : (a b q r t : ℕ) (c : Bool) → ((1 + r) == (1 + t)) ≡ c → b ≡ a + cond c 1 0 → (t < r → a ≡ q + 1) → (r ≤ t → a ≡ q) → (t < suc r → b ≡ q + 1) × (suc r ≤ t → b ≡ q)
one_counted a b q r t true same grown above below =
    let is : 1 + r ≡ 1 + t = eqb-true (1 + r) (1 + t) same in
    let before : a ≡ q = below (omega arith) in
    (λ h. omega arith, λ h. absurd (omega arith))
one_counted a b q r t false same grown above below =
    let is_not : 1 + r ≡ 1 + t → ⊥ = eqb-false (1 + r) (1 + t) same in (
      λ h. (let under : t < r = omega (arith, is_not) in let before : a ≡ q + 1 = above under in omega arith),
      λ h. (let before : a ≡ q = below (omega arith) in omega arith),
    )

-- how a count of the numbers with a remainder grows
Grows : (ℕ → ℕ) → ℕ → ℕ → Type 0
Grows count n t = (m : ℕ) → count (m + 1) ≡ count m + cond ((1 + m % n) == (1 + t)) 1 0

counted_within : (count : ℕ → ℕ) (n t q : ℕ) → t < n → Grows count n t → count (q * n) ≡ q → (r : ℕ) → r ≤ n → (t < r → count (q * n + r) ≡ q + 1) × (r ≤ t → count (q * n + r) ≡ q)
unfolding Grows
counted_within count n t q inside grows base zero le =
    let same : q * n + 0 ≡ q * n = omega arith in
    (λ h. absurd (omega arith), λ h. ap count same ∙ base)
counted_within count n t q inside grows base (suc r) le =
    let before = counted_within count n t q inside grows base r (omega arith) in
    let next : q * n + suc r ≡ (q * n + r) + 1 = omega arith in
    let here : (q * n + r) % n ≡ r = mod-mul-add q n r (omega arith) in
    one_counted (count (q * n + r)) (count (q * n + suc r)) q r t ((1 + r) == (1 + t)) refl
    (ap count next ∙ grows (q * n + r) ∙ ap (λ k. count (q * n + r) + cond ((1 + k) == (1 + t)) 1 0) here) before.0 before.1

counted_rounds : (count : ℕ → ℕ) (n t : ℕ) → t < n → Grows count n t → count 0 ≡ 0 → (q : ℕ) → count (q * n) ≡ q
counted_rounds count n t inside grows none zero = ap count (zero-mul n) ∙ none
counted_rounds count n t inside grows none (suc q) =
    let round = counted_within count n t q inside grows (counted_rounds count n t inside grows none q) n (omega arith) in
    let one_more : q + 1 ≡ suc q = omega arith in
    ap count (suc-mul q n) ∙ round.0 inside ∙ one_more

-- of the numbers below m, as many as the quotient of m have the remainder of m
counted : (count : ℕ → ℕ) (n m : ℕ) → 0 < n → Grows count n (m % n) → count 0 ≡ 0 → count m ≡ m / n
counted count n m some grows none =
    let inside : m % n < n = mod_below m n some in
    let within = counted_within count n (m % n) (m / n) inside grows (counted_rounds count n (m % n) inside grows none (m / n)) (m % n) (omega arith) in
    ap count (sym (div-add-mod' m n)) ∙ within.1 (omega arith)

-- ---- the objects on a trustee

-- the element behind a front
got_behind : {X : Type 0} (front : List X) (x : X) (xs : List X) → slice_get (front ++ x ∷ xs) (length front) ≡ Some x
got_behind [] x xs = refl
got_behind (y ∷ front) x xs = got_behind front x xs

-- an element that passes a test stands behind those before it that do
filtered_behind : {X : Type 0} (test : X → Bool) (front : List X) (x : X) (xs : List X) (i : ℕ) → test x ≡ true → length (filter test front) ≡ i → slice_get (filter test (front ++ x ∷ xs)) i ≡ Some x
filtered_behind {X} test front x xs i passes is =
    ap (λ (l : List X). slice_get l i) (filter-append test front (x ∷ xs) ∙ ap (λ (b : Bool). filter test front ++ cond b (x ∷ filter test xs) (filter test xs)) passes)
    ∙ ap (λ n. slice_get (filter test front ++ x ∷ filter test xs) n) (sym is) ∙ got_behind (filter test front) x (filter test xs)

length_if : {X : Type 0} (b : Bool) (x : X) → length (cond b (x ∷ []) []) ≡ cond b 1 0
length_if true x = refl
length_if false x = refl

-- the classes below this one that stand on its trustee
classes_before : ℕ → ℕ → ℕ → ℕ → ℕ → List (First StoreValue)
classes_before clients trustees bound class m = filter (λ f. f.trustee == trustee_of class trustees) (map (first_shard clients trustees bound) (range_with_len 0 m))

before_grows : (clients trustees bound class : ℕ) → Grows (λ m. length (classes_before clients trustees bound class m)) (trustees - 1) (class % (trustees - 1))
unfolding Grows classes_before
before_grows clients trustees bound class m =
    let test = λ (f : First StoreValue). f.trustee == trustee_of class trustees in
    let place = first_shard clients trustees bound in
    let so_far = filter test (map place (range_with_len 0 m)) in
    ap (length {A = First StoreValue}) (filter_of_map_range_with_len_more test place 0 m m (omega arith))
    ∙ length-append so_far (cond (test (place m)) (place m ∷ []) [])
    ∙ ap (λ k. length so_far + k) (length_if (test (place m)) (place m))

pub finds_classes : (clients trustees bound class : ℕ) → 2 ≤ trustees → class < 64
    → slice_get (standing_on (trustee_of class trustees) (store_first clients trustees bound)) (index_of class trustees) ≡ Some (first_shard clients trustees bound class)
unfolding classes_before
finds_classes clients trustees bound class some below =
    let place = first_shard clients trustees bound in
    let test = λ (f : First StoreValue). f.trustee == trustee_of class trustees in
    let shards = map place (range_with_len 0 64) in
    let desk = first_desk clients in
    let front : take class shards ≡ map place (range_with_len 0 class) = take-map-range_with_len place 0 64 class (omega arith) in
    let here : get_or shards class desk ≡ place class = get_or-map-range_with_len place 0 64 class class desk below (omega arith) in
    let inside : class < length shards = omega (arith, length-map-range_with_len place 0 64) in
    let cut : shards ≡ map place (range_with_len 0 class) ++ place class ∷ drop (class + 1) shards =
    sym (take-append-drop class shards) ∙ ap (λ (l : List (First StoreValue)). l ++ drop class shards) front
    ∙ ap (λ (l : List (First StoreValue)). map place (range_with_len 0 class) ++ l) (drop_more shards class desk inside ∙ ap (λ (f : First StoreValue). f ∷ drop (class + 1) shards) here)
    in
    let whole : shards ++ desk ∷ [] ≡ map place (range_with_len 0 class) ++ place class ∷ (drop (class + 1) shards ++ desk ∷ []) =
    ap (λ (l : List (First StoreValue)). l ++ desk ∷ []) cut ∙ append_assoc (map place (range_with_len 0 class)) (place class ∷ drop (class + 1) shards) (desk ∷ [])
    in
    ap (λ (l : List (First StoreValue)). slice_get (filter test l) (index_of class trustees)) whole
    ∙ filtered_behind test (map place (range_with_len 0 class)) (place class) (drop (class + 1) shards ++ desk ∷ []) (index_of class trustees)
    (eq-eqb (trustee_of class trustees) (trustee_of class trustees) refl)
    (counted (λ m. length (classes_before clients trustees bound class m)) (trustees - 1) class (omega arith) (before_grows clients trustees bound class) refl)
