-- How an object of the build comes to its holders, one after another.
use Rattle.std.proofs.Common.{◌≡◌, ◌≢◌, ℕ, zero, suc, ◌+◌, ◌-◌, ◌<◌, ◌≤◌, Bool, true, false, cond, ◌||◌, List, [], ◌∷◌, ◌++◌, length, map, take, drop, slice_index_or, slice_set, inl, inr, refl, sym, ◌∙◌, ap, arith, eq-eqb, ne_eqb, get_or-set_same, get_or-set_other, length-set, length-drop, Option, None, Some}
use Rattle.std.specs.Prelude.{◌==◌, nat_eq, replicate, sum, IsSomeAnd}
use Rattle.std.specs.List.{AllByRecursion, IsDistinct, list_any, range_with_len}
use Rattle.std.proofs.lemmas.Bool.{cases_eq}
use Rattle.std.proofs.lemmas.List.{take_more, take_all, length-replicate, get_or-replicate, set-get_or, set-set}
use Rattle.std.proofs.lemmas.List.Elements.{recursion_from_All, All-from_recursion}
use Rattle.std.proofs.lemmas.List.Folds.{list_any-append}
use Rattle.std.proofs.lemmas.List.Sums.{sum_by-cons}
use Rattle.std.proofs.lemmas.Grind.{get_or_after_one}
use Rattle.std.proofs.lemmas.List.FromFn.{length-map-range_with_len, get_or-map-range_with_len, fill_by_all}
use Rattle.tm_batch.specs.declared.message.Name.{Name}
use Rattle.tm_batch.specs.declared.config.First.{First}
use Rattle.tm_core.proofs.CallerLemmas.{all_map, all_each}
use Rattle.tm_objects.specs.Live.{Live, HasLive, holds_of, total, with_holds, change, object_of, count_in}
use Rattle.tm_objects.specs.Rising.{IsStock}
use Rattle.tm_objects.specs.Stock.{Stock, entrusted, granted, gift_taken, gifts_of}
use Rattle.tm_state.specs.PlacedObjects.{MayPlace, placed}

-- one hold of each holder, by place
abbrev holds_by : ℕ → List ℕ → List ℕ
holds_by n holders = map (λ c. cond (list_any (λ h. h == c) holders) 1 0) (range_with_len 0 n)

held_by : (n c : ℕ) (holders : List ℕ) → c < n → slice_index_or (holds_by n holders) c 0 ≡ cond (list_any (λ h. h == c) holders) 1 0
held_by n c holders lt = get_or-map-range_with_len (λ c. cond (list_any (λ h. h == c) holders) 1 0) 0 n c c 0 lt (omega arith)

first_holds : (n c : ℕ) → c < n → slice_set (replicate n 0) c 1 ≡ holds_by n (c ∷ [])
first_holds n c lt =
    let none : List ℕ = replicate n 0 in
    let long : length none ≡ n = length-replicate n 0 in
    fill_by_all _ (slice_set none c 1) n 0 (length-set none c 1 ∙ long) (λ k k_lt.
    elim (cases_eq k c) [
      | inl e ↦
          ap (λ j. slice_index_or (slice_set none c 1) j 0) e ∙ get_or-set_same none c 1 0 (omega (arith, long, lt))
          ∙ sym (ap (λ b. cond (b || false) 1 0) (eq-eqb c k (sym e)))
      | inr ne ↦
          get_or-set_other none c k 1 0 ne ∙ get_or-replicate n k 0 0 k_lt
          ∙ sym (ap (λ b. cond (b || false) 1 0) (ne_eqb c k (λ e. ne (sym e))))
    ])

-- one more holder, who is none yet
more_holds :
    (n c : ℕ) (holders : List ℕ) → c < n → list_any (λ h. h == c) holders ≡ false
    → slice_set (holds_by n holders) c (slice_index_or (holds_by n holders) c 0 + 1) ≡ holds_by n (holders ++ c ∷ [])
more_holds n c holders lt none =
    let holds : List ℕ = holds_by n holders in
    let long : length holds ≡ n = length-map-range_with_len (λ c. cond (list_any (λ h. h == c) holders) 1 0) 0 n in
    let nothing : slice_index_or holds c 0 ≡ 0 = held_by n c holders lt ∙ ap (λ b. cond b 1 0) none in
    let one : slice_index_or holds c 0 + 1 ≡ 1 = omega (arith, nothing) in
    fill_by_all _ (slice_set holds c (slice_index_or holds c 0 + 1)) n 0 (length-set holds c _ ∙ long) (λ k k_lt.
    let any : list_any (λ h. h == k) (holders ++ c ∷ []) ≡ (list_any (λ h. h == k) holders || ((c == k) || false)) = list_any-append (λ h. h == k) holders (c ∷ []) in
    elim (cases_eq k c) [
      | inl e ↦
          let same : list_any (λ h. h == k) holders ≡ false = ap (λ j. list_any (λ h. h == j) holders) e ∙ none in
          let own : list_any (λ h. h == k) (holders ++ c ∷ []) ≡ true =
          any ∙ ap (λ b. b || ((c == k) || false)) same ∙ ap (λ b. b || false) (eq-eqb c k (sym e)) in
          ap (λ j. slice_index_or (slice_set holds c (slice_index_or holds c 0 + 1)) j 0) e
          ∙ get_or-set_same holds c _ 0 (omega (arith, long, lt)) ∙ one ∙ sym (ap (λ b. cond b 1 0) own)
      | inr ne ↦
          let other : list_any (λ h. h == k) (holders ++ c ∷ []) ≡ list_any (λ h. h == k) holders =
          any ∙ ap (λ b. list_any (λ h. h == k) holders || (b || false)) (ne_eqb c k (λ e. ne (sym e))) ∙ or_false (list_any (λ h. h == k) holders) in
          get_or-set_other holds c k _ 0 ne ∙ held_by n k holders k_lt ∙ sym (ap (λ b. cond b 1 0) other)
    ])
  where
    or_false : (b : Bool) → (b || (false || false)) ≡ b
    or_false true = refl
    or_false false = refl

-- a holder is none of those before it
distinct_before : (holders : List ℕ) (i : ℕ) → IsDistinct nat_eq holders → i < length holders → list_any (λ h. h == slice_index_or holders i 0) (take i holders) ≡ false
unfolding IsDistinct
distinct_before [] i apart lt = absurd (omega arith)
distinct_before (h ∷ holders) zero apart lt = refl
distinct_before (h ∷ holders) (suc i) apart lt =
    let within : i < length holders = omega arith in
    let other : (h == slice_index_or holders i 0) ≡ false = All-from_recursion (λ c. nat_eq h c ≡ false) holders apart.0 i 0 within in
    ap (λ b. b || list_any (λ c. c == slice_index_or holders i 0) (take i holders)) other ∙ distinct_before holders i apart.1 within

-- the holder that is given a hold next
pub record IsNext (holders : List ℕ) (places i c : ℕ) : Type 0 where
  pub within : i + 1 < length holders
  pub place : c ≡ slice_index_or holders (i + 1) 0
  pub below : c < places

pub next_holder :
    (holders seen : List ℕ) (i places : ℕ) → seen ≡ holders → AllByRecursion (λ h. h < places) holders → i < length (take (length seen - 1) (drop 1 seen))
    → IsNext holders places i (slice_index_or (take (length seen - 1) (drop 1 seen)) i 0)
next_holder holders seen i places e below lt =
    let long : length (drop 1 seen) ≡ length seen - 1 = length-drop 1 seen in
    let rest : take (length seen - 1) (drop 1 seen) ≡ drop 1 seen = take_all (length seen - 1) (drop 1 seen) (omega (arith, long)) in
    let count : length (take (length seen - 1) (drop 1 seen)) ≡ length seen - 1 = ap (λ (l : List ℕ). length l) rest ∙ long in
    let same : length seen ≡ length holders = ap (λ (l : List ℕ). length l) e in
    let within : i + 1 < length holders = omega (arith, lt, count, same) in
    let next : 1 + i ≡ i + 1 = omega arith in
    let place : slice_index_or (take (length seen - 1) (drop 1 seen)) i 0 ≡ slice_index_or holders (i + 1) 0 =
    ap (λ l. slice_index_or l i 0) rest ∙ get_or_after_one seen i 0 ∙ ap (λ l. slice_index_or l (1 + i) 0) e ∙ ap (λ j. slice_index_or holders j 0) next in
    record {
      within = within;
      place = place;
      below = rw place (All-from_recursion (λ h. h < places) holders below (i + 1) 0 within);
    }

sum_few : (xs : List ℕ) → AllByRecursion (λ x. x ≤ 1) xs → sum xs ≤ length xs
sum_few [] h = omega arith
sum_few (x ∷ xs) h =
    let more = sum_few xs h.1 in
    let one : x ≤ 1 = h.0 in
    let here : sum (x ∷ xs) ≡ x + sum xs = sum_by-cons (λ (y : ℕ). y) x xs in
    omega (arith, more, one, here)

sum_holds : (n : ℕ) (holders : List ℕ) → sum (holds_by n holders) ≤ n
sum_holds n holders =
    let long : length (holds_by n holders) ≡ n = length-map-range_with_len (λ c. cond (list_any (λ h. h == c) holders) 1 0) 0 n in
    let few = sum_few (holds_by n holders) (all_map (λ _. Unit {0}) (λ x. x ≤ 1) _ (range_with_len 0 n)
    (λ c k. elim (list_any (λ h. h == c) holders) as (λ b. cond b 1 0 ≤ 1) [ true ↦ omega arith | false ↦ omega arith ]) (all_each (λ _. Unit {0}) (range_with_len 0 n) (λ c. tt))) in
    omega (arith, long, few)

module _ {V : Type 0} where
  change_last :
      (id : ℕ) (f : Live V → Live V) (live : List (Live V)) (o : Live V) → AllByRecursion (λ p. p.id < id) live → o.id ≡ id
      → change id f (live ++ o ∷ []) ≡ live ++ f o ∷ []
  change_last id f [] o below is = ap (λ b. cond b (f o) o ∷ []) (eq-eqb o.id id is)
  change_last id f (p ∷ live) o below is =
      let ne : p.id ≢ id = let lt = below.0 in λ e. omega (arith, lt, e) in
      ap (λ b. cond b (f p) p ∷ change id f (live ++ o ∷ [])) (ne_eqb p.id id ne) ∙ ap (λ l. p ∷ l) (change_last id f live o below.1 is)

  find_last : (id : ℕ) (live : List (Live V)) (o : Live V) → AllByRecursion (λ p. p.id < id) live → o.id ≡ id → object_of (live ++ o ∷ []) id ≡ Some o
  find_last id [] o below is = ap (λ b. cond b (Some o) (object_of [] id)) (eq-eqb o.id id is)
  find_last id (p ∷ live) o below is =
      let ne : p.id ≢ id = let lt = below.0 in λ e. omega (arith, lt, e) in
      ap (λ b. cond b (Some p) (object_of (live ++ o ∷ []) id)) (ne_eqb p.id id ne) ∙ find_last id live o below.1 is

  pub count_few : (o : Option (Live V)) (c : ℕ) → IsSomeAnd o (λ o. (holds_of o c < 4294967295) × (total o < 18446744073709551615)) → count_in o c < 4294967295
  count_few None c h = absurd h
  count_few (Some o) c h = h.0

  -- a grant whose gift is taken at once
  pub given_is :
      (n : Name) (to : ℕ) (s t u : Stock V) → to < length s.gifts → gifts_of s.gifts to ≡ [] → t ≡ granted n to s → u ≡ gift_taken to t
      → u ≡ record s { live = (granted n to s).live }
  given_is n to s t u lt none grant take =
      let live = (granted n to s).live in
      let G = λ (g : List (List Name)). record s { live = live; gifts = g } in
      let one : (granted n to s).gifts ≡ slice_set s.gifts to (n ∷ []) = ap (λ (g : List Name). slice_set s.gifts to (g ++ n ∷ [])) none in
      let waits : gifts_of (slice_set s.gifts to (n ∷ [])) to ≡ n ∷ [] = get_or-set_same s.gifts to (n ∷ []) [] lt in
      let back : slice_set (slice_set s.gifts to (n ∷ [])) to [] ≡ s.gifts = set-set s.gifts to (n ∷ []) [] ∙ ap (λ (g : List Name). slice_set s.gifts to g) (sym none) ∙ set-get_or s.gifts to [] in
      take ∙ ap (λ (x : Stock V). gift_taken to x) grant ∙ ap (λ (g : List (List Name)). G (slice_set g to (drop 1 (gifts_of g to)))) one
      ∙ ap (λ (g : List Name). G (slice_set (slice_set s.gifts to (n ∷ [])) to (drop 1 g))) waits ∙ ap G back

module _ {V : Type 0} (T : Type 0) where
  -- an object of the build with some of its holders
  abbrev held_of : First V → List ℕ → First V
  held_of f holders = record f { holders = holders }

  abbrev live_with : ℕ → ℕ → First V → List ℕ → Live V
  live_with n id f holders = record { id = id; value = f.value; holds = holds_by n holders; launches = 0 }

  pub placed_first :
      (f : First V) (s t : Stock V) (c : ℕ) → MayPlace f s → c ≡ slice_index_or f.holders 0 0 → t ≡ entrusted c f.value s
      → t ≡ placed T (record f { holders = take 1 f.holders }) s
  placed_first f s t c may is e =
      let some = may.held in
      let lt : c < length s.gifts = rw is (All-from_recursion (λ h. h < length s.gifts) f.holders may.below 0 0 (some_first f.holders some)) in
      let one : take 1 f.holders ≡ c ∷ [] = head_alone f.holders some ∙ ap (λ x. x ∷ []) (sym is) in
      e ∙ ap (λ holds. record s { next_id = s.next_id + 1; live = s.live ++ record { id = s.next_id; value = f.value; holds = holds; launches = 0 } ∷ [] }) (first_holds (length s.gifts) c lt)
      ∙ ap (λ holders. placed T (held_of f holders) s) (sym one)
    where
      head_alone : (xs : List ℕ) → xs ≢ [] → take 1 xs ≡ slice_index_or xs 0 0 ∷ []
      head_alone [] some = absurd (some refl)
      head_alone (x ∷ xs) some = refl

      some_first : (xs : List ℕ) → xs ≢ [] → 0 < length xs
      some_first [] some = absurd (some refl)
      some_first (x ∷ xs) some = omega arith

  ids_below : (s : Stock V) → IsStock s → AllByRecursion (λ p. p.id < s.next_id) s.live
  ids_below s stock = recursion_from_All (λ p. p.id < s.next_id) s.live (λ k d lt. (stock.ids k d lt).1)

  pub may_give :
      (f : First V) (s t : Stock V) (holders : List ℕ) (id c : ℕ) → IsStock s → MayPlace f s → id ≡ s.next_id → c < length s.gifts
      → t ≡ placed T (record f { holders = holders }) s → HasLive t.live id (λ o. (holds_of o c < 4294967295) × (total o < 18446744073709551615))
  may_give f s t holders id c stock may is lt e =
      let few = may.places in
      let o = live_with (length s.gifts) s.next_id f holders in
      let there : object_of t.live id ≡ Some o =
      ap (λ (x : Stock V). object_of x.live id) e ∙ ap (λ i. object_of (s.live ++ o ∷ []) i) is ∙ find_last s.next_id s.live o (ids_below s stock) refl in
      let sum = sum_holds (length s.gifts) holders in
      let own = held_by (length s.gifts) c holders lt in
      let one : cond (list_any (λ h. h == c) holders) 1 0 ≤ 1 = elim (list_any (λ h. h == c) holders) as (λ b. cond b 1 0 ≤ 1) [ true ↦ omega arith | false ↦ omega arith ] in
      rw there (omega (arith, own, one), omega (arith, sum, few))

  pub placed_more :
      (f : First V) (s t u : Stock V) (i c : ℕ) (n : Name) → IsStock s → n.id ≡ s.next_id → c < length s.gifts
      → IsDistinct nat_eq f.holders → i < length f.holders → c ≡ slice_index_or f.holders i 0
      → t ≡ placed T (record f { holders = take i f.holders }) s → u ≡ record t { live = (granted n c t).live }
      → u ≡ placed T (record f { holders = take (i + 1) f.holders }) s
  placed_more f s t u i c n stock is lt apart within at e more =
      let holders = take i f.holders in
      let none : list_any (λ h. h == c) holders ≡ false = ap (λ j. list_any (λ h. h == j) holders) at ∙ distinct_before f.holders i apart within in
      let longer : holders ++ c ∷ [] ≡ take (i + 1) f.holders = ap (λ x. holders ++ x ∷ []) at ∙ sym (take_more f.holders i 0 within) in
      let o = live_with (length s.gifts) s.next_id f holders in
      let add : Live V → Live V = λ p. with_holds c (holds_of p c + 1) p in
      let L = λ (live : List (Live V)). record s { next_id = s.next_id + 1; live = live } in
      more ∙ ap (λ (x : Stock V). record x { live = (granted n c x).live }) e ∙ ap (λ j. L (change j add (s.live ++ o ∷ []))) is
      ∙ ap L (change_last s.next_id add s.live o (ids_below s stock) refl)
      ∙ ap (λ holds. L (s.live ++ record { id = s.next_id; value = f.value; holds = holds; launches = 0 } ∷ [])) (more_holds (length s.gifts) c holders lt none)
      ∙ ap (λ hs. placed T (held_of f hs) s) longer
