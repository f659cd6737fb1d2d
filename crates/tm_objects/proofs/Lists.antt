-- Lemmas on a list by ids, from what it has at each id.
use Rattle.std.proofs.Common.{◌≡◌, ◌≢◌, ℕ, zero, suc, ◌+◌, ◌<◌, ◌≤◌, Bool, true, false, cond, [], ◌∷◌, ◌++◌, length, Option, Some, None, refl, ap, ◌∙◌, inl, inr, arith, add-one, length-append}
use Rattle.std.specs.Prelude.{map, filter, find, option_map, option_to_list, ◌==◌}
use Rattle.std.specs.Option.{option_or}
use Rattle.std.proofs.lemmas.Bool.{cases_eq, eq-eqb, ne_eqb}
use Rattle.std.proofs.lemmas.List.{map-append}
use Rattle.std.proofs.lemmas.List.Folds.{find-append}
use Rattle.std.proofs.lemmas.List.Elements.{filter-append}
use Rattle.tm_objects.specs.Live.{Live}
use Rattle.tm_objects.specs.Listing.{listed}

-- an option where a test passes
abbrev pub kept_if : {X : Type 0} → (X → Bool) → Option X → Option X
kept_if p None = None
kept_if p (Some x) = cond (p x) (Some x) None

module _ {V : Type 0} where
  -- what is found at an id has that id
  abbrev pub AreNamed : (ℕ → Option (Live V)) → Type 0
  AreNamed at = (i : ℕ) (o : Live V) → at i ≡ Some o → o.id ≡ i

  pub listed-none : (at : ℕ → Option (Live V)) → listed at 0 ≡ []
  unfolding listed
  listed-none at = refl

  pub listed-more : (at : ℕ → Option (Live V)) (n : ℕ) → listed at (n + 1) ≡ listed at n ++ option_to_list (at (n + 1))
  unfolding listed
  listed-more at n = rw add-one refl

  find_one : (x : Option (Live V)) (i j : ℕ) → ((o : Live V) → x ≡ Some o → o.id ≡ j) → find (λ o. o.id == i) (option_to_list x) ≡ cond (j == i) x None
  find_one None i j h = elim (j == i) as (λ b. ◌≡◌ {A = Option (Live V)} None (cond b None None)) [ true ↦ refl | false ↦ refl ]
  find_one (Some o) i j h = rw (h o refl) refl

  pub find-listed_past : (at : ℕ → Option (Live V)) → AreNamed at → (n i : ℕ) → n < i → find (λ o. o.id == i) (listed at n) ≡ None
  unfolding listed
  find-listed_past at named zero i h = refl
  find-listed_past at named (suc n) i h =
      rw (find-append (λ o. o.id == i) (listed at n) (option_to_list (at (suc n))), find-listed_past at named n i (omega arith), find_one (at (suc n)) i (suc n) (named (suc n)), ne_eqb (suc n) i (λ e. omega arith)) refl

  -- an id that is not found is not in the list
  pub find-listed_absent : (at : ℕ → Option (Live V)) → AreNamed at → (n i : ℕ) → at i ≡ None → find (λ o. o.id == i) (listed at n) ≡ None
  unfolding listed
  find-listed_absent at named zero i h = refl
  find-listed_absent at named (suc n) i h =
      rw (find-append (λ o. o.id == i) (listed at n) (option_to_list (at (suc n))), find-listed_absent at named n i h, find_one (at (suc n)) i (suc n) (named (suc n)))
      (elim (cases_eq (suc n) i) [
        | inl e ↦ rw (eq-eqb (suc n) i e) (ap at e ∙ h)
        | inr ne ↦ rw (ne_eqb (suc n) i ne) refl
      ])

  or_none : (x : Option (Live V)) → option_or x None ≡ x
  or_none None = refl
  or_none (Some o) = refl

  pub find-listed : (at : ℕ → Option (Live V)) → AreNamed at → (n i : ℕ) → 0 < i → i ≤ n → find (λ o. o.id == i) (listed at n) ≡ at i
  unfolding listed
  find-listed at named zero i low high = absurd (omega arith)
  find-listed at named (suc n) i low high =
      elim (cases_eq (suc n) i) [
        | inl e ↦ rw (find-append (λ o. o.id == i) (listed at n) (option_to_list (at (suc n))), find-listed_past at named n i (omega arith), find_one (at (suc n)) i (suc n) (named (suc n)), eq-eqb (suc n) i e) (ap at e)
        | inr ne ↦ rw (find-append (λ o. o.id == i) (listed at n) (option_to_list (at (suc n))), find-listed at named n i low (omega arith), find_one (at (suc n)) i (suc n) (named (suc n)), ne_eqb (suc n) i ne) (or_none (at i))
      ]

  pub same-listed : (at new : ℕ → Option (Live V)) (n : ℕ) → ((i : ℕ) → i ≤ n → new i ≡ at i) → listed new n ≡ listed at n
  unfolding listed
  same-listed at new zero h = refl
  same-listed at new (suc n) h = rw (same-listed at new n (λ i l. h i (omega arith)), h (suc n) (omega arith)) refl

  map_one : (g : Live V → Live V) (x : Option (Live V)) → option_to_list (option_map g x) ≡ map g (option_to_list x)
  map_one g None = refl
  map_one g (Some o) = refl

  pub map-listed : (at new : ℕ → Option (Live V)) (g : Live V → Live V) (n : ℕ) → ((i : ℕ) → new i ≡ option_map g (at i)) → listed new n ≡ map g (listed at n)
  unfolding listed
  map-listed at new g zero h = refl
  map-listed at new g (suc n) h =
      rw (map-listed at new g n h, h (suc n), map_one g (at (suc n)), map-append g (listed at n) (option_to_list (at (suc n)))) refl

  filter_one : (p : Live V → Bool) (x : Option (Live V)) → option_to_list (kept_if p x) ≡ filter p (option_to_list x)
  filter_one p None = refl
  filter_one p (Some o) = elim (p o) as (λ b. option_to_list (cond b (Some o) None) ≡ cond b (o ∷ []) []) [ true ↦ refl | false ↦ refl ]

  pub filter-listed : (at new : ℕ → Option (Live V)) (p : Live V → Bool) (n : ℕ) → ((i : ℕ) → new i ≡ kept_if p (at i)) → listed new n ≡ filter p (listed at n)
  unfolding listed
  filter-listed at new p zero h = refl
  filter-listed at new p (suc n) h =
      rw (filter-listed at new p n h, h (suc n), filter_one p (at (suc n)), filter-append p (listed at n) (option_to_list (at (suc n)))) refl

  -- one object less
  pub length-listed_less :
      (at new : ℕ → Option (Live V)) (j : ℕ) (o : Live V) (n : ℕ) → at j ≡ Some o → new j ≡ None → ((i : ℕ) → i ≢ j → new i ≡ at i)
      → 0 < j → j ≤ n → length (listed new n) + 1 ≡ length (listed at n)
  unfolding listed
  length-listed_less at new j o zero was gone same low high = absurd (omega arith)
  length-listed_less at new j o (suc n) was gone same low high =
      elim (cases_eq (suc n) j) [
        | inl e ↦
            rw (ap at e ∙ was, ap new e ∙ gone, same-listed at new n (λ i l. same i (λ k. omega arith)))
            (omega (arith, length-append (listed at n) (option_to_list {X = Live V} None), length-append (listed at n) (o ∷ [])))
        | inr ne ↦
            rw (same (suc n) ne)
            (omega (arith, length-listed_less at new j o n was gone same low (omega arith), length-append (listed at n) (option_to_list (at (suc n))), length-append (listed new n) (option_to_list (at (suc n)))))
      ]
