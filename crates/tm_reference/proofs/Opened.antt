-- What the loops of the opening gather.
use Rattle.std.proofs.Common.{◌≡◌, ◌≢◌, ℕ, ◌+◌, ◌<◌, ◌≤◌, suc, Bool, true, false, cond, List, [], ◌∷◌, ◌++◌, length, length-append, map, take, slice_index_or, refl, sym, ◌∙◌, ap, subst, arith, eq-eqb, ne_eqb, append-nil}
use Rattle.std.specs.Prelude.{◌==◌}
use Rattle.std.specs.List.{range_with_len}
use Rattle.std.proofs.lemmas.List.{take_more}
use Rattle.std.proofs.lemmas.List.Elements.{filter-append}
use Rattle.std.proofs.Math.ListN.{replicate}
use Rattle.std.proofs.lemmas.List.{length-replicate}
use Rattle.tm_batch.specs.declared.config.First.{First}
use Rattle.tm_batch.specs.declared.config.Config.{Config}
use Rattle.tm_model.specs.State.{Object, Place, State, no_place}
use Rattle.tm_model.specs.Opening.{is_named, placed_on, ids_naming, opened, opening_of}
use Rattle.tm_reference.specs.Live.{Rises}
use Rattle.tm_reference.specs.Kept.{IsKept}
use Rattle.tm_reference.specs.Opens.{all_above}

module _ {V : Type 0} where
  pub placed_le : (t : ℕ) (fs : List (First V)) → length (placed_on t fs) ≤ length fs
  placed_le t [] = omega arith
  placed_le t (f ∷ fs) =
      let more = placed_le t fs in
      elim (f.trustee == t) as (λ b. length (cond b (f ∷ placed_on t fs) (placed_on t fs)) ≤ length (f ∷ fs)) [
        | true ↦ omega (arith, more)
        | false ↦ omega (arith, more)
      ]

  pub placed_here : (t : ℕ) (fs : List (First V)) (f : First V) → f.trustee ≡ t → placed_on t (fs ++ f ∷ []) ≡ placed_on t fs ++ f ∷ []
  placed_here t fs f e =
      let here : (f.trustee == t) ≡ true = eq-eqb f.trustee t e in
      filter-append (λ (x : First V). x.trustee == t) fs (f ∷ []) ∙ ap (λ b. placed_on t fs ++ cond b (f ∷ []) []) here

  pub placed_elsewhere : (t : ℕ) (fs : List (First V)) (f : First V) → f.trustee ≢ t → placed_on t (fs ++ f ∷ []) ≡ placed_on t fs
  placed_elsewhere t fs f ne =
      let other : (f.trustee == t) ≡ false = ne_eqb f.trustee t ne in
      filter-append (λ (x : First V). x.trustee == t) fs (f ∷ []) ∙ ap (λ b. placed_on t fs ++ cond b (f ∷ []) []) other
      ∙ append-nil (placed_on t fs)

  naming-append :
      (c id : ℕ) (fs : List (First V)) (f : First V)
      → ids_naming c id (fs ++ f ∷ []) ≡ ids_naming c id fs ++ cond (is_named c f) ((id + length fs) ∷ []) []
  naming-append c id [] f = ap (λ n. cond (is_named c f) (n ∷ []) []) (omega arith)
  naming-append c id (x ∷ fs) f =
      let next : id + 1 + length fs ≡ id + length (x ∷ fs) = omega arith in
      let more = naming-append c (id + 1) fs f ∙ ap (λ n. ids_naming c (id + 1) fs ++ cond (is_named c f) (n ∷ []) []) next in
      elim (is_named c x) as (λ b. cond b (id ∷ ids_naming c (id + 1) (fs ++ f ∷ [])) (ids_naming c (id + 1) (fs ++ f ∷ []))
      ≡ cond b (id ∷ ids_naming c (id + 1) fs) (ids_naming c (id + 1) fs) ++ cond (is_named c f) ((id + length (x ∷ fs)) ∷ []) []) [
        | true ↦ ap (λ (l : List ℕ). id ∷ l) more
        | false ↦ more
      ]

  -- one more object of the build was looked at
  pub record Noted (t c i : ℕ) (fs : List (First V)) (ids : List ℕ) (placed : ℕ) : Type 0 where
    pub ids_are : ids ≡ ids_naming c 1 (placed_on t (take i fs))
    pub count : placed ≡ length (placed_on t (take i fs))

  pub skips :
      (t c i : ℕ) (fs : List (First V)) (f : First V) (ids : List ℕ) (placed : ℕ) → i < length fs → f ≡ slice_index_or fs i f → f.trustee ≢ t
      → ids ≡ ids_naming c 1 (placed_on t (take i fs)) → placed ≡ length (placed_on t (take i fs)) → Noted t c (i + 1) fs ids placed
  skips t c i fs f ids placed lt at ne e n =
      let all : take (i + 1) fs ≡ take i fs ++ f ∷ [] = take_more fs i f lt ∙ ap (λ (x : First V). take i fs ++ x ∷ []) (sym at) in
      let same : placed_on t (take (i + 1) fs) ≡ placed_on t (take i fs) = ap (placed_on t) all ∙ placed_elsewhere t (take i fs) f ne in
      record { ids_are = e ∙ ap (ids_naming c 1) (sym same); count = n ∙ ap (λ (l : List (First V)). length l) (sym same) }

  pub notes :
      (t c i : ℕ) (fs : List (First V)) (f : First V) (old new : List ℕ) (placed : ℕ) (named : Bool) → i < length fs → f ≡ slice_index_or fs i f
      → f.trustee ≡ t → old ≡ ids_naming c 1 (placed_on t (take i fs)) → placed ≡ length (placed_on t (take i fs)) → named ≡ is_named c f
      → new ≡ old ++ cond named ((placed + 1) ∷ []) [] → Noted t c (i + 1) fs new (placed + 1)
  notes t c i fs f old new placed named lt at here e n is more =
      let all : take (i + 1) fs ≡ take i fs ++ f ∷ [] = take_more fs i f lt ∙ ap (λ (x : First V). take i fs ++ x ∷ []) (sym at) in
      let now : placed_on t (take (i + 1) fs) ≡ placed_on t (take i fs) ++ f ∷ [] = ap (placed_on t) all ∙ placed_here t (take i fs) f here in
      let id : placed + 1 ≡ 1 + length (placed_on t (take i fs)) = omega (arith, n) in
      record {
        ids_are =
            more ∙ ap (λ (l : List ℕ). l ++ cond named ((placed + 1) ∷ []) []) e
            ∙ ap (λ b. ids_naming c 1 (placed_on t (take i fs)) ++ cond b ((placed + 1) ∷ []) []) is
            ∙ ap (λ k. ids_naming c 1 (placed_on t (take i fs)) ++ cond (is_named c f) (k ∷ []) []) id
            ∙ sym (naming-append c 1 (placed_on t (take i fs)) f) ∙ ap (ids_naming c 1) (sym now);
        count = omega (arith, n, ap (λ (l : List (First V)). length l) now, length-append (placed_on t (take i fs)) (f ∷ []));
      }

  pub placed_fits :
      (t i placed : ℕ) (fs : List (First V)) → placed ≡ length (placed_on t (take i fs)) → i < length fs → length (take i fs) ≤ i → placed ≤ i
  placed_fits t i placed fs n lt short = let le = placed_le t (take i fs) in omega (arith, n, le, short)

module _ {V : Type 0} (T : Type 0) where
  pub length-opened : (n id : ℕ) (fs : List (First V)) → length (opened {T = T} n id fs) ≡ length fs
  length-opened n id [] = refl
  length-opened n id (f ∷ fs) = ap (λ k. suc k) (length-opened n (id + 1) fs)

  rises_opened : (n places id : ℕ) (fs : List (First V)) → Rises {V = V} {T = T} n id (id + length fs) (opened places id fs)
  rises_opened n places id [] = omega arith
  rises_opened n places id (f ∷ fs) =
      let next : id + 1 + length fs ≡ id + length (f ∷ fs) = omega arith in
      (omega arith, tt, subst (λ k. Rises {V = V} {T = T} n (id + 1) k (opened places (id + 1) fs)) next (rises_opened n places (id + 1) fs))

module _ {V T : Type 0} where
  abbrev pub one_opened : ℕ → ℕ → First V → Object V T
  one_opened n id f = record { id = id; value = f.value; holds = map (λ c. cond (is_named c f) 1 0) (range_with_len 0 n); works = [] }

  opened-append :
      (n id : ℕ) (fs : List (First V)) (f : First V) → opened {T = T} n id (fs ++ f ∷ []) ≡ opened n id fs ++ one_opened n (id + length fs) f ∷ []
  opened-append n id [] f = ap (λ k. one_opened n k f ∷ []) (omega arith)
  opened-append n id (x ∷ fs) f =
      let next : id + 1 + length fs ≡ id + length (x ∷ fs) = omega arith in
      ap (λ (l : List (Object V T)). one_opened n id x ∷ l)
      (opened-append n (id + 1) fs f ∙ ap (λ k. opened n (id + 1) fs ++ one_opened n k f ∷ []) next)

  -- one more object of the build was opened, or stands elsewhere
  pub opens_more :
      (n t id : ℕ) (fs : List (First V)) (f : First V) (old new : List (Object V T)) → f.trustee ≡ t → old ≡ opened n 1 (placed_on t fs)
      → id ≡ length old + 1 → new ≡ old ++ one_opened n id f ∷ [] → new ≡ opened n 1 (placed_on t (fs ++ f ∷ []))
  opens_more n t id fs f old new here e is more =
      let count : id ≡ 1 + length (placed_on t fs) =
      omega (arith, is, ap (λ (l : List (Object V T)). length l) e, length-opened T n 1 (placed_on t fs)) in
      more ∙ ap (λ (l : List (Object V T)). l ++ one_opened n id f ∷ []) e ∙ ap (λ k. opened n 1 (placed_on t fs) ++ one_opened n k f ∷ []) count
      ∙ sym (opened-append n 1 (placed_on t fs) f) ∙ ap (opened n 1) (sym (placed_here t fs f here))

  pub opens_same :
      (n t : ℕ) (fs : List (First V)) (f : First V) (live : List (Object V T)) → f.trustee ≢ t → live ≡ opened n 1 (placed_on t fs)
      → live ≡ opened n 1 (placed_on t (fs ++ f ∷ []))
  opens_same n t fs f live ne e = e ∙ ap (opened n 1) (sym (placed_elsewhere t fs f ne))

  pub kept_opened :
      {O R : Type 0} (count ids t : ℕ) (fs : List (First V)) (places : List (Place V O R T)) (live : List (Object V T))
      → places ≡ replicate count no_place → live ≡ opened count 1 (placed_on t fs) → ids ≡ length live → IsKept count (ids + 1) places live
  kept_opened count ids t fs places live all e n =
      let next : 1 + length (placed_on t fs) ≡ ids + 1 =
      omega (arith, n, ap (λ (l : List (Object V T)). length l) e, length-opened T count 1 (placed_on t fs)) in
      record {
        rises = rw e (subst (λ k. Rises {V = V} {T = T} count 1 k (opened count 1 (placed_on t fs))) next (rises_opened T count count 1 (placed_on t fs)));
        as_many = ap (λ (l : List (Place V _ _ T)). length l) all ∙ length-replicate count no_place;
      }

  pub opens_as :
      {O R : Type 0} (number : ℕ) (config : Config) (fs : List (First V)) (above : List (List ℕ)) (ids : ℕ) (places : List (Place V O R T))
      (live : List (Object V T)) → above ≡ all_above number config fs → places ≡ replicate (config.clients + number) no_place
      → live ≡ opened (config.clients + number) 1 (placed_on number fs) → ids ≡ length live
      → record {
        setup = record { config = config; number = number; above = above };
        next_id = ids + 1;
        next_ticket = 1;
        places = places;
        live = live;
      } ≡ opening_of number config fs
  opens_as {O} {R} number config fs above ids places live a p l n =
      let next : ids + 1 ≡ length (placed_on number fs) + 1 =
      omega (arith, n, ap (λ (k : List (Object V T)). length k) l, length-opened T (config.clients + number) 1 (placed_on number fs)) in
      let S : List (List ℕ) → ℕ → List (Place V O R T) → List (Object V T) → State V O R T =
      λ w x y z. record { setup = record { config = config; number = number; above = w }; next_id = x; next_ticket = 1; places = y; live = z } in
      ap (λ w. S w (ids + 1) places live) a ∙ ap (λ x. S (all_above number config fs) x places live) next
      ∙ ap (λ y. S (all_above number config fs) (length (placed_on number fs) + 1) y live) p
      ∙ ap (λ z. S (all_above number config fs) (length (placed_on number fs) + 1) (replicate (config.clients + number) no_place) z) l
