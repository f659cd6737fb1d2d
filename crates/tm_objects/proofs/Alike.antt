-- Lemmas on a state and the stock that it has.
use Rattle.std.proofs.Common.{◌≡◌, ℕ, ◌+◌, ◌-◌, Bool, true, false, cond, not, zero, suc, List, [], ◌∷◌, ◌++◌, length, get_or, set, drop, refl, sym, ap, ◌∙◌, arith, length-append}
use Rattle.std.specs.Prelude.{map, filter, replicate, ◌==◌}
use Rattle.std.proofs.Math.ListN.{get_or-map}
use Rattle.std.proofs.lemmas.List.{map-append, map-set, length-map, set-get_or, drop-drop}
use Rattle.tm_seq.specs.declared.kind.Next.TheVariants.{Done}
use Rattle.tm_batch.specs.declared.message.Name.{Name}
use Rattle.tm_model.specs.State.{Work, Object, Place, State, no_place, place_of}
use Rattle.tm_model.specs.State as state
use Rattle.tm_model.specs.Serve.{works_resumed}
use Rattle.tm_objects.specs.Live.{Live, is_held, change, kept, with_holds, holds_of, with_launches, with_value}
use Rattle.tm_objects.specs.Standing.{live_of, stock_of, EntrustsAlike, GrantsAlike, ReleasesAlike, ReclaimsAlike, ClosesAlike, LaunchesAlike, FinishesAlike, ChangesAlike, SendsAlike, TakesNone, TakesOneMore}

module _ {V T : Type 0} where
  -- a change of an object that is seen as one of the live object
  pub change_alike :
      (id : ℕ) (f : Object V T → Object V T) (g : Live V → Live V) → ((o : Object V T) → live_of (f o) ≡ g (live_of o)) → (live : List (Object V T))
      → map live_of (state.change id f live) ≡ change id g (map live_of live)
  change_alike id f g h [] = refl
  change_alike id f g h (o ∷ live) = rw (change_alike id f g h live) (ap (λ (p : Live V). p ∷ change id g (map live_of live)) (one (o.id == id)))
    where
      one : (b : Bool) → live_of (cond b (f o) o) ≡ cond b (g (live_of o)) (live_of o)
      one true = h o
      one false = refl

  pub map_alike :
      (f : Object V T → Object V T) (g : Live V → Live V) → ((o : Object V T) → live_of (f o) ≡ g (live_of o)) → (live : List (Object V T))
      → map live_of (map f live) ≡ map g (map live_of live)
  map_alike f g h [] = refl
  map_alike f g h (o ∷ live) = rw (map_alike f g h live, h o) refl

  pub filter_alike :
      (p : Object V T → Bool) (q : Live V → Bool) → ((o : Object V T) → p o ≡ q (live_of o)) → (live : List (Object V T))
      → map live_of (filter p live) ≡ filter q (map live_of live)
  filter_alike p q h [] = refl
  filter_alike p q h (o ∷ live) = rw (h o) (one (q (live_of o)) (filter_alike p q h live))
    where
      one : (b : Bool) → map live_of (filter p live) ≡ filter q (map live_of live)
          → map live_of (cond b (o ∷ filter p live) (filter p live)) ≡ cond b (live_of o ∷ filter q (map live_of live)) (filter q (map live_of live))
      one true e = ap (λ (l : List (Live V)). live_of o ∷ l) e
      one false e = e

  pub kept_alike : (live : List (Object V T)) → map live_of (state.kept live) ≡ kept (map live_of live)
  kept_alike = filter_alike _ is_held (λ o. refl)

works_less : (O : Type 0) {R T : Type 0} (works : List (Work T)) (r : R) → length (works_resumed {O = O} works (Done r)) ≡ length works - 1
works_less O [] r = refl
works_less O (w ∷ works) r = omega arith

-- zeros for each of some places
pub zeros_alike : {X : Type 0} (xs : List X) → map {B = ℕ} (λ _. 0) xs ≡ replicate (length xs) 0
zeros_alike [] = refl
zeros_alike (x ∷ xs) = ap (λ ys. 0 ∷ ys) (zeros_alike xs)

module _ {V O R T : Type 0} where
  -- what is seen of places of which one is written
  places_alike : (c : ℕ) (p : Place V O R T) (places : List (Place V O R T)) → map (λ q. q.gifts) (set places c p) ≡ set (map (λ q. q.gifts) places) c p.gifts
  places_alike c p places = map-set (λ (q : Place V O R T). q.gifts) places c p

  gifts_alike : (c : ℕ) (s : State V O R T) → get_or (map (λ q. q.gifts) s.places) c [] ≡ (place_of s c).gifts
  gifts_alike c s = get_or-map (λ (q : Place V O R T). q.gifts) s.places c no_place

module _ (V O R T : Type 0) where
  pub entrusts_alike : EntrustsAlike V O R T
  entrusts_alike c v n s e =
      rw (map-append live_of s.live, zeros_alike s.places, length-map s.places (λ (p : Place V O R T). p.gifts), e) refl

  pub grants_alike : GrantsAlike V O R T
  grants_alike n c s =
      ap (λ (l : List (Live V)). record (stock_of s) { live = l; gifts = map (λ p. p.gifts) (set s.places c (let p = place_of s c in record p { gifts = p.gifts ++ n ∷ [] })) })
      (change_alike n.id _ (λ o. with_holds c (holds_of o c + 1) o) (λ o. refl) s.live)
      ∙ ap (λ (g : List (List Name)). record (stock_of s) { live = change n.id (λ o. with_holds c (holds_of o c + 1) o) (map live_of s.live); gifts = g })
      (places_alike c _ s.places ∙ ap (λ (g : List Name). set (map (λ (q : Place V O R T). q.gifts) s.places) c (g ++ n ∷ [])) (sym (gifts_alike c s)))

  pub releases_alike : ReleasesAlike V O R T
  releases_alike c id s =
      ap (λ (l : List (Live V)). record (stock_of s) { live = l })
      (kept_alike (state.change id (λ o. state.with_holds c (state.holds_of o c - 1) o) s.live) ∙ ap kept (change_alike id _ (λ o. with_holds c (holds_of o c - 1) o) (λ o. refl) s.live))

  pub reclaims_alike : ReclaimsAlike V O R T
  reclaims_alike id s =
      ap (λ (l : List (Live V)). record (stock_of s) { live = l })
      (filter_alike _ (λ o. not (o.id == id)) (λ o. refl) s.live)

  pub closes_alike : ClosesAlike V O R T
  closes_alike c s =
      ap (λ (l : List (Live V)). record (stock_of s) { live = l; gifts = map (λ p. p.gifts) (set s.places c (let p = place_of s c in record p { is_closed = true; gifts = [] })) })
      (kept_alike (map (λ o. state.with_holds c 0 o) s.live) ∙ ap kept (map_alike _ (λ o. with_holds c 0 o) (λ o. refl) s.live))
      ∙ ap (λ (g : List (List Name)). record (stock_of s) { live = kept (map (λ o. with_holds c 0 o) (map live_of s.live)); gifts = g })
      (places_alike c _ s.places)

  pub launches_alike : LaunchesAlike V O R T
  launches_alike c id task ticket s =
      ap (λ (l : List (Live V)). record (stock_of s) { live = l })
      (change_alike id _ (λ o. with_launches (o.launches + 1) o) (λ o. ap (λ (n : ℕ). record (live_of o) { launches = n }) (length-append o.works _)) s.live)

  pub finishes_alike : FinishesAlike V O R T
  finishes_alike id r s =
      ap (λ (l : List (Live V)). record (stock_of s) { live = l })
      (kept_alike (state.change id (λ o. record o { works = works_resumed {O = O} o.works (Done r) }) s.live) ∙ ap kept (change_alike id _ (λ o. with_launches (o.launches - 1) o) (λ o. ap (λ (n : ℕ). record (live_of o) { launches = n }) (works_less O o.works r)) s.live))

  pub changes_alike : ChangesAlike V O R T
  changes_alike id v s =
      ap (λ (l : List (Live V)). record (stock_of s) { live = l })
      (change_alike id _ (λ o. with_value v o) (λ o. refl) s.live)

  pub sends_alike : SendsAlike V O R T
  sends_alike c room s =
      ap (λ (g : List (List Name)). record (stock_of s) { gifts = g })
      (places_alike c _ s.places ∙ ap (λ (g : List Name). set (map (λ (q : Place V O R T). q.gifts) s.places) c (drop room g)) (sym (gifts_alike c s)))

-- a list of lists, of one of which one more is left out
drop_once-set : {X : Type 0} (xs : List (List X)) (i n : ℕ) → set xs i (drop (n + 1) (get_or xs i [])) ≡ set (set xs i (drop n (get_or xs i []))) i (drop 1 (get_or (set xs i (drop n (get_or xs i []))) i []))
drop_once-set [] i n = refl
drop_once-set (x ∷ xs) zero n = ap (λ ys. ys ∷ xs) (sym (drop-drop 1 n x))
drop_once-set (x ∷ xs) (suc i) n = ap (λ ys. x ∷ ys) (drop_once-set xs i n)

module _ (V : Type 0) where
  pub takes_none : TakesNone V
  takes_none c s = ap (λ (g : List (List Name)). record s { gifts = g }) (set-get_or s.gifts c [])

  pub takes_one_more : TakesOneMore V
  takes_one_more c n s = ap (λ (g : List (List Name)). record s { gifts = g }) (drop_once-set s.gifts c n)
