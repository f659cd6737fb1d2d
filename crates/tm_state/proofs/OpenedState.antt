-- What a trustee has at first is what the state says in which it opens.
use Rattle.std.proofs.Common.{◌≡◌, ◌≢◌, ℕ, zero, suc, ◌+◌, ◌<◌, true, false, List, [], ◌∷◌, ◌++◌, length, map, refl, sym, ◌∙◌, ap, subst, arith, length-append, append-nil}
use Rattle.std.specs.Prelude.{◌==◌, nat_eq, replicate}
use Rattle.std.specs.List.{AllByRecursion, IsDistinct}
use Rattle.std.proofs.lemmas.List.{length-map, length-replicate}
use Rattle.tm_seq.specs.Kind.{Kind}
use Rattle.tm_batch.specs.declared.message.Name.{Name}
use Rattle.tm_batch.specs.declared.config.Config.{Config}
use Rattle.tm_batch.specs.declared.config.First.{First}
use Rattle.tm_model.specs.State.{Place, State, no_place, place_of}
use Rattle.tm_model.specs.Opening.{placed_on, opened, opening_of}
use Rattle.tm_model.specs.Laws.{IsOpening}
use Rattle.tm_core.proofs.Bounds.{opened_long}
use Rattle.tm_core.proofs.CallerLemmas.{is_same, all_at, all_both, all_filter, all_replicate}
use Rattle.tm_core.proofs.First.{opening_unfinished}
use Rattle.tm_objects.specs.Live.{Live}
use Rattle.tm_objects.specs.Standing.{live_of, stock_of}
use Rattle.tm_state.specs.Launches.{works_at}
use Rattle.tm_state.specs.StateView.{StateView}
use Rattle.tm_state.specs.Represents.{Represents}
use Rattle.tm_state.specs.Opened.{MayOpen}
use Rattle.tm_state.specs.PlacedObjects.{MayPlace, placed, begun_with}

all_mid : {X : Type 0} (P : X → Type 0) (front rest : List X) (x : X) → AllByRecursion P (front ++ x ∷ rest) → P x
all_mid P [] rest x h = h.0
all_mid P (y ∷ front) rest x h = all_mid P front rest x h.1

map-replicate : {X Y : Type 0} (f : X → Y) (n : ℕ) (x : X) → map f (replicate n x) ≡ replicate n (f x)
map-replicate f zero x = refl
map-replicate {Y = Y} f (suc n) x = ap (λ (l : List Y). f x ∷ l) (map-replicate f n x)

module _ {V : Type 0} (O R T : Type 0) where
  -- what is known of an object of the build that is placed on a trustee
  record IsOn (clients number : ℕ) (f : First V) : Type 0 where
    pub held : f.holders ≢ []
    pub once : IsDistinct nat_eq f.holders
    pub below : AllByRecursion (λ h. h < clients + number) f.holders

  on_trustee :
      (number : ℕ) (config : Config) (whole first front rest : List (First V)) (f : First V) → MayOpen number config whole first
      → front ++ f ∷ rest ≡ first → IsOn config.clients number f
  on_trustee number config whole first front rest f may is =
      let built = may.buildable in
      let P : First V → Type 0 = λ x. (x.holders ≢ []) × (IsDistinct nat_eq x.holders × AllByRecursion (λ h. h < config.clients + x.trustee) x.holders) in
      let Q : First V → Type 0 = λ x. P x × ((x.trustee == number) ≡ true) in
      let each : AllByRecursion P whole = all_both _ _ whole built.held (all_both _ _ whole built.once built.below) in
      let all : AllByRecursion Q (placed_on number whole) = all_filter P (λ (x : First V). x.trustee == number) whole each in
      let known : Q f = all_mid Q front rest f (subst (λ l. AllByRecursion Q l) (sym (is ∙ may.placed)) all) in
      let here : f.trustee ≡ number = is_same f.trustee number known.1 in
      record {
        held = known.0.0;
        once = known.0.1.0;
        below = subst (λ t. AllByRecursion (λ h. h < config.clients + t) f.holders) here known.0.1.1;
      }

  pub may_place :
      (number : ℕ) (config : Config) (whole first front rest : List (First V)) (f : First V) (h : StateView V O R T) → MayOpen number config whole first
      → front ++ f ∷ rest ≡ first → h ≡ begun_with O R T number config front → MayPlace f h.stock
  may_place number config whole first front rest f h may is e =
      let n = config.clients + number in
      let on = on_trustee number config whole first front rest f may is in
      let built = may.buildable in
      let wide : length (replicate {A = List Name} n []) ≡ n = length-replicate {A = List Name} n [] in
      let many : length (map live_of (opened {T = T} n 1 front)) ≡ length front = length-map (opened {T = T} n 1 front) live_of ∙ opened_long T n 1 front in
      let more : length front + length (f ∷ rest) ≡ length first = sym (length-append front (f ∷ rest)) ∙ ap (λ (l : List (First V)). length l) is in
      let all : length first ≡ length (placed_on number whole) = ap (λ (l : List (First V)). length l) may.placed in
      let room = built.room number in
      let ids = built.ids number in
      let clients = built.clients.1 in
      let trustees = built.trustees.1 in
      let below = may.in_range in
      rw e (record {
        held = on.held;
        once = on.once;
        below = rw wide on.below;
        room = omega (arith, many, more, all, room);
        id = omega (arith, more, all, ids);
        gifts = rw wide refl;
        places = omega (arith, wide, clients, trustees, below);
      })

  live_more :
      (n id next : ℕ) (front : List (First V)) (f : First V) → next ≡ id + length front
      → map live_of (opened {T = T} n id (front ++ f ∷ [])) ≡ map live_of (opened {T = T} n id front) ++ map live_of (opened {T = T} n next (f ∷ []))
  live_more n id next [] f e = ap (λ k. map live_of (opened {T = T} n k (f ∷ []))) (omega (arith, e))
  live_more n id next (x ∷ front) f e =
      ap (λ l. map live_of (opened {T = T} n id (x ∷ [])) ++ l) (live_more n (id + 1) next front f (omega (arith, e)))

  -- one more object of the build is placed
  pub begun_more :
      (number : ℕ) (config : Config) (front : List (First V)) (f : First V) (h k : StateView V O R T) → h ≡ begun_with O R T number config front
      → k ≡ record h { stock = placed T f h.stock } → k ≡ begun_with O R T number config (front ++ f ∷ [])
  begun_more number config front f h k e is =
      let n = config.clients + number in
      let old : StateView V O R T = begun_with O R T number config front in
      let S = λ (next : ℕ) (live : List (Live V)). record old { stock = record old.stock { next_id = next; live = live } } in
      let wide : length (replicate {A = List Name} n []) ≡ n = length-replicate {A = List Name} n [] in
      let count : length front + 1 + 1 ≡ length (front ++ f ∷ []) + 1 = let long = length-append front (f ∷ []) in omega (arith, long) in
      is ∙ ap (λ (x : StateView V O R T). record x { stock = placed T f x.stock }) e
      ∙ ap (λ w. S (length front + 1 + 1) (old.stock.live ++ map live_of (opened {T = T} w (length front + 1) (f ∷ [])))) wide
      ∙ ap (S (length front + 1 + 1)) (sym (live_more n 1 (length front + 1) front f (omega arith)))
      ∙ ap (λ m. S m (map live_of (opened {T = T} n 1 (front ++ f ∷ [])))) count

module _ {V : Type 0} (O R T : Type 0) where
  -- no object of the build is left
  pub all_placed :
      (front rest first : List (First V)) (number : ℕ) (config : Config) (h : StateView V O R T) → length rest ≡ 0 → front ++ rest ≡ first
      → h ≡ begun_with O R T number config front → h ≡ begun_with O R T number config first
  all_placed front [] first number config h none is e = e ∙ ap (begun_with O R T number config) (sym (append-nil front) ∙ is)
  all_placed front (f ∷ rest) first number config h none is e = absurd (omega arith)

-- an object of the build has no launch
opened_works :
    {V : Type 0} (T : Type 0) (n id : ℕ) (first : List (First V)) → AllByRecursion (λ o. works_at {T = T} o.id [] ≡ o.works) (opened {T = T} n id first)
opened_works T n id [] = tt
opened_works T n id (f ∷ first) = (refl, opened_works T n (id + 1) first)

module _ {V O R T : Type 0} (kind : Kind V O R T) where
  -- once all objects of the build are placed, a trustee has what its empty log leaves
  pub begun_represents :
      (number : ℕ) (config : Config) (whole first : List (First V)) (h : StateView V O R T) → MayOpen number config whole first
      → h ≡ begun_with O R T number config first → Represents kind (opening_of number config whole) [] h
  begun_represents number config whole first h may e =
      let n = config.clients + number in
      let s : State V O R T = opening_of number config whole in
      let opens : IsOpening s = (number, config, whole, may.buildable, may.in_range, refl) in
      let gifts : replicate n [] ≡ map (λ p. p.gifts) s.places = sym (map-replicate (λ (p : Place V O R T). p.gifts) n no_place) in
      let closed : replicate n false ≡ map (λ p. p.is_closed) s.places = sym (map-replicate (λ (p : Place V O R T). p.is_closed) n no_place) in
      let wide : length s.places ≡ n = length-replicate n no_place in
      let ready : replicate n [] ≡ map (λ p. p.ready) s.places = sym (map-replicate (λ (p : Place V O R T). p.ready) n no_place) in
      let whole_is : h ≡ begun_with O R T number config (placed_on number whole) = e ∙ ap (begun_with O R T number config) may.placed in
      rw whole_is (record {
        opens = opens;
        is_legal = tt;
        keeps = record {
          config = refl;
          number = refl;
          stock = ap (λ g. record (stock_of s) { gifts = g }) gifts;
          closed = closed;
          next_ticket = refl;
          works = opened_works T n 1 (placed_on number whole);
          live = tt;
          awaits = tt;
          ready = ready;
          most = λ c lt.
              let none = opening_unfinished s c opens in
              let no_ready : length (place_of s c).ready ≡ 0 = ap length (all_at (λ (p : Place V O R T). p.ready ≡ []) s.places c no_place refl (all_replicate (λ (p : Place V O R T). p.ready ≡ []) n no_place refl)) in
              omega (arith, none, no_ready);
        };
        run = refl;
        entries = refl;
      })
