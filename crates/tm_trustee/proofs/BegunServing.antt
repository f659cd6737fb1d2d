-- A trustee that begins is one of its opening state, whose log is empty.
use Rattle.std.proofs.Common.{◌≡◌, ℕ, ◌+◌, ◌==◌, true, false, List, [], ◌∷◌, ◌++◌, length, map, filter, inl, inr, refl, sym, ◌∙◌, ap, subst, arith, append-nil}
use Rattle.std.specs.Prelude.{All, slice_get}
use Rattle.std.specs.List.{AllByRecursion, AllZip, IsDistinct}
use Rattle.std.specs.declared.option.Option.TheVariants.{None, Some}
use Rattle.std.proofs.lemmas.List.{length-map}
use Rattle.std.proofs.lemmas.Option.{slice_get_within, get_or_from_slice_get}
use Rattle.tm_seq.specs.Kind.{Kind}
use Rattle.tm_batch.specs.declared.config.Config.{Config}
use Rattle.tm_batch.specs.declared.config.First.{First}
use Rattle.tm_model.specs.Entries.{AreResumes}
use Rattle.tm_model.specs.Holds.{has_bye}
use Rattle.tm_model.specs.Opening.{opening_of}
use Rattle.tm_model.specs.Orderly.{IsOfTrustee}
use Rattle.tm_model.specs.Laws.{IsOpening}
use Rattle.tm_model.specs.Ran.{ran}
use Rattle.tm_model.specs.Serve.{works_in}
use Rattle.tm_model.specs.State.{State, ids_above, object_of}
use Rattle.tm_core.proofs.CallerLemmas.{option_cases}
use Rattle.tm_core.proofs.Histories.{opening_idle}
use Rattle.tm_batch.specs.declared.message.Name.{Name}
use Rattle.tm_state.specs.Opened.{HasOpened}
use Rattle.tm_state.specs.Represents.{Represents}
use Rattle.tm_pair.specs.Theory.{Theory}
use Rattle.tm_pair.specs.Views.{ClientView}
use Rattle.tm_trustee.specs.NestedAsks.{asked_by, works_at, AppliesAmong}
use Rattle.tm_trustee.specs.Above.{IsAt}
use Rattle.tm_trustee.specs.AboveAt.{IsAbove}
use Rattle.tm_trustee.specs.Awaiting.{AreAwaited}
use Rattle.tm_trustee.specs.Lanes.{IsAsker, IsLane, IsNewLane, AreNewLanes, AreCounted}
use Rattle.tm_trustee.specs.Serving.{AreNested, IsServing}
use Rattle.tm_trustee.specs.Begun.{MayBegin, IsNewHome, IsNewSeat}
use Rattle.tm_trustee.specs.declared.lane.Lane.{Lane}
use Rattle.tm_trustee.specs.declared.trustee.Trustee.{Trustee}
use Rattle.tm_trustee.proofs.Elements.{mapped_from}
use Rattle.tm_trustee.proofs.HeldCounts.{held_are}

map_twice : {X Y Z : Type 0} (f : Y → Z) (g : X → Y) (xs : List X) → map f (map g xs) ≡ map (λ x. f (g x)) xs
map_twice f g [] = refl
map_twice f g (x ∷ xs) = ap (λ l. f (g x) ∷ l) (map_twice f g xs)

module _ {V O R T : Type 0} (kind : Kind V O R T) (opening : State V O R T) where
  no_works : IsOpening opening → (id : ℕ) → works_at opening id ≡ []
  no_works opens id =
      elim (option_cases (object_of opening.live id)) [
        | inl none ↦ ap works_in none
        | inr (o, at) ↦ ap works_in at ∙ opening_idle opening id o opens at
      ]

  -- at first nothing is awaited
  none_awaited : IsOpening opening → AreAwaited kind opening []
  unfolding IsDistinct
  none_awaited opens = record {
    firsts = λ id w ws e. let bad : [] ≡ w ∷ ws = sym (no_works opens id) ∙ e in absurd cc;
    asked = λ u lt. tt;
    behind = λ id w ws e. let bad : [] ≡ w ∷ ws = sym (no_works opens id) ∙ e in absurd cc;
    enough = λ u lt. omega arith;
    once = λ u lt. tt;
  }

  -- and a lane has nothing
  new_lane :
      (u room : ℕ) (nested : List (ℕ × Name)) (up : ClientView V O R T) (lane : Lane V O R T) → IsNewLane u room nested lane → up.sent ≡ [] → up.out ≡ None
      → AreNested opening.setup nested → room ≡ opening.setup.config.objects → IsLane kind opening [] u up lane
  new_lane u room nested up lane new unsent none names objects =
      let waits : lane.waits.items ≡ [] = ap (λ v. v.items) new.waits in
      let came : lane.came.items ≡ [] = ap (λ v. v.items) new.came in
      let askers : lane.askers.items ≡ [] = ap (λ v. v.items) new.askers in
      let nothing : asked_by (up.sent ++ lane.waits.items) ≡ [] = ap (λ l. asked_by (l ++ lane.waits.items)) unsent ∙ ap asked_by waits in
      record {
        names = ap (map (λ n. n.id)) new.names ∙ map_twice (λ (n : Name). n.id) (λ (n : ℕ × Name). n.1) (filter (λ n. n.0 == u) nested) ∙ names u;
        asks = sym nothing;
        only = subst (λ l. AllByRecursion (AppliesAmong (ids_above opening.setup u)) l) (sym waits) tt;
        last = inl (ap has_bye unsent);
        full = λ b e. let bad : None ≡ Some b = sym none ∙ e in absurd cc;
        answers = inl (unsent, refl, came);
        due = let n = ap (λ l. length l) came in omega (arith, n);
        tickets = ([], refl);
        askers = subst (λ l. AllZip (IsAsker opening) l []) (sym askers) tt;
        askers_room = ap (λ v. v.capacity) new.askers ∙ objects;
        waits_room = ap (λ v. v.capacity) new.waits ∙ objects;
        came_room = ap (λ v. v.capacity) new.came;
      }

module _ {V O R T Table Client Owner : Type 0} (theory : Theory V O R T Table Client Owner) where
  new_seat :
      (c : ℕ) (above : List Client) → All (λ seat. IsNewSeat c (theory.client_view seat)) above → (k : ℕ) (seat : Client) → slice_get above k ≡ Some seat
      → IsNewSeat c (theory.client_view seat)
  new_seat c above all k seat e =
      subst (λ x. IsNewSeat c (theory.client_view x)) (get_or_from_slice_get above k seat seat e) (all k seat (slice_get_within above k seat e))

  -- it is before its Bye at each side above
  all_before :
      (c u room : ℕ) (nested : List (ℕ × Name)) (above : List Client) (lanes : List (Lane V O R T)) → All (λ seat. IsNewSeat c (theory.client_view seat)) above
      → AreNewLanes u room nested (length above) lanes → IsAbove c lanes (map theory.client_view above)
  all_before c u room nested above lanes all are = record {
    as_many = are.as_many ∙ sym (length-map above theory.client_view);
    places = λ k up e.
        let (seat, es, eu) = mapped_from theory.client_view above k up e in ap (λ v. v.place) eu ∙ (new_seat c above all k seat es).place;
    asked = λ k up e.
        let (seat, es, eu) = mapped_from theory.client_view above k up e in
        subst (λ qs. AllByRecursion IsOfTrustee qs) (sym (ap (λ v. v.sent) eu ∙ (new_seat c above all k seat es).sent)) tt;
    stages = λ k lane up e eu.
        let (seat, es, is_seat) = mapped_from theory.client_view above k up eu in
        let new = new_seat c above all k seat es in
        subst (λ s. IsAt s up) (sym (are.each k lane e).stage) (ap (λ v. has_bye v.sent) is_seat ∙ ap has_bye new.sent);
  }

  pub begins_serving :
      (kind : Kind V O R T) (opening : State V O R T) (config : Config) (whole first : List (First V)) (t : Trustee V Table O R T Client Owner)
      → t.clients ≡ config.clients → t.since.items ≡ []
      → MayBegin opening t.number config whole first t.nested.items (length t.above.items) → HasOpened kind t.number config first t.state
      → IsNewHome (theory.trustee_view t.side)
      → All (λ seat. IsNewSeat (config.clients + t.number) (theory.client_view seat)) t.above.items
      → (count : ℕ) → count ≡ length t.above.items → AreNewLanes (t.number + 1) config.objects t.nested.items count t.lanes.items
      → AreCounted t.number t.lanes.items (t.number + 1 + length t.lanes.items) t.held.items → IsServing theory kind opening t
  begins_serving kind opening config whole first t clients none may opened new all count many made counted =
      let lanes : AreNewLanes (t.number + 1) config.objects t.nested.items (length t.above.items) t.lanes.items =
      subst (λ n. AreNewLanes (t.number + 1) config.objects t.nested.items n t.lanes.items) many made in
      let log = (theory.trustee_view t.side).log in
      let empty : log ++ t.since.items ≡ [] = ap (λ l. log ++ l) none ∙ append-nil log ∙ new.log in
      let represents : Represents kind opening (log ++ t.since.items) t.state =
      subst (λ s. Represents kind s (log ++ t.since.items) t.state) (sym may.opening)
      (subst (λ l. Represents kind (opening_of t.number config whole) l t.state) (sym empty) (opened whole may.opens)) in
      let of_config : config.objects ≡ opening.setup.config.objects = sym (ap (λ s. s.setup.config.objects) may.opening) in
      record {
        number = sym (ap (λ s. s.setup.number) may.opening);
        clients = clients ∙ sym (ap (λ s. s.setup.config.clients) may.opening);
        current = record { represents = represents; only = subst (λ l. AreResumes l) (sym none) tt };
        free = new.free;
        sides = may.sides ∙ sym (ap (λ s. s.setup.config.trustees) may.opening);
        above =
            subst (λ m. IsAbove (m + t.number) t.lanes.items (map theory.client_view t.above.items)) (sym clients)
            (all_before (config.clients + t.number) (t.number + 1) config.objects t.nested.items t.above.items t.lanes.items all lanes);
        nested = may.nested;
        held = held_are opening t.number config whole first t.nested.items (length t.above.items) may config.objects t.lanes.items lanes t.held.items counted;
        awaited = subst (λ l. AreAwaited kind opening l) (sym empty) (none_awaited kind opening represents.opens);
        lanes = λ i up lane eu el.
            let (seat, es, is_up) = mapped_from theory.client_view t.above.items i up eu in
            let fresh = new_seat (config.clients + t.number) t.above.items all i seat es in
            subst (λ l. IsLane kind opening l (t.number + 1 + i) up lane) (sym empty)
            (new_lane kind opening (t.number + 1 + i) config.objects t.nested.items up lane (lanes.each i lane el) (ap (λ v. v.sent) is_up ∙ fresh.sent)
            (ap (λ v. v.out) is_up ∙ fresh.out) may.nested of_config);
        told = λ i lane el. ap (λ v. v.items) (lanes.each i lane el).came;
        idle = λ c lt said. let bad : false ≡ true = ap (λ l. has_bye (ran c l)) (sym new.log) ∙ said in absurd cc;
        said = λ i lane el beyond. absurd (beyond (lanes.each i lane el).stage);
      }
