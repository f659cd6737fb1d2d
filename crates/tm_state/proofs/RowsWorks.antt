-- The launches that are kept, where the objects change.
use Rattle.std.proofs.Common.{◌≡◌, ◌≢◌, ℕ, ◌≤◌, true, false, cond, List, [], ◌∷◌, ◌++◌, length, map, inl, inr, refl, sym, ◌∙◌, ap, subst, arith, eq-eqb, ne_eqb}
use Rattle.std.specs.Prelude.{◌==◌, IsSome}
use Rattle.std.specs.List.{AllByRecursion}
use Rattle.std.specs.declared.option.Option.{Option}
use Rattle.std.specs.declared.option.Option.TheVariants.{None, Some}
use Rattle.std.proofs.lemmas.Bool.{cases_eq, false≢true}
use Rattle.std.proofs.lemmas.List.{length-map}
use Rattle.tm_latch.specs.declared.ticket.Ticket.{Ticket}
use Rattle.tm_latch.specs.Tickets.{tickets_of}
use Rattle.tm_model.specs.State.{Object, total, change, kept, without, object_of}
use Rattle.tm_core.proofs.CallerLemmas.{option_cases, all_weaker, all_both, all_filter, all-append}
use Rattle.tm_core.proofs.Finding.{map_found, append_found}
use Rattle.tm_state.specs.Launches.{Pending, work_of, works_at}

pub some_of : {X : Type 0} (o : Option X) → IsSome o → (x : X) × (o ≡ Some x)
some_of o some =
    elim (option_cases o) [
      | inl none ↦ absurd (false≢true (subst (λ x. IsSome x) none some))
      | inr is ↦ is
    ]

module _ {T : Type 0} where
  no_fewer : (t : Ticket (Pending T)) (id : ℕ) (launched : List (Ticket (Pending T))) → length (tickets_of id launched) ≤ length (tickets_of id (t ∷ launched))
  no_fewer t id launched =
      elim (t.id == id) as (λ b. length (tickets_of id launched) ≤ length (cond b (t ∷ tickets_of id launched) (tickets_of id launched))) [
        | true ↦ omega arith
        | false ↦ omega arith
      ]

  -- each launch is one of its object's
  pub all_have : (launched : List (Ticket (Pending T))) → AllByRecursion (λ t. 1 ≤ length (tickets_of t.id launched)) launched
  all_have [] = tt
  all_have (t ∷ launched) = (
    rw (eq-eqb t.id t.id refl) (omega arith),
    all_weaker _ _ launched (λ u have. let more = no_fewer t u.id launched in omega (arith, more, have)) (all_have launched),
  )

module _ {V T : Type 0} where
  -- the launches of some objects are kept, and no others
  pub record AreKept (launched : List (Ticket (Pending T))) (live : List (Object V T)) : Type 0 where
    pub works : AllByRecursion (λ o. works_at o.id launched ≡ o.works) live
    pub known : AllByRecursion (λ t. IsSome (object_of live t.id)) launched

  -- the launches that are kept of some objects are those of others
  abbrev pub WorksStay : List (Object V T) → List (Object V T) → Type 0
  WorksStay live new = (launched : List (Ticket (Pending T))) → AreKept launched live → AreKept launched new

  none_at :
      (id : ℕ) (live : List (Object V T)) (launched : List (Ticket (Pending T))) → object_of live id ≡ None
      → AllByRecursion (λ t. IsSome (object_of live t.id)) launched → tickets_of id launched ≡ []
  none_at id live [] none all = refl
  none_at id live (t ∷ launched) none all =
      elim (cases_eq t.id id) [
        | inl e ↦ absurd (false≢true (subst (λ o. IsSome o) none (subst (λ i. IsSome (object_of live i)) e all.0)))
        | inr ne ↦ rw (ne_eqb t.id id ne) (none_at id live launched none all.1)
      ]

  -- a new object, without launches
  pub stay_append : (live : List (Object V T)) (o : Object V T) → object_of live o.id ≡ None → o.works ≡ [] → WorksStay live (live ++ o ∷ [])
  stay_append live o fresh none launched k = record {
    works = all-append _ live (o ∷ []) k.works (ap (λ l. map work_of l) (none_at o.id live launched fresh k.known) ∙ sym none, tt);
    known = all_weaker _ _ launched
        (λ t some. let (x, at) = some_of (object_of live t.id) some in subst (λ y. IsSome y) (sym (append_found live o t.id x at)) refl) k.known;
  }

  map_works :
      (launched : List (Ticket (Pending T))) (f : Object V T → Object V T) (live : List (Object V T)) → ((o : Object V T) → (f o).id ≡ o.id)
      → ((o : Object V T) → (f o).works ≡ o.works) → AllByRecursion (λ o. works_at o.id launched ≡ o.works) live
      → AllByRecursion (λ o. works_at o.id launched ≡ o.works) (map f live)
  map_works launched f [] same keep all = tt
  map_works launched f (o ∷ live) same keep all =
      (ap (λ i. works_at i launched) (same o) ∙ all.0 ∙ sym (keep o), map_works launched f live same keep all.1)

  pub map_some : (f : Object V T → Object V T) (live : List (Object V T)) (id : ℕ) → ((o : Object V T) → (f o).id ≡ o.id) → IsSome (object_of live id) → IsSome (object_of (map f live) id)
  map_some f live id same some =
      let (x, at) = some_of (object_of live id) some in
      subst (λ y. IsSome y) (sym (map_found id f live x same at)) refl

  -- a change of all objects that keeps ids and launches
  pub stay_map :
      (f : Object V T → Object V T) (live : List (Object V T)) → ((o : Object V T) → (f o).id ≡ o.id)
      → ((o : Object V T) → (f o).works ≡ o.works) → WorksStay live (map f live)
  stay_map f live same keep launched k = record {
    works = map_works launched f live same keep k.works;
    known = all_weaker _ _ launched (λ t some. map_some f live t.id same some) k.known;
  }

  -- and one of an id
  pub stay_change :
      (i : ℕ) (f : Object V T → Object V T) (live : List (Object V T)) → ((o : Object V T) → (f o).id ≡ o.id)
      → ((o : Object V T) → (f o).works ≡ o.works) → WorksStay live (change i f live)
  stay_change i f live same keep =
      stay_map (λ o. cond (o.id == i) (f o) o) live
      (λ o. elim (o.id == i) as (λ t. (cond t (f o) o).id ≡ o.id) [ true ↦ same o | false ↦ refl ])
      (λ o. elim (o.id == i) as (λ t. (cond t (f o) o).works ≡ o.works) [ true ↦ keep o | false ↦ refl ])

  -- an object of which a launch is kept has one
  has_works :
      (launched : List (Ticket (Pending T))) (live : List (Object V T)) (id : ℕ) → 1 ≤ length (tickets_of id launched)
      → AllByRecursion (λ o. works_at o.id launched ≡ o.works) live → AllByRecursion (λ o. o.id ≡ id → 1 ≤ length o.works) live
  has_works launched live id have all =
      all_weaker _ _ live
      (λ o e named.
      let own : 1 ≤ length (tickets_of o.id launched) = subst (λ i. 1 ≤ length (tickets_of i launched)) (sym named) have in
      let long = length-map (tickets_of o.id launched) work_of in
      let same = ap length e in
      omega (arith, own, long, same)) all

  pub kept_some :
      (id : ℕ) (live : List (Object V T)) → AllByRecursion (λ o. o.id ≡ id → 1 ≤ length o.works) live → IsSome (object_of live id)
      → IsSome (object_of (kept live) id)
  kept_some id [] all some = some
  kept_some id (o ∷ live) all some =
      elim (cases_eq o.id id) [
        | inl e ↦
            let own = all.0 e in
            let more : total o ≢ 0 = λ none. omega (arith, own, none) in
            rw (ne_eqb (total o) 0 more, eq-eqb o.id id e) refl
        | inr ne ↦
            let rest = kept_some id live all.1 (rw (ne_eqb o.id id ne) at some) in
            elim (cases_eq (total o) 0) [
              | inl none ↦ rw (eq-eqb (total o) 0 none) rest
              | inr more ↦ rw (ne_eqb (total o) 0 more, ne_eqb o.id id ne) rest
            ]
      ]

  -- objects that go have no launches
  pub stay_kept : (live : List (Object V T)) → WorksStay live (kept live)
  stay_kept live launched k = record {
    works = all_weaker _ _ (kept live) (λ o h. h.0) (all_filter _ _ live k.works);
    known = all_weaker _ _ launched (λ t h. kept_some t.id live (has_works launched live t.id h.1 k.works) h.0) (all_both _ _ launched k.known (all_have launched));
  }

  none_there : (id : ℕ) (live : List (Object V T)) → AllByRecursion (λ o. o.id ≢ id) live → IsSome (object_of live id) → ⊥
  none_there id [] all some = false≢true some
  none_there id (o ∷ live) all some = none_there id live all.1 (rw (ne_eqb o.id id all.0) at some)

  without_some : (i id : ℕ) (live : List (Object V T)) → id ≢ i → IsSome (object_of live id) → IsSome (object_of (without i live) id)
  without_some i id [] ne some = some
  without_some i id (o ∷ live) ne some =
      elim (cases_eq o.id id) [
        | inl e ↦
            let other : o.id ≢ i = λ is. ne (sym e ∙ is) in
            rw (ne_eqb o.id i other, eq-eqb o.id id e) refl
        | inr elsewhere ↦
            let rest = without_some i id live ne (rw (ne_eqb o.id id elsewhere) at some) in
            elim (cases_eq o.id i) [
              | inl is ↦ rw (eq-eqb o.id i is) rest
              | inr not ↦ rw (ne_eqb o.id i not, ne_eqb o.id id elsewhere) rest
            ]
      ]

  -- the objects of an id that go have none
  pub stay_without :
      (i : ℕ) (live : List (Object V T)) → AllByRecursion (λ o. o.id ≡ i → length o.works ≡ 0) live → WorksStay live (without i live)
  stay_without i live none launched k = record {
    works = all_weaker _ _ (without i live) (λ o h. h.0) (all_filter _ _ live k.works);
    known = all_weaker _ _ launched
        (λ t h. without_some i t.id live
        (λ e. none_there t.id live
        (all_weaker _ _ live (λ o both named. let own = both.0 named in let gone = both.1 (named ∙ e) in omega (arith, own, gone)) (all_both _ _ live (has_works launched live t.id h.1 k.works) none))
        h.0)
        h.0)
        (all_both _ _ launched k.known (all_have launched));
  }
