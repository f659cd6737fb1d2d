-- What a trustee has of its launches is what the state says: the first of an object, and the entries of a launch that goes on.
use Rattle.std.proofs.Common.{◌≡◌, ℕ, ◌<◌, ◌≤◌, List, [], ◌∷◌, map, inl, inr, refl, sym, ◌∙◌, ap, subst, eq-eqb, ne_eqb}
use Rattle.std.specs.Prelude.{IsSome}
use Rattle.std.specs.List.{AllByRecursion}
use Rattle.std.specs.declared.option.Option.{Option}
use Rattle.std.specs.declared.option.Option.TheVariants.{None, Some}
use Rattle.std.proofs.lemmas.Bool.{cases_eq}
use Rattle.tm_seq.specs.Kind.{Kind}
use Rattle.tm_seq.specs.declared.kind.Event.{Event}
use Rattle.tm_seq.specs.declared.kind.Event.TheVariants.{NotAbove, NoObject}
use Rattle.tm_seq.specs.declared.kind.Next.{Next}
use Rattle.tm_seq.specs.declared.kind.Next.TheVariants.{Ask, Done}
use Rattle.tm_latch.specs.declared.ticket.Ticket.{Ticket}
use Rattle.tm_latch.specs.Tickets.{first_of, tickets_of}
use Rattle.tm_model.specs.declared.entry.Entry.{Entry}
use Rattle.tm_model.specs.declared.entry.Entry.TheVariants.{By, Resume, Sent}
use Rattle.tm_model.specs.State.{Work, Object, Setup, State, object_of}
use Rattle.tm_model.specs.Serve.{works_in}
use Rattle.tm_core.proofs.CallerLemmas.{option_cases}
use Rattle.tm_core.proofs.Finding.{all_found, found_id}
use Rattle.tm_state.specs.Launches.{Pending, work_of, works_at as kept_at}
use Rattle.tm_state.specs.Represents.{Keeps}
use Rattle.tm_state.specs.Resuming.{AreHeld, Continues}
use Rattle.tm_state.specs.StateView.{StateView}
use Rattle.tm_trustee.specs.NestedAsks.{works_at}
use Rattle.tm_trustee.proofs.Runs.{IsRunOf}

module _ {K : Type 0} where
  -- the first ticket of an object is the first of its tickets
  first_tickets : (id : ℕ) (ts : List (Ticket K)) (t : Ticket K) → first_of id ts ≡ Some t → (rest : List (Ticket K)) × (tickets_of id ts ≡ t ∷ rest)
  first_tickets id [] t e = absurd cc
  first_tickets id (x ∷ ts) t e =
      elim (cases_eq x.id id) [
        | inl same ↦
            let here = rw (eq-eqb x.id id same) at e in
            let is : x ≡ t = cc in
            (tickets_of id ts, rw (eq-eqb x.id id same) (ap (λ y. y ∷ tickets_of id ts) is))
        | inr ne ↦
            let later = rw (ne_eqb x.id id ne) at e in
            let (rest, more) = first_tickets id ts t later in
            (rest, rw (ne_eqb x.id id ne) more)
      ]

  tickets_first : (id : ℕ) (ts rest : List (Ticket K)) (t : Ticket K) → tickets_of id ts ≡ t ∷ rest → (first_of id ts ≡ Some t) × (t.id ≡ id)
  tickets_first id [] rest t e = absurd cc
  tickets_first id (x ∷ ts) rest t e =
      elim (cases_eq x.id id) [
        | inl same ↦
            let here = rw (eq-eqb x.id id same) at e in
            let is : x ≡ t = cc in
            (rw (eq-eqb x.id id same) (ap (λ y. Some y) is), ap (λ y. y.id) (sym is) ∙ same)
        | inr ne ↦
            let later = rw (ne_eqb x.id id ne) at e in
            let (first, own) = tickets_first id ts rest t later in
            (rw (ne_eqb x.id id ne) first, own)
      ]

  all_first : (P : Ticket K → Type 0) (id : ℕ) (ts : List (Ticket K)) (t : Ticket K) → first_of id ts ≡ Some t → AllByRecursion P ts → P t
  all_first P id [] t e all = absurd cc
  all_first P id (x ∷ ts) t e all =
      elim (cases_eq x.id id) [
        | inl same ↦ let here = rw (eq-eqb x.id id same) at e in let is : x ≡ t = cc in subst P is all.0
        | inr ne ↦ let later = rw (ne_eqb x.id id ne) at e in all_first P id ts t later all.1
      ]

  none_of : (P : Ticket K → Type 0) (id : ℕ) (ts : List (Ticket K)) → AllByRecursion P ts → ((t : Ticket K) → t.id ≡ id → P t → ⊥) → tickets_of id ts ≡ []
  none_of P id [] all never = refl
  none_of P id (x ∷ ts) all never =
      elim (cases_eq x.id id) [
        | inl same ↦ absurd (never x same all.0)
        | inr ne ↦ rw (ne_eqb x.id id ne) (none_of P id ts all.1 never)
      ]

module _ {V O R T : Type 0} where
  -- the launches of an id that are kept are those that the state has
  pub kept_works : (s : State V O R T) (h : StateView V O R T) (id : ℕ) → Keeps s h → kept_at id h.launched ≡ works_at s id
  kept_works s h id keeps =
      elim (option_cases (object_of s.live id)) [
        | inl none ↦
            ap (map work_of) (none_of (λ t. IsSome (object_of s.live t.id)) id h.launched keeps.live
            (λ t e some. let bad : IsSome {T = Object V T} None = subst (λ (o : Option (Object V T)). IsSome o) (ap (object_of s.live) e ∙ none) some in cc))
            ∙ sym (ap works_in none)
        | inr (o, at) ↦
            let own = found_id s.live id o at in
            ap (λ n. kept_at n h.launched) (sym own) ∙ all_found (λ x. kept_at x.id h.launched ≡ x.works) id s.live o at keeps.works ∙ sym (ap works_in at)
      ]

  -- the first launch of an object is the first of its unfinished launches in the state
  pub first_works :
      (s : State V O R T) (h : StateView V O R T) (l : Ticket (Pending T)) → Keeps s h → first_of l.id h.launched ≡ Some l
      → (ws : List (Work T)) × (works_at s l.id ≡ work_of l ∷ ws)
  first_works s h l keeps e =
      let (rest, all) = first_tickets l.id h.launched l e in
      (map work_of rest, sym (kept_works s h l.id keeps) ∙ ap (map work_of) all)

module _ {T : Type 0} where
  abbrev launch_of : ℕ → Work T → Ticket (Pending T)
  launch_of id w = record { id = id; number = w.ticket; task = record { place = w.place; task = w.task; awaits = w.awaits } }

  same_ticket : (a b : Ticket (Pending T)) → a.id ≡ b.id → work_of a ≡ work_of b → a ≡ b
  same_ticket a b id works = ap (λ i. launch_of i (work_of a)) id ∙ ap (λ w. launch_of b.id w) works

  mapped_first : (ts : List (Ticket (Pending T))) (w : Work T) (ws : List (Work T)) → map work_of ts ≡ w ∷ ws → (t : Ticket (Pending T)) × (rest : List (Ticket (Pending T))) × (ts ≡ t ∷ rest) × (work_of t ≡ w)
  mapped_first [] w ws e = absurd cc
  mapped_first (t ∷ ts) w ws e = let is : work_of t ≡ w = cc in (t, ts, refl, is)

module _ {V O R T : Type 0} where
  -- and the other way round
  pub works_first :
      (s : State V O R T) (h : StateView V O R T) (l : Ticket (Pending T)) (ws : List (Work T)) → Keeps s h → works_at s l.id ≡ work_of l ∷ ws
      → first_of l.id h.launched ≡ Some l
  works_first s h l ws keeps e =
      let (t, rest, is, same) = mapped_first (tickets_of l.id h.launched) (work_of l) ws (kept_works s h l.id keeps ∙ e) in
      let (first, own) = tickets_first l.id h.launched rest t is in
      first ∙ ap (λ x. Some x) (same_ticket t l own same)

  -- the entries of a launch that goes on are a run
  pub run_of :
      (kind : Kind V O R T) (setup : Setup) (number : ℕ) (held : List ℕ) (id ticket : ℕ) (v : V) (task : T) (event : Event R) (es : List (Entry V O R T)) (w : V) (next : Next O T R)
      → number ≡ setup.number → AreHeld setup held → Continues kind number held id ticket v task event es w next → IsRunOf setup id ticket event es next
  run_of kind setup number held id ticket v task event [] w next same are goes = absurd goes
  run_of kind setup number held id ticket v task event (By c k q a ∷ es) w next same are goes = absurd goes
  run_of kind setup number held id ticket v task event (Sent c room ∷ es) w next same are goes = absurd goes
  run_of kind setup number held id ticket v task event (Resume i t e (Done r) ∷ es) w next same are goes =
      let (own, ticket_is, event_is, lawful, none, last) = goes in (own, ticket_is, event_is, none, last)
  run_of kind setup number held id ticket v task event (Resume i t e (Ask u x op after) ∷ es) w next same are goes =
      let (between, own, ticket_is, event_is, lawful, on) = goes in (
        own,
        ticket_is,
        event_is,
        elim on [
          | inl stops ↦
              let (none, value, last, above) = stops in
              inl (none, last, subst (λ n. n < u) same above.0, subst (λ n. x < n) (are u) above.1)
          | inr goes_on ↦
              elim goes_on [
                | inl below ↦ inr (inl (subst (λ n. u ≤ n) same below.0, run_of kind setup number held id ticket between after NotAbove es w next same are below.1))
                | inr none ↦
                    inr (inr (subst (λ n. n < u) same none.0, subst (λ n. n ≤ x) (are u) none.1, run_of kind setup number held id ticket between after NoObject es w next same are none.2))
              ]
        ],
      )
