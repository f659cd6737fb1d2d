-- A ticket is that of one unfinished launch at most, so no launch ends twice.
use Rattle.std.proofs.Common.{◌≡◌, ◌≢◌, ℕ, ◌+◌, ◌-◌, ◌<◌, ◌≤◌, true, false, not, cond, List, [], ◌∷◌, ◌++◌, map, slice_set, inl, inr, refl, ◌∙◌, ap, subst, arith, eq-eqb, ne_eqb}
use Rattle.std.specs.Prelude.{◌==◌, nat_eq}
use Rattle.std.specs.List.{AllByRecursion, IsDistinct}
use Rattle.std.specs.declared.option.Option.TheVariants.{Some}
use Rattle.std.proofs.lemmas.Bool.{cases_eq}
use Rattle.tm_seq.specs.Kind.{Kind}
use Rattle.tm_seq.specs.declared.kind.Event.{Event}
use Rattle.tm_seq.specs.declared.kind.Next.{Next}
use Rattle.tm_seq.specs.declared.kind.Next.TheVariants.{Ask, Done}
use Rattle.tm_batch.specs.declared.config.First.{First}
use Rattle.tm_batch.specs.declared.message.Request.{Request}
use Rattle.tm_batch.specs.declared.message.Request.TheVariants.{Entrust, Apply, Launch, Grant, Release, Reclaim, Bye}
use Rattle.tm_batch.specs.declared.message.Answer.{Answer}
use Rattle.tm_batch.specs.declared.message.Answer.TheVariants.{Entrusted, Replied, Launched, Granted, Released, Reclaimed, ByeDone}
use Rattle.tm_model.specs.declared.entry.Entry.{Entry}
use Rattle.tm_model.specs.declared.entry.Entry.TheVariants.{By, Resume, Sent}
use Rattle.tm_model.specs.State.{Start, Work, Setup, Object, State, place_of, place_count, holds_of, with_holds, total, change, object_of}
use Rattle.tm_model.specs.Opening.{opened, placed_on}
use Rattle.tm_model.specs.Serve.{value_run, value_advanced, works_resumed, works_in, served, after}
use Rattle.tm_model.specs.Legal.{HasFirst, Serves, MayCome, IsLegal}
use Rattle.tm_model.specs.Given.{ended_from}
use Rattle.tm_model.specs.Laws.{IsOpening, CompletionsAreOfLaunches}
use Rattle.tm_core.proofs.CallerLemmas.{weaker_first, found}
use Rattle.tm_core.proofs.Weighing.{weigh, weigh_filter, weigh_map, weigh_change_same, weigh-append, weigh_found, weigh_change}
use Rattle.tm_core.proofs.Bounds.{IsBoundedObject}
use Rattle.tm_core.proofs.Numbering.{opening_place}
use Rattle.tm_core.proofs.Longer.{after_gives_tickets}
use Rattle.tm_core.proofs.Sound.{IsBounded, after_bounded, opening_bounded}
use Rattle.tm_core.proofs.Ordered.{IsOrdered, after_ordered, opening_ordered}
use Rattle.tm_core.proofs.Living.{completed_live}
use Rattle.tm_core.proofs.Finding.{all_found}
use Rattle.tm_core.proofs.Tracing.{is_among, IsKnown, given_after, IsTraced}
use Rattle.tm_core.proofs.Completing.{ended_by, completes}

module _ {T : Type 0} where
  -- how many of some launches have a ticket
  abbrev times : ℕ → List (Work T) → ℕ
  times t [] = 0
  times t (w ∷ ws) = cond (w.ticket == t) 1 0 + times t ws

  times-append : (t : ℕ) (ws : List (Work T)) (w : Work T) → times t (ws ++ w ∷ []) ≡ times t ws + cond (w.ticket == t) 1 0
  times-append t [] w = omega arith
  times-append t (x ∷ ws) w = let more = times-append t ws w in omega (arith, more)

  times_none : (n t ticket : ℕ) (ws : List (Work T)) → ticket ≤ t → AllByRecursion (λ w. (w.place < n) × (w.ticket < ticket)) ws → times t ws ≡ 0
  times_none n t ticket [] le h = refl
  times_none n t ticket (w ∷ ws) le h =
      let less = h.0.1 in
      let ne : w.ticket ≢ t = omega arith in
      let more = times_none n t ticket ws le h.1 in
      rw (ne_eqb w.ticket t ne) (omega (arith, more))

  -- a resume leaves no more, and one less where it ends
  times_resumed : {O R : Type 0} → (t : ℕ) (ws : List (Work T)) (next : Next O T R) → times t (works_resumed ws next) ≤ times t ws
  times_resumed t [] next = omega arith
  times_resumed t (w ∷ ws) (Ask u i op task) = omega arith
  times_resumed t (w ∷ ws) (Done r) = omega arith

  times_done :
      {R : Type 0} → (O : Type 0) (t : ℕ) (ws : List (Work T)) (r : R) → HasFirst ws (λ w. w.ticket ≡ t) → times t (works_resumed {O = O} ws (Done r)) + 1 ≤ times t ws
  times_done O t [] r h = absurd h
  times_done O t (w ∷ ws) r h = rw (eq-eqb w.ticket t h) (omega arith)

  times_first : (t : ℕ) (ws : List (Work T)) → HasFirst ws (λ w. w.ticket ≡ t) → 1 ≤ times t ws
  times_first t [] h = absurd h
  times_first t (w ∷ ws) h = rw (eq-eqb w.ticket t h) (omega arith)

module _ {V T : Type 0} where
  -- how many launches of some objects have a ticket
  abbrev times_in : ℕ → List (Object V T) → ℕ
  times_in t live = weigh (λ o. times t o.works) live

  times_in_none :
      (n t ticket : ℕ) (live : List (Object V T)) → ticket ≤ t → AllByRecursion (IsBoundedObject n ticket) live → times_in t live ≡ 0
  times_in_none n t ticket [] le h = refl
  times_in_none n t ticket (o ∷ live) le h =
      let first = times_none n t ticket o.works le h.0.0.works in
      let more = times_in_none n t ticket live le h.1 in
      omega (arith, first, more)

opened_times : {V : Type 0} (T : Type 0) (places t id : ℕ) (first : List (First V)) → times_in {V = V} {T = T} t (opened places id first) ≡ 0
opened_times T places t id [] = refl
opened_times T places t id (f ∷ first) = let more = opened_times T places t (id + 1) first in omega (arith, more)

opened_known : {V : Type 0} (T : Type 0) (places c id : ℕ) (first : List (First V)) → AllByRecursion (IsKnown {V = V} {T = T} c []) (opened places id first)
opened_known T places c id [] = tt
opened_known T places c id (f ∷ first) = (tt, opened_known T places c (id + 1) first)

first_below :
    {T : Type 0} (n t ticket : ℕ) (ws : List (Work T)) → HasFirst ws (λ w. w.ticket ≡ t) → AllByRecursion (λ w. (w.place < n) × (w.ticket < ticket)) ws → t < ticket
first_below n t ticket [] h all = absurd h
first_below n t ticket (w ∷ ws) h all = let less = all.0.1 in omega (arith, less, h)

module _ {V O R T : Type 0} where
  -- an entry brings no launch but one with the next ticket
  served_times :
      (kind : Kind V O R T) (n c t : ℕ) (q : Request V O R T) (a : Answer V O R T) (s : State V O R T) → Serves kind s c q a → IsOrdered n s
      → times_in t (served kind c q a s).live ≤ times_in t s.live + cond (s.next_ticket == t) 1 0
  served_times kind n c t (Entrust v) (Entrusted name) s may h =
      let more = weigh-append (λ o. times t o.works) s.live (record { id = name.id; value = v; holds = slice_set (map (λ _. 0) s.places) c 1; works = [] }) in
      omega (arith, more)
  served_times kind n c t (Apply i op) (Replied r) s may h =
      let same = weigh_change_same (λ o. times t o.works) i.id (λ o. record o { value = value_run kind o.value op r }) s.live (λ o. refl) in
      omega (arith, same)
  served_times kind n c t (Launch i task) (Launched ticket) s may h =
      let (x, at, one) = found (object_of s.live i.id) (λ o. 1 ≤ holds_of o c) may.0 in
      let w : Work T = record { place = c; ticket = ticket; task = task; awaits = Start } in
      let changed = weigh_change (λ o. times t o.works) n 1 s.next_id i.id (λ o. record o { works = o.works ++ w ∷ [] }) s.live x h.rises at in
      let longer = times-append t x.works w in
      let same : ◌≡◌ {A = ℕ} (cond (ticket == t) 1 0) (cond (s.next_ticket == t) 1 0) = ap (λ m. cond (m == t) 1 0) may.1.0 in
      omega (arith, changed, longer, same)
  served_times kind n c t (Grant i d) Granted s may h =
      let same = weigh_change_same (λ o. times t o.works) i.id (λ o. with_holds d (holds_of o d + 1) o) s.live (λ o. refl) in
      omega (arith, same)
  served_times kind n c t (Release i) Released s may h =
      let same = weigh_change_same (λ o. times t o.works) i.id (λ o. with_holds c (holds_of o c - 1) o) s.live (λ o. refl) in
      let less = weigh_filter (λ o. times t o.works) (λ o. not (total o == 0)) (change i.id (λ o. with_holds c (holds_of o c - 1) o) s.live) in
      omega (arith, same, less)
  served_times kind n c t (Reclaim i) (Reclaimed v) s may h =
      let less = weigh_filter (λ o. times t o.works) (λ o. not (o.id == i.id)) s.live in
      omega (arith, less)
  served_times kind n c t Bye ByeDone s may h =
      let same = weigh_map (λ o. times t o.works) (λ o. with_holds c 0 o) s.live (λ o. refl) in
      let less = weigh_filter (λ o. times t o.works) (λ o. not (total o == 0)) (map (λ o. with_holds c 0 o) s.live) in
      omega (arith, same, less)
  served_times kind n c t _ _ s may h = omega arith

  -- a resume leaves no more launches with a ticket than its object's first launch leaves
  resumed_times :
      (kind : Kind V O R T) (n t i ticket : ℕ) (event : Event R) (next : Next O T R) (s : State V O R T) (x : Object V T)
      → IsOrdered n s → object_of s.live i ≡ Some x
      → times_in t (after kind s (Resume i ticket event next)).live + times t x.works ≤ times_in t s.live + times t (works_resumed x.works next)
  resumed_times kind n t i ticket event next s x h at =
      let f : Object V T → Object V T = λ o. record o { value = value_advanced kind o.value o.works event next; works = works_resumed o.works next } in
      let changed = weigh_change (λ o. times t o.works) n 1 s.next_id i f s.live x h.rises at in
      let less = weigh_filter (λ o. times t o.works) (λ o. not (total o == 0)) (change i f s.live) in
      rw (completed_live (works_in (object_of s.live i)) ticket next _) (omega (arith, changed, less))

  after_times :
      (kind : Kind V O R T) (n t : ℕ) (s : State V O R T) (e : Entry V O R T) → MayCome kind s e → IsOrdered n s
      → times_in t (after kind s e).live ≤ times_in t s.live + cond (s.next_ticket == t) 1 0
  after_times kind n t s (By c k q a) may h = served_times kind n c t q a s may.2 h
  after_times kind n t s (Resume i ticket event next) may h =
      let (x, at, first) = found (object_of s.live i) _ may in
      let step = resumed_times kind n t i ticket event next s x h at in
      let less = times_resumed t x.works next in
      omega (arith, step, less)
  after_times kind n t s (Sent c room) may h = omega arith

  -- the next ticket does not fall
  ticket_rises : (kind : Kind V O R T) (s : State V O R T) (e : Entry V O R T) → MayCome kind s e → s.next_ticket ≤ (after kind s e).next_ticket
  ticket_rises kind s e may = elim (after_gives_tickets kind s e may) [ inl (same, past) ↦ omega (arith, same) | inr (one, here) ↦ omega (arith, one) ]

  not_ended :
      (kind : Kind V O R T) (c t : ℕ) (given : List ℕ) (s : State V O R T) (e : Entry V O R T) (es : List (Entry V O R T))
      → MayCome kind s e → times_in t s.live ≡ 0
      → ((later : List ℕ) → AllByRecursion (λ y. nat_eq t y ≡ false) (map (λ x. x.ticket) (ended_from c later es)))
      → AllByRecursion (λ y. nat_eq t y ≡ false) (map (λ x. x.ticket) (ended_from c given (e ∷ es)))
  not_ended kind c t given s (By d k q a) es may none more = rw (ended_by c d k given q a es) (more (given_after c given (By d k q a)))
  not_ended kind c t given s (Resume i ticket event (Ask u j op task)) es may none more = more given
  not_ended kind c t given s (Resume i ticket event (Done r)) es may none more =
      let (x, at, first) = found (object_of s.live i) _ may in
      let own = times_first ticket x.works (weaker_first x.works _ _ (λ w h. h.0) first) in
      let part = weigh_found (λ o. times ticket o.works) i s.live x at in
      let ne : t ≢ ticket = λ e. let none' = subst (λ m. times_in m s.live ≡ 0) e none in omega (arith, own, part, none') in
      let rest = more given in
      elim (is_among ticket given) as
      (λ b. AllByRecursion (λ y. nat_eq t y ≡ false)
      (map (λ x. x.ticket) (cond b (record { ticket = ticket; reply = r } ∷ ended_from c given es) (ended_from c given es)))) [
        | true ↦ (ne_eqb t ticket ne, rest)
        | false ↦ rest
      ]
  not_ended kind c t given s (Sent d room) es may none more = more given

  -- a ticket that was given out and of which no launch is left ends no more
  ends_no_more :
      (kind : Kind V O R T) (n c t : ℕ) (given : List ℕ) (s : State V O R T) (log : List (Entry V O R T))
      → IsLegal kind s log → IsOrdered n s → t < s.next_ticket → times_in t s.live ≡ 0
      → AllByRecursion (λ y. nat_eq t y ≡ false) (map (λ x. x.ticket) (ended_from c given log))
  ends_no_more kind n c t given s [] legal h lt none = tt
  ends_no_more kind n c t given s (e ∷ es) legal h lt none =
      let ne : s.next_ticket ≢ t = omega arith in
      let no : ◌≡◌ {A = ℕ} (cond (s.next_ticket == t) 1 0) 0 = ap (λ b. cond b 1 0) (ne_eqb s.next_ticket t ne) in
      let step = after_times kind n t s e legal.0 h in
      let rises = ticket_rises kind s e legal.0 in
      let more : (later : List ℕ) → AllByRecursion (λ y. nat_eq t y ≡ false) (map (λ x. x.ticket) (ended_from c later es)) =
      λ later. ends_no_more kind n c t later (after kind s e) es legal.1 (after_ordered kind n s e legal.0 h) (omega (arith, rises, lt)) (omega (arith, step, none, no)) in
      not_ended kind c t given s e es legal.0 none more

  -- the first end of a launch is the only one of its ticket
  once_more :
      (kind : Kind V O R T) (n c : ℕ) (built : Setup) (given : List ℕ) (s : State V O R T) (e : Entry V O R T) (es : List (Entry V O R T))
      → IsLegal kind s (e ∷ es) → IsOrdered n s → IsBounded n built s → ((t : ℕ) → times_in t s.live ≤ 1)
      → ((later : List ℕ) → IsDistinct nat_eq (map (λ x. x.ticket) (ended_from c later es)))
      → IsDistinct nat_eq (map (λ x. x.ticket) (ended_from c given (e ∷ es)))
  unfolding IsDistinct
  once_more kind n c built given s (By d k q a) es legal ordered bounded once more =
      rw (ended_by c d k given q a es) (more (given_after c given (By d k q a)))
  once_more kind n c built given s (Resume i ticket event (Ask u j op task)) es legal ordered bounded once more = more given
  once_more kind n c built given s (Resume i ticket event (Done r)) es legal ordered bounded once more =
      let e : Entry V O R T = Resume i ticket event (Done r) in
      let (x, at, first) = found (object_of s.live i) _ legal.0 in
      let is_first = weaker_first x.works _ (λ w. w.ticket ≡ ticket) (λ w h. h.0) first in
      let bounds = (all_found (IsBoundedObject n s.next_ticket) i s.live x at bounded.objects).0.works in
      let lt : ticket < s.next_ticket = first_below n ticket s.next_ticket x.works is_first bounds in
      let step = resumed_times kind n ticket i ticket event (Done r) s x ordered at in
      let less = times_done O ticket x.works r is_first in
      let had = once ticket in
      let none : times_in ticket (after kind s e).live ≡ 0 = omega (arith, step, less, had) in
      let rises = ticket_rises kind s e legal.0 in
      let rest = more given in
      let never = ends_no_more kind n c ticket given (after kind s e) es legal.1 (after_ordered kind n s e legal.0 ordered) (omega (arith, rises, lt)) none in
      elim (is_among ticket given) as
      (λ b. IsDistinct nat_eq (map (λ x. x.ticket) (cond b (record { ticket = ticket; reply = r } ∷ ended_from c given es) (ended_from c given es)))) [
        | true ↦ (never, rest)
        | false ↦ rest
      ]
  once_more kind n c built given s (Sent d room) es legal ordered bounded once more = more given

  -- a state that opens has no launches
  opening_traced : (opening : State V O R T) (c : ℕ) → IsOpening opening → IsTraced c [] opening
  opening_traced opening c (number, config, first, can, below, is) =
      rw is (record { known = opened_known T (config.clients + number) c 1 (placed_on number first); below = tt })

  opening_once : (opening : State V O R T) (t : ℕ) → IsOpening opening → times_in t opening.live ≤ 1
  opening_once opening t (number, config, first, can, below, is) =
      rw is (let none = opened_times T (config.clients + number) t 1 (placed_on number first) in omega (arith, none))

  -- each launch ends once
  ends_once :
      (kind : Kind V O R T) (n c : ℕ) (built : Setup) → n ≡ place_count built → (given : List ℕ) (s : State V O R T) (log : List (Entry V O R T))
      → IsLegal kind s log → IsOrdered n s → IsBounded n built s → ((t : ℕ) → times_in t s.live ≤ 1)
      → IsDistinct nat_eq (map (λ x. x.ticket) (ended_from c given log))
  unfolding IsDistinct
  ends_once kind n c built is given s [] legal ordered bounded once = tt
  ends_once kind n c built is given s (e ∷ es) legal ordered bounded once =
      let once' : (t : ℕ) → times_in t (after kind s e).live ≤ 1 = λ t.
      let step = after_times kind n t s e legal.0 ordered in
      elim (cases_eq s.next_ticket t) [
        | inl e ↦
            let none = times_in_none n t s.next_ticket s.live (omega (arith, e)) bounded.objects in
            let one : ◌≡◌ {A = ℕ} (cond (s.next_ticket == t) 1 0) 1 = ap (λ b. cond b 1 0) (eq-eqb s.next_ticket t e) in
            omega (arith, step, none, one)
        | inr ne ↦
            let no : ◌≡◌ {A = ℕ} (cond (s.next_ticket == t) 1 0) 0 = ap (λ b. cond b 1 0) (ne_eqb s.next_ticket t ne) in
            let had = once t in
            omega (arith, step, had, no)
      ] in
      let ordered' = after_ordered kind n s e legal.0 ordered in
      let more : (later : List ℕ) → IsDistinct nat_eq (map (λ x. x.ticket) (ended_from c later es)) =
      λ later. ends_once kind n c built is later (after kind s e) es legal.1 ordered' (after_bounded kind n built s e is legal.0 ordered bounded) once' in
      once_more kind n c built given s e es legal ordered bounded once more

  pub completions_are_of_launches : (kind : Kind V O R T) → CompletionsAreOfLaunches kind
  completions_are_of_launches kind opening log c is legal lt =
      let n = place_count opening.setup in
      let built = opening.setup in
      let ordered = opening_ordered opening is in
      let bounded = opening_bounded opening is in
      let none : (place_of opening c).ready ≡ [] = ap (λ p. p.ready) (opening_place opening c is lt).1 in (
        completes kind n c built refl 0 [] [] opening log legal ordered bounded (opening_traced opening c is)
            ∙ ap (λ l. l ++ ended_from c [] log) none,
        ends_once kind n c built refl [] opening log legal ordered bounded (λ t. opening_once opening t is),
      )
