-- Each entry takes from a place's holds what its requests give away, and adds what their answers and the gifts that leave bring.
-- Other crates import from this file.
use Rattle.std.proofs.Common.{◌≡◌, ◌≢◌, ℕ, zero, suc, ◌+◌, ◌-◌, ◌<◌, ◌≤◌, true, cond, List, [], ◌∷◌, ◌++◌, length, map, slice_index_or, slice_set, take, drop, inl, inr, refl, sym, ◌∙◌, ap, arith, eq-eqb, ne_eqb, get_or-set_same, get_or-set_other, IsFalse}
use Rattle.std.specs.Prelude.{◌==◌}
use Rattle.std.specs.declared.option.Option.TheVariants.{Some}
use Rattle.std.proofs.lemmas.Bool.{cases_eq}
use Rattle.std.proofs.lemmas.List.{take-append-drop, length-map}
use Rattle.std.proofs.Math.Seq.{drop-nil}
use Rattle.tm_seq.specs.Kind.{Kind}
use Rattle.tm_seq.specs.declared.kind.Event.{Event}
use Rattle.tm_seq.specs.declared.kind.Next.{Next}
use Rattle.tm_seq.specs.declared.kind.Next.TheVariants.{Ask, Done}
use Rattle.tm_batch.specs.declared.limits.TheConstants.{MOST_COMPLETIONS}
use Rattle.tm_batch.specs.declared.message.Name.{Name}
use Rattle.tm_batch.specs.declared.message.Completion.{Completion}
use Rattle.tm_batch.specs.declared.message.Request.{Request}
use Rattle.tm_batch.specs.declared.message.Request.TheVariants.{Entrust, Apply, Launch, Grant, Release, Reclaim, Bye}
use Rattle.tm_batch.specs.declared.message.Answer.{Answer}
use Rattle.tm_batch.specs.declared.message.Answer.TheVariants.{Entrusted, NotEntrusted, Replied, Launched, TicketsSpent, Granted, Gone, GiftsFull, Released, Reclaimed, Shared, ByeDone}
use Rattle.tm_model.specs.declared.entry.Entry.TheVariants.{By}
use Rattle.tm_model.specs.State.{Work, Object, Place, State, no_place, place_of, object_of, holds_of, with_holds, total, with_live, change, kept}
use Rattle.tm_model.specs.Serve.{value_advanced, works_resumed, served, counted, completed, resumed, sent_off, works_in, after}
use Rattle.tm_model.specs.Legal.{Serves}
use Rattle.tm_model.specs.Holds.{gave, brought, gifts_of}
use Rattle.tm_core.proofs.Balance.{sum_granted, sum_released, sum_reclaimed, sum_appended}
use Rattle.tm_core.proofs.Living.{completed_live}
use Rattle.tm_core.proofs.Ordered.{IsOrdered}
use Rattle.tm_core.proofs.Choices.{cond_same, cond_plus, cond_swap}
use Rattle.tm_core.proofs.CallerLemmas.{found, found_both}
use Rattle.tm_core.proofs.Places.{place_field}
use Rattle.tm_core.proofs.Rising.{holds_sum, sum_change, sum_kept, sum_closed_other}
use Rattle.tm_core.proofs.Tallies.{gifts_of-append}

-- no hold of any place
abbrev no_holds : {X : Type 0} → List X → List ℕ
no_holds xs = map (λ _. 0) xs

none_held : {X : Type 0} (xs : List X) (c : ℕ) → slice_index_or (no_holds xs) c 0 ≡ 0
none_held [] c = refl
none_held (x ∷ xs) zero = refl
none_held (x ∷ xs) (suc c) = none_held xs c

-- the holds of a new object: one, of the place that entrusts it
new_holds : {X : Type 0} (places : List X) (c d : ℕ) → d < length places → slice_index_or (slice_set (no_holds places) d 1) c 0 ≡ cond (d == c) 1 0
new_holds places c d lt =
    let many : length (no_holds places) ≡ length places = length-map places _ in
    elim (cases_eq d c) [
      | inl e ↦ rw (e, eq-eqb c c refl) (get_or-set_same (no_holds places) c 1 0 (omega (arith, many, lt, e)))
      | inr ne ↦ rw (ne_eqb d c ne) (get_or-set_other (no_holds places) d c 1 0 (λ e. ne (sym e)) ∙ none_held places c)
    ]

module _ {V O R T : Type 0} where
  -- From a state to another, what place c holds, less the gifts that wait for it, loses what it gives away and gains what comes to it.
  -- It stays open or closed, and no gift comes where it is closed.
  pub record Gives (c : ℕ) (s t : State V O R T) (given comes : ℕ → ℕ) : Type 0 where
    pub holds : (id : ℕ) → holds_sum c id t.live + given id + gifts_of id (place_of s c).gifts
        ≡ holds_sum c id s.live + comes id + gifts_of id (place_of t c).gifts
    pub closed : (place_of t c).is_closed ≡ (place_of s c).is_closed
    pub shut : (place_of s c).is_closed ≡ true → (place_of s c).gifts ≡ [] → (place_of t c).gifts ≡ []

  -- where the place itself stays as it is
  live_gives :
      (c : ℕ) (s t : State V O R T) (given comes : ℕ → ℕ) → place_of t c ≡ place_of s c
      → ((id : ℕ) → holds_sum c id t.live + given id ≡ holds_sum c id s.live + comes id) → Gives c s t given comes
  live_gives c s t given comes same live = record {
    holds = λ id. let e = live id in rw same (omega (arith, e));
    closed = rw same refl;
    shut = λ closed none. rw same none;
  }

  module _ (kind : Kind V O R T) (n c d : ℕ) (s : State V O R T) (h : IsOrdered n s) (ld : d < n) where
    -- the holds that a request gives away, and those that its answer brings
    abbrev given_by : Request V O R T → ℕ → ℕ
    given_by q id = cond (d == c) (gave id (q ∷ [])) 0

    abbrev comes_by : Request V O R T → Answer V O R T → ℕ → ℕ
    comes_by q a id = cond (d == c) (brought id q a) 0

    granted_gives :
        (i : Name) (e : ℕ) (o : Object V T) → object_of s.live i.id ≡ Some o → e < n → IsFalse (place_of s e).is_closed
        → Gives c s (served kind d (Grant i e) Granted s) (given_by (Grant i e)) (comes_by (Grant i e) Granted)
    granted_gives i e o at le open_now =
        let more : Place V O R T → Place V O R T = λ p. record p { gifts = p.gifts ++ i ∷ [] } in
        let within : e < length s.places = omega (arith, h.places, le) in
        elim (cases_eq e c) [
          | inl is ↦
              let here : slice_index_or (slice_set s.places e (more (place_of s e))) e no_place ≡ more (place_of s e) =
              get_or-set_same s.places e (more (place_of s e)) no_place within in
              rw (← is) (record {
                holds = λ id.
                    let live = sum_granted n 1 s.next_id s.live h.rises e id e i.id o at le in
                    let one = gifts_of-append id (place_of s e).gifts (i ∷ []) in
                    let own = rw (eq-eqb e e refl) at live in
                    rw here (omega (arith, own, one));
                closed = rw here refl;
                shut = λ closed none. absurd (cc);
              })
          | inr ne ↦
              live_gives c s (served kind d (Grant i e) Granted s) _ _
              (get_or-set_other s.places e c (more (place_of s e)) no_place (λ is. ne (sym is)))
              (λ id. let live = sum_granted n 1 s.next_id s.live h.rises c id e i.id o at le in let other = rw (ne_eqb e c ne) at live in omega (arith, other))
        ]

    served_gives :
        (q : Request V O R T) (a : Answer V O R T) → Serves kind s d q a → (q ≡ Bye → d ≢ c)
        → Gives c s (served kind d q a s) (given_by q) (comes_by q a)
    served_gives (Entrust v) (Entrusted name) may not =
        live_gives c s _ _ _ refl (λ id.
        let more : holds_sum c id (served kind d (Entrust v) (Entrusted name) s).live
        ≡ holds_sum c id s.live + cond (name.id == id) (slice_index_or (slice_set (no_holds s.places) d 1) c 0) 0 = sum_appended c id s.live _ in
        let own = ap (λ x. cond (name.id == id) x 0) (new_holds s.places c d (omega (arith, h.places, ld))) in
        let swapped = cond_swap (d == c) (name.id == id) 1 in
        let none = cond_same (d == c) 0 in
        omega (arith, more, own, swapped, none))
    served_gives (Entrust v) (NotEntrusted refusal back) may not = live_gives c s s _ _ refl (λ id. refl)
    served_gives (Entrust v) _ may not = absurd may
    served_gives (Apply i op) (Replied r) may not =
        live_gives c s _ _ _ refl (λ id. ap (λ m. m + cond (d == c) 0 0) (sum_change c id i.id _ s.live (λ o. refl) (λ o. refl)))
    served_gives (Apply i op) _ may not = absurd may.1
    served_gives (Launch i task) (Launched ticket) may not =
        live_gives c s _ _ _ refl (λ id. ap (λ m. m + cond (d == c) 0 0) (sum_change c id i.id _ s.live (λ o. refl) (λ o. refl)))
    served_gives (Launch i task) (TicketsSpent back) may not = live_gives c s s _ _ refl (λ id. refl)
    served_gives (Launch i task) _ may not = absurd may.1
    served_gives (Grant i e) Granted may not =
        let (o, at, held) = found (object_of s.live i.id) (λ o. 1 ≤ holds_of o d) may.0 in
        granted_gives i e o at (omega (arith, h.count, may.1)) may.2.0
    served_gives (Grant i e) Gone may not = live_gives c s s _ _ refl (λ id. refl)
    served_gives (Grant i e) GiftsFull may not = live_gives c s s _ _ refl (λ id. refl)
    served_gives (Grant i e) _ may not = absurd may.2
    served_gives (Release i) Released may not =
        let (o, at, held) = found (object_of s.live i.id) (λ o. 1 ≤ holds_of o d) may.0 in
        live_gives c s _ _ _ refl (λ id.
        let less = sum_released n 1 s.next_id s.live h.rises c id d i.id o at held ld in
        let same : holds_sum c id (served kind d (Release i) Released s).live
        ≡ holds_sum c id (change i.id (λ o. with_holds d (holds_of o d - 1) o) s.live) = sum_kept c id _ in
        let one = cond_plus (d == c) (cond (i.id == id) 1 0) in
        let none = cond_same (d == c) 0 in
        omega (arith, less, same, one, none))
    served_gives (Release i) _ may not = let other = may.1 in absurd (cc)
    served_gives (Reclaim i) (Reclaimed v) may not =
        let (o, at, held, one) = found_both (object_of s.live i.id) (λ o. 1 ≤ holds_of o d) (λ o. (total o ≡ 1) × (v ≡ o.value)) may.0 may.1 in
        live_gives c s _ _ _ refl (λ id.
        let less = sum_reclaimed n 1 s.next_id s.live h.rises c id d i.id o at held one.0 in
        let given = cond_plus (d == c) (cond (i.id == id) 1 0) in
        let none = cond_same (d == c) 0 in
        omega (arith, less, given, none))
    served_gives (Reclaim i) Shared may not = live_gives c s s _ _ refl (λ id. ap (λ m. holds_sum c id s.live + m) (cond_plus (d == c) (cond (i.id == id) 1 0)))
    served_gives (Reclaim i) _ may not = absurd may.1
    served_gives Bye ByeDone may not =
        let other : c ≢ d = λ e. not refl (sym e) in
        live_gives c s (served kind d Bye ByeDone s) _ _ (get_or-set_other s.places d c _ no_place other)
        (λ id. ap (λ m. m + cond (d == c) 0 0) (sum_kept c id _ ∙ sum_closed_other d c id other s.live))
    served_gives Bye _ may not = absurd (cc)

    pub by_gives :
        (k : ℕ) (q : Request V O R T) (a : Answer V O R T) → Serves kind s d q a → (q ≡ Bye → d ≢ c)
        → Gives c s (after kind s (By d k q a)) (λ id. cond (d == c) (gave id (q ∷ [])) 0) (λ id. cond (d == c) (brought id q a) 0)
    by_gives k q a may not =
        let t = served kind d q a s in
        let gifts : (place_of (counted d t) c).gifts ≡ (place_of t c).gifts = place_field (λ p. p.gifts) t.places d c _ refl in
        let closed : (place_of (counted d t) c).is_closed ≡ (place_of t c).is_closed = place_field (λ p. p.is_closed) t.places d c _ refl in
        let more = served_gives q a may not in
        record {
          holds = λ id. rw gifts (more.holds id);
          closed = closed ∙ more.closed;
          shut = λ is none. gifts ∙ more.shut is none;
        }

  -- gifts that leave come to their place
  pub sent_gives :
      (c d room : ℕ) (s : State V O R T) → c < length s.places
      → Gives c s (sent_off d room s) (λ id. 0) (λ id. cond (d == c) (gifts_of id (take room (place_of s c).gifts)) 0)
  sent_gives c d room s lt =
      elim (cases_eq d c) [
        | inl e ↦
            let here : place_of (sent_off c room s) c ≡ record (place_of s c) { gifts = drop room (place_of s c).gifts; ready = drop MOST_COMPLETIONS (place_of s c).ready } =
            get_or-set_same s.places c _ no_place lt in
            rw (e, eq-eqb c c refl) (record {
              holds = λ id.
                  let parts = gifts_of-append id (take room (place_of s c).gifts) (drop room (place_of s c).gifts) in
                  let all = ap (gifts_of id) (take-append-drop room (place_of s c).gifts) in
                  rw here (omega (arith, parts, all));
              closed = ap (λ p. p.is_closed) here;
              shut = λ closed none. ap (λ p. p.gifts) here ∙ ap (drop room) none ∙ drop-nil room;
            })
        | inr ne ↦
            rw (ne_eqb d c ne) (live_gives c s (sent_off d room s) (λ id. 0) (λ id. 0) (get_or-set_other s.places d c _ no_place (λ e. ne (sym e))) (λ id. refl))
      ]

  -- launched work gives nothing away, and nothing comes by it
  completed_kept :
      {X : Type 0} (f : Place V O R T → X) → ((p : Place V O R T) (ready : List (Completion V O R T)) → f (record p { ready = ready }) ≡ f p)
      → (c ticket : ℕ) (ws : List (Work T)) (next : Next O T R) (t : State V O R T) → f (place_of (completed ws ticket next t) c) ≡ f (place_of t c)
  completed_kept f same c ticket [] next t = refl
  completed_kept f same c ticket (w ∷ ws) (Ask trustee i op task) t = refl
  completed_kept f same c ticket (w ∷ ws) (Done r) t = place_field f t.places w.place c _ (same _ _)

  pub resume_gives :
      (kind : Kind V O R T) (c : ℕ) (s : State V O R T) (id ticket : ℕ) (event : Event R) (next : Next O T R)
      → Gives c s (resumed kind id ticket event next s) (λ id. 0) (λ id. 0)
  resume_gives kind c s id ticket event next =
      let f : Object V T → Object V T = λ o. record o { value = value_advanced kind o.value o.works event next; works = works_resumed o.works next } in
      let t : State V O R T = with_live (kept (change id f s.live)) s in
      let ws = works_in (object_of s.live id) in
      let live : (completed ws ticket next t).live ≡ t.live = completed_live ws ticket next t in
      let gifts : (place_of (completed ws ticket next t) c).gifts ≡ (place_of s c).gifts = completed_kept (λ p. p.gifts) (λ p ready. refl) c ticket ws next t in
      let closed : (place_of (completed ws ticket next t) c).is_closed ≡ (place_of s c).is_closed =
      completed_kept (λ p. p.is_closed) (λ p ready. refl) c ticket ws next t in
      record {
        holds = λ i.
            let same : holds_sum c i (completed ws ticket next t).live ≡ holds_sum c i s.live =
            ap (holds_sum c i) live ∙ sum_kept c i (change id f s.live) ∙ sum_change c i id f s.live (λ o. refl) (λ o. refl) in
            rw gifts (omega (arith, same));
        closed = closed;
        shut = λ is none. gifts ∙ none;
      }
