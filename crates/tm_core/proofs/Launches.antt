-- Each entry's change of the launches of a place that are open: unfinished, or ready and not yet left.
use Rattle.std.proofs.Common.{◌≡◌, ℕ, ◌+◌, ◌<◌, ◌≤◌, cond, List, [], ◌∷◌, ◌++◌, length, slice_index_or, slice_set, take, drop, inl, inr, refl, sym, ◌∙◌, ap, arith, eq-eqb, ne_eqb, get_or-set_same, get_or-set_other, length-append, length-take, length-drop}
use Rattle.std.specs.Prelude.{◌==◌}
use Rattle.std.proofs.lemmas.Bool.{cases_eq}
use Rattle.tm_seq.specs.Kind.{Kind, IsResume}
use Rattle.tm_seq.specs.declared.kind.Event.{Event}
use Rattle.tm_seq.specs.declared.kind.Next.{Next}
use Rattle.tm_seq.specs.declared.kind.Next.TheVariants.{Ask, Done}
use Rattle.tm_batch.specs.declared.limits.TheConstants.{MOST_COMPLETIONS}
use Rattle.tm_batch.specs.declared.message.Request.{Request}
use Rattle.tm_batch.specs.declared.message.Request.TheVariants.{Entrust, Apply, Launch, Grant, Release, Reclaim, Bye}
use Rattle.tm_batch.specs.declared.message.Answer.{Answer}
use Rattle.tm_batch.specs.declared.message.Answer.TheVariants.{Entrusted, NotEntrusted, Replied, Launched, TicketsSpent, Granted, Gone, GiftsFull, Released, Reclaimed, Shared, ByeDone}
use Rattle.tm_model.specs.declared.entry.Entry.TheVariants.{By, Resume}
use Rattle.tm_model.specs.State.{Start, Work, Object, Place, State, no_place, place_of, object_of, holds_of, total, with_live, change, kept}
use Rattle.tm_model.specs.Serve.{value_resumed, value_advanced, works_resumed, served, counted, completed, resumed, sent_off, after}
use Rattle.tm_model.specs.Legal.{Serves, MayCome, HasFirst, IsAwaited}
use Rattle.tm_model.specs.Holds.{launches_in, spent_in, works_of, unfinished}
use Rattle.tm_core.proofs.Ordered.{IsOrdered}
use Rattle.tm_core.proofs.Choices.{cond_same}
use Rattle.tm_core.proofs.CallerLemmas.{found, found_both, item_within}
use Rattle.tm_core.proofs.Living.{completed_live}
use Rattle.tm_core.proofs.Places.{place_field}
use Rattle.tm_core.proofs.Unfinished.{works_of-append, no_works, unfinished-append, unfinished_change, unfinished_map, unfinished_kept, unfinished_changed, unfinished_without}

module _ {V O R T : Type 0} where
  -- from a state to another, place c launches so many works, and so many of its works end
  abbrev pub Launches : ℕ → State V O R T → State V O R T → ℕ → ℕ → Type 0
  Launches c s t launched ended =
      launched + (unfinished c s.live + length (place_of s c).ready) ≡ unfinished c t.live + length (place_of t c).ready + ended

  module _ (kind : Kind V O R T) (n c d : ℕ) (s : State V O R T) (h : IsOrdered n s) where
    served_launches :
        (q : Request V O R T) (a : Answer V O R T) → Serves kind s d q a
        → Launches c s (served kind d q a s) (cond (d == c) (launches_in (q ∷ [])) 0) (cond (d == c) (spent_in (a ∷ [])) 0)
    served_launches (Entrust v) (Entrusted name) may =
        let more : unfinished c (served kind d (Entrust v) (Entrusted name) s).live ≡ unfinished c s.live + 0 = unfinished-append c s.live _ in
        omega (arith, more)
    served_launches (Entrust v) (NotEntrusted refusal back) may = omega arith
    served_launches (Entrust v) _ may = absurd may
    served_launches (Apply i op) (Replied r) may =
        let same : unfinished c (served kind d (Apply i op) (Replied r) s).live ≡ unfinished c s.live =
        unfinished_change c i.id _ s.live (λ o. refl) in
        omega (arith, same)
    served_launches (Apply i op) _ may = absurd may.1
    served_launches (Launch i task) (Launched ticket) may =
        let (o, at, held) = found (object_of s.live i.id) (λ o. 1 ≤ holds_of o d) may.0 in
        let w : Work T = record { place = d; ticket = ticket; task = task; awaits = Start } in
        let changed : unfinished c (served kind d (Launch i task) (Launched ticket) s).live + works_of c o.works
        ≡ unfinished c s.live + works_of c (o.works ++ w ∷ []) =
        unfinished_changed n 1 s.next_id c i.id _ s.live o h.rises at in
        let joined = works_of-append c o.works (w ∷ []) in
        let none = cond_same (d == c) 0 in
        omega (arith, changed, joined, none)
    served_launches (Launch i task) (TicketsSpent back) may = omega arith
    served_launches (Launch i task) _ may = absurd may.1
    served_launches (Grant i e) Granted may =
        let same : unfinished c (served kind d (Grant i e) Granted s).live ≡ unfinished c s.live = unfinished_change c i.id _ s.live (λ o. refl) in
        let ready : length (place_of (served kind d (Grant i e) Granted s) c).ready ≡ length (place_of s c).ready =
        place_field (λ p. length p.ready) s.places e c _ refl in
        omega (arith, same, ready)
    served_launches (Grant i e) Gone may = omega arith
    served_launches (Grant i e) GiftsFull may = omega arith
    served_launches (Grant i e) _ may = absurd may.2
    served_launches (Release i) Released may =
        let same : unfinished c (served kind d (Release i) Released s).live ≡ unfinished c s.live =
        unfinished_kept c _ ∙ unfinished_change c i.id _ s.live (λ o. refl) in
        omega (arith, same)
    served_launches (Release i) _ may = let not = may.1 in absurd cc
    served_launches (Reclaim i) (Reclaimed v) may =
        let (o, at, held, one) = found_both (object_of s.live i.id) (λ o. 1 ≤ holds_of o d) (λ o. (total o ≡ 1) × (v ≡ o.value)) may.0 may.1 in
        let gone = unfinished_without n 1 s.next_id c i.id s.live o h.rises at in
        let most = item_within o.holds d in
        let none = no_works c 0 o.works (omega (arith, held, one.0, most)) in
        omega (arith, gone, none)
    served_launches (Reclaim i) Shared may = omega arith
    served_launches (Reclaim i) _ may = absurd may.1
    served_launches Bye ByeDone may =
        let same : unfinished c (served kind d Bye ByeDone s).live ≡ unfinished c s.live =
        unfinished_kept c _ ∙ unfinished_map c _ s.live (λ o. refl) in
        let ready : length (place_of (served kind d Bye ByeDone s) c).ready ≡ length (place_of s c).ready =
        place_field (λ p. length p.ready) s.places d c _ refl in
        omega (arith, same, ready)
    served_launches Bye _ may = absurd cc

    pub by_launches :
        (k : ℕ) (q : Request V O R T) (a : Answer V O R T) → Serves kind s d q a
        → Launches c s (after kind s (By d k q a)) (cond (d == c) (launches_in (q ∷ [])) 0) (cond (d == c) (spent_in (a ∷ [])) 0)
    by_launches k q a may =
        let t = served kind d q a s in
        let ready : length (place_of (counted d t) c).ready ≡ length (place_of t c).ready = place_field (λ p. length p.ready) t.places d c _ refl in
        let more = served_launches q a may in
        omega (arith, ready, more)

  -- completions of place d that leave
  pub sent_launches :
      (c d room : ℕ) (s : State V O R T) → c < length s.places
      → Launches c s (sent_off d room s) 0 (cond (d == c) (length (take MOST_COMPLETIONS (place_of s c).ready)) 0)
  sent_launches c d room s lt =
      elim (cases_eq d c) [
        | inl e ↦
            let here : place_of (sent_off c room s) c ≡ record (place_of s c) { gifts = drop room (place_of s c).gifts; ready = drop MOST_COMPLETIONS (place_of s c).ready } =
            get_or-set_same s.places c _ no_place lt in
            let left = length-drop MOST_COMPLETIONS (place_of s c).ready in
            let gone = length-take MOST_COMPLETIONS (place_of s c).ready in
            rw (e, eq-eqb c c refl, here) (omega (arith, left, gone))
        | inr ne ↦ rw (ne_eqb d c ne, get_or-set_other s.places d c _ no_place (λ e. ne (sym e))) (omega arith)
      ]

  -- the first launch of an object goes on or ends, and then its completion is ready
  module _ (c ticket : ℕ) (t : State V O R T) (lt : c < length t.places) where
    completed_launches :
        (ws : List (Work T)) (next : Next O T R) (u m : ℕ) → m + works_of c ws ≡ u + works_of c (works_resumed ws next)
        → 0 + (u + length (place_of t c).ready) ≡ m + length (place_of (completed ws ticket next t) c).ready + 0
    completed_launches [] next u m e = omega (arith, e)
    completed_launches (w ∷ ws) (Ask trustee i op task) u m e = omega (arith, e)
    completed_launches (w ∷ ws) (Done r) u m e =
        let more : Place V O R T → Place V O R T = λ p. record p { ready = p.ready ++ record { ticket = ticket; reply = r } ∷ [] } in
        elim (cases_eq w.place c) [
          | inl is ↦
              let here : slice_index_or (slice_set t.places c (more (place_of t c))) c no_place ≡ more (place_of t c) =
              get_or-set_same t.places c (more (place_of t c)) no_place lt in
              let longer : length (more (place_of t c)).ready ≡ length (place_of t c).ready + 1 = length-append (place_of t c).ready _ in
              let one = rw (eq-eqb w.place c is) at e in
              rw (is, here) (omega (arith, one, longer))
          | inr ne ↦
              let there : slice_index_or (slice_set t.places w.place (more (place_of t w.place))) c no_place ≡ place_of t c =
              get_or-set_other t.places w.place c (more (place_of t w.place)) no_place (λ is. ne (sym is)) in
              let none = rw (ne_eqb w.place c ne) at e in
              rw there (omega (arith, none))
        ]

  pub resume_launches :
      (kind : Kind V O R T) (n c : ℕ) (s : State V O R T) (id ticket : ℕ) (event : Event R) (next : Next O T R) → IsOrdered n s → c < n
      → MayCome kind s (Resume id ticket event next) → Launches c s (resumed kind id ticket event next s) 0 0
  resume_launches kind n c s id ticket event next h lt may =
      let (o, at, first) = found (object_of s.live id) (λ o. HasFirst o.works (λ w. (w.ticket ≡ ticket) × IsAwaited s.setup w.awaits event
      × IsResume kind o.value w.task event (value_resumed kind o.value w.task event next) next)) may in
      let f : Object V T → Object V T = λ o. record o { value = value_advanced kind o.value o.works event next; works = works_resumed o.works next } in
      let t : State V O R T = with_live (kept (change id f s.live)) s in
      let within : c < length t.places = omega (arith, h.places, lt) in
      let changed = unfinished_changed n 1 s.next_id c id f s.live o h.rises at in
      let same = unfinished_kept c (change id f s.live) in
      let done = completed_launches c ticket t within o.works next (unfinished c s.live) (unfinished c t.live) (omega (arith, changed, same)) in
      let live : unfinished c (completed o.works ticket next t).live ≡ unfinished c t.live = ap (unfinished c) (completed_live o.works ticket next t) in
      rw at (omega (arith, done, live))
