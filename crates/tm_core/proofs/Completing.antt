-- Completions leave in the order in which the launches of their place ended, and those that are ready follow.
use Rattle.std.proofs.Common.{◌≡◌, ℕ, ◌+◌, ◌<◌, true, false, cond, List, [], ◌∷◌, ◌++◌, length, take, drop, slice_index_or, slice_set, inl, inr, refl, sym, ◌∙◌, ap, subst, arith, eq-eqb, ne_eqb, get_or-set_same, get_or-set_other, append_assoc, append-nil}
use Rattle.std.specs.Prelude.{◌==◌}
use Rattle.std.proofs.lemmas.Bool.{cases_eq}
use Rattle.std.proofs.lemmas.List.{take-append-drop}
use Rattle.tm_seq.specs.Kind.{Kind}
use Rattle.tm_seq.specs.declared.kind.Next.TheVariants.{Ask, Done}
use Rattle.tm_batch.specs.declared.limits.TheConstants.{MOST_COMPLETIONS}
use Rattle.tm_batch.specs.declared.message.Completion.{Completion}
use Rattle.tm_batch.specs.declared.message.Request.{Request}
use Rattle.tm_batch.specs.declared.message.Request.TheVariants.{Entrust, Apply, Launch, Grant, Release, Reclaim, Bye}
use Rattle.tm_batch.specs.declared.message.Answer.{Answer}
use Rattle.tm_batch.specs.declared.message.Answer.TheVariants.{Entrusted, Replied, Launched, Granted, Released, Reclaimed, ByeDone}
use Rattle.tm_model.specs.declared.entry.Entry.{Entry}
use Rattle.tm_model.specs.declared.entry.Entry.TheVariants.{By, Resume, Sent}
use Rattle.tm_model.specs.State.{Work, Setup, Place, State, no_place, place_of, place_count, object_of}
use Rattle.tm_model.specs.Serve.{works_in, served, completed, sent_off, after, state_after}
use Rattle.tm_model.specs.Legal.{HasFirst, IsLegal}
use Rattle.tm_model.specs.Batches.{leaving, batches_from}
use Rattle.tm_model.specs.Given.{ended_from, completions_in}
use Rattle.tm_core.proofs.Sound.{IsBounded, after_bounded}
use Rattle.tm_core.proofs.Places.{place_field}
use Rattle.tm_core.proofs.Tracing.{is_among, given_after, IsTraced, after_traced, first_known}
use Rattle.tm_core.proofs.Ordered.{IsOrdered, after_ordered}

module _ {V O R T : Type 0} where
  served_ready :
      (kind : Kind V O R T) (c d : ℕ) (q : Request V O R T) (a : Answer V O R T) (s : State V O R T)
      → (place_of (served kind c q a s) d).ready ≡ (place_of s d).ready
  served_ready kind c d (Grant n e) Granted s = place_field (λ p. p.ready) s.places e d _ refl
  served_ready kind c d Bye ByeDone s = place_field (λ p. p.ready) s.places c d _ refl
  served_ready kind c d (Entrust v) (Entrusted n) s = refl
  served_ready kind c d (Apply n op) (Replied r) s = refl
  served_ready kind c d (Launch n task) (Launched ticket) s = refl
  served_ready kind c d (Release n) Released s = refl
  served_ready kind c d (Reclaim n) (Reclaimed v) s = refl
  served_ready kind c d _ _ s = refl

  by_ready :
      (kind : Kind V O R T) (c d k : ℕ) (q : Request V O R T) (a : Answer V O R T) (s : State V O R T)
      → (place_of (after kind s (By c k q a)) d).ready ≡ (place_of s d).ready
  by_ready kind c d k q a s = place_field (λ p. p.ready) (served kind c q a s).places c d _ refl ∙ served_ready kind c d q a s

  sent_ready :
      (c d room : ℕ) (s : State V O R T) → d < length s.places
      → (place_of (sent_off d room s) c).ready ≡ cond (d == c) (drop MOST_COMPLETIONS (place_of s c).ready) (place_of s c).ready
  sent_ready c d room s lt =
      let p = place_of s d in
      let new : Place V O R T = record p { gifts = drop room p.gifts; ready = drop MOST_COMPLETIONS p.ready } in
      elim (cases_eq d c) [
        | inl e ↦
            rw (eq-eqb d c e)
            (ap (λ x. (slice_index_or (slice_set s.places d new) x no_place).ready) (sym e)
            ∙ ap (λ (y : Place V O R T). y.ready) (get_or-set_same s.places d new no_place lt)
            ∙ ap (λ x. drop MOST_COMPLETIONS (place_of s x).ready) e)
        | inr ne ↦
            rw (ne_eqb d c ne) (ap (λ (y : Place V O R T). y.ready) (get_or-set_other s.places d c new no_place (λ is. ne (sym is))))
      ]

  completed_ready :
      (c : ℕ) (given : List ℕ) (ws : List (Work T)) (ticket : ℕ) (r : R) (s : State V O R T)
      → HasFirst ws (λ w. (w.ticket ≡ ticket) × (w.place < length s.places) × (is_among w.ticket given ≡ (w.place == c)))
      → (place_of (completed {O = O} ws ticket (Done r) s) c).ready
      ≡ cond (is_among ticket given) ((place_of s c).ready ++ record { ticket = ticket; reply = r } ∷ []) (place_of s c).ready
  completed_ready c given [] ticket r s h = absurd h
  completed_ready c given (w ∷ ws) ticket r s (is, lt, known) =
      let x : Completion V O R T = record { ticket = ticket; reply = r } in
      let p = place_of s w.place in
      let new : Place V O R T = record p { ready = p.ready ++ x ∷ [] } in
      let among : is_among ticket given ≡ (w.place == c) = ap (λ t. is_among t given) (sym is) ∙ known in
      elim (cases_eq w.place c) [
        | inl e ↦
            rw (among, eq-eqb w.place c e)
            (ap (λ d. (slice_index_or (slice_set s.places w.place new) d no_place).ready) (sym e)
            ∙ ap (λ (y : Place V O R T). y.ready) (get_or-set_same s.places w.place new no_place lt)
            ∙ ap (λ d. (place_of s d).ready ++ x ∷ []) e)
        | inr ne ↦
            rw (among, ne_eqb w.place c ne)
            (ap (λ (y : Place V O R T). y.ready) (get_or-set_other s.places w.place c new no_place (λ is. ne (sym is))))
      ]

  pub ended_by :
      (c d k : ℕ) (given : List ℕ) (q : Request V O R T) (a : Answer V O R T) (es : List (Entry V O R T))
      → ended_from c given (By d k q a ∷ es) ≡ ended_from c (given_after c given (By d k q a)) es
  ended_by c d k given (Launch i task) (Launched ticket) es = refl
  ended_by c d k given _ _ es = refl

  completed_ask :
      (ws : List (Work T)) (ticket u i : ℕ) (op : O) (task : T) (s : State V O R T) → completed {R = R} ws ticket (Ask u i op task) s ≡ s
  completed_ask [] ticket u i op task s = refl
  completed_ask (w ∷ ws) ticket u i op task s = refl

  -- completions that leave, and those that are ready in the end, are those that were ready, and those of the launches that end
  pub completes :
      (kind : Kind V O R T) (n c : ℕ) (built : Setup) → n ≡ place_count built
      → (m : ℕ) (w : List (Answer V O R T)) (given : List ℕ) (s : State V O R T) (log : List (Entry V O R T))
      → IsLegal kind s log → IsOrdered n s → IsBounded n built s → IsTraced c given s
      → completions_in (batches_from kind c m w s log) ++ (place_of (state_after kind s log) c).ready
      ≡ (place_of s c).ready ++ ended_from c given log
  completes kind n c built is m w given s [] legal ordered bounded h = sym (append-nil (place_of s c).ready)
  completes kind n c built is m w given s (By d k q a ∷ es) legal ordered bounded h =
      let e : Entry V O R T = By d k q a in
      completes kind n c built is (m + 1) (cond (d == c) (w ++ a ∷ []) w) (given_after c given e) (after kind s e) es legal.1
      (after_ordered kind n s e legal.0 ordered) (after_bounded kind n built s e is legal.0 ordered bounded) (after_traced kind n c built given s e legal.0 bounded h)
      ∙ ap (λ l. l ++ ended_from c (given_after c given e) es) (by_ready kind d c k q a s)
      ∙ ap (λ l. (place_of s c).ready ++ l) (sym (ended_by c d k given q a es))
  completes kind n c built is m w given s (Resume i ticket event (Ask u j op task) ∷ es) legal ordered bounded h =
      let e : Entry V O R T = Resume i ticket event (Ask u j op task) in
      completes kind n c built is (m + 1) w given (after kind s e) es legal.1
      (after_ordered kind n s e legal.0 ordered) (after_bounded kind n built s e is legal.0 ordered bounded) (after_traced kind n c built given s e legal.0 bounded h)
      ∙ ap (λ (s : State V O R T). (place_of s c).ready ++ ended_from c given es) (completed_ask (works_in (object_of s.live i)) ticket u j op task _)
  completes kind n c built is m w given s (Resume i ticket event (Done r) ∷ es) legal ordered bounded h =
      let e : Entry V O R T = Resume i ticket event (Done r) in
      let (x, at, first) = first_known kind n c built given s i ticket event (Done r) legal.0 ordered bounded h in
      let y : Completion V O R T = record { ticket = ticket; reply = r } in
      let ready = (place_of s c).ready in
      let rest = ended_from c given es in
      let now : (place_of (after kind s e) c).ready ≡ cond (is_among ticket given) (ready ++ y ∷ []) ready =
      rw at (completed_ready c given x.works ticket r _ first) in
      completes kind n c built is (m + 1) w given (after kind s e) es legal.1
      (after_ordered kind n s e legal.0 ordered) (after_bounded kind n built s e is legal.0 ordered bounded) (after_traced kind n c built given s e legal.0 bounded h)
      ∙ ap (λ l. l ++ rest) now
      ∙ elim (is_among ticket given) as (λ t. cond t (ready ++ y ∷ []) ready ++ rest ≡ ready ++ cond t (y ∷ rest) rest) [
        | true ↦ append_assoc ready (y ∷ []) rest
        | false ↦ refl
      ]
  completes kind n c built is m w given s (Sent d room ∷ es) legal ordered bounded h =
      let e : Entry V O R T = Sent d room in
      let ready = (place_of s c).ready in
      let rest = ended_from c given es in
      let s' = after kind s e in
      let less : d < place_count built = subst (λ b. d < place_count b) bounded.setup legal.0.0 in
      let within : d < length s.places = let places = ordered.places in omega (arith, less, is, places) in
      let now = sent_ready c d room s within in
      let more : (v : List (Answer V O R T))
      → completions_in (batches_from kind c (m + 1) v s' es) ++ (place_of (state_after kind s' es) c).ready ≡ (place_of s' c).ready ++ rest =
      λ v. completes kind n c built is (m + 1) v given s' es legal.1
      (after_ordered kind n s e legal.0 ordered) (after_bounded kind n built s e is legal.0 ordered bounded) (after_traced kind n c built given s e legal.0 bounded h) in
      let last = (place_of (state_after kind s' es) c).ready in
      let leaves = leaving c room (m + 1) w s ∷ batches_from kind c (m + 1) [] s' es in
      let stays = batches_from kind c (m + 1) w s' es in
      elim (cases_eq d c) [
        | inl same ↦
            let own : (d == c) ≡ true = eq-eqb d c same in
            let first = take MOST_COMPLETIONS ready in
            ap (λ t. completions_in (cond t leaves stays) ++ last) own
            ∙ append_assoc first (completions_in (batches_from kind c (m + 1) [] s' es)) last
            ∙ ap (λ l. first ++ l) (more [] ∙ ap (λ l. l ++ rest) (now ∙ ap (λ t. cond t (drop MOST_COMPLETIONS ready) ready) own))
            ∙ sym (append_assoc first (drop MOST_COMPLETIONS ready) rest) ∙ ap (λ l. l ++ rest) (take-append-drop MOST_COMPLETIONS ready)
        | inr ne ↦
            let other : (d == c) ≡ false = ne_eqb d c ne in
            ap (λ t. completions_in (cond t leaves stays) ++ last) other
            ∙ more w ∙ ap (λ l. l ++ rest) (now ∙ ap (λ t. cond t (drop MOST_COMPLETIONS ready) ready) other)
      ]
