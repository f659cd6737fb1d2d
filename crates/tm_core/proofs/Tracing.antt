-- The unfinished launches of a place are those under the tickets that were given out to it.
use Rattle.std.proofs.Common.{◌≡◌, ◌≢◌, ℕ, ◌+◌, ◌-◌, ◌<◌, Bool, true, false, not, cond, ◌||◌, List, [], ◌∷◌, ◌++◌, length, inl, inr, refl, sym, ◌∙◌, ap, arith, eq-eqb, ne_eqb}
use Rattle.std.specs.Prelude.{◌==◌}
use Rattle.std.specs.List.{AllByRecursion, list_any}
use Rattle.std.specs.declared.option.Option.TheVariants.{Some}
use Rattle.std.proofs.lemmas.Bool.{cases_eq}
use Rattle.tm_seq.specs.Kind.{Kind}
use Rattle.tm_seq.specs.declared.kind.Event.{Event}
use Rattle.tm_seq.specs.declared.kind.Next.{Next}
use Rattle.tm_seq.specs.declared.kind.Next.TheVariants.{Ask, Done}
use Rattle.tm_batch.specs.declared.message.Request.{Request}
use Rattle.tm_batch.specs.declared.message.Request.TheVariants.{Entrust, Apply, Launch, Grant, Release, Reclaim, Bye}
use Rattle.tm_batch.specs.declared.message.Answer.{Answer}
use Rattle.tm_batch.specs.declared.message.Answer.TheVariants.{Entrusted, Replied, Launched, Granted, Released, Reclaimed, ByeDone}
use Rattle.tm_model.specs.declared.entry.Entry.{Entry}
use Rattle.tm_model.specs.declared.entry.Entry.TheVariants.{By, Resume, Sent}
use Rattle.tm_model.specs.State.{Start, Work, Setup, Object, State, holds_of, with_holds, total, change, object_of}
use Rattle.tm_model.specs.Serve.{value_advanced, works_resumed, works_in, served, completed, after}
use Rattle.tm_model.specs.Legal.{HasFirst, Serves, MayCome}
use Rattle.tm_core.proofs.CallerLemmas.{weaker_first, first_both, found, all_both, all_weaker, all_filter, all-append, all_map}
use Rattle.tm_core.proofs.Bounds.{HasBounds, all_change}
use Rattle.tm_core.proofs.Sound.{IsBounded}
use Rattle.tm_core.proofs.Ordered.{IsOrdered}
use Rattle.tm_core.proofs.Finding.{all_found}

-- a ticket is among some
abbrev pub is_among : ℕ → List ℕ → Bool
is_among ticket given = list_any (λ t. t == ticket) given

not_among : (ticket : ℕ) (given : List ℕ) → AllByRecursion (λ t. t < ticket) given → is_among ticket given ≡ false
not_among ticket [] h = refl
not_among ticket (t ∷ given) h =
    let less = h.0 in
    let ne : t ≢ ticket = omega arith in
    ap (λ b. b || is_among ticket given) (ne_eqb t ticket ne) ∙ not_among ticket given h.1

resumed_known :
    {O R T : Type 0} (c : ℕ) (given : List ℕ) (ws : List (Work T)) (next : Next O T R) → AllByRecursion (λ w. is_among w.ticket given ≡ (w.place == c)) ws
    → AllByRecursion (λ w. is_among w.ticket given ≡ (w.place == c)) (works_resumed ws next)
resumed_known c given [] next h = tt
resumed_known c given (w ∷ ws) (Ask u i op task) h = h
resumed_known c given (w ∷ ws) (Done r) h = h.1

module _ {V T : Type 0} where
  -- the tickets of the launches of place c, and no others, were given out to it
  abbrev pub IsKnown : ℕ → List ℕ → Object V T → Type 0
  IsKnown c given o = AllByRecursion (λ w. is_among w.ticket given ≡ (w.place == c)) o.works

  launched_known :
      (n c d id ticket : ℕ) (given : List ℕ) (task : T) (live : List (Object V T)) → AllByRecursion (λ t. t < ticket) given
      → AllByRecursion (λ o. IsKnown c given o × HasBounds n ticket o) live
      → AllByRecursion (IsKnown c (cond (d == c) (ticket ∷ given) given))
      (change id (λ o. record o { works = o.works ++ record { place = d; ticket = ticket; task = task; awaits = Start } ∷ [] }) live)
  launched_known n c d id ticket given task live below h =
      elim (cases_eq d c) [
        | inl e ↦
            let own : (d == c) ≡ true = eq-eqb d c e in
            let old : (o : Object V T) → IsKnown c given o × HasBounds n ticket o → IsKnown c (ticket ∷ given) o = λ o k.
            all_weaker (λ w. (is_among w.ticket given ≡ (w.place == c)) × ((w.place < n) × (w.ticket < ticket))) _ o.works
            (λ w j.
            let less = j.1.1 in
            let ne : ticket ≢ w.ticket = omega arith in
            ap (λ b. b || is_among w.ticket given) (ne_eqb ticket w.ticket ne) ∙ j.0)
            (all_both _ _ o.works k.0 k.1.works) in
            rw own
            (all_change _ (IsKnown c (ticket ∷ given)) id _ live old
            (λ o k. all-append _ o.works _ (old o k) (ap (λ b. b || is_among ticket given) (eq-eqb ticket ticket refl) ∙ sym own, tt)) h)
        | inr ne ↦
            let other : (d == c) ≡ false = ne_eqb d c ne in
            rw other
            (all_change _ (IsKnown c given) id _ live (λ o k. k.0)
            (λ o k. all-append _ o.works _ k.0 (not_among ticket given below ∙ sym other, tt)) h)
      ]

launched_below :
    (c d ticket : ℕ) (given : List ℕ) → AllByRecursion (λ t. t < ticket) given
    → AllByRecursion (λ t. t < ticket + 1) (cond (d == c) (ticket ∷ given) given)
launched_below c d ticket given h =
    let more = all_weaker (λ t. t < ticket) (λ t. t < ticket + 1) given (λ t l. omega (arith, l)) h in
    elim (d == c) as (λ b. AllByRecursion (λ t. t < ticket + 1) (cond b (ticket ∷ given) given)) [
      | true ↦ (omega arith, more)
      | false ↦ more
    ]

module _ {V O R T : Type 0} where
  -- the tickets that were given out to place c, after an entry
  abbrev pub given_after : ℕ → List ℕ → Entry V O R T → List ℕ
  given_after c given (By d k (Launch n task) (Launched ticket)) = cond (d == c) (ticket ∷ given) given
  given_after c given _ = given

  -- the tickets of a place are known, and below the next one
  pub record IsTraced (c : ℕ) (given : List ℕ) (s : State V O R T) : Type 0 where
    pub known : AllByRecursion (IsKnown c given) s.live
    pub below : AllByRecursion (λ t. t < s.next_ticket) given

  served_traced :
      (kind : Kind V O R T) (n c d k : ℕ) (built : Setup) (given : List ℕ) (q : Request V O R T) (a : Answer V O R T) (s : State V O R T)
      → Serves kind s d q a → IsBounded n built s → IsTraced c given s → IsTraced c (given_after c given (By d k q a)) (served kind d q a s)
  served_traced kind n c d k built given (Entrust v) (Entrusted name) s may bounded h =
      record { known = all-append (IsKnown c given) s.live _ h.known (tt, tt); below = h.below }
  served_traced kind n c d k built given (Apply i op) (Replied r) s may bounded h =
      record { known = all_change (IsKnown c given) (IsKnown c given) i.id _ s.live (λ o k. k) (λ o k. k) h.known; below = h.below }
  served_traced kind n c d k built given (Launch i task) (Launched ticket) s may bounded h =
      rw may.1.0
      (record {
        known = launched_known n c d i.id s.next_ticket given task s.live h.below
            (all_both _ _ s.live h.known (all_weaker _ (HasBounds n s.next_ticket) s.live (λ o k. k.0) bounded.objects));
        below = launched_below c d s.next_ticket given h.below;
      })
  served_traced kind n c d k built given (Grant i e) Granted s may bounded h =
      record { known = all_change (IsKnown c given) (IsKnown c given) i.id _ s.live (λ o k. k) (λ o k. k) h.known; below = h.below }
  served_traced kind n c d k built given (Release i) Released s may bounded h = record {
    known = all_weaker _ (IsKnown c given) _ (λ o k. k.0)
        (all_filter (IsKnown c given) (λ o. not (total o == 0)) _
        (all_change (IsKnown c given) (IsKnown c given) i.id (λ o. with_holds d (holds_of o d - 1) o) s.live (λ o k. k) (λ o k. k) h.known));
    below = h.below;
  }
  served_traced kind n c d k built given (Reclaim i) (Reclaimed v) s may bounded h =
      record { known = all_weaker _ (IsKnown c given) _ (λ o k. k.0) (all_filter (IsKnown c given) _ s.live h.known); below = h.below }
  served_traced kind n c d k built given Bye ByeDone s may bounded h = record {
    known = all_weaker _ (IsKnown c given) _ (λ o k. k.0)
        (all_filter (IsKnown c given) (λ o. not (total o == 0)) _
        (all_map (IsKnown c given) (IsKnown c given) (λ o. with_holds d 0 o) s.live (λ o k. k) h.known));
    below = h.below;
  }
  served_traced kind n c d k built given _ _ s may bounded h = h

  completed_traced :
      (c : ℕ) (given : List ℕ) (ws : List (Work T)) (ticket : ℕ) (next : Next O T R) (s : State V O R T)
      → IsTraced c given s → IsTraced c given (completed ws ticket next s)
  completed_traced c given (w ∷ ws) ticket (Done r) s h = record { known = h.known; below = h.below }
  completed_traced c given _ ticket _ s h = h

  pub after_traced :
      (kind : Kind V O R T) (n c : ℕ) (built : Setup) (given : List ℕ) (s : State V O R T) (e : Entry V O R T)
      → MayCome kind s e → IsBounded n built s → IsTraced c given s → IsTraced c (given_after c given e) (after kind s e)
  after_traced kind n c built given s (By d k q a) may bounded h =
      let more = served_traced kind n c d k built given q a s may.2 bounded h in
      record { known = more.known; below = more.below }
  after_traced kind n c built given s (Resume i ticket event next) may bounded h =
      completed_traced c given (works_in (object_of s.live i)) ticket next _
      (record {
        known = all_weaker _ (IsKnown c given) _ (λ o k. k.0)
            (all_filter (IsKnown c given) (λ o. not (total o == 0)) _
            (all_change (IsKnown c given) (IsKnown c given) i
            (λ o. record o { value = value_advanced kind o.value o.works event next; works = works_resumed o.works next }) s.live (λ o k. k)
            (λ o k. resumed_known c given o.works next k) h.known));
        below = h.below;
      })
  after_traced kind n c built given s (Sent d room) may bounded h = record { known = h.known; below = h.below }

  -- the first launch of the object of a resume has its ticket, and is of a place and known
  pub first_known :
      (kind : Kind V O R T) (n c : ℕ) (built : Setup) (given : List ℕ) (s : State V O R T) (i ticket : ℕ) (event : Event R) (next : Next O T R)
      → MayCome kind s (Resume i ticket event next) → IsOrdered n s → IsBounded n built s → IsTraced c given s
      → (x : Object V T) × (object_of s.live i ≡ Some x)
      × HasFirst x.works (λ w. (w.ticket ≡ ticket) × (w.place < length s.places) × (is_among w.ticket given ≡ (w.place == c)))
  first_known kind n c built given s i ticket event next may ordered bounded h =
      let (x, at, first) = found (object_of s.live i) _ may in
      let bounds = (all_found _ i s.live x at bounded.objects).0.works in
      let known = all_found (IsKnown c given) i s.live x at h.known in (
        x,
        at,
        weaker_first x.works _ _
            (λ w k. (k.0.0, (let lt = k.1.0.0 in let places = ordered.places in omega (arith, lt, places)), k.1.1))
            (first_both x.works _ _ first (all_both _ _ x.works bounds known)),
      )
