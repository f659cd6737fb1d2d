-- An entry's change of the value and the unfinished launches of the object of one id, which goes only with none left.
use Rattle.std.proofs.Common.{◌≡◌, ℕ, ◌+◌, ◌-◌, ◌⊎◌, true, false, not, cond, List, [], ◌∷◌, ◌++◌, length-set, inl, inr, refl, sym, ◌∙◌, ap, arith, eq-eqb, ne_eqb}
use Rattle.std.specs.Prelude.{◌==◌}
use Rattle.std.specs.declared.option.Option.{Option}
use Rattle.std.specs.declared.option.Option.TheVariants.{None, Some}
use Rattle.std.proofs.lemmas.Bool.{cases_eq}
use Rattle.tm_seq.specs.Kind.{Kind}
use Rattle.tm_seq.specs.declared.kind.Next.{Next}
use Rattle.tm_seq.specs.declared.kind.Next.TheVariants.{Done}
use Rattle.tm_batch.specs.declared.message.Request.{Request}
use Rattle.tm_batch.specs.declared.message.Request.TheVariants.{Entrust, Apply, Launch, Grant, Release, Reclaim, Bye}
use Rattle.tm_batch.specs.declared.message.Answer.{Answer}
use Rattle.tm_batch.specs.declared.message.Answer.TheVariants.{Entrusted, Replied, Launched, Granted, Released, Reclaimed, ByeDone}
use Rattle.tm_model.specs.declared.entry.Entry.{Entry}
use Rattle.tm_model.specs.declared.entry.Entry.TheVariants.{By, Resume, Sent}
use Rattle.tm_model.specs.State.{Start, Work, Object, State, holds_of, with_holds, kept, object_of}
use Rattle.tm_model.specs.Serve.{value_run, value_advanced, works_resumed, works_in, served, completed, after}
use Rattle.tm_model.specs.Legal.{Serves, MayCome}
use Rattle.tm_core.proofs.CallerLemmas.{item_within}
use Rattle.tm_core.proofs.Finding.{no_items, found_id, filter_found, kept_found, map_found, change_found, append_found}
use Rattle.tm_core.proofs.Rising.{RisesTo, rises_change, rises_map}
use Rattle.tm_core.proofs.Ordered.{IsOrdered}

module _ {V T : Type 0} where
  -- a live object goes with no unfinished launch, or goes on
  abbrev pub GoesOn : V × List (Work T) → Option (Object V T) → Type 0
  GoesOn p new = ((new ≡ None) × (p.1 ≡ [])) ⊎ ((x : Object V T) × (new ≡ Some x) × ((x.value, x.works) ≡ p))

  kept_goes :
      (n next id : ℕ) (p : V × List (Work T)) (live : List (Object V T)) (x : Object V T)
      → RisesTo n 1 next live → object_of live id ≡ Some x → (x.value, x.works) ≡ p → GoesOn p (object_of (kept live) id)
  kept_goes n next id p live x rises at is =
      elim (kept_found n 1 next id live x rises at) [
        | inl (gone, none) ↦ inl (gone, sym (ap (λ q. q.1) is) ∙ none)
        | inr stays ↦ inr (x, stays, is)
      ]

module _ {V O R T : Type 0} where
  -- the value and the unfinished launches of the object of an id after an entry
  abbrev pub lives : Kind V O R T → ℕ → V → List (Work T) → Entry V O R T → V × List (Work T)
  lives kind id v ws (By c k (Apply n op) (Replied r)) = cond (n.id == id) (value_run kind v op r, ws) (v, ws)
  lives kind id v ws (By c k (Launch n task) (Launched ticket)) =
      cond (n.id == id) (v, ws ++ record { place = c; ticket = ticket; task = task; awaits = Start } ∷ []) (v, ws)
  lives kind id v ws (Resume i ticket event next) = cond (i == id) (value_advanced kind v ws event next, works_resumed ws next) (v, ws)
  lives kind id v ws _ = (v, ws)

  served_goes :
      (kind : Kind V O R T) (n c k id : ℕ) (q : Request V O R T) (a : Answer V O R T) (s : State V O R T) (o : Object V T)
      → Serves kind s c q a → IsOrdered n s → object_of s.live id ≡ Some o
      → GoesOn (lives kind id o.value o.works (By c k q a)) (object_of (served kind c q a s).live id)
  served_goes kind n c k id (Entrust v) (Entrusted name) s o may h at = inr (o, append_found s.live _ id o at, refl)
  served_goes kind n c k id (Apply i op) (Replied r) s o may h at =
      elim (change_found id i.id (λ o. record o { value = value_run kind o.value op r }) s.live o (λ o. refl) at) [
        | inl (e, now) ↦ inr (_, now, rw (eq-eqb i.id id e) refl)
        | inr (ne, now) ↦ inr (_, now, rw (ne_eqb i.id id ne) refl)
      ]
  served_goes kind n c k id (Launch i task) (Launched ticket) s o may h at =
      elim (change_found id i.id (λ o. record o { works = o.works ++ record { place = c; ticket = ticket; task = task; awaits = Start } ∷ [] }) s.live o (λ o. refl) at) [
        | inl (e, now) ↦ inr (_, now, rw (eq-eqb i.id id e) refl)
        | inr (ne, now) ↦ inr (_, now, rw (ne_eqb i.id id ne) refl)
      ]
  served_goes kind n c k id (Grant i d) Granted s o may h at =
      elim (change_found id i.id (λ o. with_holds d (holds_of o d + 1) o) s.live o (λ o. refl) at) [
        | inl (e, now) ↦ inr (_, now, refl)
        | inr (ne, now) ↦ inr (_, now, refl)
      ]
  served_goes kind n c k id (Release i) Released s o may h at =
      let rises = rises_change n 1 s.next_id i.id (λ o. with_holds c (holds_of o c - 1) o) s.live (λ o. refl) (λ o. length-set o.holds c _) h.rises in
      elim (change_found id i.id (λ o. with_holds c (holds_of o c - 1) o) s.live o (λ o. refl) at) [
        | inl (e, now) ↦ kept_goes n s.next_id id _ _ _ rises now refl
        | inr (ne, now) ↦ kept_goes n s.next_id id _ _ _ rises now refl
      ]
  served_goes kind n c k id (Reclaim i) (Reclaimed v) s o may h at =
      let is = filter_found n 1 s.next_id id (λ o. not (o.id == i.id)) s.live o h.rises at in
      let own = found_id s.live id o at in
      elim (cases_eq id i.id) [
        | inl e ↦
            let test : not (o.id == i.id) ≡ false = ap not (eq-eqb o.id i.id (own ∙ e)) in
            let held = rw (← e, at) at may.0 in
            let all = rw (← e, at) at may.1 in
            let one = item_within o.holds c in
            inl (is ∙ ap (λ t. cond t (Some o) None) test, no_items o.works (let all = all.0 in omega (arith, one, held, all)))
        | inr ne ↦
            let test : not (o.id == i.id) ≡ true = ap not (ne_eqb o.id i.id (λ e. ne (sym own ∙ e))) in
            inr (o, is ∙ ap (λ t. cond t (Some o) None) test, refl)
      ]
  served_goes kind n c k id Bye ByeDone s o may h at =
      kept_goes n s.next_id id _ _ _ (rises_map n 1 s.next_id _ s.live (λ o. refl) (λ o. length-set o.holds c 0) h.rises)
      (map_found id (λ o. with_holds c 0 o) s.live o (λ o. refl) at) refl
  served_goes kind n c k id _ _ s o may h at = inr (o, at, refl)

  pub completed_live : (ws : List (Work T)) (ticket : ℕ) (next : Next O T R) (s : State V O R T) → (completed ws ticket next s).live ≡ s.live
  completed_live (w ∷ ws) ticket (Done r) s = refl
  completed_live _ ticket _ s = refl

  -- what an entry that may come does to a live object
  pub after_goes :
      (kind : Kind V O R T) (n id : ℕ) (s : State V O R T) (e : Entry V O R T) (o : Object V T)
      → MayCome kind s e → IsOrdered n s → object_of s.live id ≡ Some o → GoesOn (lives kind id o.value o.works e) (object_of (after kind s e).live id)
  after_goes kind n id s (By c k q a) o may h at = served_goes kind n c k id q a s o may.2 h at
  after_goes kind n id s (Resume i ticket event next) o may h at =
      let f : Object V T → Object V T = λ o. record o { value = value_advanced kind o.value o.works event next; works = works_resumed o.works next } in
      let rises = rises_change n 1 s.next_id i f s.live (λ o. refl) (λ o. refl) h.rises in
      rw (completed_live (works_in (object_of s.live i)) ticket next _)
      (elim (change_found id i f s.live o (λ o. refl) at) [
        | inl (e, now) ↦ kept_goes n s.next_id id _ _ _ rises now (rw (eq-eqb i id e) refl)
        | inr (ne, now) ↦ kept_goes n s.next_id id _ _ _ rises now (rw (ne_eqb i id ne) refl)
      ])
  after_goes kind n id s (Sent c room) o may h at = inr (o, at, refl)
