-- An entry where the object of an id is not live: it is not of that id; an id that is not live and was given out stays so.
use Rattle.std.proofs.Common.{◌≡◌, ◌≢◌, ℕ, ◌+◌, ◌-◌, ◌<◌, ◌≤◌, ◌⊎◌, true, false, not, cond, List, [], ◌∷◌, ◌++◌, map, slice_set, inl, inr, refl, sym, ◌∙◌, ap, subst, arith, eq-eqb, ne_eqb}
use Rattle.std.specs.Prelude.{◌==◌}
use Rattle.std.specs.Option.{IsSomeAnd}
use Rattle.std.specs.declared.option.Option.TheVariants.{None, Some}
use Rattle.std.proofs.lemmas.Bool.{cases_eq}
use Rattle.tm_seq.specs.Kind.{Kind}
use Rattle.tm_seq.specs.declared.kind.Next.{Next}
use Rattle.tm_seq.specs.declared.kind.Next.TheVariants.{Done}
use Rattle.tm_batch.specs.declared.message.Request.{Request}
use Rattle.tm_batch.specs.declared.message.Request.TheVariants.{Entrust, Apply, Launch, Grant, Release, Reclaim, Bye}
use Rattle.tm_batch.specs.declared.message.Answer.{Answer}
use Rattle.tm_batch.specs.declared.message.Answer.TheVariants.{Entrusted, Replied, Launched, Granted, Released, Reclaimed, ByeDone}
use Rattle.tm_model.specs.declared.entry.Entry.{Entry}
use Rattle.tm_model.specs.declared.entry.Entry.TheVariants.{By, Resume, Sent}
use Rattle.tm_model.specs.State.{Start, Work, Object, State, holds_of, with_holds, total, object_of, HasObject}
use Rattle.tm_model.specs.Serve.{value_run, value_advanced, works_resumed, works_in, served, completed, after, state_after}
use Rattle.tm_model.specs.Legal.{Serves, MayCome, IsLegal}
use Rattle.tm_model.specs.History.{history_of, first_value}
use Rattle.tm_model.specs.Latched.{tickets_of, resumes_of}
use Rattle.tm_core.proofs.Finding.{filter_none, map_none, change_none, append_none}
use Rattle.tm_core.proofs.Living.{completed_live}

module _ {V O R T : Type 0} where
  -- an entry is not of an id
  pub record IsPast (id : ℕ) (e : Entry V O R T) : Type 0 where
    pub history : (es : List (Entry V O R T)) → history_of id (e ∷ es) ≡ history_of id es
    pub tickets : (es : List (Entry V O R T)) → tickets_of id (e ∷ es) ≡ tickets_of id es
    pub resumes : (es : List (Entry V O R T)) → resumes_of id (e ∷ es) ≡ resumes_of id es

  no_object : (s : State V O R T) (i id : ℕ) (P : Object V T → Type 0) → HasObject s i P → object_of s.live id ≡ None → i ≢ id
  no_object s i id P has at e =
      let here : HasObject s id P = subst (λ j. HasObject s j P) e has in
      absurd (subst (λ o. IsSomeAnd o P) at here)

  served_past :
      (kind : Kind V O R T) (c k id : ℕ) (q : Request V O R T) (a : Answer V O R T) (s : State V O R T)
      → Serves kind s c q a → object_of s.live id ≡ None → IsPast id (By c k q a)
  served_past kind c k id (Apply i op) (Replied r) s may at =
      let ne : i.id ≢ id = no_object s i.id id _ may.0 at in
      record { history = λ es. rw (ne_eqb i.id id ne) refl; tickets = λ es. refl; resumes = λ es. refl }
  served_past kind c k id (Launch i task) (Launched ticket) s may at =
      let ne : i.id ≢ id = no_object s i.id id _ may.0 at in
      record {
        history = λ es. ap (λ t. cond t (By c k (Launch i task) (Launched ticket) ∷ history_of id es) (history_of id es)) (ne_eqb i.id id ne);
        tickets = λ es. ap (λ t. cond t (ticket ∷ tickets_of id es) (tickets_of id es)) (ne_eqb i.id id ne);
        resumes = λ es. refl;
      }
  served_past kind c k id _ _ s may at = record { history = λ es. refl; tickets = λ es. refl; resumes = λ es. refl }

  -- an entry that may come is not of an id that is not live
  pub after_past : (kind : Kind V O R T) (id : ℕ) (s : State V O R T) (e : Entry V O R T) → MayCome kind s e → object_of s.live id ≡ None → IsPast id e
  after_past kind id s (By c k q a) may at = served_past kind c k id q a s may.2 at
  after_past kind id s (Resume i ticket event next) may at =
      let ne : i ≢ id = no_object s i id _ may at in
      record { history = λ es. rw (ne_eqb i id ne) refl; tickets = λ es. refl; resumes = λ es. rw (ne_eqb i id ne) refl }
  after_past kind id s (Sent c room) may at = record { history = λ es. refl; tickets = λ es. refl; resumes = λ es. refl }

  first_same :
      (id : ℕ) (s new : State V O R T) (es : List (Entry V O R T)) → object_of s.live id ≡ None → object_of new.live id ≡ None
      → first_value s es id ≡ first_value new es id
  first_same id s new es at there = rw (at, there) refl

  -- an id that is not live is not live after an entry, or is the next id, of an object without launches that was entrusted by the entry
  abbrev pub Appears : ℕ → State V O R T → Entry V O R T → State V O R T → Type 0
  Appears id s e new =
      ((object_of new.live id ≡ None) × ((es : List (Entry V O R T)) → first_value s (e ∷ es) id ≡ first_value new es id))
      ⊎ ((x : Object V T) × (object_of new.live id ≡ Some x) × (x.works ≡ []) × (id ≡ s.next_id)
      × ((es : List (Entry V O R T)) → first_value s (e ∷ es) id ≡ Some x.value))

  served_appears :
      (kind : Kind V O R T) (c k id : ℕ) (q : Request V O R T) (a : Answer V O R T) (s : State V O R T)
      → Serves kind s c q a → object_of s.live id ≡ None → Appears id s (By c k q a) (served kind c q a s)
  served_appears kind c k id (Entrust v) (Entrusted name) s may at =
      let x : Object V T = record { id = name.id; value = v; holds = slice_set (map (λ _. 0) s.places) c 1; works = [] } in
      let now = append_none s.live x id at in
      elim (cases_eq name.id id) [
        | inl e ↦
            let test : (name.id == id) ≡ true = eq-eqb name.id id e in
            inr (x, now ∙ ap (λ t. cond t (Some x) None) test, refl, sym e ∙ may.0, λ es. rw (at, test) refl)
        | inr ne ↦
            let test : (name.id == id) ≡ false = ne_eqb name.id id ne in
            let none : object_of (s.live ++ x ∷ []) id ≡ None = now ∙ ap (λ t. cond t (Some x) None) test in
            inl (none, λ es. rw test (first_same id s (served kind c (Entrust v) (Entrusted name) s) es at none))
      ]
  served_appears kind c k id (Apply i op) (Replied r) s may at =
      let none = change_none id i.id (λ o. record o { value = value_run kind o.value op r }) s.live (λ o. refl) at in
      inl (none, λ es. first_same id s (served kind c (Apply i op) (Replied r) s) es at none)
  served_appears kind c k id (Launch i task) (Launched ticket) s may at =
      let none = change_none id i.id (λ o. record o { works = o.works ++ record { place = c; ticket = ticket; task = task; awaits = Start } ∷ [] }) s.live (λ o. refl) at in
      inl (none, λ es. first_same id s (served kind c (Launch i task) (Launched ticket) s) es at none)
  served_appears kind c k id (Grant i d) Granted s may at =
      let none = change_none id i.id (λ o. with_holds d (holds_of o d + 1) o) s.live (λ o. refl) at in
      inl (none, λ es. first_same id s (served kind c (Grant i d) Granted s) es at none)
  served_appears kind c k id (Release i) Released s may at =
      let none = filter_none id (λ o. not (total o == 0)) _ (change_none id i.id (λ o. with_holds c (holds_of o c - 1) o) s.live (λ o. refl) at) in
      inl (none, λ es. first_same id s (served kind c (Release i) Released s) es at none)
  served_appears kind c k id (Reclaim i) (Reclaimed v) s may at =
      let none = filter_none id (λ o. not (o.id == i.id)) s.live at in
      inl (none, λ es. first_same id s (served kind c (Reclaim i) (Reclaimed v) s) es at none)
  served_appears kind c k id Bye ByeDone s may at =
      let none = filter_none id (λ o. not (total o == 0)) _ (map_none id (λ o. with_holds c 0 o) s.live (λ o. refl) at) in
      inl (none, λ es. first_same id s (served kind c Bye ByeDone s) es at none)
  served_appears kind c k id _ _ s may at = inl (at, λ es. first_same id s s es at at)

  pub after_appears :
      (kind : Kind V O R T) (id : ℕ) (s : State V O R T) (e : Entry V O R T)
      → MayCome kind s e → object_of s.live id ≡ None → Appears id s e (after kind s e)
  after_appears kind id s (By c k q a) may at = served_appears kind c k id q a s may.2 at
  after_appears kind id s (Resume i ticket event next) may at =
      let f : Object V T → Object V T = λ o. record o { value = value_advanced kind o.value o.works event next; works = works_resumed o.works next } in
      let none = filter_none id (λ o. not (total o == 0)) _ (change_none id i f s.live (λ o. refl) at) in
      let there : object_of (after kind s (Resume i ticket event next)).live id ≡ None =
      rw (completed_live (works_in (object_of s.live i)) ticket next _) none in
      inl (there, λ es. first_same id s (after kind s (Resume i ticket event next)) es at there)
  after_appears kind id s (Sent c room) may at = inl (at, λ es. first_same id s (after kind s (Sent c room)) es at at)

  -- the next id does not fall
  served_next : (kind : Kind V O R T) (c : ℕ) (q : Request V O R T) (a : Answer V O R T) (s : State V O R T) → s.next_id ≤ (served kind c q a s).next_id
  served_next kind c (Entrust v) (Entrusted name) s = omega arith
  served_next kind c (Launch i task) (Launched ticket) s = omega arith
  served_next kind c (Apply i op) (Replied r) s = omega arith
  served_next kind c (Grant i d) Granted s = omega arith
  served_next kind c (Release i) Released s = omega arith
  served_next kind c (Reclaim i) (Reclaimed v) s = omega arith
  served_next kind c Bye ByeDone s = omega arith
  served_next kind c _ _ s = omega arith

  completed_next : (ws : List (Work T)) (ticket : ℕ) (next : Next O T R) (s : State V O R T) → (completed ws ticket next s).next_id ≡ s.next_id
  completed_next (w ∷ ws) ticket (Done r) s = refl
  completed_next _ ticket _ s = refl

  pub after_next : (kind : Kind V O R T) (s : State V O R T) (e : Entry V O R T) → s.next_id ≤ (after kind s e).next_id
  after_next kind s (By c k q a) = served_next kind c q a s
  after_next kind s (Resume i ticket event next) = rw (completed_next (works_in (object_of s.live i)) ticket next _) (omega arith)
  after_next kind s (Sent c room) = omega arith

  -- an id that was given out and is not live is never live again
  pub never_again :
      (kind : Kind V O R T) (id : ℕ) (s : State V O R T) (log : List (Entry V O R T))
      → IsLegal kind s log → object_of s.live id ≡ None → id < s.next_id → object_of (state_after kind s log).live id ≡ None
  never_again kind id s [] legal at lt = at
  never_again kind id s (e ∷ es) legal at lt =
      elim (after_appears kind id s e legal.0 at) [
        | inl (none, same) ↦ let le = after_next kind s e in never_again kind id (after kind s e) es legal.1 none (omega (arith, le, lt))
        | inr (x, now, works, is, first) ↦ absurd (omega (arith, is, lt))
      ]
