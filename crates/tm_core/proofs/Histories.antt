-- The value and the unfinished tasks of a live object are what its history leaves of the value with which it was entrusted.
use Rattle.std.proofs.Common.{◌≡◌, ℕ, ◌+◌, true, false, cond, List, [], ◌∷◌, ◌++◌, map, inl, inr, refl, sym, ◌∙◌, ap, subst, arith, eq-eqb, ne_eqb}
use Rattle.std.proofs.lemmas.Bool.{cases_eq}
use Rattle.std.specs.Prelude.{◌==◌}
use Rattle.std.specs.declared.option.Option.TheVariants.{None, Some}
use Rattle.tm_seq.specs.Kind.{Kind}
use Rattle.tm_seq.specs.declared.kind.Event.{Event}
use Rattle.tm_seq.specs.declared.kind.Next.{Next}
use Rattle.tm_seq.specs.declared.kind.Next.TheVariants.{Ask, Done}
use Rattle.tm_batch.specs.declared.config.First.{First}
use Rattle.tm_batch.specs.declared.message.Request.TheVariants.{Apply, Launch}
use Rattle.tm_batch.specs.declared.message.Answer.TheVariants.{Replied, Launched}
use Rattle.tm_model.specs.declared.entry.Entry.{Entry}
use Rattle.tm_model.specs.declared.entry.Entry.TheVariants.{By, Resume}
use Rattle.tm_model.specs.State.{Start, Work, Object, State, place_count, object_of}
use Rattle.tm_model.specs.Opening.{opened, placed_on}
use Rattle.tm_model.specs.Serve.{value_run, value_advanced, works_resumed, works_in, after, state_after}
use Rattle.tm_model.specs.Legal.{IsLegal}
use Rattle.tm_model.specs.History.{tasks_resumed, value_told, history_of, lived, first_value}
use Rattle.tm_model.specs.Laws.{IsOpening, HistoriesTellValues}
use Rattle.tm_core.proofs.CallerLemmas.{option_cases}
use Rattle.tm_core.proofs.Finding.{found_below}
use Rattle.tm_core.proofs.Living.{lives, after_goes}
use Rattle.tm_core.proofs.Absent.{after_past, after_appears, after_next, never_again}
use Rattle.tm_core.proofs.Ordered.{IsOrdered, after_ordered, opening_ordered}

-- the tasks of some launches
abbrev tasks : {T : Type 0} → List (Work T) → List T
tasks ws = map (λ w. w.task) ws

tasks-append : {T : Type 0} (ws : List (Work T)) (w : Work T) → tasks (ws ++ w ∷ []) ≡ tasks ws ++ w.task ∷ []
tasks-append [] w = refl
tasks-append (x ∷ ws) w = ap (λ l. x.task ∷ l) (tasks-append ws w)

tasks_go : {O R T : Type 0} (ws : List (Work T)) (next : Next O T R) → tasks_resumed (tasks ws) next ≡ tasks (works_resumed ws next)
tasks_go [] next = refl
tasks_go (w ∷ ws) (Ask u i op task) = refl
tasks_go (w ∷ ws) (Done r) = refl

module _ {V O R T : Type 0} where
  value_goes :
      (kind : Kind V O R T) (v : V) (ws : List (Work T)) (event : Event R) (next : Next O T R)
      → value_told kind v (tasks ws) event next ≡ value_advanced kind v ws event next
  value_goes kind v [] event next = refl
  value_goes kind v (w ∷ ws) event next = refl

  -- a history lives on by its first entry
  lived_on :
      (kind : Kind V O R T) (id : ℕ) (v : V) (ws : List (Work T)) (e : Entry V O R T) (es : List (Entry V O R T))
      → lived kind v (tasks ws) (history_of id (e ∷ es)) ≡ lived kind (lives kind id v ws e).0 (tasks (lives kind id v ws e).1) (history_of id es)
  lived_on kind id v ws (By c k (Apply i op) (Replied r)) es =
      let rest = history_of id es in
      elim (i.id == id) as
      (λ t. let p : V × List (Work T) = cond t (value_run kind v op r, ws) (v, ws) in
      lived kind v (tasks ws) (cond t (By c k (Apply i op) (Replied r) ∷ rest) rest) ≡ lived kind p.0 (tasks p.1) rest) [ true ↦ refl | false ↦ refl ]
  lived_on kind id v ws (By c k (Launch i task) (Launched ticket)) es =
      let rest = history_of id es in
      let w : Work T = record { place = c; ticket = ticket; task = task; awaits = Start } in
      elim (i.id == id) as
      (λ t. let p : V × List (Work T) = cond t (v, ws ++ w ∷ []) (v, ws) in
      lived kind v (tasks ws) (cond t (By c k (Launch i task) (Launched ticket) ∷ rest) rest) ≡ lived kind p.0 (tasks p.1) rest) [
        | true ↦ ap (λ l. lived kind v l rest) (sym (tasks-append ws w))
        | false ↦ refl
      ]
  lived_on kind id v ws (Resume i ticket event next) es =
      let rest = history_of id es in
      elim (i == id) as
      (λ t. let p : V × List (Work T) = cond t (value_advanced kind v ws event next, works_resumed ws next) (v, ws) in
      lived kind v (tasks ws) (cond t (Resume i ticket event next ∷ rest) rest) ≡ lived kind p.0 (tasks p.1) rest) [
        | true ↦ ap (λ u. lived kind u (tasks_resumed (tasks ws) next) rest) (value_goes kind v ws event next)
            ∙ ap (λ l. lived kind (value_advanced kind v ws event next) l rest) (tasks_go ws next)
        | false ↦ refl
      ]
  lived_on kind id v ws _ es = refl

  -- what a log leaves of a live object
  from_live :
      (kind : Kind V O R T) (n id : ℕ) (s : State V O R T) (log : List (Entry V O R T)) (x o : Object V T)
      → IsLegal kind s log → IsOrdered n s → object_of s.live id ≡ Some x → object_of (state_after kind s log).live id ≡ Some o
      → (o.value, tasks o.works) ≡ lived kind x.value (tasks x.works) (history_of id log)
  from_live kind n id s [] x o legal h at last =
      let same : Some x ≡ Some o = sym at ∙ last in
      let is : x ≡ o = cc in
      ap (λ y. (y.value, tasks y.works)) (sym is)
  from_live kind n id s (e ∷ es) x o legal h at last =
      elim (after_goes kind n id s e x legal.0 h at) [
        | inl (gone, none) ↦
            let lt = found_below n 1 s.next_id id s.live x h.rises at in
            let le = after_next kind s e in
            let never = never_again kind id (after kind s e) es legal.1 gone (omega (arith, lt, le)) in
            let bad : None ≡ Some o = sym never ∙ last in
            absurd cc
        | inr (y, now, is) ↦
            from_live kind n id (after kind s e) es y o legal.1 (after_ordered kind n s e legal.0 h) now last
            ∙ ap (λ (p : V × List (Work T)). lived kind p.0 (tasks p.1) (history_of id es)) is ∙ sym (lived_on kind id x.value x.works e es)
      ]

  -- and of one that is entrusted later
  from_none :
      (kind : Kind V O R T) (n id : ℕ) (s : State V O R T) (log : List (Entry V O R T)) (o : Object V T)
      → IsLegal kind s log → IsOrdered n s → object_of s.live id ≡ None → object_of (state_after kind s log).live id ≡ Some o
      → (v : V) × (first_value s log id ≡ Some v) × ((o.value, tasks o.works) ≡ lived kind v [] (history_of id log))
  from_none kind n id s [] o legal h at last = let bad : None ≡ Some o = sym at ∙ last in absurd cc
  from_none kind n id s (e ∷ es) o legal h at last =
      let past = after_past kind id s e legal.0 at in
      let ordered = after_ordered kind n s e legal.0 h in
      elim (after_appears kind id s e legal.0 at) [
        | inl (none, same) ↦
            let (v, first, is) = from_none kind n id (after kind s e) es o legal.1 ordered none last in
            (v, same es ∙ first, is ∙ ap (lived kind v []) (sym (past.history es)))
        | inr (x, now, works, next, first) ↦ (
          x.value,
          first es,
          from_live kind n id (after kind s e) es x o legal.1 ordered now last
              ∙ ap (λ ws. lived kind x.value (tasks ws) (history_of id es)) works
              ∙ ap (lived kind x.value []) (sym (past.history es)),
        )
      ]

-- objects of the build have no launches
pub opened_idle : {V : Type 0} {T : Type 0} (places id i : ℕ) (first : List (First V)) (x : Object V T) → object_of (opened places id first) i ≡ Some x → x.works ≡ []
opened_idle places id i [] x at = absurd cc
opened_idle places id i (f ∷ first) x at =
    elim (cases_eq id i) [
      | inl e ↦
          let found = rw (eq-eqb id i e) at at in
          sym (ap works_in found)
      | inr ne ↦ let later = rw (ne_eqb id i ne) at at in opened_idle places (id + 1) i first x later
    ]

module _ {V O R T : Type 0} where
  pub opening_idle : (opening : State V O R T) (id : ℕ) (x : Object V T) → IsOpening opening → object_of opening.live id ≡ Some x → x.works ≡ []
  opening_idle opening id x (number, config, first, can, below, is) at =
      opened_idle (config.clients + number) 1 id (placed_on number first) x (subst (λ (s : State V O R T). object_of s.live id ≡ Some x) is at)

  pub histories_tell_values : (kind : Kind V O R T) → HistoriesTellValues kind
  histories_tell_values kind opening log id o is legal last =
      let n = place_count opening.setup in
      let ordered = opening_ordered opening is in
      elim (option_cases (object_of opening.live id)) [
        | inl at ↦ from_none kind n id opening log o legal ordered at last
        | inr (x, at) ↦
            let idle : x.works ≡ [] = opening_idle opening id x is at in (
              x.value,
              rw at refl,
              from_live kind n id opening log x o legal ordered at last ∙ ap (λ ws. lived kind x.value (tasks ws) (history_of id log)) idle,
            )
      ]
