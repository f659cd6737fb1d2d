-- What a run of launched work asks and is told, from an event until it asks an object that is held above or ends, and which launches it leaves.
use Rattle.std.proofs.Common.{◌≡◌, ◌≢◌, ℕ, ◌<◌, ◌≤◌, ◌⊎◌, false, cond, List, [], ◌∷◌, ◌++◌, length, inl, inr, refl, sym, ◌∙◌, ap, subst, arith, eq-eqb, ne_eqb, append_assoc, append-nil}
use Rattle.std.specs.Prelude.{◌==◌, nat_lt}
use Rattle.std.proofs.lemmas.Bool.{cases_eq, le-ltb}
use Rattle.tm_seq.specs.Kind.{Kind}
use Rattle.tm_seq.specs.declared.kind.Event.{Event}
use Rattle.tm_seq.specs.declared.kind.Event.TheVariants.{Begin, Reply, NotAbove, NoObject}
use Rattle.tm_seq.specs.declared.kind.Next.{Next}
use Rattle.tm_seq.specs.declared.kind.Next.TheVariants.{Ask, Done}
use Rattle.tm_model.specs.declared.entry.Entry.{Entry}
use Rattle.tm_model.specs.declared.entry.Entry.TheVariants.{By, Resume, Sent}
use Rattle.tm_model.specs.State.{Work, Setup, State, ids_above}
use Rattle.tm_model.specs.Serve.{works_resumed, after, state_after}
use Rattle.tm_model.specs.Legal.{IsLegal}
use Rattle.tm_model.specs.Entries.{AreResumes}
use Rattle.tm_core.proofs.Ordered.{IsOrdered, after_ordered}
use Rattle.tm_trustee.specs.NestedAsks.{NestedAsk, ask_of, asks_of, told_by, replies_of, works_at}
use Rattle.tm_trustee.specs.Serving.{resumes_in}
use Rattle.tm_trustee.proofs.Works.{works_after}

module _ {V O R T : Type 0} where
  -- entries by which the work of a ticket on an object went on, told an event, until it asked an object that is held above, or ended
  abbrev pub IsRunOf : Setup → ℕ → ℕ → Event R → List (Entry V O R T) → Next O T R → Type 0
  IsRunOf setup id ticket event [] last = ⊥
  IsRunOf setup id ticket event (By c k q a ∷ es) last = ⊥
  IsRunOf setup id ticket event (Sent c room ∷ es) last = ⊥
  IsRunOf setup id ticket event (Resume i t e (Done r) ∷ es) last = (i ≡ id) × (t ≡ ticket) × (e ≡ event) × (es ≡ []) × (last ≡ Done r)
  IsRunOf setup id ticket event (Resume i t e (Ask u x op task) ∷ es) last =
      (i ≡ id) × (t ≡ ticket) × (e ≡ event)
      × (((es ≡ []) × (last ≡ Ask u x op task) × (setup.number < u) × (x < length (ids_above setup u)))
      ⊎ ((u ≤ setup.number) × IsRunOf setup id ticket NotAbove es last)
      ⊎ ((setup.number < u) × (length (ids_above setup u) ≤ x) × IsRunOf setup id ticket NoObject es last))

  pub asks_of-append : (setup : Setup) (u : ℕ) (xs ys : List (Entry V O R T)) → asks_of setup u (xs ++ ys) ≡ asks_of setup u xs ++ asks_of setup u ys
  asks_of-append setup u [] ys = refl
  asks_of-append setup u (Resume id ticket event next ∷ xs) ys =
      ap (λ l. ask_of setup u id ticket next ++ l) (asks_of-append setup u xs ys)
      ∙ sym (append_assoc (ask_of setup u id ticket next) (asks_of setup u xs) (asks_of setup u ys))
  asks_of-append setup u (By c k q a ∷ xs) ys = asks_of-append setup u xs ys
  asks_of-append setup u (Sent c room ∷ xs) ys = asks_of-append setup u xs ys

  pub replies_of-append :
      (kind : Kind V O R T) (s : State V O R T) (u : ℕ) (xs ys : List (Entry V O R T))
      → replies_of kind s u (xs ++ ys) ≡ replies_of kind s u xs ++ replies_of kind (state_after kind s xs) u ys
  replies_of-append kind s u [] ys = refl
  replies_of-append kind s u (Resume id ticket event next ∷ xs) ys =
      let s' = after kind s (Resume id ticket event next) in
      ap (λ l. told_by u (works_at s id) ticket event ++ l) (replies_of-append kind s' u xs ys)
      ∙ sym (append_assoc (told_by u (works_at s id) ticket event) (replies_of kind s' u xs) (replies_of kind (state_after kind s' xs) u ys))
  replies_of-append kind s u (By c k q a ∷ xs) ys = replies_of-append kind (after kind s (By c k q a)) u xs ys
  replies_of-append kind s u (Sent c room ∷ xs) ys = replies_of-append kind (after kind s (Sent c room)) u xs ys

  -- entries without resumes ask nothing and are told nothing
  pub quiet_asks : (setup : Setup) (u : ℕ) (es : List (Entry V O R T)) → resumes_in es ≡ 0 → asks_of setup u es ≡ []
  quiet_asks setup u [] none = refl
  quiet_asks setup u (Resume id ticket event next ∷ es) none = absurd (omega (arith, none))
  quiet_asks setup u (By c k q a ∷ es) none = quiet_asks setup u es none
  quiet_asks setup u (Sent c room ∷ es) none = quiet_asks setup u es none

  pub quiet_replies : (kind : Kind V O R T) (s : State V O R T) (u : ℕ) (es : List (Entry V O R T)) → resumes_in es ≡ 0 → replies_of kind s u es ≡ []
  quiet_replies kind s u [] none = refl
  quiet_replies kind s u (Resume id ticket event next ∷ es) none = absurd (omega (arith, none))
  quiet_replies kind s u (By c k q a ∷ es) none = quiet_replies kind (after kind s (By c k q a)) u es none
  quiet_replies kind s u (Sent c room ∷ es) none = quiet_replies kind (after kind s (Sent c room)) u es none

  -- a run is of resumes
  pub run_resumes : (setup : Setup) (id ticket : ℕ) (event : Event R) (es : List (Entry V O R T)) (last : Next O T R) → IsRunOf setup id ticket event es last → AreResumes es
  run_resumes setup id ticket event [] last run = absurd run
  run_resumes setup id ticket event (By c k q a ∷ es) last run = absurd run
  run_resumes setup id ticket event (Sent c room ∷ es) last run = absurd run
  run_resumes setup id ticket event (Resume i t e (Done r) ∷ es) last run = subst (λ l. AreResumes l) (sym run.3) tt
  run_resumes setup id ticket event (Resume i t e (Ask u x op task) ∷ es) last run =
      elim run.3 [
        | inl stops ↦ subst (λ l. AreResumes l) (sym stops.0) tt
        | inr goes ↦
            elim goes [
              | inl below ↦ run_resumes setup id ticket NotAbove es last below.1
              | inr none ↦ run_resumes setup id ticket NoObject es last none.2
            ]
      ]

module _ {O T : Type 0} where
  -- an ask that does not go above, or of no object, asks nothing of a greater trustee
  below_asks :
      (R : Type 0) (setup : Setup) (u by ticket v x : ℕ) (op : O) (task : T) → setup.number < u → v ≤ setup.number
      → ask_of {O = O} {R = R} {T = T} setup u by ticket (Ask v x op task) ≡ []
  below_asks R setup u by ticket v x op task lt le =
      let ne : v ≢ u = λ e. absurd (omega (arith, lt, le, e)) in
      rw (ne_eqb v u ne) refl

  none_asks :
      (R : Type 0) (setup : Setup) (u by ticket v x : ℕ) (op : O) (task : T) → length (ids_above setup v) ≤ x
      → ask_of {O = O} {R = R} {T = T} setup u by ticket (Ask v x op task) ≡ []
  none_asks R setup u by ticket v x op task le =
      elim (cases_eq v u) [
        | inl e ↦
            let test : nat_lt x (length (ids_above setup u)) ≡ false = le-ltb x (length (ids_above setup u)) (subst (λ w. length (ids_above setup w) ≤ x) e le) in
            rw (eq-eqb v u e, test) refl
        | inr ne ↦ rw (ne_eqb v u ne) refl
      ]

module _ {R T : Type 0} where
  told_none : (u : ℕ) (ws : List (Work T)) (ticket : ℕ) (event : Event R) → ((r : R) → event ≢ Reply r) → told_by u ws ticket event ≡ []
  told_none u ws ticket Begin never = refl
  told_none u ws ticket (Reply r) never = absurd (never r refl)
  told_none u ws ticket NotAbove never = refl
  told_none u ws ticket NoObject never = refl

module _ {O R T : Type 0} where
  resumed_here : (ws : List (Work T)) (i id : ℕ) (next : Next O T R) → i ≡ id → cond (i == id) (works_resumed ws next) ws ≡ works_resumed ws next
  resumed_here ws i id next e = rw (eq-eqb i id e) refl

  resumed_there : (ws : List (Work T)) (i d : ℕ) (next : Next O T R) → i ≢ d → cond (i == d) (works_resumed ws next) ws ≡ ws
  resumed_there ws i d next ne = rw (ne_eqb i d ne) refl

  works_twice : (ws : List (Work T)) (u x : ℕ) (op : O) (task : T) (last : Next O T R) → works_resumed {O = O} {R = R} {T = T} (works_resumed {O = O} {R = R} {T = T} ws (Ask u x op task)) last ≡ works_resumed ws last
  works_twice [] u x op task last = refl
  works_twice (w ∷ ws) u x op task (Ask v y o t) = refl
  works_twice (w ∷ ws) u x op task (Done r) = refl

module _ {V O R T : Type 0} where
  nothing_more : (setup : Setup) (u : ℕ) (asks : List (NestedAsk O)) (es : List (Entry V O R T)) → es ≡ [] → asks ++ asks_of setup u es ≡ asks
  nothing_more setup u asks es none = ap (λ l. asks ++ asks_of setup u l) none ∙ append-nil asks

  told_same :
      (s : State V O R T) (u i id t ticket : ℕ) (e event : Event R) → i ≡ id → t ≡ ticket → e ≡ event
      → told_by u (works_at s i) t e ≡ told_by u (works_at s id) ticket event
  told_same s u i id t ticket e event first then last =
      ap (λ m. told_by u (works_at s m) t e) first ∙ ap (λ m. told_by u (works_at s id) m e) then ∙ ap (told_by u (works_at s id) ticket) last

  -- a run asks what it asks last, and no more
  pub run_asks :
      (setup : Setup) (u id ticket : ℕ) (event : Event R) (es : List (Entry V O R T)) (last : Next O T R) → setup.number < u
      → IsRunOf setup id ticket event es last → asks_of setup u es ≡ ask_of setup u id ticket last
  run_asks setup u id ticket event [] last lt run = absurd run
  run_asks setup u id ticket event (By c k q a ∷ es) last lt run = absurd run
  run_asks setup u id ticket event (Sent c room ∷ es) last lt run = absurd run
  run_asks setup u id ticket event (Resume i t e (Done r) ∷ es) last lt run =
      ap (asks_of setup u) run.3 ∙ ap (ask_of setup u id ticket) (sym run.4)
  run_asks setup u id ticket event (Resume i t e (Ask v x op task) ∷ es) last lt run =
      elim run.3 [
        | inl stops ↦
            nothing_more setup u (ask_of {O = O} {R = R} {T = T} setup u i t (Ask v x op task)) es stops.0
            ∙ ap (λ m. ask_of {O = O} {R = R} {T = T} setup u m t (Ask v x op task)) run.0 ∙ ap (λ m. ask_of {O = O} {R = R} {T = T} setup u id m (Ask v x op task)) run.1
            ∙ ap (ask_of setup u id ticket) (sym stops.1)
        | inr goes ↦
            elim goes [
              | inl below ↦
                  ap (λ l. l ++ asks_of setup u es) (below_asks R setup u i t v x op task lt below.0)
                  ∙ run_asks setup u id ticket NotAbove es last lt below.1
              | inr none ↦
                  ap (λ l. l ++ asks_of setup u es) (none_asks R setup u i t v x op task none.1) ∙ run_asks setup u id ticket NoObject es last lt none.2
            ]
      ]

  -- it is told no reply behind its first event
  told_no_more :
      (kind : Kind V O R T) (s : State V O R T) (setup : Setup) (u id ticket : ℕ) (event : Event R) (es : List (Entry V O R T)) (last : Next O T R)
      → ((r : R) → event ≢ Reply r) → IsRunOf setup id ticket event es last → replies_of kind s u es ≡ []
  told_no_more kind s setup u id ticket event [] last never run = absurd run
  told_no_more kind s setup u id ticket event (By c k q a ∷ es) last never run = absurd run
  told_no_more kind s setup u id ticket event (Sent c room ∷ es) last never run = absurd run
  told_no_more kind s setup u id ticket event (Resume i t e (Done r) ∷ es) last never run =
      let s' = after kind s (Resume i t e (Done r)) in
      ap (λ l. l ++ replies_of kind s' u es) (told_none u (works_at s i) t e (λ r is. never r (sym run.2 ∙ is))) ∙ ap (replies_of kind s' u) run.3
  told_no_more kind s setup u id ticket event (Resume i t e (Ask v x op task) ∷ es) last never run =
      let s' = after kind s (Resume i t e (Ask v x op task)) in
      ap (λ l. l ++ replies_of kind s' u es) (told_none u (works_at s i) t e (λ r is. never r (sym run.2 ∙ is)))
      ∙ elim run.3 [
        | inl stops ↦ ap (replies_of kind s' u) stops.0
        | inr goes ↦
            elim goes [
              | inl below ↦ told_no_more kind s' setup u id ticket NotAbove es last (λ r is. absurd cc) below.1
              | inr none ↦ told_no_more kind s' setup u id ticket NoObject es last (λ r is. absurd cc) none.2
            ]
      ]

  -- so a run is told what its first event tells
  pub run_replies :
      (kind : Kind V O R T) (s : State V O R T) (setup : Setup) (u id ticket : ℕ) (event : Event R) (es : List (Entry V O R T)) (last : Next O T R)
      → IsRunOf setup id ticket event es last → replies_of kind s u es ≡ told_by u (works_at s id) ticket event
  run_replies kind s setup u id ticket event [] last run = absurd run
  run_replies kind s setup u id ticket event (By c k q a ∷ es) last run = absurd run
  run_replies kind s setup u id ticket event (Sent c room ∷ es) last run = absurd run
  run_replies kind s setup u id ticket event (Resume i t e (Done r) ∷ es) last run =
      let s' = after kind s (Resume i t e (Done r)) in
      ap (λ l. told_by u (works_at s i) t e ++ replies_of kind s' u l) run.3 ∙ append-nil (told_by u (works_at s i) t e)
      ∙ told_same s u i id t ticket e event run.0 run.1 run.2
  run_replies kind s setup u id ticket event (Resume i t e (Ask v x op task) ∷ es) last run =
      let s' = after kind s (Resume i t e (Ask v x op task)) in
      let rest : replies_of kind s' u es ≡ [] = elim run.3 [
        | inl stops ↦ ap (replies_of kind s' u) stops.0
        | inr goes ↦
            elim goes [
              | inl below ↦ told_no_more kind s' setup u id ticket NotAbove es last (λ r is. absurd cc) below.1
              | inr none ↦ told_no_more kind s' setup u id ticket NoObject es last (λ r is. absurd cc) none.2
            ]
      ] in
      ap (λ l. told_by u (works_at s i) t e ++ l) rest ∙ append-nil (told_by u (works_at s i) t e)
      ∙ told_same s u i id t ticket e event run.0 run.1 run.2

  module _ (kind : Kind V O R T) (n : ℕ) where
    pub run_works :
        (s : State V O R T) (setup : Setup) (id ticket : ℕ) (event : Event R) (es : List (Entry V O R T)) (last : Next O T R)
        → IsLegal kind s es → IsOrdered n s → IsRunOf setup id ticket event es last
        → (works_at (state_after kind s es) id ≡ works_resumed (works_at s id) last)
        × ((d : ℕ) → d ≢ id → works_at (state_after kind s es) d ≡ works_at s d)
    run_works s setup id ticket event [] last legal ordered run = absurd run
    run_works s setup id ticket event (By c k q a ∷ es) last legal ordered run = absurd run
    run_works s setup id ticket event (Sent c room ∷ es) last legal ordered run = absurd run
    run_works s setup id ticket event (Resume i t e (Done r) ∷ es) last legal ordered run =
        let s' = after kind s (Resume i t e (Done r)) in
        let ends : state_after kind s' es ≡ s' = ap (state_after kind s') run.3 in (
          ap (λ (x : State V O R T). works_at x id) ends ∙ works_after kind n s (Resume i t e (Done r)) id legal.0 ordered
              ∙ resumed_here (works_at s id) i id (Done r) run.0 ∙ ap (works_resumed (works_at s id)) (sym run.4),
          λ d ne. ap (λ (x : State V O R T). works_at x d) ends ∙ works_after kind n s (Resume i t e (Done r)) d legal.0 ordered
              ∙ resumed_there (works_at s d) i d (Done r) (λ is. ne (sym is ∙ run.0)),
        )
    run_works s setup id ticket event (Resume i t e (Ask v x op task) ∷ es) last legal ordered run =
        let s' = after kind s (Resume i t e (Ask v x op task)) in
        let here : works_at s' id ≡ works_resumed {O = O} {R = R} {T = T} (works_at s id) (Ask v x op task) =
        works_after kind n s (Resume i t e (Ask v x op task)) id legal.0 ordered ∙ resumed_here (works_at s id) i id (Ask v x op task) run.0 in
        let there : (d : ℕ) → d ≢ id → works_at s' d ≡ works_at s d = λ d ne.
        works_after kind n s (Resume i t e (Ask v x op task)) d legal.0 ordered ∙ resumed_there (works_at s d) i d (Ask v x op task) (λ is. ne (sym is ∙ run.0)) in
        let ordered' = after_ordered kind n s (Resume i t e (Ask v x op task)) legal.0 ordered in
        let on : (event : Event R) → IsRunOf setup id ticket event es last
        → (works_at (state_after kind s' es) id ≡ works_resumed (works_at s id) last) × ((d : ℕ) → d ≢ id → works_at (state_after kind s' es) d ≡ works_at s d) =
        λ event more.
        let (first, others) = run_works s' setup id ticket event es last legal.1 ordered' more in (
          first ∙ ap (λ ws. works_resumed ws last) here ∙ works_twice (works_at s id) v x op task last,
          λ d ne. others d ne ∙ there d ne,
        ) in
        elim run.3 [
          | inl stops ↦
              let ends : state_after kind s' es ≡ s' = ap (state_after kind s') stops.0 in (
                ap (λ (x : State V O R T). works_at x id) ends ∙ here ∙ ap (works_resumed (works_at s id)) (sym stops.1),
                λ d ne. ap (λ (x : State V O R T). works_at x d) ends ∙ there d ne,
              )
          | inr goes ↦ elim goes [ inl below ↦ on NotAbove below.1 | inr none ↦ on NoObject none.2 ]
        ]
