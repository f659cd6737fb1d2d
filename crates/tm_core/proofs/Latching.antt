-- The resumes of one object are whole runs of its tickets in their order, and at most one open run behind them.
use Rattle.std.proofs.Common.{◌≡◌, ℕ, ◌⊎◌, true, false, cond, List, [], ◌∷◌, ◌++◌, map, inl, inr, refl, sym, ap, subst, eq-eqb, ne_eqb}
use Rattle.std.specs.Prelude.{◌==◌}
use Rattle.std.specs.List.{AllByRecursion}
use Rattle.std.specs.Option.{IsSomeAnd}
use Rattle.std.specs.declared.option.Option.TheVariants.{None, Some}
use Rattle.std.proofs.lemmas.Bool.{cases_eq}
use Rattle.tm_seq.specs.Kind.{Kind}
use Rattle.tm_seq.specs.declared.kind.Event.{Event}
use Rattle.tm_seq.specs.declared.kind.Event.TheVariants.{Begin, Reply, NotAbove, NoObject}
use Rattle.tm_seq.specs.declared.kind.Next.{Next}
use Rattle.tm_seq.specs.declared.kind.Next.TheVariants.{Ask, Done}
use Rattle.tm_batch.specs.declared.message.Request.TheVariants.{Apply, Launch}
use Rattle.tm_batch.specs.declared.message.Answer.TheVariants.{Replied, Launched}
use Rattle.tm_model.specs.declared.entry.Entry.{Entry}
use Rattle.tm_model.specs.declared.entry.Entry.TheVariants.{By, Resume}
use Rattle.tm_model.specs.State.{Awaits, Start, AskOf, Work, Setup, Object, State, place_count, object_of, HasObject}
use Rattle.tm_model.specs.Serve.{value_run, works_resumed, after}
use Rattle.tm_model.specs.Legal.{IsAwaited, HasFirst, MayCome, IsLegal}
use Rattle.tm_model.specs.Latched.{Resumption, IsBegin, IsDone, AreRuns, tickets_of, resumes_of}
use Rattle.tm_model.specs.Laws.{LaunchesAreLatched}
use Rattle.tm_core.proofs.CallerLemmas.{weaker_first, option_cases, all-append}
use Rattle.tm_core.proofs.Living.{lives, after_goes}
use Rattle.tm_core.proofs.Absent.{after_past, after_appears}
use Rattle.tm_core.proofs.Histories.{opening_idle}
use Rattle.tm_core.proofs.Ordered.{IsOrdered, after_ordered, opening_ordered}

module _ {T : Type 0} where
  -- no launch but the first has begun
  abbrev IsQueue : List (Work T) → Type 0
  IsQueue [] = Unit {0}
  IsQueue (w ∷ ws) = AllByRecursion (λ x. x.awaits ≡ Start) ws

  launch_queue : (ws : List (Work T)) (w : Work T) → w.awaits ≡ Start → IsQueue ws → IsQueue (ws ++ w ∷ [])
  launch_queue [] w start queue = tt
  launch_queue (x ∷ ws) w start queue = all-append (λ y. y.awaits ≡ Start) ws (w ∷ []) queue (start, tt)

  resume_queue : {O R : Type 0} (ws : List (Work T)) (next : Next O T R) → IsQueue ws → IsQueue (works_resumed ws next)
  resume_queue [] next queue = tt
  resume_queue (w ∷ ws) (Ask u i op task) queue = queue
  resume_queue (w ∷ []) (Done r) queue = tt
  resume_queue (w ∷ x ∷ ws) (Done r) queue = queue.1

  tickets-append :
      (ws : List (Work T)) (w : Work T) (tickets : List ℕ) → map (λ x. x.ticket) (ws ++ w ∷ []) ++ tickets ≡ map (λ x. x.ticket) ws ++ w.ticket ∷ tickets
  tickets-append [] w tickets = refl
  tickets-append (x ∷ ws) w tickets = ap (λ l. x.ticket ∷ l) (tickets-append ws w tickets)

module _ {O R T : Type 0} where
  -- resumes of a ticket behind its begin
  record IsBehindBegin (ticket : ℕ) (run : List (Resumption O R T)) : Type 0 where
    pub one_ticket : AllByRecursion (λ r. r.ticket ≡ ticket) run
    pub begun : AllByRecursion (λ r. ¬ IsBegin r.event) run

  -- the last of some resumes alone ends them
  abbrev Ends : List (Resumption O R T) → Type 0
  Ends run =
      (front : List (Resumption O R T)) × (last : Resumption O R T)
      × (run ≡ front ++ last ∷ []) × AllByRecursion (λ r. ¬ IsDone r.next) front × IsDone last.next

  -- the rest of a run that has begun, and then runs of the later tickets
  abbrev GoesOn : ℕ → List ℕ → List (Resumption O R T) → Type 0
  GoesOn ticket later resumes =
      (IsBehindBegin ticket resumes × AllByRecursion (λ r. ¬ IsDone r.next) resumes)
      ⊎ ((run : List (Resumption O R T)) × (rest : List (Resumption O R T))
      × (resumes ≡ run ++ rest) × IsBehindBegin ticket run × Ends run × AreRuns later rest)

  -- what comes of a ticket by what it awaits
  abbrev ComesOf : Awaits → ℕ → List ℕ → List (Resumption O R T) → Type 0
  ComesOf Start ticket later resumes = AreRuns (ticket ∷ later) resumes
  ComesOf (AskOf u i) ticket later resumes = GoesOn ticket later resumes

  -- and by what a resume of it does next
  abbrev ComesBehind : Next O T R → ℕ → List ℕ → List (Resumption O R T) → Type 0
  ComesBehind (Ask u i op task) ticket later resumes = GoesOn ticket later resumes
  ComesBehind (Done r) ticket later resumes = AreRuns later resumes

  -- what comes of some launches, the first of which may have begun, and of those to come
  abbrev Comes : List (Work T) → List ℕ → List (Resumption O R T) → Type 0
  Comes [] tickets resumes = AreRuns tickets resumes
  Comes (w ∷ ws) tickets resumes = ComesOf w.awaits w.ticket (map (λ x. x.ticket) ws ++ tickets) resumes

  abbrev Step : ℕ → Event R → Next O T R → Resumption O R T
  Step ticket event next = record { ticket = ticket; event = event; next = next }

  begins :
      (ticket t : ℕ) (next : Next O T R) (later : List ℕ) (resumes : List (Resumption O R T)) → t ≡ ticket
      → ComesBehind next ticket later resumes → AreRuns (ticket ∷ later) (Step t Begin next ∷ resumes)
  begins ticket t (Ask u i op task) later resumes e (inl (behind, asks)) =
      inr (inl (record {
        begun = record { one_ticket = (e, behind.one_ticket); begin = (Step t Begin (Ask u i op task), resumes, refl, tt, behind.begun) };
        asks = (λ h. h, asks);
      }))
  begins ticket t (Ask u i op task) later resumes e (inr (run, rest, is, behind, (front, last, ends, asks, done), runs)) =
      let r = Step t Begin (Ask u i op task) in
      inr (inr (
        r ∷ run,
        rest,
        ap (λ l. r ∷ l) is,
        record {
          begun = record { one_ticket = (e, behind.one_ticket); begin = (r, run, refl, tt, behind.begun) };
          done = (r ∷ front, last, ap (λ l. r ∷ l) ends, (λ h. h, asks), done);
        },
        runs,
      ))
  begins ticket t (Done reply) later resumes e runs =
      let r = Step t Begin (Done reply) in
      inr (inr (
        r ∷ [],
        resumes,
        refl,
        record {
          begun = record { one_ticket = (e, tt); begin = (r, [], refl, tt, tt) };
          done = ([], r, refl, tt, tt);
        },
        runs,
      ))

  goes_on :
      (ticket t : ℕ) (event : Event R) (next : Next O T R) (later : List ℕ) (resumes : List (Resumption O R T)) → t ≡ ticket → ¬ IsBegin event
      → ComesBehind next ticket later resumes → GoesOn ticket later (Step t event next ∷ resumes)
  goes_on ticket t event (Ask u i op task) later resumes e not (inl (behind, asks)) =
      inl (record { one_ticket = (e, behind.one_ticket); begun = (not, behind.begun) }, (λ h. h, asks))
  goes_on ticket t event (Ask u i op task) later resumes e not (inr (run, rest, is, behind, (front, last, ends, asks, done), runs)) =
      let r = Step t event (Ask u i op task) in
      inr (
        r ∷ run,
        rest,
        ap (λ l. r ∷ l) is,
        record { one_ticket = (e, behind.one_ticket); begun = (not, behind.begun) },
        (r ∷ front, last, ap (λ l. r ∷ l) ends, (λ h. h, asks), done),
        runs,
      )
  goes_on ticket t event (Done reply) later resumes e not runs =
      let r = Step t event (Done reply) in
      inr (r ∷ [], resumes, refl, record { one_ticket = (e, tt); begun = (not, tt) }, ([], r, refl, tt, tt), runs)

  -- one resume more in front, by what the ticket awaits
  awaited :
      (built : Setup) (awaits : Awaits) (ticket t : ℕ) (event : Event R) (next : Next O T R) (later : List ℕ) (resumes : List (Resumption O R T))
      → t ≡ ticket → IsAwaited built awaits event → ComesBehind next ticket later resumes → ComesOf awaits ticket later (Step t event next ∷ resumes)
  awaited built Start ticket t Begin next later resumes e may runs = begins ticket t next later resumes e runs
  awaited built Start ticket t (Reply r) next later resumes e may runs = absurd may
  awaited built Start ticket t NotAbove next later resumes e may runs = absurd may
  awaited built Start ticket t NoObject next later resumes e may runs = absurd may
  awaited built (AskOf u i) ticket t Begin next later resumes e may runs = absurd may
  awaited built (AskOf u i) ticket t (Reply r) next later resumes e may runs = goes_on ticket t (Reply r) next later resumes e (λ h. h) runs
  awaited built (AskOf u i) ticket t NotAbove next later resumes e may runs = goes_on ticket t NotAbove next later resumes e (λ h. h) runs
  awaited built (AskOf u i) ticket t NoObject next later resumes e may runs = goes_on ticket t NoObject next later resumes e (λ h. h) runs

  starts :
      (ws : List (Work T)) (tickets : List ℕ) (resumes : List (Resumption O R T)) → AllByRecursion (λ x. x.awaits ≡ Start) ws
      → Comes ws tickets resumes → AreRuns (map (λ x. x.ticket) ws ++ tickets) resumes
  starts [] tickets resumes all runs = runs
  starts (w ∷ ws) tickets resumes all runs = subst (λ a. ComesOf a w.ticket (map (λ x. x.ticket) ws ++ tickets) resumes) all.0 runs

  resume_comes :
      (built : Setup) (ws : List (Work T)) (t : ℕ) (event : Event R) (next : Next O T R) (tickets : List ℕ) (resumes : List (Resumption O R T))
      → IsQueue ws → HasFirst ws (λ w. (w.ticket ≡ t) × IsAwaited built w.awaits event)
      → Comes (works_resumed ws next) tickets resumes → Comes ws tickets (Step t event next ∷ resumes)
  resume_comes built [] t event next tickets resumes queue may runs = absurd may
  resume_comes built (w ∷ ws) t event (Ask u i op task) tickets resumes queue may runs =
      awaited built w.awaits w.ticket t event (Ask u i op task) (map (λ x. x.ticket) ws ++ tickets) resumes (sym may.0) may.1 runs
  resume_comes built (w ∷ ws) t event (Done r) tickets resumes queue may runs =
      awaited built w.awaits w.ticket t event (Done r) (map (λ x. x.ticket) ws ++ tickets) resumes (sym may.0) may.1 (starts ws tickets resumes queue runs)

  -- one launch more
  launch_comes :
      (ws : List (Work T)) (w : Work T) (tickets : List ℕ) (resumes : List (Resumption O R T)) → w.awaits ≡ Start
      → Comes (ws ++ w ∷ []) tickets resumes → Comes ws (w.ticket ∷ tickets) resumes
  launch_comes [] w tickets resumes start runs = subst (λ a. ComesOf a w.ticket tickets resumes) start runs
  launch_comes (x ∷ ws) w tickets resumes start runs = subst (λ l. ComesOf x.awaits x.ticket l resumes) (tickets-append ws w tickets) runs

-- nothing more comes
none_comes : {T : Type 0} (O R : Type 0) (ws : List (Work T)) → Comes {O = O} {R = R} ws [] []
none_comes O R [] = refl
none_comes {T} O R (w ∷ ws) =
    elim w.awaits as (λ a. ComesOf {O = O} {R = R} {T = T} a w.ticket (map (λ x. x.ticket) ws ++ []) []) [
      | Start ↦ inl refl
      | AskOf u i ↦ inl (record { one_ticket = tt; begun = tt }, tt)
    ]

module _ {V O R T : Type 0} where
  has_it : (s : State V O R T) (i id : ℕ) (P : Object V T → Type 0) (x : Object V T) → i ≡ id → HasObject s i P → object_of s.live id ≡ Some x → P x
  has_it s i id P x e has at =
      let here : HasObject s id P = subst (λ j. HasObject s j P) e has in
      subst (λ o. IsSomeAnd o P) at here

  -- what comes of the launches of a live object, by the first entry of a log
  comes_on :
      (kind : Kind V O R T) (id : ℕ) (s : State V O R T) (e : Entry V O R T) (x : Object V T) (es : List (Entry V O R T))
      → MayCome kind s e → object_of s.live id ≡ Some x → IsQueue x.works
      → IsQueue (lives kind id x.value x.works e).1
      × (Comes (lives kind id x.value x.works e).1 (tickets_of id es) (resumes_of id es) → Comes x.works (tickets_of id (e ∷ es)) (resumes_of id (e ∷ es)))
  comes_on kind id s (By c k (Launch i task) (Launched ticket)) x es may at queue =
      let w : Work T = record { place = c; ticket = ticket; task = task; awaits = Start } in
      elim (cases_eq i.id id) [
        | inl e ↦
            rw (eq-eqb i.id id e)
            (launch_queue x.works w refl queue, λ runs. launch_comes x.works w (tickets_of id es) (resumes_of id es) refl runs)
        | inr ne ↦ rw (ne_eqb i.id id ne) (queue, λ runs. runs)
      ]
  comes_on kind id s (Resume i ticket event next) x es may at queue =
      elim (cases_eq i id) [
        | inl e ↦
            let first = has_it s i id _ x e may at in
            rw (eq-eqb i id e) (
              resume_queue x.works next queue,
              λ runs. resume_comes s.setup x.works ticket event next (tickets_of id es) (resumes_of id es) queue (weaker_first x.works _ _ (λ w h. (h.0, h.1)) first) runs,
            )
        | inr ne ↦ rw (ne_eqb i id ne) (queue, λ runs. runs)
      ]
  comes_on kind id s (By c k (Apply i op) (Replied r)) x es may at queue =
      elim (i.id == id) as
      (λ t. let p : V × List (Work T) = cond t (value_run kind x.value op r, x.works) (x.value, x.works) in
      IsQueue p.1 × (Comes p.1 (tickets_of id es) (resumes_of id es) → Comes x.works (tickets_of id es) (resumes_of id es))) [
        | true ↦ (queue, λ runs. runs)
        | false ↦ (queue, λ runs. runs)
      ]
  comes_on kind id s _ x es may at queue = (queue, λ runs. runs)

  mutual
    from_live :
        (kind : Kind V O R T) (n id : ℕ) (s : State V O R T) (log : List (Entry V O R T)) (x : Object V T)
        → IsLegal kind s log → IsOrdered n s → object_of s.live id ≡ Some x → IsQueue x.works
        → Comes x.works (tickets_of id log) (resumes_of id log)
    from_live kind n id s [] x legal h at queue = none_comes O R x.works
    from_live kind n id s (e ∷ es) x legal h at queue =
        let (later, comes) = comes_on kind id s e x es legal.0 at queue in
        let ordered = after_ordered kind n s e legal.0 h in
        elim (after_goes kind n id s e x legal.0 h at) [
          | inl (gone, none) ↦
              comes (subst (λ ws. Comes ws (tickets_of id es) (resumes_of id es)) (sym none) (from_none kind n id (after kind s e) es legal.1 ordered gone))
          | inr (y, now, is) ↦
              let works : y.works ≡ (lives kind id x.value x.works e).1 = ap (λ p. p.1) is in
              comes (subst (λ ws. Comes ws (tickets_of id es) (resumes_of id es)) works
              (from_live kind n id (after kind s e) es y legal.1 ordered now (subst (λ ws. IsQueue ws) (sym works) later)))
        ]

    from_none :
        (kind : Kind V O R T) (n id : ℕ) (s : State V O R T) (log : List (Entry V O R T))
        → IsLegal kind s log → IsOrdered n s → object_of s.live id ≡ None → AreRuns (tickets_of id log) (resumes_of id log)
    from_none kind n id s [] legal h at = refl
    from_none kind n id s (e ∷ es) legal h at =
        let past = after_past kind id s e legal.0 at in
        let ordered = after_ordered kind n s e legal.0 h in
        let rest : AreRuns (tickets_of id es) (resumes_of id es) =
        elim (after_appears kind id s e legal.0 at) [
          | inl (none, same) ↦ from_none kind n id (after kind s e) es legal.1 ordered none
          | inr (x, now, works, next, first) ↦
              subst (λ ws. Comes ws (tickets_of id es) (resumes_of id es)) works
              (from_live kind n id (after kind s e) es x legal.1 ordered now (subst (λ ws. IsQueue ws) (sym works) tt))
        ] in
        rw (past.tickets es, past.resumes es) rest

  pub launches_are_latched : (kind : Kind V O R T) → LaunchesAreLatched kind
  launches_are_latched kind opening log is legal id =
      let n = place_count opening.setup in
      let ordered = opening_ordered opening is in
      elim (option_cases (object_of opening.live id)) [
        | inl at ↦ from_none kind n id opening log legal ordered at
        | inr (x, at) ↦
            let idle : x.works ≡ [] = opening_idle opening id x is at in
            subst (λ ws. Comes ws (tickets_of id log) (resumes_of id log)) idle
            (from_live kind n id opening log x legal ordered at (subst (λ ws. IsQueue ws) (sym idle) tt))
      ]
