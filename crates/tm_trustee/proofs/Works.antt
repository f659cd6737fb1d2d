-- The launches of an id that have not ended, after an entry, and after entries none of which is a resume.
use Rattle.std.proofs.Common.{◌≡◌, ℕ, ◌≤◌, ◌⊎◌, true, false, cond, List, [], ◌∷◌, ◌++◌, inl, inr, refl, sym, ◌∙◌, ap, subst, arith, ne_eqb, append_assoc, append-nil}
use Rattle.std.specs.Prelude.{◌==◌}
use Rattle.std.specs.declared.option.Option.{Option}
use Rattle.std.specs.declared.option.Option.TheVariants.{None}
use Rattle.std.proofs.lemmas.Bool.{cases_eq}
use Rattle.tm_seq.specs.Kind.{Kind}
use Rattle.tm_seq.specs.declared.kind.Next.{Next}
use Rattle.tm_seq.specs.declared.kind.Next.TheVariants.{Done}
use Rattle.tm_batch.specs.declared.message.Request.{Request}
use Rattle.tm_batch.specs.declared.message.Request.TheVariants.{Entrust, Apply, Launch, Grant, Release, Reclaim, Bye}
use Rattle.tm_batch.specs.declared.message.Answer.{Answer}
use Rattle.tm_batch.specs.declared.message.Answer.TheVariants.{Entrusted, Replied, Launched, Granted, Released, Reclaimed, ByeDone}
use Rattle.tm_model.specs.declared.entry.Entry.{Entry}
use Rattle.tm_model.specs.declared.entry.Entry.TheVariants.{By, Resume, Sent}
use Rattle.tm_model.specs.State.{Start, Work, Object, State, object_of}
use Rattle.tm_model.specs.Serve.{value_run, value_advanced, works_resumed, works_in, completed, served, after, state_after}
use Rattle.tm_model.specs.Legal.{HasFirst, MayCome, IsLegal}
use Rattle.std.specs.List.{AllByRecursion}
use Rattle.tm_core.proofs.CallerLemmas.{option_cases, all_weaker, all-append}
use Rattle.tm_core.proofs.Living.{GoesOn, lives, after_goes}
use Rattle.tm_core.proofs.Absent.{after_appears}
use Rattle.tm_core.proofs.Ordered.{IsOrdered, after_ordered}
use Rattle.tm_trustee.specs.NestedAsks.{works_at}
use Rattle.tm_trustee.specs.Serving.{resumes_in}

module _ {T : Type 0} where
  -- a launch that was just accepted
  abbrev pub new_work : ℕ → ℕ → T → Work T
  new_work c ticket task = record { place = c; ticket = ticket; task = task; awaits = Start }

module _ {V T : Type 0} where
  goes_works : (p : V × List (Work T)) (new : Option (Object V T)) → GoesOn p new → works_in new ≡ p.1
  goes_works p new (inl (none, gone)) = ap works_in none ∙ sym gone
  goes_works p new (inr (x, is, same)) = ap works_in is ∙ ap (λ (q : V × List (Work T)). q.1) same

module _ {V O R T : Type 0} where
  -- what an entry leaves of the launches of an id
  abbrev pub works_lived : ℕ → List (Work T) → Entry V O R T → List (Work T)
  works_lived id ws (By c k (Launch n task) (Launched ticket)) = cond (n.id == id) (ws ++ new_work c ticket task ∷ []) ws
  works_lived id ws (Resume i ticket event next) = cond (i == id) (works_resumed ws next) ws
  works_lived id ws _ = ws

  lives_works : (kind : Kind V O R T) (id : ℕ) (v : V) (ws : List (Work T)) (e : Entry V O R T) → (lives kind id v ws e).1 ≡ works_lived id ws e
  lives_works kind id v ws (By c k (Apply n op) (Replied r)) =
      elim (n.id == id) as (λ t. let p : V × List (Work T) = cond t (value_run kind v op r, ws) (v, ws) in p.1 ≡ ws) [ true ↦ refl | false ↦ refl ]
  lives_works kind id v ws (By c k (Launch n task) (Launched ticket)) =
      elim (n.id == id) as
      (λ t. let p : V × List (Work T) = cond t (v, ws ++ new_work c ticket task ∷ []) (v, ws) in p.1 ≡ cond t (ws ++ new_work c ticket task ∷ []) ws) [
        | true ↦ refl
        | false ↦ refl
      ]
  lives_works kind id v ws (Resume i ticket event next) =
      elim (i == id) as
      (λ t. let p : V × List (Work T) = cond t (value_advanced kind v ws event next, works_resumed ws next) (v, ws) in p.1 ≡ cond t (works_resumed ws next) ws) [
        | true ↦ refl
        | false ↦ refl
      ]
  lives_works kind id v ws _ = refl

  -- an entry that may come changes no launch of an id that is not live
  idle_lived : (kind : Kind V O R T) (id : ℕ) (s : State V O R T) (e : Entry V O R T) → MayCome kind s e → object_of s.live id ≡ None → works_lived id [] e ≡ []
  idle_lived kind id s (By c k (Launch n task) (Launched ticket)) may at =
      elim (cases_eq n.id id) [
        | inl e ↦ let gone = rw (e, at) at may.2.0 in absurd gone
        | inr ne ↦ rw (ne_eqb n.id id ne) refl
      ]
  idle_lived kind id s (Resume i ticket event next) may at = elim (i == id) as (λ t. cond t (works_resumed [] next) [] ≡ []) [ true ↦ refl | false ↦ refl ]
  idle_lived kind id s _ may at = refl

  module _ (kind : Kind V O R T) (n : ℕ) where
    pub works_after :
        (s : State V O R T) (e : Entry V O R T) (id : ℕ) → MayCome kind s e → IsOrdered n s → works_at (after kind s e) id ≡ works_lived id (works_at s id) e
    works_after s e id may ordered =
        elim (option_cases (object_of s.live id)) [
          | inl none ↦
              let nothing : works_at s id ≡ [] = ap works_in none in
              elim (after_appears kind id s e may none) [
                | inl (still, same) ↦ ap works_in still ∙ sym (idle_lived kind id s e may none) ∙ ap (λ ws. works_lived id ws e) (sym nothing)
                | inr (x, now, idle, is, same) ↦
                    ap works_in now ∙ idle ∙ sym (idle_lived kind id s e may none) ∙ ap (λ ws. works_lived id ws e) (sym nothing)
              ]
          | inr (o, at) ↦
              goes_works (lives kind id o.value o.works e) (object_of (after kind s e).live id) (after_goes kind n id s e o may ordered at)
              ∙ lives_works kind id o.value o.works e ∙ ap (λ (x : Option (Object V T)). works_lived id (works_in x) e) (sym at)
        ]

  -- the next ticket does not fall
  served_tickets : (kind : Kind V O R T) (c : ℕ) (q : Request V O R T) (a : Answer V O R T) (s : State V O R T) → s.next_ticket ≤ (served kind c q a s).next_ticket
  served_tickets kind c (Launch i task) (Launched ticket) s = omega arith
  served_tickets kind c (Entrust v) (Entrusted name) s = omega arith
  served_tickets kind c (Apply i op) (Replied r) s = omega arith
  served_tickets kind c (Grant i d) Granted s = omega arith
  served_tickets kind c (Release i) Released s = omega arith
  served_tickets kind c (Reclaim i) (Reclaimed v) s = omega arith
  served_tickets kind c Bye ByeDone s = omega arith
  served_tickets kind c _ _ s = omega arith

  completed_tickets : (ws : List (Work T)) (ticket : ℕ) (next : Next O T R) (s : State V O R T) → (completed ws ticket next s).next_ticket ≡ s.next_ticket
  completed_tickets (w ∷ ws) ticket (Done r) s = refl
  completed_tickets _ ticket _ s = refl

  pub after_tickets : (kind : Kind V O R T) (s : State V O R T) (e : Entry V O R T) → s.next_ticket ≤ (after kind s e).next_ticket
  after_tickets kind s (By c k q a) = served_tickets kind c q a s
  after_tickets kind s (Resume i ticket event next) = rw (completed_tickets (works_in (object_of s.live i)) ticket next _) (omega arith)
  after_tickets kind s (Sent c room) = omega arith

  pub log_tickets : (kind : Kind V O R T) (s : State V O R T) (es : List (Entry V O R T)) → s.next_ticket ≤ (state_after kind s es).next_ticket
  log_tickets kind s [] = omega arith
  log_tickets kind s (e ∷ es) =
      let here = after_tickets kind s e in let more = log_tickets kind (after kind s e) es in omega (arith, here, more)

module _ {T : Type 0} where
  -- some launches are as they were, and behind them more that are new
  abbrev pub Grew : ℕ → List (Work T) → List (Work T) → Type 0
  Grew next olds news = (more : List (Work T)) × (news ≡ olds ++ more) × AllByRecursion (λ w. (w.awaits ≡ Start) × (next ≤ w.ticket)) more

  grew_same : (next : ℕ) (ws : List (Work T)) → Grew next ws ws
  grew_same next ws = ([], sym (append-nil ws), tt)

  grew_on : (a b : ℕ) (olds mids news : List (Work T)) → a ≤ b → Grew a olds mids → Grew b mids news → Grew a olds news
  grew_on a b olds mids news le (more, is, new) (again, then, newer) = (
    more ++ again,
    then ∙ ap (λ l. l ++ again) is ∙ append_assoc olds more again,
    all-append _ more again new (all_weaker _ _ again (λ w h. (h.0, (let lt = h.1 in omega (arith, le, lt)))) newer),
  )

module _ {V O R T : Type 0} where
  grew_by :
      (kind : Kind V O R T) (s : State V O R T) (c k id : ℕ) (q : Request V O R T) (a : Answer V O R T) (ws : List (Work T)) → MayCome kind s (By c k q a)
      → Grew s.next_ticket ws (works_lived id ws (By c k q a))
  grew_by kind s c k id (Launch n task) (Launched ticket) ws may =
      elim (n.id == id) as (λ t. Grew s.next_ticket ws (cond t (ws ++ new_work c ticket task ∷ []) ws)) [
        | true ↦ (new_work c ticket task ∷ [], refl, ((refl, (let is = may.2.1.0 in omega (arith, is))), tt))
        | false ↦ grew_same s.next_ticket ws
      ]
  grew_by kind s c k id _ _ ws may = grew_same s.next_ticket ws

  module _ (kind : Kind V O R T) (n : ℕ) where
    -- entries without resumes leave the launches of each id, and more behind them
    pub quiet_grow :
        (s : State V O R T) (es : List (Entry V O R T)) (id : ℕ) → resumes_in es ≡ 0 → IsLegal kind s es → IsOrdered n s
        → Grew s.next_ticket (works_at s id) (works_at (state_after kind s es) id)
    quiet_grow s [] id none legal ordered = grew_same s.next_ticket (works_at s id)
    quiet_grow s (Resume i t event next ∷ es) id none legal ordered = absurd (omega (arith, none))
    quiet_grow s (By c k q a ∷ es) id none legal ordered =
        let e : Entry V O R T = By c k q a in
        grew_on s.next_ticket (after kind s e).next_ticket (works_at s id) (works_at (after kind s e) id) (works_at (state_after kind (after kind s e) es) id)
        (after_tickets kind s e)
        (subst (λ l. Grew s.next_ticket (works_at s id) l) (sym (works_after kind n s e id legal.0 ordered)) (grew_by kind s c k id q a (works_at s id) legal.0))
        (quiet_grow (after kind s e) es id none legal.1 (after_ordered kind n s e legal.0 ordered))
    quiet_grow s (Sent c room ∷ es) id none legal ordered = quiet_grow (after kind s (Sent c room)) es id none legal.1 (after_ordered kind n s (Sent c room) legal.0 ordered)

module _ {T : Type 0} where
  -- what holds of the first of some launches holds when more came behind them
  pub first_grew : (next : ℕ) (olds news : List (Work T)) (P : Work T → Type 0) → Grew next olds news → HasFirst olds P → HasFirst news P
  first_grew next [] news P grew h = absurd h
  first_grew next (w ∷ ws) news P (more, is, new) h = subst (λ l. HasFirst l P) (sym is) h

  -- the first of some launches was there, or is new
  pub grew_first :
      (next : ℕ) (olds news : List (Work T)) (w : Work T) (ws : List (Work T)) → Grew next olds news → news ≡ w ∷ ws
      → ((rest : List (Work T)) × (olds ≡ w ∷ rest)) ⊎ ((w.awaits ≡ Start) × (next ≤ w.ticket))
  grew_first next [] news w ws ([], is, new) e = absurd (let bad : w ∷ ws ≡ [] = sym e ∙ is in cc)
  grew_first next [] news w ws (v ∷ more, is, new) e =
      let same : v ∷ more ≡ w ∷ ws = sym is ∙ e in
      let here : v ≡ w = cc in
      inr (subst (λ x. (x.awaits ≡ Start) × (next ≤ x.ticket)) here new.0)
  grew_first next (v ∷ olds) news w ws (more, is, new) e =
      let same : v ∷ (olds ++ more) ≡ w ∷ ws = sym is ∙ e in
      let here : v ≡ w = cc in
      inl (olds, ap (λ x. x ∷ olds) here)

  -- those behind the first have not begun, if none had
  pub grew_behind :
      (next : ℕ) (olds news : List (Work T)) (w : Work T) (ws : List (Work T)) → Grew next olds news → news ≡ w ∷ ws
      → ((v : Work T) (rest : List (Work T)) → olds ≡ v ∷ rest → AllByRecursion (λ x. x.awaits ≡ Start) rest) → AllByRecursion (λ x. x.awaits ≡ Start) ws
  grew_behind next [] news w ws ([], is, new) e behind = absurd (let bad : w ∷ ws ≡ [] = sym e ∙ is in cc)
  grew_behind next [] news w ws (v ∷ more, is, new) e behind =
      let same : v ∷ more ≡ w ∷ ws = sym is ∙ e in
      let here : more ≡ ws = cc in
      subst (λ l. AllByRecursion (λ x. x.awaits ≡ Start) l) here (all_weaker _ _ more (λ x h. h.0) new.1)
  grew_behind next (v ∷ olds) news w ws (more, is, new) e behind =
      let same : v ∷ (olds ++ more) ≡ w ∷ ws = sym is ∙ e in
      let here : olds ++ more ≡ ws = cc in
      subst (λ l. AllByRecursion (λ x. x.awaits ≡ Start) l) here (all-append _ olds more (behind v olds refl) (all_weaker _ _ more (λ x h. h.0) new))
