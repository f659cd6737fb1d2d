-- A longer log adds to what ran, was answered and left; ids and tickets are given out in order, each once.
use Rattle.std.proofs.Common.{◌≡◌, ℕ, ◌+◌, ◌⊎◌, Bool, true, false, cond, List, [], ◌∷◌, ◌++◌, length, inl, inr, refl, sym, ◌∙◌, ap, arith, add-zero}
use Rattle.std.specs.Prelude.{◌==◌}
use Rattle.std.specs.List.{range_with_len}
use Rattle.tm_seq.specs.Kind.{Kind}
use Rattle.tm_seq.specs.declared.kind.Next.{Next}
use Rattle.tm_seq.specs.declared.kind.Next.TheVariants.{Done}
use Rattle.tm_batch.specs.declared.message.Request.{Request}
use Rattle.tm_batch.specs.declared.message.Request.TheVariants.{Entrust, Apply, Launch, Grant, Release, Reclaim, Bye}
use Rattle.tm_batch.specs.declared.message.Answer.{Answer}
use Rattle.tm_batch.specs.declared.message.Answer.TheVariants.{Entrusted, Replied, Launched, Granted, Released, Reclaimed, ByeDone}
use Rattle.tm_model.specs.declared.entry.Entry.{Entry}
use Rattle.tm_model.specs.declared.entry.Entry.TheVariants.{By, Resume, Sent}
use Rattle.tm_model.specs.State.{Work, State, object_of}
use Rattle.tm_model.specs.Serve.{served, completed, works_in, after, state_after}
use Rattle.tm_model.specs.Legal.{Serves, MayCome, IsLegal}
use Rattle.tm_model.specs.Ran.{mark_of, ran, answered}
use Rattle.tm_model.specs.Given.{ids_given, tickets_given}
use Rattle.tm_model.specs.Laws.{LongerLogsAdd, IdsNeverReturn}
use Rattle.tm_core.proofs.Joins.{batches-append, state-append, legal_logs_join}
use Rattle.tm_core.proofs.Marks.{ran-append}
use Rattle.tm_core.proofs.Absent.{never_again}

range_on : (l xs : List ℕ) (a b : ℕ) → l ≡ a ∷ xs → b ≡ a + 1 → xs ≡ range_with_len b (length xs) → l ≡ range_with_len a (length l)
range_on l xs a b e next h = rw e (ap (λ m. a ∷ m) (h ∙ ap (λ n. range_with_len n (length xs)) next))

module _ {V O R T : Type 0} where
  cond_append : (t : Bool) (a : Answer V O R T) (xs ys : List (Answer V O R T)) → cond t (a ∷ (xs ++ ys)) (xs ++ ys) ≡ cond t (a ∷ xs) xs ++ ys
  cond_append true a xs ys = refl
  cond_append false a xs ys = refl

  pub answered-append : (c : ℕ) (xs ys : List (Entry V O R T)) → answered c (xs ++ ys) ≡ answered c xs ++ answered c ys
  answered-append c [] ys = refl
  answered-append c (By d k q a ∷ xs) ys =
      ap (λ l. cond (d == c) (a ∷ l) l) (answered-append c xs ys) ∙ cond_append (d == c) a (answered c xs) (answered c ys)
  answered-append c (Resume id ticket event next ∷ xs) ys = answered-append c xs ys
  answered-append c (Sent d room ∷ xs) ys = answered-append c xs ys

  pub longer_logs_add : (kind : Kind V O R T) → LongerLogsAdd kind
  longer_logs_add kind opening log es c = (
    (ran c es, ran-append mark_of c log es),
    (answered c es, answered-append c log es),
    (_, batches-append kind c 0 [] opening log es),
  )

  -- numbers that are given out: none by an entry, or the next one
  abbrev pub Gives : (State V O R T → ℕ) → (List (Entry V O R T) → List ℕ) → State V O R T → Entry V O R T → State V O R T → Type 0
  Gives next given s e new =
      ((next new ≡ next s) × ((es : List (Entry V O R T)) → given (e ∷ es) ≡ given es))
      ⊎ ((next new ≡ next s + 1) × ((es : List (Entry V O R T)) → given (e ∷ es) ≡ next s ∷ given es))

  gives_ids :
      (kind : Kind V O R T) (c k : ℕ) (q : Request V O R T) (a : Answer V O R T) (s : State V O R T) → Serves kind s c q a
      → Gives (λ s. s.next_id) ids_given s (By c k q a) (served kind c q a s)
  gives_ids kind c k (Entrust v) (Entrusted name) s may = inr (refl, λ es. ap (λ i. i ∷ ids_given es) may.0)
  gives_ids kind c k (Apply i op) (Replied r) s may = inl (refl, λ es. refl)
  gives_ids kind c k (Launch i task) (Launched ticket) s may = inl (refl, λ es. refl)
  gives_ids kind c k (Grant i d) Granted s may = inl (refl, λ es. refl)
  gives_ids kind c k (Release i) Released s may = inl (refl, λ es. refl)
  gives_ids kind c k (Reclaim i) (Reclaimed v) s may = inl (refl, λ es. refl)
  gives_ids kind c k Bye ByeDone s may = inl (refl, λ es. refl)
  gives_ids kind c k _ _ s may = inl (refl, λ es. refl)

  gives_tickets :
      (kind : Kind V O R T) (c k : ℕ) (q : Request V O R T) (a : Answer V O R T) (s : State V O R T) → Serves kind s c q a
      → Gives (λ s. s.next_ticket) tickets_given s (By c k q a) (served kind c q a s)
  gives_tickets kind c k (Entrust v) (Entrusted name) s may = inl (refl, λ es. refl)
  gives_tickets kind c k (Apply i op) (Replied r) s may = inl (refl, λ es. refl)
  gives_tickets kind c k (Launch i task) (Launched ticket) s may = inr (refl, λ es. ap (λ t. t ∷ tickets_given es) may.1.0)
  gives_tickets kind c k (Grant i d) Granted s may = inl (refl, λ es. refl)
  gives_tickets kind c k (Release i) Released s may = inl (refl, λ es. refl)
  gives_tickets kind c k (Reclaim i) (Reclaimed v) s may = inl (refl, λ es. refl)
  gives_tickets kind c k Bye ByeDone s may = inl (refl, λ es. refl)
  gives_tickets kind c k _ _ s may = inl (refl, λ es. refl)

  completed_gives :
      (ws : List (Work T)) (ticket : ℕ) (next : Next O T R) (s : State V O R T)
      → ((completed ws ticket next s).next_id ≡ s.next_id) × ((completed ws ticket next s).next_ticket ≡ s.next_ticket)
  completed_gives (w ∷ ws) ticket (Done r) s = (refl, refl)
  completed_gives _ ticket _ s = (refl, refl)

  after_gives_ids :
      (kind : Kind V O R T) (s : State V O R T) (e : Entry V O R T) → MayCome kind s e → Gives (λ s. s.next_id) ids_given s e (after kind s e)
  after_gives_ids kind s (By c k q a) may = gives_ids kind c k q a s may.2
  after_gives_ids kind s (Resume i ticket event next) may = inl ((completed_gives (works_in (object_of s.live i)) ticket next _).0, λ es. refl)
  after_gives_ids kind s (Sent c room) may = inl (refl, λ es. refl)

  pub after_gives_tickets :
      (kind : Kind V O R T) (s : State V O R T) (e : Entry V O R T) → MayCome kind s e → Gives (λ s. s.next_ticket) tickets_given s e (after kind s e)
  after_gives_tickets kind s (By c k q a) may = gives_tickets kind c k q a s may.2
  after_gives_tickets kind s (Resume i ticket event next) may = inl ((completed_gives (works_in (object_of s.live i)) ticket next _).1, λ es. refl)
  after_gives_tickets kind s (Sent c room) may = inl (refl, λ es. refl)

  module _
      (kind : Kind V O R T) (next : State V O R T → ℕ) (given : List (Entry V O R T) → List ℕ) (none : given [] ≡ [])
      (step : (s : State V O R T) (e : Entry V O R T) → MayCome kind s e → Gives next given s e (after kind s e)) where
    -- what a log gives out goes on from what is next
    numbered :
        (s : State V O R T) (log : List (Entry V O R T)) → IsLegal kind s log
        → (given log ≡ range_with_len (next s) (length (given log))) × (next (state_after kind s log) ≡ next s + length (given log))
    numbered s [] legal = (rw none refl, rw none (sym (add-zero (next s))))
    numbered s (e ∷ es) legal =
        let (more, last) = numbered (after kind s e) es legal.1 in
        elim (step s e legal.0) [
          | inl (same, past) ↦ (
            rw (past es) (more ∙ ap (λ n. range_with_len n (length (given es))) same),
            rw (past es) (last ∙ ap (λ n. n + length (given es)) same),
          )
          | inr (one, here) ↦ (
            range_on (given (e ∷ es)) (given es) (next s) (next (after kind s e)) (here es) one more,
            let longer = ap length (here es) in omega (arith, last, one, longer),
          )
        ]

  pub ids_never_return : (kind : Kind V O R T) → IdsNeverReturn kind
  ids_never_return kind opening log es is legal =
      let (here, later) = (legal_logs_join kind opening log es).0 legal in
      let (number, config, first, can, below, built) = is in
      let start : opening.next_ticket ≡ 1 = ap (λ (s : State V O R T). s.next_ticket) built in
      let ids = numbered kind (λ s. s.next_id) ids_given refl (after_gives_ids kind) opening log here in
      let tickets = numbered kind (λ s. s.next_ticket) tickets_given refl (after_gives_tickets kind) opening log here in (
        ids.0,
        ids.1,
        tickets.0 ∙ ap (λ n. range_with_len n (length (tickets_given log))) start,
        tickets.1 ∙ ap (λ n. n + length (tickets_given log)) start,
        λ id lt at. rw (state-append kind opening log es) (never_again kind id (state_after kind opening log) es later at lt),
      )
