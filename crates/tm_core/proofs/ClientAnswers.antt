-- By a log that is cut for a place, an answer came to each request that was run of it, and fits it.
use Rattle.std.proofs.Common.{◌≡◌, ℕ, true, false, cond, List, [], ◌∷◌, ◌++◌, length, refl, sym, ◌∙◌, ap, subst, arith, eq-eqb, append-nil}
use Rattle.std.specs.Prelude.{◌==◌}
use Rattle.std.specs.List.{AllZip}
use Rattle.tm_seq.specs.Kind.{Kind}
use Rattle.tm_batch.specs.declared.message.Request.{Request}
use Rattle.tm_batch.specs.declared.message.Request.TheVariants.{Entrust, Apply, Launch, Grant, Release, Reclaim, Bye}
use Rattle.tm_batch.specs.declared.message.Refusal.TheVariants.{ObjectsFull, SerialsSpent}
use Rattle.tm_batch.specs.declared.message.Answer.{Answer}
use Rattle.tm_batch.specs.declared.message.Answer.TheVariants.{Entrusted, NotEntrusted, Replied, Launched, TicketsSpent, Granted, Gone, GiftsFull, Released, Reclaimed, Shared, ByeDone}
use Rattle.tm_model.specs.declared.entry.Entry.{Entry}
use Rattle.tm_model.specs.declared.entry.Entry.TheVariants.{By, Resume, Sent}
use Rattle.tm_model.specs.State.{State}
use Rattle.tm_model.specs.Serve.{after}
use Rattle.tm_model.specs.Legal.{Serves, IsLegal}
use Rattle.tm_model.specs.GoodSlots.{Mark, Left, left_by, IsSettled, IsCutAt}
use Rattle.tm_model.specs.Ran.{mark_of, ran, answered}
use Rattle.tm_model.specs.Batches.{batches}
use Rattle.tm_model.specs.Holds.{answers_in}
use Rattle.tm_model.specs.Fits.{Fits}
use Rattle.tm_model.specs.ClientLaws.{AnswersAreAsMany, AnswersFit}
use Rattle.tm_core.proofs.AllAnswers.{batches_have_all_answers}
use Rattle.tm_core.proofs.Marks.{left-append}

module _ {Q E : Type 0} (mark : E → Mark Q) where
  -- behind each entry of a log that ends with the leaving of a batch of place c, a batch of c left
  pub settled_by_last : (c room : ℕ) (front : List E) (e : E) → mark e ≡ Left c room → IsSettled mark c (front ++ e ∷ [])
  settled_by_last c room [] e at = (rw at (λ h. absurd h), tt)
  settled_by_last c room (x ∷ front) e at =
      let last : left_by mark c (e ∷ []) ≡ 1 = rw (at, eq-eqb c c refl) refl in
      let all = left-append mark c front (e ∷ []) in
      (λ h. omega (arith, last, all), settled_by_last c room front e at)

  -- a log that is cut at a place is settled for it
  pub cut_settled :
      {G : Type 0} (out : ℕ → List E → List G) (legal : List E → Type 0) (c : ℕ) (got : List G) (log : List E)
      → IsCutAt mark out legal c got log → IsSettled mark c log
  cut_settled out legal c [] log cut = rw cut tt
  cut_settled out legal c (g ∷ got) log (front, e, room, is, at) = rw is (settled_by_last c room front e at)

module _ {V O R T : Type 0} (kind : Kind V O R T) where
  pub answers_are_as_many : AnswersAreAsMany kind
  answers_are_as_many opening log c got cut =
      let settled = cut_settled mark_of (batches kind opening) (IsLegal kind opening) c got log cut in
      let (all, many, none) = batches_have_all_answers kind opening log c in
      let same : answers_in (batches kind opening c log) ≡ answered c log =
      sym (append-nil _) ∙ ap (λ l. answers_in (batches kind opening c log) ++ l) (sym (none settled)) ∙ all in
      (settled, same, ap length same ∙ many)

  -- an answer that may come to a request fits it
  served_fits : (s : State V O R T) (c : ℕ) (q : Request V O R T) (a : Answer V O R T) → Serves kind s c q a → Fits q a
  served_fits s c (Entrust v) (Entrusted name) may = tt
  served_fits s c (Entrust v) (NotEntrusted ObjectsFull back) may = may.0
  served_fits s c (Entrust v) (NotEntrusted SerialsSpent back) may = may.0
  served_fits s c (Entrust v) _ may = absurd may
  served_fits s c (Apply n op) (Replied r) may = tt
  served_fits s c (Apply n op) _ may = absurd may.1
  served_fits s c (Launch n task) (Launched ticket) may = tt
  served_fits s c (Launch n task) (TicketsSpent back) may = may.1.0
  served_fits s c (Launch n task) _ may = absurd may.1
  served_fits s c (Grant n d) Granted may = tt
  served_fits s c (Grant n d) Gone may = tt
  served_fits s c (Grant n d) GiftsFull may = tt
  served_fits s c (Grant n d) _ may = absurd may.2
  served_fits s c (Release n) Released may = tt
  served_fits s c (Release n) _ may = let other = may.1 in absurd (cc)
  served_fits s c (Reclaim n) (Reclaimed v) may = tt
  served_fits s c (Reclaim n) Shared may = tt
  served_fits s c (Reclaim n) _ may = absurd may.1
  served_fits s c Bye ByeDone may = tt
  served_fits s c Bye _ may = absurd (cc)

  -- the answers that a log has fit the requests that it ran
  log_fits : (s : State V O R T) (c : ℕ) (log : List (Entry V O R T)) → IsLegal kind s log → AllZip Fits (ran c log) (answered c log)
  log_fits s c [] legal = tt
  log_fits s c (By d k q a ∷ es) legal =
      let more = log_fits (after kind s (By d k q a)) c es legal.1 in
      let first = served_fits s d q a legal.0.2 in
      elim (d == c) as (λ t. AllZip Fits (cond t (q ∷ ran c es) (ran c es)) (cond t (a ∷ answered c es) (answered c es))) [
        | true ↦ (first, more)
        | false ↦ more
      ]
  log_fits s c (Resume id ticket event next ∷ es) legal = log_fits (after kind s (Resume id ticket event next)) c es legal.1
  log_fits s c (Sent d room ∷ es) legal = log_fits (after kind s (Sent d room)) c es legal.1

  pub answers_fit : AnswersFit kind
  answers_fit opening log c got legal cut =
      subst (λ l. AllZip Fits (ran c log) l) (sym (answers_are_as_many opening log c got cut).1) (log_fits opening c log legal)
