-- One request behind a log: what is asked of its row, and what the log represents then.
use Rattle.std.proofs.Common.{◌≡◌, ℕ, ◌+◌, ◌-◌, ◌^◌, ◌<◌, min, List, [], ◌∷◌, ◌++◌, length, sym, ap, subst, arith, length-append}
use Rattle.tm_seq.specs.Kind.{Kind}
use Rattle.tm_batch.specs.declared.message.Request.{Request}
use Rattle.tm_batch.specs.declared.message.Answer.{Answer}
use Rattle.tm_model.specs.declared.entry.Entry.{Entry}
use Rattle.tm_model.specs.declared.entry.Entry.TheVariants.{By, Resume, Sent}
use Rattle.tm_model.specs.State.{State, place_count}
use Rattle.tm_model.specs.Serve.{served, counted, state_after}
use Rattle.tm_model.specs.Ran.{ran}
use Rattle.tm_core.proofs.Joins.{legal_logs_join, state-append}
use Rattle.tm_core.proofs.Numbering.{requests_are_numbered}
use Rattle.tm_core.proofs.Sound.{states_are_sound}
use Rattle.tm_state.specs.StateView.{StateView}
use Rattle.tm_state.specs.Represents.{Keeps, requests_in}
use Rattle.tm_state.specs.Asking.{IsAsked, IsServable, IsRunnable, HasServed, MayRun, HasRun}
use Rattle.tm_state.proofs.BatchKeeps.{keeps_counted}

module _ {V O R T : Type 0} where
  pub requests_in-append : (xs ys : List (Entry V O R T)) → requests_in (xs ++ ys) ≡ requests_in xs + requests_in ys
  requests_in-append [] ys = omega arith
  requests_in-append (By c k q a ∷ xs) ys = let more = requests_in-append xs ys in omega (arith, more)
  requests_in-append (Resume id ticket event next ∷ xs) ys = requests_in-append xs ys
  requests_in-append (Sent c room ∷ xs) ys = requests_in-append xs ys

  module _ (kind : Kind V O R T) where
    asked :
        (opening : State V O R T) (log : List (Entry V O R T)) (c : ℕ) (q : Request V O R T) (h : StateView V O R T) → MayRun kind opening log c q h
        → IsAsked opening (state_after kind opening log) c q h
    asked opening log c q h may = record {
      opens = may.represents.opens;
      sound = states_are_sound kind opening log may.represents.opens may.represents.is_legal;
      keeps = may.represents.keeps;
      may = may.may;
    }

    pub servable : (c : ℕ) (q : Request V O R T) (h : StateView V O R T) → IsRunnable kind c q h → IsServable kind c q h
    servable c q h (opening, log, may) = (opening, state_after kind opening log, asked opening log c q h may)

    -- a log that represents what a trustee has represents it with one entry more
    pub has_run :
        (c : ℕ) (q : Request V O R T) (a : Answer V O R T) (old mid was : StateView V O R T) (run entries : ℕ) → was ≡ mid
        → run ≡ min (was.run + 1) (2 ^ 64 - 1) → entries ≡ min (was.entries + 1) (2 ^ 64 - 1)
        → HasServed kind c q a old mid → mid.run ≡ old.run → mid.entries ≡ old.entries
        → HasRun kind c q a old (record was { run = run; entries = entries })
    has_run c q a old mid was run entries same more longer serves same_run same_entries opening log may =
        let s = state_after kind opening log in
        let e = By c (length (ran c log)) q a in
        let sound = states_are_sound kind opening log may.represents.opens may.represents.is_legal in
        let within : c < place_count opening.setup = subst (λ z. c < place_count z) sound.setup may.may.in_range in
        let numbered = requests_are_numbered kind opening log c may.represents.opens may.represents.is_legal within in
        let (legal, keeps) = serves opening s (asked opening log c q old may) in
        let keeps_was : Keeps (served kind c q a s) was = subst (λ h. Keeps (served kind c q a s) h) (sym same) keeps in
        let lands : state_after kind opening (log ++ e ∷ []) ≡ counted c (served kind c q a s) = state-append kind opening log (e ∷ []) in
        let one : requests_in (log ++ e ∷ []) ≡ requests_in log + 1 = requests_in-append log (e ∷ []) in
        let joined : length (log ++ e ∷ []) ≡ length log + 1 = length-append log (e ∷ []) in
        let ran_was = ap (λ (h : StateView V O R T). h.run) same in
        let entries_was = ap (λ (h : StateView V O R T). h.entries) same in
        let was_run = may.represents.run in
        let was_entries = may.represents.entries in
        record {
          opens = may.represents.opens;
          is_legal = (legal_logs_join kind opening log (e ∷ [])).1 may.represents.is_legal ((may.may.in_range, sym numbered.1, legal), tt);
          keeps = subst (λ t. Keeps t (record was { run = run; entries = entries })) (sym lands) (keeps_counted c (served kind c q a s) was run entries keeps_was);
          run = omega (arith, more, one, ran_was, was_run, same_run);
          entries = omega (arith, longer, joined, entries_was, was_entries, same_entries);
        }
