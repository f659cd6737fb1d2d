-- Replies, resumes and values that are taken back are those of the history before them.
use Rattle.std.proofs.Common.{◌≡◌, ℕ, ◌≤◌, false, not, cond, List, [], ◌∷◌, map, refl, sym, ◌∙◌, ap, subst, arith, eq-eqb}
use Rattle.std.specs.Prelude.{◌==◌}
use Rattle.std.specs.Option.{IsSomeAnd}
use Rattle.std.specs.declared.option.Option.TheVariants.{None, Some}
use Rattle.tm_seq.specs.Kind.{Kind, IsRun}
use Rattle.tm_batch.specs.declared.message.Request.TheVariants.{Apply, Reclaim}
use Rattle.tm_batch.specs.declared.message.Answer.TheVariants.{Replied, Reclaimed}
use Rattle.tm_model.specs.declared.entry.Entry.{Entry}
use Rattle.tm_model.specs.declared.entry.Entry.TheVariants.{By, Resume}
use Rattle.tm_model.specs.State.{Work, Object, State, place_count, holds_of, total, object_of}
use Rattle.tm_model.specs.Serve.{value_run, after, state_after}
use Rattle.tm_model.specs.Legal.{HasFirst, IsLegal}
use Rattle.tm_model.specs.History.{Leaves}
use Rattle.tm_model.specs.Laws.{IsOpening, RepliesAreOfHistories, ResumesAreOfHistories, ReclaimsAreOfHistories}
use Rattle.tm_core.proofs.CallerLemmas.{found, item_within}
use Rattle.tm_core.proofs.Finding.{no_items, found_id, found_below, filter_found}
use Rattle.tm_core.proofs.Joins.{state-append, legal_logs_join}
use Rattle.tm_core.proofs.Ordered.{log_ordered, opening_ordered}
use Rattle.tm_core.proofs.Absent.{never_again}
use Rattle.tm_core.proofs.Histories.{histories_tell_values}

-- the first launch, where there is one
first_work : {T : Type 0} (ws : List (Work T)) (P : Work T → Type 0) → HasFirst ws P → (w : Work T) × (rest : List (Work T)) × (ws ≡ w ∷ rest) × P w
first_work [] P h = absurd h
first_work (w ∷ ws) P h = (w, ws, refl, h)

module _ {V O R T : Type 0} (kind : Kind V O R T) where
  -- an object that is live behind a log has the value and the tasks that its history leaves
  leaves_works :
      (opening : State V O R T) (log : List (Entry V O R T)) (id : ℕ) (x : Object V T) (ws : List (Work T)) → IsOpening opening
      → IsLegal kind opening log → object_of (state_after kind opening log).live id ≡ Some x → x.works ≡ ws
      → Leaves kind opening log id x.value (map (λ w. w.task) ws)
  leaves_works opening log id x ws is legal at same =
      let (v, first, tells) = histories_tell_values kind opening log id x is legal at in
      (v, first, ap (λ l. (x.value, map (λ w. w.task) l)) (sym same) ∙ tells)

  pub replies_are_of_histories : RepliesAreOfHistories kind
  replies_are_of_histories opening log es c k n op r is legal =
      let (before, later) = (legal_logs_join kind opening log (By c k (Apply n op) (Replied r) ∷ es)).0 legal in
      let s = state_after kind opening log in
      let (x, at, run) = found (object_of s.live n.id) (λ o. IsRun kind o.value op (value_run kind o.value op r) r) later.0.2.1 in
      (x.value, map (λ w. w.task) x.works, leaves_works opening log n.id x x.works is before at refl, run)

  pub resumes_are_of_histories : ResumesAreOfHistories kind
  resumes_are_of_histories opening log es id ticket event next is legal =
      let (before, later) = (legal_logs_join kind opening log (Resume id ticket event next ∷ es)).0 legal in
      let s = state_after kind opening log in
      let (x, at, first) = found (object_of s.live id) _ later.0 in
      let (w, rest, same, may) = first_work x.works _ first in
      (x.value, w.task, map (λ w. w.task) rest, leaves_works opening log id x (w ∷ rest) is before at same, may.2)

  pub reclaims_are_of_histories : ReclaimsAreOfHistories kind
  reclaims_are_of_histories opening log es c k n v is legal =
      let e : Entry V O R T = By c k (Reclaim n) (Reclaimed v) in
      let (before, later) = (legal_logs_join kind opening log (e ∷ es)).0 legal in
      let s = state_after kind opening log in
      let ordered = log_ordered kind (place_count opening.setup) opening log before (opening_ordered opening is) in
      let (x, at, one) = found (object_of s.live n.id) (λ o. 1 ≤ holds_of o c) later.0.2.0 in
      let all : (total x ≡ 1) × (v ≡ x.value) = subst (λ o. IsSomeAnd o (λ o. (total o ≡ 1) × (v ≡ o.value))) at later.0.2.1 in
      let within = item_within x.holds c in
      let whole = all.0 in
      let idle : x.works ≡ [] = no_items x.works (omega (arith, whole, one, within)) in
      let test : not (x.id == n.id) ≡ false = ap not (eq-eqb x.id n.id (found_id s.live n.id x at)) in
      let gone : object_of (after kind s e).live n.id ≡ None =
      filter_found (place_count opening.setup) 1 s.next_id n.id (λ o. not (o.id == n.id)) s.live x ordered.rises at ∙ ap (λ t. cond t (Some x) None) test in
      let below = found_below (place_count opening.setup) 1 s.next_id n.id s.live x ordered.rises at in (
        subst (λ u. Leaves kind opening log n.id u []) (sym all.1) (leaves_works opening log n.id x [] is before at idle),
        rw (state-append kind opening log (e ∷ es)) (never_again kind n.id (after kind s e) es later.1 gone below),
      )
