-- What an exchange at a side above does: answers came, nothing came, or asks were sent.
use Rattle.std.proofs.Common.{◌≡◌, ◌+◌, ◌≤◌, Bool, true, false, [], ◌∷◌, ◌++◌, length, inl, inr, refl, sym, ◌∙◌, ap, subst, arith, length-append}
use Rattle.std.specs.Prelude.{IsSome}
use Rattle.std.specs.List.{AllByRecursion}
use Rattle.std.specs.declared.option.Option.TheVariants.{None, Some}
use Rattle.tm_batch.specs.declared.limits.TheConstants.{MOST_REQUESTS}
use Rattle.tm_batch.specs.declared.message.AnswerBatch.{AnswerBatch}
use Rattle.tm_model.specs.Holds.{has_bye}
use Rattle.tm_model.specs.Orderly.{IsOfTrustee}
use Rattle.tm_pair.specs.Views.{ClientView}
use Rattle.tm_pair.specs.Calls.{IsPending, Gets, IsIdle}
use Rattle.tm_seq.specs.Kind.{Kind}
use Rattle.tm_model.specs.Ran.{ran}
use Rattle.tm_model.specs.State.{State}
use Rattle.tm_pair.specs.Sides.{HasRun, IsGoodClient}
use Rattle.tm_pair.specs.Theory.{Theory, KeepsSides}
use Rattle.tm_trustee.specs.Above.{one_if, moves_up, IsAt, Counts}
use Rattle.tm_trustee.specs.AboveAt.{MovesUp}
use Rattle.tm_trustee.specs.Lanes.{after_answers_lem}
use Rattle.tm_trustee.specs.Steps.{AppliesHeld, MaySendAsks, SendsWaits, TakesAnswers, FindsNothing, ExchangesLane}
use Rattle.tm_trustee.specs.declared.lane.Lane.{Lane}
use Rattle.tm_trustee.specs.declared.stage.Stage.{Stage}
use Rattle.tm_trustee.specs.declared.stage.Stage.TheVariants.{Before, Out, Over}
use Rattle.tm_trustee.proofs.AboveAsks.{held_of_trustee, no_bye_held}
use Rattle.tm_trustee.proofs.AboveBye.{asked_more}
use Rattle.tm_trustee.proofs.LaneKeeps.{no_bye_more, all_take}

module _ {V O R T : Type 0} where
  at_taken : (stage : Stage) (old new : ClientView V O R T) → has_bye new.sent ≡ has_bye old.sent → new.out ≡ None → IsAt stage old → IsAt (after_answers_lem stage) new
  at_taken Before old new same none at = same ∙ at
  at_taken Out old new same none at = (same ∙ at.0, none)
  at_taken Over old new same none at = (same ∙ at.0, none)

  at_pending : (stage : Stage) (old new : ClientView V O R T) → IsPending old new → IsAt stage old → IsAt stage new
  at_pending Before old new pending at = ap has_bye pending.sent ∙ at
  at_pending Out old new pending at =
      let (b, out, out_new) = pending.out in (ap has_bye pending.sent ∙ at.0, subst (λ o. IsSome o) (sym out_new) refl)
  at_pending Over old new pending at =
      let (b, out, out_new) = pending.out in
      let bad : None ≡ Some b = sym at.1 ∙ out in absurd cc

  at_sent : (stage : Stage) (old new : ClientView V O R T) → has_bye old.sent ≡ false → has_bye new.sent ≡ false → IsAt stage old → IsAt stage new
  at_sent Before old new unsaid still at = still
  at_sent Out old new unsaid still at = let bad : true ≡ false = sym at.0 ∙ unsaid in absurd cc
  at_sent Over old new unsaid still at = let bad : true ≡ false = sym at.0 ∙ unsaid in absurd cc

module _ {V O R T Table Client Owner : Type 0} (theory : Theory V O R T Table Client Owner) where
  -- answers came
  pub takes_up :
      (was now : Table) (old new : Client) (lane becomes : Lane V O R T) → AllByRecursion IsOfTrustee (theory.client_view old).sent
      → IsAt lane.stage (theory.client_view old) → (takes : TakesAnswers theory was now old new lane becomes)
      → MovesUp theory (ExchangesLane theory) was now old new lane becomes true
  takes_up was now old new lane becomes asked at takes =
      let (a, gets, takes_in, did, keeps) = takes in
      let (b, room, are) = gets.answers in
      let got : length (theory.client_view new).got ≡ length (theory.client_view old).got + length (a ∷ []) =
      ap (λ l. length l) gets.got ∙ length-append (theory.client_view old).got (a ∷ []) in
      let out = ap one_if are.out in
      let none = ap one_if gets.out in
      record {
        goes = inl takes;
        asked = subst (λ l. AllByRecursion IsOfTrustee l) (sym gets.sent) asked;
        at = subst (λ stage. IsAt stage (theory.client_view new)) (sym takes_in.stage)
            (at_taken lane.stage (theory.client_view old) (theory.client_view new) (ap has_bye gets.sent) gets.out at);
        place = gets.place;
        moved = omega (arith, got, out, none);
        keeps = keeps;
      }

  -- nothing came
  pub finds_up :
      (was now : Table) (old new : Client) (lane : Lane V O R T) → AllByRecursion IsOfTrustee (theory.client_view old).sent
      → IsAt lane.stage (theory.client_view old) → (finds : FindsNothing theory was now old new lane lane)
      → MovesUp theory (ExchangesLane theory) was now old new lane lane false
  finds_up was now old new lane asked at finds =
      let (pending, same, did, keeps) = finds in
      let (b, out, out_new) = pending.out in
      let got = ap (λ l. length l) pending.got in
      let some = ap one_if out in
      let still = ap one_if out_new in
      record {
        goes = inr (inl finds);
        asked = subst (λ l. AllByRecursion IsOfTrustee l) (sym pending.sent) asked;
        at = at_pending lane.stage (theory.client_view old) (theory.client_view new) pending at;
        place = pending.place;
        moved = omega (arith, got, some, still);
        keeps = keeps;
      }

  -- nothing was out: asks were sent, or none waited
  pub sends_up :
      (was now : Table) (old mid new : Client) (lane becomes : Lane V O R T) (sent : Bool) → AllByRecursion IsOfTrustee (theory.client_view old).sent
      → IsAt lane.stage (theory.client_view old) → MaySendAsks theory was old lane → IsIdle (theory.client_view old) (theory.client_view mid)
      → KeepsSides theory was was old mid → SendsWaits theory was now mid new lane becomes sent
      → MovesUp theory (ExchangesLane theory) was now old new lane becomes sent
  sends_up was now old mid new lane becomes sent asked at may idle keeps (inl (is, some, (batch, goes, room, publishes, did, kept))) =
      let before = theory.client_view old in
      let view : theory.client_view mid ≡ before = idle.kept in
      let first : AllByRecursion (AppliesHeld (theory.opening was) before.place) batch.requests.items =
      subst (λ l. AllByRecursion (AppliesHeld (theory.opening was) before.place) l) (sym goes.is_first)
      (all_take (AppliesHeld (theory.opening was) before.place) MOST_REQUESTS lane.waits.items may.held) in
      let grown : (theory.client_view new).sent ≡ before.sent ++ batch.requests.items = publishes.sent ∙ ap (λ v. v.sent ++ batch.requests.items) view in
      let unsaid = may.unsaid some in
      let still : has_bye (theory.client_view new).sent ≡ false =
      ap has_bye grown ∙ no_bye_more before.sent batch.requests.items unsaid (no_bye_held (theory.opening was) before.place batch.requests.items first) in
      let got : length (theory.client_view new).got ≡ length before.got = ap (λ l. length l) publishes.got ∙ ap (λ v. length v.got) view in
      let out = ap one_if publishes.out in
      let none = ap one_if idle.out in
      record {
        goes = inr (inr (idle.out, (mid, sent, view, keeps, inl (is, some, (batch, goes, room, publishes, did, kept)))));
        asked = subst (λ l. AllByRecursion IsOfTrustee l) (sym grown) (asked_more before.sent batch.requests.items asked (held_of_trustee (theory.opening was) before.place batch.requests.items first));
        at = subst (λ stage. IsAt stage (theory.client_view new)) (sym goes.stage) (at_sent lane.stage before (theory.client_view new) unsaid still at);
        place = publishes.place ∙ ap (λ v. v.place) view;
        moved = subst (λ b. Counts b (moves_up before (theory.client_view new))) (sym is) (omega (arith, got, out, none));
        keeps = record {
          same = kept.same;
          opening = kept.opening;
          mine = kept.mine;
          clients = λ other ne has. kept.clients other (λ e. ne (e ∙ ap (λ v. v.place) view)) (keeps.clients other ne has);
          trustee = λ other has. kept.trustee other has;
        };
      }
  sends_up was now old mid new lane becomes sent asked at may idle keeps (inr (is, none, same, side, stays)) =
      let before = theory.client_view old in
      let view : theory.client_view new ≡ before = ap theory.client_view side ∙ idle.kept in
      let zero : moves_up before (theory.client_view new) ≡ 0 = ap (λ v. moves_up before v) view ∙ (let z : moves_up before before ≡ 0 = omega arith in z) in
      let kept : KeepsSides theory was now old new = subst (λ x. KeepsSides theory was now old x) (sym side) (subst (λ x. KeepsSides theory was x old mid) (sym same) keeps) in
      record {
        goes = inr (inr (idle.out, (mid, sent, idle.kept, keeps, inr (is, none, same, side, stays))));
        asked = subst (λ v. AllByRecursion IsOfTrustee v.sent) (sym view) asked;
        at = subst (λ l. IsAt l.stage (theory.client_view new)) (sym stays) (subst (λ v. IsAt lane.stage v) (sym view) at);
        place = ap (λ v. v.place) view;
        moved = subst (λ b. Counts b (moves_up before (theory.client_view new))) (sym is) zero;
        keeps = kept;
      }

  -- where the look left the table and what its side stands for
  pub may_still :
      (was now : Table) (old mid : Client) (lane : Lane V O R T) → now ≡ was → theory.client_view mid ≡ theory.client_view old
      → MaySendAsks theory was old lane → MaySendAsks theory now mid lane
  may_still was now old mid lane same view may = record {
    held = subst (λ (x : Table). AllByRecursion (AppliesHeld (theory.opening x) (theory.client_view mid).place) lane.waits.items) (sym same)
        (subst (λ (v : ClientView V O R T). AllByRecursion (AppliesHeld (theory.opening was) v.place) lane.waits.items) (sym view) may.held);
    unsaid = λ some. ap (λ v. has_bye v.sent) view ∙ may.unsaid some;
    room = may.room;
    told = may.told;
  }

  pub idles_up :
      (was between now : Table) (old mid new : Client) (lane becomes : Lane V O R T) (sent : Bool) → AllByRecursion IsOfTrustee (theory.client_view old).sent
      → IsAt lane.stage (theory.client_view old) → MaySendAsks theory was old lane → IsIdle (theory.client_view old) (theory.client_view mid) → between ≡ was
      → KeepsSides theory was between old mid → SendsWaits theory between now mid new lane becomes sent
      → MovesUp theory (ExchangesLane theory) was now old new lane becomes sent
  idles_up was between now old mid new lane becomes sent asked at may idle same keeps sends =
      sends_up was now old mid new lane becomes sent asked at may idle (subst (λ x. KeepsSides theory was x old mid) same keeps)
      (subst (λ x. SendsWaits theory x now mid new lane becomes sent) same sends)

module _ {V O R T : Type 0} where
  -- no more answers come than a batch has requests
  pub got_few :
      (kind : Kind V O R T) (home : State V O R T) (old new : ClientView V O R T) (a : AnswerBatch V O R T) → IsGoodClient kind home old → Gets a old new
      → length a.answers.items ≤ MOST_REQUESTS
  got_few kind home old new a good gets =
      let (b, room, are) = gets.answers in
      let most = (subst (λ o. HasRun o old.sent (ran old.place old.seen)) are.out good.runs).1 in
      let many = are.answers in
      omega (arith, most, many)
