-- What a side sent and got is what the log ran for it and answered that it has seen, and what it holds by it is live.
use Rattle.std.proofs.Common.{◌≡◌, ◌≢◌, ℕ, ◌<◌, ◌≤◌, true, false, List, ◌++◌, length, sym, ◌∙◌, ap, subst, arith, append-nil, length-append}
use Rattle.std.specs.List.{AllZip}
use Rattle.std.specs.declared.option.Option.{Option}
use Rattle.std.specs.declared.option.Option.TheVariants.{None, Some}
use Rattle.tm_seq.specs.Kind.{Kind}
use Rattle.tm_batch.specs.declared.message.Request.{Request}
use Rattle.tm_model.specs.State.{State, IsHeld}
use Rattle.tm_model.specs.Serve.{state_after}
use Rattle.tm_model.specs.Ran.{ran, answered}
use Rattle.tm_model.specs.Batches.{batches}
use Rattle.tm_model.specs.Holds.{has_bye, launches_in, gave, answers_in, ended_in, came}
use Rattle.tm_model.specs.Fits.{Fits}
use Rattle.tm_model.specs.ClientLaws.{TellsHolds}
use Rattle.tm_core.proofs.ClientAnswers.{answers_are_as_many, answers_fit}
use Rattle.tm_core.proofs.ClientHolds.{logs_tell_holds}
use Rattle.tm_core.proofs.Tallies.{gave-append, launches_in-append, bye_more, came_same}
use Rattle.tm_pair.specs.Views.{BatchView, ClientView}
use Rattle.tm_pair.specs.Sides.{HasRun, IsGoodClient}
use Rattle.tm_client.specs.Lanes.{out_requests}
use Rattle.tm_client.specs.SideLaws.{AnswersAreOfEntries, HeldIsLive}

module _ {V O R T : Type 0} where
  has_run : (out : Option (BatchView V O R T)) (sent run : List (Request V O R T)) → HasRun out sent run → sent ≡ run ++ out_requests out
  has_run None sent run h = h ∙ sym (append-nil run)
  has_run (Some batch) sent run h = h.0

module _ {V O R T : Type 0} (kind : Kind V O R T) (opening : State V O R T) (view : ClientView V O R T) (good : IsGoodClient kind opening view) where
  -- what was sent is what was run, and then what is out
  pub sent_is : view.sent ≡ ran view.place view.seen ++ out_requests view.out
  sent_is = has_run view.out view.sent (ran view.place view.seen) good.runs

  pub answers_are : answers_in view.got ≡ answered view.place view.seen
  answers_are = ap answers_in (sym good.leaves) ∙ (answers_are_as_many kind opening view.seen view.place view.got good.cut).1

  pub answers_as_many : length (answers_in view.got) ≡ length (ran view.place view.seen)
  answers_as_many =
      ap (λ l. length (answers_in l)) (sym good.leaves) ∙ (answers_are_as_many kind opening view.seen view.place view.got good.cut).2

  pub answers_fitting : AllZip Fits (ran view.place view.seen) (answers_in view.got)
  answers_fitting =
      subst (λ l. AllZip Fits (ran view.place view.seen) (answers_in l)) good.leaves
      (answers_fit kind opening view.seen view.place view.got good.is_legal good.cut)

  -- no more answers came than requests were sent
  pub as_many_came : length (answers_in view.got) ≤ length view.sent
  as_many_came =
      let many = answers_as_many in
      let joined = length-append (ran view.place view.seen) (out_requests view.out) in
      let all = ap length sent_is in
      omega (arith, many, joined, all)

  -- by the log that it has seen
  tells : has_bye view.sent ≢ true → TellsHolds kind opening view.place view.seen (state_after kind opening view.seen)
  tells still =
      logs_tell_holds kind opening view.seen view.place view.got good.opens good.is_legal good.in_range good.cut
      (λ bye. still (ap has_bye sent_is ∙ bye_more (ran view.place view.seen) (out_requests view.out) bye))

  -- where nothing was launched, nothing ended
  pub ended_none : has_bye view.sent ≡ false → launches_in view.sent ≡ 0 → ended_in view.got ≡ 0
  ended_none still launches =
      let told = (tells (λ bye. absurd cc)).launches in
      let joined = ap launches_in sent_is ∙ launches_in-append (ran view.place view.seen) (out_requests view.out) in
      let all = ap ended_in good.leaves in
      omega (arith, told, joined, all, launches)

  pub live : (id : ℕ) → has_bye view.sent ≢ true → gave id view.sent < came opening view.place view.sent view.got id
      → IsHeld (state_after kind opening view.seen) view.place id
  live id still some =
      let run = ran view.place view.seen in
      let joined = ap (gave id) sent_is ∙ gave-append id run (out_requests view.out) in
      let many = answers_as_many in
      let longer : came opening view.place view.sent view.got id ≡ came opening view.place (run ++ out_requests view.out) view.got id =
      ap (λ l. came opening view.place l view.got id) sent_is in
      let same = came_same opening view.place run (out_requests view.out) view.got id (omega (arith, many)) in
      let got : came opening view.place run (batches kind opening view.place view.seen) id ≡ came opening view.place run view.got id =
      ap (λ l. came opening view.place run l id) good.leaves in
      (tells still).live id (omega (arith, joined, longer, same, got, some))

module _ {V O R T : Type 0} (kind : Kind V O R T) where
  pub answers_are_of_entries : AnswersAreOfEntries kind
  answers_are_of_entries opening view good = (sent_is kind opening view good, answers_are kind opening view good, answers_fitting kind opening view good)

  pub held_is_live : HeldIsLive kind
  held_is_live opening view id good still some = live kind opening view good id still some
