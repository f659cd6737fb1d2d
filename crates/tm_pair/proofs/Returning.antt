-- What comes back to a side that had nothing out and asked nothing.
use Rattle.std.proofs.Common.{◌≡◌, ℕ, ◌≤◌, false, true, List, [], ◌∷◌, ◌++◌, length, sym, ◌∙◌, ap, subst, arith, append-nil}
use Rattle.std.specs.declared.option.Option.TheVariants.{None, Some}
use Rattle.tm_seq.specs.Kind.{Kind}
use Rattle.tm_batch.specs.declared.message.Request.{Request}
use Rattle.tm_batch.specs.declared.message.AnswerBatch.{AnswerBatch}
use Rattle.tm_model.specs.declared.entry.Entry.{Entry}
use Rattle.tm_model.specs.declared.entry.Entry.TheVariants.{Sent}
use Rattle.tm_model.specs.State.{State, place_count}
use Rattle.tm_model.specs.Slots.{looked}
use Rattle.tm_model.specs.Ran.{mark_of, ran}
use Rattle.tm_model.specs.Entries.{batch_entries}
use Rattle.tm_model.specs.Holds.{launches_in, ended_in}
use Rattle.tm_core.proofs.First.{opening_unfinished}
use Rattle.tm_core.proofs.LaunchLog.{log_launches}
use Rattle.tm_core.proofs.Marks.{ran-append}
use Rattle.tm_core.proofs.Numbering.{opening_place}
use Rattle.tm_core.proofs.Ordered.{opening_ordered}
use Rattle.tm_core.proofs.Tallies.{ended_in-append}
use Rattle.tm_pair.specs.Views.{BatchView, ClientView}
use Rattle.tm_pair.specs.Calls.{Publishes, Gets, Collects}
use Rattle.tm_pair.specs.Sides.{HasRun, IsGoodClient}
use Rattle.tm_pair.specs.Rounds.{GetsNothing, FindsNothing}
use Rattle.tm_pair.specs.declared.table.Collected.{Collected}
use Rattle.tm_pair.specs.declared.table.Collected.TheVariants.{Answers, Pending, Idle}
use Rattle.tm_pair.proofs.Lists.{nil_by_length, same_join}

module _ {V O R T : Type 0} (kind : Kind V O R T) (opening : State V O R T) where
  -- a side with nothing out has seen all that it sent run
  all_ran : (view : ClientView V O R T) → IsGoodClient kind opening view → view.out ≡ None → view.sent ≡ ran view.place view.seen
  all_ran view good free = subst (λ out. HasRun out view.sent (ran view.place view.seen)) free good.runs

  -- no more launches of a side ended than it sent
  ended_were_sent : (view : ClientView V O R T) → IsGoodClient kind opening view → view.out ≡ None → ended_in view.got ≤ launches_in view.sent
  ended_were_sent view good free =
      let n = place_count opening.setup in
      let flow = log_launches kind n view.place good.in_range 0 [] opening view.seen (opening_ordered opening good.opens) good.is_legal in
      let nothing = opening_unfinished opening view.place good.opens in
      let not_ready = ap (λ p. length p.ready) (opening_place opening view.place good.opens good.in_range).1 in
      let sent = ap (λ l. launches_in l) (all_ran view good free) in
      let got = ap (λ l. ended_in l) good.leaves in
      omega (arith, flow, nothing, not_ready, sent, got)

  -- the batch that is out is the one that asked nothing
  nothing_was_out :
      (old mid : ClientView V O R T) (b : List (Request V O R T)) (room : ℕ) → Publishes [] 0 old mid
      → mid.out ≡ Some (record { requests = b; room = room }) → (b ≡ []) × (room ≡ 0)
  nothing_was_out old mid b room asks out =
      let some : Some (record { requests = b; room = room }) ≡ Some (record { requests = []; room = 0 }) = sym out ∙ asks.out in
      let same : record { requests = b; room = room } ≡ record { requests = []; room = 0 } = cc in
      (ap (λ (v : BatchView V O R T). v.requests) same, ap (λ (v : BatchView V O R T). v.room) same)

  -- the log that a side has seen grew by entries of which none is a request of it
  others_ran_none :
      (old new : ClientView V O R T) (others : List (Entry V O R T)) (room : ℕ) → IsGoodClient kind opening old → IsGoodClient kind opening new
      → old.out ≡ None → new.out ≡ None → new.place ≡ old.place → new.sent ≡ old.sent
      → new.seen ≡ old.seen ++ others ++ Sent old.place room ∷ [] → ran old.place others ≡ []
  others_ran_none old new others room good after free got place sent seen =
      let c = old.place in
      let now : new.sent ≡ ran c new.seen = all_ran new after got ∙ ap (λ d. ran d new.seen) place in
      let grown = ap (λ l. ran c l) seen ∙ ran-append mark_of c (old.seen ++ others) (Sent c room ∷ []) ∙ append-nil (ran c (old.seen ++ others)) in
      let parts = ran-append mark_of c old.seen others in
      same_join (ran c old.seen) (ran c others) (sym (all_ran old good free) ∙ sym sent ∙ now ∙ grown ∙ parts)

  gets_nothing :
      (old mid new : ClientView V O R T) (a : AnswerBatch V O R T) → IsGoodClient kind opening old → IsGoodClient kind opening new → old.out ≡ None
      → Publishes [] 0 old mid → Gets a mid new → GetsNothing a old new
  gets_nothing old mid new a good after free asks gets =
      let (b, room, are) = gets.answers in
      let (empty, rooms) = nothing_was_out old mid b room asks are.out in
      let few : length b ≡ 0 = ap (λ l. length l) empty in
      let count = are.answers in
      let most = are.gifts in
      let place : new.place ≡ old.place = gets.place ∙ asks.place in
      let sent : new.sent ≡ old.sent = gets.sent ∙ asks.sent ∙ append-nil old.sent in
      let got : new.got ≡ old.got ++ a ∷ [] = gets.got ∙ ap (λ l. l ++ a ∷ []) asks.got in
      let (others, grown) = are.seen in
      let seen : new.seen ≡ old.seen ++ others ++ Sent old.place 0 ∷ [] =
      grown ∙ ap (λ q. mid.seen ++ others ++ batch_entries (mid.seen ++ others) mid.place q room a.answers.items) empty
      ∙ ap (λ l. l ++ others ++ Sent mid.place room ∷ []) asks.seen ∙ ap (λ c. old.seen ++ others ++ Sent c room ∷ []) asks.place
      ∙ ap (λ r. old.seen ++ others ++ Sent old.place r ∷ []) rooms in
      record {
        answers = nil_by_length a.answers.items (omega (arith, count, few));
        gifts = nil_by_length a.gifts.items (omega (arith, most, rooms));
        completions = λ ended.
            let all = ended_were_sent new after gets.out in
            let launches = ap (λ l. launches_in l) sent in
            let more = ap (λ l. ended_in l) got in
            let joined = ended_in-append old.got (a ∷ []) in
            nil_by_length a.completions.items (omega (arith, ended, all, launches, more, joined));
        place = place;
        sent = sent;
        got = got;
        seen = (others, others_ran_none old new others 0 good after free gets.out place sent seen, seen);
        out = gets.out;
        looks = gets.looks ∙ ap (looked true) asks.looks;
      }

  pub finds_nothing :
      (old mid new : ClientView V O R T) (found : Collected V O R T) → IsGoodClient kind opening old → IsGoodClient kind opening new
      → old.out ≡ None → Publishes [] 0 old mid → Collects mid new found → FindsNothing old new found
  finds_nothing old mid new Idle good after free asks finds = let was : mid.out ≡ None = finds.out in let is : mid.out ≡ Some (record { requests = []; room = 0 }) = asks.out in absurd cc
  finds_nothing old mid new Pending good after free asks finds =
      let (batch, was, is) = finds.out in record {
        place = finds.place ∙ asks.place;
        sent = finds.sent ∙ asks.sent ∙ append-nil old.sent;
        got = finds.got ∙ asks.got;
        seen = finds.seen ∙ asks.seen;
        out = is ∙ sym was ∙ asks.out;
        looks = finds.looks ∙ ap (looked false) asks.looks;
      }
  finds_nothing old mid new (Answers a) good after free asks finds = gets_nothing old mid new a good after free asks finds
