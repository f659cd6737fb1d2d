-- What a session has done that is over.
use Rattle.std.proofs.Common.{◌≡◌, ◌≢◌, ℕ, ◌<◌, ◌≤◌, inl, inr, true, false, cond, List, [], ◌++◌, length, take, Option, Some, None, refl, sym, ap, subst, ◌∙◌, arith, append_assoc, append-nil}
use Rattle.std.specs.Prelude.{MatchOption}
use Rattle.std.specs.Prelude.{is_some}
use Rattle.std.proofs.lemmas.Bool.{false≢true}
use Rattle.tm_client.specs.Clients.{IsClient}
use Rattle.tm_client.proofs.Elements.{element_at}
use Rattle.tm_base.specs.Visible.{Grows}
use Rattle.tm_batch.specs.declared.message.Request.{Request}
use Rattle.tm_asking.specs.Questions.{requests_at, replies_at, HasAskedAll, HasAskedSome}
use Rattle.tm_asking.specs.Asking.{IsAsking, AreBegun, NoneCounts, sides_of, side_in}
use Rattle.tm_asking.proofs.Dealing.{requests_more}
use Rattle.tm_asking.proofs.Joining.{all_joined, some_joined}
use Rattle.tm_asking.proofs.Replied.{replied_all, begun_so_far}
use Rattle.mc_grammar.specs.Reading.{ReadsRest}
use Rattle.mc_grammar.proofs.ReadFacts.{reads_rest}
use Rattle.mc_grammar.proofs.Spellings.{reads_extend}
use Rattle.mc_model.specs.declared.message.Message.{Message}
use Rattle.mc_model.specs.declared.reply.ShardReply.{ShardReply}
use Rattle.mc_model.specs.declared.reply.ShardReply.TheVariants.{Missing}
use Rattle.mc_model.specs.Quits.{has_quit, until_quit}
use Rattle.mc_model.specs.Rendering.{rendered}
use Rattle.mc_model.specs.Showing.{shown_of_all}
use Rattle.mc_model.specs.Stream.{Reads}
use Rattle.mc_shard.specs.declared.op.ShardOp.{ShardOp}
use Rattle.mc_route.specs.Places.{StoreValue}
use Rattle.mc_intake.specs.declared.intake.Intake.{Intake}
use Rattle.mc_intake.specs.Intake.{unfed, IsIntake}
use Rattle.mc_next.specs.declared.ended.Ended.{Ended}
use Rattle.mc_next.specs.declared.ended.Ended.TheVariants.{AtEnd, Quit, Inside, ReadFault, WriteFault, TooMuch, NoMemory}
use Rattle.mc_next.specs.declared.session.Session.{Session}
use Rattle.mc_next.specs.declared.work.Work.{Work}
use Rattle.mc_next.specs.Parts.{StoreTask, StoreQuestion, StoreView}
use Rattle.mc_next.specs.Clients.{StoreBooks}
use Rattle.mc_next.specs.Works.{StoreState}
use Rattle.mc_next.specs.Runs.{Setting, SessionView, IsWholeRun, IsBrokenRun, HaveReplies, HasAnswered, HasStopped, IsOver, HasRun, WholeInTurn, BrokenInTurn, IsInTurn, AreAskedInTurn, asked_for, all_of}
use Rattle.mc_next.specs.Sessions.{Past, taken, AsksFor, HasReplied, IsOn, HasGivenUp, HasStoppedFor, IsGoing, HasEndedSo, IsOverSo, IsNotDone, IsSession, seen}
use Rattle.mc_next.proofs.Quitting.{until_front, until_there, has_front}
use Rattle.mc_next.proofs.Took.{IsIdle, idle_of, idle_taken}

-- the bytes in hand read as the messages that were taken, and then more
module _ (limit : ℕ) (text : List ℕ) (messages : List Message) (intake : Intake) (is : IsIntake limit text messages intake) where
  fed_reads : Reads is.fed messages is.is_read.held
  unfolding ReadsRest
  fed_reads = reads_rest intake.reader is.unfinished is.fed messages is.is_read

  pub reads_on : (others : List Message) × (end : List ℕ) × Reads (take limit text) (messages ++ others) end
  reads_on =
      let (others, end, reads) = reads_extend is.fed (unfed intake) messages is.is_read.held fed_reads in
      (others, end, subst (λ bytes. Reads bytes (messages ++ others) end) is.parts reads)

  pub reads_all : unfed intake ≡ [] → Reads (take limit text) messages is.is_read.held
  reads_all none = subst (λ bytes. Reads bytes messages is.is_read.held) (sym (append-nil is.fed) ∙ ap (λ l. is.fed ++ l) (sym none) ∙ is.parts) fed_reads

-- the first of some requests are the first of more
pub some_longer :
    (requests more : List (Request StoreValue ShardOp ShardReply StoreTask)) (replies : List ShardReply) (was now : StoreView) → HasAskedSome Missing requests replies was now
    → HasAskedSome Missing (requests ++ more) replies was now
some_longer requests more replies was now h =
    let (rest, e) = h.first in record {
      place = h.place;
      asked = h.asked;
      first = (rest ++ more, ap (λ l. l ++ more) e ∙ append_assoc h.asked rest more);
      sent = h.sent;
      grown = h.grown;
      seen = h.seen;
      runs = h.runs;
      answers = h.answers;
      answered_first = h.answered_first;
      replied = h.replied;
    }

module _ {D : Type 0} (view : D → StoreView) (s : Setting) (marks : List (ℕ → StoreView)) (first : SessionView) (books : StoreBooks D) (left readings written : Option (List ℕ))
    (openings : ℕ → StoreState) (client : IsClient view openings books) (lanes : length books.lanes.items ≡ s.trustees) where
  -- where no request counts, nothing was asked since
  module _ (p : Past) (was : ℕ → StoreView) (answered : HasReplied s p first.sides was) (asks : IsAsking view Missing was [] [] books) (none : NoneCounts books) where
    pub replied_now : HasReplied s p first.sides (sides_of view books)
    replied_now = λ t below.
        let (lane, there) = element_at books.lanes.items t (omega (arith, below, lanes)) in
        let here : sides_of view books t ≡ view lane.side = ap (λ o. side_in view t o) there in
        let rest = (replied_all view openings Missing was [] [] books client asks none refl).at t lane there in
        let qs = all_of (asked_for s p.answered p.readings) in
        let both = all_joined Missing (requests_at t qs) [] (replies_at t qs (all_of p.replies)) [] (first.sides t) (was t) (view lane.side) (answered t below) rest in
        subst (λ side. HasAskedAll Missing (requests_at t qs) (replies_at t qs (all_of p.replies)) (first.sides t) side) (sym here)
        (subst (λ l. HasAskedAll Missing l (replies_at t qs (all_of p.replies)) (first.sides t) (view lane.side)) (append-nil (requests_at t qs))
        (subst (λ l. HasAskedAll Missing (requests_at t qs ++ []) l (first.sides t) (view lane.side)) (append-nil (replies_at t qs (all_of p.replies))) both))

  -- messages were answered, one command after another
  abbrev pub IsRunInTurn : List Message → Type 0
  IsRunInTurn ms = (run : IsWholeRun s ms first (seen view books left readings written)) × WholeInTurn s marks ms first (seen view books left readings written) run

  abbrev pub HasAnsweredInTurn : (List ℕ → List Message → List ℕ → Type 0) → Type 0
  HasAnsweredInTurn Ends =
      (has : HasAnswered s first (seen view books left readings written) Ends) × WholeInTurn s marks (until_quit has.messages) first (seen view books left readings written) has.run

  -- a session that ended so has run, one command after another
  abbrev pub HasRunInTurn : Ended → Type 0
  HasRunInTurn ended = (run : HasRun s ended first (seen view books left readings written)) × IsInTurn s marks ended first (seen view books left readings written) run

  module _ (session : Session) (on : IsOn view s marks session first (seen view books left readings written) books) (idle : session.work ≡ None) (gathered : session.gathered ≡ []) where
    known : IsIdle view s marks on.past first.sides books
    known = idle_of view s marks on.past session.moment session.work first.sides books idle on.client

    all_answered : taken on.past ≡ on.past.answered
    all_answered = idle_taken on.past known.begun

    whole : IsRunInTurn (taken on.past)
    whole = (
      record {
        readings = on.past.readings;
        is_read = on.clock.is_read;
        once = on.clock.once;
        replies = on.past.replies;
        each = subst (λ ms. HaveReplies (asked_for s ms on.past.readings) on.past.replies) (sym all_answered) on.output.each;
        asked = subst (λ ms. (t : ℕ) → t < s.trustees → HasAskedAll Missing (requests_at t (all_of (asked_for s ms on.past.readings)))
            (replies_at t (all_of (asked_for s ms on.past.readings)) (all_of on.past.replies)) (first.sides t) (sides_of view books t)) (sym all_answered)
            (replied_now on.past known.was known.answered (known.asks []) known.none);
        is_written = subst (λ bytes. Grows first.output written bytes)
            (sym (append-nil on.past.written) ∙ ap (λ l. on.past.written ++ l) (sym gathered) ∙ on.output.gathered_is
            ∙ ap (λ ms. rendered (shown_of_all ms on.past.replies)) (sym all_answered)) on.output.is_written;
      },
      subst (λ ms. AreAskedInTurn s.trustees (asked_for s ms on.past.readings) on.past.replies first.sides marks) (sym all_answered) on.client.in_turn,
    )

    whole_until : IsRunInTurn (until_quit (taken on.past))
    whole_until = subst (λ ms. IsRunInTurn ms) (sym on.input.until) whole

    -- all that came is fed
    module _ (fed : unfed session.intake ≡ []) (no_quit : session.quit ≡ false) where
      answered_all : (Ends : List ℕ → List Message → List ℕ → Type 0) → Ends on.past.text (taken on.past) on.input.is_intake.is_read.held
          → HasAnsweredInTurn Ends
      answered_all Ends ends = (
        record {
          text = on.past.text;
          messages = taken on.past;
          rest = on.input.is_intake.is_read.held;
          has_read = record { came = on.input.came; reads = reads_all s.limit on.past.text (taken on.past) session.intake on.input.is_intake fed };
          ends = ends;
          run = whole_until.0;
        },
        whole_until.1,
      )

      none_quit : has_quit (taken on.past) ≡ false
      none_quit = sym on.input.quit_is ∙ no_quit

      pub ends_too_much : session.too_much ≡ true → HasRunInTurn TooMuch
      ends_too_much much = answered_all (λ text messages rest. (has_quit messages ≡ false) × (s.limit < length text)) (none_quit, on.input.above much)

      pub ends_failed : session.too_much ≡ false → HasRunInTurn ReadFault
      ends_failed few = answered_all (λ text messages rest. (has_quit messages ≡ false) × (length text ≤ s.limit)) (none_quit, on.input.fits few)

      over : session.at_end ≡ true → IsOver s first (seen view books left readings written) on.past.text (taken on.past)
      over ended = record { came = (on.input.ended ended).0; fits = on.input.fits (on.input.ended ended).2; no_quit = none_quit }

      pub ends_between : session.at_end ≡ true → on.input.is_intake.is_read.held ≡ [] → HasRunInTurn AtEnd
      ends_between ended none = answered_all (λ text messages rest. IsOver s first (seen view books left readings written) text messages × (rest ≡ [])) (over ended, none)

      pub ends_inside : session.at_end ≡ true → on.input.is_intake.is_read.held ≢ [] → HasRunInTurn Inside
      ends_inside ended some = answered_all (λ text messages rest. IsOver s first (seen view books left readings written) text messages × (rest ≢ [])) (over ended, some)

    pub ends_quit : session.quit ≡ true → HasRunInTurn Quit
    ends_quit quit =
        let has : has_quit (taken on.past) ≡ true = sym on.input.quit_is ∙ quit in
        let (others, end, reads) = reads_on s.limit on.past.text (taken on.past) session.intake on.input.is_intake in
        let both : IsRunInTurn (until_quit (taken on.past ++ others)) = subst (λ ms. IsRunInTurn ms) (sym (until_there (taken on.past) others has on.input.until)) whole in (
          record {
            text = on.past.text;
            messages = taken on.past ++ others;
            rest = end;
            has_read = record { came = on.input.came; reads = reads };
            ends = has_front (taken on.past) others has;
            run = both.0;
          },
          both.1,
        )

  begun_of : (was : ℕ → StoreView) (asked : List StoreQuestion) (work : Option Work) → AsksFor view was asked work books → AreBegun view was asked books
  begun_of was asked None asks = begun_so_far view Missing was asked [] books (asks [])
  begun_of was asked (Some w) asks = begun_so_far view Missing was asked w.asking.replies.items books asks

  -- what was given up is a broken run
  module _ (session : Session) (g : HasGivenUp view s marks session first (seen view books left readings written) books) where
    first_asked : (t : ℕ) → t < s.trustees → HasAskedSome Missing (requests_at t (all_of (asked_for s (taken g.past) g.past.readings)))
        (replies_at t (all_of (asked_for s g.past.answered g.past.readings)) (all_of g.past.replies)) (first.sides t) (sides_of view books t)
    first_asked = λ t below.
        let (lane, there) = element_at books.lanes.items t (omega (arith, below, lanes)) in
        let here : sides_of view books t ≡ view lane.side = ap (λ o. side_in view t o) there in
        let qs = all_of (asked_for s g.past.answered g.past.readings) in
        let rs = all_of g.past.replies in
        let begun = begun_of g.was g.asked session.work g.asks t lane Missing there in
        let both = some_joined Missing (requests_at t qs) (requests_at t g.asked) (replies_at t qs rs) [] (first.sides t) (g.was t) (view lane.side) (g.answered t below) begun in
        let longer = some_longer (requests_at t qs ++ requests_at t g.asked) (requests_at t g.others) (replies_at t qs rs ++ []) (first.sides t) (view lane.side) both in
        let rest : requests_at t (g.asked ++ g.others) ≡ requests_at t g.asked ++ requests_at t g.others = requests_more t g.asked g.others in
        let all : requests_at t (all_of (asked_for s (taken g.past) g.past.readings)) ≡ (requests_at t qs ++ requests_at t g.asked) ++ requests_at t g.others =
        ap (λ l. requests_at t l) (sym g.questions) ∙ requests_more t qs (g.asked ++ g.others) ∙ ap (λ l. requests_at t qs ++ l) rest
        ∙ sym (append_assoc (requests_at t qs) (requests_at t g.asked) (requests_at t g.others)) in
        subst (λ side. HasAskedSome Missing (requests_at t (all_of (asked_for s (taken g.past) g.past.readings))) (replies_at t qs rs) (first.sides t) side) (sym here)
        (subst (λ l. HasAskedSome Missing l (replies_at t qs rs) (first.sides t) (view lane.side)) (sym all)
        (subst (λ l. HasAskedSome Missing ((requests_at t qs ++ requests_at t g.asked) ++ requests_at t g.others) l (first.sides t) (view lane.side)) (append-nil (replies_at t qs rs)) longer))

    broken : (others : List Message) → (run : IsBrokenRun s (until_quit (taken g.past ++ others)) first (seen view books left readings written))
        × BrokenInTurn s marks (until_quit (taken g.past ++ others)) first (seen view books left readings written) run
    broken others = (
      record {
        answered = g.past.answered;
        others = g.past.begun;
        untaken = cond (has_quit (taken g.past)) [] (until_quit others);
        parts = until_front (taken g.past) others g.input.until;
        readings = g.past.readings;
        is_read = g.clock.is_read;
        once = g.clock.once;
        replies = g.past.replies;
        each = g.each;
        asked = first_asked;
        is_written = g.is_written;
      },
      (g.in_turn, g.few),
    )

    pub has_stopped : (run : HasStopped s first (seen view books left readings written)) × BrokenInTurn s marks (until_quit run.messages) first (seen view books left readings written) run.run
    has_stopped =
        let (others, end, reads) = reads_on s.limit g.past.text (taken g.past) session.intake g.input.is_intake in (
          record {
            text = g.past.text;
            messages = taken g.past ++ others;
            rest = end;
            has_read = record { came = g.input.came; reads = reads };
            run = (broken others).0;
          },
          (broken others).1,
        )

  -- a session that is over has run so
  stopped_run : (session : Session) (ended : Ended) → HasStoppedFor view s marks ended session first (seen view books left readings written) books
      → HasRunInTurn ended
  stopped_run session AtEnd h = absurd h
  stopped_run session Quit h = absurd h
  stopped_run session Inside h = absurd h
  stopped_run session ReadFault h = ends_failed session h.0 h.1 h.2 h.3 h.4 h.5
  stopped_run session WriteFault h = has_stopped session h
  stopped_run session TooMuch h = absurd h
  stopped_run session NoMemory h = has_stopped session h

  ended_run : (session : Session) (ended : Ended) → IsOn view s marks session first (seen view books left readings written) books → session.work ≡ None → session.gathered ≡ []
      → HasEndedSo ended session → HasRunInTurn ended
  ended_run session AtEnd on idle gathered h =
      ends_between session on idle gathered (on.input.ended h.1).1 h.0 h.1 (h.2 s.limit on.past.text (taken on.past) on.input.is_intake)
  ended_run session Quit on idle gathered h = ends_quit session on idle gathered h
  ended_run session Inside on idle gathered h =
      ends_inside session on idle gathered (on.input.ended h.1).1 h.0 h.1 (h.2 s.limit on.past.text (taken on.past) on.input.is_intake)
  ended_run session ReadFault on idle gathered h = absurd h
  ended_run session WriteFault on idle gathered h = absurd h
  ended_run session TooMuch on idle gathered h = ends_too_much session on idle gathered h.2 h.0 h.1
  ended_run session NoMemory on idle gathered h = absurd h

  pub over_run : (session : Session) (ended : Ended) → IsGoing view s marks session.stopped session first (seen view books left readings written) books
      → IsOverSo ended session books → HasRunInTurn ended
  over_run session ended going (inl (stopped, none)) =
      stopped_run session ended (subst (λ o. IsGoing view s marks o session first (seen view books left readings written) books) stopped going)
  over_run session ended going (inr (running, idle, gathered, so)) =
      ended_run session ended (subst (λ o. IsGoing view s marks o session first (seen view books left readings written) books) running going) idle gathered so

-- how it ended is no part of what it did
module _ {D : Type 0} (view : D → StoreView) (s : Setting) (marks : List (ℕ → StoreView)) (session : Session) (over : Option Ended) (first now : SessionView) (books : StoreBooks D) where
  on_over : IsOn view s marks session first now books → IsOn view s marks (record session { over = over }) first now books
  on_over on = record { past = on.past; input = on.input; clock = on.clock; output = on.output; client = on.client }

  given_over : HasGivenUp view s marks session first now books → HasGivenUp view s marks (record session { over = over }) first now books
  given_over g = record {
    past = g.past;
    input = g.input;
    clock = g.clock;
    each = g.each;
    is_written = g.is_written;
    was = g.was;
    answered = g.answered;
    in_turn = g.in_turn;
    was_is = g.was_is;
    few = g.few;
    asked = g.asked;
    others = g.others;
    questions = g.questions;
    asks = g.asks;
  }

  stopped_over : (why : Ended) → HasStoppedFor view s marks why session first now books → HasStoppedFor view s marks why (record session { over = over }) first now books
  stopped_over AtEnd h = absurd h
  stopped_over Quit h = absurd h
  stopped_over Inside h = absurd h
  stopped_over ReadFault h = (on_over h.0, h.1, h.2, h.3, h.4, h.5)
  stopped_over WriteFault h = given_over h
  stopped_over TooMuch h = absurd h
  stopped_over NoMemory h = given_over h

  pub going_over : (stopped : Option Ended) → IsGoing view s marks stopped session first now books → IsGoing view s marks stopped (record session { over = over }) first now books
  going_over None on = on_over on
  going_over (Some why) h = stopped_over why h

-- and no request counts
pub none_over : {D : Type 0} (view : D → StoreView) (s : Setting) (marks : List (ℕ → StoreView)) (first now : SessionView) (books : StoreBooks D) (session : Session) (ended : Ended)
    → IsGoing view s marks session.stopped session first now books → IsOverSo ended session books → NoneCounts books
none_over view s marks first now books session ended going (inl (stopped, none)) = none
none_over view s marks first now books session ended going (inr (running, idle, gathered, so)) =
    let on = subst (λ o. IsGoing view s marks o session first now books) running going in
    (idle_of view s marks on.past session.moment session.work first.sides books idle on.client).none

still_not_done : {D : Type 0} (stopped : Option Ended) (session : Session) (books : StoreBooks D) → IsNotDone stopped session books → IsNotDone stopped (record session { over = None }) books
still_not_done None session books h = h
still_not_done (Some why) session books h = h

-- where a session is over it has run so, and else not all is done
pub stepped :
    {D : Type 0} (view : D → StoreView) (s : Setting) (marks : List (ℕ → StoreView)) (first : SessionView) (books : StoreBooks D) (left readings written : Option (List ℕ)) (openings : ℕ → StoreState)
    → IsClient view openings books → length books.lanes.items ≡ s.trustees → (session : Session) (over : Option Ended)
    → MatchOption over (IsNotDone session.stopped session books) (λ ended. IsOverSo ended session books)
    → IsGoing view s marks session.stopped session first (seen view books left readings written) books
    → IsSession view s marks (record session { over = over }) first (seen view books left readings written) books
stepped view s marks first books left readings written openings client lanes session None not_done going =
    (going_over view s marks session None first (seen view books left readings written) books session.stopped going, still_not_done session.stopped session books not_done)
stepped view s marks first books left readings written openings client lanes session (Some ended) so going =
    let (run, in_turn) = over_run view s marks first books left readings written openings client lanes session ended going so in
    (run, in_turn, none_over view s marks first (seen view books left readings written) books session ended going so)

-- what was not over is so by nothing
pub not_over : (over : Option Ended) → ((ended : Ended) → over ≡ Some ended → ⊥) → over ≡ None
not_over None none = refl
not_over (Some ended) none = absurd (none ended refl)

-- whether it stopped or not, its intake is one
module _ {D : Type 0} (view : D → StoreView) (s : Setting) (marks : List (ℕ → StoreView)) (session : Session) (first now : SessionView) (books : StoreBooks D) where
  intake_stopped : (why : Ended) → HasStoppedFor view s marks why session first now books → (limit : ℕ) × (text : List ℕ) × (messages : List Message) × IsIntake limit text messages session.intake
  intake_stopped AtEnd h = absurd h
  intake_stopped Quit h = absurd h
  intake_stopped Inside h = absurd h
  intake_stopped ReadFault h = let on = h.0 in (s.limit, on.past.text, taken on.past, on.input.is_intake)
  intake_stopped WriteFault g = (s.limit, g.past.text, taken g.past, g.input.is_intake)
  intake_stopped TooMuch h = absurd h
  intake_stopped NoMemory g = (s.limit, g.past.text, taken g.past, g.input.is_intake)

  pub intake_of : (stopped : Option Ended) → IsGoing view s marks stopped session first now books → (limit : ℕ) × (text : List ℕ) × (messages : List Message) × IsIntake limit text messages session.intake
  intake_of None on = (s.limit, on.past.text, taken on.past, on.input.is_intake)
  intake_of (Some why) h = intake_stopped why h

-- a session that stopped while requests count was given up, and stays so
module _ {D : Type 0} (view : D → StoreView) (s : Setting) (marks : List (ℕ → StoreView)) (session : Session) (first now : SessionView) (books : StoreBooks D) (count : ¬ (NoneCounts books)) where
  pub given_up_of : (why : Ended) → HasStoppedFor view s marks why session first now books → HasGivenUp view s marks session first now books
  given_up_of AtEnd h = absurd h
  given_up_of Quit h = absurd h
  given_up_of Inside h = absurd h
  given_up_of ReadFault h = let on = h.0 in absurd (count (idle_of view s marks on.past session.moment session.work first.sides books h.1 on.client).none)
  given_up_of WriteFault g = g
  given_up_of TooMuch h = absurd h
  given_up_of NoMemory g = g

  pub still_given : (why : Ended) → HasStoppedFor view s marks why session first now books → (session_new : Session) (later : SessionView) (books_new : StoreBooks D)
      → HasGivenUp view s marks session_new first later books_new → HasStoppedFor view s marks why session_new first later books_new
  still_given AtEnd h session_new later books_new g = absurd h
  still_given Quit h session_new later books_new g = absurd h
  still_given Inside h session_new later books_new g = absurd h
  still_given ReadFault h session_new later books_new g = let on = h.0 in absurd (count (idle_of view s marks on.past session.moment session.work first.sides books h.1 on.client).none)
  still_given WriteFault h session_new later books_new g = g
  still_given TooMuch h session_new later books_new g = absurd h
  still_given NoMemory h session_new later books_new g = g

  module _ (why : Ended) (stopped : session.stopped ≡ Some why) (going : IsGoing view s marks session.stopped session first now books) where
    stopped_for : HasStoppedFor view s marks why session first now books
    stopped_for = subst (λ o. IsGoing view s marks o session first now books) stopped going

    pub given_now : HasGivenUp view s marks session first now books
    given_now = given_up_of why stopped_for

    pub drained_going : (session_new : Session) (later : SessionView) (books_new : StoreBooks D) → session_new ≡ record session { work = session_new.work }
        → HasGivenUp view s marks session_new first later books_new → IsGoing view s marks session_new.stopped session_new first later books_new
    drained_going session_new later books_new same g =
        subst (λ o. IsGoing view s marks o session_new first later books_new) (sym (ap (λ x. x.stopped) same ∙ stopped)) (still_given why stopped_for session_new later books_new g)

-- why it stopped, where it did
pub why_stopped : (o : Option Ended) → is_some o ≡ true → (why : Ended) × (o ≡ Some why)
why_stopped None e = absurd (false≢true e)
why_stopped (Some why) e = (why, refl)

pub not_stopped : (o : Option Ended) → is_some o ≡ false → o ≡ None
not_stopped None e = refl
not_stopped (Some why) e = absurd (false≢true (sym e))
