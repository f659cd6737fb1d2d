-- A message is taken of an idle session.
use Rattle.std.proofs.Common.{◌≡◌, ◌≢◌, ℕ, ◌≤◌, inl, inr, Bool, false, List, [], ◌∷◌, ◌++◌, length, Option, Some, None, refl, sym, ap, subst, ◌∙◌, arith, append_assoc, append-nil, length-append}
use Rattle.tm_base.specs.Visible.{Grows}
use Rattle.tm_asking.specs.Questions.{requests_at, replies_at, HasAskedAll}
use Rattle.tm_asking.specs.Asking.{IsAsking, NoneCounts}
use Rattle.mc_model.specs.declared.message.Command.{Command}
use Rattle.mc_model.specs.declared.message.Fault.{Fault}
use Rattle.mc_model.specs.declared.message.Message.{Message}
use Rattle.mc_model.specs.declared.message.Message.TheVariants as message
use Rattle.mc_model.specs.declared.reply.ShardReply.{ShardReply}
use Rattle.mc_model.specs.declared.reply.ShardReply.TheVariants.{Missing}
use Rattle.mc_model.specs.Moments.{latest, moments_of}
use Rattle.mc_model.specs.Quits.{is_quit, is_quit_command}
use Rattle.mc_model.specs.Rendering.{bytes_of}
use Rattle.mc_model.specs.Showing.{commands_of, shown_of_fault}
use Rattle.mc_intake.specs.declared.intake.Intake.{Intake}
use Rattle.mc_grammar.specs.declared.reader.Next.{Next}
use Rattle.mc_grammar.specs.declared.reader.Next.TheVariants as next
use Rattle.mc_intake.specs.Intake.{unfed, IsIntake, Takes}
use Rattle.mc_next.specs.declared.ended.Ended.TheVariants.{NoMemory}
use Rattle.mc_next.specs.declared.session.Session.{Session}
use Rattle.mc_next.specs.declared.work.Work.{Work}
use Rattle.mc_next.specs.Parts.{StoreView, questions_of, questions_each}
use Rattle.mc_next.specs.Clients.{StoreBooks}
use Rattle.mc_next.specs.Runs.{Setting, SessionView, HaveReplies, asked_for, all_of, AreAskedInTurn, last_of}
use Rattle.mc_next.specs.Works.{left_of, IsWork}
use Rattle.mc_next.specs.Sessions.{Past, taken, latest_of, HasCome, HasTicked, HasShown, HasReplied, HasAskedOn, AsksFor, IsOn, HasGivenUp, IsGoing, IsGoingOn}
use Rattle.mc_next.specs.Deeds.{without_memory, with_command, HasGathered, HasBegun, HasMet}
use Rattle.mc_next.proofs.Quitting.{has_more, until_more}
use Rattle.mc_next.proofs.Streams.{grows_more, latest_more, moments_more, moments_count, questions_front, questions_count, commands_more, commands_same, replies_count, shown_fault}
use Rattle.mc_next.proofs.Answered.{all_asked}
use Rattle.mc_next.proofs.Finished.{front_of, goes_on, goes_as, finished_on}
use Rattle.mc_next.proofs.Marked.{none_marked}
use Rattle.mc_next.proofs.Turned.{seen_going}

-- what is known of a client where nothing is at work
pub record IsIdle {D : Type 0} (view : D → StoreView) (s : Setting) (marks : List (ℕ → StoreView)) (p : Past) (before : ℕ → StoreView) (books : StoreBooks D) : Type 0 where
  pub begun : p.begun ≡ []
  pub was : ℕ → StoreView
  pub answered : HasReplied s p before was
  pub in_turn : AreAskedInTurn s.trustees (asked_for s p.answered p.readings) p.replies before marks
  pub was_is : was ≡ last_of before marks
  pub asks : (replies : List ShardReply) → IsAsking view Missing was [] replies books
  pub none : NoneCounts books

pub idle_of : {D : Type 0} (view : D → StoreView) (s : Setting) (marks : List (ℕ → StoreView)) (p : Past) (moment : ℕ) (work : Option Work) (before : ℕ → StoreView) (books : StoreBooks D)
    → work ≡ None → HasAskedOn view s marks p moment work before books → IsIdle view s marks p before books
idle_of view s marks p moment None before books e h = record {
  begun = h.at_work.0;
  was = h.was;
  answered = h.answered;
  in_turn = h.in_turn;
  was_is = h.was_is;
  asks = λ replies. subst (λ asked. IsAsking view Missing h.was asked replies books) h.at_work.1 (h.asks replies);
  none = h.at_work.2;
}
idle_of view s marks p moment (Some w) before books e h = absurd cc

pub idle_on : {D : Type 0} (view : D → StoreView) (s : Setting) (marks : List (ℕ → StoreView)) (p : Past) (moment : ℕ) (before : ℕ → StoreView) (books : StoreBooks D)
    → IsIdle view s marks p before books → HasAskedOn view s marks p moment None before books
idle_on view s marks p moment before books i = record { was = i.was; answered = i.answered; in_turn = i.in_turn; was_is = i.was_is; asked = []; asks = i.asks; at_work = (i.begun, refl, i.none) }

-- one message more came
pub come_more :
    (limit : ℕ) (text : List ℕ) (messages : List Message) (m : Message) (intake intake_new : Intake) (at_end too_much : Bool) (before now : Option (List ℕ))
    → HasCome limit text messages intake false at_end too_much before now → unfed intake ≢ [] → IsIntake limit text (messages ++ m ∷ []) intake_new
    → HasCome limit text (messages ++ m ∷ []) intake_new (is_quit m) at_end too_much before now
come_more limit text messages m intake intake_new at_end too_much before now h some is = record {
  came = h.came;
  ended = λ e. absurd (some (h.ended e).1);
  fits = h.fits;
  above = h.above;
  is_intake = is;
  until = until_more messages m (sym h.quit_is);
  quit_is = sym (has_more messages m (sym h.quit_is));
}

-- one reading more
pub ticked_more :
    (readings : List ℕ) (messages : List Message) (command : Command) (moment reading : ℕ) (before now later : Option (List ℕ))
    → HasTicked readings messages moment before now → Grows now later (reading ∷ [])
    → HasTicked (readings ++ reading ∷ []) (messages ++ message.Command command ∷ []) (latest moment reading) before later
ticked_more readings messages command moment reading before now later h g = record {
  is_read = grows_more before now later readings (reading ∷ []) h.is_read g;
  once =
      let one = length-append readings (reading ∷ []) in
      let two = length-append (commands_of messages) (command ∷ []) in
      let same = ap length (commands_more messages command) in
      let once = h.once in
      omega (arith, one, two, same, once);
  latest_is = ap (λ moment. latest moment reading) h.latest_is ∙ sym (latest_more 0 readings reading);
}

-- a fault reads no clock
pub ticked_still : (readings : List ℕ) (messages : List Message) (fault : Fault) (moment : ℕ) (before now : Option (List ℕ))
    → HasTicked readings messages moment before now → HasTicked readings (messages ++ message.Fault fault ∷ []) moment before now
ticked_still readings messages fault moment before now h = record {
  is_read = h.is_read;
  once = h.once ∙ ap length (sym (commands_same messages fault));
  latest_is = h.latest_is;
}

module _ (s : Setting) where
  -- a reading more changes nothing of what was asked before
  pub asked_still : (messages : List Message) (readings : List ℕ) (reading : ℕ) → length (commands_of messages) ≤ length readings
      → asked_for s messages (readings ++ reading ∷ []) ≡ asked_for s messages readings
  asked_still messages readings reading le =
      let many = moments_count 0 readings in
      ap (λ moments. questions_each s.named s.trustees (commands_of messages) moments) (moments_more 0 readings reading)
      ∙ questions_front s.named s.trustees (commands_of messages) (moments_of readings) (latest (latest_of 0 readings) reading ∷ []) (omega (arith, le, many))

-- where nothing is at work the messages that were taken are the answered ones
pub idle_taken : (p : Past) → p.begun ≡ [] → taken p ≡ p.answered
idle_taken p e = ap (λ b. p.answered ++ b) e ∙ append-nil p.answered

module _ {D : Type 0} (view : D → StoreView) (s : Setting) (marks : List (ℕ → StoreView)) (first now : SessionView) (books : StoreBooks D) (old : Session)
    (on : IsOn view s marks old first now books) (idle : old.work ≡ None) (running : old.stopped ≡ None) (no_quit : old.quit ≡ false) where
  known : IsIdle view s marks on.past first.sides books
  known = idle_of view s marks on.past old.moment old.work first.sides books idle on.client

  same : taken on.past ≡ on.past.answered
  same = idle_taken on.past known.begun

  input : HasCome s.limit on.past.text on.past.answered old.intake false old.at_end old.too_much first.input now.input
  input =
      subst (λ quit. HasCome s.limit on.past.text on.past.answered old.intake quit old.at_end old.too_much first.input now.input) no_quit
      (subst (λ ms. HasCome s.limit on.past.text ms old.intake old.quit old.at_end old.too_much first.input now.input) same on.input)

  clock : HasTicked on.past.readings on.past.answered old.moment first.clock now.clock
  clock = subst (λ ms. HasTicked on.past.readings ms old.moment first.clock now.clock) same on.clock

  enough : length (commands_of on.past.answered) ≤ length on.past.readings
  enough = let once = clock.once in omega (arith, once)

  as_many : length on.past.replies ≡ length (commands_of on.past.answered)
  as_many =
      let moments = moments_count 0 on.past.readings in
      let le = enough in
      replies_count (asked_for s on.past.answered on.past.readings) on.past.replies on.output.each
      ∙ questions_count s.named s.trustees (commands_of on.past.answered) (moments_of on.past.readings) (omega (arith, moments, le))

  module _ (fault : Fault) (intake : Intake) (some : unfed old.intake ≢ [])
      (is : IsIntake s.limit on.past.text (on.past.answered ++ message.Fault fault ∷ []) intake) where
    fault_same : asked_for s (on.past.answered ++ message.Fault fault ∷ []) on.past.readings ≡ asked_for s on.past.answered on.past.readings
    fault_same = ap (λ cs. questions_each s.named s.trustees cs (moments_of on.past.readings)) (commands_same on.past.answered fault)

    fault_on : (new : Session) → new ≡ record old { intake = intake; gathered = old.gathered ++ bytes_of (shown_of_fault fault) } → IsOn view s marks new first now books
    fault_on new e = subst (λ session. IsOn view s marks session first now books) (sym e) (record {
      past = record on.past { answered = on.past.answered ++ message.Fault fault ∷ []; begun = [] };
      input =
          subst (λ quit. HasCome s.limit on.past.text ((on.past.answered ++ message.Fault fault ∷ []) ++ []) intake quit old.at_end old.too_much first.input now.input) (sym no_quit)
          (subst (λ ms. HasCome s.limit on.past.text ms intake false old.at_end old.too_much first.input now.input) (sym (append-nil (on.past.answered ++ message.Fault fault ∷ [])))
          (come_more s.limit on.past.text on.past.answered (message.Fault fault) old.intake intake old.at_end old.too_much first.input now.input input some is));
      clock =
          subst (λ ms. HasTicked on.past.readings ms old.moment first.clock now.clock) (sym (append-nil (on.past.answered ++ message.Fault fault ∷ [])))
          (ticked_still on.past.readings on.past.answered fault old.moment first.clock now.clock clock);
      output = record {
        each = subst (λ qs. HaveReplies qs on.past.replies) (sym fault_same) on.output.each;
        is_written = on.output.is_written;
        gathered_is =
            sym (append_assoc on.past.written old.gathered (bytes_of (shown_of_fault fault)))
            ∙ ap (λ bytes. bytes ++ bytes_of (shown_of_fault fault)) on.output.gathered_is
            ∙ sym (shown_fault on.past.answered on.past.replies fault as_many);
      };
      client = subst (λ work. HasAskedOn view s marks (record on.past { answered = on.past.answered ++ message.Fault fault ∷ []; begun = [] }) old.moment work first.sides books) (sym idle)
          (idle_on view s marks (record on.past { answered = on.past.answered ++ message.Fault fault ∷ []; begun = [] }) old.moment first.sides books (record {
            begun = refl;
            was = known.was;
            answered = λ t below. subst (λ qs. HasAskedAll Missing (requests_at t (all_of qs)) (replies_at t (all_of qs) (all_of on.past.replies)) (first.sides t) (known.was t)) (sym fault_same) (known.answered t below);
            in_turn = subst (λ qs. AreAskedInTurn s.trustees qs on.past.replies first.sides marks) (sym fault_same) known.in_turn;
            was_is = known.was_is;
            asks = known.asks;
            none = known.none;
          }));
    })

    -- memory was wanting for its bytes: it is taken, and given up
    fault_lost : (new : Session) → new ≡ record old { intake = intake; stopped = Some NoMemory } → HasGivenUp view s marks new first now books
    fault_lost new e = subst (λ session. HasGivenUp view s marks session first now books) (sym e) (record {
      past = record on.past { begun = message.Fault fault ∷ [] };
      input =
          subst (λ quit. HasCome s.limit on.past.text (on.past.answered ++ message.Fault fault ∷ []) intake quit old.at_end old.too_much first.input now.input) (sym no_quit)
          (come_more s.limit on.past.text on.past.answered (message.Fault fault) old.intake intake old.at_end old.too_much first.input now.input input some is);
      clock = ticked_still on.past.readings on.past.answered fault old.moment first.clock now.clock clock;
      each = on.output.each;
      is_written = front_of first.output now.output on.past.written old.gathered _ on.output.is_written on.output.gathered_is;
      was = known.was;
      answered = known.answered;
      in_turn = known.in_turn;
      was_is = known.was_is;
      few = omega arith;
      asked = [];
      others = [];
      questions = append-nil _ ∙ ap all_of (sym fault_same);
      asks = subst (λ work. AsksFor view known.was [] work books) (sym idle) known.asks;
    })

    pub fault_taken : (new : Session) → HasGathered (shown_of_fault fault) (record old { intake = intake }) new → IsGoing view s marks new.stopped new first now books
    fault_taken new h =
        elim h [
          | inl e ↦ subst (λ stopped. IsGoing view s marks stopped new first now books) (sym (ap (λ session. session.stopped) e ∙ running)) (fault_on new e)
          | inr e ↦ subst (λ stopped. IsGoing view s marks stopped new first now books) (sym (ap (λ session. session.stopped) e)) (fault_lost new e)
        ]

  module _ (command : Command) (reading : ℕ) (later : SessionView) (same_input : later.input ≡ now.input) (same_output : later.output ≡ now.output)
      (read : Grows now.clock later.clock (reading ∷ [])) (intake : Intake) (some : unfed old.intake ≢ [])
      (is : IsIntake s.limit on.past.text (on.past.answered ++ message.Command command ∷ []) intake) where
    input_more : HasCome s.limit on.past.text (on.past.answered ++ message.Command command ∷ []) intake (is_quit_command command) old.at_end old.too_much first.input later.input
    input_more =
        subst (λ told. HasCome s.limit on.past.text (on.past.answered ++ message.Command command ∷ []) intake (is_quit_command command) old.at_end old.too_much first.input told) (sym same_input)
        (come_more s.limit on.past.text on.past.answered (message.Command command) old.intake intake old.at_end old.too_much first.input now.input input some is)

    clock_more : HasTicked (on.past.readings ++ reading ∷ []) (on.past.answered ++ message.Command command ∷ []) (latest old.moment reading) first.clock later.clock
    clock_more = ticked_more on.past.readings on.past.answered command old.moment reading first.clock now.clock later.clock clock read

    still : asked_for s on.past.answered (on.past.readings ++ reading ∷ []) ≡ asked_for s on.past.answered on.past.readings
    still = asked_still s on.past.answered on.past.readings reading enough

    output_still : HasShown s (record on.past { begun = message.Command command ∷ []; readings = on.past.readings ++ reading ∷ [] }) old.gathered first.output later.output
    output_still = record {
      each = subst (λ qs. HaveReplies qs on.past.replies) (sym still) on.output.each;
      is_written = subst (λ told. Grows first.output told on.past.written) (sym same_output) on.output.is_written;
      gathered_is = on.output.gathered_is;
    }

    answered_still : HasReplied s (record on.past { begun = message.Command command ∷ []; readings = on.past.readings ++ reading ∷ [] }) first.sides known.was
    answered_still = λ t below.
        subst (λ qs. HasAskedAll Missing (requests_at t (all_of qs)) (replies_at t (all_of qs) (all_of on.past.replies)) (first.sides t) (known.was t)) (sym still) (known.answered t below)

    in_turn_still : AreAskedInTurn s.trustees (asked_for s on.past.answered (on.past.readings ++ reading ∷ [])) on.past.replies first.sides marks
    in_turn_still = subst (λ qs. AreAskedInTurn s.trustees qs on.past.replies first.sides marks) (sym still) known.in_turn

    -- it is at work
    begun_on : (w : Work) → IsWork s.named s.trustees command (latest old.moment reading) [] w → left_of w.todo ≢ []
        → IsOn view s marks (record (with_command command reading (record old { intake = intake })) { work = Some w }) first later books
    begun_on w is_work left = record {
      past = record on.past { begun = message.Command command ∷ []; readings = on.past.readings ++ reading ∷ [] };
      input = input_more;
      clock = clock_more;
      output = output_still;
      client = record {
        was = known.was;
        answered = answered_still;
        in_turn = in_turn_still;
        was_is = known.was_is;
        asked = [];
        asks = known.asks w.asking.replies.items;
        at_work = (command, refl, is_work);
      };
    }

    -- memory was wanting for it
    begun_lost : HasGivenUp view s marks (without_memory (with_command command reading (record old { intake = intake }))) first later books
    begun_lost = record {
      past = record on.past { begun = message.Command command ∷ []; readings = on.past.readings ++ reading ∷ [] };
      input = input_more;
      clock = clock_more;
      each = output_still.each;
      is_written = front_of first.output later.output on.past.written old.gathered _ output_still.is_written on.output.gathered_is;
      was = known.was;
      answered = answered_still;
      in_turn = in_turn_still;
      was_is = known.was_is;
      few = omega arith;
      asked = [];
      others = questions_of s.named s.trustees command (latest_of 0 (on.past.readings ++ reading ∷ []));
      questions = sym (all_asked s (record on.past { begun = message.Command command ∷ []; readings = on.past.readings ++ reading ∷ [] }) command refl clock_more.once);
      asks = subst (λ work. AsksFor view known.was [] work books) (sym idle) known.asks;
    }

    pub command_taken : (new : Session) → length books.lanes.items ≡ s.trustees
        → HasBegun view command s.trustees (with_command command reading (record old { intake = intake })) new books → IsGoingOn view s marks new first later books
    command_taken new lanes h =
        elim h [
          | inl (w, is_work, left, e) ↦
              none_marked view s marks first later books new
              (goes_as view s marks first later books (record (with_command command reading (record old { intake = intake })) { work = Some w }) new e
              (goes_on view s marks first later books (record (with_command command reading (record old { intake = intake })) { work = Some w }) running (begun_on w (is_work s.named) left)))
          | inr others ↦
              elim others [
                | inl (w, is_work, none_left, f) ↦
                    finished_on view s marks first later books (with_command command reading (record old { intake = intake }))
                    (record on.past { begun = message.Command command ∷ []; readings = on.past.readings ++ reading ∷ [] }) idle running input_more clock_more output_still
                    w command refl known.was answered_still in_turn_still known.was_is [] (known.asks w.asking.replies.items) (is_work s.named) none_left lanes known.none new f
                | inr e ↦ none_marked view s marks first later books new
                    (goes_as view s marks first later books (without_memory (with_command command reading (record old { intake = intake }))) new e begun_lost)
              ]
        ]

  -- by what the intake says
  pub fault_next : (fault : Fault) (intake : Intake) → unfed old.intake ≢ [] → Takes s.limit on.past.text (taken on.past) (next.Fault fault) intake → (new : Session)
      → HasGathered (shown_of_fault fault) (record old { intake = intake }) new → IsGoing view s marks new.stopped new first now books
  fault_next fault intake some t new h =
      fault_taken fault intake some (subst (λ ms. IsIntake s.limit on.past.text (ms ++ message.Fault fault ∷ []) intake) same t.is) new h

  pub command_next : (command : Command) (reading : ℕ) (later : SessionView) → later.input ≡ now.input → later.output ≡ now.output → Grows now.clock later.clock (reading ∷ [])
      → (intake : Intake) → unfed old.intake ≢ [] → Takes s.limit on.past.text (taken on.past) (next.Command command) intake → (new : Session) → length books.lanes.items ≡ s.trustees
      → HasBegun view command s.trustees (with_command command reading (record old { intake = intake })) new books → IsGoingOn view s marks new first later books
  command_next command reading later same_input same_output read intake some t new lanes h =
      command_taken command reading later same_input same_output read intake some
      (subst (λ ms. IsIntake s.limit on.past.text (ms ++ message.Command command ∷ []) intake) same t.is) new lanes h

  pub more_next : (intake : Intake) → Takes s.limit on.past.text (taken on.past) next.More intake → IsOn view s marks (record old { intake = intake }) first now books
  more_next intake t = record {
    past = on.past;
    input = record {
      came = on.input.came;
      ended = λ e. ((on.input.ended e).0, t.more refl, (on.input.ended e).2);
      fits = on.input.fits;
      above = on.input.above;
      is_intake = t.is;
      until = on.input.until;
      quit_is = on.input.quit_is;
    };
    clock = on.clock;
    output = on.output;
    client = on.client;
  }

  -- whatever it was
  pub met :
      {W : Type 0} (n : Next) (later : SessionView) (intake : Intake) (new : Session) (clock clock_now : W) (went : Bool) → later.input ≡ now.input → later.output ≡ now.output
      → (clock_now ≡ clock → later.clock ≡ now.clock) → (unfed old.intake ≡ [] → n ≡ next.More) → Takes s.limit on.past.text (taken on.past) n intake
      → length books.lanes.items ≡ s.trustees
      → HasMet view s.trustees n now.clock later.clock clock clock_now (record old { intake = intake }) new books went → IsGoingOn view s marks new first later books
  met (next.Command command) later intake new clock clock_now went same_input same_output same_clock none t lanes (e, (reading, read, begun)) =
      command_next command reading later same_input same_output read intake (λ empty. let no = none empty in absurd cc) t new lanes begun
  met (next.Fault fault) later intake new clock clock_now went same_input same_output same_clock none t lanes (e, gathered, same) =
      none_marked view s marks first later books new
      (seen_going view s marks new first books now later same_input (same_clock same) same_output new.stopped
      (fault_next fault intake (λ empty. let no = none empty in absurd cc) t new gathered))
  met next.More later intake new clock clock_now went same_input same_output same_clock none t lanes (e, is, same) =
      none_marked view s marks first later books new
      (seen_going view s marks new first books now later same_input (same_clock same) same_output new.stopped
      (goes_as view s marks first now books (record old { intake = intake }) new is (goes_on view s marks first now books (record old { intake = intake }) running (more_next intake t))))
