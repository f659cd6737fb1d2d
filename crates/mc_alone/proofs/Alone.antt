-- One client meets one store.
use Rattle.std.proofs.Common.{◌≡◌, ◌≢◌, ℕ, zero, suc, ◌+◌, ◌^◌, ◌<◌, ◌≤◌, Bool, true, false, List, [], ◌∷◌, ◌++◌, length, take, Option, refl, sym, ◌∙◌, ap, subst, arith, append_assoc, length-append}
use Rattle.std.specs.Prelude.{slice_get, if◌then◌else◌}
use Rattle.std.specs.declared.option.Option.TheVariants.{Some}
use Rattle.std.proofs.lemmas.List.{length-take}
use Rattle.tm_base.specs.Visible.{Grows}
use Rattle.tm_client.specs.declared.trust.Trust.{Trust}
use Rattle.tm_pair.specs.Plain.{client_at}
use Rattle.tm_turns.specs.Making.{HasBuilt}
use Rattle.tm_turns.specs.Whole.{HasLane}
use Rattle.tm_asking.specs.Asking.{side_in, sides_of}
use Rattle.mc_item.specs.declared.limits.TheConstants.{MOST_ITEMS}
use Rattle.mc_model.specs.declared.message.Command.{Command}
use Rattle.mc_model.specs.declared.message.Message.{Message}
use Rattle.mc_model.specs.declared.message.Message.TheVariants as message
use Rattle.mc_model.specs.declared.reply.ShardReply.{ShardReply}
use Rattle.mc_model.specs.Line.{IsLine}
use Rattle.mc_model.specs.Moments.{latest, moments_from, moments_of}
use Rattle.mc_model.specs.Plain.{Plain, new_store, Runs}
use Rattle.mc_model.specs.Quits.{is_quit, has_quit, until_quit}
use Rattle.mc_model.specs.Rendering.{rendered}
use Rattle.mc_model.specs.Showing.{commands_of, shown_of_all}
use Rattle.mc_model.specs.Stream.{Spelled, Reads}
use Rattle.mc_laws.specs.Classes.{new_classes}
use Rattle.mc_laws.specs.Laws.{ClassesRunAsOne}
use Rattle.mc_route.specs.Places.{store_first}
use Rattle.mc_next.specs.declared.ended.Ended.{Ended}
use Rattle.mc_next.specs.declared.ended.Ended.TheVariants.{AtEnd, Quit, Inside, ReadFault, WriteFault, TooMuch, NoMemory}
use Rattle.mc_next.specs.Parts.{Named, StoreView, questions_of, questions_each, store_kind}
use Rattle.mc_next.specs.Runs.{Setting, SessionView, HaveReplies, AreAskedInTurn, IsWholeRun, IsBrokenRun, WholeInTurn, BrokenInTurn, IsInTurn, HasRun, HasRead, HasAnswered, HasStopped, IsOver}
use Rattle.mc_next.specs.Sessions.{IsOf, seen}
use Rattle.mc_solo.specs.Serving.{StoreTurns, StoreClient, store_view, store_config, AreMarked}
use Rattle.mc_alone.specs.Classes.{StoreLane}
use Rattle.mc_alone.specs.Laws.{OneClientMeetsOneStore}
use Rattle.mc_alone.specs.Outputs.{AreAnswered, AreBegun, IsAnswered, IsBegun, HasAnsweredAsOne}
use Rattle.mc_alone.proofs.Chain.{Laws, AreNames, chain}
use Rattle.mc_alone.proofs.First.{are_names, first_stands}

-- ---- as many messages as bytes at most

line_long : (line : List ℕ) → IsLine line → 1 ≤ length line
line_long [] is = absurd is
line_long (b ∷ line) is = omega arith

spelled_long : (bytes : List ℕ) (messages : List Message) → Spelled bytes messages → length messages ≤ length bytes
spelled_long bytes [] is = omega arith
spelled_long bytes (m ∷ messages) (first, others, parts, spells, rest) =
    let more = spelled_long others messages rest in
    let one = line_long spells.line spells.is_line in
    let long = ap length parts ∙ length-append first others in
    let own = ap length spells.parts ∙ length-append spells.line spells.rest in
    omega (arith, more, one, long, own)

reads_few : (limit : ℕ) (text : List ℕ) (messages : List Message) (rest : List ℕ) → Reads (take limit text) messages rest → length messages ≤ limit
reads_few limit text messages rest reads =
    let long = spelled_long reads.front messages reads.spelled in
    let cut = ap length reads.parts ∙ length-append reads.front rest in
    let few = length-take limit text in
    omega (arith, long, cut, few)

commands_few : (messages : List Message) → length (commands_of messages) ≤ length messages
commands_few [] = omega arith
commands_few (message.Command c ∷ messages) = let more = commands_few messages in omega (arith, more)
commands_few (message.Fault f ∷ messages) = let more = commands_few messages in omega (arith, more)

either_few : (b : Bool) (m : Message) (ms messages : List Message) → length ms ≤ length messages → length (m ∷ (if b then [] else ms)) ≤ length (m ∷ messages)
either_few true m ms messages le = omega arith
either_few false m ms messages le = omega (arith, le)

until_few : (messages : List Message) → length (until_quit messages) ≤ length messages
until_few [] = omega arith
until_few (m ∷ messages) = either_few (is_quit m) m (until_quit messages) messages (until_few messages)

commands-append : (xs ys : List Message) → commands_of (xs ++ ys) ≡ commands_of xs ++ commands_of ys
commands-append [] ys = refl
commands-append (message.Command c ∷ xs) ys = ap (λ l. c ∷ l) (commands-append xs ys)
commands-append (message.Fault f ∷ xs) ys = commands-append xs ys

-- ---- moments

moments_long : (moment : ℕ) (readings : List ℕ) → length (moments_from moment readings) ≡ length readings
moments_long moment [] = refl
moments_long moment (r ∷ readings) = ap suc (moments_long (latest moment r) readings)

-- the first commands are asked at the moments of the first readings
front_asked : (named : Named) (trustees moment : ℕ) (commands : List Command) (xs ys : List ℕ) → length xs ≡ length commands
    → questions_each named trustees commands (moments_from moment (xs ++ ys)) ≡ questions_each named trustees commands (moments_from moment xs)
front_asked named trustees moment [] xs ys e = refl
front_asked named trustees moment (c ∷ commands) [] ys e = absurd (omega (arith, e))
front_asked named trustees moment (c ∷ commands) (x ∷ xs) ys e = ap (λ l. questions_of named trustees c (latest moment x) ∷ l) (front_asked named trustees (latest moment x) commands xs ys (omega (arith, e)))

split_at : {X : Type 0} (n m : ℕ) (xs : List X) → length xs ≡ n + m → (front : List X) × (rest : List X) × (xs ≡ front ++ rest) × (length front ≡ n) × (length rest ≡ m)
split_at zero m xs e = ([], xs, refl, refl, omega (arith, e))
split_at (suc n) m [] e = absurd (omega (arith, e))
split_at (suc n) m (x ∷ xs) e =
    let (front, rest, is, many, others) = split_at n m xs (omega (arith, e)) in
    (x ∷ front, rest, ap (λ l. x ∷ l) is, omega (arith, many), others)

module _ (trustees bound : ℕ) (laws : Laws) (as_one : ClassesRunAsOne) (most : bound ≤ MOST_ITEMS) (turns : StoreTurns) (trusts : List Trust)
    (b : HasBuilt store_kind (store_config 1 trustees) (store_first 1 trustees bound) turns (trusts ∷ [])) (s : Setting) (of : IsOf s trusts trustees) (limit : s.limit < 2 ^ 64)
    (client : StoreClient) (of_client : slice_get turns.clients.items 0 ≡ Some client) (left readings written : Option (List ℕ)) where
  abbrev before : SessionView
  before = seen store_view client.books left readings written

  names : AreNames trustees s.named
  names = subst (AreNames trustees) (sym of.names) (are_names trustees bound turns trusts b laws.found)

  before_is : (t : ℕ) (lane : StoreLane) → HasLane turns 0 t lane → before.sides t ≡ client_at lane.side
  before_is t lane has =
      let both : Some has.client ≡ Some client = sym has.of_client ∙ of_client in
      let same : has.client ≡ client = cc in
      ap (λ (x : StoreClient). sides_of store_view x.books t) (sym same) ∙ ap (λ o. side_in store_view t o) has.of_lane

  -- the plain store has the replies to commands that were asked in turn
  plain : (commands : List Command) (times : List ℕ) (replies : List (List ShardReply)) (marks : List (ℕ → StoreView)) (states : List StoreTurns) → length times ≡ length commands
      → length commands < 2 ^ 64 → HaveReplies (questions_each s.named s.trustees commands (moments_of times)) replies
      → AreAskedInTurn s.trustees (questions_each s.named s.trustees commands (moments_of times)) replies before.sides marks → AreMarked 0 turns states marks
      → (q : Plain) × Runs (new_store bound) commands (moments_of times) replies q
  plain commands times replies marks states many few each asked marked =
      let (after, runs) = chain trustees bound b.are.buildable.trustees.0 laws s.named names commands (moments_of times) replies before.sides marks states 0 (new_classes bound) turns
      (first_stands trustees bound turns trusts b) before_is (moments_long 0 times ∙ many) (omega (arith, few))
      (subst (λ n. HaveReplies (questions_each s.named n commands (moments_of times)) replies) of.trustees_are each)
      (subst (λ n. AreAskedInTurn n (questions_each s.named n commands (moments_of times)) replies before.sides marks) of.trustees_are asked) marked in
      as_one bound commands times replies after most runs

  module _ (after : SessionView) (marks : List (ℕ → StoreView)) (states : List StoreTurns) (marked : AreMarked 0 turns states marks) where
    whole : (messages : List Message) (run : IsWholeRun s messages before after) → WholeInTurn s marks messages before after run → length (commands_of messages) < 2 ^ 64 → AreAnswered bound messages before after
    whole messages run in_turn few =
        let (q, runs) = plain (commands_of messages) run.readings run.replies marks states run.once few run.each in_turn marked in record {
          readings = run.readings;
          output = rendered (shown_of_all messages run.replies);
          is_read = run.is_read;
          outputs = record { replies = run.replies; store = q; runs = runs; shows = refl };
          is_written = run.is_written;
        }

    broken : (messages : List Message) (run : IsBrokenRun s messages before after) → BrokenInTurn s marks messages before after run → length (commands_of messages) < 2 ^ 64 → AreBegun bound messages before after
    broken messages run (in_turn, one) few =
        let all = ap commands_of run.parts ∙ commands-append (run.answered ++ run.others) run.untaken in
        let taken = commands-append run.answered run.others in
        let long = ap length all ∙ length-append (commands_of (run.answered ++ run.others)) (commands_of run.untaken) in
        let both = ap length taken ∙ length-append (commands_of run.answered) (commands_of run.others) in
        let (front, rest, is, many, others) = split_at (length (commands_of run.answered)) (length (commands_of run.others)) run.readings (run.once ∙ both) in
        let same : questions_each s.named s.trustees (commands_of run.answered) (moments_of run.readings) ≡ questions_each s.named s.trustees (commands_of run.answered) (moments_of front) =
        ap (λ l. questions_each s.named s.trustees (commands_of run.answered) (moments_of l)) is ∙ front_asked s.named s.trustees 0 (commands_of run.answered) front rest many in
        let (q, runs) = plain (commands_of run.answered) front run.replies marks states many (omega (arith, few, long, both))
        (subst (λ qs. HaveReplies qs run.replies) same run.each) (subst (λ qs. AreAskedInTurn s.trustees qs run.replies before.sides marks) same in_turn) marked in record {
          seen = run.answered;
          unseen = run.others ++ run.untaken;
          parts = run.parts ∙ append_assoc run.answered run.others run.untaken;
          readings = front;
          last_reading = rest;
          once = omega (arith, others, one);
          output = rendered (shown_of_all run.answered run.replies);
          is_read = subst (λ l. Grows before.clock after.clock l) is run.is_read;
          outputs = record { replies = run.replies; store = q; runs = runs; shows = refl };
          is_written = run.is_written;
        }

    few_read : (text : List ℕ) (messages : List Message) (rest : List ℕ) → HasRead s before after text messages rest → length (commands_of (until_quit messages)) < 2 ^ 64
    few_read text messages rest has_read =
        let long = reads_few s.limit text messages rest has_read.reads in
        let one = commands_few (until_quit messages) in
        let two = until_few messages in
        omega (arith, limit, long, one, two)

    answered : (Ends : List ℕ → List Message → List ℕ → Type 0) (h : HasAnswered s before after Ends) → WholeInTurn s marks (until_quit h.messages) before after h.run → IsAnswered bound s before after Ends
    answered Ends h in_turn = record {
      text = h.text;
      messages = h.messages;
      rest = h.rest;
      has_read = h.has_read;
      ends = h.ends;
      answered = whole (until_quit h.messages) h.run in_turn (few_read h.text h.messages h.rest h.has_read);
    }

    begun : (h : HasStopped s before after) → BrokenInTurn s marks (until_quit h.messages) before after h.run → IsBegun bound s before after
    begun h in_turn = record {
      text = h.text;
      messages = h.messages;
      rest = h.rest;
      has_read = h.has_read;
      begun = broken (until_quit h.messages) h.run in_turn (few_read h.text h.messages h.rest h.has_read);
    }

    as_store : (ended : Ended) (run : HasRun s ended before after) → IsInTurn s marks ended before after run → HasAnsweredAsOne bound s ended before after
    as_store AtEnd run in_turn = answered (λ text messages rest. IsOver s before after text messages × (rest ≡ [])) run in_turn
    as_store Inside run in_turn = answered (λ text messages rest. IsOver s before after text messages × (rest ≢ [])) run in_turn
    as_store Quit run in_turn = answered (λ text messages rest. has_quit messages ≡ true) run in_turn
    as_store TooMuch run in_turn = answered (λ text messages rest. (has_quit messages ≡ false) × (s.limit < length text)) run in_turn
    as_store ReadFault run in_turn = answered (λ text messages rest. (has_quit messages ≡ false) × (length text ≤ s.limit)) run in_turn
    as_store WriteFault run in_turn = begun run in_turn
    as_store NoMemory run in_turn = begun run in_turn

pub one_client_meets_one_store : Laws → ClassesRunAsOne → OneClientMeetsOneStore
one_client_meets_one_store laws as_one trustees bound limit trusts turns new ended left left_new readings readings_new written written_new most below b served s client becomes limit_is of of_client of_becomes =
    let tables = b.are.as_many_tables in
    let of_tables : IsOf s trusts (length turns.tables.items) = record { names = of.names; trustees_are = of.trustees_are ∙ sym tables } in
    let (marks, states, run, in_turn, marked, goes) = served s client becomes limit_is of_tables of_client of_becomes in
    as_store trustees bound laws as_one most turns trusts b s of (subst (λ n. n < 2 ^ 64) (sym limit_is) below) client of_client left readings written
    (seen store_view becomes.books left_new readings_new written_new) marks states marked ended run in_turn
