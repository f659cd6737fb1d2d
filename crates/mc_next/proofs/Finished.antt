-- A command at work is finished: it is answered and its bytes are gathered, or memory is wanting.
use Rattle.std.proofs.Common.{◌≡◌, ℕ, inl, inr, List, [], ◌∷◌, ◌++◌, length, take, Option, Some, None, refl, sym, ap, subst, ◌∙◌, arith, append-nil}
use Rattle.std.specs.Prelude.{map}
use Rattle.std.proofs.lemmas.List.{take-append-le, take_all}
use Rattle.tm_base.specs.Visible.{Grows}
use Rattle.tm_asking.specs.Asking.{IsAsking, AreReplied, NoneCounts, sides_of, side_in}
use Rattle.tm_asking.specs.Questions.{requests_at, replies_at, HasAskedAll}
use Rattle.tm_client.proofs.Elements.{element_at}
use Rattle.mc_model.specs.declared.message.Command.{Command}
use Rattle.mc_model.specs.declared.message.Message.TheVariants as message
use Rattle.mc_model.specs.declared.reply.ShardReply.{ShardReply}
use Rattle.mc_model.specs.declared.reply.ShardReply.TheVariants.{Missing}
use Rattle.mc_model.specs.Rendering.{bytes_of}
use Rattle.mc_model.specs.Showing.{shown_of}
use Rattle.mc_next.specs.declared.session.Session.{Session}
use Rattle.mc_next.specs.declared.work.Work.{Work}
use Rattle.mc_next.specs.Parts.{StoreQuestion, StoreView, questions_of}
use Rattle.mc_next.specs.Clients.{StoreBooks}
use Rattle.mc_next.specs.Runs.{Setting, SessionView, WritesFront, asked_for, all_of, AreAskedInTurn, last_of}
use Rattle.mc_next.specs.Works.{left_of, question_of, IsWork}
use Rattle.mc_next.specs.Sessions.{Past, taken, latest_of, HasCome, HasTicked, HasShown, HasReplied, HasAskedOn, AsksFor, IsOn, HasGivenUp, IsGoing, IsGoingOn}
use Rattle.mc_next.specs.Deeds.{without_memory, HasFinished}
use Rattle.mc_next.proofs.Answered.{answered_with, same_taken, asked_with, replied_with, shown_with}
use Rattle.mc_next.proofs.Marked.{last_more, turn_more, IsAskedBetween}

-- what was written of something longer is a front of it
pub front_of : (before now : Option (List ℕ)) (written rest whole : List ℕ) → Grows before now written → written ++ rest ≡ whole → WritesFront before now whole
front_of before now written rest whole g e = λ old is.
    let front : take (length written) (written ++ rest) ≡ written = take-append-le (length written) written rest (omega arith) ∙ take_all (length written) written (omega arith) in
    (length written, g old is ∙ ap (λ l. Some (old ++ l)) (sym front ∙ ap (λ l. take (length written) l) e))

-- between the marks before and behind it the command at work asked its questions
pub replied_from :
    {D : Type 0} (view : D → StoreView) (s : Setting) (books : StoreBooks D) (was before : ℕ → StoreView) (asked : List StoreQuestion) (replies : List ShardReply)
    → length books.lanes.items ≡ s.trustees → was ≡ before → AreReplied view Missing was asked replies books
    → IsAskedBetween s.trustees asked replies before (sides_of view books)
replied_from view s books was before asked replies lanes same r = λ t below.
    let (lane, there) = element_at books.lanes.items t (omega (arith, below, lanes)) in
    let here : sides_of view books t ≡ view lane.side = ap (λ o. side_in view t o) there in
    subst (λ side. HasAskedAll Missing (requests_at t asked) (replies_at t asked replies) (before t) side) (sym here)
    (subst (λ sides. HasAskedAll Missing (requests_at t asked) (replies_at t asked replies) (sides t) (view lane.side)) same (r.at t lane there))

module _ {D : Type 0} (view : D → StoreView) (s : Setting) (marks : List (ℕ → StoreView)) (first now : SessionView) (books : StoreBooks D) where
  pub goes_on : (session : Session) → session.stopped ≡ None → IsOn view s marks session first now books → IsGoing view s marks session.stopped session first now books
  goes_on session running on = subst (λ stopped. IsGoing view s marks stopped session first now books) (sym running) on

  pub goes_as : (old new : Session) → new ≡ old → IsGoing view s marks old.stopped old first now books → IsGoing view s marks new.stopped new first now books
  goes_as old new e going = subst (λ session. IsGoing view s marks session.stopped session first now books) (sym e) going

module _ {D : Type 0} (view : D → StoreView) (s : Setting) (marks : List (ℕ → StoreView)) (first now : SessionView) (books : StoreBooks D) where
  module _ (old : Session) (p : Past) (idle : old.work ≡ None) (running : old.stopped ≡ None)
      (input : HasCome s.limit p.text (taken p) old.intake old.quit old.at_end old.too_much first.input now.input)
      (clock : HasTicked p.readings (taken p) old.moment first.clock now.clock) (output : HasShown s p old.gathered first.output now.output) where
    module _ (w : Work) (command : Command) (begun : p.begun ≡ message.Command command ∷ []) (was : ℕ → StoreView) (answered : HasReplied s p first.sides was)
        (in_turn : AreAskedInTurn s.trustees (asked_for s p.answered p.readings) p.replies first.sides marks) (was_is : was ≡ last_of first.sides marks)
        (asked : List StoreQuestion) (asks : IsAsking view Missing was asked w.asking.replies.items books)
        (is : IsWork s.named s.trustees command old.moment asked w) (none_left : left_of w.todo ≡ []) (lanes : length books.lanes.items ≡ s.trustees)
        (none : NoneCounts books) (new : Session) (f : HasFinished view w old new books) where
      all_of_it : asked ≡ questions_of s.named s.trustees command (latest_of 0 p.readings)
      all_of_it =
          sym (append-nil asked) ∙ ap (λ l. asked ++ map (question_of s.named s.trustees) l) (sym none_left) ∙ is.questions
          ∙ ap (λ moment. questions_of s.named s.trustees command moment) clock.latest_is

      both : AreReplied view Missing was asked f.replies books × ((more : List ShardReply) → IsAsking view Missing (sides_of view books) [] more books)
      both = f.replied was asked is.many asks

      replied : AreReplied view Missing was (questions_of s.named s.trustees command (latest_of 0 p.readings)) f.replies books
      replied = subst (λ qs. AreReplied view Missing was qs f.replies books) all_of_it both.0

      many : length (questions_of s.named s.trustees command (latest_of 0 p.readings)) ≡ length f.replies
      many = sym replied.each

      now_answered : HasReplied s (answered_with p f.replies) first.sides (sides_of view books)
      now_answered = replied_with s p command begun clock.once output.each f.replies many view books first.sides was lanes answered replied

      now_shown : HasShown s (answered_with p f.replies) (old.gathered ++ bytes_of (shown_of command f.replies)) first.output now.output
      now_shown = shown_with s p command begun clock.once output.each f.replies many old.gathered first.output now.output output

      abbrev pub now_marks : List (ℕ → StoreView)
      now_marks = marks ++ sides_of view books ∷ []

      now_in_turn : AreAskedInTurn s.trustees (asked_for s (taken p) p.readings) (p.replies ++ f.replies ∷ []) first.sides now_marks
      now_in_turn =
          subst (λ qs. AreAskedInTurn s.trustees qs (p.replies ++ f.replies ∷ []) first.sides now_marks) (sym (asked_with s p command begun clock.once))
          (turn_more s.trustees (asked_for s p.answered p.readings) p.replies first.sides marks (questions_of s.named s.trustees command (latest_of 0 p.readings)) f.replies
          (sides_of view books) in_turn (replied_from view s books was (last_of first.sides marks) _ f.replies lanes was_is replied))

      now_last : sides_of view books ≡ last_of first.sides now_marks
      now_last = sym (last_more first.sides marks (sides_of view books))

      gathered_on : IsOn view s now_marks (record old { gathered = old.gathered ++ bytes_of (shown_of command f.replies) }) first now books
      gathered_on = record {
        past = answered_with p f.replies;
        input = subst (λ ms. HasCome s.limit p.text ms old.intake old.quit old.at_end old.too_much first.input now.input) (sym (same_taken s p command begun f.replies)) input;
        clock = subst (λ ms. HasTicked p.readings ms old.moment first.clock now.clock) (sym (same_taken s p command begun f.replies)) clock;
        output = now_shown;
        client = subst (λ work. HasAskedOn view s now_marks (answered_with p f.replies) old.moment work first.sides books) (sym idle) (record {
          was = sides_of view books;
          answered = now_answered;
          in_turn = now_in_turn;
          was_is = now_last;
          asked = [];
          asks = both.1;
          at_work = (refl, refl, none);
        });
      }

      given_up : HasGivenUp view s now_marks (without_memory old) first now books
      given_up = record {
        past = answered_with p f.replies;
        input = subst (λ ms. HasCome s.limit p.text ms old.intake old.quit old.at_end old.too_much first.input now.input) (sym (same_taken s p command begun f.replies)) input;
        clock = subst (λ ms. HasTicked p.readings ms old.moment first.clock now.clock) (sym (same_taken s p command begun f.replies)) clock;
        each = now_shown.each;
        is_written = front_of first.output now.output p.written (old.gathered ++ bytes_of (shown_of command f.replies)) _ output.is_written now_shown.gathered_is;
        was = sides_of view books;
        answered = now_answered;
        in_turn = now_in_turn;
        was_is = now_last;
        few = omega arith;
        asked = [];
        others = [];
        questions = append-nil _ ∙ ap (λ ms. all_of (asked_for s ms p.readings)) (sym (append-nil (p.answered ++ p.begun)));
        asks = subst (λ work. AsksFor view (sides_of view books) [] work books) (sym idle) both.1;
      }

      pub finished : IsGoing view s now_marks new.stopped new first now books
      finished =
          elim (f.shows command is.frame) [
            | inl e ↦ goes_as view s now_marks first now books (record old { gathered = old.gathered ++ bytes_of (shown_of command f.replies) }) new e
                (goes_on view s now_marks first now books (record old { gathered = old.gathered ++ bytes_of (shown_of command f.replies) }) running gathered_on)
            | inr e ↦ goes_as view s now_marks first now books (without_memory old) new e given_up
          ]

      -- and that is a mark
      pub finished_on : IsGoingOn view s marks new first now books
      finished_on = (sides_of view books ∷ [], inr (refl, none), finished)
