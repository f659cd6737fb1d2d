-- What holds of a session does not change by what the sides tell, but for what was asked and replied, and goes on by turns.
use Rattle.std.proofs.Common.{◌≡◌, ℕ, List, Option, Some, None, sym, subst}
use Rattle.tm_asking.specs.Asking.{IsAsking}
use Rattle.mc_model.specs.declared.message.Message.{Message}
use Rattle.mc_model.specs.declared.reply.ShardReply.{ShardReply}
use Rattle.mc_model.specs.declared.reply.ShardReply.TheVariants.{Missing}
use Rattle.mc_model.specs.Rendering.{rendered}
use Rattle.mc_model.specs.Showing.{shown_of_all}
use Rattle.tm_base.specs.Visible.{Grows}
use Rattle.mc_next.specs.declared.ended.Ended.{Ended}
use Rattle.mc_next.specs.declared.ended.Ended.TheVariants.{AtEnd, Quit, Inside, ReadFault, WriteFault, TooMuch, NoMemory}
use Rattle.mc_next.specs.declared.session.Session.{Session}
use Rattle.mc_next.specs.declared.work.Work.{Work}
use Rattle.mc_next.specs.Parts.{StoreQuestion, StoreView}
use Rattle.mc_next.specs.Clients.{StoreBooks}
use Rattle.mc_next.specs.Runs.{Setting, SessionView, WritesFront}
use Rattle.mc_next.specs.Sessions.{taken, HasCome, HasTicked, HasAskedOn, AsksFor, IsAtWork, IsOn, HasGivenUp, HasStoppedFor, IsGoing}

-- what was asked of a client, and what of its replies was taken, is so too of another
abbrev pub AsksOn : {D : Type 0} → (D → StoreView) → StoreBooks D → StoreBooks D → Type 0
AsksOn view books books_new = (was : ℕ → StoreView) (asked : List StoreQuestion) (replies : List ShardReply) → IsAsking view Missing was asked replies books → IsAsking view Missing was asked replies books_new

module _ {D : Type 0} (view : D → StoreView) (s : Setting) (marks : List (ℕ → StoreView)) (session : Session) (first : SessionView) where
  asks_on : (books books_new : StoreBooks D) → AsksOn view books books_new → (was : ℕ → StoreView) (asked : List StoreQuestion) (work : Option Work)
      → AsksFor view was asked work books → AsksFor view was asked work books_new
  asks_on books books_new f was asked None asks = λ replies. f was asked replies (asks replies)
  asks_on books books_new f was asked (Some w) asks = f was asked w.asking.replies.items asks

  at_work_on : (books books_new : StoreBooks D) (begun : List Message) (moment : ℕ) (asked : List StoreQuestion) (work : Option Work) (w : Work) → work ≡ Some w
      → IsAtWork s begun moment asked work books → IsAtWork s begun moment asked work books_new
  at_work_on books books_new begun moment asked None w e h = absurd cc
  at_work_on books books_new begun moment asked (Some v) w e h = h

  module _ (books books_new : StoreBooks D) (now later : SessionView) (same_input : later.input ≡ now.input) (same_clock : later.clock ≡ now.clock)
      (same_output : later.output ≡ now.output) where
    pub turned_given : AsksOn view books books_new → HasGivenUp view s marks session first now books → HasGivenUp view s marks session first later books_new
    turned_given f g = record {
      past = g.past;
      input = subst (λ told. HasCome s.limit g.past.text (taken g.past) session.intake session.quit session.at_end session.too_much first.input told) (sym same_input) g.input;
      clock = subst (λ told. HasTicked g.past.readings (taken g.past) session.moment first.clock told) (sym same_clock) g.clock;
      each = g.each;
      is_written = subst (λ told. WritesFront first.output told (rendered (shown_of_all g.past.answered g.past.replies))) (sym same_output) g.is_written;
      was = g.was;
      answered = g.answered;
      in_turn = g.in_turn;
      was_is = g.was_is;
      few = g.few;
      asked = g.asked;
      others = g.others;
      questions = g.questions;
      asks = asks_on books books_new f g.was g.asked session.work g.asks;
    }

    on_with : (on : IsOn view s marks session first now books) → HasAskedOn view s marks on.past session.moment session.work first.sides books_new → IsOn view s marks session first later books_new
    on_with on client = record {
      past = on.past;
      input = subst (λ told. HasCome s.limit on.past.text (taken on.past) session.intake session.quit session.at_end session.too_much first.input told) (sym same_input) on.input;
      clock = subst (λ told. HasTicked on.past.readings (taken on.past) session.moment first.clock told) (sym same_clock) on.clock;
      output = record {
        each = on.output.each;
        is_written = subst (λ told. Grows first.output told on.past.written) (sym same_output) on.output.is_written;
        gathered_is = on.output.gathered_is;
      };
      client = client;
    }

    pub turned_on : (w : Work) → session.work ≡ Some w → AsksOn view books books_new → IsOn view s marks session first now books → IsOn view s marks session first later books_new
    turned_on w e f on = on_with on (record {
      was = on.client.was;
      answered = on.client.answered;
      in_turn = on.client.in_turn;
      was_is = on.client.was_is;
      asked = on.client.asked;
      asks = asks_on books books_new f on.client.was on.client.asked session.work on.client.asks;
      at_work = at_work_on books books_new on.past.begun session.moment on.client.asked session.work w e on.client.at_work;
    })

  module _ (books : StoreBooks D) (now later : SessionView) (same_input : later.input ≡ now.input) (same_clock : later.clock ≡ now.clock)
      (same_output : later.output ≡ now.output) where
    pub seen_on : IsOn view s marks session first now books → IsOn view s marks session first later books
    seen_on on = on_with books books now later same_input same_clock same_output on on.client

    pub seen_given : HasGivenUp view s marks session first now books → HasGivenUp view s marks session first later books
    seen_given g = turned_given books books now later same_input same_clock same_output (λ was asked replies is. is) g

    seen_stopped : (why : Ended) → HasStoppedFor view s marks why session first now books → HasStoppedFor view s marks why session first later books
    seen_stopped AtEnd h = absurd h
    seen_stopped Quit h = absurd h
    seen_stopped Inside h = absurd h
    seen_stopped ReadFault h = (seen_on h.0, h.1, h.2, h.3, h.4, h.5)
    seen_stopped WriteFault h = seen_given h
    seen_stopped TooMuch h = absurd h
    seen_stopped NoMemory h = seen_given h

    pub seen_going : (stopped : Option Ended) → IsGoing view s marks stopped session first now books → IsGoing view s marks stopped session first later books
    seen_going None on = seen_on on
    seen_going (Some why) h = seen_stopped why h
