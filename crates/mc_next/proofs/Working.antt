-- The command at work goes on: some of it is asked, and some replies are taken.
use Rattle.std.proofs.Common.{◌≡◌, ℕ, ◌+◌, List, [], ◌∷◌, ◌++◌, length, Some, None, refl, sym, ap, subst, ◌∙◌, arith, append_assoc, append-nil, length-append}
use Rattle.std.specs.Prelude.{map}
use Rattle.std.specs.List.{AllByRecursion}
use Rattle.std.proofs.lemmas.List.{map-append, length-map}
use Rattle.tm_client.specs.declared.trust.Trust.{Trust}
use Rattle.tm_asking.specs.Asking.{IsAsking, NoneCounts, sides_of}
use Rattle.mc_model.specs.declared.message.Command.{Command}
use Rattle.mc_model.specs.declared.reply.ShardReply.TheVariants.{Missing}
use Rattle.mc_next.specs.declared.piece.Piece.{Piece}
use Rattle.mc_next.specs.declared.session.Session.{Session}
use Rattle.mc_next.specs.declared.work.Work.{Work}
use Rattle.mc_next.specs.Parts.{Named, StoreQuestion, StoreView}
use Rattle.mc_next.specs.Clients.{StoreBooks, AreStoreTrusts}
use Rattle.mc_next.specs.Runs.{Setting, SessionView}
use Rattle.mc_next.specs.Works.{left_of, question_of, named_by, IsOfStore, IsWork, MayAskFor, HasAskedPieces, HasTakenReplies}
use Rattle.mc_next.specs.Sessions.{IsOn, IsGoing, IsOf}
use Rattle.mc_next.specs.Deeds.{HasFinished}
use Rattle.mc_next.proofs.Clients.{keeps_none, keeps_then, waits_none, waits_then, trusts_stay}
use Rattle.mc_next.proofs.Finished.{finished}

pub all_behind : (P : Piece → Type 0) (xs ys : List Piece) → AllByRecursion P (xs ++ ys) → AllByRecursion P ys
all_behind P [] ys h = h
all_behind P (x ∷ xs) ys h = all_behind P xs ys h.1

module _ (named : Named) (trustees : ℕ) (command : Command) (moment : ℕ) (asked : List StoreQuestion) (w : Work) (is : IsWork named trustees command moment asked w) where
  -- pieces of it were asked
  pub work_asked : (pieces : List Piece) (w_new : Work) → left_of w.todo ≡ pieces ++ left_of w_new.todo → w_new.frame ≡ w.frame
      → w_new.asking.asked ≡ w.asking.asked + length pieces → w_new.asking.replies ≡ w.asking.replies
      → IsWork named trustees command moment (asked ++ map (question_of named trustees) pieces) w_new
  work_asked pieces w_new left frame many replies = record {
    frame = frame ∙ is.frame;
    questions =
        append_assoc asked (map (question_of named trustees) pieces) (map (question_of named trustees) (left_of w_new.todo))
        ∙ ap (λ l. asked ++ l) (sym (map-append (question_of named trustees) pieces (left_of w_new.todo)) ∙ ap (λ l. map (question_of named trustees) l) (sym left))
        ∙ is.questions;
    many =
        let joined = length-append asked (map (question_of named trustees) pieces) in
        let mapped = length-map pieces (question_of named trustees) in
        let before = is.many in
        omega (arith, joined, mapped, before, many);
    room = ap (λ r. length r.items) replies ∙ is.room;
    classes = all_behind IsOfStore pieces (left_of w_new.todo) (subst (λ l. AllByRecursion IsOfStore l) left is.classes);
  }

  -- replies to it were taken
  pub work_taken : (w_new : Work) → w_new.frame ≡ w.frame → w_new.todo ≡ w.todo → w_new.asking.asked ≡ w.asking.asked
      → length w_new.asking.replies.items ≡ length w.asking.replies.items → IsWork named trustees command moment asked w_new
  work_taken w_new frame todo many replies = record {
    frame = frame ∙ is.frame;
    questions = ap (λ t. asked ++ map (question_of named trustees) (left_of t)) todo ∙ is.questions;
    many = is.many ∙ sym many;
    room = replies ∙ is.room;
    classes = subst (λ t. AllByRecursion IsOfStore (left_of t)) (sym todo) is.classes;
  }

  -- what is asked and what is left are as many as there are places
  pub all_have_places : w.asking.asked + length (left_of w.todo) ≡ length w.asking.replies.items
  all_have_places =
      let joined = length-append asked (map (question_of named trustees) (left_of w.todo)) in
      let mapped = length-map (left_of w.todo) (question_of named trustees) in
      let all = ap length is.questions in
      let many = is.many in
      let room = is.room in
      omega (arith, joined, mapped, all, many, room)

  pub all_are_asked : left_of w.todo ≡ [] → w.asking.asked ≡ length w.asking.replies.items
  all_are_asked none = let all = all_have_places in let empty = ap length none in omega (arith, all, empty)

module _ {D : Type 0} (view : D → StoreView) where
  -- no replies were taken, or some and then others
  pub taken_none : (w : Work) (books : StoreBooks D) → HasTakenReplies view w w books books
  taken_none w books = record {
    frame = refl;
    todo = refl;
    many = refl;
    replies = refl;
    asks = λ was asked is. is;
    keeps = keeps_none books;
    waits = waits_none books;
    client = λ openings is. is;
  }

  pub taken_then : (w w_mid w_new : Work) (books books_mid books_new : StoreBooks D) → HasTakenReplies view w w_mid books books_mid
      → HasTakenReplies view w_mid w_new books_mid books_new → HasTakenReplies view w w_new books books_new
  taken_then w w_mid w_new books books_mid books_new h k = record {
    frame = k.frame ∙ h.frame;
    todo = k.todo ∙ h.todo;
    many = k.many ∙ h.many;
    replies = k.replies ∙ h.replies;
    asks = λ was asked is. k.asks was asked (h.asks was asked is);
    keeps = keeps_then books books_mid books_new h.keeps k.keeps;
    waits = waits_then books books_mid books_new h.keeps h.waits k.waits;
    client = λ openings is. k.client openings (h.client openings is);
  }

  module _ (trusts : List Trust) where
    -- no pieces were asked, or some and then others
    pub asked_none : (w : Work) (books : StoreBooks D) → HasAskedPieces view trusts [] w w books books
    asked_none w books = record {
      frame = refl;
      many = omega arith;
      replies = refl;
      asks = λ was asked many is. subst (λ l. IsAsking view Missing was l w.asking.replies.items books) (sym (append-nil asked)) is;
      keeps = keeps_none books;
      client = λ openings is. is;
    }

    pub asked_then : (pieces more : List Piece) (w w_mid w_new : Work) (books books_mid books_new : StoreBooks D) → HasAskedPieces view trusts pieces w w_mid books books_mid
        → HasAskedPieces view trusts more w_mid w_new books_mid books_new → HasAskedPieces view trusts (pieces ++ more) w w_new books books_new
    asked_then pieces more w w_mid w_new books books_mid books_new h k =
        record {
          frame = k.frame ∙ h.frame;
          many = let joined = length-append pieces more in let one = h.many in let two = k.many in omega (arith, joined, one, two);
          replies = k.replies ∙ h.replies;
          asks = λ was asked many is.
              let first = h.asks was asked many is in
              let joined = length-append asked (map (question_of (named_by trusts) (length books.lanes.items)) pieces) in
              let mapped = length-map pieces (question_of (named_by trusts) (length books.lanes.items)) in
              let one = h.many in
              let then_asked = subst (λ n. IsAsking view Missing was ((asked ++ map (question_of (named_by trusts) (length books.lanes.items)) pieces) ++ map (question_of (named_by trusts) n) more) w_new.asking.replies.items books_new)
              h.keeps.many (k.asks was (asked ++ map (question_of (named_by trusts) (length books.lanes.items)) pieces) (omega (arith, many, joined, mapped, one)) first) in
              subst (λ l. IsAsking view Missing was l w_new.asking.replies.items books_new)
              (append_assoc asked (map (question_of (named_by trusts) (length books.lanes.items)) pieces) (map (question_of (named_by trusts) (length books.lanes.items)) more)
              ∙ ap (λ l. asked ++ l) (sym (map-append (question_of (named_by trusts) (length books.lanes.items)) pieces more)))
              then_asked;
          keeps = keeps_then books books_mid books_new h.keeps k.keeps;
          client = λ openings is. k.client openings (h.client openings is);
        }

    -- what is left changes nothing of what was asked
    pub asked_still : (pieces : List Piece) (w w_mid w_new : Work) (books books_new : StoreBooks D) → w_new.asking ≡ w_mid.asking → w_new.frame ≡ w_mid.frame
        → HasAskedPieces view trusts pieces w w_mid books books_new → HasAskedPieces view trusts pieces w w_new books books_new
    asked_still pieces w w_mid w_new books books_new asking frame h = record {
      frame = frame ∙ h.frame;
      many = ap (λ a. a.asked) asking ∙ h.many;
      replies = ap (λ a. a.replies) asking ∙ h.replies;
      asks = λ was asked many is.
          subst (λ a. IsAsking view Missing was (asked ++ map (question_of (named_by trusts) (length books.lanes.items)) pieces) a.replies.items books_new) (sym asking)
          (h.asks was asked many is);
      keeps = h.keeps;
      client = h.client;
    }

    pub may_still : (w w_new : Work) (books : StoreBooks D) → w_new.asking ≡ w.asking → MayAskFor view trusts w books → MayAskFor view trusts w_new books
    may_still w w_new books asking m = record {
      openings = m.openings;
      client = m.client;
      are_trusts = m.are_trusts;
      was = m.was;
      asked = m.asked;
      asks = subst (λ a. IsAsking view Missing m.was m.asked a.replies.items books) (sym asking) m.asks;
      many = m.many ∙ ap (λ a. a.asked) (sym asking);
    }

    -- a client at which pieces were asked may be asked others
    pub may_then : (pieces : List Piece) (w w_new : Work) (books books_new : StoreBooks D) → MayAskFor view trusts w books → HasAskedPieces view trusts pieces w w_new books books_new
        → MayAskFor view trusts w_new books_new
    may_then pieces w w_new books books_new m h = record {
      openings = m.openings;
      client = h.client m.openings m.client;
      are_trusts = subst (λ n. AreStoreTrusts n books_new trusts) (sym h.keeps.many) (trusts_stay (length books.lanes.items) books books_new trusts m.are_trusts h.keeps);
      was = m.was;
      asked = m.asked ++ map (question_of (named_by trusts) (length books.lanes.items)) pieces;
      asks = h.asks m.was m.asked m.many m.asks;
      many =
          let joined = length-append m.asked (map (question_of (named_by trusts) (length books.lanes.items)) pieces) in
          let mapped = length-map pieces (question_of (named_by trusts) (length books.lanes.items)) in
          let one = h.many in
          let before = m.many in
          omega (arith, joined, mapped, one, before);
    }

module _ {D : Type 0} (view : D → StoreView) (s : Setting) (marks : List (ℕ → StoreView)) (first now : SessionView) (trusts : List Trust) (old : Session) (w w_mid w_new : Work)
    (books books_mid books_new : StoreBooks D) (of : IsOf s trusts (length books.lanes.items)) (pieces : List Piece)
    (left : left_of w.todo ≡ pieces ++ left_of w_mid.todo) (asks : HasAskedPieces view trusts pieces w w_mid books books_mid)
    (takes : HasTakenReplies view w_mid w_new books_mid books_new) (on : IsOn view s marks (record old { work = Some w }) first now books) where
  same_question : question_of (named_by trusts) (length books.lanes.items) ≡ question_of s.named s.trustees
  same_question = ap (λ named. question_of named (length books.lanes.items)) (sym of.names) ∙ ap (λ n. question_of s.named n) (sym of.trustees_are)

  asks_more : IsAsking view Missing on.client.was (on.client.asked ++ map (question_of s.named s.trustees) pieces) w_new.asking.replies.items books_new
  asks_more =
      takes.asks on.client.was (on.client.asked ++ map (question_of s.named s.trustees) pieces)
      (subst (λ q. IsAsking view Missing on.client.was (on.client.asked ++ map q pieces) w_mid.asking.replies.items books_mid) same_question
      (asks.asks on.client.was on.client.asked on.client.at_work.2.many on.client.asks))

  is_more : IsWork s.named s.trustees on.client.at_work.0 old.moment (on.client.asked ++ map (question_of s.named s.trustees) pieces) w_new
  is_more =
      work_taken s.named s.trustees on.client.at_work.0 old.moment (on.client.asked ++ map (question_of s.named s.trustees) pieces) w_mid
      (work_asked s.named s.trustees on.client.at_work.0 old.moment on.client.asked w on.client.at_work.2 pieces w_mid left asks.frame asks.many asks.replies)
      w_new takes.frame takes.todo takes.many takes.replies

  -- it is at work still
  pub work_on : IsOn view s marks (record old { work = Some w_new }) first now books_new
  work_on = record {
    past = on.past;
    input = on.input;
    clock = on.clock;
    output = on.output;
    client = record {
      was = on.client.was;
      answered = on.client.answered;
      in_turn = on.client.in_turn;
      was_is = on.client.was_is;
      asked = on.client.asked ++ map (question_of s.named s.trustees) pieces;
      asks = asks_more;
      at_work = (on.client.at_work.0, on.client.at_work.1, is_more);
    };
  }

  -- or all of it was asked and replied, and it is finished
  pub work_finished :
      old.work ≡ None → old.stopped ≡ None → left_of w_new.todo ≡ [] → length books_new.lanes.items ≡ s.trustees → NoneCounts books_new → (new : Session)
      → HasFinished view w_new old new books_new → IsGoing view s (marks ++ sides_of view books_new ∷ []) new.stopped new first now books_new
  work_finished idle running none_left lanes none new f =
      finished view s marks first now books_new old on.past idle running on.input on.clock on.output w_new on.client.at_work.0 on.client.at_work.1 on.client.was
      on.client.answered on.client.in_turn on.client.was_is (on.client.asked ++ map (question_of s.named s.trustees) pieces) asks_more is_more none_left lanes none new f
