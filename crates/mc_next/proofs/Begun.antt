-- A session begins.
use Rattle.std.proofs.Common.{ℕ, List, [], Option, refl, sym, subst, ◌∙◌, arith, append-nil}
use Rattle.std.proofs.lemmas.Bool.{false≢true}
use Rattle.tm_asking.specs.Questions.{HasAskedAll}
use Rattle.tm_asking.specs.Asking.{IsAsking, NoneCounts, sides_of}
use Rattle.mc_model.specs.declared.reply.ShardReply.{ShardReply}
use Rattle.mc_model.specs.declared.reply.ShardReply.TheVariants.{Missing}
use Rattle.mc_next.specs.declared.session.Session.{Session}
use Rattle.mc_next.specs.Parts.{StoreView}
use Rattle.mc_next.specs.Clients.{StoreBooks}
use Rattle.mc_next.specs.Runs.{Setting}
use Rattle.mc_next.specs.Sessions.{Past, HasAskedOn, IsOn, IsGoing, IsNotDone, Holds, IsFresh, IsSession, seen}
use Rattle.mc_next.proofs.Streams.{grows_none}

-- nothing yet
abbrev pub none_past : Past
none_past = record { text = []; answered = []; begun = []; readings = []; replies = []; written = [] }

-- nothing was asked
pub none_asked : (view : StoreView) → HasAskedAll Missing [] [] view view
none_asked view = record { place = refl; sent = sym (append-nil view.sent); grown = []; seen = sym (append-nil view.seen); runs = refl; replied = tt }

module _ {D : Type 0} (view : D → StoreView) (s : Setting) (session : Session) (fresh : IsFresh s.limit session) (books : StoreBooks D)
    (left readings written : Option (List ℕ)) (asks : (replies : List ShardReply) → IsAsking view Missing (sides_of view books) [] replies books) (none : NoneCounts books) where
  is_on : IsOn view s [] session (seen view books left readings written) (seen view books left readings written) books
  is_on = record {
    past = record { text = []; answered = []; begun = []; readings = []; replies = []; written = [] };
    input = record {
      came = λ bytes is. (bytes, refl, is);
      ended = λ e. absurd (false≢true (sym fresh.at_end ∙ e));
      fits = λ e. omega arith;
      above = λ e. absurd (false≢true (sym fresh.too_much ∙ e));
      is_intake = fresh.intake;
      until = refl;
      quit_is = fresh.quit;
    };
    clock = record { is_read = grows_none readings; once = refl; latest_is = fresh.moment };
    output = record { each = tt; is_written = grows_none written; gathered_is = fresh.gathered };
    client = subst (λ work. HasAskedOn view s [] (record { text = []; answered = []; begun = []; readings = []; replies = []; written = [] }) session.moment work (sides_of view books) books) (sym fresh.work)
        (record { was = sides_of view books; answered = λ t below. none_asked (sides_of view books t); in_turn = tt; was_is = refl; asked = []; asks = asks; at_work = (refl, refl, none) });
  }

  not_done : IsNotDone session.stopped session books
  not_done = subst (λ stopped. IsNotDone stopped session books) (sym fresh.stopped)
      (λ idle none_gathered. (fresh.quit, fresh.at_end, λ much. absurd (false≢true (sym fresh.too_much ∙ much))))

  pub begins : IsSession view s [] session (seen view books left readings written) (seen view books left readings written) books
  begins = subst (λ over. Holds view s [] over session (seen view books left readings written) (seen view books left readings written) books) (sym fresh.over)
      (subst (λ stopped. IsGoing view s [] stopped session (seen view books left readings written) (seen view books left readings written) books) (sym fresh.stopped) is_on, not_done)
