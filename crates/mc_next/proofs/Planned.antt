-- The questions of what is asked for a command, piece by piece.
use Rattle.std.proofs.Common.{◌≡◌, ℕ, ◌<◌, List, [], ◌∷◌, length, refl, sym, ap, subst, ◌∙◌, arith}
use Rattle.std.proofs.lemmas.List.{length-map}
use Rattle.std.specs.Prelude.{map}
use Rattle.std.specs.List.{AllByRecursion}
use Rattle.mc_item.specs.declared.limits.TheConstants.{CLASSES}
use Rattle.mc_item.specs.Classes.{class_of}
use Rattle.mc_model.specs.declared.message.Command.{Command}
use Rattle.mc_model.specs.declared.message.Command.TheVariants as command
use Rattle.mc_model.specs.Plain.{Part, parts_of}
use Rattle.mc_route.specs.declared.parts.ShardPart.{ShardPart}
use Rattle.mc_route.specs.declared.planning.Ask.{Ask}
use Rattle.mc_route.specs.declared.planning.Ask.TheVariants.{Nobody, Shards, Desk}
use Rattle.mc_route.specs.Plans.{shard_part, ask_of, frame_of}
use Rattle.mc_next.specs.declared.piece.Piece.TheVariants as piece
use Rattle.mc_next.specs.declared.work.Work.{Work}
use Rattle.mc_next.specs.Parts.{Named, StoreQuestion, part_asked, questions_by, questions_of}
use Rattle.mc_next.specs.Works.{pieces_of, left_of, question_of, IsOfStore, IsWork}

module _ (named : Named) (trustees : ℕ) where
  parts_are : (parts : List ShardPart) → map (question_of named trustees) (map piece.Part parts) ≡ map (part_asked named trustees) parts
  parts_are [] = refl
  parts_are (p ∷ parts) = ap (λ (qs : List StoreQuestion). part_asked named trustees p ∷ qs) (parts_are parts)

  pub questions_are : (ask : Ask) → map (question_of named trustees) (pieces_of ask) ≡ questions_by named trustees ask
  questions_are Nobody = refl
  questions_are (Shards parts) = parts_are parts
  questions_are (Desk task) = refl

class_below : (key : List ℕ) → class_of key < CLASSES
unfolding class_of
class_below key = omega arith

parts_below : (moment : ℕ) (parts : List Part) → AllByRecursion IsOfStore (map piece.Part (map (shard_part moment) parts))
parts_below moment [] = tt
parts_below moment (p ∷ parts) = (class_below p.0, parts_below moment parts)

-- each operation is of a class
pub pieces_below : (c : Command) (moment trustees : ℕ) → AllByRecursion IsOfStore (pieces_of (ask_of c moment trustees))
pieces_below (command.Store how key flags exptime value quiet) moment trustees = parts_below moment (parts_of (command.Store how key flags exptime value quiet))
pieces_below (command.Get keys with_cas) moment trustees = parts_below moment (parts_of (command.Get keys with_cas))
pieces_below (command.GetTouch exptime keys with_cas) moment trustees = parts_below moment (parts_of (command.GetTouch exptime keys with_cas))
pieces_below (command.Delete key quiet) moment trustees = parts_below moment (parts_of (command.Delete key quiet))
pieces_below (command.Change up key by quiet) moment trustees = parts_below moment (parts_of (command.Change up key by quiet))
pieces_below (command.Touch key exptime quiet) moment trustees = parts_below moment (parts_of (command.Touch key exptime quiet))
pieces_below (command.FlushAll delay quiet) moment trustees = (tt, tt)
pieces_below command.Stats moment trustees = (tt, tt)
pieces_below command.Version moment trustees = tt
pieces_below (command.Verbosity quiet) moment trustees = tt
pieces_below command.Quit moment trustees = tt

-- a command that is planned is at work, and nothing of it is asked
pub planned : (named : Named) (trustees : ℕ) (c : Command) (moment : ℕ) (ask : Ask) (w : Work) → ask ≡ ask_of c moment trustees → w.frame ≡ frame_of c
    → left_of w.todo ≡ pieces_of ask → w.asking.asked ≡ 0 → length w.asking.replies.items ≡ length (pieces_of ask) → IsWork named trustees c moment [] w
planned named trustees c moment ask w e frame left none room =
    let questions : map (question_of named trustees) (pieces_of ask) ≡ questions_of named trustees c moment =
    questions_are named trustees ask ∙ ap (λ a. questions_by named trustees a) e in record {
      frame = frame;
      questions = ap (λ l. map (question_of named trustees) l) left ∙ questions;
      many = sym none;
      room = room ∙ sym (length-map (pieces_of ask) (question_of named trustees)) ∙ ap length questions;
      classes = subst (λ l. AllByRecursion IsOfStore l) (sym (left ∙ ap pieces_of e)) (pieces_below c moment trustees);
    }
