-- The command at work: what is still to be asked for it, and what its questions are.
use Rattle.std.specs.Prelude.{◌≡◌, ℕ, ◌+◌, ◌<◌, Bool, true, false, List, [], ◌∷◌, ◌++◌, length, map, slice_get, Option, Some, None, option_to_list}
use Rattle.std.specs.List.{AllByRecursion}
use Rattle.std.specs.Vec.Iter.{into_iter_items}
use Rattle.tm_seq.specs.declared.sum.Sum.TheVariants as sum
use Rattle.tm_batch.specs.declared.message.Name.{Name}
use Rattle.tm_batch.specs.declared.message.Request.TheVariants.{Launch}
use Rattle.tm_model.specs.State.{State}
use Rattle.tm_client.specs.declared.trust.Trust.{Trust}
use Rattle.tm_client.specs.Asking.{IsFull}
use Rattle.tm_client.specs.Clients.{IsClient}
use Rattle.tm_asking.specs.Asking.{IsAsking}
use Rattle.mc_item.specs.declared.limits.TheConstants.{CLASSES}
use Rattle.mc_model.specs.declared.message.Command.{Command}
use Rattle.mc_route.specs.declared.desk.DeskTask.{DeskTask}
use Rattle.mc_route.specs.declared.planning.Ask.{Ask}
use Rattle.mc_route.specs.declared.planning.Ask.TheVariants.{Nobody, Shards, Desk}
use Rattle.mc_route.specs.Plans.{frame_of}
use Rattle.mc_next.specs.declared.piece.Piece.{Piece}
use Rattle.mc_next.specs.declared.piece.Piece.TheVariants as piece
use Rattle.mc_next.specs.declared.todo.Todo.{Todo}
use Rattle.mc_next.specs.declared.work.Work.{Work}
use Rattle.mc_shard.specs.declared.op.ShardOp.{ShardOp}
use Rattle.mc_model.specs.declared.reply.ShardReply.{ShardReply}
use Rattle.mc_model.specs.declared.reply.ShardReply.TheVariants.{Missing}
use Rattle.mc_route.specs.Places.{StoreValue}
use Rattle.mc_next.specs.Parts.{Named, StoreTask, StoreView, StoreQuestion, part_asked, questions_of}
use Rattle.mc_next.specs.Clients.{StoreBooks, StoreLane, AreStoreTrusts}

-- a state of a trustee of the store
abbrev pub StoreState : Type 0
StoreState = State StoreValue ShardOp ShardReply StoreTask

-- the pieces of what is asked for a command
abbrev pub pieces_of : Ask → List Piece
pieces_of Nobody = []
pieces_of (Shards parts) = map piece.Part parts
pieces_of (Desk task) = piece.Launch task ∷ []

-- those that are still to be asked
abbrev pub left_of : Todo → List Piece
left_of todo = option_to_list todo.first ++ map piece.Part (into_iter_items todo.rest)

-- a launch on the desk, which is on trustee 0
abbrev pub launch_asked : Named → DeskTask → StoreQuestion
launch_asked named task = record { trustee = 0; request = Launch (named CLASSES) (sum.Second task) }

-- the question of a piece
abbrev pub question_of : Named → ℕ → Piece → StoreQuestion
question_of named trustees (piece.Part part) = part_asked named trustees part
question_of named trustees (piece.Launch task) = launch_asked named task

-- an operation is of one of the classes
abbrev pub IsOfStore : Piece → Type 0
IsOfStore (piece.Part part) = part.class < CLASSES
IsOfStore (piece.Launch task) = Unit {0}

-- the name of a trust, if there is one
abbrev pub name_in : Option Trust → Name
name_in None = record { id = 0; place = 0 }
name_in (Some trust) = trust.name

-- the names of the objects of these trusts, which are in the order of the objects' numbers
abbrev pub named_by : List Trust → Named
named_by trusts i = name_in (slice_get trusts i)

-- A command at work at a moment: some of its questions were asked, and those that are left are the rest. There is a place for the reply to
-- each.
pub record IsWork (named : Named) (trustees : ℕ) (command : Command) (moment : ℕ) (asked : List StoreQuestion) (w : Work) : Type 0 where
  pub frame : w.frame ≡ frame_of command
  pub questions : asked ++ map (question_of named trustees) (left_of w.todo) ≡ questions_of named trustees command moment
  pub many : length asked ≡ w.asking.asked
  pub room : length w.asking.replies.items ≡ length (questions_of named trustees command moment)
  pub classes : AllByRecursion IsOfStore (left_of w.todo)

-- ---- what a work's calls do

module _ {D : Type 0} where
  -- a client's calls left its sides and trusts as they were, and what is closed and fetched
  pub record KeepsClient (books books_new : StoreBooks D) : Type 0 where
    pub number : books_new.number ≡ books.number
    pub held : books_new.held ≡ books.held
    pub many : length books_new.lanes.items ≡ length books.lanes.items
    pub sides : (t : ℕ) (lane becomes : StoreLane D) → slice_get books.lanes.items t ≡ Some lane → slice_get books_new.lanes.items t ≡ Some becomes
        → (becomes.side ≡ lane.side) × (becomes.closing ≡ lane.closing) × (becomes.fetching ≡ lane.fetching)

  -- and what waits at its trustees
  abbrev pub KeepsWaits : StoreBooks D → StoreBooks D → Type 0
  KeepsWaits books books_new = (t : ℕ) (lane becomes : StoreLane D) → slice_get books.lanes.items t ≡ Some lane → slice_get books_new.lanes.items t ≡ Some becomes
      → becomes.waits ≡ lane.waits

  -- a client at which the questions of a work may be asked, by these trusts
  pub record MayAskFor (view : D → StoreView) (trusts : List Trust) (w : Work) (books : StoreBooks D) : Type 0 where
    pub openings : ℕ → StoreState
    pub client : IsClient view openings books
    pub are_trusts : AreStoreTrusts (length books.lanes.items) books trusts
    pub was : ℕ → StoreView
    pub asked : List StoreQuestion
    pub asks : IsAsking view Missing was asked w.asking.replies.items books
    pub many : length asked ≡ w.asking.asked

  -- some pieces of a work were asked of a client, whatever was asked before
  pub record HasAskedPieces (view : D → StoreView) (trusts : List Trust) (pieces : List Piece) (w w_new : Work) (books books_new : StoreBooks D) : Type 0 where
    pub frame : w_new.frame ≡ w.frame
    pub many : w_new.asking.asked ≡ w.asking.asked + length pieces
    pub replies : w_new.asking.replies ≡ w.asking.replies
    pub asks : (was : ℕ → StoreView) (asked : List StoreQuestion) → length asked ≡ w.asking.asked → IsAsking view Missing was asked w.asking.replies.items books
        → IsAsking view Missing was (asked ++ map (question_of (named_by trusts) (length books.lanes.items)) pieces) w_new.asking.replies.items books_new
    pub keeps : KeepsClient books books_new
    pub client : (openings : ℕ → StoreState) → IsClient view openings books → IsClient view openings books_new

  -- replies to a work were taken of a client, whatever was asked
  pub record HasTakenReplies (view : D → StoreView) (w w_new : Work) (books books_new : StoreBooks D) : Type 0 where
    pub frame : w_new.frame ≡ w.frame
    pub todo : w_new.todo ≡ w.todo
    pub many : w_new.asking.asked ≡ w.asking.asked
    pub replies : length w_new.asking.replies.items ≡ length w.asking.replies.items
    pub asks : (was : ℕ → StoreView) (asked : List StoreQuestion) → IsAsking view Missing was asked w.asking.replies.items books
        → IsAsking view Missing was asked w_new.asking.replies.items books_new
    pub keeps : KeepsClient books books_new
    pub waits : KeepsWaits books books_new
    pub client : (openings : ℕ → StoreState) → IsClient view openings books → IsClient view openings books_new

  -- the window of a piece's trustee is full
  abbrev pub IsFullFor : ℕ → Piece → StoreBooks D → Type 0
  IsFullFor trustees piece books = IsFull books (question_of (named_by []) trustees piece).trustee

  -- a piece was asked, or its trustee's window is full, and it was put back
  pub record HasTried (view : D → StoreView) (trusts : List Trust) (piece : Piece) (went : Bool) (w w_new : Work) (books books_new : StoreBooks D) : Type 0 where
    pub asked : went ≡ true → HasAskedPieces view trusts (piece ∷ []) w w_new books books_new × (w_new.todo ≡ w.todo)
    pub back : went ≡ false → (left_of w_new.todo ≡ piece ∷ left_of w.todo) × (w_new.asking ≡ w.asking) × (w_new.frame ≡ w.frame) × (books_new ≡ books)
        × IsFullFor (length books.lanes.items) piece books
