-- What a launch on the desk did to the classes, by its course: the definitions, and the statement, proved as the contract of a function.
use Rattle.std.specs.Prelude.{◌≡◌, ℕ, ◌+◌, ◌<◌, ◌≤◌, List, [], ◌∷◌, length, slice_index_or}
use Rattle.tm_seq.specs.declared.sum.Sum.TheVariants as sum
use Rattle.tm_batch.specs.declared.limits.TheConstants.{FEWEST_TRUSTEES}
use Rattle.tm_model.specs.State.{Start, Setup, ids_above}
use Rattle.tm_laws.specs.Objects.{Run, on_object}
use Rattle.tm_course.specs.Courses.{WorkStep, asked_in, told_in, IsCourse}
use Rattle.mc_item.specs.declared.limits.TheConstants.{CLASSES}
use Rattle.mc_model.specs.declared.message.Command.{Command}
use Rattle.mc_model.specs.declared.reply.ShardReply.{ShardReply}
use Rattle.mc_model.specs.Class.{Class}
use Rattle.mc_laws.specs.Classes.{class_at}
use Rattle.mc_laws.specs.Replies.{ClassesReply}
use Rattle.mc_shard.specs.declared.op.ShardOp.{ShardOp}
use Rattle.mc_route.specs.declared.desk.Desk.{Desk}
use Rattle.mc_route.specs.declared.desk.DeskTask.{DeskTask}
use Rattle.mc_route.specs.declared.planning.Ask.TheVariants as ask
use Rattle.mc_route.specs.Places.{trustee_of, index_of}
use Rattle.mc_route.specs.Plans.{ask_of}
use Rattle.mc_next.specs.Parts.{StoreTask, store_kind}
use Rattle.mc_store_laws.specs.Parts.{ClassRuns}

-- operations, each of the object of an id, with the replies to them, position by position
abbrev pub zip_runs : {O R : Type 0} → List (ℕ × O) → List R → List (Run O R)
zip_runs [] replies = []
zip_runs (asked ∷ others) [] = []
zip_runs (asked ∷ others) (reply ∷ replies) = record { id = asked.0; op = asked.1; reply = reply } ∷ zip_runs others replies

-- the class of a number is the object that the desk's trustee names by the class's trustee and index, under the id that is the index and one
abbrev pub IsNamed : Setup → ℕ → ℕ → Type 0
IsNamed setup trustees class =
    (index_of class trustees < length (ids_above setup (trustee_of class trustees)))
    × (slice_index_or (ids_above setup (trustee_of class trustees)) (index_of class trustees) 0 ≡ index_of class trustees + 1)

-- Where the launch for a command took this course, and each class was led from one state to another by just what was asked of it there, with the
-- replies that the launch was told, all classes have replied to the command, with what the launch ended with.
abbrev pub DeskCoursesAreReplies : Type 0
DeskCoursesAreReplies =
    (setup : Setup) (trustees : ℕ) (d : Desk) (command : Command) (moment : ℕ) (task : DeskTask)
    (steps : List (WorkStep ShardOp ShardReply StoreTask)) (reply : ShardReply) (classes new : List Class)
    → FEWEST_TRUSTEES ≤ trustees → setup.number ≡ 0
    → ((class : ℕ) → class < CLASSES → IsNamed setup trustees class)
    → ask_of command moment trustees ≡ ask.Desk task
    → IsCourse store_kind setup (sum.Second d) (sum.Second task) Start steps reply
    → length classes ≡ CLASSES → length new ≡ CLASSES
    → ((class : ℕ) → class < CLASSES → ClassRuns (class_at classes class)
    (on_object (index_of class trustees + 1) (zip_runs (asked_in setup (trustee_of class trustees) steps) (told_in (trustee_of class trustees) Start steps)))
    (class_at new class))
    → ClassesReply classes command moment new (reply ∷ [])
