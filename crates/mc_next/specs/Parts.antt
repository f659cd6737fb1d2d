-- What is asked of the trustees for the commands of a stream.
use Rattle.std.specs.Prelude.{ℕ, List, [], ◌∷◌, map}
use Rattle.tm_seq.specs.Kind.{Kind}
use Rattle.tm_seq.specs.Summing.{sum_kind}
use Rattle.tm_seq.specs.declared.sum.Sum.{Sum}
use Rattle.tm_seq.specs.declared.sum.Sum.TheVariants as sum
use Rattle.tm_batch.specs.declared.message.Name.{Name}
use Rattle.tm_batch.specs.declared.message.Request.TheVariants.{Apply, Launch}
use Rattle.tm_pair.specs.Views.{ClientView}
use Rattle.mc_item.specs.declared.limits.TheConstants.{CLASSES}
use Rattle.mc_model.specs.declared.message.Command.{Command}
use Rattle.mc_model.specs.declared.reply.ShardReply.{ShardReply}
use Rattle.mc_model.specs.declared.reply.ShardReply.TheVariants.{Missing}
use Rattle.mc_shard.specs.declared.op.ShardOp.{ShardOp}
use Rattle.mc_shard.specs.declared.op.NoTask.{NoTask}
use Rattle.mc_shard.specs.Shard.{shard_kind}
use Rattle.mc_route.specs.declared.desk.DeskTask.{DeskTask}
use Rattle.mc_route.specs.declared.parts.ShardPart.{ShardPart}
use Rattle.mc_route.specs.declared.planning.Ask.{Ask}
use Rattle.mc_route.specs.declared.planning.Ask.TheVariants.{Nobody, Shards, Desk}
use Rattle.mc_route.specs.Desks.{desk_kind}
use Rattle.mc_route.specs.Places.{StoreValue, trustee_of}
use Rattle.mc_route.specs.Plans.{ask_of}
use Rattle.tm_asking.specs.Questions.{Question}

-- what is launched on an object of the store: nothing on a class, and work of the desk
abbrev pub StoreTask : Type 0
StoreTask = Sum NoTask DeskTask

-- the kind of the store's objects: classes, and the desk beside them
abbrev pub store_kind : Kind StoreValue ShardOp ShardReply StoreTask
store_kind = sum_kind shard_kind desk_kind Missing

-- what a client's side at a trustee of the store stands for, and what a client asks of one
abbrev pub StoreView : Type 0
StoreView = ClientView StoreValue ShardOp ShardReply StoreTask

abbrev pub StoreQuestion : Type 0
StoreQuestion = Question StoreValue ShardOp ShardReply StoreTask

-- the names of the store's objects at their trustees: those of the 64 classes by their numbers, and under number 64 that of the desk
abbrev pub Named : Type 0
Named = ℕ → Name

-- an operation of a class: its trustee is asked it
abbrev pub part_asked : Named → ℕ → ShardPart → StoreQuestion
part_asked named trustees part = record { trustee = trustee_of part.class trustees; request = Apply (named part.class) part.op }

-- what is asked of which trustees, in order
abbrev pub questions_by : Named → ℕ → Ask → List StoreQuestion
questions_by named trustees Nobody = []
questions_by named trustees (Shards parts) = map (part_asked named trustees) parts
questions_by named trustees (Desk task) = record { trustee = 0; request = Launch (named CLASSES) (sum.Second task) } ∷ []

-- what is asked for a command at a moment
abbrev pub questions_of : Named → ℕ → Command → ℕ → List StoreQuestion
questions_of named trustees command moment = questions_by named trustees (ask_of command moment trustees)

-- what is asked for some commands, each at the moment of its position, command by command
abbrev pub questions_each : Named → ℕ → List Command → List ℕ → List (List StoreQuestion)
questions_each named trustees [] moments = []
questions_each named trustees (command ∷ commands) [] = []
questions_each named trustees (command ∷ commands) (moment ∷ moments) =
    questions_of named trustees command moment ∷ questions_each named trustees commands moments
