-- Launches on the desk, where the 64 classes reply to what is asked.
use Rattle.std.specs.Prelude.{◌≡◌, ℕ, ◌≤◌, ◌⊎◌, length, List, [], ◌∷◌, Some}
use Rattle.tm_batch.specs.declared.limits.TheConstants.{FEWEST_TRUSTEES}
use Rattle.mc_item.specs.declared.limits.TheConstants.{CLASSES}
use Rattle.mc_model.specs.declared.message.Command.{Command}
use Rattle.mc_model.specs.declared.reply.ShardReply.{ShardReply}
use Rattle.mc_model.specs.declared.reply.ShardReply.TheVariants.{NoMemory}
use Rattle.mc_model.specs.Class.{Class}
use Rattle.mc_laws.specs.Replies.{ClassesReply}
use Rattle.mc_shard.specs.declared.op.ShardOp.{ShardOp}
use Rattle.mc_shard.specs.Shard.{shard_step}
use Rattle.mc_route.specs.declared.desk.Desk.{Desk}
use Rattle.mc_route.specs.declared.desk.DeskTask.{DeskTask}
use Rattle.mc_route.specs.declared.planning.Ask.TheVariants as ask
use Rattle.mc_route.specs.Desks.{asked_for}
use Rattle.mc_route.specs.Launches.{launched}
use Rattle.mc_route.specs.Plans.{ask_of}

-- Classes are asked an operation one after another, have these replies and leave the new ones: each makes its step, or memory was
-- wanting for one, which has not changed, and no further one is asked.
abbrev pub AreAsked : ShardOp → List Class → List ShardReply → List Class → Type 0
AreAsked op [] replies new = (replies ≡ []) × (new ≡ [])
AreAsked op (s ∷ classes) replies new =
    ((replies ≡ NoMemory ∷ []) × (new ≡ s ∷ classes))
    ⊎ ((others : List ShardReply) × (later : List Class)
    × (replies ≡ (shard_step s op).1 ∷ others) × (new ≡ (shard_step s op).0 ∷ later) × AreAsked op classes others later)

-- Where a command is asked as a launch, and the classes reply to its asks, the launch ends, and the classes have replied to the command.
abbrev pub LaunchesAreReplies : Type 0
LaunchesAreReplies =
    (v : Desk) (command : Command) (moment trustees : ℕ) (task : DeskTask) (classes : List Class) (replies : List ShardReply) (new : List Class)
    → FEWEST_TRUSTEES ≤ trustees → length classes ≡ CLASSES → ask_of command moment trustees ≡ ask.Desk task → AreAsked (asked_for task.work) classes replies new
    → (after : Desk) × (reply : ShardReply) × ((launched v task replies).ended ≡ Some (after, reply)) × ClassesReply classes command moment new (reply ∷ [])
