-- What operations with their replies do to the classes, class by class: the definitions, and the statements, each proved as the contract of a
-- function.
use Rattle.std.specs.Prelude.{◌≡◌, ℕ, ◌<◌, ◌==◌, ◌⊎◌, cond, List, [], ◌∷◌, length}
use Rattle.tm_seq.specs.declared.sum.Sum.TheVariants as sum
use Rattle.tm_laws.specs.Objects.{HaveRun}
use Rattle.mc_item.specs.declared.limits.TheConstants.{CLASSES}
use Rattle.mc_item.specs.Classes.{class_of}
use Rattle.mc_model.specs.declared.reply.ShardReply.{ShardReply}
use Rattle.mc_model.specs.declared.reply.ShardReply.TheVariants.{NoMemory}
use Rattle.mc_model.specs.Class.{Class}
use Rattle.mc_model.specs.Plain.{Part}
use Rattle.mc_laws.specs.Classes.{class_at}
use Rattle.mc_laws.specs.Replies.{AreClassParts}
use Rattle.mc_shard.specs.declared.op.ShardOp.{ShardOp}
use Rattle.mc_shard.specs.Shard.{shard_step}
use Rattle.mc_route.specs.Places.{StoreValue}
use Rattle.mc_route.specs.Plans.{shard_op}
use Rattle.mc_next.specs.Parts.{store_kind}

-- an operation leads from one state of a class to another, with this reply: its step, or memory was wanting, and nothing has changed
abbrev pub IsClassRun : Class → ShardOp → Class → ShardReply → Type 0
IsClassRun s op w reply = ((w ≡ (shard_step s op).0) × (reply ≡ (shard_step s op).1)) ⊎ ((w ≡ s) × (reply ≡ NoMemory))

-- operations with these replies lead from one state of a class to another
abbrev pub ClassRuns : Class → List (ShardOp × ShardReply) → Class → Type 0
ClassRuns s [] w = w ≡ s
ClassRuns s (run ∷ runs) w = (next : Class) × IsClassRun s run.0 next run.1 × ClassRuns next runs w

-- of the parts of a command at a moment, and the replies to them, what a class is asked and what it replied, in order
abbrev pub runs_at : ℕ → ℕ → List Part → List ShardReply → List (ShardOp × ShardReply)
runs_at moment class [] replies = []
runs_at moment class (part ∷ parts) [] = []
runs_at moment class (part ∷ parts) (reply ∷ replies) =
    cond (class_of part.0 == class) ((shard_op part.0 part.1 moment, reply) ∷ runs_at moment class parts replies) (runs_at moment class parts replies)

-- where each class alone was led by its parts from one state to another, with these replies, all classes have them to the parts one after another
abbrev pub PartsRun : Type 0
PartsRun =
    (classes new : List Class) (parts : List Part) (moment : ℕ) (replies : List ShardReply)
    → length classes ≡ CLASSES → length new ≡ CLASSES → length replies ≡ length parts
    → ((class : ℕ) → class < CLASSES → ClassRuns (class_at classes class) (runs_at moment class parts replies) (class_at new class))
    → AreClassParts classes parts moment new replies

-- operations on an object that is a class leave a class, to which they led
abbrev pub ValuesAreClasses : Type 0
ValuesAreClasses =
    (s : Class) (runs : List (ShardOp × ShardReply)) (v : StoreValue) → HaveRun store_kind (sum.First s) runs v
    → (w : Class) × (v ≡ sum.First w) × ClassRuns s runs w
