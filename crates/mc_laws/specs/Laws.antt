-- 64 classes are one list of all items: what a client is replied by the classes, the plain store may reply.
use Rattle.std.specs.Prelude.{ℕ, ◌≤◌, List}
use Rattle.mc_item.specs.declared.limits.TheConstants.{LATEST_TIME, MOST_ITEMS}
use Rattle.mc_model.specs.declared.message.Command.{Command}
use Rattle.mc_model.specs.declared.reply.ShardReply.{ShardReply}
use Rattle.mc_model.specs.Moments.{moments_of}
use Rattle.mc_model.specs.Class.{Class}
use Rattle.mc_model.specs.Plain.{Plain, new_store, Replies, Runs}
use Rattle.mc_laws.specs.Classes.{new_classes}
use Rattle.mc_laws.specs.Replies.{ClassesReply, ClassesRun}
use Rattle.mc_laws.specs.Standing.{StandFor}

-- the classes at first stand for the store at first
abbrev pub FirstClassesStand : Type 0
FirstClassesStand = (bound : ℕ) → bound ≤ MOST_ITEMS → StandFor (new_store bound) (new_classes bound) 0

-- what they stand for at a moment, they stand for later
abbrev pub ClassesStandLater : Type 0
ClassesStandLater = (p : Plain) (classes : List Class) (moment later : ℕ) → StandFor p classes moment → moment ≤ later → StandFor p classes later

-- where classes stand for a store, the store has their replies to a command, and they stand for what it leaves
abbrev pub ClassesReplyAsOne : Type 0
ClassesReplyAsOne =
    (p : Plain) (classes : List Class) (moment : ℕ) (command : Command) (new : List Class) (replies : List ShardReply)
    → StandFor p classes moment → moment ≤ LATEST_TIME → ClassesReply classes command moment new replies
    → (q : Plain) × Replies p command moment q replies × StandFor q new moment

-- the store has their replies to commands at the moments of any readings of the clock
abbrev pub ClassesRunAsOne : Type 0
ClassesRunAsOne =
    (bound : ℕ) (commands : List Command) (readings : List ℕ) (replies : List (List ShardReply)) (new : List Class)
    → bound ≤ MOST_ITEMS → ClassesRun (new_classes bound) commands (moments_of readings) replies new
    → (q : Plain) × Runs (new_store bound) commands (moments_of readings) replies q
