-- What the 64 classes reply to a command: each operation is one of one class, or of each class in turn.
use Rattle.std.specs.Prelude.{◌≡◌, ℕ, ◌≤◌, ◌⊎◌, List, [], ◌∷◌}
use Rattle.mc_item.specs.declared.limits.TheConstants.{CLASSES}
use Rattle.mc_item.specs.Classes.{class_of}
use Rattle.mc_model.specs.declared.message.Command.{Command}
use Rattle.mc_model.specs.declared.message.Command.TheVariants as command
use Rattle.mc_model.specs.declared.reply.ShardReply.{ShardReply}
use Rattle.mc_model.specs.declared.reply.ShardReply.TheVariants.{Flushed, Counts, NoMemory}
use Rattle.mc_model.specs.Class.{Class, settled, key_step, flush_step}
use Rattle.mc_model.specs.Plain.{Part, parts_of}
use Rattle.mc_laws.specs.Classes.{class_at, with_class, first_changed, held_by, stored_by}

-- an operation on a key: the key's class makes its step; or memory was wanting, and nothing has changed
abbrev pub IsClassPart : List Class → Part → ℕ → List Class → ShardReply → Type 0
IsClassPart classes part moment new reply =
    let class = class_of part.0 in
    let step = key_step (class_at classes class) part.0 part.1 moment in
    ((new ≡ with_class classes class step.0) × (reply ≡ step.1)) ⊎ ((new ≡ classes) × (reply ≡ NoMemory))

-- the operations one after another
abbrev pub AreClassParts : List Class → List Part → ℕ → List Class → List ShardReply → Type 0
AreClassParts classes [] moment new replies = (new ≡ classes) × (replies ≡ [])
AreClassParts classes (part ∷ parts) moment new replies =
    (next : List Class) × (reply : ShardReply) × (others : List ShardReply)
    × (replies ≡ reply ∷ others) × IsClassPart classes part moment next reply × AreClassParts next parts moment new others

-- a flush of each class; or memory was wanting, and so many of them are flushed, from the first on
abbrev pub AreFlushed : List Class → ℕ → ℕ → List Class → List ShardReply → Type 0
AreFlushed classes delay moment new replies =
    ((new ≡ first_changed CLASSES (λ s. (flush_step s delay moment).0) classes) × (replies ≡ Flushed ∷ []))
    ⊎ ((count : ℕ) × (count ≤ CLASSES) × (new ≡ first_changed count (λ s. (flush_step s delay moment).0) classes) × (replies ≡ NoMemory ∷ []))

-- a count over each class, which are all settled then; or memory was wanting, and so many of them are settled, from the first on
abbrev pub AreCounted : List Class → ℕ → List Class → List ShardReply → Type 0
AreCounted classes moment new replies =
    ((new ≡ first_changed CLASSES (λ s. settled s moment) classes) × (replies ≡ Counts (held_by new) (stored_by new) ∷ []))
    ⊎ ((count : ℕ) × (count ≤ CLASSES) × (new ≡ first_changed count (λ s. settled s moment) classes) × (replies ≡ NoMemory ∷ []))

-- From these states of the classes, a command at a moment has these replies and leaves the new ones.
abbrev pub ClassesReply : List Class → Command → ℕ → List Class → List ShardReply → Type 0
ClassesReply classes (command.FlushAll delay quiet) moment new replies = AreFlushed classes delay moment new replies
ClassesReply classes command.Stats moment new replies = AreCounted classes moment new replies
ClassesReply classes command moment new replies = AreClassParts classes (parts_of command) moment new replies

-- From these states of the classes, commands at these moments, one for each, have these replies, one list for each, and leave the new ones.
abbrev pub ClassesRun : List Class → List Command → List ℕ → List (List ShardReply) → List Class → Type 0
ClassesRun classes [] moments replies new = (moments ≡ []) × (replies ≡ []) × (new ≡ classes)
ClassesRun classes (command ∷ commands) moments replies new =
    (next : List Class) × (moment : ℕ) × (moments_left : List ℕ) × (first : List ShardReply) × (others : List (List ShardReply))
    × (moments ≡ moment ∷ moments_left) × (replies ≡ first ∷ others)
    × ClassesReply classes command moment next first × ClassesRun next commands moments_left others new
