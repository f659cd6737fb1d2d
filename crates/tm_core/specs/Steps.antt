-- The steps of the slots over numbers: which are allowed, and what they do.
use Rattle.std.specs.Prelude.{◌≡◌, ℕ, ◌<◌, List, [], ◌∷◌, length}
use Rattle.tm_model.specs.Slots.{Empty, Asked, Taken, Answered, slot_of, first_core, MayPublish, publish, see, MayAnswer, answer, collect}
use Rattle.tm_core.specs.declared.step.Step.{Step}
use Rattle.tm_core.specs.declared.step.Step.TheVariants.{Publish, See, Answer, Collect}
use Rattle.tm_core.specs.declared.step.StepRefused.{StepRefused}
use Rattle.tm_core.specs.declared.step.StepRefused.TheVariants.{NotAllowed, NoMemory}
use Rattle.tm_model.specs.GoodSlots.{AreGoodSlots}
use Rattle.tm_core.specs.Numbers.{NumberBox, NumberCore, mark_of, IsNumbered, batches, batch_entries}

-- the batch that the trustee has in hand
abbrev pub in_hand : NumberBox → List ℕ
in_hand (Taken b room) = b
in_hand Empty = []
in_hand (Asked b room) = []
in_hand (Answered a upto room) = []

-- a step is allowed
abbrev pub IsAllowed : NumberCore → Step → Type 0
IsAllowed core (Publish c requests) = MayPublish core c requests.items 0
IsAllowed core (See c) = c < length core.slots
IsAllowed core (Answer c answers) = (b : List ℕ) × MayAnswer core c b 0 × (length answers.items ≡ length b)
IsAllowed core (Collect c) = c < length core.slots

-- the core after a step that is allowed: an answer lets the log grow by the entries of the batch in hand
abbrev pub after_step : Step → NumberCore → NumberCore
after_step (Publish c requests) core = publish c requests.items 0 core
after_step (See c) core = see c core
after_step (Answer c answers) core =
    answer c answers.items (batch_entries core.log c (in_hand (slot_of core c).box) answers.items) 0 core
after_step (Collect c) core = collect c core

-- the core after some steps
abbrev pub after_steps : List Step → NumberCore → NumberCore
after_steps [] core = core
after_steps (step ∷ steps) core = after_steps steps (after_step step core)

-- so many places after some steps
abbrev pub core_after : ℕ → List Step → NumberCore
core_after places steps = after_steps steps (first_core places)

-- the place of a step
abbrev pub client_of : Step → ℕ
client_of (Publish c requests) = c
client_of (See c) = c
client_of (Answer c answers) = c
client_of (Collect c) = c

-- each of some steps is allowed after those before it
abbrev pub AreAllowed : NumberCore → List Step → Type 0
AreAllowed core [] = Unit {0}
AreAllowed core (step ∷ steps) = IsAllowed core step × AreAllowed (after_step step core) steps

-- the slots over numbers are good
abbrev pub AreGood : NumberCore → Type 0
AreGood core = AreGoodSlots mark_of batches IsNumbered core

-- after every list of steps that are allowed, from the first core on, the slots are good
abbrev pub StepsKeepSlots : Type 0
StepsKeepSlots =
    (places : ℕ) (steps : List Step) → AreAllowed (first_core places) steps → AreGood (core_after places steps)

-- a step that takes memory
abbrev pub TakesMemory : Step → Type 0
TakesMemory (Publish c requests) = Unit {0}
TakesMemory (Answer c answers) = Unit {0}
TakesMemory (See c) = ⊥
TakesMemory (Collect c) = ⊥

-- why a step was refused: it is not allowed, or it is and memory was wanting; the step is handed back
abbrev pub IsRefusal : NumberCore → Step → StepRefused → Type 0
IsRefusal core step (NotAllowed back) = (back ≡ step) × ¬ IsAllowed core step
IsRefusal core step (NoMemory back) = (back ≡ step) × IsAllowed core step × TakesMemory step
