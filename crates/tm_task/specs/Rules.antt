-- Which moves of a task are lawful.
use Rattle.std.specs.Prelude.{ℕ, ◌<◌}
use Rattle.tm_client.specs.declared.answers.Got.{Got}
use Rattle.tm_task.specs.declared.task.Move.{Move}
use Rattle.tm_task.specs.declared.task.Move.TheVariants.{Apply, Done}

-- what a type of tasks states, by the values, operations, replies and launched work of a kind, the tasks and what they end with
pub record Rules (V T U O R K : Type 0) : Type 1 where
  -- the moves that are lawful at the start of a task, and those at an answer to its request
  pub begins : T → Move V T U O R K → Type 0
  pub goes_on : T → Got V O R K → Move V T U O R K → Type 0
  -- how many requests a task may still make at most
  pub left : T → ℕ

module _ {V T U O R K : Type 0} (rules : Rules V T U O R K) where
  -- the task that goes on after a move may make fewer than n requests
  abbrev pub Lessens : ℕ → Move V T U O R K → Type 0
  Lessens n (Apply i op task) = rules.left task < n
  Lessens n (Done out) = Unit {0}

  -- a lawful move at the start of a task
  pub record Begins (task : T) (move : Move V T U O R K) : Type 0 where
    pub lawful : rules.begins task move
    pub less : Lessens (rules.left task) move

  -- a lawful move at an answer to its request
  pub record GoesOn (task : T) (got : Got V O R K) (move : Move V T U O R K) : Type 0 where
    pub lawful : rules.goes_on task got move
    pub less : Lessens (rules.left task) move
