-- For tests: tasks that add to the counters of a runtime of one client, and what they are between two calls.
use Rattle.std.specs.Prelude.{◌≡◌, ℕ, List, slice_get}
use Rattle.std.specs.declared.option.Option.TheVariants.{Some}
use Rattle.tm_seq.specs.Counting.{counter_kind}
use Rattle.tm_seq.specs.declared.counter.Counter.{Counter}
use Rattle.tm_seq.specs.declared.counter.CounterOp.{CounterOp}
use Rattle.tm_seq.specs.declared.counter.CounterReply.{CounterReply}
use Rattle.tm_seq.specs.declared.counter.CounterTask.{CounterTask}
use Rattle.tm_batch.specs.declared.config.Config.{Config}
use Rattle.tm_batch.specs.declared.config.First.{First}
use Rattle.tm_client.specs.declared.trust.Trust.{Trust}
use Rattle.tm_task.specs.declared.tasks.Tasks.{Tasks}
use Rattle.tm_task.specs.Ours.{AreTheirs, HoldsOpen}
use Rattle.tm_task.specs.Stages.{AreTasks}
use Rattle.tm_turns.specs.Making.{HasBuilt}
use Rattle.tm_turns.specs.Whole.{OneClient, AreOf}
use Rattle.tm_turns.specs.declared.turns.Turns.{Turns}
use Rattle.tm_task_tests.specs.Adding.{adder_rules}
use Rattle.tm_task_tests.specs.declared.adder.Adder.{Adder}

abbrev pub Adders : Type 0
Adders = Tasks Counter Adder CounterOp CounterReply CounterTask ℕ

abbrev pub Counters : Type 0
Counters = Turns Counter ℕ CounterOp CounterReply CounterTask

-- a runtime of one client and two trustees was built, and these are the client's trusts
abbrev pub IsBuilt : Counters → List (List Trust) → Type 0
IsBuilt turns trusts =
    (config : Config) × (first : List (First Counter)) × (config.clients ≡ 1) × (config.trustees ≡ 2)
    × HasBuilt counter_kind config first turns trusts

-- one client, whose requests are those of these tasks, and two trustees, all of one build
pub record IsPlaying (tasks : Adders) (turns : Counters) : Type 0 where
  pub config : Config
  pub first : List (First Counter)
  pub are : AreOf counter_kind config first turns
  pub one : config.clients ≡ 1
  pub two : config.trustees ≡ 2
  pub are_tasks : AreTasks adder_rules tasks
  pub theirs : (client : OneClient Counter ℕ CounterOp CounterReply CounterTask) → slice_get turns.clients.items 0 ≡ Some client
      → AreTheirs tasks.trusts.items tasks.stages.items client.books
  pub holds : (client : OneClient Counter ℕ CounterOp CounterReply CounterTask) → slice_get turns.clients.items 0 ≡ Some client
      → HoldsOpen client.books tasks.trusts.items
