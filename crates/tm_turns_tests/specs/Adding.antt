-- For tests: a runtime of one client, two trustees and counters.
use Rattle.std.specs.Prelude.{◌≡◌, ℕ, List}
use Rattle.tm_seq.specs.Counting.{counter_kind}
use Rattle.tm_seq.specs.declared.counter.Counter.{Counter}
use Rattle.tm_seq.specs.declared.counter.CounterOp.{CounterOp}
use Rattle.tm_seq.specs.declared.counter.CounterReply.{CounterReply}
use Rattle.tm_seq.specs.declared.counter.CounterTask.{CounterTask}
use Rattle.tm_batch.specs.declared.config.Config.{Config}
use Rattle.tm_batch.specs.declared.config.First.{First}
use Rattle.tm_turns.specs.Whole.{AreOf}
use Rattle.tm_turns.specs.declared.turns.Turns.{Turns}

abbrev pub Counters : Type 0
Counters = Turns Counter ℕ CounterOp CounterReply CounterTask

-- one client and two trustees of one build
pub record IsOfOne (turns : Counters) : Type 0 where
  pub config : Config
  pub first : List (First Counter)
  pub are : AreOf counter_kind config first turns
  pub one : config.clients ≡ 1
  pub two : config.trustees ≡ 2
