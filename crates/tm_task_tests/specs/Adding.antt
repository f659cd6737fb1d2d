-- For tests: tasks that add 1 to a counter again and again.
use Rattle.std.specs.Prelude.{◌≡◌, ℕ, zero, suc}
use Rattle.tm_seq.specs.declared.counter.Counter.{Counter}
use Rattle.tm_seq.specs.declared.counter.CounterOp.{CounterOp}
use Rattle.tm_seq.specs.declared.counter.CounterOp.TheVariants.{Add}
use Rattle.tm_seq.specs.declared.counter.CounterReply.{CounterReply}
use Rattle.tm_seq.specs.declared.counter.CounterReply.TheVariants.{Is}
use Rattle.tm_seq.specs.declared.counter.CounterTask.{CounterTask}
use Rattle.tm_client.specs.declared.answers.Got.{Got}
use Rattle.tm_client.specs.declared.answers.Got.TheVariants.{Replied}
use Rattle.tm_task.specs.declared.task.Move.{Move}
use Rattle.tm_task.specs.declared.task.Move.TheVariants.{Apply, Done}
use Rattle.tm_task.specs.Rules.{Rules}
use Rattle.tm_task_tests.specs.declared.adder.Adder.{Adder}

-- what one does next that is to add so often, after a sum
abbrev pub next_of : ℕ → ℕ → Move Counter Adder ℕ CounterOp CounterReply CounterTask
next_of zero sum = Done sum
next_of (suc n) sum = Apply 0 (Add 1) (record { left = n })

-- the sum that an answer tells
abbrev pub told_sum : CounterReply → ℕ
told_sum (Is n) = n
told_sum _ = 0

abbrev pub sum_of : Got Counter CounterOp CounterReply CounterTask → ℕ
sum_of (Replied r) = told_sum r
sum_of _ = 0

abbrev pub adder_rules : Rules Counter Adder ℕ CounterOp CounterReply CounterTask
adder_rules = record {
  begins = λ task move. move ≡ next_of task.left 0;
  goes_on = λ task got move. move ≡ next_of task.left (sum_of got);
  left = λ task. task.left;
}
