-- For tests: a runtime of counters with a client.
use Rattle.std.specs.Prelude.{ℕ, ◌<◌, length}
use Rattle.tm_seq.specs.Counting.{counter_kind}
use Rattle.tm_turns.specs.Whole.{AreTurns}
use Rattle.tm_turns_tests.specs.Adding.{Counters}

-- clients and trustees of one build, with a first client
pub record HasClient (turns : Counters) : Type 0 where
  pub are : AreTurns counter_kind turns
  pub some : 0 < length turns.clients.items
