use Rattle.tm_seq.specs.Counting.{counter_kind}
use Rattle.tm_client_tests.specs.Playing.{IsPlaying}
use Rattle.tm_client_tests.proofs.tests.launches.are_finished.Given as goal

abbrev pub invariant-loop-after : goal.invariant-loop-after
invariant-loop-after g l = IsPlaying g.P.PairTable.theory counter_kind l.play.tables.items l.play.trustee l.play.clients.items
