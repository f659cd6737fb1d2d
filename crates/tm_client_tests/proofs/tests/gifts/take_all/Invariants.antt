use Rattle.tm_seq.specs.Counting.{counter_kind}
use Rattle.tm_client_tests.specs.Playing.{IsPlaying}
use Rattle.tm_client_tests.proofs.tests.gifts.take_all.Given as goal

abbrev pub invariant-loop : goal.invariant-loop
invariant-loop g l = IsPlaying g.P.PairTable.theory counter_kind l.play.tables.items l.play.trustee l.play.clients.items
