use Rattle.tm_turns_tests.proofs.Ones.{are_turns}
use Rattle.tm_turns_tests.proofs.tests.closing.close_full.Goals as goal

pub close-requires : goal.close-requires
close-requires c = record { are = are_turns c.fill.new.turns c.fill.ensures }
