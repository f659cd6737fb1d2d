use Rattle.tm_turns_tests.proofs.tests.launching.close.Goals as goal

pub close-requires : goal.close-requires
close-requires c = record { are = c.requires.are }
