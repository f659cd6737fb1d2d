use Rattle.tm_turns_tests.proofs.Launched.{client_stays}
use Rattle.tm_turns_tests.proofs.tests.launching.run.Goals as goal

pub run-requires : goal.run-requires
run-requires c = record { are = c.requires.are }

pub returns : goal.returns
returns c = client_stays c.args.turns.now c.run.new.self c.requires c.run.ensures.keeps
