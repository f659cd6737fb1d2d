use Rattle.std.proofs.Common.{lit<}
use Rattle.tm_table_tests.proofs.Sampling.{two_orderly}
use Rattle.tm_table_tests.proofs.tests.slots.asking.ask_two.Goals as goal

pub publish-requires : goal.publish-requires
publish-requires g c = (lit< tt, (lit< tt, (c.requires.mine, λ free. rw (c.requires.opening, c.requires.first, c.two.ensures.requests) (two_orderly _))))
