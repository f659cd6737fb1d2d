use Rattle.tm_turns_tests.proofs.Ones.{are_turns, second_trustee, stays}
use Rattle.tm_turns_tests.proofs.adding.serve.Goals as goal

pub serve-requires : goal.serve-requires
serve-requires c =
    record { are = are_turns c.args.turns.now c.requires; trustee = second_trustee c.args.turns.now c.requires }

pub returns : goal.returns
returns c = stays c.args.turns.now c.serve.new.self c.requires c.serve.ensures.keeps
