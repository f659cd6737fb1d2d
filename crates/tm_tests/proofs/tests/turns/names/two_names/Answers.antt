use Rattle.tm_tests.proofs.tests.turns.names.two_names.Goals as goal

pub turn-requires : goal.turn-requires
turn-requires g c = (1, c.entrust_two.ensures.others.trustees 1 _ (λ e. absurd cc) c.requires.ready)

pub collect_names-requires : goal.collect_names-requires
collect_names-requires g c =
    c.turn.ensures.sides 1 _ (c.entrust_two.ensures.others.trustees 1 _ (λ e. absurd cc) c.requires.ready) c.entrust_two.ensures.mine
