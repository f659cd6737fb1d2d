use Rattle.std.proofs.Common.{◌≡◌, sym, ◌∙◌, ap}
use Rattle.tm_tests.proofs.tests.turns.nested.both_add.Goals as goal

pub ask_more-requires-clause-mine : goal.ask_more-requires-clause-mine
ask_more-requires-clause-mine g c =
    let at : (g.P.PairTable.theory.client_view c.args.lower.now).place ≡ 1 = ap (λ view. view.place) c.requires.lower_view in
    c.ask_sum.ensures.others.sides 1 _ (λ e. let no : 1 ≡ 0 = sym at ∙ e in absurd cc) c.requires.lower

pub turn-requires : goal.turn-requires
turn-requires g c =
    (1, c.ask_more.ensures.others.trustees 1 _ (λ e. absurd cc) (c.ask_sum.ensures.others.trustees 1 _ (λ e. absurd cc) c.requires.ready))

pub collect_sum-requires-clause-mine : goal.collect_sum-requires-clause-mine
collect_sum-requires-clause-mine g c =
    let driven = c.ask_more.ensures.others.trustees 1 _ (λ e. absurd cc) (c.ask_sum.ensures.others.trustees 1 _ (λ e. absurd cc) c.requires.ready) in
    c.turn.ensures.sides 1 _ driven
    (c.ask_more.ensures.others.sides 1 _ (λ e. let no : 0 ≡ 1 = sym c.ask_sum.ensures.place ∙ e in absurd cc) c.ask_sum.ensures.mine)

pub collect_greater_sum-requires : goal.collect_greater_sum-requires
collect_greater_sum-requires g c =
    let driven = c.ask_more.ensures.others.trustees 1 _ (λ e. absurd cc) (c.ask_sum.ensures.others.trustees 1 _ (λ e. absurd cc) c.requires.ready) in
    c.collect_sum.ensures.others.sides 1 _ (λ e. let no : 1 ≡ 0 = sym c.ask_more.ensures.place ∙ e ∙ c.ask_sum.ensures.place in absurd cc)
    (c.turn.ensures.sides 1 _ driven c.ask_more.ensures.mine)
