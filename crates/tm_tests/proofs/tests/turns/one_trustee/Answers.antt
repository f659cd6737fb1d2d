use Rattle.std.proofs.Common.{◌≡◌, sym, ◌∙◌, ap}
use Rattle.tm_tests.proofs.DrivenAsked.{may_bye_first}
use Rattle.tm_tests.proofs.tests.turns.one_trustee.Goals as goal

pub ask_sum-requires-clause-mine : goal.ask_sum-requires-clause-mine
ask_sum-requires-clause-mine g c = c.turn.ensures.sides 1 _ c.requires.ready c.requires.client

pub turn-requires-2 : goal.turn-requires-2
turn-requires-2 g c = (1, c.ask_sum.ensures.others.trustees 1 _ (λ e. absurd cc) (c.turn.ensures.ready 1 c.requires.ready))

pub collect_sum-requires-clause-mine : goal.collect_sum-requires-clause-mine
collect_sum-requires-clause-mine g c =
    c.turn-2.ensures.sides 1 _ (c.ask_sum.ensures.others.trustees 1 _ (λ e. absurd cc) (c.turn.ensures.ready 1 c.requires.ready)) c.ask_sum.ensures.mine

pub say_bye-requires-2-clause-mine : goal.say_bye-requires-2-clause-mine
say_bye-requires-2-clause-mine g c =
    let P = g.P.PairTable in
    let at : (P.theory.client_view c.args.lower.now).place ≡ 1 = ap (λ view. view.place) c.requires.lower_view in
    let client : (P.theory.client_view c.collect_sum.new.side).place ≡ 0 = c.collect_sum.ensures.place ∙ c.ask_sum.ensures.place in
    c.say_bye.ensures.others.sides 1 _ (λ e. let no : 1 ≡ 0 = sym at ∙ e ∙ client in absurd cc)
    (c.collect_sum.ensures.others.sides 1 _ (λ e. let no : 1 ≡ 0 = sym at ∙ e ∙ c.ask_sum.ensures.place in absurd cc)
    (c.turn-2.ensures.sides 1 _ (c.ask_sum.ensures.others.trustees 1 _ (λ e. absurd cc) (c.turn.ensures.ready 1 c.requires.ready))
    (c.ask_sum.ensures.others.sides 1 _ (λ e. let no : 1 ≡ 0 = sym at ∙ e in absurd cc) (c.turn.ensures.sides 1 _ c.requires.ready c.requires.lower))))

pub say_bye-requires-2-clause-may : goal.say_bye-requires-2-clause-may
say_bye-requires-2-clause-may g c = may_bye_first 1 _ c.requires.lower_view

pub turn-requires-3 : goal.turn-requires-3
turn-requires-3 g c =
    let P = g.P.PairTable in
    let at : (P.theory.client_view c.args.lower.now).place ≡ 1 = ap (λ view. view.place) c.requires.lower_view in
    let client : (P.theory.client_view c.collect_sum.new.side).place ≡ 0 = c.collect_sum.ensures.place ∙ c.ask_sum.ensures.place in (
      1,
      c.say_bye-2.ensures.others.trustees 1 _ (λ e. let no : 2 ≡ 1 = e ∙ at in absurd cc)
          (c.say_bye.ensures.others.trustees 1 _ (λ e. let no : 2 ≡ 0 = e ∙ client in absurd cc)
          (c.collect_sum.ensures.others.trustees 1 _ (λ e. let no : 2 ≡ 0 = e ∙ c.ask_sum.ensures.place in absurd cc)
          (c.turn-2.ensures.ready 1 (c.ask_sum.ensures.others.trustees 1 _ (λ e. absurd cc) (c.turn.ensures.ready 1 c.requires.ready))))),
    )

pub turn-requires-4 : goal.turn-requires-4
turn-requires-4 g c =
    let P = g.P.PairTable in
    let at : (P.theory.client_view c.args.lower.now).place ≡ 1 = ap (λ view. view.place) c.requires.lower_view in
    let client : (P.theory.client_view c.collect_sum.new.side).place ≡ 0 = c.collect_sum.ensures.place ∙ c.ask_sum.ensures.place in (
      1,
      c.turn-3.ensures.ready 1
          (c.say_bye-2.ensures.others.trustees 1 _ (λ e. let no : 2 ≡ 1 = e ∙ at in absurd cc)
          (c.say_bye.ensures.others.trustees 1 _ (λ e. let no : 2 ≡ 0 = e ∙ client in absurd cc)
          (c.collect_sum.ensures.others.trustees 1 _ (λ e. let no : 2 ≡ 0 = e ∙ c.ask_sum.ensures.place in absurd cc)
          (c.turn-2.ensures.ready 1 (c.ask_sum.ensures.others.trustees 1 _ (λ e. absurd cc) (c.turn.ensures.ready 1 c.requires.ready)))))),
    )
