use Rattle.std.proofs.Common.{◌≡◌, sym, ◌∙◌, ap}
use Rattle.tm_tests.proofs.tests.turns.upward.two_trustees.Goals as goal

pub turn-requires-2 : goal.turn-requires-2
turn-requires-2 g c =
    let low : (g.P.PairTable.theory.client_view c.args.at_low.now).place ≡ 0 = ap (λ view. view.place) c.requires.low_view in
    (0, c.say_bye.ensures.others.trustees 0 _ (λ e. let no : 1 ≡ 0 = e ∙ low in absurd cc) (c.turn.ensures.ready 0 c.requires.lesser))

pub turn-requires-3 : goal.turn-requires-3
turn-requires-3 g c =
    let low : (g.P.PairTable.theory.client_view c.args.at_low.now).place ≡ 0 = ap (λ view. view.place) c.requires.low_view in
    let two = c.say_bye.ensures.others.trustees 0 _ (λ e. let no : 1 ≡ 0 = e ∙ low in absurd cc) (c.turn.ensures.ready 0 c.requires.lesser) in
    (0, c.turn-2.ensures.ready 0 two)

pub say_bye-requires-2-clause-mine : goal.say_bye-requires-2-clause-mine
say_bye-requires-2-clause-mine g c =
    let low : (g.P.PairTable.theory.client_view c.args.at_low.now).place ≡ 0 = ap (λ view. view.place) c.requires.low_view in
    let high : (g.P.PairTable.theory.client_view c.args.at_high.now).place ≡ 0 = ap (λ view. view.place) c.requires.high_view in
    let two = c.say_bye.ensures.others.trustees 0 _ (λ e. let no : 1 ≡ 0 = e ∙ low in absurd cc) (c.turn.ensures.ready 0 c.requires.lesser) in
    (c.turn-3.ensures.others 0 (c.turn-2.ensures.ready 0 two)).sides 1 _ (λ e. let no : 0 ≡ 1 = sym high ∙ e in absurd cc)
    ((c.turn-2.ensures.others 0 two).sides 1 _ (λ e. let no : 0 ≡ 1 = sym high ∙ e in absurd cc)
    (c.say_bye.ensures.elsewhere 1 _ (λ e. absurd cc)
    ((c.turn.ensures.others 0 c.requires.lesser).sides 1 _ (λ e. let no : 0 ≡ 1 = sym high ∙ e in absurd cc) c.requires.at_high)))

pub turn-requires-4 : goal.turn-requires-4
turn-requires-4 g c =
    let low : (g.P.PairTable.theory.client_view c.args.at_low.now).place ≡ 0 = ap (λ view. view.place) c.requires.low_view in
    let high : (g.P.PairTable.theory.client_view c.args.at_high.now).place ≡ 0 = ap (λ view. view.place) c.requires.high_view in
    let two = c.say_bye.ensures.others.trustees 0 _ (λ e. let no : 1 ≡ 0 = e ∙ low in absurd cc) (c.turn.ensures.ready 0 c.requires.lesser) in (
      1,
      c.say_bye-2.ensures.others.trustees 1 _ (λ e. let no : 2 ≡ 0 = e ∙ high in absurd cc)
          ((c.turn-3.ensures.others 0 (c.turn-2.ensures.ready 0 two)).trustees 1 _ (λ e. absurd cc)
          ((c.turn-2.ensures.others 0 two).trustees 1 _ (λ e. absurd cc)
          (c.say_bye.ensures.others.trustees 1 _ (λ e. let no : 2 ≡ 0 = e ∙ low in absurd cc)
          ((c.turn.ensures.others 0 c.requires.lesser).trustees 1 _ (λ e. absurd cc) c.requires.greater)))),
    )

pub turn-requires-5 : goal.turn-requires-5
turn-requires-5 g c =
    let low : (g.P.PairTable.theory.client_view c.args.at_low.now).place ≡ 0 = ap (λ view. view.place) c.requires.low_view in
    let high : (g.P.PairTable.theory.client_view c.args.at_high.now).place ≡ 0 = ap (λ view. view.place) c.requires.high_view in
    let two = c.say_bye.ensures.others.trustees 0 _ (λ e. let no : 1 ≡ 0 = e ∙ low in absurd cc) (c.turn.ensures.ready 0 c.requires.lesser) in
    let three = c.turn-2.ensures.ready 0 two in
    let greater =
    c.say_bye-2.ensures.others.trustees 1 _ (λ e. let no : 2 ≡ 0 = e ∙ high in absurd cc)
    ((c.turn-3.ensures.others 0 three).trustees 1 _ (λ e. absurd cc)
    ((c.turn-2.ensures.others 0 two).trustees 1 _ (λ e. absurd cc)
    (c.say_bye.ensures.others.trustees 1 _ (λ e. let no : 2 ≡ 0 = e ∙ low in absurd cc)
    ((c.turn.ensures.others 0 c.requires.lesser).trustees 1 _ (λ e. absurd cc) c.requires.greater)))) in (
      0,
      (c.turn-4.ensures.others 1 greater).trustees 0 _ (λ e. absurd cc)
          (c.say_bye-2.ensures.others.trustees 0 _ (λ e. let no : 1 ≡ 0 = e ∙ high in absurd cc) (c.turn-3.ensures.ready 0 three)),
    )
