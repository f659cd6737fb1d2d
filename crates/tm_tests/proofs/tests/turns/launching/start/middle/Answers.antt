use Rattle.std.proofs.Common.{◌≡◌, ◌+◌, ◌∷◌, [], ◌∙◌, ap, length, lit<, lit≤}
use Rattle.tm_tests.specs.Launching.{two_counters, launching}
use Rattle.tm_tests.proofs.LaunchingFirst.{begins_with}
use Rattle.tm_tests.proofs.tests.turns.launching.start.middle.Goals as goal

pub new-requires-clause-begins : goal.new-requires-clause-begins
new-requires-clause-begins c =
    let placed = c.in_ok-first.ensures.items ∙ ap (λ f. f ∷ []) c.in_ok-counter.ensures in
    (launching 1, two_counters, begins_with 1 _ _ _ (lit≤ tt) (lit< tt) placed c.in_ok-nested.ensures.items (ap (λ l. 2 + length l) c.in_ok-above.ensures.items))

pub returns-in-Ok-clause-serving : goal.returns-in-Ok-clause-serving
returns-in-Ok-clause-serving c =
    let placed = c.in_ok-first.ensures.items ∙ ap (λ f. f ∷ []) c.in_ok-counter.ensures in
    c.in-Ok.ensures.begun (launching 1) two_counters
    (begins_with 1 _ _ _ (lit≤ tt) (lit< tt) placed (c.in-Ok.ensures.nested ∙ c.in_ok-nested.ensures.items)
    (ap (λ l. 2 + length l) (c.in-Ok.ensures.above ∙ c.in_ok-above.ensures.items)))
