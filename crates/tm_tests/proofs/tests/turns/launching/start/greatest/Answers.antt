use Rattle.std.proofs.Common.{◌≡◌, ◌+◌, ◌∷◌, [], ◌∙◌, ap, length, lit<, lit≤}
use Rattle.tm_tests.specs.Launching.{two_counters, launching}
use Rattle.tm_tests.proofs.LaunchingFirst.{begins_with}
use Rattle.tm_tests.proofs.tests.turns.launching.start.greatest.Goals as goal

pub new-requires-3-clause-begins : goal.new-requires-3-clause-begins
new-requires-3-clause-begins c =
    let placed = c.in_ok-first.ensures.items ∙ ap (λ f. f ∷ []) c.in_ok-counter.ensures in
    (launching 2, two_counters, begins_with 2 _ _ _ (lit≤ tt) (lit< tt) placed c.new-2.ensures.items (ap (λ l. 3 + length l) c.new.ensures.items))

pub returns-in-Ok-clause-serving : goal.returns-in-Ok-clause-serving
returns-in-Ok-clause-serving c =
    let placed = c.in_ok-first.ensures.items ∙ ap (λ f. f ∷ []) c.in_ok-counter.ensures in
    c.in-Ok.ensures.begun (launching 2) two_counters
    (begins_with 2 _ _ _ (lit≤ tt) (lit< tt) placed (c.in-Ok.ensures.nested ∙ c.new-2.ensures.items)
    (ap (λ l. 3 + length l) (c.in-Ok.ensures.above ∙ c.new.ensures.items)))
