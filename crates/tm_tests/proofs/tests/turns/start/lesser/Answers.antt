use Rattle.std.proofs.Common.{◌+◌, ◌∙◌, ap, length, lit<}
use Rattle.tm_tests.specs.Driving.{one_counter, counting}
use Rattle.tm_tests.proofs.DrivenFirst.{begins_with}
use Rattle.tm_tests.proofs.tests.turns.start.lesser.Goals as goal

pub new-requires-2-clause-begins : goal.new-requires-2-clause-begins
new-requires-2-clause-begins c =
    (counting 0, one_counter, begins_with 0 _ _ _ (lit< tt) c.new.ensures.items c.in_ok-nested.ensures.items (ap (λ l. 1 + length l) c.in_ok-above.ensures.items))

pub returns-in-Ok-clause-serving : goal.returns-in-Ok-clause-serving
returns-in-Ok-clause-serving c =
    c.in-Ok.ensures.begun (counting 0) one_counter
    (begins_with 0 _ _ _ (lit< tt) c.new.ensures.items (c.in-Ok.ensures.nested ∙ c.in_ok-nested.ensures.items)
    (ap (λ l. 1 + length l) (c.in-Ok.ensures.above ∙ c.in_ok-above.ensures.items)))
