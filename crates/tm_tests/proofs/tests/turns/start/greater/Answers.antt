use Rattle.std.proofs.Common.{◌+◌, ◌∙◌, ap, length, lit<}
use Rattle.tm_tests.specs.Driving.{one_counter, counting}
use Rattle.tm_tests.proofs.DrivenFirst.{begins_with}
use Rattle.tm_tests.proofs.tests.turns.start.greater.Goals as goal

pub new-requires-3-clause-begins : goal.new-requires-3-clause-begins
new-requires-3-clause-begins c =
    (counting 1, one_counter, begins_with 1 _ _ _ (lit< tt) c.in_ok-first.ensures c.new-2.ensures.items (ap (λ l. 2 + length l) c.new.ensures.items))

pub returns-in-Ok-clause-serving : goal.returns-in-Ok-clause-serving
returns-in-Ok-clause-serving c =
    c.in-Ok.ensures.begun (counting 1) one_counter
    (begins_with 1 _ _ _ (lit< tt) c.in_ok-first.ensures (c.in-Ok.ensures.nested ∙ c.new-2.ensures.items)
    (ap (λ l. 2 + length l) (c.in-Ok.ensures.above ∙ c.new.ensures.items)))
