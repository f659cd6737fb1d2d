use Rattle.std.proofs.Common.{rules, arith}
use Rattle.tm_latch.proofs.Changes.{table_none}
use Rattle.tm_latch.proofs.lines.Lines.new.Goals as goal

pub returns-clause-none : goal.returns-clause-none
returns-clause-none c = table_none _ _ _ (omega arith) (c.in_ok-vec.ensures.items_if_clones_equal (λ y clone. search rules)) c.in_ok-with_capacity.ensures.empty
