use Rattle.std.proofs.Common.{refl}
use Rattle.tm_latch.proofs.Chains.{first_cell, taken_own, taken_others}
use Rattle.tm_latch.proofs.queues.take_first.Goals as goal

pub remove-cell-requires : goal.remove-cell-requires
remove-cell-requires g c = let first = first_cell c.requires.0 _ c.args.ends c.requires.1.0 c.requires.1.1 c.requires.1.2 in rw first.3 refl

pub returns-clause-own : goal.returns-clause-own
returns-clause-own g c t rest q =
    let taken = taken_own _ c.remove-cell.new.self c.args.ends c.remove-cell.result c.remove-cell.ensures.value c.remove-cell.ensures.updates t rest q in
    rw c.queue_from.ensures taken

pub returns-clause-others : goal.returns-clause-others
returns-clause-others g c = taken_others _ c.remove-cell.new.self c.args.ends c.remove-cell.result c.remove-cell.ensures.value c.remove-cell.ensures.updates
