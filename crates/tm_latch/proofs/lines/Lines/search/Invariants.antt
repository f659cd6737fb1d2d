use Rattle.std.proofs.Common.{◌-◌, ◌%◌, length, get_or, None}
use Rattle.tm_latch.specs.Lines.{Pairs, in_bucket, IsTable}
use Rattle.tm_latch.proofs.Table.{HasCome}
use Rattle.tm_latch.proofs.lines.Lines.search.Given as goal

abbrev pub invariant-loop : goal.invariant-loop
invariant-loop l =
    let firsts = l.self.firsts.items in
    let b = l.id % length firsts in
    (pairs : Pairs) → IsTable firsts l.self.nodes pairs → HasCome l.self.nodes (get_or firsts b None) (in_bucket (length firsts) b pairs) l.id l.before l.at (l.end - l.counter)
