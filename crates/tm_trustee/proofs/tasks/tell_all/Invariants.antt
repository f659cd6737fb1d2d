use Rattle.std.proofs.Common.{◌≡◌, length}
use Rattle.tm_trustee.proofs.Telling.{GoesFrom, AreToldBelow}
use Rattle.tm_trustee.proofs.tasks.tell_all.Given as goal

-- it went on, and the replies that came at the lanes before this one were told
abbrev pub invariant-loop-i : goal.invariant-loop-i
invariant-loop-i g l = record {
  from :
      GoesFrom g.S.Entrusted.kind l.number l.held l.initial.made l.made l.initial.state l.state l.initial.lanes.items l.lanes.items;
  count : l.count ≡ length l.initial.lanes.items;
  told : AreToldBelow l.i l.lanes.items;
}
