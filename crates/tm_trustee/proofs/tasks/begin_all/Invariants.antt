use Rattle.tm_state.specs.Launches.{to_begin}
use Rattle.tm_trustee.specs.Serving.{AreTold}
use Rattle.tm_trustee.proofs.Telling.{GoesFrom}
use Rattle.tm_trustee.proofs.tasks.begin_all.Given as goal

-- it went on, and no reply is left to tell
abbrev pub invariant-loop-resumed : goal.invariant-loop-resumed
invariant-loop-resumed g l = record {
  from :
      GoesFrom g.S.Entrusted.kind l.number l.held l.initial.made l.made l.initial.state l.state l.initial.lanes.items l.lanes.items;
  told : AreTold l.lanes.items;
}

abbrev pub decreases-loop-resumed : goal.decreases-loop-resumed
decreases-loop-resumed g l = to_begin l.state.launched
