use Rattle.std.proofs.Common.{rules, ◌≡◌, ◌+◌, ap, length, arith}
use Rattle.tm_trustee.proofs.AboveSteps as steps
use Rattle.tm_trustee.proofs.above.go_above.Goals as goal

pub loop-i-init : goal.loop-i-init
loop-i-init g c = record {
  seats = search rules;
  moves =
      steps.none_moved g.P.PairTable.theory g.W.Step.Goes g.S.Entrusted.kind g.met.P.PairTable.laws c.args.from c.args.tables.now c.args.lanes.now.items
      c.args.above.now.items c.requires.among;
}

pub step_at-requires-clause-above : goal.step_at-requires-clause-above
step_at-requires-clause-above g c =
    let (place, is) = c.requires.above in (place, c.loop-i.invariant.moves.is_above place is)

pub loop-i-preserved : goal.loop-i-preserved
loop-i-preserved g c = record {
  seats = c.loop-i.invariant.seats;
  moves =
      steps.next_moved g.P.PairTable.theory g.W.Step.Goes g.S.Entrusted.kind g.met.P.PairTable.laws c.args.from c.loop-i.i c.args.tables.now c.loop-i.tables
      c.step_at.new.tables c.args.lanes.now.items c.loop-i.lanes.items c.step_at.new.lanes.items c.args.above.now.items c.loop-i.above.items
      c.step_at.new.above.items c.loop-i.moved (c.loop-i.moved + c.from-moved.result) c.step_at.result c.loop-i.invariant.moves c.step_at.ensures
      (ap (λ n. c.loop-i.moved + n) (steps.as_count c.step_at.result c.from-moved.result c.from-moved.ensures));
}

pub returns-clause-goes : goal.returns-clause-goes
returns-clause-goes g c =
    let all : c.loop-i.i ≡ length c.args.above.now.items = omega (arith, c.loop-i.invariant.seats) in
    steps.all_moved g.P.PairTable.theory g.W.Step.Goes g.S.Entrusted.kind g.met.P.PairTable.laws c.args.from c.loop-i.i c.args.tables.now c.loop-i.tables
    c.args.lanes.now.items c.loop-i.lanes.items c.args.above.now.items c.loop-i.above.items c.loop-i.moved c.loop-i.invariant.moves all

pub step_at-requires-clause-needs : goal.step_at-requires-clause-needs
step_at-requires-clause-needs g c =
    steps.needs_next g.P.PairTable.theory g.W.Step.Goes g.S.Entrusted.kind g.met.P.PairTable.laws g.W.Step.Needs c.args.from c.loop-i.i c.args.tables.now c.loop-i.tables
    c.args.lanes.now.items c.loop-i.lanes.items c.args.above.now.items c.loop-i.above.items c.loop-i.moved c.loop-i.invariant.moves c.requires.needs
