use Rattle.std.proofs.Common.{◌+◌, suc, subst, arith}
use Rattle.tm_turns.specs.Going.{GoesRound}
use Rattle.tm_turns.proofs.Falling.{all_keep, turns_still}
use Rattle.tm_turns.proofs.Going.{rounds_none, rounds_more, run_keeps, run_lessens, has_run_keeps, has_run_rests}
use Rattle.tm_turns.proofs.turns.Turns.run.Goals as goal

pub go_round-more-requires : goal.go_round-more-requires
go_round-more-requires g c =
    let kept = all_keep g.S.Entrusted.kind c.args.order.now c.go_each-moved.result c.args.self.now c.go_each-moved.new.self c.go_each-moved.ensures in
    record { are = turns_still g.S.Entrusted.kind c.args.self.now c.go_each-moved.new.self kept c.requires.are }

pub loop-more-init : goal.loop-more-init
loop-more-init g c =
    let kept = all_keep g.S.Entrusted.kind c.args.order.now c.go_each-moved.result c.args.self.now c.go_each-moved.new.self c.go_each-moved.ensures in
    let fits = c.go_each-moved.type_inv in
    record {
      listed = c.go_each-moved.new.self;
      last = c.go_each-moved.new.self;
      first = c.go_each-moved.result;
      rounds = 0;
      then = 0;
      list = c.go_each-moved.ensures;
      goes_round = rounds_none g.S.Entrusted.kind c.go_each-moved.new.self;
      round = c.go_round-more.ensures;
      total = omega (arith, fits);
      are = turns_still g.S.Entrusted.kind c.args.self.now c.go_each-moved.new.self kept c.requires.are;
    }

pub go_round-more-requires-in-loop-more : goal.go_round-more-requires-in-loop-more
go_round-more-requires-in-loop-more g c =
    record { are = run_keeps g.S.Entrusted.kind c.args.order.now c.loop-more.moved c.loop-more.more c.args.self.now c.loop-more.self c.loop-more.invariant }

pub loop-more-smaller : goal.loop-more-smaller
loop-more-smaller g c =
    let are = run_keeps g.S.Entrusted.kind c.args.order.now c.loop-more.moved c.loop-more.more c.args.self.now c.loop-more.self c.loop-more.invariant in
    run_lessens g.S.Entrusted.kind g.met.S.Entrusted.laws c.loop-more.more c.go_round-more-in-loop-more.result c.loop-more.self c.go_round-more-in-loop-more.new.self are
    c.go_round-more-in-loop-more.ensures c.loop-more-test.true

pub loop-more-preserved : goal.loop-more-preserved
loop-more-preserved g c =
    let i = c.loop-more.invariant in
    let are = run_keeps g.S.Entrusted.kind c.args.order.now c.loop-more.moved c.loop-more.more c.args.self.now c.loop-more.self i in
    let total = i.total in
    let sum = c.saturating_add-moved.ensures in
    record {
      listed = i.listed;
      last = c.loop-more.self;
      first = i.first;
      rounds = suc i.rounds;
      then = i.then + c.loop-more.more;
      list = i.list;
      goes_round = rounds_more g.S.Entrusted.kind i.rounds i.then c.loop-more.more i.listed i.last c.loop-more.self i.goes_round i.round c.loop-more-test.true;
      round = c.go_round-more-in-loop-more.ensures;
      total = omega (arith, total, sum);
      are = are;
    }

pub returns-clause-run : goal.returns-clause-run
returns-clause-run g c =
    let i = c.loop-more.invariant in
    let none = c.loop-more-test.false in
    record {
      listed = i.listed;
      last = i.last;
      first = i.first;
      rounds = i.rounds;
      then = i.then;
      list = i.list;
      goes_round = i.goes_round;
      quiet = subst (λ m. GoesRound g.S.Entrusted.kind m i.last c.loop-more.self) (omega (arith, none)) i.round;
      total = i.total;
    }

pub returns-clause-rest : goal.returns-clause-rest
returns-clause-rest g c =
    has_run_rests g.S.Entrusted.kind c.args.order.now c.loop-more.moved c.args.self.now c.loop-more.self c.requires.are (returns-clause-run g c)

pub returns-clause-keeps : goal.returns-clause-keeps
returns-clause-keeps g c =
    has_run_keeps g.S.Entrusted.kind c.args.order.now c.loop-more.moved c.args.self.now c.loop-more.self c.requires.are (returns-clause-run g c)
