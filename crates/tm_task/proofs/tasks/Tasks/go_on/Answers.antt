use Rattle.std.proofs.Common.{◌≡◌, ◌+◌, length, sym, subst, arith}
use Rattle.tm_task.specs.Going.{HaveGoneOn}
use Rattle.tm_task.proofs.Doing.{gone_on_more, gone_on_none}
use Rattle.tm_task.proofs.WholeTurn.{holds_moved, range_moved}
use Rattle.tm_task.proofs.tasks.Tasks.go_on.Goals as goal

pub loop-number-init : goal.loop-number-init
loop-number-init g c =
    (gone_on_none g.P.PairTable.theory g.S.Entrusted.kind g.T.Task.rules c.args.self.now c.args.client.now.books, λ openings is. is)

pub go_on_at-fresh-requires-clause-in_range : goal.go_on_at-fresh-requires-clause-in_range
go_on_at-fresh-requires-clause-in_range g c =
    range_moved g.P.PairTable.theory g.S.Entrusted.kind g.T.Task.rules c.loop-number.started c.args.self.now c.loop-number.self c.args.client.now.books
    c.loop-number.client.books c.loop-number.invariant.0.have c.requires.in_range

pub go_on_at-fresh-requires-clause-holds : goal.go_on_at-fresh-requires-clause-holds
go_on_at-fresh-requires-clause-holds g c =
    holds_moved g.P.PairTable.theory g.S.Entrusted.kind g.T.Task.rules c.loop-number.started c.args.self.now c.loop-number.self c.args.client.now.books
    c.loop-number.client.books c.loop-number.invariant.0.have c.requires.holds

pub go_on_at-fresh-requires-clause-client : goal.go_on_at-fresh-requires-clause-client
go_on_at-fresh-requires-clause-client g c =
    let (openings, is) = c.requires.client in (openings, c.loop-number.invariant.1 openings is)

pub loop-number-preserved : goal.loop-number-preserved
loop-number-preserved g c =
    let more =
    gone_on_more g.P.PairTable.theory g.S.Entrusted.kind g.T.Task.rules c.loop-number.number c.loop-number.started c.go_on_at-fresh.result c.args.self.now
    c.loop-number.self c.go_on_at-fresh.new.self c.args.client.now.books c.loop-number.client.books c.go_on_at-fresh.new.client.books
    c.loop-number.invariant.0 c.go_on_at-fresh.ensures.at in (
      subst
          (λ b. HaveGoneOn g.P.PairTable.theory g.S.Entrusted.kind g.T.Task.rules (c.loop-number.number + 1) b c.args.self.now c.go_on_at-fresh.new.self
          c.args.client.now.books c.go_on_at-fresh.new.client.books)
          (sym c.is_either-started.ensures) more,
      λ openings is. c.go_on_at-fresh.ensures.client openings (c.loop-number.invariant.1 openings is),
    )

pub returns-clause-all : goal.returns-clause-all
returns-clause-all g c =
    let many = c.len-count.ensures in
    let last = c.loop-number.auto.number-end in
    let past = c.loop-number-test.false in
    let all : c.loop-number.number ≡ length c.args.self.now.stages.items = omega (arith, many, last, past) in
    subst
    (λ n. HaveGoneOn g.P.PairTable.theory g.S.Entrusted.kind g.T.Task.rules n c.loop-number.started c.args.self.now c.loop-number.self
    c.args.client.now.books c.loop-number.client.books)
    all c.loop-number.invariant.0
