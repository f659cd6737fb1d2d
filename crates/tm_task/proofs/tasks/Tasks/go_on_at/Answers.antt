use Rattle.tm_task.proofs.Doing.{gone_on_at}
use Rattle.tm_task.proofs.tasks.Tasks.go_on_at.Goals as goal

pub returns-clause-at : goal.returns-clause-at
returns-clause-at g c =
    gone_on_at g.P.PairTable.theory g.S.Entrusted.kind g.T.Task.rules c.args.number c.start_fresh-fresh.result c.args.self.now c.start_fresh-fresh.new.self
    c.ask.new.self c.args.client.now.books c.ask.new.client.books c.start_fresh-fresh.ensures c.ask.ensures.may
