use Rattle.std.proofs.Common.{◌∙◌, ap, subst}
use Rattle.std.specs.Prelude.{◌||◌}
use Rattle.tm_task.specs.Going.{ProgressOf}
use Rattle.tm_task.proofs.WholeTurn.{have_turned, holds_moved, holds_turned, tables_moved, tasks_in_range, tasks_moved, tasks_turned, theirs_turned}
use Rattle.tm_task.proofs.tasks.Tasks.turn.Goals as goal

pub go_on-started-requires-clause-in_range : goal.go_on-started-requires-clause-in_range
go_on-started-requires-clause-in_range g c =
    tasks_in_range g.T.Task.rules c.take_answers-resumed.new.self
    (tasks_moved g.P.PairTable.theory g.S.Entrusted.kind g.T.Task.rules c.take_answers-resumed.result c.args.self.now c.take_answers-resumed.new.self
    c.args.client.now.books c.take_answers-resumed.new.client.books c.requires.tasks c.take_answers-resumed.ensures.moved.have)

pub go_on-started-requires-clause-holds : goal.go_on-started-requires-clause-holds
go_on-started-requires-clause-holds g c =
    holds_moved g.P.PairTable.theory g.S.Entrusted.kind g.T.Task.rules c.take_answers-resumed.result c.args.self.now c.take_answers-resumed.new.self
    c.args.client.now.books c.take_answers-resumed.new.client.books c.take_answers-resumed.ensures.moved.have c.requires.holds

pub go_on-started-requires-clause-client : goal.go_on-started-requires-clause-client
go_on-started-requires-clause-client g c =
    let (openings, are, is) = c.requires.client in (openings, c.take_answers-resumed.ensures.client openings is)

pub turn_all-went-requires : goal.turn_all-went-requires
turn_all-went-requires g c =
    let (openings, are, is) = c.requires.client in
    let first =
    tables_moved g.P.PairTable.theory g.S.Entrusted.kind g.T.Task.rules openings c.args.tables.now c.take_answers-resumed.result c.args.self.now
    c.take_answers-resumed.new.self c.args.client.now.books c.take_answers-resumed.new.client.books c.take_answers-resumed.ensures.moved.have are in
    let through =
    tables_moved g.P.PairTable.theory g.S.Entrusted.kind g.T.Task.rules openings c.args.tables.now c.go_on-started.result c.take_answers-resumed.new.self
    c.go_on-started.new.self c.take_answers-resumed.new.client.books c.go_on-started.new.client.books c.go_on-started.ensures.all.have first in
    record { client = (openings, through, c.go_on-started.ensures.client openings (c.take_answers-resumed.ensures.client openings is)) }

pub returns-clause-turned : goal.returns-clause-turned
returns-clause-turned g c =
    let (openings, are, is) = c.requires.client in
    let client = c.go_on-started.ensures.client openings (c.take_answers-resumed.ensures.client openings is) in
    let told =
    subst (λ x. ProgressOf c.have_ended-ended.result x c.progress_of.result)
    (c.is_either.ensures ∙ ap (λ m. m || c.turn_all-went.result) c.is_either-moved.ensures) c.progress_of.ensures in
    have_turned g.P.PairTable.theory g.S.Entrusted.kind g.T.Task.rules openings c.take_answers-resumed.result c.go_on-started.result c.turn_all-went.result
    c.have_ended-ended.result c.progress_of.result c.args.self.now c.take_answers-resumed.new.self c.go_on-started.new.self c.turn_all-went.new.self
    c.args.client.now.books c.take_answers-resumed.new.client.books c.go_on-started.new.client.books c.turn_all-went.new.client.books c.args.tables.now
    c.turn_all-went.new.tables c.requires.tasks c.requires.theirs are client c.take_answers-resumed.ensures.moved c.take_answers-resumed.ensures.none
    c.go_on-started.ensures.all c.turn_all-went.ensures.turns told c.have_ended-ended.ensures.all c.have_ended-ended.ensures.some

pub returns-clause-tasks : goal.returns-clause-tasks
returns-clause-tasks g c =
    let (openings, are, is) = c.requires.client in
    let client = c.go_on-started.ensures.client openings (c.take_answers-resumed.ensures.client openings is) in
    tasks_turned g.P.PairTable.theory g.S.Entrusted.kind g.T.Task.rules openings c.take_answers-resumed.result c.go_on-started.result c.turn_all-went.result
    c.have_ended-ended.result c.progress_of.result c.args.self.now c.take_answers-resumed.new.self c.go_on-started.new.self c.turn_all-went.new.self
    c.args.client.now.books c.take_answers-resumed.new.client.books c.go_on-started.new.client.books c.turn_all-went.new.client.books c.args.tables.now
    c.turn_all-went.new.tables c.requires.tasks c.requires.theirs are client c.take_answers-resumed.ensures.moved c.take_answers-resumed.ensures.none
    c.go_on-started.ensures.all c.turn_all-went.ensures.turns

pub returns-clause-theirs : goal.returns-clause-theirs
returns-clause-theirs g c =
    let (openings, are, is) = c.requires.client in
    let client = c.go_on-started.ensures.client openings (c.take_answers-resumed.ensures.client openings is) in
    theirs_turned g.P.PairTable.theory g.S.Entrusted.kind g.T.Task.rules openings c.take_answers-resumed.result c.go_on-started.result c.turn_all-went.result
    c.have_ended-ended.result c.progress_of.result c.args.self.now c.take_answers-resumed.new.self c.go_on-started.new.self c.turn_all-went.new.self
    c.args.client.now.books c.take_answers-resumed.new.client.books c.go_on-started.new.client.books c.turn_all-went.new.client.books c.args.tables.now
    c.turn_all-went.new.tables c.requires.tasks c.requires.theirs are client c.take_answers-resumed.ensures.moved c.take_answers-resumed.ensures.none
    c.go_on-started.ensures.all c.turn_all-went.ensures.turns

pub returns-clause-holds : goal.returns-clause-holds
returns-clause-holds g c =
    let (openings, are, is) = c.requires.client in
    let client = c.go_on-started.ensures.client openings (c.take_answers-resumed.ensures.client openings is) in
    holds_turned g.P.PairTable.theory g.S.Entrusted.kind g.T.Task.rules openings c.take_answers-resumed.result c.go_on-started.result c.turn_all-went.result
    c.have_ended-ended.result c.progress_of.result c.args.self.now c.take_answers-resumed.new.self c.go_on-started.new.self c.turn_all-went.new.self
    c.args.client.now.books c.take_answers-resumed.new.client.books c.go_on-started.new.client.books c.turn_all-went.new.client.books c.args.tables.now
    c.turn_all-went.new.tables c.requires.tasks c.requires.theirs are client c.take_answers-resumed.ensures.moved c.take_answers-resumed.ensures.none
    c.go_on-started.ensures.all c.turn_all-went.ensures.turns c.requires.holds

pub returns-clause-client : goal.returns-clause-client
returns-clause-client g c = λ openings are is.
    let first =
    tables_moved g.P.PairTable.theory g.S.Entrusted.kind g.T.Task.rules openings c.args.tables.now c.take_answers-resumed.result c.args.self.now
    c.take_answers-resumed.new.self c.args.client.now.books c.take_answers-resumed.new.client.books c.take_answers-resumed.ensures.moved.have are in
    let through =
    tables_moved g.P.PairTable.theory g.S.Entrusted.kind g.T.Task.rules openings c.args.tables.now c.go_on-started.result c.take_answers-resumed.new.self
    c.go_on-started.new.self c.take_answers-resumed.new.client.books c.go_on-started.new.client.books c.go_on-started.ensures.all.have first in
    c.turn_all-went.ensures.client openings through (c.go_on-started.ensures.client openings (c.take_answers-resumed.ensures.client openings is))
