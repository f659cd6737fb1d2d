use Rattle.std.proofs.Common.{◌≡◌, Bool, true, false, refl, subst}
use Rattle.std.specs.Prelude.{◌||◌}
use Rattle.tm_task.specs.Going.{HaveAnswered}
use Rattle.tm_task.proofs.Doing.{answered_more, answered_none}
use Rattle.tm_task.proofs.Theirs.{taken_awaits}
use Rattle.tm_task.proofs.WholeTurn.{theirs_moved}
use Rattle.tm_task.proofs.tasks.Tasks.take_answers.Goals as goal

or_true : (b : Bool) → (b || true) ≡ true
or_true true = refl
or_true false = refl

pub answers-init : goal.answers-init
answers-init g c =
    (answered_none g.P.PairTable.theory g.S.Entrusted.kind g.T.Task.rules c.args.self.now c.args.client.now.books, λ openings is. is)

pub next-requires : goal.next-requires
next-requires g c = let (openings, is) = c.requires.client in record { client = (openings, c.answers.invariant.1 openings is) }

pub resume-requires : goal.resume-requires
resume-requires g c =
    let theirs =
    theirs_moved g.P.PairTable.theory g.S.Entrusted.kind g.T.Task.rules c.answers.moved c.args.self.now c.answers.self c.args.client.now.books
    c.answers.client.books c.answers.invariant.0.have c.requires.theirs in
    let (i, task, at, some) =
    taken_awaits c.answers.self.trusts.items c.in-Some.number c.in-Some.got c.answers.self.stages.items c.answers.client.books c.next.new.self.books theirs
    c.in-Some.ensures.next in
    (i, task, at)

pub answers-preserved : goal.answers-preserved
answers-preserved g c =
    let more =
    answered_more g.P.PairTable.theory g.S.Entrusted.kind g.T.Task.rules c.in-Some.number c.in-Some.got c.answers.moved c.args.self.now c.answers.self
    c.resume.new.self c.args.client.now.books c.answers.client.books c.next.new.self.books c.answers.invariant.0 c.resume.ensures c.in-Some.ensures.next in (
      subst
          (λ b. HaveAnswered g.P.PairTable.theory g.S.Entrusted.kind g.T.Task.rules b c.args.self.now c.resume.new.self c.args.client.now.books
          c.next.new.self.books)
          (or_true c.answers.moved) more,
      λ openings is. c.next.ensures.client openings (c.answers.invariant.1 openings is),
    )

pub returns-clause-client : goal.returns-clause-client
returns-clause-client g c = λ openings is. c.next.ensures.client openings (c.answers.invariant.1 openings is)
