use Rattle.std.proofs.Common.{subst}
use Rattle.tm_turns.specs.Closing.{AreRuns}
use Rattle.tm_turns.proofs.Closed.{closed}
use Rattle.tm_turns.proofs.turns.Turns.close.Goals as goal

pub returns : goal.returns
returns g c =
    let kind = g.S.Entrusted.kind in
    let (config, first, are) = c.requires.are in
    let runs = subst (λ trustees. AreRuns kind trustees c.count_all.result.items) c.as_slice.ensures.value c.count_all.ensures in (
      c.run-2.new.self,
      closed kind config first c.args.self c.shut_clients.new.self c.run.new.self c.take_answers.new.self c.run-2.new.self c.run.result c.run-2.result are
          c.shut_clients.ensures.shut c.shut_clients.ensures.keeps
          c.run.ensures.run c.run.ensures.keeps c.run.ensures.rest
          c.take_answers.ensures.takes c.take_answers.ensures.keeps
          c.run-2.ensures.run c.run-2.ensures.keeps c.run-2.ensures.rest
          c.count_all.result.items runs,
    )
