use Rattle.tm_state.proofs.BatchRuns.{servable, has_run}
use Rattle.tm_state.proofs.state.TrusteeState.run.Goals as goal

pub serve-answer-requires : goal.serve-answer-requires
serve-answer-requires g c = servable g.S.Entrusted.kind c.args.place c.args.request c.args.self.now c.requires

pub returns-clause-run : goal.returns-clause-run
returns-clause-run g c =
    let served = c.serve-answer.ensures in
    has_run g.S.Entrusted.kind c.args.place c.args.request c.serve-answer.result c.args.self.now c.serve-answer.new.self _
    c.saturating_add-self-inside.result c.saturating_add-self-inside-2.result c.self-2.view_is c.saturating_add-self-inside.ensures
    c.saturating_add-self-inside-2.ensures served.served served.run served.entries
