use Rattle.mc_top.proofs.Endings.{did_nothing, did_not_run, did_as_said}
use Rattle.mc_top.proofs.process.run.Goals as goal

pub returns-in-Err-clause-does : goal.returns-in-Err-clause-does
returns-in-Err-clause-does g c = did_not_run c.in-Err.status _ c.in-Err.ensures

pub returns-in_default-clause-does : goal.returns-in_default-clause-does
returns-in_default-clause-does g c = did_nothing _

pub returns-clause-does : goal.returns-clause-does
returns-clause-does g c =
    let top = c.top_in_turns.ensures in
    did_as_said g.A.Source.left g.B.Sink.written _ _ _ _ _ _ _ c.top_in_turns.result top.does top.untouched top.lawful
