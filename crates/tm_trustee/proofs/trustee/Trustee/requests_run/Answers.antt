use Rattle.std.proofs.Common.{◌∙◌}
use Rattle.tm_trustee.proofs.Resuming.{run_behind}
use Rattle.tm_trustee.proofs.trustee.Trustee.requests_run.Goals as goal

pub returns : goal.returns
returns g c = λ opening serving.
    let view = g.P.PairTable.theory.trustee_view c.args.self.now.side in
    c.requests_run.ensures ∙ run_behind g.S.Entrusted.kind opening view.log c.args.self.now.since.items c.args.self.now.state serving.current
