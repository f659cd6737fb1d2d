use Rattle.std.proofs.Common.{refl}
use Rattle.tm_state.proofs.RowsKeep.{asked_as}
use Rattle.tm_state.proofs.RowsGivenUp.{close_row}
use Rattle.tm_state.proofs.state.TrusteeState.close.Goals as goal

pub returns-clause-served : goal.returns-clause-served
returns-clause-served g c = λ opening s asked.
    close_row g.S.Entrusted.kind opening s c.args.place _ c.drop_client.new.self _ (asked_as c.self.view_is asked) c.drop_client.ensures.closed refl
