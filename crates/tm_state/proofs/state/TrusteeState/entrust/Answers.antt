use Rattle.tm_state.proofs.RowsKeep.{asked_as}
use Rattle.tm_state.proofs.RowsOrder.{fresh_id}
use Rattle.tm_state.proofs.RowsEntrust.{entrust_ok, entrust_err}
use Rattle.tm_state.proofs.state.TrusteeState.entrust.Goals.{in-Ok, in-Err}
use Rattle.tm_state.proofs.state.TrusteeState.entrust.Goals as goal

pub returns-clause-served : goal.returns-clause-served
returns-clause-served g c = λ opening s asked.
    let kind = g.S.Entrusted.kind in
    let e = c.entrust.ensures in
    let a = asked_as c.self.view_is asked in
    let k = a.keeps in
    let fresh = fresh_id opening s a.sound in
    elim c.match-entrust.branch [
      | in-Ok w ↦
          entrust_ok kind s c.args.place c.args.value _ k fresh c.entrust.new.self c.entrust.result e.full e.spent e.entrusted
          w.in-Ok.name c.match-entrust.result w.in-Ok.is w.result-is
      | in-Err w ↦
          entrust_err kind s c.args.place c.args.value _ k fresh c.entrust.new.self c.entrust.result e.full e.spent e.entrusted
          w.in-Err.refusal w.in-Err.value c.match-entrust.result w.in-Err.is w.result-is
    ]
