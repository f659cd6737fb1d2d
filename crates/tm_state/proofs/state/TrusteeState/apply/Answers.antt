use Rattle.std.proofs.Common.{refl}
use Rattle.tm_state.proofs.RowsKeep.{asked_as}
use Rattle.tm_state.proofs.RowsLive.{held_at, is_live}
use Rattle.tm_state.proofs.RowsApply.{apply_row}
use Rattle.tm_state.proofs.state.TrusteeState.apply.Goals as goal

pub value_mut-requires : goal.value_mut-requires
value_mut-requires g c =
    let (opening, s, asked) = c.requires in
    is_live (held_at c.args.name.id refl (asked_as c.self.view_is asked))

pub returns-clause-served : goal.returns-clause-served
returns-clause-served g c = λ opening s asked.
    apply_row g.S.Entrusted.kind g.met.S.Entrusted.laws opening s c.args.place _ c.args.name c.args.op (asked_as c.self.view_is asked)
    c.value_mut.result.now c.run.new.self c.run.result c.value_mut.ensures.value c.run.ensures
