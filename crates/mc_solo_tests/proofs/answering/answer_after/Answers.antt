use Rattle.std.proofs.Common.{sym, subst, arith}
use Rattle.mc_solo.specs.Serving.{MayServe}
use Rattle.mc_solo_tests.proofs.Trusts.{dealt, read_again}
use Rattle.mc_solo_tests.proofs.answering.answer_after.Goals as goal

pub serve-requires-clause-may : goal.serve-requires-clause-may
serve-requires-clause-may c =
    let many = c.in_ok-turns.ensures.clients in
    dealt 0 c.in_ok-turns.trusts.items c.index.result.now (omega (arith, many)) c.index.ensures c.deref.result.now c.deref.ensures.value c.in_ok-turns.turns c.in_ok-turns.ensures.may

pub serve-requires-2-clause-may : goal.serve-requires-2-clause-may
serve-requires-2-clause-may c =
    let many = c.in_ok-turns.ensures.clients in
    c.serve.ensures.others 1 c.deref-2.result.now (λ e. absurd (omega (arith, e)))
    (dealt 1 c.in_ok-turns.trusts.items c.index-2.result.now (omega (arith, many)) c.index-2.ensures c.deref-2.result.now c.deref-2.ensures.value c.in_ok-turns.turns
    c.in_ok-turns.ensures.may)

pub serve-requires-3-clause-may : goal.serve-requires-3-clause-may
serve-requires-3-clause-may c =
    let many = c.in_ok-turns.ensures.clients in
    let same =
    read_again 0 c.in_ok-turns.trusts.items c.index.result.now (omega (arith, many)) c.index.ensures c.deref.result.now c.deref.ensures.value c.index-3.result.now c.index-3.ensures
    c.deref-3.result.now c.deref-3.ensures.value in
    subst (λ xs. MayServe 0 xs c.serve-2.new.turns) (sym same) (c.serve-2.ensures.others 0 c.deref.result.now (λ e. absurd (omega (arith, e))) c.serve.ensures.again)
