use Rattle.std.proofs.Common.{arith}
use Rattle.mc_solo_tests.proofs.Trusts.{dealt}
use Rattle.mc_solo_tests.proofs.answering.answer.Goals as goal

pub serve-requires-clause-may : goal.serve-requires-clause-may
serve-requires-clause-may c =
    let many = c.in_ok-turns.ensures.clients in
    dealt 0 c.in_ok-turns.trusts.items c.index.result.now (omega (arith, many)) c.index.ensures c.deref.result.now c.deref.ensures.value c.in_ok-turns.turns c.in_ok-turns.ensures.may
