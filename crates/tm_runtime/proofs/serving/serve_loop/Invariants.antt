use Rattle.std.proofs.Common.{ℕ}
use Rattle.tm_model.specs.Lists.{IsPrefix}
use Rattle.tm_trustee.specs.Tables.{IsReady}
use Rattle.tm_runtime.specs.Serving.{TurnsOn}
use Rattle.tm_runtime.proofs.serving.serve_loop.Given as goal

-- some turns were made, none of which said that the trustee has ended
abbrev pub invariant-loop : goal.invariant-loop
invariant-loop g l =
    (n : ℕ) × TurnsOn g.P.PairTable.theory g.S.Entrusted.kind n l.fn.tables l.fn.trustee l.tables l.trustee
    × IsReady g.P.PairTable.theory g.S.Entrusted.kind l.tables l.trustee
    × IsPrefix (g.P.PairTable.theory.trustee_view l.fn.trustee.side).log (g.P.PairTable.theory.trustee_view l.trustee.side).log
