use Rattle.tm_tests.proofs.DrivenTurned.{turn_driven, turn_keeps, turn_keeps_others}
use Rattle.tm_tests.proofs.tests.turns.turning.turn.Goals as goal

pub serve_turn-requires : goal.serve_turn-requires
serve_turn-requires g c = let (n, driven) = c.requires in record { ready = driven.ready }

pub returns-clause-ready : goal.returns-clause-ready
returns-clause-ready g c = λ n driven.
    turn_driven g.P.PairTable.theory c.args.tables.now c.serve_turn.new.tables n c.args.trustee.now c.serve_turn.new.self driven c.serve_turn.ensures.ready
    c.serve_turn.ensures.parts

pub returns-clause-sides : goal.returns-clause-sides
returns-clause-sides g c = λ n other driven seated.
    turn_keeps g.P.PairTable.theory c.args.tables.now c.serve_turn.new.tables n c.args.trustee.now driven c.serve_turn.ensures.tables other seated

pub returns-clause-others : goal.returns-clause-others
returns-clause-others g c = λ n driven.
    turn_keeps_others g.P.PairTable.theory c.args.tables.now c.serve_turn.new.tables n c.args.trustee.now driven c.serve_turn.ensures.tables
