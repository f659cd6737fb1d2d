use Rattle.std.proofs.Common.{◌≡◌, ◌≢◌, ℕ, suc, refl, sym, ◌∙◌}
use Rattle.tm_trustee.specs.declared.served.Served.{Served}
use Rattle.tm_trustee.specs.declared.served.Served.TheVariants.{Moved, Quiet, Ended}
use Rattle.tm_runtime.proofs.Turns.{turns_none, turns_more, front_of_itself, front_on, turn_grows, turn_ends}
use Rattle.tm_runtime.proofs.serving.serve_loop.Goals as goal

not_ended_moved : (served : Served) (n : ℕ) → served ≡ Moved n → served ≢ Ended
not_ended_moved served n e f = let both : Moved n ≡ Ended = sym e ∙ f in absurd cc

not_ended_quiet : (served : Served) → served ≡ Quiet → served ≢ Ended
not_ended_quiet served e f = let both : Quiet ≡ Ended = sym e ∙ f in absurd cc

pub loop-init : goal.loop-init
loop-init g c = (0, turns_none g.P.PairTable.theory g.S.Entrusted.kind c.args.tables.now c.args.trustee.now, c.requires.ready, front_of_itself g.P.PairTable.theory g.S.Entrusted.kind (g.P.PairTable.theory.trustee_view c.args.trustee.now.side).log)

pub serve_turn-requires : goal.serve_turn-requires
serve_turn-requires g c = let (n, on, ready, grows) = c.loop.invariant in record { ready = ready }

pub loop-preserved-in-Moved : goal.loop-preserved-in-Moved
loop-preserved-in-Moved g c =
    let (n, on, ready, grows) = c.loop.invariant in
    let did = c.serve_turn.ensures in (
      suc n,
      turns_more g.P.PairTable.theory g.S.Entrusted.kind n c.serve_turn.result c.args.tables.now c.loop.tables c.serve_turn.new.tables c.args.trustee.now c.loop.trustee c.serve_turn.new.self on
          (record { turned = did.turned; above = did.above; keeps = did.tables; parts = did.parts }) (not_ended_moved c.serve_turn.result _ c.in-Moved.is),
      did.ready,
      front_on g.P.PairTable.theory g.S.Entrusted.kind (g.P.PairTable.theory.trustee_view c.args.trustee.now.side).log (g.P.PairTable.theory.trustee_view c.loop.trustee.side).log
          (g.P.PairTable.theory.trustee_view c.serve_turn.new.self.side).log grows
          (turn_grows g.P.PairTable.theory g.S.Entrusted.kind c.serve_turn.result c.loop.tables c.serve_turn.new.tables c.loop.trustee c.serve_turn.new.self
          (record { turned = did.turned; above = did.above; keeps = did.tables; parts = did.parts }) ready did.ready),
    )

pub loop-preserved : goal.loop-preserved
loop-preserved g c =
    let (n, on, ready, grows) = c.loop.invariant in
    let did = c.serve_turn.ensures in (
      suc n,
      turns_more g.P.PairTable.theory g.S.Entrusted.kind n c.serve_turn.result c.args.tables.now c.loop.tables c.serve_turn.new.tables c.args.trustee.now c.loop.trustee c.serve_turn.new.self on
          (record { turned = did.turned; above = did.above; keeps = did.tables; parts = did.parts }) (not_ended_quiet c.serve_turn.result c.in-Quiet.is),
      did.ready,
      front_on g.P.PairTable.theory g.S.Entrusted.kind (g.P.PairTable.theory.trustee_view c.args.trustee.now.side).log (g.P.PairTable.theory.trustee_view c.loop.trustee.side).log
          (g.P.PairTable.theory.trustee_view c.serve_turn.new.self.side).log grows
          (turn_grows g.P.PairTable.theory g.S.Entrusted.kind c.serve_turn.result c.loop.tables c.serve_turn.new.tables c.loop.trustee c.serve_turn.new.self
          (record { turned = did.turned; above = did.above; keeps = did.tables; parts = did.parts }) ready did.ready),
    )

pub returns-in-Ended-clause-served : goal.returns-in-Ended-clause-served
returns-in-Ended-clause-served g c =
    let (n, on, ready, grows) = c.loop.invariant in
    let did = c.in-Ended.ensures in record {
      turns = n;
      between = c.loop.tables;
      mid = c.loop.trustee;
      before = on;
      last = record { turned = did.turned; above = did.above; keeps = did.tables; parts = did.parts };
    }

pub returns-in-Ended-clause-grows : goal.returns-in-Ended-clause-grows
returns-in-Ended-clause-grows g c =
    let (n, on, ready, grows) = c.loop.invariant in
    let did = c.in-Ended.ensures in
    front_on g.P.PairTable.theory g.S.Entrusted.kind (g.P.PairTable.theory.trustee_view c.args.trustee.now.side).log (g.P.PairTable.theory.trustee_view c.loop.trustee.side).log
    (g.P.PairTable.theory.trustee_view c.serve_turn.new.self.side).log grows
    (turn_grows g.P.PairTable.theory g.S.Entrusted.kind Ended c.loop.tables c.serve_turn.new.tables c.loop.trustee c.serve_turn.new.self
    (record { turned = did.turned; above = did.above; keeps = did.tables; parts = did.parts }) ready did.ready)

pub returns-in-Ended-clause-ended : goal.returns-in-Ended-clause-ended
returns-in-Ended-clause-ended g c =
    let (n, on, ready, grows) = c.loop.invariant in
    let did = c.in-Ended.ensures in
    turn_ends g.P.PairTable.theory g.S.Entrusted.kind Ended c.loop.tables c.serve_turn.new.tables c.loop.trustee c.serve_turn.new.self
    (record { turned = did.turned; above = did.above; keeps = did.tables; parts = did.parts }) ready did.ready refl
