use Rattle.std.proofs.Common.{◌∙◌, ap, subst, arith}
use Rattle.std.specs.Prelude.{◌||◌}
use Rattle.tm_turns.specs.Going.{TurnsBelow}
use Rattle.tm_turns.proofs.Falling.{below_keeps, turns_still}
use Rattle.tm_turns.proofs.Going.{below_none, below_more, same_counts}
use Rattle.tm_turns.proofs.turns.Turns.turn_all.Goals as goal

pub loop-trustee-init : goal.loop-trustee-init
loop-trustee-init g c = below_none g.S.Entrusted.kind c.args.client c.args.self.now

pub turn_at-answer-requires-clause-are : goal.turn_at-answer-requires-clause-are
turn_at-answer-requires-clause-are g c =
    let kept = below_keeps g.S.Entrusted.kind c.args.client c.loop-trustee.trustee c.loop-trustee.moved c.args.self.now _ c.loop-trustee.invariant in
    turns_still g.S.Entrusted.kind c.args.self.now _ kept c.requires.are

pub turn_at-answer-requires-clause-client : goal.turn_at-answer-requires-clause-client
turn_at-answer-requires-clause-client g c =
    let kept = below_keeps g.S.Entrusted.kind c.args.client c.loop-trustee.trustee c.loop-trustee.moved c.args.self.now _ c.loop-trustee.invariant in
    let same = same_counts g.S.Entrusted.kind c.args.self.now _ kept c.requires.are in
    let lt = c.requires.client in
    let clients = same.0 in
    omega (arith, lt, clients)

pub turn_at-answer-requires-clause-trustee : goal.turn_at-answer-requires-clause-trustee
turn_at-answer-requires-clause-trustee g c =
    let kept = below_keeps g.S.Entrusted.kind c.args.client c.loop-trustee.trustee c.loop-trustee.moved c.args.self.now _ c.loop-trustee.invariant in
    let same = same_counts g.S.Entrusted.kind c.args.self.now _ kept c.requires.are in
    let lt = c.loop-trustee-test.true in
    let many = c.len-trustees.ensures in
    let tables = same.1 in
    omega (arith, lt, many, tables)

pub loop-trustee-preserved : goal.loop-trustee-preserved
loop-trustee-preserved g c =
    below_more g.S.Entrusted.kind c.args.client c.loop-trustee.trustee c.loop-trustee.moved c.is_either-moved.result c.turn_at-answer.result c.args.self.now
    c.loop-trustee.self c.turn_at-answer.new.self c.loop-trustee.invariant c.turn_at-answer.ensures
    (c.is_either-moved.ensures ∙ ap (λ b. c.loop-trustee.moved || b) c.is_move-more.ensures)

pub returns : goal.returns
returns g c =
    let past = c.loop-trustee-test.false in
    let end = c.loop-trustee.auto.trustee-end in
    let many = c.len-trustees.ensures in
    subst (λ n. TurnsBelow g.S.Entrusted.kind c.args.client n c.loop-trustee.moved c.args.self.now c.loop-trustee.self) (omega (arith, past, end, many)) c.loop-trustee.invariant
