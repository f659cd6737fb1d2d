use Rattle.std.proofs.Common.{◌≡◌, get_or, arith}
use Rattle.std.proofs.lemmas.List.{take_more}
use Rattle.mc_grammar.proofs.LineFacts.{ended}
use Rattle.mc_grammar.proofs.Steps.{none_after}
use Rattle.mc_grammar.proofs.plain.first_line.Goals as goal

pub returns-then-byte-eq10 : goal.returns-then-byte-eq10
returns-then-byte-eq10 c =
    let e : get_or c.args.text.now c.loop-i.i 0 ≡ 10 = c.if-byte-eq10.true in
    (omega arith, omega arith, rw (take_more c.args.text.now c.loop-i.i 0 c.loop-i-test.true, e) (ended _ c.loop-i.invariant))

pub loop-i-preserved : goal.loop-i-preserved
loop-i-preserved c = rw (take_more c.args.text.now c.loop-i.i 0 c.loop-i-test.true) (none_after _ _ c.loop-i.invariant (c.if-byte-eq10.false, tt))
