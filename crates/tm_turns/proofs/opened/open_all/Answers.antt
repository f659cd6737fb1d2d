use Rattle.std.proofs.Common.{subst, arith}
use Rattle.tm_turns.specs.Opening.{AreOpened}
use Rattle.tm_turns.proofs.OneMore.{opened_none}
use Rattle.tm_turns.proofs.opened.open_all.Goals as goal

pub loop-number-init : goal.loop-number-init
loop-number-init g c =
    opened_none g.S.Entrusted.kind c.args.config c.args.first.now.items (record { tables = c.new.result; homes = c.new-2.result; seats = c.in_ok-empty_lists.field-0 })
    c.new.ensures.items c.new-2.ensures.items c.in_ok-empty_lists.ensures

pub returns : goal.returns
returns g c =
    let past = c.loop-number-test.false in
    let end = c.loop-number.auto.number-end in
    subst (λ n. AreOpened g.S.Entrusted.kind c.args.config c.args.first.now.items n c.loop-number.opened) (omega (arith, past, end)) c.loop-number.invariant
