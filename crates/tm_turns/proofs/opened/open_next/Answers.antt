use Rattle.std.proofs.Common.{arith}
use Rattle.tm_turns.proofs.OneMore.{opened_more}
use Rattle.tm_turns.proofs.opened.open_next.Goals as goal

pub deal-requires : goal.deal-requires
deal-requires g c =
    let count = c.in_ok-table.ensures.new.count in
    let places = c.requires.opened.places in
    let lt = c.requires.number in
    omega (arith, count, places, lt)

pub returns : goal.returns
returns g c =
    opened_more g.S.Entrusted.kind c.args.config c.args.first.now.items c.args.number c.args.opened.now _ c.in_ok-table.table c.in_ok-table.sides.items c.in_ok-table.home
    c.requires.opened c.in_ok-table.ensures.new c.in_ok-push.ensures.items c.in_ok-push-2.ensures.items c.in_ok-deal.ensures
