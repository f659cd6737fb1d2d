use Rattle.std.proofs.Common.{sym, ◌∙◌}
use Rattle.tm_trustee.proofs.AboveBye as bye
use Rattle.tm_trustee.proofs.above.SayByeStep.go.Goals as goal

pub returns-then-ne : goal.returns-then-ne
returns-then-ne g c =
    bye.said_before g.P.PairTable.theory g.S.Entrusted.kind g.met.P.PairTable.laws c.args.table.now c.args.seat.now c.args.lane.now c.requires.mine
    c.requires.asked c.requires.at (sym c.if-ne.true ∙ c.ne.ensures)

pub send_bye-requires : goal.send_bye-requires
send_bye-requires g c =
    let is = bye.is_before c.args.lane.now.stage (sym c.if-ne.false ∙ c.ne.ensures) in
    let unsaid = bye.before_bye c.args.lane.now.stage (g.P.PairTable.theory.client_view c.args.seat.now) is c.requires.at in
    record { mine = c.requires.mine; asked = c.requires.asked; unsaid = unsaid; free = c.requires.needs is }

pub returns : goal.returns
returns g c =
    let is = bye.is_before c.args.lane.now.stage (sym c.if-ne.false ∙ c.ne.ensures) in
    let unsaid = bye.before_bye c.args.lane.now.stage (g.P.PairTable.theory.client_view c.args.seat.now) is c.requires.at in
    bye.says_now g.P.PairTable.theory c.args.table.now c.send_bye.new.table c.args.seat.now c.send_bye.new.seat c.args.lane.now c.requires.asked unsaid is
    (c.requires.needs is) c.send_bye.ensures
