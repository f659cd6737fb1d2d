use Rattle.std.proofs.Common.{arith}
use Rattle.tm_client_tests.proofs.Played.{is_there, lane_there}
use Rattle.tm_client_tests.proofs.tests.play.Play.is_closed.Goals as goal

pub index-requires : goal.index-requires
index-requires g c =
    let play = c.args.self.now in
    let within = is_there g.P.PairTable.theory g.S.Entrusted.kind play.tables.items play.trustee play.clients.items c.requires.plays c.args.who c.requires.who in
    omega (arith, within)

pub is_closed-requires : goal.is_closed-requires
is_closed-requires g c =
    let play = c.args.self.now in
    lane_there g.P.PairTable.theory g.S.Entrusted.kind play.tables.items play.trustee play.clients.items c.requires.plays c.args.who c.index.result.now c.requires.who
    c.index.ensures
