use Rattle.std.proofs.Common.{arith, refl}
use Rattle.tm_client_tests.proofs.Played.{is_there, lane_there, one, one_lane}
use Rattle.tm_client_tests.proofs.tests.play.Play.close.Goals as goal

pub index_mut-requires : goal.index_mut-requires
index_mut-requires g c =
    let play = c.args.self.now in
    let within = is_there g.P.PairTable.theory g.S.Entrusted.kind play.tables.items play.trustee play.clients.items c.requires.plays c.args.who c.requires.who in
    omega (arith, within)

pub close-requires : goal.close-requires
close-requires g c =
    let play = c.args.self.now in
    record {
      trustee =
          lane_there g.P.PairTable.theory g.S.Entrusted.kind play.tables.items play.trustee play.clients.items c.requires.plays c.args.who c.index_mut.result.now c.requires.who
          c.index_mut.ensures.value;
    }

pub returns : goal.returns
returns g c =
    let theory = g.P.PairTable.theory in
    let kind = g.S.Entrusted.kind in
    let play = c.args.self.now in
    let was = c.index_mut.result.now in
    let plays = c.requires.plays in
    let is = c.close.ensures.client plays.openings (one theory kind play.tables.items play.trustee play.clients.items plays c.args.who was c.requires.who c.index_mut.ensures.value).client in
    let marks = c.close.ensures.marked in
    one_lane theory kind play.tables.items play.trustee play.clients.items plays c.args.who was c.requires.who c.index_mut.ensures.value c.close.new.self 1 marks.lane _
    marks.of_lane refl marks.lanes marks.rest.number is
