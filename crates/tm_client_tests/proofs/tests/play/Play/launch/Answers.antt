use Rattle.std.proofs.Common.{arith}
use Rattle.tm_client_tests.proofs.Played.{by_result, is_there, one, one_lane, same_client}
use Rattle.tm_client_tests.proofs.tests.play.Play.launch.Goals as goal

pub index_mut-requires : goal.index_mut-requires
index_mut-requires g c =
    let play = c.args.self.now in
    let within = is_there g.P.PairTable.theory g.S.Entrusted.kind play.tables.items play.trustee play.clients.items c.requires.plays c.args.who c.requires.who in
    omega (arith, within)

pub launch-requires : goal.launch-requires
launch-requires g c =
    let play = c.args.self.now in
    record {
      client = (
        c.requires.plays.openings,
        (one g.P.PairTable.theory g.S.Entrusted.kind play.tables.items play.trustee play.clients.items c.requires.plays c.args.who c.index_mut.result.now c.requires.who
            c.index_mut.ensures.value).client,
      );
    }

pub returns : goal.returns
returns g c =
    let theory = g.P.PairTable.theory in
    let kind = g.S.Entrusted.kind in
    let play = c.args.self.now in
    let was = c.index_mut.result.now in
    let plays = c.requires.plays in
    let is = c.launch.ensures.client plays.openings (one theory kind play.tables.items play.trustee play.clients.items plays c.args.who was c.requires.who c.index_mut.ensures.value).client in
    by_result c.launch.result c.launch.ensures.asked c.launch.ensures.err
    (λ a.
    one_lane theory kind play.tables.items play.trustee play.clients.items plays c.args.who was c.requires.who c.index_mut.ensures.value c.launch.new.self _ a.lane a.becomes
    a.of_lane a.accepts.side a.lanes a.rest.number is)
    (λ same. same_client theory kind play.tables.items play.trustee play.clients.items plays c.args.who was c.requires.who c.index_mut.ensures.value c.launch.new.self same)
