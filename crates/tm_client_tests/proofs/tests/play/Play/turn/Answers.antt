use Rattle.std.proofs.Common.{arith, sym, ◌∙◌, ap, subst}
use Rattle.tm_client.specs.Asking.{At}
use Rattle.tm_client.specs.Turns.{HasTurned}
use Rattle.tm_client_tests.proofs.Played.{is_high, is_there, lane_there, one, table_there, turned}
use Rattle.tm_client_tests.proofs.tests.play.Play.turn.Goals as goal

pub index_mut-requires : goal.index_mut-requires
index_mut-requires g c =
    let play = c.args.self.now in
    let within = is_there g.P.PairTable.theory g.S.Entrusted.kind play.tables.items play.trustee play.clients.items c.requires.plays c.args.who c.requires.who in
    omega (arith, within)

pub index_mut-requires-2 : goal.index_mut-requires-2
index_mut-requires-2 g c =
    let play = c.args.self.now in
    let within = table_there g.P.PairTable.theory g.S.Entrusted.kind play.tables.items play.trustee play.clients.items c.requires.plays in
    omega (arith, within)

pub turn-requires-clause-trustee : goal.turn-requires-clause-trustee
turn-requires-clause-trustee g c =
    let play = c.args.self.now in
    lane_there g.P.PairTable.theory g.S.Entrusted.kind play.tables.items play.trustee play.clients.items c.requires.plays c.args.who c.index_mut.result.now
    c.requires.who c.index_mut.ensures.value

pub turn-requires-clause-mine : goal.turn-requires-clause-mine
turn-requires-clause-mine g c =
    let theory = g.P.PairTable.theory in
    let kind = g.S.Entrusted.kind in
    let play = c.args.self.now in
    let was = c.index_mut.result.now in
    let is = is_high theory kind play.tables.items play.trustee play.clients.items c.requires.plays c.index_mut-2.result.now c.index_mut-2.ensures.value in
    subst (λ high. At was.books 1 (λ lane. theory.HasClient high lane.side)) is
    (one theory kind play.tables.items play.trustee play.clients.items c.requires.plays c.args.who was c.requires.who c.index_mut.ensures.value).seated

pub turn-requires-clause-client : goal.turn-requires-clause-client
turn-requires-clause-client g c =
    let theory = g.P.PairTable.theory in
    let kind = g.S.Entrusted.kind in
    let play = c.args.self.now in
    let was = c.index_mut.result.now in
    let is = is_high theory kind play.tables.items play.trustee play.clients.items c.requires.plays c.index_mut-2.result.now c.index_mut-2.ensures.value in (
      c.requires.plays.openings,
      c.requires.plays.opens ∙ ap theory.opening is,
      (one theory kind play.tables.items play.trustee play.clients.items c.requires.plays c.args.who was c.requires.who c.index_mut.ensures.value).client,
    )

pub returns : goal.returns
returns g c =
    let theory = g.P.PairTable.theory in
    let kind = g.S.Entrusted.kind in
    let play = c.args.self.now in
    let plays = c.requires.plays in
    let was = c.index_mut.result.now in
    let now = c.turn.new.self in
    let is = is_high theory kind play.tables.items play.trustee play.clients.items plays c.index_mut-2.result.now c.index_mut-2.ensures.value in
    let it = (one theory kind play.tables.items play.trustee play.clients.items plays c.args.who was c.requires.who c.index_mut.ensures.value).client in
    turned theory kind play.tables.items play.trustee play.clients.items plays c.args.who was c.requires.who c.index_mut.ensures.value c.turn.result c.turn.new.table now
    (subst (λ high. HasTurned theory kind 1 c.turn.result high c.turn.new.table was.books now.books) (sym is) c.turn.ensures.turned)
    (c.turn.ensures.client plays.openings (plays.opens ∙ ap theory.opening is) it)
