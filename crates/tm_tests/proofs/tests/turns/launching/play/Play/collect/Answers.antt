use Rattle.std.proofs.Common.{◌<◌, length, arith, lit<}
use Rattle.tm_tests.proofs.LaunchingKept.{still_asked, has_client, called, table_there}
use Rattle.tm_tests.proofs.tests.turns.launching.play.Play.collect.Goals as goal

pub index_mut-requires : goal.index_mut-requires
index_mut-requires g c =
    let play = c.args.self.now in
    let there = table_there g.P.PairTable.theory play.tables.items play.middle play.greatest play.client play.asked c.requires in
    omega (arith, there)

pub collect-requires : goal.collect-requires
collect-requires g c =
    let play = c.args.self.now in
    (lit< tt, has_client g.P.PairTable.theory play.tables.items play.middle play.greatest play.client play.asked c.requires c.index_mut.result.now c.index_mut.ensures.value)

pub returns : goal.returns
returns g c =
    let P = g.P.PairTable in
    let play = c.args.self.now in
    called P.theory play.tables.items play.middle play.greatest play.client play.asked c.requires c.index_mut.result.now c.index_mut.ensures.value
    c.collect.new.self c.collect.new.side play.asked c.collect.ensures.keeps
    (still_asked c.collect.result play.asked _ _ c.collect.ensures.collects c.requires.asked) c.requires.few
