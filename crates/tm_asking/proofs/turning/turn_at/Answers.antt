use Rattle.std.proofs.Common.{◌≡◌, inl, inr, refl, sym, ◌∙◌}
use Rattle.std.specs.Prelude.{slice_get, slice_index_or}
use Rattle.std.proofs.lemmas.Option.{slice_get-get_or}
use Rattle.tm_client.proofs.Fronts.{some_has}
use Rattle.tm_asking.proofs.Carried.{turning_goes_on}
use Rattle.tm_asking.proofs.Home.{stays_home, lane_at, mine_at}
use Rattle.tm_asking.proofs.turning.turn_at.Goals as goal

pub returns-then-counting-eq0-clause-turned : goal.returns-then-counting-eq0-clause-turned
returns-then-counting-eq0-clause-turned g c =
    let theory = g.P.PairTable.theory in
    let (openings, home) = c.requires.home in
    let (lane, there) = lane_at theory g.S.Entrusted.kind openings c.args.tables.now c.args.client.now.books c.args.trustee home c.requires.trustee in
    let count = some_has (slice_get c.args.client.now.books.lanes.items c.args.trustee) lane (λ l. c.counting.result ≡ l.counting) there c.counting.ensures in
    (lane, there, inl (sym count ∙ c.if-counting-eq0.true, refl, refl, refl))

pub turn-requires-clause-mine : goal.turn-requires-clause-mine
turn-requires-clause-mine g c =
    let (openings, home) = c.requires.home in
    mine_at g.P.PairTable.theory g.S.Entrusted.kind openings c.args.tables.now c.args.client.now.books c.args.trustee c.index-tables-trustee.result home c.requires.trustee

pub turn-requires-clause-client : goal.turn-requires-clause-client
turn-requires-clause-client g c =
    let (openings, home) = c.requires.home in
    let at = slice_get-get_or c.args.tables.now c.args.trustee c.index-tables-trustee.result c.requires.trustee in
    (openings, home.opens c.args.trustee (slice_index_or c.args.tables.now c.args.trustee c.index-tables-trustee.result) at, home.client)

pub returns-clause-turned : goal.returns-clause-turned
returns-clause-turned g c =
    let theory = g.P.PairTable.theory in
    let (openings, home) = c.requires.home in
    let (lane, there) = lane_at theory g.S.Entrusted.kind openings c.args.tables.now c.args.client.now.books c.args.trustee home c.requires.trustee in
    let count = some_has (slice_get c.args.client.now.books.lanes.items c.args.trustee) lane (λ l. c.counting.result ≡ l.counting) there c.counting.ensures in (
      lane,
      there,
      inr (
        λ e. c.if-counting-eq0.false (count ∙ e),
        (
          c.turn.result,
          c.of.ensures,
          record {
            was = slice_index_or c.args.tables.now c.args.trustee c.index-tables-trustee.result;
            now = c.turn.new.table;
            of_table = slice_get-get_or c.args.tables.now c.args.trustee c.index-tables-trustee.result c.requires.trustee;
            turned = c.turn.ensures.turned;
            still = c.turn.ensures.client;
            tables_are = refl;
          },
        ),
      ),
    )

pub returns-clause-home : goal.returns-clause-home
returns-clause-home g c = λ openings home.
    let theory = g.P.PairTable.theory in
    let at = slice_get-get_or c.args.tables.now c.args.trustee c.index-tables-trustee.result c.requires.trustee in
    stays_home theory g.S.Entrusted.kind openings c.args.trustee c.turn.result (slice_index_or c.args.tables.now c.args.trustee c.index-tables-trustee.result) c.turn.new.table
    c.args.tables.now _ c.args.client.now.books c.turn.new.self.books home at c.turn.ensures.turned refl
    (c.turn.ensures.client openings (home.opens c.args.trustee (slice_index_or c.args.tables.now c.args.trustee c.index-tables-trustee.result) at) home.client)

pub returns-clause-asks : goal.returns-clause-asks
returns-clause-asks g c = λ missing was asked replies is.
    let theory = g.P.PairTable.theory in
    let (openings, home) = c.requires.home in
    let turned = c.turn.ensures.turned in
    turning_goes_on theory g.S.Entrusted.kind openings c.args.trustee c.turn.result
    (slice_index_or c.args.tables.now c.args.trustee c.index-tables-trustee.result) c.turn.new.table missing was asked replies c.args.client.now.books c.turn.new.self.books
    home.client is turned (theory.opening c.turn.new.table) (g.met.P.PairTable.laws.client_is_good c.turn.new.table turned.becomes.side turned.keeps.mine)
