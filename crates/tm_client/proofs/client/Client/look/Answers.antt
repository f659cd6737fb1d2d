use Rattle.std.proofs.Common.{◌≢◌, length, refl, length-set, arith}
use Rattle.std.specs.declared.option.Option.TheVariants.{None}
use Rattle.std.proofs.lemmas.Option.{slice_get_read}
use Rattle.tm_client.proofs.Fronts.{some_has}
use Rattle.tm_client.proofs.Looking.{looked_may_receive}
use Rattle.tm_client.proofs.Turned.{may_take, got_keeps, got_turned, pending_keeps, pending_turned}
use Rattle.tm_client.proofs.client.Client.look.Goals as goal

pub collect-requires : goal.collect-requires
collect-requires g c =
    let books = c.args.self.now.books in
    let lane = c.index_mut.result.now in
    let there = slice_get_read books.lanes.items (length books.lanes.items) c.args.trustee lane refl c.requires.trustee c.index_mut.ensures.value in (
      g.met.S.FitsBatches.fits_found,
      some_has _ lane (λ lane. g.P.PairTable.theory.HasClient c.args.table.now lane.side) there c.requires.mine,
    )

pub take_in-requires : goal.take_in-requires
take_in-requires g c =
    let theory = g.P.PairTable.theory in
    let books = c.args.self.now.books in
    let lane = c.index_mut.result.now in
    let there = slice_get_read books.lanes.items (length books.lanes.items) c.args.trustee lane refl c.requires.trustee c.index_mut.ensures.value in
    let (openings, same, is) = c.requires.client in
    let mine = some_has _ lane (λ lane. theory.HasClient c.args.table.now lane.side) there c.requires.mine in
    let may =
    may_take theory g.S.Entrusted.kind g.met.P.PairTable.laws openings c.args.trustee c.args.table.now c.collect.new.self lane c.collect.new.side books is there same
    mine c.in-Answers.ensures.keeps c.in-Answers.answers c.in-Answers.ensures.collects in
    let looked = record lane { side = c.collect.new.side } in (
      g.met.S.FitsAnswers.fits,
      (
        let many = length-set books.lanes.items c.args.trustee looked in omega (arith, many, c.requires.trustee),
        looked_may_receive theory.client_view c.args.trustee c.in-Answers.answers lane c.collect.new.side books _ there refl refl may,
      ),
    )

pub unreachable-requires : goal.unreachable-requires
unreachable-requires g c =
    let books = c.args.self.now.books in
    let lane = c.index_mut.result.now in
    let there = slice_get_read books.lanes.items (length books.lanes.items) c.args.trustee lane refl c.requires.trustee c.index_mut.ensures.value in
    some_has _ lane (λ lane. (g.P.PairTable.theory.client_view lane.side).out ≢ None) there c.requires.out c.in-Idle.ensures.collects.out

pub returns-in-Answers-clause-client : goal.returns-in-Answers-clause-client
returns-in-Answers-clause-client g c = λ openings same is.
    let theory = g.P.PairTable.theory in
    let books = c.args.self.now.books in
    let lane = c.index_mut.result.now in
    let there = slice_get_read books.lanes.items (length books.lanes.items) c.args.trustee lane refl c.requires.trustee c.index_mut.ensures.value in
    let mine = some_has _ lane (λ lane. theory.HasClient c.args.table.now lane.side) there c.requires.mine in
    got_keeps theory g.S.Entrusted.kind g.met.P.PairTable.laws openings c.args.trustee c.args.table.now c.collect.new.self lane c.collect.new.side books is there same
    mine c.in-Answers.ensures.keeps c.in-Answers.answers _ c.take_in.new.books refl refl c.take_in.ensures.received c.in-Answers.ensures.collects

pub returns-in-Answers-clause-turned : goal.returns-in-Answers-clause-turned
returns-in-Answers-clause-turned g c =
    let theory = g.P.PairTable.theory in
    let books = c.args.self.now.books in
    let lane = c.index_mut.result.now in
    let there = slice_get_read books.lanes.items (length books.lanes.items) c.args.trustee lane refl c.requires.trustee c.index_mut.ensures.value in
    let mine = some_has _ lane (λ lane. theory.HasClient c.args.table.now lane.side) there c.requires.mine in
    let (openings, same, is) = c.requires.client in
    got_turned theory g.S.Entrusted.kind g.met.P.PairTable.laws openings c.args.trustee c.args.table.now c.collect.new.self lane c.collect.new.side books is there same
    mine c.in-Answers.ensures.keeps c.in-Answers.answers _ c.take_in.new.books refl refl c.take_in.ensures.received c.in-Answers.ensures.collects
    c.take_in.result c.take_in.ensures.count c.in-Answers.ensures.did

pub returns-in-Pending-clause-client : goal.returns-in-Pending-clause-client
returns-in-Pending-clause-client g c = λ openings same is.
    let theory = g.P.PairTable.theory in
    let books = c.args.self.now.books in
    let lane = c.index_mut.result.now in
    let there = slice_get_read books.lanes.items (length books.lanes.items) c.args.trustee lane refl c.requires.trustee c.index_mut.ensures.value in
    let mine = some_has _ lane (λ lane. theory.HasClient c.args.table.now lane.side) there c.requires.mine in
    pending_keeps theory g.S.Entrusted.kind g.met.P.PairTable.laws openings c.args.trustee c.args.table.now c.collect.new.self lane c.collect.new.side books is there same
    mine c.in-Pending.ensures.keeps _ refl refl c.in-Pending.ensures.collects

pub returns-in-Pending-clause-turned : goal.returns-in-Pending-clause-turned
returns-in-Pending-clause-turned g c =
    let theory = g.P.PairTable.theory in
    let books = c.args.self.now.books in
    let lane = c.index_mut.result.now in
    let there = slice_get_read books.lanes.items (length books.lanes.items) c.args.trustee lane refl c.requires.trustee c.index_mut.ensures.value in
    let mine = some_has _ lane (λ lane. theory.HasClient c.args.table.now lane.side) there c.requires.mine in
    let (openings, same, is) = c.requires.client in
    pending_turned theory g.S.Entrusted.kind g.met.P.PairTable.laws openings c.args.trustee c.args.table.now c.collect.new.self lane c.collect.new.side books is there same
    mine c.in-Pending.ensures.keeps _ refl refl c.in-Pending.ensures.collects c.in-Pending.ensures.did
