use Rattle.std.proofs.Common.{lit<}
use Rattle.tm_objects.proofs.Queues.{on_ok}
use Rattle.bench_counters.proofs.Counts.{counts_orderly}
use Rattle.bench_counters.proofs.Calling.{publishes_asked}
use Rattle.bench_counters.proofs.asking.send.Goals as goal

pub publish-requires : goal.publish-requires
publish-requires g c =
    let P = g.P.PairTable in
    let view = P.theory.client_view c.args.side.now in
    let asked = c.requires.may.0 in (
      lit< tt,
      (
        lit< tt,
        (
          asked.mine,
          λ free.
              counts_orderly (P.theory.opening c.args.table.now) view.place view.sent view.got c.args.batch.requests.items asked.client asked.holds
              asked.sent c.requires.batch,
        ),
      ),
    )

pub returns : goal.returns
returns g c =
    let done = on_ok c.publish.result (c.publish.ensures.free.1 c.requires.may.1) c.publish.ensures.ok in
    publishes_asked g.P.PairTable.theory c.args.table.now c.publish.new.self c.args.side.now c.publish.new.side c.args.batch.requests.items c.args.batch.room
    c.requires.may.0 c.requires.batch done c.publish.ensures.keeps
