use Rattle.std.proofs.Common.{sym, subst}
use Rattle.tm_seq.specs.Counting.{counter_kind}
use Rattle.tm_toggle.specs.Shared.{shared_theory, IsTrusteeOf}
use Rattle.tm_trustee.specs.Tables.{IsReady}
use Rattle.bench_counters.proofs.Opening.{new_sides, ready}
use Rattle.bench_counters.proofs.open.open.Goals as goal

pub close-requires : goal.close-requires
close-requires c =
    let high = c.in_ok-high.high in
    let last =
    (new_sides (shared_theory counter_kind) c.args.clients high c.in_ok-high.sides.items c.pop.new.self.items c.in-Some.lower c.in_ok-high.side c.requires.few
    c.in_ok-high.ensures c.in-Some.ensures.items).1 in
    let handle = c.in_ok-handle.handle in (
      c.args.clients,
      record { mine = c.handles_share_sides.ensures.clients high handle c.in-Some.lower c.in_ok-handle.ensures last.mine; view = last.view },
    )

pub seats-requires : goal.seats-requires
seats-requires c =
    (new_sides (shared_theory counter_kind) c.args.clients c.in_ok-high.high c.in_ok-high.sides.items c.pop.new.self.items c.in-Some.lower c.in_ok-high.side
    c.requires.few c.in_ok-high.ensures c.in-Some.ensures.items).0

pub returns-clause-home : goal.returns-clause-home
returns-clause-home c =
    let high = c.in_ok-high.high in
    let trustee = c.in_ok-trustee.trustee in
    subst (λ tables. IsReady (shared_theory counter_kind) counter_kind tables trustee) (sym c.in_ok-tables.ensures.items)
    (ready (shared_theory counter_kind) c.args.clients c.in_ok-low.low high trustee c.in_ok-low.ensures.opens c.in_ok-high.ensures.opens
    c.in_ok-trustee.ensures.serving (subst (λ side. IsTrusteeOf counter_kind high side) (sym c.in_ok-trustee.ensures.side) c.in_ok-high.ensures.mine)
    c.in_ok-trustee.ensures.above)
