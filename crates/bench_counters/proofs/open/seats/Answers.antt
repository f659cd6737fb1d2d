use Rattle.std.proofs.lemmas.List.Elements.{All-pop, All-push}
use Rattle.std.specs.declared.option.Option.TheVariants.{Some}
use Rattle.std.proofs.Common.{subst, sym}
use Rattle.tm_seq.specs.Counting.{counter_kind}
use Rattle.tm_toggle.specs.Shared.{shared_theory}
use Rattle.bench_counters.specs.Counting.{AreSeats, MayAsk}
use Rattle.bench_counters.proofs.open.seats.Goals as goal

pub seat-requires : goal.seat-requires
seat-requires c =
    (All-pop (λ side. MayAsk (shared_theory counter_kind) c.args.table.now side) c.loop-side.sides.items c.pop.new.self.items (Some c.in-Some.side)
    c.in-Some.ensures.items c.loop-side.invariant.0).1

pub loop-side-preserved : goal.loop-side-preserved
loop-side-preserved c = (
  (All-pop (λ side. MayAsk (shared_theory counter_kind) c.args.table.now side) c.loop-side.sides.items c.pop.new.self.items (Some c.in-Some.side)
      c.in-Some.ensures.items c.loop-side.invariant.0).0,
  subst (λ l. AreSeats (shared_theory counter_kind) l) (sym c.in_ok-push.ensures.items)
      (All-push (λ seat. MayAsk (shared_theory counter_kind) seat.0 seat.1) c.loop-side.seats.items c.in_ok-one.one c.loop-side.invariant.1 c.in_ok-one.ensures),
)
