use Rattle.std.proofs.Common.{◌≢◌, [], inl, inr, refl, sym, ◌∙◌, subst, arith}
use Rattle.std.proofs.lemmas.Grind.{common_steps}
use Rattle.std.specs.List.{AllByRecursion}
use Rattle.tm_batch.specs.declared.limits.TheConstants.{MOST_REQUESTS}
use Rattle.tm_trustee.specs.Steps.{AppliesHeld}
use Rattle.tm_trustee.proofs.AboveAsks as asks
use Rattle.tm_trustee.proofs.AboveBye.{on_ok}
use Rattle.tm_trustee.proofs.Fronts.{empty_of, some_of}
use Rattle.tm_trustee.proofs.LaneKeeps.{all_take}
use Rattle.tm_trustee.proofs.above.send_asks.Goals as goal

pub publish-requires : goal.publish-requires
publish-requires g c =
    let theory = g.P.PairTable.theory in
    let view = theory.client_view c.args.seat.now in
    let some : c.args.lane.now.waits.items ≢ [] = some_of c.args.lane.now.waits.items (sym c.if-is_empty.false ∙ c.is_empty.ensures) in (
      g.met.S.FitsBatches.fits_batch,
      (
        grind (arith, common_steps, g.met.S.FitsBatches.fits_held),
        (
          c.requires.mine,
          asks.asks_are_orderly (theory.opening c.args.table.now) view c.first_asks-batch.result.requests.items c.requires.asked (c.requires.needs.unsaid some)
              (subst (λ l. AllByRecursion (AppliesHeld (theory.opening c.args.table.now) view.place) l) (sym c.first_asks-batch.ensures.goes.is_first)
              (all_take (AppliesHeld (theory.opening c.args.table.now) view.place) MOST_REQUESTS c.args.lane.now.waits.items c.requires.needs.held)),
        ),
      ),
    )

pub returns-then-is_empty : goal.returns-then-is_empty
returns-then-is_empty g c =
    inr (refl, empty_of c.args.lane.now.waits.items (sym c.if-is_empty.true ∙ c.is_empty.ensures), refl, refl, refl)

pub returns : goal.returns
returns g c =
    let some : c.args.lane.now.waits.items ≢ [] = some_of c.args.lane.now.waits.items (sym c.if-is_empty.false ∙ c.is_empty.ensures) in
    let is_ok = c.publish.ensures.free.1 c.requires.free in
    inl (
      refl,
      some,
      (
        c.first_asks-batch.result,
        c.first_asks-batch.ensures.goes,
        c.first_asks-batch.ensures.room,
        on_ok c.publish.result is_ok c.publish.ensures.ok,
        on_ok c.publish.result is_ok c.publish.ensures.did,
        c.publish.ensures.keeps,
      ),
    )
