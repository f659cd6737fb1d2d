use Rattle.std.proofs.Common.{◌++◌, ◌∷◌, [], take, sym, ◌∙◌, ap}
use Rattle.std.proofs.lemmas.List.{take_more}
use Rattle.tm_turns.proofs.Counting.{runs_more}
use Rattle.tm_turns.proofs.closing.count_all.Goals as goal

pub loop-trustee-preserved : goal.loop-trustee-preserved
loop-trustee-preserved g c =
    let all = c.args.trustees.now in
    let i = c.loop-trustee.trustee-index in
    let trustee = c.trustee-item.result in
    record {
      runs =
          runs_more g.S.Entrusted.kind (take i all) _ c.loop-trustee.counts.items _ trustee c.requests_run.result c.loop-trustee.invariant.runs
          c.requests_run.ensures
          (take_more all i trustee c.loop-trustee-test.true ∙ ap (λ x. take i all ++ x ∷ []) (sym c.trustee-item.is))
          c.push_reserved.ensures.items;
      room = c.push_reserved.ensures.capacity ∙ c.loop-trustee.invariant.room;
    }
