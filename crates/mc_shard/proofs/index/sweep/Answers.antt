use Rattle.std.proofs.Common.{ap, refl, sym, subst, ◌∙◌}
use Rattle.mc_model.specs.Items.{live}
use Rattle.mc_shard.specs.Kept.{IsPaired, IsAhead}
use Rattle.mc_shard.proofs.IndexFacts.{swept_one, all_ahead}
use Rattle.mc_shard.proofs.index.sweep.Goals as goal

pub loop-key-preserved : goal.loop-key-preserved
loop-key-preserved c =
    let i = c.loop-key.invariant in
    let es = c.loop-key.cache.entries in
    let one = swept_one c.args.now es c.loop-key.index.keys c.pop_due.new.index.keys c.in-Some.key i.paired c.in-Some.ensures.ripe in
    let is = c.let_go.ensures.entries in
    record {
      paired = subst (λ items. IsPaired items c.pop_due.new.index.keys) (sym is) one.paired;
      cap = c.let_go.ensures.cap ∙ i.cap;
      swept = ap (live c.args.now) is ∙ one.swept ∙ i.swept;
    }

pub returns-clause-swept : goal.returns-clause-swept
returns-clause-swept c =
    let i = c.loop-key.invariant in
    sym (all_ahead c.args.now c.loop-key.cache.entries c.loop-key.index.keys i.paired
    (subst (IsAhead c.args.now) c.in_default.ensures.same c.in_default.ensures.ahead)) ∙ i.swept
