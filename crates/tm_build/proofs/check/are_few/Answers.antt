use Rattle.std.proofs.Common.{inl, inr, sym, subst, arith}
use Rattle.std.proofs.lemmas.Bool.{cases_eq}
use Rattle.tm_build.specs.Checking.{IsFewFor}
use Rattle.tm_build.proofs.check.are_few.Goals as goal

pub loop-client-preserved : goal.loop-client-preserved
loop-client-preserved g c = λ d lt.
    let count = c.count_naming.ensures in
    let few = c.if-count_naming-config.false in
    elim (cases_eq d c.loop-client.client) [
      | inl is ↦ subst (λ k. IsFewFor c.args.config c.args.first.now.items k) (sym is) (omega (arith, count, few))
      | inr ne ↦ c.loop-client.invariant d (omega (arith, lt, ne))
    ]
