use Rattle.std.proofs.Common.{suc, take, drop, slice_index_or, sym, ◌∙◌, subst}
use Rattle.std.specs.Prelude.{nat_eq}
use Rattle.std.specs.List.{IsDistinct}
use Rattle.std.proofs.lemmas.List.{take_more}
use Rattle.tm_build.proofs.Distinct.{distinct_none, distinct_more, distinct_not, split_at}
use Rattle.tm_build.proofs.check.is_distinct.Goals as goal

pub loop-i-init : goal.loop-i-init
loop-i-init c = distinct_none

pub returns-then-contains : goal.returns-then-contains
returns-then-contains c =
    let xs = c.args.places.now in
    let i = c.loop-i.i in (
      λ no. absurd cc,
      λ distinct.
          absurd
          (
          distinct_not (take i xs) (slice_index_or xs i 0) (drop (suc i) xs) (sym c.contains.ensures.value ∙ c.if-contains.true)
          (subst (λ l. IsDistinct nat_eq l) (split_at xs i 0 c.loop-i-test.true) distinct)
          ),
    )

pub loop-i-preserved : goal.loop-i-preserved
loop-i-preserved c =
    let xs = c.args.places.now in
    let i = c.loop-i.i in
    subst (λ l. IsDistinct nat_eq l) (sym (take_more xs i 0 c.loop-i-test.true))
    (distinct_more (take i xs) (slice_index_or xs i 0) c.loop-i.invariant (sym c.contains.ensures.value ∙ c.if-contains.false))
