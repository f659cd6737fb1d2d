use Rattle.std.proofs.Common.{refl, arith, ap, sym, inl, inr, ◌∙◌}
use Rattle.slab.proofs.SlabLemmas.{Contains-cons, Contains-cons_cases, Contains-entries}
use Rattle.tm_objects.proofs.slots.search.Goals as goal

pub loop-key-init : goal.loop-key-init
loop-key-init g c =
    let left = c.into_iter-key-iterator.ensures.into_iter_gives ∙ c.iter-key-items.ensures.rest in (
      tt,
      tt,
      λ key o found same. rw left ((Contains-entries c.args.slots.now key o).1 found),
      λ key o there. (Contains-entries c.args.slots.now key o).0 (rw left at there),
    )

pub loop-key-preserved : goal.loop-key-preserved
loop-key-preserved g c =
    let at = c.in-Some.ensures.steps in (
      tt,
      tt,
      λ key o found same. elim (Contains-cons_cases _ _ _ (rw at at (c.loop-key.invariant.2 key o found same))) [
        | inl here ↦ absurd (c.if-id.false (c.id.ensures ∙ (ap (λ e. e.1.id) here ∙ same)))
        | inr rest ↦ rest
      ],
      λ key o there. c.loop-key.invariant.3 key o (rw at (Contains-cons _ _ _ there)),
    )

pub returns-then-id-clause-found : goal.returns-then-id-clause-found
returns-then-id-clause-found g c =
    let at = c.in-Some.ensures.steps in
    let there = c.loop-key.invariant.3 c.in-Some.key c.in-Some.entry.now (rw at (0, omega arith, refl)) in
    rw there (sym c.id.ensures ∙ c.if-id.true)
