use Rattle.std.proofs.Common.{rules, ◌≡◌, refl, arith, ap, inl, inr, ◌∙◌}
use Rattle.std.specs.declared.option.Option.TheVariants.{Some}
use Rattle.slab.proofs.SlabLemmas.{Contains-cons, Contains-cons_cases, Contains-entries}
use Rattle.tm_client.proofs.holds.Holds.search.Goals as goal

pub loop-place-init : goal.loop-place-init
loop-place-init c =
    let left = c.into_iter-place-iterator.ensures.into_iter_gives ∙ c.iter-place-items.ensures.rest in (
      tt,
      tt,
      λ place found. rw left ((Contains-entries c.args.self.now.places place c.args.hold).1 found),
      λ place h there. (Contains-entries c.args.self.now.places place h).0 (rw left at there),
    )

pub loop-place-preserved : goal.loop-place-preserved
loop-place-preserved c =
    let at = c.in-Some.ensures.steps in (
      tt,
      tt,
      λ place found. elim (Contains-cons_cases _ _ _ (rw at at (c.loop-place.invariant.2 place found))) [
        | inl here ↦
            let same : c.in-Some.held.now ≡ c.args.hold = ap (λ e. e.1) here in absurd (search rules)
        | inr rest ↦ rest
      ],
      λ place h there. c.loop-place.invariant.3 place h (rw at (Contains-cons _ _ _ there)),
    )

pub returns-then-eq-clause-there : goal.returns-then-eq-clause-there
returns-then-eq-clause-there c =
    let at = c.in-Some.ensures.steps in
    let same : c.in-Some.held.now ≡ c.args.hold = search rules in
    c.loop-place.invariant.3 c.in-Some.place c.in-Some.held.now (rw at (0, omega arith, refl)) ∙ ap (λ h. Some h) same
