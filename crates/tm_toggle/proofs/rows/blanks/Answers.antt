use Rattle.std.proofs.Common.{◌≡◌, replicate, ap, arith, ◌∙◌, ℕ}
use Rattle.tm_batch.specs.declared.limits.TheConstants.{MOST_REQUESTS}
use Rattle.tm_toggle.proofs.rows.blanks.Goals as goal

pub returns : goal.returns
returns g c =
    let a = c.loop-test.false in
    let b = c.loop.auto.counter-end in
    let e : c.loop.counter ≡ MOST_REQUESTS = omega arith in
    λ x is. c.loop.invariant.blank x is ∙ ap (λ (n : ℕ). replicate n x) e
