use Rattle.std.proofs.Common.{◌≡◌, ◌+◌, ap, ◌∙◌, arith}
use Rattle.std.proofs.Math.ListN.{replicate}
use Rattle.tm_model.specs.State.{no_place}
use Rattle.tm_model.specs.Opening.{opened, placed_on}
use Rattle.tm_reference.specs.Opens.{all_above}
use Rattle.tm_reference.proofs.Opened.{kept_opened, opens_as}
use Rattle.tm_reference.proofs.reference_trustee.ReferenceTrustee.open.Goals as goal

pub invariant_of-result : goal.invariant_of-result
invariant_of-result g c =
    let count : c.from.result + c.from-2.result ≡ c.args.config.clients + c.args.number = omega (arith, c.from.ensures, c.from-2.ensures) in
    kept_opened (c.args.config.clients + c.args.number) c.len.result c.args.number c.args.first.items _ _
    (c.in_ok-places.ensures ∙ ap (λ n. replicate n no_place) count)
    (c.in_ok-live.ensures ∙ ap (λ n. opened n 1 (placed_on c.args.number c.args.first.items)) count)
    (omega (arith, c.len.ensures, c.in_ok-live.live.ok.0))

pub returns : goal.returns
returns g c =
    let count : c.from.result + c.from-2.result ≡ c.args.config.clients + c.args.number = omega (arith, c.from.ensures, c.from-2.ensures) in
    opens_as c.args.number c.args.config c.args.first.items _ c.len.result _ _
    (c.in_ok-above.ensures ∙ ap (all_above c.args.number c.args.config) c.as_slice.ensures.value)
    (c.in_ok-places.ensures ∙ ap (λ n. replicate n no_place) count)
    (c.in_ok-live.ensures ∙ ap (λ n. opened n 1 (placed_on c.args.number c.args.first.items)) count)
    (omega (arith, c.len.ensures, c.in_ok-live.live.ok.0))
