use Rattle.std.proofs.Common.{◌<◌, sym, ◌∙◌, subst, lit<}
use Rattle.tm_seq.specs.Counting.{counter_kind}
use Rattle.tm_pair.specs.Plain.{plain_theory, IsTrusteeOf}
use Rattle.tm_tests.specs.Driving.{IsDriven}
use Rattle.tm_tests.proofs.DrivenFirst.{greater_ready, lesser_ready}
use Rattle.tm_tests.proofs.tests.turns.upward.a_bye_goes_upward_through_two_trustees.Goals as goal

pub two_trustees-requires-clause-lesser : goal.two_trustees-requires-clause-lesser
two_trustees-requires-clause-lesser g c =
    let low = c.in_ok-low.low in
    let lesser = c.in_ok-lesser.lesser in
    let high = c.in_ok-high.high in
    let seat = c.remove-seat.result in
    subst (λ tables. IsDriven (plain_theory counter_kind) tables 0 lesser)
    (sym (c.deref_mut.ensures.value ∙ c.in_ok-tables.ensures.items))
    (lesser_ready (plain_theory counter_kind) low high lesser seat
    c.in_ok-low.ensures.opens c.in_ok-high.ensures.opens c.in_ok-lesser.ensures.serving
    (subst (λ side. IsTrusteeOf counter_kind low side) (sym c.in_ok-lesser.ensures.side) c.in_ok-low.ensures.mine)
    (c.in_ok-high.ensures.clients_are 1 seat (subst (λ n. 1 < n) (sym c.in_ok-high.ensures.count) (lit< tt)) c.remove-seat.ensures.value).mine c.in_ok-lesser.ensures.above)

pub two_trustees-requires-clause-greater : goal.two_trustees-requires-clause-greater
two_trustees-requires-clause-greater g c =
    let high = c.in_ok-high.high in
    let greater = c.in_ok-greater.greater in
    subst (λ tables. IsDriven (plain_theory counter_kind) tables 1 greater)
    (sym (c.deref_mut.ensures.value ∙ c.in_ok-tables.ensures.items))
    (greater_ready (plain_theory counter_kind) c.in_ok-low.low high greater
    c.in_ok-low.ensures.opens c.in_ok-high.ensures.opens c.in_ok-greater.ensures.serving
    (subst (λ side. IsTrusteeOf counter_kind high side) (sym c.in_ok-greater.ensures.side) c.in_ok-high.ensures.mine) c.in_ok-greater.ensures.above)
