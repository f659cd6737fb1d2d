use Rattle.std.proofs.Common.{sym, ◌∙◌, subst}
use Rattle.tm_seq.specs.Counting.{counter_kind}
use Rattle.tm_pair.specs.Plain.{plain_theory, IsTrusteeOf}
use Rattle.tm_tests.specs.Driving.{IsDriven}
use Rattle.tm_tests.proofs.DrivenFirst.{greater_ready}
use Rattle.tm_tests.proofs.tests.turns.nested.the_place_of_a_trustee_applies.Goals as goal

pub both_add-requires-clause-ready : goal.both_add-requires-clause-ready
both_add-requires-clause-ready g c =
    let high = c.in_ok-high.high in
    let trustee = c.in_ok-trustee.trustee in
    subst (λ tables. IsDriven (plain_theory counter_kind) tables 1 trustee)
    (sym (c.deref_mut.ensures.value ∙ c.in_ok-tables.ensures.items))
    (greater_ready (plain_theory counter_kind) c.in_ok-low.low high trustee
    c.in_ok-low.ensures.opens c.in_ok-high.ensures.opens c.in_ok-trustee.ensures.serving
    (subst (λ side. IsTrusteeOf counter_kind high side) (sym c.in_ok-trustee.ensures.side) c.in_ok-high.ensures.mine) c.in_ok-trustee.ensures.above)
