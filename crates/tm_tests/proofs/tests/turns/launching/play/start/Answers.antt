use Rattle.std.proofs.Common.{◌<◌, sym, subst, lit<}
use Rattle.tm_seq.specs.Counting.{counter_kind}
use Rattle.tm_pair.specs.Plain.{plain_theory, IsTrusteeOf}
use Rattle.tm_tests.specs.Launching.{IsPlayed}
use Rattle.tm_tests.proofs.LaunchingFirst.{first_played}
use Rattle.tm_tests.proofs.tests.turns.launching.play.start.Goals as goal

pub returns : goal.returns
returns c =
    let theory = plain_theory counter_kind in
    let least = c.in_ok-least_table in
    let mid = c.in_ok-middle_table in
    let most = c.in_ok-greatest_table in
    let middle = c.in_ok-middle in
    let greatest = c.in_ok-greatest in
    let seat = most.ensures.clients_are 2 c.remove-seat.result (subst (λ n. 2 < n) (sym most.ensures.count) (lit< tt)) c.remove-seat.ensures.value in
    let client = mid.ensures.clients_are 0 c.remove-client.result (subst (λ n. 0 < n) (sym mid.ensures.count) (lit< tt)) c.remove-client.ensures.value in
    subst (λ ts. IsPlayed theory ts middle.middle greatest.greatest c.remove-client.result 0) (sym c.in_ok-tables.ensures.items)
    (first_played theory least.least_table mid.middle_table most.greatest_table least.ensures.opens mid.ensures.opens most.ensures.opens
    middle.middle greatest.greatest c.remove-seat.result c.remove-client.result
    middle.ensures.serving (subst (λ side. IsTrusteeOf counter_kind mid.middle_table side) (sym middle.ensures.side) mid.ensures.mine) middle.ensures.above seat.mine
    greatest.ensures.serving (subst (λ side. IsTrusteeOf counter_kind most.greatest_table side) (sym greatest.ensures.side) most.ensures.mine) greatest.ensures.above
    client.mine client.view)
