use Rattle.std.proofs.Common.{[], ◌∷◌, sym, ◌∙◌, subst, arith, lit<}
use Rattle.tm_pair.specs.Plain.{plain_theory, IsTrusteeOf}
use Rattle.tm_client_tests.specs.Playing.{opening, IsPlaying}
use Rattle.tm_client_tests.proofs.Beginning.{first_one, first_plays, side_of}
use Rattle.tm_client_tests.proofs.tests.start.start.Goals as goal

pub remove-requires-2 : goal.remove-requires-2
remove-requires-2 g c =
    let many = (c.in_ok-high.ensures c.args.value c.in_ok-first.ensures).count in
    omega (arith, many)

pub remove-requires-3 : goal.remove-requires-3
remove-requires-3 g c =
    let many = (c.in_ok-low.ensures c.args.value c.in_ok-first.ensures).count in
    omega (arith, many)

pub remove-requires-4 : goal.remove-requires-4
remove-requires-4 g c =
    let many = (c.in_ok-high.ensures c.args.value c.in_ok-first.ensures).count in
    omega (arith, many)

pub client-requires-2-clause-low : goal.client-requires-2-clause-low
client-requires-2-clause-low g c =
    (side_of (plain_theory g.S.Entrusted.kind) (opening c.args.value c.args.trusts 0) c.in_ok-low.low c.in_ok-low.at_low.items _ 0 c.remove-3.result
    (c.in_ok-low.ensures c.args.value c.in_ok-first.ensures) (lit< tt) (c.remove-3.ensures.value ∙ c.remove.ensures.by_index.0 0 c.remove-3.result (lit< tt))).view

pub client-requires-2-clause-high : goal.client-requires-2-clause-high
client-requires-2-clause-high g c =
    (side_of (plain_theory g.S.Entrusted.kind) (opening c.args.value c.args.trusts 1) c.in_ok-high.high c.in_ok-high.at_high.items _ 0 c.remove-4.result
    (c.in_ok-high.ensures c.args.value c.in_ok-first.ensures) (lit< tt) (c.remove-4.ensures.value ∙ c.remove-2.ensures.by_index.0 0 c.remove-4.result (lit< tt))).view

pub greater-requires-clause-first : goal.greater-requires-clause-first
greater-requires-clause-first g c = (c.args.value, c.in_ok-first.ensures)

pub greater-requires-clause-side : goal.greater-requires-clause-side
greater-requires-clause-side g c = (c.in_ok-high.ensures c.args.value c.in_ok-first.ensures).view

pub returns : goal.returns
returns g c =
    let kind = g.S.Entrusted.kind in
    let theory = plain_theory kind in
    let v = c.args.value in
    let trusts = c.args.trusts in
    let high = c.in_ok-high.high in
    let trustee = c.in_ok-trustee.trustee in
    let new_low = c.in_ok-low.ensures v c.in_ok-first.ensures in
    let new_high = c.in_ok-high.ensures v c.in_ok-first.ensures in
    let side = side_of theory (opening v trusts 1) high c.in_ok-high.at_high.items _ 0 c.remove-4.result new_high (lit< tt)
    (c.remove-4.ensures.value ∙ c.remove-2.ensures.by_index.0 0 c.remove-4.result (lit< tt)) in
    let other_side = side_of theory (opening v trusts 1) high c.in_ok-high.at_high.items _ 1 c.remove-2.result new_high (lit< tt) c.remove-2.ensures.value in
    let one = first_one theory kind v trusts high 0 _ c.remove-4.result c.in_ok-one.one.books c.in_ok-one.ensures.begun.number_of (c.in_ok-one.ensures.client v)
    c.in_ok-one.ensures.begun.lanes side.mine in
    let other = first_one theory kind v trusts high 1 _ c.remove-2.result c.in_ok-other.other.books c.in_ok-other.ensures.begun.number_of
    (c.in_ok-other.ensures.client v) c.in_ok-other.ensures.begun.lanes other_side.mine in
    subst (λ clients. IsPlaying theory kind c.in_ok-tables.tables.items trustee clients) (sym c.in_ok-clients.ensures.items)
    (subst (λ tables. IsPlaying theory kind tables trustee (c.in_ok-one.one ∷ c.in_ok-other.other ∷ [])) (sym c.in_ok-tables.ensures.items)
    (first_plays theory kind v trusts c.in_ok-low.low high trustee c.in_ok-one.one c.in_ok-other.other new_low.opens new_high.opens
    (c.in_ok-trustee.ensures.serving v c.in_ok-first.ensures)
    (subst (λ s. IsTrusteeOf kind high s) (sym c.in_ok-trustee.ensures.side) new_high.mine) c.in_ok-trustee.ensures.above one other))
