use Rattle.std.proofs.Common.{◌≡◌, refl, subst, ◌∙◌, arith, inl, inr}
use Rattle.std.specs.Prelude.{slice_get}
use Rattle.std.specs.declared.option.Option.TheVariants.{Some}
use Rattle.std.proofs.lemmas.Bool.{false≢true, cases_lt}
use Rattle.std.proofs.lemmas.Option.{slice_get_within}
use Rattle.tm_client.proofs.Elements.{element_at}
use Rattle.tm_client.proofs.Fronts.{some_has}
use Rattle.tm_asking.proofs.counting.none_counts.Goals as goal

pub loop-trustee-init : goal.loop-trustee-init
loop-trustee-init g c = λ t lane lt. absurd (omega (arith, lt))

pub loop-trustee-preserved : goal.loop-trustee-preserved
loop-trustee-preserved g c = λ t lane lt there.
    elim (cases_lt t c.loop-trustee.trustee) [
      | inl below ↦ c.loop-trustee.invariant t lane below there
      | inr above ↦
          let same : t ≡ c.loop-trustee.trustee = omega (arith, lt, above) in
          let here = subst (λ n. slice_get c.args.client.now.books.lanes.items n ≡ Some lane) same there in
          let count = some_has (slice_get c.args.client.now.books.lanes.items c.loop-trustee.trustee) lane (λ l. c.counting.result ≡ l.counting) here c.counting.ensures in
          omega (arith, count)
    ]

pub returns-then-counting-ne0 : goal.returns-then-counting-ne0
returns-then-counting-ne0 g c = (
  λ e. absurd (false≢true e),
  λ none.
      let lanes = c.args.client.now.books.lanes.items in
      let t = c.loop-trustee.trustee in
      let lt = c.loop-trustee-test.true in
      let many = c.requires.many in
      let (lane, there) = element_at lanes t (omega (arith, lt, many)) in
      let count = some_has (slice_get lanes t) lane (λ l. c.counting.result ≡ l.counting) there c.counting.ensures in
      absurd (c.if-counting-ne0.true (count ∙ none t lane there)),
)

pub returns : goal.returns
returns g c = (
  λ e t lane there.
      let within = slice_get_within c.args.client.now.books.lanes.items t lane there in
      let all = c.loop-trustee-test.false in
      let many = c.requires.many in
      c.loop-trustee.invariant t lane (omega (arith, within, all, many)) there,
  λ none. refl,
)
