use Rattle.std.proofs.Common.{◌≡◌, inl, inr, refl, sym, ◌∙◌, subst}
use Rattle.std.proofs.lemmas.Bool.{false≢true}
use Rattle.mc_shard.specs.Laws.{shard_laws}
use Rattle.mc_route.specs.DeskLaws.{desk_laws}
use Rattle.tm_seq.specs.SummingLaws.{sum_laws}
use Rattle.tm_turns.proofs.Driving.{to_drive, is_to_drive}
use Rattle.mc_next.specs.Parts.{store_kind}
use Rattle.mc_next.specs.Steps.{before_of, IsLess}
use Rattle.mc_solo.proofs.Positions.{never_less, nearer}
use Rattle.mc_solo.proofs.Standing.{intake_of, none_where}
use Rattle.mc_solo.proofs.Marking.{both_others}
use Rattle.mc_solo.proofs.serving.step_on.Goals as goal

pub loop-ended-init : goal.loop-ended-init
loop-ended-init g c = record {
  stands = λ s first start d. d;
  going = c.requires.going;
  keeps = λ config first of. of;
  others = record { as_many = refl; others = λ k other. refl };
  cause = λ reads writes h. h;
  same = refl;
  numbers = c.ahead-before.ensures.numbers;
}

pub ahead-before-requires : goal.ahead-before-requires
ahead-before-requires g c = let (s, first, start, d) = c.requires.stands in intake_of s first start c.args.place c.args.trusts.now c.args.session.now c.args.turns.now _ _ _ d c.requires.going

pub step_once-requires-clause-stands : goal.step_once-requires-clause-stands
step_once-requires-clause-stands g c = let (s, first, start, d) = c.requires.stands in (s, first, start, c.loop-ended.invariant.stands s first start d)

pub step_once-requires-clause-going : goal.step_once-requires-clause-going
step_once-requires-clause-going g c = c.loop-ended.invariant.going

pub returns-in-Some-clause-stands : goal.returns-in-Some-clause-stands
returns-in-Some-clause-stands g c = λ s first start d. c.step_once.ensures.stands s first start (c.loop-ended.invariant.stands s first start d)

pub returns-in-Some-clause-keeps : goal.returns-in-Some-clause-keeps
returns-in-Some-clause-keeps g c = λ config first of. c.step_once.ensures.keeps config first (c.loop-ended.invariant.keeps config first of)

pub returns-in-Some-clause-others : goal.returns-in-Some-clause-others
returns-in-Some-clause-others g c =
    both_others c.args.place c.args.turns.now c.loop-ended.turns c.step_once.new.turns c.loop-ended.invariant.others c.step_once.ensures.others

pub returns-in-Some-clause-cause : goal.returns-in-Some-clause-cause
returns-in-Some-clause-cause g c = λ reads writes h. c.step_once.ensures.cause reads writes (c.loop-ended.invariant.cause reads writes h)

pub ahead-requires : goal.ahead-requires
ahead-requires g c =
    let (s, first, start, d) = c.requires.stands in
    intake_of s first start c.args.place c.args.trusts.now c.step_once.new.session c.step_once.new.turns _ _ _
    (c.step_once.ensures.stands s first start (c.loop-ended.invariant.stands s first start d)) (c.step_once.ensures.over ∙ none_where c.step_once.result c.in_default.not-Some)

pub returns-then-not-is_as-clause-stands : goal.returns-then-not-is_as-clause-stands
returns-then-not-is_as-clause-stands g c = λ s first start d. c.step_once.ensures.stands s first start (c.loop-ended.invariant.stands s first start d)

pub returns-then-not-is_as-clause-keeps : goal.returns-then-not-is_as-clause-keeps
returns-then-not-is_as-clause-keeps g c = λ config first of. c.step_once.ensures.keeps config first (c.loop-ended.invariant.keeps config first of)

pub returns-then-not-is_as-clause-others : goal.returns-then-not-is_as-clause-others
returns-then-not-is_as-clause-others g c =
    both_others c.args.place c.args.turns.now c.loop-ended.turns c.step_once.new.turns c.loop-ended.invariant.others c.step_once.ensures.others

pub returns-then-not-is_as-clause-cause : goal.returns-then-not-is_as-clause-cause
returns-then-not-is_as-clause-cause g c = λ reads writes h. c.step_once.ensures.cause reads writes (c.loop-ended.invariant.cause reads writes h)

pub returns-then-not-is_as-clause-nearer : goal.returns-then-not-is_as-clause-nearer
returns-then-not-is_as-clause-nearer g c = λ none.
    let i = c.loop-ended.invariant in
    let new = c.step_once.new.session in
    let went = c.step_once.ensures.goes_on (none_where c.step_once.result c.in_default.not-Some) in
    elim (went (to_drive store_kind c.args.place) (is_to_drive store_kind (sum_laws shard_laws desk_laws refl) c.args.place)) [
      | inl less ↦
          nearer c.args.session.now new c.ahead-before.result c.ahead.result i.numbers c.ahead.ensures.numbers c.ahead.ensures.bounded
          (subst (λ xs. IsLess (before_of new) xs) i.same less)
      | inr (same, lt) ↦
          let alike = c.is_as.ensures.1 (c.ahead.ensures.numbers ∙ same ∙ i.same ∙ sym i.numbers) in absurd (false≢true (sym c.if-not-is_as.true ∙ alike))
    ]

pub loop-ended-smaller : goal.loop-ended-smaller
loop-ended-smaller g c =
    let i = c.loop-ended.invariant in
    let new = c.step_once.new.session in
    let alike : before_of new ≡ before_of c.loop-ended.session =
    sym c.ahead.ensures.numbers ∙ c.is_as.ensures.0 c.if-not-is_as.false ∙ i.numbers ∙ sym i.same in
    let went = c.step_once.ensures.goes_on (none_where c.step_once.result c.in_default.not-Some) in
    elim (went (to_drive store_kind c.args.place) (is_to_drive store_kind (sum_laws shard_laws desk_laws refl) c.args.place)) [
      | inl less ↦ absurd (never_less (before_of c.loop-ended.session) (subst (λ xs. IsLess xs (before_of c.loop-ended.session)) alike less))
      | inr (same, lt) ↦ lt
    ]

pub loop-ended-preserved : goal.loop-ended-preserved
loop-ended-preserved g c =
    let i = c.loop-ended.invariant in record {
      stands = λ s first start d. c.step_once.ensures.stands s first start (i.stands s first start d);
      going = c.step_once.ensures.over ∙ none_where c.step_once.result c.in_default.not-Some;
      keeps = λ config first of. c.step_once.ensures.keeps config first (i.keeps config first of);
      others = both_others c.args.place c.args.turns.now c.loop-ended.turns c.step_once.new.turns i.others c.step_once.ensures.others;
      cause = λ reads writes h. c.step_once.ensures.cause reads writes (i.cause reads writes h);
      same = sym c.ahead.ensures.numbers ∙ c.is_as.ensures.0 c.if-not-is_as.false ∙ i.numbers;
      numbers = i.numbers;
    }
