use Rattle.std.proofs.Common.{◌≡◌, Option, None, Some, refl, sym, ◌∙◌}
use Rattle.mc_next.specs.declared.ended.Ended.{Ended}
use Rattle.mc_next.specs.declared.ended.Stepped.{Stepped}
use Rattle.mc_next.specs.declared.ended.Stepped.TheVariants.{Moved, Waiting, Over}
use Rattle.mc_solo.proofs.Standing.{served_stands, served_goes_on}
use Rattle.mc_solo.proofs.serving.step_once.Goals as goal

none_of : (over : Option Ended) → ((ended : Ended) → over ≡ Some ended → ⊥) → over ≡ None
none_of None f = refl
none_of (Some ended) f = absurd (f ended refl)

moved_over : (stepped : Stepped) (ended : Ended) → stepped ≡ Moved → stepped ≡ Over ended → ⊥
moved_over stepped ended e f = let both : Moved ≡ Over ended = sym e ∙ f in cc

waits_over : (stepped : Stepped) (ended : Ended) → stepped ≡ Waiting → stepped ≡ Over ended → ⊥
waits_over stepped ended e f = let both : Waiting ≡ Over ended = sym e ∙ f in cc

pub returns-in-Over-clause-over : goal.returns-in-Over-clause-over
returns-in-Over-clause-over g c = (c.step_at.ensures.over c.in-Over.ended).0 c.in-Over.is

pub returns-in-Over-clause-stopped : goal.returns-in-Over-clause-stopped
returns-in-Over-clause-stopped g c = λ ended e. c.step_at.ensures.stopped ended ((c.step_at.ensures.over c.in-Over.ended).0 c.in-Over.is ∙ e)

pub returns-in-Moved-clause-over : goal.returns-in-Moved-clause-over
returns-in-Moved-clause-over g c =
    none_of c.step_at.new.session.over (λ ended e. moved_over c.step_at.result ended c.in-Moved.is ((c.step_at.ensures.over ended).1 e))

pub returns-in-Waiting-clause-stands : goal.returns-in-Waiting-clause-stands
returns-in-Waiting-clause-stands g c = λ s first start d.
    served_stands c.args.place c.step_at.new.turns c.serve_all.new.self c.serve_all.ensures.clients c.serve_all.ensures.keeps c.serve_all.result c.serve_all.ensures.serves s first start c.args.trusts.now c.step_at.new.session _ _ _
    (c.step_at.ensures.stands s first start d)

pub returns-in-Waiting-clause-over : goal.returns-in-Waiting-clause-over
returns-in-Waiting-clause-over g c =
    none_of c.step_at.new.session.over (λ ended e. waits_over c.step_at.result ended c.in-Waiting.is ((c.step_at.ensures.over ended).1 e))

pub returns-in-Waiting-clause-goes_on : goal.returns-in-Waiting-clause-goes_on
returns-in-Waiting-clause-goes_on g c = λ none.
    let (s, first, start, d) = c.requires.stands in
    served_goes_on c.args.place c.step_at.new.turns c.serve_all.new.self c.serve_all.ensures.clients c.serve_all.ensures.keeps c.serve_all.result c.args.session.now
    c.step_at.new.session c.args.turns.now (c.step_at.ensures.stands s first start d).are c.serve_all.ensures.serves (c.step_at.ensures.steps.waits c.in-Waiting.is)
