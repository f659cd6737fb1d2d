use Rattle.std.proofs.Common.{refl, arith}
use Rattle.std.proofs.lemmas.Bool.{false≢true}
use Rattle.mc_intake.proofs.Reading.{ends_meet, nothing_unfed}
use Rattle.mc_intake.proofs.intake.Intake.is_fed.Goals as goal

pub returns-then-self : goal.returns-then-self
returns-then-self c =
    let (limit, text, messages, is) = c.requires in
    (λ e. absurd (false≢true e), λ none. let meet = ends_meet limit text messages c.args.self.now is none in absurd (omega (arith, meet)))

pub returns-else-self : goal.returns-else-self
returns-else-self c = (λ e. nothing_unfed c.args.self.now c.if-self.false, λ none. refl)
