use Rattle.std.proofs.Common.{refl, sym, ◌∙◌}
use Rattle.mc_intake.proofs.Reading.{beginning}
use Rattle.mc_intake.proofs.intake.Intake.new.Goals as goal

pub returns : goal.returns
returns c = beginning c.args.limit _ c.new.ensures.reads c.new.ensures.start (sym c.in_ok-buffer.buffer.ok.0 ∙ c.in_ok-buffer.ensures.len) refl refl refl
