use Rattle.std.proofs.Common.{rules}
use Rattle.std.proofs.lemmas.Fn.{filter_same}
use Rattle.mc_model.specs.Items.{live}
use Rattle.mc_reference.proofs.plain.drop_expired.Goals as goal

pub returns : goal.returns
unfolding live
returns c = filter_same _ _ _ (λ x b f' k. search rules) _ _ c.retain.ensures.filtered
