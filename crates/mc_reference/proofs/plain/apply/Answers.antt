use Rattle.std.proofs.Common.{ap, take, ◌∷◌, ◌∙◌}
use Rattle.mc_model.specs.Items.{first}
use Rattle.mc_reference.proofs.plain.apply.Goals as goal

pub returns-in_ok-insert-in-Use : goal.returns-in_ok-insert-in-Use
unfolding first
returns-in_ok-insert-in-Use c = rw c.in-Use.is (c.in_ok-insert-in-Use.ensures.items ∙ ap (λ l. (c.args.key, c.in-Use.item) ∷ l) c.drop_key.ensures)

pub returns-in_ok-insert-in-Put : goal.returns-in_ok-insert-in-Put
unfolding first
returns-in_ok-insert-in-Put c = rw c.in-Put.is (c.truncate.ensures.items ∙ ap (take c.args.bound) (c.in_ok-insert-in-Put.ensures.items ∙ ap (λ l. (c.args.key, c.in-Put.item) ∷ l) c.drop_key-in-Put.ensures))
