use Rattle.std.proofs.Common.{◌∙◌, ap, ◌++◌}
use Rattle.mc_model.specs.Rendering.{item_bytes}
use Rattle.mc_reply.proofs.Items.{flat_map_on}
use Rattle.mc_reply.proofs.rendering.append_items.Goals as goal

pub loop-at-preserved : goal.loop-at-preserved
loop-at-preserved c =
    c.in_ok-append_item.ensures.ok
    ∙ ap (λ t. t ++ item_bytes c.args.with_cas c.get.result.now) c.loop-at.invariant
    ∙ flat_map_on (item_bytes c.args.with_cas) c.args.items.now c.loop-at.at c.get.result.now c.args.out.now c.get.ensures
