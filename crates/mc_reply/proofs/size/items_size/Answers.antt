use Rattle.std.proofs.Common.{arith, ap, length, length-append, take}
use Rattle.std.specs.List.{flat_map}
use Rattle.mc_model.specs.Rendering.{item_bytes}
use Rattle.mc_reply.proofs.Items.{flat_map-take_more}
use Rattle.mc_reply.proofs.size.items_size.Goals as goal

pub loop-at-preserved : goal.loop-at-preserved
loop-at-preserved c =
    let f = item_bytes c.args.with_cas in
    let items = c.args.items.now in
    let more = ap length (flat_map-take_more f items c.loop-at.at c.get.result.now c.get.ensures) in
    let sum = length-append (flat_map f (take c.loop-at.at items)) (f c.get.result.now) in
    omega arith
