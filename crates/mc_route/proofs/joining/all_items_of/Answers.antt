use Rattle.mc_route.proofs.Items.{one_more}
use Rattle.mc_route.proofs.joining.all_items_of.Goals as goal

pub loop-key-preserved : goal.loop-key-preserved
loop-key-preserved c = record {
  can_next = tt;
  is_finite = tt;
  still =
      one_more _ _ _ _ _ c.in-Some.key c.in-Some-next.reply _ _ c.in_ok-add_item.field-0 c.loop-key.invariant.still c.in-Some.ensures.steps.0 c.in-Some-next.ensures.cases.0 c.in_ok-add_item.ensures
      c.if-not-branch.false;
}
