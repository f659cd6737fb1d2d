use Rattle.std.proofs.Common.{◌≡◌, ◌++◌}
use Rattle.std.specs.Option.{option_map}
use Rattle.mc_model.specs.Showing.{all_items_of}
use Rattle.mc_route.proofs.joining.all_items_of.Given as goal

abbrev pub invariant-loop-key : goal.invariant-loop-key
invariant-loop-key l = record {
  can_next : (goal.iterator-loop-key).can_next l.key-iterator;
  is_finite : (goal.iterator-loop-key).is_finite l.key-iterator;
  still : all_items_of l.fn.keys l.fn.replies.items ≡ option_map (λ later. l.items ++ later) (all_items_of l.key-iterator.rest.items l.left.rest.items);
}
