use Rattle.std.proofs.Common.{◌≡◌, map}
use Rattle.std.specs.List.{range_with_len}
use Rattle.mc_route.specs.Places.{first_shard}
use Rattle.mc_route.proofs.places.store_first.Given as goal

abbrev pub invariant-loop-class : goal.invariant-loop-class
invariant-loop-class l = l.first.items ≡ map (first_shard l.clients l.trustees l.bound) (range_with_len 0 l.class)
