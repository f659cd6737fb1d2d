use Rattle.std.proofs.Common.{◌≡◌, ◌++◌, map}
use Rattle.mc_route.specs.Plans.{asked_of, shard_part}
use Rattle.mc_route.proofs.planning.part_for_each.Given as goal

abbrev pub invariant-loop-key : goal.invariant-loop-key
invariant-loop-key l = record {
  parts : l.parts ≡ map (shard_part l.moment) (map (λ key. (key, asked_of l.exptime)) l.yielded);
  still : l.fn.keys ≡ l.yielded ++ l.key-iterator.rest.items;
}
