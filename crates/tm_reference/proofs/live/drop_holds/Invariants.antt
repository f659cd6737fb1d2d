use Rattle.std.proofs.Common.{◌≡◌, ◌++◌, map, take, drop}
use Rattle.tm_model.specs.State.{with_holds}
use Rattle.tm_reference.proofs.live.drop_holds.Given as goal

abbrev pub invariant-loop-object : goal.invariant-loop-object
invariant-loop-object g l =
    l.live ≡ map (with_holds l.place 0) (take l.object-index l.initial.live) ++ drop l.object-index l.initial.live
