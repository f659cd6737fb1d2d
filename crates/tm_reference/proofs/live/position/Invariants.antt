use Rattle.std.proofs.Common.{◌≡◌, take}
use Rattle.std.specs.declared.option.Option.TheVariants.{None}
use Rattle.tm_model.specs.State.{object_of}
use Rattle.tm_reference.proofs.live.position.Given as goal

abbrev pub invariant-loop-at : goal.invariant-loop-at
invariant-loop-at g l = object_of (take l.at l.live) l.id ≡ None
