-- What is left of an object.
use Rattle.std.specs.Prelude.{cond}
use Rattle.tm_objects.specs.Live.{Live, is_held}
use Rattle.tm_objects.specs.declared.left.Left.{Left}
use Rattle.tm_objects.specs.declared.left.Left.TheVariants.{More, Dropped}

-- more, where there is a hold on the object or a launch
abbrev pub left_of : {V : Type 0} → Live V → Left
left_of o = cond (is_held o) More Dropped
