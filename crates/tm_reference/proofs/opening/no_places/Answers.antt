use Rattle.std.proofs.lemmas.List.{replicate_more}
use Rattle.tm_model.specs.State.{no_place}
use Rattle.tm_reference.proofs.opening.no_places.Goals as goal

pub loop-preserved : goal.loop-preserved
loop-preserved g c = rw (c.in_ok-push.ensures.items, c.loop.invariant, c.new.ensures) (replicate_more c.loop.counter no_place)
