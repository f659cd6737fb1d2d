use Rattle.std.proofs.Common.{subst}
use Rattle.tm_objects.specs.Live.{LiveList}
use Rattle.tm_objects.specs.Rising.{IsRising}
use Rattle.tm_objects.proofs.Rising.{rising_sound}
use Rattle.tm_objects.proofs.live.LiveObjects.known.Goals as goal

pub returns : goal.returns
returns g c = subst (λ (s : LiveList g.row.V.Denot). IsRising s) c.self.view_is (rising_sound c.self.invariant.0 c.self.invariant.1)
