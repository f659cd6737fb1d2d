-- What the parts of a reference trustee show.
use Rattle.tm_model.specs.State.{Awaits, Start, AskOf}
use Rattle.tm_reference.specs.declared.work.Awaited.{Awaited}
use Rattle.tm_reference.specs.declared.work.Awaited.TheVariants.{Begin, Told}

-- what launched work waits for
abbrev pub awaits_of : Awaited → Awaits
awaits_of Begin = Start
awaits_of (Told u i) = AskOf u i
