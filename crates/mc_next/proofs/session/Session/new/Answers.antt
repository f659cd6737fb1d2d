use Rattle.std.proofs.Common.{refl}
use Rattle.mc_next.proofs.session.Session.new.Goals as goal

pub returns : goal.returns
returns c = record {
  limit_is = refl;
  intake = c.in_ok-intake.ensures;
  moment = refl;
  work = refl;
  gathered = c.new-2.ensures;
  quit = refl;
  at_end = refl;
  too_much = refl;
  stopped = refl;
  over = refl;
}
