use Rattle.std.proofs.Common.{refl, subst, inr}
use Rattle.mc_next.specs.Deeds.{HasGathered}
use Rattle.mc_next.proofs.session.Session.finish.Goals as goal

pub returns-in-Ok : goal.returns-in-Ok
returns-in-Ok g c =
    let (replies, replied, shows) = c.in-Ok.ensures in record {
      replies = replies;
      replied = replied;
      shows = λ command frame. subst (λ shown. HasGathered shown c.args.self.now c.gather.new.self) (shows command frame) c.gather.ensures;
    }

pub returns-in-Err : goal.returns-in-Err
returns-in-Err g c =
    let (replies, replied, shows) = c.show.ensures in record {
      replies = replies;
      replied = replied;
      shows = λ command frame. inr refl;
    }
