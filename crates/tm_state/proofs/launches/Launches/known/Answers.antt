use Rattle.tm_state.proofs.LaunchLists.{begun_gone}
use Rattle.tm_state.proofs.launches.Launches.known.Goals as goal

pub returns : goal.returns
returns g c =
    rw (← c.self.view_is)
    (begun_gone c.self.inside.latches.tickets c.self.inside.begins.items c.args.launch.now c.self.invariant.0 (rw (← c.self.view_is) at c.requires.first) c.requires.begun)
