use Rattle.std.proofs.Common.{ap}
use Rattle.tm_state.proofs.LaunchLists.{on_sound, gone_on}
use Rattle.tm_state.proofs.launches.Launches.goes_on.Goals as goal

pub invariant_of-self : goal.invariant_of-self
invariant_of-self g c =
    rw c.goes_on.ensures
    (on_sound _ _ _ _ _ _ c.self.invariant (rw (← c.self.view_is, ← c.launch.view_is) at c.requires.first) (rw (← c.self.view_is, ← c.launch.view_is) at c.requires.gone))

pub returns-clause-begins : goal.returns-clause-begins
returns-clause-begins g c =
    rw (← c.launch.view_is)
    (gone_on (record { launched = c.self.inside.latches.tickets; begins = c.self.inside.begins.items; room = c.self.inside.latches.room }) c.args.self.now c.goes_on.new.self.tickets
    c.launch.inside.id c.launch.inside.waiting c.self.view_is (rw (← c.launch.view_is) at c.requires.first) (rw (← c.launch.view_is) at c.requires.begun)
    (ap (λ k. k.tickets) c.goes_on.ensures))
