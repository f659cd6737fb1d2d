use Rattle.std.proofs.Common.{ap}
use Rattle.tm_state.proofs.LaunchLists.{next_but}
use Rattle.tm_state.proofs.launches.Launches.next.Goals as goal

pub returns-clause-begins : goal.returns-clause-begins
returns-clause-begins g c =
    rw (← c.self.view_is) (next_but c.self.inside.latches.tickets c.self.inside.begins.items c.pop_front.new.self.items c.pop_front.result c.pop_front.ensures.value (ap (λ b. b.items) c.pop_front.ensures.items))
