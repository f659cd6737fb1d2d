use Rattle.std.proofs.Common.{◌≢◌, take}
use Rattle.std.specs.List.{AllByRecursion}
use Rattle.tm_client.proofs.finishing.place_of.Given as goal

-- the launches so far are of other tickets
abbrev pub invariant-loop-at : goal.invariant-loop-at
invariant-loop-at g l = AllByRecursion (λ x. x.ticket ≢ l.ticket) (take l.at l.launched.items)
