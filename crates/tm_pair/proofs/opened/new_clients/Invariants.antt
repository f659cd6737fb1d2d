use Rattle.std.proofs.Common.{◌≡◌, vec_len}
use Rattle.tm_pair.specs.Opened.{AreNewClients}
use Rattle.tm_pair.proofs.opened.new_clients.Given as goal

abbrev pub invariant-loop-place : goal.invariant-loop-place
invariant-loop-place g l = record { count : vec_len l.clients ≡ l.place; new : AreNewClients l.count l.clients.items }
