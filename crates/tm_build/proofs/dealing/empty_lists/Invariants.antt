use Rattle.std.proofs.Common.{◌≡◌, [], map}
use Rattle.std.proofs.Math.ListN.{replicate}
use Rattle.tm_build.proofs.dealing.empty_lists.Given as goal

-- the lists so far are empty
abbrev pub invariant-loop : goal.invariant-loop
invariant-loop g l = map (λ v. v.items) l.lists.items ≡ replicate l.counter []
