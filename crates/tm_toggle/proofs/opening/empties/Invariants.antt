use Rattle.std.proofs.Common.{◌≡◌, replicate, ◌≤◌, vec_capacity}
use Rattle.tm_toggle.specs.Contents.{no_content}
use Rattle.tm_toggle.proofs.opening.empties.Given as goal

abbrev pub invariant-loop : goal.invariant-loop
invariant-loop g l = (l.slots.items ≡ replicate l.counter (no_content g.S.Entrusted.kind)) × (l.count ≤ vec_capacity l.slots)
