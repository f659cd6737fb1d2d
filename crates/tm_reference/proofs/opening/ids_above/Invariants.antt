use Rattle.std.proofs.Common.{◌≡◌, nat_lt, cond, [], map}
use Rattle.std.specs.List.{range_with_len}
use Rattle.tm_model.specs.Opening.{ids_at}
use Rattle.tm_reference.proofs.opening.ids_above.Given as goal

abbrev pub invariant-loop-trustee : goal.invariant-loop-trustee
invariant-loop-trustee g l = l.above.items ≡ map (λ u. cond (nat_lt l.number u) (ids_at u l.place l.first) []) (range_with_len 0 l.trustee)
