-- What a trustee opens with.
use Rattle.std.specs.Prelude.{ℕ, ◌+◌, nat_lt, cond, List, [], map}
use Rattle.std.specs.List.{range_with_len}
use Rattle.tm_batch.specs.declared.config.Config.{Config}
use Rattle.tm_batch.specs.declared.config.First.{First}
use Rattle.tm_model.specs.Opening.{ids_at}

-- for each trustee by number, the ids there that trustee `number` holds at first, none where that number is not greater
abbrev pub all_above : {V : Type 0} → ℕ → Config → List (First V) → List (List ℕ)
all_above number config first =
    map (λ u. cond (nat_lt number u) (ids_at u (config.clients + number) first) []) (range_with_len 0 config.trustees)
