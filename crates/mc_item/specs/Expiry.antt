-- When an item expires.
use Rattle.std.specs.Prelude.{ℕ, ◌+◌, ◌<◌, ℤ, pos, negsuc, Bool, false, nat_le, ◌==◌, if◌then◌else◌}
use Rattle.mc_item.specs.declared.limits.TheConstants.{LONGEST_RELATIVE}
use Rattle.mc_item.specs.declared.expiry.Expiry.{Expiry}
use Rattle.mc_item.specs.declared.expiry.Expiry.TheVariants.{Never, At}

-- when what is written at a moment with this exptime expires: never at 0, at once below it,
-- after so many seconds up to 30 days, and else at the moment that the exptime is
unfoldable pub due_at : ℤ → ℕ → Expiry
due_at (pos seconds) now =
    if seconds == 0 then Never else (if nat_le seconds LONGEST_RELATIVE then At (now + seconds) else At seconds)
due_at (negsuc _) now = At 0

-- the moment has come
abbrev pub is_expired : Expiry → ℕ → Bool
is_expired Never now = false
is_expired (At moment) now = nat_le moment now

-- the moment, if there is one, is below the limit
abbrev pub IsDueBelow : ℕ → Expiry → Type 0
IsDueBelow limit Never = Unit {0}
IsDueBelow limit (At moment) = moment < limit
