-- How long an item stays, beside its flags.
use Rattle.std.specs.Prelude.{ℕ}
use Rattle.mc_item.specs.declared.expiry.Expiry.{Expiry}
use Rattle.mc_item.specs.declared.expiry.Expiry.TheVariants.{Never, At}
use Rattle.mc_shard.specs.declared.item.Stay.{Stay}
use Rattle.mc_shard.specs.declared.item.Stay.TheVariants.{Always, Until}

abbrev pub stay_of : ℕ → Expiry → Stay
stay_of flags Never = Always flags
stay_of flags (At moment) = Until flags moment

abbrev pub flags_of : Stay → ℕ
flags_of (Always flags) = flags
flags_of (Until flags moment) = flags

abbrev pub due_of_stay : Stay → Expiry
due_of_stay (Always flags) = Never
due_of_stay (Until flags moment) = At moment
