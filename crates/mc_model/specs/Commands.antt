-- What the tokens of a line say: memcached's table of commands, row by row.
use Rattle.std.specs.Prelude.{ℕ, ◌^◌, ℤ, Bool, true, false, ◌&&◌, nat_le, if◌then◌else◌, List, [], ◌∷◌, length, Option, Some, None, codes}
use Rattle.std.specs.List.{list_all}
use Rattle.std.specs.Str.{bytes_eq}
use Rattle.mc_item.specs.declared.limits.TheConstants.{MOST_KEYS}
use Rattle.mc_item.specs.Keys.{is_key}
use Rattle.mc_item.specs.Numbers.{number_below, exptime_of}
use Rattle.mc_model.specs.declared.line.Saying.{Saying}
use Rattle.mc_model.specs.declared.line.Saying.TheVariants.{Alone, Awaits}
use Rattle.mc_model.specs.declared.message.Command.{Command}
use Rattle.mc_model.specs.declared.message.Command.TheVariants as command
use Rattle.mc_model.specs.declared.message.Fault.{Fault}
use Rattle.mc_model.specs.declared.message.Fault.TheVariants as fault
use Rattle.mc_model.specs.declared.message.How.{How}
use Rattle.mc_model.specs.declared.message.How.TheVariants as how
use Rattle.mc_model.specs.declared.message.Message.TheVariants as message

-- a command whose line is all of it
abbrev pub asks : Command → Saying
asks command = Alone (message.Command command)

-- a fault whose line is all of it
abbrev pub fails : Fault → Saying
fails fault = Alone (message.Fault fault)

-- a known name in a wrong form
abbrev pub bad : Saying
bad = fails fault.BadLine

abbrev pub is_noreply : List ℕ → Bool
is_noreply token = bytes_eq token (codes "noreply")

abbrev pub is_zero : List ℕ → Bool
is_zero token = bytes_eq token (codes "0")

-- [`noreply`] at the end of a line: whether it is there, where nothing else is
abbrev pub quiet_of : List (List ℕ) → Option Bool
quiet_of [] = Some false
quiet_of (last ∷ []) = if is_noreply last then Some true else None
quiet_of _ = None

-- ---- `set` `add` `replace` `append` `prepend`: key flags exptime bytes [`noreply`]

-- the block that a line announces, if all its parts are lawful
abbrev pub announced : How → List ℕ → Option ℕ → Option ℤ → Option ℕ → Option Bool → Saying
announced how key (Some flags) (Some exptime) (Some size) (Some quiet) =
    if is_key key
    then Awaits (record { how = how; key = key; flags = flags; exptime = exptime; size = size; quiet = quiet })
    else bad
announced how key _ _ _ _ = bad

-- flags are below 2 ^ 32, and the bytes are at most 2,147,483,647
abbrev pub store_row : How → List (List ℕ) → Saying
store_row how (key ∷ flags ∷ exptime ∷ size ∷ end) =
    announced how key (number_below (2 ^ 32) flags) (exptime_of exptime) (number_below (2 ^ 31) size) (quiet_of end)
store_row how _ = bad

-- ---- `cas`: key flags exptime bytes unique [`noreply`]

-- a store over the item with this number, if the number is there
abbrev pub cas : List ℕ → Option ℕ → Option ℤ → Option ℕ → Option ℕ → Option Bool → Saying
cas key flags exptime size (Some unique) quiet = announced (how.Cas unique) key flags exptime size quiet
cas key flags exptime size None quiet = bad

-- unique is below 2 ^ 64, and the others are as above
abbrev pub cas_row : List (List ℕ) → Saying
cas_row (key ∷ flags ∷ exptime ∷ size ∷ unique ∷ end) =
    cas key (number_below (2 ^ 32) flags) (exptime_of exptime) (number_below (2 ^ 31) size) (number_below (2 ^ 64) unique) (quiet_of end)
cas_row _ = bad

-- ---- `get` `gets`: 1 to 1,024 keys

abbrev pub are_keys : List (List ℕ) → Bool
are_keys keys = nat_le 1 (length keys) && nat_le (length keys) MOST_KEYS && list_all is_key keys

abbrev pub get_row : Bool → List (List ℕ) → Saying
get_row with_cas keys = if are_keys keys then asks (command.Get keys with_cas) else bad

-- ---- `gat` `gats`: exptime, and 1 to 1,024 keys

abbrev pub get_touch : Bool → Option ℤ → List (List ℕ) → Saying
get_touch with_cas (Some exptime) keys = if are_keys keys then asks (command.GetTouch exptime keys with_cas) else bad
get_touch with_cas None keys = bad

abbrev pub get_touch_row : Bool → List (List ℕ) → Saying
get_touch_row with_cas (exptime ∷ keys) = get_touch with_cas (exptime_of exptime) keys
get_touch_row with_cas [] = bad

-- ---- `delete`: key [`0`] [`noreply`]

abbrev pub without_zero : List (List ℕ) → List (List ℕ)
without_zero [] = []
without_zero (first ∷ rest) = if is_zero first then rest else first ∷ rest

abbrev pub delete : List ℕ → Option Bool → Saying
delete key (Some quiet) = if is_key key then asks (command.Delete key quiet) else bad
delete key None = bad

abbrev pub delete_row : List (List ℕ) → Saying
delete_row (key ∷ end) = delete key (quiet_of (without_zero end))
delete_row [] = bad

-- ---- `incr` `decr`: key amount [`noreply`]

-- a change by the amount, or the bad delta where all but the amount is lawful
abbrev pub change : Bool → List ℕ → Option ℕ → Option Bool → Saying
change up key (Some amount) (Some quiet) = if is_key key then asks (command.Change up key amount quiet) else bad
change up key None (Some quiet) = if is_key key then fails fault.BadDelta else bad
change up key _ None = bad

-- the amount is below 2 ^ 64
abbrev pub change_row : Bool → List (List ℕ) → Saying
change_row up (key ∷ amount ∷ end) = change up key (number_below (2 ^ 64) amount) (quiet_of end)
change_row up _ = bad

-- ---- `touch`: key exptime [`noreply`]

abbrev pub touch : List ℕ → Option ℤ → Option Bool → Saying
touch key (Some exptime) (Some quiet) = if is_key key then asks (command.Touch key exptime quiet) else bad
touch key _ _ = bad

abbrev pub touch_row : List (List ℕ) → Saying
touch_row (key ∷ exptime ∷ end) = touch key (exptime_of exptime) (quiet_of end)
touch_row _ = bad

-- ---- `flush_all`: [delay] [`noreply`]; a lone token is the delay where it is not `noreply`

abbrev pub flush : Option ℕ → Option Bool → Saying
flush (Some delay) (Some quiet) = asks (command.FlushAll delay quiet)
flush _ _ = bad

-- the delay is below 2 ^ 32, and 0 where there is none
abbrev pub flush_row : List (List ℕ) → Saying
flush_row [] = asks (command.FlushAll 0 false)
flush_row (only ∷ []) = if is_noreply only then asks (command.FlushAll 0 true) else flush (number_below (2 ^ 32) only) (Some false)
flush_row (delay ∷ end) = flush (number_below (2 ^ 32) delay) (quiet_of end)

-- ---- `verbosity`: level [`noreply`]

abbrev pub verbosity : Option ℕ → Option Bool → Saying
verbosity (Some level) (Some quiet) = asks (command.Verbosity quiet)
verbosity _ _ = bad

-- the level is below 2 ^ 32
abbrev pub verbosity_row : List (List ℕ) → Saying
verbosity_row (level ∷ end) = verbosity (number_below (2 ^ 32) level) (quiet_of end)
verbosity_row [] = bad

-- ---- `stats` `version` `quit`: nothing

abbrev pub plain_row : Command → List (List ℕ) → Saying
plain_row command [] = asks command
plain_row command _ = bad

-- ---- the table

-- the row of a name that the other parts of the table lack
abbrev pub other_row : List ℕ → List (List ℕ) → Saying
other_row name rest =
    if bytes_eq name (codes "flush_all") then flush_row rest
    else if bytes_eq name (codes "stats") then plain_row command.Stats rest
    else if bytes_eq name (codes "version") then plain_row command.Version rest
    else if bytes_eq name (codes "verbosity") then verbosity_row rest
    else if bytes_eq name (codes "quit") then plain_row command.Quit rest
    else fails fault.Unknown

-- the row of a name that is no storage command
abbrev pub key_row : List ℕ → List (List ℕ) → Saying
key_row name rest =
    if bytes_eq name (codes "get") then get_row false rest
    else if bytes_eq name (codes "gets") then get_row true rest
    else if bytes_eq name (codes "delete") then delete_row rest
    else if bytes_eq name (codes "incr") then change_row true rest
    else if bytes_eq name (codes "decr") then change_row false rest
    else if bytes_eq name (codes "touch") then touch_row rest
    else if bytes_eq name (codes "gat") then get_touch_row false rest
    else if bytes_eq name (codes "gats") then get_touch_row true rest
    else other_row name rest

-- the row of a name, compared byte by byte
abbrev pub row : List ℕ → List (List ℕ) → Saying
row name rest =
    if bytes_eq name (codes "set") then store_row how.Set rest
    else if bytes_eq name (codes "add") then store_row how.Add rest
    else if bytes_eq name (codes "replace") then store_row how.Replace rest
    else if bytes_eq name (codes "append") then store_row how.Append rest
    else if bytes_eq name (codes "prepend") then store_row how.Prepend rest
    else if bytes_eq name (codes "cas") then cas_row rest
    else key_row name rest

-- the first token is the name
abbrev pub tokens_say : List (List ℕ) → Saying
tokens_say [] = fails fault.Unknown
tokens_say (name ∷ rest) = row name rest
