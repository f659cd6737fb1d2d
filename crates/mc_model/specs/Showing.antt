-- What a client is shown of the replies to a command.
use Rattle.std.specs.Prelude.{ℕ, Bool, true, false, if◌then◌else◌, List, [], ◌∷◌, ◌++◌, Option, Some, None, option_and_then}
use Rattle.std.specs.List.{list_any}
use Rattle.std.specs.Option.{option_map_or}
use Rattle.mc_model.specs.declared.message.How.{How}
use Rattle.mc_model.specs.declared.message.How.TheVariants.{Add, Replace, Append, Prepend, Cas}
use Rattle.mc_model.specs.declared.message.Command.{Command}
use Rattle.mc_model.specs.declared.message.Command.TheVariants as command
use Rattle.mc_model.specs.declared.message.Fault.{Fault}
use Rattle.mc_model.specs.declared.message.Fault.TheVariants as fault
use Rattle.mc_model.specs.declared.message.Message.{Message}
use Rattle.mc_model.specs.declared.message.Message.TheVariants as message
use Rattle.mc_model.specs.declared.reply.ShardReply.{ShardReply}
use Rattle.mc_model.specs.declared.reply.ShardReply.TheVariants as reply
use Rattle.mc_model.specs.declared.shown.Said.{Said}
use Rattle.mc_model.specs.declared.shown.Said.TheVariants as said
use Rattle.mc_model.specs.declared.shown.Shown.{Shown}
use Rattle.mc_model.specs.declared.shown.Shown.TheVariants.{Nothing, Line, Number, Values, Stats}
use Rattle.mc_model.specs.declared.shown.ShownItem.{ShownItem}

-- whether memory was wanting
abbrev pub is_no_memory : ShardReply → Bool
is_no_memory reply.NoMemory = true
is_no_memory _ = false

-- the line for a reply to a store. A reply that a store of this kind never has says an error, here and below.
abbrev pub store_says : How → ShardReply → Said
store_says how reply.Stored = said.Stored
store_says how reply.TooLarge = said.TooLarge
store_says how reply.OutOfCas = said.OutOfCas
store_says Add reply.NotStored = said.NotStored
store_says Replace reply.NotStored = said.NotStored
store_says Append reply.NotStored = said.NotStored
store_says Prepend reply.NotStored = said.NotStored
store_says (Cas unique) reply.NotFound = said.NotFound
store_says (Cas unique) reply.Exists = said.Exists
store_says _ _ = said.Error

abbrev pub delete_says : ShardReply → Said
delete_says reply.Deleted = said.Deleted
delete_says reply.NotFound = said.NotFound
delete_says _ = said.Error

abbrev pub touch_says : ShardReply → Said
touch_says reply.Touched = said.Touched
touch_says reply.NotFound = said.NotFound
touch_says _ = said.Error

abbrev pub change_shows : ShardReply → Shown
change_shows (reply.Number n) = Number n
change_shows reply.NotFound = Line said.NotFound
change_shows reply.NonNumeric = Line said.NonNumeric
change_shows reply.OutOfCas = Line said.OutOfCas
change_shows _ = Line said.Error

abbrev pub flush_says : ShardReply → Said
flush_says reply.Flushed = said.Ok
flush_says _ = said.Error

abbrev pub stats_shows : ShardReply → Shown
stats_shows (reply.Counts held stored) = Stats held stored
stats_shows _ = Line said.Error

-- the items, none or one, that a reply to a get of a key shows; a reply that no get has shows no list of items
abbrev pub items_of : List ℕ → ShardReply → Option (List ShownItem)
items_of key (reply.Item flags cas value) = Some (record { key = key; flags = flags; cas = cas; value = value } ∷ [])
items_of key reply.Missing = Some []
items_of key _ = None

-- the items that the replies to a get's keys show, in the order of the keys
abbrev pub all_items_of : List (List ℕ) → List ShardReply → Option (List ShownItem)
all_items_of [] [] = Some []
all_items_of (key ∷ keys) (reply ∷ replies) =
    option_and_then (λ first. option_and_then (λ others. Some (first ++ others)) (all_items_of keys replies)) (items_of key reply)
all_items_of _ _ = None

abbrev pub get_shows : List (List ℕ) → Bool → List ShardReply → Shown
get_shows keys with_cas replies = option_map_or (λ items. Values items with_cas) (all_items_of keys replies) (Line said.Error)

-- what the only reply shows; another number of replies shows an error
abbrev pub only_reply : (ShardReply → Shown) → List ShardReply → Shown
only_reply shows (reply ∷ []) = shows reply
only_reply shows _ = Line said.Error

-- what replies show of which none is for want of memory
abbrev pub replies_show : Command → List ShardReply → Shown
replies_show (command.Store how key flags exptime value quiet) replies = only_reply (λ r. Line (store_says how r)) replies
replies_show (command.Get keys with_cas) replies = get_shows keys with_cas replies
replies_show (command.GetTouch exptime keys with_cas) replies = get_shows keys with_cas replies
replies_show (command.Delete key quiet) replies = only_reply (λ r. Line (delete_says r)) replies
replies_show (command.Change up key by quiet) replies = only_reply change_shows replies
replies_show (command.Touch key exptime quiet) replies = only_reply (λ r. Line (touch_says r)) replies
replies_show (command.FlushAll delay quiet) replies = only_reply (λ r. Line (flush_says r)) replies
replies_show command.Stats replies = only_reply stats_shows replies
replies_show command.Version replies = Line said.Version
replies_show (command.Verbosity quiet) replies = Line said.Ok
replies_show command.Quit replies = Nothing

-- whether a command was sent with `noreply`
abbrev pub is_quiet : Command → Bool
is_quiet (command.Store how key flags exptime value quiet) = quiet
is_quiet (command.Get keys with_cas) = false
is_quiet (command.GetTouch exptime keys with_cas) = false
is_quiet (command.Delete key quiet) = quiet
is_quiet (command.Change up key by quiet) = quiet
is_quiet (command.Touch key exptime quiet) = quiet
is_quiet (command.FlushAll delay quiet) = quiet
is_quiet command.Stats = false
is_quiet command.Version = false
is_quiet (command.Verbosity quiet) = quiet
is_quiet command.Quit = false

-- what a command shows that had these replies: nothing where it is quiet, and else where memory was wanting, that alone
abbrev pub shown_of : Command → List ShardReply → Shown
shown_of command replies =
    if is_quiet command then Nothing
    else if list_any is_no_memory replies then Line said.NoMemory
    else replies_show command replies

abbrev pub unless_quiet : Bool → Said → Shown
unless_quiet quiet line = if quiet then Nothing else Line line

-- what a fault shows
abbrev pub shown_of_fault : Fault → Shown
shown_of_fault fault.Unknown = Line said.Error
shown_of_fault fault.BadLine = Line said.BadLine
shown_of_fault fault.BadDelta = Line said.BadDelta
shown_of_fault fault.LineTooLong = Line said.LineTooLong
shown_of_fault (fault.BadChunk quiet) = unless_quiet quiet said.BadChunk
shown_of_fault (fault.TooLarge quiet) = unless_quiet quiet said.TooLarge

-- the commands among messages
abbrev pub commands_of : List Message → List Command
commands_of [] = []
commands_of (message.Command command ∷ messages) = command ∷ commands_of messages
commands_of (message.Fault fault ∷ messages) = commands_of messages

-- what messages show whose commands had these replies, one list for each command
abbrev pub shown_of_all : List Message → List (List ShardReply) → List Shown
shown_of_all [] replies = []
shown_of_all (message.Fault fault ∷ messages) replies = shown_of_fault fault ∷ shown_of_all messages replies
shown_of_all (message.Command command ∷ messages) [] = []
shown_of_all (message.Command command ∷ messages) (first ∷ replies) = shown_of command first ∷ shown_of_all messages replies
