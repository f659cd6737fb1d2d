-- Where a client ends its stream: at its first `quit`.
use Rattle.std.specs.Prelude.{Bool, true, false, if◌then◌else◌, List, [], ◌∷◌}
use Rattle.std.specs.List.{list_any}
use Rattle.mc_model.specs.declared.message.Command.{Command}
use Rattle.mc_model.specs.declared.message.Command.TheVariants as command
use Rattle.mc_model.specs.declared.message.Message.{Message}
use Rattle.mc_model.specs.declared.message.Message.TheVariants as message

abbrev pub is_quit_command : Command → Bool
is_quit_command (command.Store how key flags exptime value quiet) = false
is_quit_command (command.Get keys with_cas) = false
is_quit_command (command.GetTouch exptime keys with_cas) = false
is_quit_command (command.Delete key quiet) = false
is_quit_command (command.Change up key by quiet) = false
is_quit_command (command.Touch key exptime quiet) = false
is_quit_command (command.FlushAll delay quiet) = false
is_quit_command command.Stats = false
is_quit_command command.Version = false
is_quit_command (command.Verbosity quiet) = false
is_quit_command command.Quit = true

abbrev pub is_quit : Message → Bool
is_quit (message.Command c) = is_quit_command c
is_quit (message.Fault fault) = false

-- whether there is a `quit` among the messages
abbrev pub has_quit : List Message → Bool
has_quit messages = list_any is_quit messages

-- the messages up to the first `quit`, which is the last of them then
abbrev pub until_quit : List Message → List Message
until_quit [] = []
until_quit (m ∷ messages) = m ∷ (if is_quit m then [] else until_quit messages)
