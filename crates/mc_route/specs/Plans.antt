-- What is asked for a command, and what is kept of it to show the replies.
use Rattle.std.specs.Prelude.{ℕ, ℤ, List, map, Option, Some, None}
use Rattle.mc_item.specs.Classes.{class_of}
use Rattle.mc_model.specs.declared.message.Command.{Command}
use Rattle.mc_model.specs.declared.message.Command.TheVariants as command
use Rattle.mc_model.specs.declared.shown.Said.TheVariants as said
use Rattle.mc_model.specs.Rows.{KeyOp, Store, Get, GetTouch, Change, Touch, Delete}
use Rattle.mc_model.specs.Plain.{Part, parts_of}
use Rattle.mc_model.specs.Showing.{is_quiet}
use Rattle.mc_shard.specs.declared.op.ShardOp.{ShardOp}
use Rattle.mc_shard.specs.declared.op.ShardOp.TheVariants as op
use Rattle.mc_route.specs.declared.desk.DeskWork.TheVariants as work
use Rattle.mc_route.specs.declared.parts.ShardPart.{ShardPart}
use Rattle.mc_route.specs.declared.planning.Ask.{Ask}
use Rattle.mc_route.specs.declared.planning.Ask.TheVariants.{Nobody, Shards, Desk}
use Rattle.mc_route.specs.declared.frame.Showing.{Showing}
use Rattle.mc_route.specs.declared.frame.Showing.TheVariants.{Nothing, Line, ReplyTo, Values}
use Rattle.mc_route.specs.declared.frame.Operation.TheVariants as operation
use Rattle.mc_route.specs.declared.frame.Frame.{Frame}
use Rattle.mc_route.specs.Desks.{first_task}

-- an operation on a key at a moment, as a class is asked it
abbrev pub shard_op : List ℕ → KeyOp → ℕ → ShardOp
shard_op key (Store how flags exptime value) moment = op.Store how key flags exptime value moment
shard_op key Get moment = op.Get key moment
shard_op key (GetTouch exptime) moment = op.GetTouch key exptime moment
shard_op key (Change up by) moment = op.Change up key by moment
shard_op key (Touch exptime) moment = op.Touch key exptime moment
shard_op key Delete moment = op.Delete key moment

-- what is asked of each key of a `get`, or of a `gat` with this exptime
abbrev pub asked_of : Option ℤ → KeyOp
asked_of None = Get
asked_of (Some exptime) = GetTouch exptime

-- a part of a command at a moment: the key's class is asked
abbrev pub shard_part : ℕ → Part → ShardPart
shard_part moment part = record { class = class_of part.0; op = shard_op part.0 part.1 moment }

-- what is asked for a command at a moment: its parts, in order, or a launch on the desk
abbrev pub ask_of : Command → ℕ → ℕ → Ask
ask_of (command.FlushAll delay quiet) moment trustees = Desk (first_task (work.Flush delay moment) trustees)
ask_of command.Stats moment trustees = Desk (first_task (work.Count moment) trustees)
ask_of command.Version moment trustees = Nobody
ask_of (command.Verbosity quiet) moment trustees = Nobody
ask_of command.Quit moment trustees = Nobody
ask_of command moment trustees = Shards (map (shard_part moment) (parts_of command))

-- what is shown of the replies to a command, unless it is quiet
abbrev pub showing_of : Command → Showing
showing_of (command.Store how key flags exptime value quiet) = ReplyTo (operation.Store how)
showing_of (command.Get keys with_cas) = Values keys with_cas
showing_of (command.GetTouch exptime keys with_cas) = Values keys with_cas
showing_of (command.Delete key quiet) = ReplyTo operation.Delete
showing_of (command.Change up key by quiet) = ReplyTo operation.Change
showing_of (command.Touch key exptime quiet) = ReplyTo operation.Touch
showing_of (command.FlushAll delay quiet) = ReplyTo operation.FlushAll
showing_of command.Stats = ReplyTo operation.Stats
showing_of command.Version = Line said.Version
showing_of (command.Verbosity quiet) = Line said.Ok
showing_of command.Quit = Nothing

-- what is kept of a command until its replies are there
abbrev pub frame_of : Command → Frame
frame_of command = record { quiet = is_quiet command; showing = showing_of command }
