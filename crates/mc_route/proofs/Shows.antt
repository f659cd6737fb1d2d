-- What is shown of the replies to a command, by its frame.
use Rattle.std.proofs.Common.{◌≡◌, List, [], ◌∷◌, Some, None, refl, ap, sym}
use Rattle.mc_model.specs.declared.message.Command.{Command}
use Rattle.mc_model.specs.declared.message.Command.TheVariants as command
use Rattle.mc_model.specs.declared.reply.ShardReply.{ShardReply}
use Rattle.mc_model.specs.declared.shown.Said.TheVariants as said
use Rattle.mc_model.specs.declared.shown.Shown.{Shown}
use Rattle.mc_model.specs.declared.shown.Shown.TheVariants.{Line}
use Rattle.mc_model.specs.Showing.{only_reply, replies_show}
use Rattle.mc_route.specs.Plans.{showing_of}
use Rattle.mc_route.specs.Joins.{only_of, shows_by}

-- what the only reply shows
pub only_some : (shows : ShardReply → Shown) (replies : List ShardReply) (r : ShardReply) → only_of replies ≡ Some r → shows r ≡ only_reply shows replies
only_some shows [] r e = absurd cc
only_some shows (x ∷ []) r e = let same : x ≡ r = cc in ap shows (sym same)
only_some shows (x ∷ y ∷ replies) r e = absurd cc

-- that there is not one
pub only_none : (shows : ShardReply → Shown) (replies : List ShardReply) → only_of replies ≡ None → Line said.Error ≡ only_reply shows replies
only_none shows [] e = refl
only_none shows (x ∷ []) e = absurd cc
only_none shows (x ∷ y ∷ replies) e = refl

-- a command's replies are shown by what was kept of it
pub shows_as : (c : Command) (replies : List ShardReply) → shows_by (showing_of c) replies ≡ replies_show c replies
shows_as (command.Store how key flags exptime value quiet) replies = refl
shows_as (command.Get keys with_cas) replies = refl
shows_as (command.GetTouch exptime keys with_cas) replies = refl
shows_as (command.Delete key quiet) replies = refl
shows_as (command.Change up key by quiet) replies = refl
shows_as (command.Touch key exptime quiet) replies = refl
shows_as (command.FlushAll delay quiet) replies = refl
shows_as command.Stats replies = refl
shows_as command.Version replies = refl
shows_as (command.Verbosity quiet) replies = refl
shows_as command.Quit replies = refl
