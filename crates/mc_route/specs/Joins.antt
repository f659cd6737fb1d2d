-- Words of the contracts of small functions over replies.
use Rattle.std.specs.Prelude.{Bool, true, false, List, [], ◌∷◌, Option, Some, None}
use Rattle.mc_model.specs.declared.reply.ShardReply.{ShardReply}
use Rattle.mc_model.specs.declared.shown.Shown.{Shown}
use Rattle.mc_model.specs.declared.shown.Shown.TheVariants.{Nothing, Line}
use Rattle.mc_model.specs.Showing.{store_says, delete_says, touch_says, change_shows, flush_says, stats_shows, get_shows, only_reply}
use Rattle.mc_route.specs.declared.frame.Showing.{Showing}
use Rattle.mc_route.specs.declared.frame.Showing.TheVariants as showing
use Rattle.mc_route.specs.declared.frame.Operation.{Operation}
use Rattle.mc_route.specs.declared.frame.Operation.TheVariants.{Store, Delete, Change, Touch, FlushAll, Stats}

-- the only element of a list, where there is no other
abbrev pub only_of : {A : Type 0} → List A → Option A
only_of [] = None
only_of (x ∷ []) = Some x
only_of (x ∷ y ∷ xs) = None

-- a value, where a test says so
abbrev pub some_if : {A : Type 0} → Bool → A → Option A
some_if true x = Some x
some_if false x = None

-- what the reply to an operation shows
abbrev pub reply_shows : Operation → ShardReply → Shown
reply_shows (Store how) reply = Line (store_says how reply)
reply_shows Delete reply = Line (delete_says reply)
reply_shows Change reply = change_shows reply
reply_shows Touch reply = Line (touch_says reply)
reply_shows FlushAll reply = Line (flush_says reply)
reply_shows Stats reply = stats_shows reply

-- what replies show, where none of them is for want of memory
abbrev pub shows_by : Showing → List ShardReply → Shown
shows_by showing.Nothing replies = Nothing
shows_by (showing.Line said) replies = Line said
shows_by (showing.ReplyTo operation) replies = only_reply (reply_shows operation) replies
shows_by (showing.Values keys with_cas) replies = get_shows keys with_cas replies
