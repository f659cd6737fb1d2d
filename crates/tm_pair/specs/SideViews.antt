-- What the sides of a core stand for.
use Rattle.std.specs.Prelude.{ℕ, ◌-◌, List, length, map, drop}
use Rattle.std.specs.declared.option.Option.{Option}
use Rattle.std.specs.declared.option.Option.TheVariants.{None, Some}
use Rattle.tm_batch.specs.declared.message.Request.{Request}
use Rattle.tm_model.specs.Slots.{Empty, Asked, Taken, Answered}
use Rattle.tm_model.specs.Good.{FullBox, FullSlot, FullCore}
use Rattle.tm_pair.specs.Views.{BatchView, ClientView, TrusteeView}

module _ {V O R T : Type 0} where
  -- the batch that is out; one whose answers are back is the last of what was sent, as many requests as there are answers
  abbrev pub batch_out : FullBox V O R T → List (Request V O R T) → Option (BatchView V O R T)
  batch_out Empty sent = None
  batch_out (Asked b room) sent = Some (record { requests = b; room = room })
  batch_out (Taken b room) sent = Some (record { requests = b; room = room })
  batch_out (Answered a upto room) sent = Some (record { requests = drop (length sent - length a.answers.items) sent; room = room })

  -- the batch that the trustee has in hand
  abbrev pub hand_in : FullBox V O R T → Option (BatchView V O R T)
  hand_in (Taken b room) = Some (record { requests = b; room = room })
  hand_in Empty = None
  hand_in (Asked b room) = None
  hand_in (Answered a upto room) = None

  -- what the client's side of a slot stands for
  abbrev pub client_of : ℕ → FullSlot V O R T → ClientView V O R T
  client_of c slot =
      record { place = c; sent = slot.sent; got = slot.got; seen = slot.seen; out = batch_out slot.box slot.sent; looks = slot.client }

  -- what the trustee's side of a core stands for
  abbrev pub trustee_of : FullCore V O R T → TrusteeView V O R T
  trustee_of core =
      record { log = core.log; hands = map (λ slot. hand_in slot.box) core.slots; looks = map (λ slot. slot.trustee) core.slots }
