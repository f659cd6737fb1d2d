-- Small logs of counters, worked by hand: what is asked of a greater trustee, what is told, and when the two are tied.
use Rattle.std.proofs.Common.{◌≡◌, ℕ, List, [], ◌∷◌, ◌++◌, map, refl, inl, inr, lit<, lit≤}
use Rattle.tm_seq.specs.Counting.{counter_kind}
use Rattle.tm_seq.specs.declared.kind.Event.TheVariants.{Begin, Reply, NotAbove, NoObject}
use Rattle.tm_seq.specs.declared.kind.Next.TheVariants.{Ask, Done}
use Rattle.tm_seq.specs.declared.counter.Counter.{Counter}
use Rattle.tm_seq.specs.declared.counter.CounterOp.{CounterOp}
use Rattle.tm_seq.specs.declared.counter.CounterOp.TheVariants.{Read}
use Rattle.tm_seq.specs.declared.counter.CounterReply.{CounterReply}
use Rattle.tm_seq.specs.declared.counter.CounterReply.TheVariants.{Is, Refused, NoMemory}
use Rattle.tm_seq.specs.declared.counter.CounterTask.{CounterTask}
use Rattle.tm_seq.specs.declared.counter.CounterTask.TheVariants.{AskAt, Wait}
use Rattle.tm_batch.specs.declared.message.Name.{Name}
use Rattle.tm_batch.specs.declared.config.Config.{Config}
use Rattle.tm_batch.specs.declared.message.Request.TheVariants.{Apply, Launch, Bye}
use Rattle.tm_batch.specs.declared.message.Answer.TheVariants.{Replied, Launched, ByeDone}
use Rattle.tm_model.specs.declared.entry.Entry.{Entry}
use Rattle.tm_model.specs.declared.entry.Entry.TheVariants.{By, Resume, Sent}
use Rattle.tm_model.specs.State.{State, place_of}
use Rattle.tm_model.specs.Opening.{opening_of}
use Rattle.tm_model.specs.Serve.{state_after}
use Rattle.tm_model.specs.Legal.{IsLegal}
use Rattle.tm_pair.specs.Views.{ClientView, no_looks}
use Rattle.std.specs.declared.option.Option.TheVariants.{None}
use Rattle.tm_trustee.specs.NestedAsks.{NestedAsk, ToldReply, asks_of, replies_of, pending_of, IsTied}

abbrev Log : Type 0
Log = List (Entry Counter CounterOp CounterReply CounterTask)

abbrev View : Type 0
View = ClientView Counter CounterOp CounterReply CounterTask

abbrev named : ℕ → Name
named id = record { id = id; place = 0 }

-- one client and three trustees: trustee 1 has two counters of the client, and trustee 2 one of 7 that trustee 1 holds
abbrev config : Config
config = record { clients = 1; trustees = 3; objects = 4; trusts = 4; last_id = 9 }

abbrev opening : State Counter CounterOp CounterReply CounterTask
opening = opening_of 1 config
    (record { trustee = 2; value = record { value = 7 }; holders = 2 ∷ [] } ∷ record { trustee = 1; value = record { value = 1 }; holders = 0 ∷ [] }
    ∷ record { trustee = 1; value = record { value = 2 }; holders = 0 ∷ [] } ∷ [])

abbrev asks : Log → List (NestedAsk CounterOp)
asks log = asks_of opening.setup 2 log

abbrev replies : Log → List (ToldReply CounterReply)
replies log = replies_of counter_kind opening 2 log

-- three launches on one object: of its own trustee, of the object that it holds above, and of one that it does not hold
abbrev three : Log
three =
    By 0 0 (Launch (named 1) (AskAt 1 0)) (Launched 1) ∷ By 0 1 (Launch (named 1) (AskAt 2 0)) (Launched 2)
    ∷ By 0 2 (Launch (named 1) (AskAt 2 1)) (Launched 3) ∷ Sent 0 0 ∷ Resume 1 1 Begin (Ask 1 0 Read Wait) ∷ Resume 1 1 NotAbove (Done Refused)
    ∷ Resume 1 2 Begin (Ask 2 0 Read Wait) ∷ []

abbrev told : Log
told = three ++ Resume 1 2 (Reply (Is 7)) (Done (Is 7)) ∷ Resume 1 3 Begin (Ask 2 1 Read Wait) ∷ Resume 1 3 NoObject (Done Refused) ∷ []

told-legal : IsLegal counter_kind opening told
told-legal = (
  (lit< tt, refl, (lit≤ tt, (refl, lit≤ tt))),
  (
    (lit< tt, refl, (lit≤ tt, (refl, lit≤ tt))),
    (
      (lit< tt, refl, (lit≤ tt, (refl, lit≤ tt))),
      (
        (lit< tt, lit≤ tt),
        (
          (refl, tt, inl refl),
          (
            (refl, lit≤ tt, inl refl),
            (
              (refl, tt, inl refl),
              ((refl, (lit< tt, lit< tt), inl refl), ((refl, tt, inl refl), ((refl, (lit< tt, lit≤ tt), inl refl), tt))),
            ),
          ),
        ),
      ),
    ),
  ),
)

-- one ask alone is of an object that is held, and it is pending until its reply is told
abbrev the_ask : NestedAsk CounterOp
the_ask = record { by = 1; ticket = 2; id = 1; op = Read }

three-asks : asks three ≡ the_ask ∷ []
three-asks = refl

three-pending : pending_of counter_kind opening 2 three ≡ the_ask ∷ []
three-pending = refl

told-asks : asks told ≡ the_ask ∷ []
told-asks = refl

told-replies : replies told ≡ record { ticket = 2; reply = Is 7 } ∷ []
told-replies = refl

told-pending : pending_of counter_kind opening 2 told ≡ []
told-pending = refl

told-ready : map {B = ℕ × CounterReply} (λ r. (r.ticket, r.reply)) (place_of (state_after counter_kind opening told) 0).ready ≡ (1, Refused) ∷ (2, Is 7) ∷ (3, Refused) ∷ []
told-ready = refl

-- nothing is asked of the own trustee, nor of one that is not there
told-own : asks_of opening.setup 1 told ≡ []
told-own = refl

told-none : asks_of opening.setup 9 told ≡ []
told-none = refl

-- the side of the greater trustee, which sent that ask and saw its answer
abbrev seen : View
seen = record {
  place = 2;
  sent = Apply (named 1) Read ∷ [];
  got = [];
  seen = By 2 0 (Apply (named 1) Read) (Replied (Is 7)) ∷ Sent 2 0 ∷ [];
  out = None;
  looks = no_looks;
}

told-tied : IsTied counter_kind opening told 2 seen
told-tied = record { only = (tt, tt); sent = inl (refl, ([], refl)); tickets = ([], refl); replies = ([], refl) }

-- so it is before the answer is told, and before it came
three-tied : IsTied counter_kind opening three 2 seen
three-tied = record { only = (tt, tt); sent = inl (refl, ([], refl)); tickets = (2 ∷ [], refl); replies = (Replied (Is 7) ∷ [], refl) }

-- and after a Bye, once all was sent
ended-tied : IsTied counter_kind opening told 2
    (record seen { sent = Apply (named 1) Read ∷ Bye ∷ []; seen = seen.seen ++ By 2 1 Bye ByeDone ∷ Sent 2 0 ∷ [] })
ended-tied = record { only = (tt, (tt, tt)); sent = inr (Apply (named 1) Read ∷ [], refl, refl, refl); tickets = ([], refl); replies = (ByeDone ∷ [], refl) }

-- a reply that was resumed as an end for want of memory is told all the same
abbrev lacking : Log
lacking = three ++ Resume 1 2 (Reply (Is 7)) (Done NoMemory) ∷ []

lacking-replies : replies lacking ≡ record { ticket = 2; reply = Is 7 } ∷ []
lacking-replies = refl

lacking-pending : pending_of counter_kind opening 2 lacking ≡ []
lacking-pending = refl

-- two objects ask beside each other
abbrev crossing : Log
crossing =
    By 0 0 (Launch (named 1) (AskAt 2 0)) (Launched 1) ∷ By 0 1 (Launch (named 2) (AskAt 2 0)) (Launched 2) ∷ Sent 0 0
    ∷ Resume 1 1 Begin (Ask 2 0 Read Wait) ∷ Resume 2 2 Begin (Ask 2 0 Read Wait) ∷ []

-- where the first reply is told to the second ticket, the log is legal and not tied
abbrev crossed : Log
crossed = crossing ++ Resume 2 2 (Reply (Is 7)) (Done (Is 7)) ∷ []

crossed-legal : IsLegal counter_kind opening crossed
crossed-legal = (
  (lit< tt, refl, (lit≤ tt, (refl, lit≤ tt))),
  (
    (lit< tt, refl, (lit≤ tt, (refl, lit≤ tt))),
    ((lit< tt, lit≤ tt), ((refl, tt, inl refl), ((refl, tt, inl refl), ((refl, (lit< tt, lit< tt), inl refl), tt)))),
  ),
)

crossed-untied : (up : View) → ¬ IsTied counter_kind opening crossed 2 up
crossed-untied up tied = let (rest, e) = tied.tickets in absurd cc
