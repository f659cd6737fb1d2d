-- Small logs of counters, worked by hand: what is legal, and the state and the answer batches that they leave.
use Rattle.std.proofs.Common.{◌≡◌, ℕ, ◌<◌, ◌≤◌, true, List, [], ◌∷◌, ◌++◌, map, refl, ap, arith, inl, inr, lit<, lit≤}
use Rattle.tm_seq.specs.Counting.{counter_kind}
use Rattle.tm_seq.specs.declared.kind.Event.TheVariants.{Begin, Reply, NotAbove, NoObject}
use Rattle.tm_seq.specs.declared.kind.Next.TheVariants.{Ask, Done}
use Rattle.tm_seq.specs.declared.counter.Counter.{Counter}
use Rattle.tm_seq.specs.declared.counter.CounterOp.{CounterOp}
use Rattle.tm_seq.specs.declared.counter.CounterOp.TheVariants.{Add, Read}
use Rattle.tm_seq.specs.declared.counter.CounterReply.{CounterReply}
use Rattle.tm_seq.specs.declared.counter.CounterReply.TheVariants.{Is, Refused, NoMemory}
use Rattle.tm_seq.specs.declared.counter.CounterTask.{CounterTask}
use Rattle.tm_seq.specs.declared.counter.CounterTask.TheVariants.{End, AskAt, Wait}
use Rattle.tm_batch.specs.declared.message.Name.{Name}
use Rattle.tm_batch.specs.declared.config.Config.{Config}
use Rattle.tm_batch.specs.declared.message.Refusal.TheVariants.{ObjectsFull, SerialsSpent}
use Rattle.tm_batch.specs.declared.message.Request.{Request}
use Rattle.tm_batch.specs.declared.message.Request.TheVariants.{Entrust, Apply, Launch, Grant, Release, Reclaim, Bye}
use Rattle.tm_batch.specs.declared.message.AnswerBatch.{AnswerBatch}
use Rattle.tm_batch.specs.declared.message.Answer.TheVariants.{Entrusted, NotEntrusted, Replied, Launched, TicketsSpent, Granted, Gone, Released, Reclaimed, Shared, ByeDone}
use Rattle.tm_model.specs.declared.entry.Entry.{Entry}
use Rattle.tm_model.specs.declared.entry.Entry.TheVariants.{By, Resume, Sent}
use Rattle.tm_model.specs.State.{State, place_of, total, ids_above}
use Rattle.tm_model.specs.Opening.{opening_of}
use Rattle.tm_model.specs.Serve.{state_after}
use Rattle.tm_model.specs.Legal.{MayCome, IsLegal}
use Rattle.tm_model.specs.Batches.{batches}
use Rattle.tm_model.specs.Given.{ids_given, tickets_given, ended_for}
use Rattle.tm_model.specs.History.{history_of, lived}
use Rattle.tm_model.specs.Slots.{Answered, no_slot, publish, see}
use Rattle.tm_model.specs.Holds.{held}
use Rattle.tm_model.specs.Orderly.{IsOrderly}
use Rattle.tm_model.specs.Good.{FullBox, FullSlot, FullCore, got_with, IsGood}
use Rattle.tm_model.specs.Answering.{MayAnswerWith}
use Rattle.tm_model.specs.Laws.{first_of}

abbrev pub Log : Type 0
Log = List (Entry Counter CounterOp CounterReply CounterTask)

abbrev pub counter : ℕ → Counter
counter n = record { value = n }

abbrev pub named : ℕ → Name
named id = record { id = id; place = 0 }

-- two clients and two trustees, and a counter of 5 on trustee 0 that client 0 holds
abbrev pub config : Config
config = record { clients = 2; trustees = 2; objects = 4; trusts = 4; last_id = 9 }

abbrev pub opening : State Counter CounterOp CounterReply CounterTask
opening = opening_of 0 config (record { trustee = 0; value = counter 5; holders = 0 ∷ [] } ∷ [])

abbrev after_log : Log → State Counter CounterOp CounterReply CounterTask
after_log log = state_after counter_kind opening log

-- client 0 launches, and gives its only hold up
abbrev launched : Log
launched = By 0 0 (Launch (named 1) End) (Launched 1) ∷ By 0 1 (Release (named 1)) Released ∷ []

launched-legal : IsLegal counter_kind opening launched
launched-legal = ((lit< tt, refl, (lit≤ tt, (refl, lit≤ tt))), ((lit< tt, refl, (lit≤ tt, refl)), tt))

-- the launch keeps the object
launched-total : map total (after_log launched).live ≡ 1 ∷ []
launched-total = refl

abbrev ended : Log
ended = launched ++ Resume 1 1 Begin (Done (Is 5)) ∷ []

ended-legal : IsLegal counter_kind opening ended
ended-legal = (launched-legal.0, (launched-legal.1.0, ((refl, tt, inl refl), tt)))

-- with its end the object goes, and the completion is ready
ended-live : (after_log ended).live ≡ []
ended-live = refl

ended-ready : (place_of (after_log ended) 0).ready ≡ record { ticket = 1; reply = Is 5 } ∷ []
ended-ready = refl

-- a place that holds nothing may not release, and not reclaim
release_unheld : ¬ MayCome counter_kind (after_log launched) (By 1 0 (Release (named 1)) Released)
release_unheld h = omega (arith, h.2.0)

reclaim_unheld : ¬ MayCome counter_kind (after_log launched) (By 1 0 (Reclaim (named 1)) Shared)
reclaim_unheld h = omega (arith, h.2.0)

-- a gift that waits goes with a Bye, and the last hold with it
abbrev gone : Log
gone = By 0 0 (Grant (named 1) 1) Granted ∷ By 0 1 (Release (named 1)) Released ∷ By 1 0 Bye ByeDone ∷ []

gone-legal : IsLegal counter_kind opening gone
gone-legal = (
  (lit< tt, refl, (lit≤ tt, lit< tt, (refl, elim [ inl h ↦ omega (arith, h) | inr h ↦ omega (arith, h) ]))),
  ((lit< tt, refl, (lit≤ tt, refl)), ((lit< tt, refl, refl), tt)),
)

gone-live : (after_log gone).live ≡ []
gone-live = refl

gone-place : place_of (after_log gone) 1 ≡ record { served = 1; is_closed = true; gifts = []; ready = [] }
gone-place = refl

-- a grant to a closed place is Gone, and ids do not come back
abbrev again : Log
again = By 0 2 (Entrust (counter 8)) (Entrusted (named 2)) ∷ By 0 3 (Grant (named 2) 1) Gone ∷ []

again-legal : IsLegal counter_kind (after_log gone) again
again-legal = ((lit< tt, refl, (refl, lit< tt, lit≤ tt)), ((lit< tt, refl, (lit≤ tt, lit< tt, refl)), tt))

-- a grant is to a client
grant_to_no_client : ¬ MayCome counter_kind opening (By 0 0 (Grant (named 1) 7) Granted)
grant_to_no_client h = omega (arith, h.2.1)

-- a gift is the name that was granted, whatever its place
grant_keeps_name :
    (place_of (after_log (By 0 0 (Grant (record { id = 1; place = 9 }) 1) Granted ∷ [])) 1).gifts ≡ record { id = 1; place = 9 } ∷ []
grant_keeps_name = refl

grant_of_name : MayCome counter_kind opening (By 0 0 (Grant (record { id = 1; place = 9 }) 1) Granted)
grant_of_name = (lit< tt, refl, (lit≤ tt, lit< tt, (refl, elim [ inl h ↦ omega (arith, h) | inr h ↦ omega (arith, h) ])))

-- one object, one id and one ticket
abbrev scarce : State Counter CounterOp CounterReply CounterTask
scarce = opening_of 0 (record { clients = 2; trustees = 2; objects = 1; trusts = 4; last_id = 1 })
    (record { trustee = 0; value = counter 5; holders = 0 ∷ [] } ∷ [])

abbrev spending : Log
spending =
    By 0 0 (Launch (named 1) End) (Launched 1) ∷ By 0 1 (Launch (named 1) Wait) (TicketsSpent Wait)
    ∷ Resume 1 1 Begin (Done (Is 5)) ∷ By 0 2 (Launch (named 1) End) (TicketsSpent End)
    ∷ By 0 3 (Entrust (counter 1)) (NotEntrusted ObjectsFull (counter 1)) ∷ By 0 4 (Release (named 1)) Released
    ∷ By 0 5 (Entrust (counter 2)) (NotEntrusted SerialsSpent (counter 2)) ∷ []

spending-legal : IsLegal counter_kind scarce spending
spending-legal = (
  (lit< tt, refl, (lit≤ tt, (refl, lit≤ tt))),
  (
    (lit< tt, refl, (lit≤ tt, (refl, lit< tt))),
    (
      (refl, tt, inl refl),
      (
        (lit< tt, refl, (lit≤ tt, (refl, lit< tt))),
        ((lit< tt, refl, (refl, lit≤ tt)), ((lit< tt, refl, (lit≤ tt, refl)), ((lit< tt, refl, (refl, lit< tt, lit< tt)), tt))),
      ),
    ),
  ),
)

-- a task that asks no greater trustee is told so, and nothing else
abbrev asking : Log
asking =
    By 0 0 (Launch (named 1) (AskAt 0 7)) (Launched 1) ∷ Resume 1 1 Begin (Ask 0 7 Read Wait) ∷ []

told_not_above : MayCome counter_kind (after_log asking) (Resume 1 1 NotAbove (Done Refused))
told_not_above = (refl, lit≤ tt, inl refl)

told_no_object : ¬ MayCome counter_kind (after_log asking) (Resume 1 1 NoObject (Done Refused))
told_no_object h = omega (arith, h.1.0)

told_reply : ¬ MayCome counter_kind (after_log asking) (Resume 1 1 (Reply (Is 3)) (Done (Is 3)))
told_reply h = omega (arith, h.1.0)

-- trustee 0 holds one object at trustee 1, whose first holder is client 1
abbrev above : State Counter CounterOp CounterReply CounterTask
above = opening_of 0 config
    (record { trustee = 1; value = counter 3; holders = 1 ∷ [] } ∷ record { trustee = 0; value = counter 5; holders = 0 ∷ [] }
    ∷ record { trustee = 1; value = counter 7; holders = 1 ∷ 2 ∷ [] } ∷ [])

ids_above-1 : map (ids_above above.setup) (0 ∷ 1 ∷ 9 ∷ []) ≡ [] ∷ (2 ∷ []) ∷ [] ∷ []
ids_above-1 = refl

abbrev asked : ℕ → ℕ → State Counter CounterOp CounterReply CounterTask
asked u i = state_after counter_kind above (By 0 0 (Launch (named 1) (AskAt u i)) (Launched 1) ∷ Resume 1 1 Begin (Ask u i Read Wait) ∷ [])

held-reply : MayCome counter_kind (asked 1 0) (Resume 1 1 (Reply (Is 7)) (Done (Is 7)))
held-reply = (refl, (lit< tt, lit< tt), inl refl)

held-no_object : ¬ MayCome counter_kind (asked 1 0) (Resume 1 1 NoObject (Done Refused))
held-no_object h = omega (arith, h.1.1)

unheld-no_object : MayCome counter_kind (asked 1 1) (Resume 1 1 NoObject (Done Refused))
unheld-no_object = (refl, (lit< tt, lit≤ tt), inl refl)

unheld-reply : ¬ MayCome counter_kind (asked 1 1) (Resume 1 1 (Reply (Is 7)) (Done (Is 7)))
unheld-reply h = omega (arith, h.1.1)

unknown-no_object : MayCome counter_kind (asked 9 0) (Resume 1 1 NoObject (Done Refused))
unknown-no_object = (refl, (lit< tt, lit≤ tt), inl refl)

unknown-reply : ¬ MayCome counter_kind (asked 9 0) (Resume 1 1 (Reply (Is 7)) (Done (Is 7)))
unknown-reply h = omega (arith, h.1.1)

-- an end for want of memory leaves the value
lacking : MayCome counter_kind (asked 1 0) (Resume 1 1 (Reply (Is 7)) (Done NoMemory))
lacking = (refl, (lit< tt, lit< tt), inr (refl, refl))

lacking_add : IsLegal counter_kind opening (By 0 0 (Apply (named 1) (Add 2)) (Replied NoMemory) ∷ By 0 1 (Apply (named 1) Read) (Replied (Is 5)) ∷ [])
lacking_add = ((lit< tt, refl, (lit≤ tt, inr (refl, refl))), ((lit< tt, refl, (lit≤ tt, inl refl)), tt))

abbrev lacked : State Counter CounterOp CounterReply CounterTask
lacked = state_after counter_kind (asked 1 0) (Resume 1 1 (Reply (Is 7)) (Done NoMemory) ∷ [])

lacked-value : map (λ o. o.value) lacked.live ≡ counter 5 ∷ []
lacked-value = refl

lacked-ready : (place_of lacked 0).ready ≡ record { ticket = 1; reply = NoMemory } ∷ []
lacked-ready = refl

same_number : (n m : ℕ) → Is n ≡ Is m → n ≡ m
same_number n m e = cc

not_lacking : (n : ℕ) → Is n ≡ NoMemory → ⊥
not_lacking n e = cc

lacking_read :
    (n : ℕ)
    → MayCome counter_kind (after_log (By 0 0 (Apply (named 1) (Add 2)) (Replied NoMemory) ∷ [])) (By 0 1 (Apply (named 1) Read) (Replied (Is n)))
    → n ≡ 5
lacking_read n h = elim h.2.1 [
  | inl e ↦ same_number n 5 (ap (λ (p : Counter × CounterReply). p.1) e)
  | inr e ↦ absurd (not_lacking n e.1)
]

-- fronts are lengths of the log
abbrev two_batches : Log
two_batches =
    By 0 0 (Launch (named 1) End) (Launched 1) ∷ Sent 0 0 ∷ Resume 1 1 Begin (Done (Is 5)) ∷ By 1 0 Bye ByeDone ∷ Sent 1 3 ∷ []

fronts-0 : map (λ a. a.front) (batches counter_kind opening 0 two_batches) ≡ 2 ∷ []
fronts-0 = refl

fronts-1 : map (λ a. a.front) (batches counter_kind opening 1 two_batches) ≡ 5 ∷ []
fronts-1 = refl

-- two objects go on beside each other, and completions are ready in the order of the ends
abbrev pub pair : State Counter CounterOp CounterReply CounterTask
pair = opening_of 0 config
    (record { trustee = 0; value = counter 5; holders = 0 ∷ 1 ∷ [] } ∷ record { trustee = 0; value = counter 6; holders = 0 ∷ [] } ∷ [])

abbrev crossing : Log
crossing =
    By 0 0 (Launch (named 1) (AskAt 0 7)) (Launched 1) ∷ By 0 1 (Launch (named 2) End) (Launched 2) ∷ Resume 1 1 Begin (Ask 0 7 Read Wait)
    ∷ Resume 2 2 Begin (Done (Is 6)) ∷ Resume 1 1 NotAbove (Done Refused) ∷ []

crossing-legal : IsLegal counter_kind pair crossing
crossing-legal = (
  (lit< tt, refl, (lit≤ tt, (refl, lit≤ tt))),
  (
    (lit< tt, refl, (lit≤ tt, (refl, lit≤ tt))),
    ((refl, tt, inl refl), ((refl, tt, inl refl), ((refl, lit≤ tt, inl refl), tt))),
  ),
)

crossing-ready : map (λ r. r.ticket) (place_of (state_after counter_kind pair crossing) 0).ready ≡ 2 ∷ 1 ∷ []
crossing-ready = refl

crossing-tickets : tickets_given crossing ≡ 1 ∷ 2 ∷ []
crossing-tickets = refl

-- both launches are of client 0, and end in that order
crossing-ended : map (λ r. r.ticket) (ended_for 0 crossing) ≡ 2 ∷ 1 ∷ []
crossing-ended = refl

crossing-ended_other : ended_for 1 crossing ≡ []
crossing-ended_other = refl

-- a refused launch gives no ticket out, and a refused value no id
spending-tickets : tickets_given spending ≡ 1 ∷ []
spending-tickets = refl

spending-ids : ids_given spending ≡ []
spending-ids = refl

again-ids : ids_given again ≡ 2 ∷ []
again-ids = refl

-- a reclaim that is refused brings its own hold back, and no other
abbrev pub Requests : Type 0
Requests = List (Request Counter CounterOp CounterReply CounterTask)

abbrev two_reclaims : Requests
two_reclaims = Reclaim (named 1) ∷ Reclaim (named 2) ∷ []

abbrev one_shared : AnswerBatch Counter CounterOp CounterReply CounterTask
one_shared = record {
  front = 3;
  answers = record { items = Shared ∷ Reclaimed (counter 6) ∷ [] };
  gifts = record { items = [] };
  completions = record { items = [] };
}

held-before : map (held pair 0 two_reclaims []) (1 ∷ 2 ∷ []) ≡ 0 ∷ 0 ∷ []
held-before = refl

held-after : map (held pair 0 two_reclaims (one_shared ∷ [])) (1 ∷ 2 ∷ []) ≡ 1 ∷ 0 ∷ []
held-after = refl

-- the answers stand in the box before they are collected
abbrev boxed : FullBox Counter CounterOp CounterReply CounterTask
boxed = Answered one_shared [] 0

held-in_box : map (held pair 0 two_reclaims (got_with boxed [])) (1 ∷ 2 ∷ []) ≡ 1 ∷ 0 ∷ []
held-in_box = refl

two_reclaims-legal : IsLegal counter_kind pair (By 0 0 (Reclaim (named 1)) Shared ∷ By 0 1 (Reclaim (named 2)) (Reclaimed (counter 6)) ∷ [])
two_reclaims-legal = (
  (lit< tt, refl, (lit≤ tt, λ e. let one : 2 ≡ 1 = e in omega (arith, one))),
  ((lit< tt, refl, (lit≤ tt, (refl, refl))), tt),
)

-- a hold that is given away may not be named again, though a gift waits
abbrev over : Requests
over = Grant (named 1) 0 ∷ Release (named 1) ∷ Reclaim (named 1) ∷ []

over-disorderly : ¬ IsOrderly opening 0 [] [] over
over-disorderly o =
    let h : 1 < 1 = o.held (Grant (named 1) 0 ∷ Release (named 1) ∷ []) [] (Reclaim (named 1)) 1 refl refl in
    omega (arith, h)

-- a grant to oneself, a launch and a release may be answered so, and the gift leaves with the answers
abbrev to_oneself : Requests
to_oneself = Grant (named 1) 0 ∷ Launch (named 1) End ∷ Release (named 1) ∷ []

abbrev from_oneself : AnswerBatch Counter CounterOp CounterReply CounterTask
from_oneself = record {
  front = 4;
  answers = record { items = Granted ∷ Launched 1 ∷ Released ∷ [] };
  gifts = record { items = named 1 ∷ [] };
  completions = record { items = [] };
}

to_oneself-answered : MayAnswerWith counter_kind opening (see 0 (publish 0 to_oneself 16 (first_of opening))) 0 to_oneself 16 [] from_oneself
to_oneself-answered = record {
  in_range = lit< tt;
  is_taken = refl;
  grows = record {
    only = tt;
    as_many = refl;
    is_legal = (
      (lit< tt, refl, (lit≤ tt, lit< tt, (refl, λ full. elim full [ inl gifts ↦ omega arith | inr holds ↦ omega arith ]))),
      ((lit< tt, refl, (lit≤ tt, (refl, lit≤ tt))), ((lit< tt, refl, (lit≤ tt, refl)), ((lit< tt, lit≤ tt), tt))),
    );
    last = ([], refl);
  };
}

-- a seen log of more than the place got is not good
abbrev Cores : Type 0
Cores = FullCore Counter CounterOp CounterReply CounterTask

abbrev slot_with : Requests → List (AnswerBatch Counter CounterOp CounterReply CounterTask) → Log → ℕ → FullSlot Counter CounterOp CounterReply CounterTask
slot_with sent got seen floor = record no_slot { sent = sent; got = got; seen = seen; floor = floor }

abbrev seen_too_much : Cores
seen_too_much =
    let log : Log = By 1 0 Bye ByeDone ∷ Sent 1 0 ∷ [] in
    record { log = log; slots = slot_with [] [] log 0 ∷ slot_with (Bye ∷ []) (batches counter_kind opening 1 log) log 0 ∷ [] }

seen_too_much-bad : ¬ IsGood counter_kind opening seen_too_much
seen_too_much-bad good =
    let seen : By 1 0 Bye ByeDone ∷ Sent 1 0 ∷ [] ≡ [] = (good.slots.slots 0 (lit< tt)).seen.cut in
    cc

-- a floor behind the last batch is not good
abbrev twice : Log
twice = By 0 0 (Apply (named 1) Read) (Replied (Is 5)) ∷ Sent 0 0 ∷ By 0 1 (Apply (named 1) Read) (Replied (Is 5)) ∷ Sent 0 0 ∷ []

abbrev floor_too_high : Cores
floor_too_high = record {
  log = twice;
  slots = slot_with (Apply (named 1) Read ∷ Apply (named 1) Read ∷ []) (batches counter_kind opening 0 twice) twice 4 ∷ slot_with [] [] [] 0 ∷ [];
}

floor_too_high-bad : ¬ IsGood counter_kind opening floor_too_high
floor_too_high-bad good =
    let late : 4 ≤ 3 = (good.slots.slots 0 (lit< tt)).late
    (By 0 0 (Apply (named 1) Read) (Replied (Is 5)) ∷ Sent 0 0 ∷ By 0 1 (Apply (named 1) Read) (Replied (Is 5)) ∷ []) [] (Sent 0 0) refl refl refl in
    omega (arith, late)

-- a second launch does not begin while the first is suspended, an apply may come between, and the history tells the value
abbrev suspended : Log
suspended =
    By 0 0 (Launch (named 1) (AskAt 0 7)) (Launched 1) ∷ By 0 1 (Launch (named 1) End) (Launched 2) ∷ Resume 1 1 Begin (Ask 0 7 Read Wait)
    ∷ By 0 2 (Apply (named 1) (Add 4)) (Replied (Is 9)) ∷ []

overlapping : ¬ MayCome counter_kind (after_log suspended) (Resume 1 2 Begin (Done (Is 9)))
overlapping h = omega (arith, h.0)

suspended-lived : lived counter_kind (counter 5) [] (history_of 1 suspended) ≡ (counter 9, Wait ∷ End ∷ [])
suspended-lived = refl

suspended-value : map (λ o. o.value) (after_log suspended).live ≡ counter 9 ∷ []
suspended-value = refl

suspended-tasks : map (λ o. map (λ w. w.task) o.works) (after_log suspended).live ≡ (Wait ∷ End ∷ []) ∷ []
suspended-tasks = refl
