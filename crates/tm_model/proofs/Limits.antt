-- The limits as numbers, and small states, logs and batches on either side of each.
use Rattle.std.proofs.Common.{◌≡◌, ℕ, ◌<◌, false, List, [], ◌∷◌, ◌++◌, length, map, refl, subst, sym, arith, inl, inr, lit<, lit≤}
use Rattle.std.proofs.Math.ListN.{replicate}
use Rattle.tm_seq.specs.Counting.{counter_kind}
use Rattle.tm_seq.specs.declared.counter.Counter.{Counter}
use Rattle.tm_seq.specs.declared.counter.CounterOp.{CounterOp}
use Rattle.tm_seq.specs.declared.counter.CounterReply.{CounterReply}
use Rattle.tm_seq.specs.declared.counter.CounterReply.TheVariants.{Is}
use Rattle.tm_seq.specs.declared.counter.CounterTask.{CounterTask}
use Rattle.tm_seq.specs.declared.counter.CounterTask.TheVariants.{End}
use Rattle.tm_batch.specs.declared.limits.TheConstants.{MOST_REQUESTS, MOST_ROOM, MOST_COMPLETIONS, WINDOW, MOST_GIFTS, MOST_HOLDS, MOST_CLIENTS, FEWEST_TRUSTEES, MOST_TRUSTEES, MOST_OBJECTS, MOST_TRUSTS}
use Rattle.tm_batch.specs.declared.config.Config.{Config}
use Rattle.tm_batch.specs.declared.config.First.{First}
use Rattle.tm_batch.specs.declared.message.Request.{Request}
use Rattle.tm_batch.specs.declared.message.Request.TheVariants.{Launch, Grant, Release}
use Rattle.tm_batch.specs.declared.message.AnswerBatch.{AnswerBatch}
use Rattle.tm_batch.specs.declared.message.Answer.TheVariants.{Granted, GiftsFull}
use Rattle.tm_model.specs.declared.entry.Entry.TheVariants.{By, Sent}
use Rattle.tm_model.specs.State.{State, place_of}
use Rattle.tm_model.specs.Opening.{IsBuildable}
use Rattle.tm_model.specs.Serve.{state_after}
use Rattle.tm_model.specs.Legal.{MayCome}
use Rattle.tm_model.specs.Batches.{batches}
use Rattle.tm_model.specs.Slots.{MayPublish}
use Rattle.tm_model.specs.Holds.{Names, gave, came}
use Rattle.tm_model.specs.Orderly.{IsOrderly}
use Rattle.tm_model.specs.Laws.{first_of}
use Rattle.tm_model.proofs.Byes.{not_in_none}
use Rattle.tm_model.proofs.Cases.{counter, named, opening, pair, Requests}

-- a batch: requests, gifts and completions; and launches that lack their completion
batch_limits : (MOST_REQUESTS ≡ 16) × (MOST_ROOM ≡ 16) × (MOST_COMPLETIONS ≡ 16) × (WINDOW ≡ 64)
batch_limits = (refl, refl, refl, refl)

-- a place: gifts that wait, and holds on one object
place_limits : (MOST_GIFTS ≡ 1024) × (MOST_HOLDS ≡ 4294967295)
place_limits = (refl, refl)

-- a runtime: clients, trustees, objects and trusts
runtime_limits : (MOST_CLIENTS ≡ 64) × (FEWEST_TRUSTEES ≡ 2) × (MOST_TRUSTEES ≡ 32) × (MOST_OBJECTS ≡ 4096) × (MOST_TRUSTS ≡ 4096)
runtime_limits = (refl, refl, refl, refl, refl)

-- of two states that differ by one gift or one hold, the fuller one refuses a grant and the other does not
abbrev Counters : Type 0
Counters = State Counter CounterOp CounterReply CounterTask

-- client 0 has so many holds, and client 1 one
abbrev crowded : ℕ → Counters
crowded n = record opening { live = record { id = 1; value = counter 5; holds = n ∷ 1 ∷ []; works = [] } ∷ [] }

hold_4294967296 : MayCome counter_kind (crowded 4294967295) (By 1 0 (Grant (named 1) 0) GiftsFull)
hold_4294967296 = (lit< tt, refl, (lit≤ tt, lit< tt, (refl, inr (lit≤ tt))))

hold_4294967296-granted : ¬ MayCome counter_kind (crowded 4294967295) (By 1 0 (Grant (named 1) 0) Granted)
hold_4294967296-granted h = h.2.2.1 (inr (lit≤ tt))

hold_4294967295 : MayCome counter_kind (crowded 4294967294) (By 1 0 (Grant (named 1) 0) Granted)
hold_4294967295 = (lit< tt, refl, (lit≤ tt, lit< tt, (refl, elim [ inl h ↦ omega (arith, h) | inr h ↦ omega (arith, h) ])))

hold_4294967295-full : ¬ MayCome counter_kind (crowded 4294967294) (By 1 0 (Grant (named 1) 0) GiftsFull)
hold_4294967295-full h = elim h.2.2.1 [ inl g ↦ omega (arith, g) | inr g ↦ omega (arith, g) ]

-- the holds of one place are no other's
grant_to_fewer : MayCome counter_kind (crowded 4294967295) (By 0 0 (Grant (named 1) 1) Granted)
grant_to_fewer = (lit< tt, refl, (lit≤ tt, lit< tt, (refl, elim [ inl h ↦ omega (arith, h) | inr h ↦ omega (arith, h) ])))

-- so many gifts of object 1 wait for client 1
abbrev stacked : ℕ → Counters → Counters
stacked n s = record s {
  places = record { served = 0; is_closed = false; gifts = []; ready = [] }
      ∷ record { served = 0; is_closed = false; gifts = replicate n (named 1); ready = [] } ∷ [];
}

gift_1025 : MayCome counter_kind (stacked 1024 opening) (By 0 0 (Grant (named 1) 1) GiftsFull)
gift_1025 = (lit< tt, refl, (lit≤ tt, lit< tt, (refl, inl (lit≤ tt))))

gift_1025-granted : ¬ MayCome counter_kind (stacked 1024 opening) (By 0 0 (Grant (named 1) 1) Granted)
gift_1025-granted h = h.2.2.1 (inl (lit≤ tt))

gift_1024 : MayCome counter_kind (stacked 1023 opening) (By 0 0 (Grant (named 1) 1) Granted)
gift_1024 = (lit< tt, refl, (lit≤ tt, lit< tt, (refl, elim [ inl h ↦ omega (arith, h) | inr h ↦ omega (arith, h) ])))

gift_1024-full : ¬ MayCome counter_kind (stacked 1023 opening) (By 0 0 (Grant (named 1) 1) GiftsFull)
gift_1024-full h = elim h.2.2.1 [ inl g ↦ omega (arith, g) | inr g ↦ omega (arith, g) ]

-- where 1,024 gifts of object 1 wait, none of object 2 may, until some have left, and then it is the last in line
another_1025 : MayCome counter_kind (stacked 1024 pair) (By 0 0 (Grant (named 2) 1) GiftsFull)
another_1025 = (lit< tt, refl, (lit≤ tt, lit< tt, (refl, inl (lit≤ tt))))

another_after_leaving : MayCome counter_kind (state_after counter_kind (stacked 1024 pair) (Sent 1 16 ∷ [])) (By 0 0 (Grant (named 2) 1) Granted)
another_after_leaving = (lit< tt, refl, (lit≤ tt, lit< tt, (refl, elim [ inl h ↦ omega (arith, h) | inr h ↦ omega (arith, h) ])))

another_is_last :
    (place_of (state_after counter_kind (stacked 1024 pair) (Sent 1 16 ∷ By 0 0 (Grant (named 2) 1) Granted ∷ [])) 1).gifts
    ≡ replicate 1008 (named 1) ++ named 2 ∷ []
another_is_last = refl

-- a batch has room for 16 gifts at most
room_16 : MayCome counter_kind opening (Sent 0 16)
room_16 = (lit< tt, lit≤ tt)

room_17 : ¬ MayCome counter_kind opening (Sent 0 17)
room_17 h = omega (arith, h.1)

-- 17 completions and a gift wait for client 0
abbrev waiting : Counters
waiting = record opening {
  places = record { served = 0; is_closed = false; gifts = named 1 ∷ []; ready = replicate 17 (record { ticket = 1; reply = Is 5 }) }
      ∷ record { served = 0; is_closed = false; gifts = []; ready = [] } ∷ [];
}

abbrev leaving_count : ℕ → List (ℕ × ℕ)
leaving_count room = map (λ a. (length a.gifts.items, length a.completions.items)) (batches counter_kind waiting 0 (Sent 0 room ∷ []))

leaving-room : leaving_count 16 ≡ (1, 16) ∷ []
leaving-room = refl

leaving-no_room : leaving_count 0 ≡ (0, 16) ∷ []
leaving-no_room = refl

-- a place may publish 16 requests with a room of 16, and no more of either
abbrev releases : ℕ → Requests
releases n = replicate n (Release (named 1))

publish_16 : MayPublish (first_of opening) 0 (releases 16) 16
publish_16 = record { in_range = lit< tt; is_empty = refl; most = lit≤ tt; most_gifts = lit≤ tt }

publish_17 : ¬ MayPublish (first_of opening) 0 (releases 17) 16
publish_17 h = omega (arith, h.most)

publish_room_17 : ¬ MayPublish (first_of opening) 0 (releases 16) 17
publish_room_17 h = omega (arith, h.most_gifts)

-- 64 launches may lack their completion, and no more
abbrev launches : ℕ → Requests
launches n = replicate n (Launch (named 1) End)

launch_named :
    (before after : Requests) (q : Request Counter CounterOp CounterReply CounterTask) (id : ℕ) → launches 1 ≡ before ++ q ∷ after → Names q id
    → gave id (launches 63 ++ before) < came opening 0 (launches 63) [] id
launch_named [] after q id e names =
    let is : Launch (named 1) End ≡ q = cc in
    let one : 1 ≡ id = subst (λ (x : Request Counter CounterOp CounterReply CounterTask). Names x id) (sym is) names in
    subst (λ i. gave i (launches 63 ++ []) < came opening 0 (launches 63) [] i) one (lit< tt)
launch_named (x ∷ before) after q id e names =
    let rest : [] ≡ before ++ q ∷ after = cc in
    absurd (not_in_none before after q rest)

launch_64 : IsOrderly opening 0 (launches 63) [] (launches 1)
launch_64 = record {
  held = launch_named;
  grants = (tt, tt);
  launches = lit≤ tt;
  bye = λ e. absurd cc;
  last = λ e. absurd cc;
  trustee = λ le. absurd (omega (arith, le));
}

launch_65 : ¬ IsOrderly opening 0 (launches 64) [] (launches 1)
launch_65 h = omega (arith, h.launches)

-- a completion that came makes room for one launch more
abbrev one_ended : AnswerBatch Counter CounterOp CounterReply CounterTask
one_ended = record {
  front = 9;
  answers = record { items = [] };
  gifts = record { items = [] };
  completions = record { items = record { ticket = 1; reply = Is 5 } ∷ [] };
}

launch_66 : ¬ IsOrderly opening 0 (launches 65) (one_ended ∷ []) (launches 1)
launch_66 h = omega (arith, h.launches)

-- the greatest runtime that may be built, and those one past each limit
abbrev sized : ℕ → ℕ → ℕ → ℕ → Config
sized clients trustees objects trusts =
    record { clients = clients; trustees = trustees; objects = objects; trusts = trusts; last_id = 1 }

abbrev none_first : List (First Counter)
none_first = []

greatest : IsBuildable (sized 64 32 4096 4096) none_first
greatest = record {
  clients = (lit≤ tt, lit≤ tt);
  trustees = (lit≤ tt, lit≤ tt);
  objects = (lit≤ tt, lit≤ tt);
  trusts = (lit≤ tt, lit≤ tt);
  last_id = lit≤ tt;
  trustee = tt;
  held = tt;
  once = tt;
  below = tt;
  room = λ t. lit≤ tt;
  ids = λ t. lit≤ tt;
  named = λ c lt. lit≤ tt;
}

clients_65 : ¬ IsBuildable (sized 65 32 4096 4096) none_first
clients_65 h = omega (arith, h.clients.1)

trustees_33 : ¬ IsBuildable (sized 64 33 4096 4096) none_first
trustees_33 h = omega (arith, h.trustees.1)

trustees_1 : ¬ IsBuildable (sized 64 1 4096 4096) none_first
trustees_1 h = omega (arith, h.trustees.0)

objects_4097 : ¬ IsBuildable (sized 64 32 4097 4096) none_first
objects_4097 h = omega (arith, h.objects.1)

trusts_4097 : ¬ IsBuildable (sized 64 32 4096 4097) none_first
trusts_4097 h = omega (arith, h.trusts.1)
