-- What a turn that moved nothing leaves as it is: all but looks.
use Rattle.std.proofs.Common.{◌≡◌, ℕ, zero, suc, ◌+◌, ◌≤◌, ◌⊎◌, inl, inr, Bool, true, false, List, [], ◌∷◌, length, map, refl, sym, ◌∙◌, ap, subst, arith}
use Rattle.std.specs.Prelude.{slice_get, slice_set}
use Rattle.std.specs.declared.option.Option.{Option}
use Rattle.std.specs.declared.option.Option.TheVariants.{None, Some}
use Rattle.tm_seq.specs.Kind.{Kind}
use Rattle.tm_batch.specs.declared.message.Request.{Request}
use Rattle.tm_batch.specs.declared.message.AnswerBatch.{AnswerBatch}
use Rattle.tm_model.specs.declared.entry.Entry.{Entry}
use Rattle.tm_model.specs.Slots.{Empty, Asked, Taken, Answered, slot_of, is_answered}
use Rattle.tm_model.specs.Good.{FullBox, FullCore}
use Rattle.tm_model.specs.Holds.{has_bye}
use Rattle.tm_pair.specs.Views.{BatchView, ClientView}
use Rattle.tm_pair.specs.SideViews.{batch_out}
use Rattle.tm_pair.specs.Calls.{Collects, OnLook}
use Rattle.tm_pair.specs.Plain.{core_at, client_at, trustee_at, HasDone, IsClientOf, plain_theory}
use Rattle.tm_pair.specs.declared.table.Collected.{Collected}
use Rattle.tm_pair.specs.declared.table.Collected.TheVariants.{Answers, Pending as Waiting, Idle as Nothing}
use Rattle.tm_pair.specs.declared.moves.Move.TheVariants.{Collect}
use Rattle.tm_pair.specs.declared.plain.PlainTable.{PlainTable}
use Rattle.tm_pair.specs.declared.plain.PlainClient.{PlainClient}
use Rattle.tm_trustee.specs.Above.{one_if, moves_up, all_moves_up, SaysByeAt}
use Rattle.tm_client.specs.declared.lane.Unfinished.{Unfinished}
use Rattle.tm_client.specs.declared.answers.Turn.{Turn}
use Rattle.tm_client.specs.declared.answers.Turn.TheVariants.{Sent, Pending, Got, Idle}
use Rattle.tm_turns.proofs.WentUp.{WentUp}
use Rattle.tm_turns.specs.Whole.{OneClient, OneLane, OneTrustee}
use Rattle.tm_turns.specs.Going.{has_moved, TurnsAt}
use Rattle.tm_turns.specs.declared.turns.Turns.{Turns}
use Rattle.tm_turns.proofs.Asked.{collect_none}
use Rattle.tm_turns.proofs.Ones.{length_more}
use Rattle.tm_turns.proofs.Weights.{idle_stays}

-- a function of what is there
abbrev pub at_some : {X Y : Type 0} → (X → Y) → Option X → Option Y
at_some f None = None
at_some f (Some x) = Some (f x)

module _ {X Y : Type 0} (f : X → Y) where
  -- a write that keeps the function keeps it at each index
  pub some_set :
      (xs : List X) (i k : ℕ) (x y : X) → slice_get xs i ≡ Some x → f y ≡ f x → at_some f (slice_get (slice_set xs i y) k) ≡ at_some f (slice_get xs k)
  some_set [] i k x y at e = absurd cc
  some_set (z ∷ xs) zero zero x y at e = let is : z ≡ x = cc in ap (λ (w : Y). Some w) (e ∙ ap f (sym is))
  some_set (z ∷ xs) zero (suc k) x y at e = refl
  some_set (z ∷ xs) (suc i) zero x y at e = refl
  some_set (z ∷ xs) (suc i) (suc k) x y at e = some_set xs i k x y at e

said_or : {A B : Type 0} → A → B ⊎ (¬ A) → B
said_or a (inl b) = b
said_or a (inr not) = absurd (not a)

-- what a client keeps at a trustee, but for what looks change
pub record Marks (V C O R T : Type 0) : Type 0 where
  pub waits : List (Request V O R T)
  pub sent : List (Request V O R T)
  pub got : List (AnswerBatch V O R T)
  pub counting : ℕ
  pub closing : Bool
  pub fetching : Bool
  pub launched : List (Unfinished C)

-- what a trustee has of its log and above, likewise
pub record Notes (V O R T : Type 0) : Type 0 where
  pub log : List (Entry V O R T)
  pub sent : List (List (Request V O R T))

abbrev pub flat : {X : Type 0} → Option (Option X) → Option X
flat None = None
flat (Some o) = o

module _ {V O R T : Type 0} where
  -- what stands in the box of place c of a table
  abbrev pub box_in : ℕ → PlainTable V O R T → FullBox V O R T
  box_in c table = (slot_of (core_at table) c).box

  abbrev pub notes : OneTrustee V O R T → Notes V O R T
  notes trustee = record { log = (trustee_at trustee.side).log; sent = map (λ side. (client_at side).sent) trustee.above.items }

module _ {V C O R T : Type 0} where
  abbrev pub marks : OneLane V C O R T → Marks V C O R T
  marks lane = record {
    waits = lane.waits.items;
    sent = (client_at lane.side).sent;
    got = (client_at lane.side).got;
    counting = lane.counting;
    closing = lane.closing;
    fetching = lane.fetching;
    launched = lane.launched.items;
  }

  abbrev pub marks_of : ℕ → OneClient V C O R T → Option (Marks V C O R T)
  marks_of t client = at_some marks (slice_get client.books.lanes.items t)

  -- what client c keeps at trustee t
  abbrev pub marks_at : Turns V C O R T → ℕ → ℕ → Option (Marks V C O R T)
  marks_at turns c t = flat (at_some (marks_of t) (slice_get turns.clients.items c))

  -- what stands in the box of place c of table t
  abbrev pub box_at : Turns V C O R T → ℕ → ℕ → Option (FullBox V O R T)
  box_at turns t c = at_some (box_in c) (slice_get turns.tables.items t)

  abbrev pub notes_at : Turns V C O R T → ℕ → Option (Notes V O R T)
  notes_at turns t = at_some notes (slice_get turns.trustees.items t)

  -- all but looks stayed
  pub record Still (old new : Turns V C O R T) : Type 0 where
    pub lanes : (c t : ℕ) → marks_at new c t ≡ marks_at old c t
    pub boxes : (t c : ℕ) → box_at new t c ≡ box_at old t c
    pub trustees : (t : ℕ) → notes_at new t ≡ notes_at old t

  pub still_same : (old new : Turns V C O R T) → new ≡ old → Still old new
  still_same old new e = record {
    lanes = λ c t. ap (λ (x : Turns V C O R T). marks_at x c t) e;
    boxes = λ t c. ap (λ (x : Turns V C O R T). box_at x t c) e;
    trustees = λ t. ap (λ (x : Turns V C O R T). notes_at x t) e;
  }

  pub still_on : (a b c : Turns V C O R T) → Still a b → Still b c → Still a c
  still_on a b c first then = record {
    lanes = λ k t. then.lanes k t ∙ first.lanes k t;
    boxes = λ t k. then.boxes t k ∙ first.boxes t k;
    trustees = λ t. then.trustees t ∙ first.trustees t;
  }

  module _ (kind : Kind V O R T) where
    -- what a client's turn that moved nothing leaves of its lane and its table
    pub record LaneStays (was now : PlainTable V O R T) (lane becomes : OneLane V C O R T) : Type 0 where
      pub marks_stay : marks becomes ≡ marks lane
      pub boxes : (c : ℕ) → box_in c now ≡ box_in c was

    pub lane_stays :
        (t : ℕ) (answer : Turn) (c : ℕ) (old new : Turns V C O R T) (is : TurnsAt kind c t answer old new) → has_moved answer ≡ false
        → LaneStays is.was is.now is.turned.lane is.turned.becomes
    lane_stays t (Sent n) c old new is none = absurd cc
    lane_stays t (Got n) c old new is none = absurd cc
    lane_stays t Pending c old new is none =
        let looked = is.turned.tells in
        let lane = is.turned.lane in
        let becomes = is.turned.becomes in
        let stays : becomes ≡ record lane { side = becomes.side } = looked.stays in
        let sent = looked.pending.sent in
        let got = looked.pending.got in
        let first : marks becomes ≡ record (marks lane) { sent = (client_at becomes.side).sent; got = (client_at becomes.side).got } =
        ap
        (λ (x : OneLane V C O R T).
        record {
          waits = x.waits.items;
          sent = (client_at becomes.side).sent;
          got = (client_at becomes.side).got;
          counting = x.counting;
          closing = x.closing;
          fetching = x.fetching;
          launched = x.launched.items;
        })
        stays in
        record {
          marks_stay = first ∙ ap (λ (s : List (Request V O R T)). record (marks lane) { sent = s; got = (client_at becomes.side).got }) sent
              ∙ ap (λ (g : List (AnswerBatch V O R T)). record (marks lane) { got = g }) got;
          boxes = λ k.
              ap (λ (core : FullCore V O R T). (slot_of core k).box) looked.did.core
              ∙ collect_none (core_at is.was) (client_at lane.side).place k looked.did.may;
        }
    lane_stays t Idle c old new is none =
        let same = idle_stays kind t is.was is.now is.turned.lane is.turned.becomes is.client.books is.becomes.books is.turned.tells is.turned.turns.of_lane is.turned.turns.lanes in
        record {
          marks_stay = ap (λ (x : OneLane V C O R T). marks x) same;
          boxes = λ k. ap (λ (x : PlainTable V O R T). box_in k x) is.turned.tells.table;
        }

    pub turn_still : (c t : ℕ) (answer : Turn) (old new : Turns V C O R T) → TurnsAt kind c t answer old new → has_moved answer ≡ false → Still old new
    turn_still c t answer old new is none =
        let stays = lane_stays t answer c old new is none in
        let lanes : (k : ℕ) → marks_of k is.becomes ≡ marks_of k is.client =
        λ k. ap (λ xs. at_some marks (slice_get xs k)) is.turned.turns.lanes
        ∙ some_set marks is.client.books.lanes.items t k is.turned.lane is.turned.becomes is.turned.turns.of_lane stays.marks_stay in
        record {
          lanes = λ d k.
              ap (λ xs. flat (at_some (marks_of k) (slice_get xs d))) is.clients
              ∙ ap flat (some_set (marks_of k) old.clients.items c d is.client is.becomes is.of_client (lanes k));
          boxes = λ k d.
              ap (λ xs. at_some (box_in d) (slice_get xs k)) is.tables
              ∙ some_set (box_in d) old.tables.items t k is.was is.now is.of_table (stays.boxes d);
          trustees = λ k. ap (λ xs. at_some notes (slice_get xs.items k)) is.trustees;
        }

module _ {V O R T : Type 0} where
  empty_out : (box : FullBox V O R T) (sent : List (Request V O R T)) → batch_out box sent ≡ None → is_answered box ≡ false
  empty_out Empty sent e = refl
  empty_out (Asked b room) sent e = refl
  empty_out (Taken b room) sent e = refl
  empty_out (Answered a upto room) sent e = absurd cc

  module _ (kind : Kind V O R T) where
    -- what a side above leaves at which nothing was moved: it stayed but for a look, found no answers, and has said Bye where all below have
    pub record UpStays (all : Type 0) (was now : PlainTable V O R T) (before after : PlainClient V O R T) : Type 0 where
      pub sent : (client_at after).sent ≡ (client_at before).sent
      pub boxes : (c : ℕ) → box_in c now ≡ box_in c was
      pub unanswered : is_answered (box_in before.place was) ≡ false
      pub said : all → has_bye (client_at after).sent ≡ true

    -- a look above that collected nothing
    record LookStays (was between : PlainTable V O R T) (before mid : PlainClient V O R T) : Type 0 where
      sent : (client_at mid).sent ≡ (client_at before).sent
      place : (client_at mid).place ≡ (client_at before).place
      out : one_if (client_at mid).out ≡ one_if (client_at before).out
      got : length (client_at mid).got ≡ length (client_at before).got
      boxes : (c : ℕ) → box_in c between ≡ box_in c was
      unanswered : is_answered (box_in before.place was) ≡ false

    -- a side with nothing out has no answers in its box
    pub free_unanswered :
        (table : PlainTable V O R T) (side : PlainClient V O R T) → IsClientOf kind table side → (client_at side).out ≡ None
        → is_answered (box_in side.place table) ≡ false
    free_unanswered table side mine none =
        let slot = slot_of (core_at table) side.place in
        empty_out slot.box slot.sent (ap (λ (v : ClientView V O R T). v.out) (sym mine.view) ∙ none)

    look_stays :
        (found : Collected V O R T) (was between : PlainTable V O R T) (before mid : PlainClient V O R T) → IsClientOf kind was before
        → Collects (client_at before) (client_at mid) found
        → OnLook found (between ≡ was) (λ answers. HasDone (Collect (client_at before).place answers) was between)
        → length (client_at mid).got ≤ length (client_at before).got → LookStays was between before mid
    look_stays Nothing was between before mid mine idle same few = record {
      sent = ap (λ (v : ClientView V O R T). v.sent) idle.kept;
      place = ap (λ (v : ClientView V O R T). v.place) idle.kept;
      out = ap (λ (v : ClientView V O R T). one_if v.out) idle.kept;
      got = ap (λ (v : ClientView V O R T). length v.got) idle.kept;
      boxes = λ c. ap (λ (x : PlainTable V O R T). box_in c x) same;
      unanswered = free_unanswered was before mine idle.out;
    }
    look_stays Waiting was between before mid mine pending did few =
        let (batch, was_out, now_out) = pending.out in
        record {
          sent = pending.sent;
          place = pending.place;
          out = ap (λ (o : Option (BatchView V O R T)). one_if o) (now_out ∙ sym was_out);
          got = ap (λ (xs : List (AnswerBatch V O R T)). length xs) pending.got;
          boxes = λ c. ap (λ (core : FullCore V O R T). (slot_of core c).box) did.core ∙ collect_none (core_at was) (client_at before).place c did.may;
          unanswered = did.may;
        }
    look_stays (Answers a) was between before mid mine gets did few =
        let more : length (client_at mid).got ≡ length (client_at before).got + 1 =
        ap (λ (xs : List (AnswerBatch V O R T)). length xs) gets.got ∙ length_more (client_at before).got a in
        absurd (omega (arith, few, more))

    says_got :
        (all : Type 0) (between now : PlainTable V O R T) (mid after : PlainClient V O R T) → SaysByeAt (plain_theory kind) all between now mid after
        → length (client_at after).got ≡ length (client_at mid).got
    says_got all between now mid after (inl bye) =
        let (batch, requests, room, publishes, did, keeps) = bye.2 in ap (λ (xs : List (AnswerBatch V O R T)). length xs) publishes.got
    says_got all between now mid after (inr none) = ap (λ (x : PlainClient V O R T). length (client_at x).got) none.0

    says_none :
        (all : Type 0) (between now : PlainTable V O R T) (mid after : PlainClient V O R T) → IsClientOf kind between mid
        → SaysByeAt (plain_theory kind) all between now mid after
        → (length (client_at after).got + one_if (client_at after).out ≤ length (client_at mid).got + one_if (client_at mid).out)
        → (after ≡ mid) × (now ≡ between) × (all → has_bye (client_at mid).sent ≡ true)
    says_none all between now mid after mine (inl bye) few =
        let (batch, requests, room, publishes, did, keeps) = bye.2 in
        let slot = slot_of (core_at between) mid.place in
        let empty : slot.box ≡ Empty = did.may in
        let none : (client_at mid).out ≡ None =
        ap (λ (v : ClientView V O R T). v.out) mine.view ∙ ap (λ (b : FullBox V O R T). batch_out b slot.sent) empty in
        let out_was : one_if (client_at mid).out ≡ 0 = ap (λ (o : Option (BatchView V O R T)). one_if o) none in
        let out_now : one_if (client_at after).out ≡ 1 = ap (λ (o : Option (BatchView V O R T)). one_if o) publishes.out in
        let got : length (client_at after).got ≡ length (client_at mid).got = ap (λ (xs : List (AnswerBatch V O R T)). length xs) publishes.got in
        absurd (omega (arith, few, out_was, out_now, got))
    says_none all between now mid after mine (inr none) few = (none.0, none.1, λ is. said_or is none.2)

    -- where nothing was moved at a side above
    pub up_stays :
        (all : Type 0) (was now : PlainTable V O R T) (before after : PlainClient V O R T) → IsClientOf kind was before
        → WentUp kind all was now before after → moves_up (client_at before) (client_at after) ≡ 0
        → UpStays all was now before after
    up_stays all was now before after mine goes none =
        let (between, mid, looks, its, says) = goes in
        let (found, collects, on) = looks in
        let got_says = says_got all between now mid after says in
        let look = look_stays found was between before mid mine collects on (omega (arith, none, got_says)) in
        let out = look.out in
        let got = look.got in
        let (same, table, bye) = says_none all between now mid after its says (omega (arith, none, out, got, got_says)) in
        record {
          sent = ap (λ (x : PlainClient V O R T). (client_at x).sent) same ∙ look.sent;
          boxes = λ c. ap (λ (x : PlainTable V O R T). box_in c x) table ∙ look.boxes c;
          unanswered = look.unanswered;
          said = λ is. ap (λ (x : PlainClient V O R T). has_bye (client_at x).sent) same ∙ bye is;
        }

  -- where nothing was moved at all sides, none was at each
  pub moved_none :
      (olds news : List (ClientView V O R T)) (i : ℕ) (old new : ClientView V O R T) → all_moves_up olds news ≡ 0
      → slice_get olds i ≡ Some old → slice_get news i ≡ Some new → moves_up old new ≡ 0
  moved_none [] news i old new none at e = absurd cc
  moved_none (x ∷ olds) [] i old new none at e = absurd cc
  moved_none (x ∷ olds) (y ∷ news) zero old new none at e =
      let is : x ≡ old = cc in
      let becomes : y ≡ new = cc in
      let here : moves_up x y ≡ 0 = omega (arith, none) in
      subst (λ v. moves_up old v ≡ 0) becomes (subst (λ v. moves_up v y ≡ 0) is here)
  moved_none (x ∷ olds) (y ∷ news) (suc i) old new none at e = moved_none olds news i old new (omega (arith, none)) at e
