-- What light turns make of a slot whose side has launches that are pending: that of its client, and that of its trustee.
use Rattle.std.proofs.Common.{◌≡◌, ℕ, ◌+◌, ◌≤◌, ◌<◌, ◌⊎◌, inl, inr, false, List, [], ◌∷◌, ◌++◌, length, refl, sym, ◌∙◌, ap, subst, arith, append_assoc, append-nil, get_or-set_same}
use Rattle.std.specs.Prelude.{slice_get}
use Rattle.std.specs.declared.option.Option.TheVariants.{None, Some}
use Rattle.tm_seq.specs.Kind.{Kind}
use Rattle.tm_batch.specs.declared.config.Config.{Config}
use Rattle.tm_batch.specs.declared.config.First.{First}
use Rattle.tm_batch.specs.declared.message.Request.{Request}
use Rattle.tm_batch.specs.declared.message.AnswerBatch.{AnswerBatch}
use Rattle.tm_model.specs.declared.entry.Entry.{Entry}
use Rattle.tm_model.specs.declared.entry.Entry.TheVariants.{Sent as Leaves}
use Rattle.tm_model.specs.State.{State, place_count, place_of}
use Rattle.tm_model.specs.Serve.{state_after}
use Rattle.tm_model.specs.Slots.{Empty, Asked, Taken, Answered, no_slot, slot_of, is_answered, publish, published}
use Rattle.tm_model.specs.Good.{FullBox, FullCore, FullSlot, unserved, got_with}
use Rattle.tm_model.specs.Holds.{launches_in, ended_in, spent_in, unfinished}
use Rattle.tm_core.proofs.Joins.{state-append}
use Rattle.tm_core.proofs.Tallies.{ended_in-append}
use Rattle.tm_pair.specs.Views.{ClientView, TrusteeView, hand_of}
use Rattle.tm_pair.specs.SideViews.{batch_out, hand_in, client_of}
use Rattle.tm_pair.specs.Plain.{opening_at, core_at, client_at, trustee_at, IsClientOf, plain_theory}
use Rattle.tm_pair.specs.declared.plain.PlainTable.{PlainTable}
use Rattle.tm_trustee.specs.Serving.{done_by}
use Rattle.tm_trustee.specs.declared.served.Served.{Served}
use Rattle.tm_trustee.proofs.Elements.{element_at}
use Rattle.tm_client.specs.declared.answers.Turn.{Turn}
use Rattle.tm_client.specs.declared.answers.Turn.TheVariants.{Sent, Pending, Got, Idle}
use Rattle.tm_turns.specs.Whole.{OneLane, HasLane, AreOf}
use Rattle.tm_turns.specs.Going.{TurnsAt, ServesAt}
use Rattle.tm_turns.specs.declared.turns.Turns.{Turns}
use Rattle.tm_turns.proofs.Asked.{collect_none}
use Rattle.tm_turns.proofs.AtRest.{hand_at}
use Rattle.tm_turns.proofs.Falling.{IsLightServe}
use Rattle.tm_turns.proofs.Levels.{brings_level, slot_level, level_brought, level_empty, level_asked}
use Rattle.tm_turns.proofs.Light.{pending}
use Rattle.tm_turns.proofs.Others.{slot_in}
use Rattle.tm_turns.proofs.Owing.{runs_in, runs_in-append, resumes_run, ready_falls, left_none, none_behind, no_resumes}
use Rattle.tm_turns.proofs.Pendings.{none_pending}
use Rattle.tm_turns.proofs.Seated.{lane_shows, home_at, places_are}
use Rattle.tm_turns.proofs.ServedSlots.{ServedSlot, places_serve, places_empty, places_run}
use Rattle.tm_turns.proofs.Spending.{resumes_in-append}
use Rattle.tm_turns.proofs.TurnKeeps.{client_below}
use Rattle.tm_turns.proofs.WaitsAbove.{AsksOut, asks_are_out, only_asked, of_now, grew}
use Rattle.tm_turns.proofs.Weights.{IsLight, pending_at}

module _ {X : Type 0} where
  pub nothing_in : (xs : List X) → length xs ≡ 0 → xs ≡ []
  nothing_in [] e = refl
  nothing_in (x ∷ xs) e = absurd (omega (arith, e))

list_cases : {X : Type 0} (xs : List X) → (xs ≡ []) ⊎ ((x : X) × (rest : List X) × (xs ≡ x ∷ rest))
list_cases [] = inl refl
list_cases (x ∷ xs) = inr (x, xs, refl)

-- behind one front
behind_same : {X : Type 0} (front xs ys : List X) → front ++ xs ≡ front ++ ys → xs ≡ ys
behind_same [] xs ys e = e
behind_same (z ∷ front) xs ys e = behind_same front xs ys (let is : front ++ xs ≡ front ++ ys = cc in is)

module _ {V O R T : Type 0} where
  out_empty : (box : FullBox V O R T) (sent : List (Request V O R T)) → batch_out box sent ≡ None → box ≡ Empty
  out_empty Empty sent e = refl
  out_empty (Asked b room) sent e = absurd cc
  out_empty (Taken b room) sent e = absurd cc
  out_empty (Answered a upto room) sent e = absurd cc

  -- what a client's light turn makes of its slot: it took answers without completions, or a batch is asked there
  pub record ClientStep (old new : FullSlot V O R T) : Type 0 where
    pub same : pending new.sent new.got ≡ pending old.sent old.got
    pub either : ((slot_level old ≡ 2) × (new.box ≡ Empty))
        ⊎ ((slot_level old ≡ 1) × ((b : List (Request V O R T)) × (room : ℕ) × (new.box ≡ Asked b room)))

  ended_more : (got : List (AnswerBatch V O R T)) (a : AnswerBatch V O R T)
      → ended_in (got ++ a ∷ []) ≡ ended_in got + (length a.completions.items + spent_in a.answers.items)
  ended_more got a = let parts = ended_in-append got (a ∷ []) in omega (arith, parts)

module _ {V C O R T : Type 0} (kind : Kind V O R T) (config : Config) (first : List (First V)) where
  module _ (c t : ℕ) (old new : Turns V C O R T) (are : AreOf kind config first old) (t_below : t < config.trustees) where
    -- the slot that a side of place c of a table shows
    pub shown :
        (table : PlainTable V O R T) (lane : OneLane V C O R T) → IsClientOf kind table lane.side → (client_at lane.side).place ≡ c
        → client_at lane.side ≡ client_of c (slot_in c table)
    shown table lane mine place = mine.view ∙ ap (λ k. client_of k (slot_of (core_at table) k)) place

    has_lane : (answer : Turn) (is : TurnsAt kind c t answer old new) → HasLane old c t is.turned.lane
    has_lane answer is = record { client = is.client; of_client = is.of_client; of_lane = is.turned.turns.of_lane }

    pub shown_was : (answer : Turn) (is : TurnsAt kind c t answer old new) → client_at is.turned.lane.side ≡ client_of c (slot_in c is.was)
    shown_was answer is = lane_shows kind config first old are t c is.was is.turned.lane is.of_table (has_lane answer is)

    within : (answer : Turn) (is : TurnsAt kind c t answer old new) → c < length (core_at is.was).slots
    within answer is =
        let below = client_below kind config first old c t is.client is.turned.lane are is.of_client is.turned.turns.of_lane in
        let places = places_are kind config first old are t is.was is.of_table in
        let slots = (are.seated c t is.turned.lane is.was (has_lane answer is) is.of_table).of_table.good.places in
        omega (arith, below, places, slots)

    pub client_step :
        (answer : Turn) (is : TurnsAt kind c t answer old new) → IsLight answer (client_at is.turned.lane.side) (client_at is.turned.becomes.side)
        → 1 ≤ pending (slot_in c is.was).sent (slot_in c is.was).got → ClientStep (slot_in c is.was) (slot_in c is.now)
    client_step (Got n) is (some, same) pends =
        let got = is.turned.tells in
        let shows = shown_was (Got n) is in
        let place : (client_at is.turned.becomes.side).place ≡ c = got.gets.place ∙ ap (λ (v : ClientView V O R T). v.place) shows in
        let then = shown is.now is.turned.becomes is.turned.keeps.mine place in
        let slot = slot_in c is.was in
        let p : ℕ = pending slot.sent slot.got in
        let before : pending_at (client_at is.turned.lane.side) ≡ p = ap (λ (v : ClientView V O R T). pending_at v) shows in
        let behind : pending_at (client_at is.turned.becomes.side) ≡ pending (slot_in c is.now).sent (slot_in c is.now).got = ap (λ (v : ClientView V O R T). pending_at v) then in
        let (upto, room, box) = got.did.may in
        let at : (client_at is.turned.lane.side).place ≡ c = ap (λ (v : ClientView V O R T). v.place) shows in
        let here : slot.box ≡ Answered got.answers upto room = ap (λ k. (slot_of (core_at is.was) k).box) (sym at) ∙ box in
        let sent = ap launches_in got.gets.sent in
        let ends = ap ended_in got.gets.got ∙ ended_more (client_at is.turned.lane.side).got got.answers in
        let none : length got.answers.completions.items ≡ 0 = omega (arith, sent, ends, same, some) in
        let empty = nothing_in got.answers.completions.items none in
        let free : batch_out (slot_in c is.now).box (slot_in c is.now).sent ≡ None = ap (λ (v : ClientView V O R T). v.out) (sym then) ∙ got.gets.out in
        record {
          same = sym behind ∙ same ∙ before;
          either = inl (
            level_brought p slot.box got.answers upto room pends here ∙ ap (λ xs. brings_level xs) empty,
            out_empty (slot_in c is.now).box (slot_in c is.now).sent free,
          );
        }
    client_step (Sent n) is (some, same) pends =
        let sent = is.turned.tells in
        let shows = shown_was (Sent n) is in
        let place : (client_at is.turned.becomes.side).place ≡ c = sent.publishes.place ∙ ap (λ (v : ClientView V O R T). v.place) shows in
        let then = shown is.now is.turned.becomes is.turned.keeps.mine place in
        let slot = slot_in c is.was in
        let p : ℕ = pending slot.sent slot.got in
        let before : pending_at (client_at is.turned.lane.side) ≡ p = ap (λ (v : ClientView V O R T). pending_at v) shows in
        let behind : pending_at (client_at is.turned.becomes.side) ≡ pending (slot_in c is.now).sent (slot_in c is.now).got = ap (λ (v : ClientView V O R T). pending_at v) then in
        let at : (client_at is.turned.lane.side).place ≡ c = ap (λ (v : ClientView V O R T). v.place) shows in
        let b = sent.batch.requests.items in
        let empty : slot.box ≡ Empty = ap (λ k. (slot_of (core_at is.was) k).box) (sym at) ∙ sent.did.may in
        let core : core_at is.now ≡ publish c b sent.batch.room (core_at is.was) = sent.did.core ∙ ap (λ k. publish k b sent.batch.room (core_at is.was)) at in
        let own : slot_in c is.now ≡ published b sent.batch.room slot =
        ap (λ (x : FullCore V O R T). slot_of x c) core
        ∙ get_or-set_same (core_at is.was).slots c (published b sent.batch.room slot) no_slot (within (Sent n) is) in
        record {
          same = sym behind ∙ same ∙ before;
          either = inr (level_empty p slot.box pends empty, (b, sent.batch.room, ap (λ (x : FullSlot V O R T). x.box) own));
        }
    client_step Pending is light pends =
        let looked = is.turned.tells in
        let shows = shown_was Pending is in
        let (batch, out, out_now) = looked.pending.out in
        let place : (client_at is.turned.becomes.side).place ≡ c = looked.pending.place ∙ ap (λ (v : ClientView V O R T). v.place) shows in
        let then = shown is.now is.turned.becomes is.turned.keeps.mine place in
        let slot = slot_in c is.was in
        let p : ℕ = pending slot.sent slot.got in
        let at : (client_at is.turned.lane.side).place ≡ c = ap (λ (v : ClientView V O R T). v.place) shows in
        let unanswered : is_answered slot.box ≡ false = ap (λ k. is_answered (slot_of (core_at is.was) k).box) (sym at) ∙ looked.did.may in
        let trustees = are.as_many_trustees in
        let (trustee, of) = element_at old.trustees.items t (omega (arith, t_below, trustees)) in
        let (hers, serving) = home_at kind config first old are t is.was trustee is.of_table of in
        let free : hand_in slot.box ≡ None =
        sym (hand_at (core_at is.was).slots c) ∙ ap (λ (v : TrusteeView V O R T). hand_of v c) (sym hers.view) ∙ serving.free c in
        let is_out : batch_out slot.box slot.sent ≡ Some batch = ap (λ (v : ClientView V O R T). v.out) (sym shows) ∙ out in
        let (room, asked) = only_asked slot.box slot.sent batch is_out unanswered free in
        let stays : (slot_in c is.now).box ≡ slot.box =
        ap (λ (x : FullCore V O R T). (slot_of x c).box) looked.did.core
        ∙ collect_none (core_at is.was) (client_at is.turned.lane.side).place c looked.did.may in
        let sent : (slot_in c is.now).sent ≡ slot.sent =
        ap (λ (v : ClientView V O R T). v.sent) (sym then) ∙ looked.pending.sent ∙ ap (λ (v : ClientView V O R T). v.sent) shows in
        let got : (slot_in c is.now).got ≡ slot.got =
        ap (λ (v : ClientView V O R T). v.got) (sym then) ∙ looked.pending.got ∙ ap (λ (v : ClientView V O R T). v.got) shows in
        record {
          same = ap (λ qs. pending qs (slot_in c is.now).got) sent ∙ ap (λ g. pending slot.sent g) got;
          either = inr (level_asked p slot.box batch.requests room pends asked, (batch.requests, room, stays ∙ asked));
        }
    client_step Idle is light pends =
        let nothing = is.turned.tells in
        let shows = shown_was Idle is in
        let none = none_pending kind config first old c t is.turned.lane are (has_lane Idle is) nothing.free nothing.waits nothing.no_bye nothing.no_fetch in
        let before : pending_at (client_at is.turned.lane.side) ≡ pending (slot_in c is.was).sent (slot_in c is.was).got = ap (λ (v : ClientView V O R T). pending_at v) shows in
        absurd (omega (arith, none, before, pends))

  module _ (t c : ℕ) (served : Served) (old new : Turns V C O R T) (are : AreOf kind config first old) (is : ServesAt kind t served old new)
      (light : IsLightServe kind t served old new is) (was now : PlainTable V O R T)
      (at_was : slice_get old.tables.items t ≡ Some was) (at_now : slice_get new.tables.items t ≡ Some now)
      (below : c < place_count (opening_at was).setup) (pends : 1 ≤ pending (slot_in c was).sent (slot_in c was).got) where
    abbrev opening : State V O R T
    opening = opening_at was

    number : is.trustee.number ≡ t
    number = (are.trustees t is.trustee is.of_trustee).0

    -- an empty slot stays so, and so does what is pending
    pub serve_empty : (slot_in c was).box ≡ Empty
        → ((slot_in c now).box ≡ Empty) × (pending (slot_in c now).sent (slot_in c now).got ≡ pending (slot_in c was).sent (slot_in c was).got)
    serve_empty empty =
        let turned = is.turned was now (subst (λ k. slice_get old.tables.items k ≡ Some was) (sym number) at_was) (subst (λ k. slice_get new.tables.items k ≡ Some now) (sym number) at_now) in
        let home = home_at kind config first old are t was is.trustee at_was is.of_trustee in
        let (box, sent, got) = places_empty kind opening (place_count opening.setup) c was now is.trustee.side is.becomes.side turned.serves home.0 refl (omega arith) below empty in
        (box, ap (λ qs. pending qs (slot_in c now).got) sent ∙ ap (λ g. pending (slot_in c was).sent g) got)

    -- where a light batch was answered with no completion, a launch is unfinished, and a batch of asks is out above
    owed :
        (s : ServedSlot kind opening c was now is.trustee.side is.becomes.side)
        → pending (slot_in c now).sent (slot_in c now).got ≡ pending (slot_in c was).sent (slot_in c was).got → s.answers.completions.items ≡ []
        → AsksOut kind config first t served old new are is light
    owed s same none =
        let turned = is.turned was now (subst (λ k. slice_get old.tables.items k ≡ Some was) (sym number) at_was) (subst (λ k. slice_get new.tables.items k ≡ Some now) (sym number) at_now) in
        let are_new = is.keeps config first are in
        let now_trustee : slice_get new.trustees.items t ≡ Some is.becomes = of_now kind config first t served old new are is light in
        let home = home_at kind config first old are t was is.trustee at_was is.of_trustee in
        let (mine, serving) = home_at kind config first new are_new t now is.becomes at_now now_trustee in
        let opens : opening_at now ≡ opening = are_new.tables t now at_now ∙ sym (are.tables t was at_was) in
        let log_was = (trustee_at is.trustee.side).log in
        let log_now = (trustee_at is.becomes.side).log in
        let since_was = is.trustee.since.items in
        let since_now = is.becomes.since.items in
        let (more, grows, nothing) = grew kind config first t served old new are is light was now at_was at_now in
        let (front, starts) = s.starts in
        -- behind the answer nothing was resumed
        let left : (log_was ++ front) ++ Leaves c s.room ∷ (s.tail ++ since_now) ≡ log_was ++ (since_was ++ more) =
        ap (λ l. l ++ Leaves c s.room ∷ (s.tail ++ since_now)) (sym starts)
        ∙ sym (append_assoc s.front (Leaves c s.room ∷ []) (s.tail ++ since_now))
        ∙ sym (append_assoc (s.front ++ Leaves c s.room ∷ []) s.tail since_now)
        ∙ ap (λ l. l ++ since_now) (sym s.log) ∙ grows ∙ append_assoc log_was since_was more in
        let inner : front ++ Leaves c s.room ∷ (s.tail ++ since_now) ≡ since_was ++ more =
        behind_same log_was (front ++ Leaves c s.room ∷ (s.tail ++ since_now)) (since_was ++ more)
        (sym (append_assoc log_was front (Leaves c s.room ∷ (s.tail ++ since_now))) ∙ left) in
        let quiet = none_behind since_was more front (s.tail ++ since_now) c s.room inner home.1.current.only nothing in
        let parts = resumes_in-append s.tail since_now in
        let empty : since_now ≡ [] = no_resumes since_now serving.current.only (omega (arith, quiet, parts)) in
        -- so no completion is ready
        let upto : List (Entry V O R T) = s.front ++ Leaves c s.room ∷ [] in
        let gone = left_none kind opening s.front c s.room s.answers s.last none in
        let falls = ready_falls kind c (state_after kind opening upto) s.tail (omega (arith, quiet, parts)) in
        let state_is : state_after kind opening log_now ≡ state_after kind (state_after kind opening upto) s.tail =
        ap (state_after kind opening) s.log ∙ state-append kind opening upto s.tail in
        let ready : length (place_of (state_after kind opening log_now) c).ready ≡ length (place_of (state_after kind (state_after kind opening upto) s.tail) c).ready =
        ap (λ (x : State V O R T). length (place_of x c).ready) state_is in
        -- and one is unfinished
        let log : log_now ≡ (core_at now).log = ap (λ (v : TrusteeView V O R T). v.log) mine.view in
        let slots = mine.of_table.good.places in
        let same_places = ap (λ (x : State V O R T). place_count x.setup) opens in
        let account = mine.of_table.good.accounts c (omega (arith, slots, same_places, below)) in
        let launches = account.launches in
        let not_run = ap (λ (b : FullBox V O R T). launches_in (unserved b)) s.box in
        let ended = ap (λ (b : FullBox V O R T). ended_in (got_with b (slot_in c now).got)) s.box ∙ ended_more (slot_in c now).got s.answers in
        let zero = ap (λ l. length l) none in
        let refused = ap (λ l. spent_in l) (nothing_in s.answers.answers.items s.none) in
        let s_is : state_after kind (opening_at now) (core_at now).log ≡ state_after kind opening log_now =
        ap (λ x. state_after kind x (core_at now).log) opens ∙ ap (state_after kind opening) (sym log) in
        let u_is = ap (λ (x : State V O R T). unfinished c x.live) s_is in
        let r_is = ap (λ (x : State V O R T). length (place_of x c).ready) s_is in
        let done_is : done_by (plain_theory kind) is.becomes ≡ log_now = ap (λ l. log_now ++ l) empty ∙ append-nil log_now in
        let u_done = ap (λ l. unfinished c (state_after kind opening l).live) done_is in
        let runs = places_run kind opening (place_count opening.setup) was now is.trustee.side is.becomes.side turned.serves home.0 refl (omega arith)
        (λ k lt. light.slots was at_was k lt) in
        let runs_was = runs_in-append log_was since_was in
        let runs_now = ap runs_in done_is in
        let resumed = resumes_run since_was home.1.current.only in
        asks_are_out kind config first t served old new are is light was now at_was at_now c
        (omega (arith, runs, runs_was, runs_now, resumed))
        (omega (arith, launches, not_run, ended, zero, refused, u_is, r_is, u_done, ready, falls, gone, same, pends))

    -- a light batch is answered with a completion, or a batch of asks is out above
    pub serve_asked :
        (b : List (Request V O R T)) (room : ℕ) → (slot_in c was).box ≡ Asked b room
        → ((slot_level (slot_in c now) ≡ 0) × (pending (slot_in c now).sent (slot_in c now).got ≡ pending (slot_in c was).sent (slot_in c was).got))
        ⊎ AsksOut kind config first t served old new are is light
    serve_asked b room asked =
        let turned = is.turned was now (subst (λ k. slice_get old.tables.items k ≡ Some was) (sym number) at_was) (subst (λ k. slice_get new.tables.items k ≡ Some now) (sym number) at_now) in
        let are_new = is.keeps config first are in
        let home = home_at kind config first old are t was is.trustee at_was is.of_trustee in
        let places = place_count opening.setup in
        let empty : b ≡ [] = (light.slots was at_was c below b room asked).0 in
        let s = places_serve kind opening places c room was now is.trustee.side is.becomes.side turned.serves home.0 refl (omega arith) below
        (asked ∙ ap (λ qs. Asked qs room) empty) in
        let same : pending (slot_in c now).sent (slot_in c now).got ≡ pending (slot_in c was).sent (slot_in c was).got =
        ap (λ qs. pending qs (slot_in c now).got) s.sent ∙ ap (λ g. pending (slot_in c was).sent g) s.got in
        elim (list_cases s.answers.completions.items) [
          | inr (x, xs, some) ↦
              let level = level_brought (pending (slot_in c now).sent (slot_in c now).got) (slot_in c now).box s.answers s.upto s.room (omega (arith, same, pends)) s.box in
              inl (level ∙ ap (λ l. brings_level l) some, same)
          | inl none ↦ inr (owed s same none)
        ]
