-- How much is still to do as one client is driven: the weight of the whole, and how far that client's slots are from a completion for which it
-- waits.
use Rattle.std.proofs.Common.{◌≡◌, ◌≢◌, ℕ, zero, suc, ◌+◌, ◌*◌, ◌≤◌, ◌<◌, inl, inr, true, false, List, [], ◌∷◌, length, refl, sym, ◌∙◌, ap, subst, arith}
use Rattle.std.specs.Prelude.{slice_get, slice_set}
use Rattle.std.specs.List.{range_with_len}
use Rattle.std.specs.declared.option.Option.TheVariants.{None, Some}
use Rattle.std.proofs.lemmas.Bool.{cases_eq, cases_lt}
use Rattle.std.proofs.lemmas.List.{length-append}
use Rattle.std.proofs.lemmas.Option.{slice_get_within}
use Rattle.tm_seq.specs.Kind.{Kind, KindLaws}
use Rattle.tm_batch.specs.declared.config.Config.{Config}
use Rattle.tm_batch.specs.declared.config.First.{First}
use Rattle.tm_batch.specs.declared.message.Completion.{Completion}
use Rattle.tm_batch.specs.declared.message.Request.{Request}
use Rattle.tm_batch.specs.declared.message.Request.TheVariants.{Entrust, Apply, Launch, Grant, Release, Reclaim, Bye}
use Rattle.tm_batch.specs.declared.message.AnswerBatch.{AnswerBatch}
use Rattle.tm_model.specs.declared.entry.Entry.{Entry}
use Rattle.tm_model.specs.Slots.{Empty, Asked, Taken, Answered, slot_of, is_answered}
use Rattle.tm_model.specs.Good.{FullBox, FullSlot, FullCore}
use Rattle.tm_model.specs.Holds.{launches_in}
use Rattle.tm_pair.specs.Views.{ClientView, TrusteeView, hand_of}
use Rattle.tm_pair.specs.SideViews.{batch_out, hand_in}
use Rattle.tm_pair.specs.Plain.{core_at, client_at}
use Rattle.tm_pair.specs.declared.plain.PlainTable.{PlainTable}
use Rattle.tm_client.specs.Clients.{total}
use Rattle.tm_client.specs.Lanes.{asks_in, out_requests}
use Rattle.tm_client.specs.declared.answers.Turn.{Turn}
use Rattle.tm_client.specs.declared.answers.Turn.TheVariants.{Sent, Pending, Got, Idle}
use Rattle.tm_client.proofs.Elements.{total_set, total_most}
use Rattle.tm_trustee.proofs.Elements.{element_at, set_here}
use Rattle.tm_turns.specs.Whole.{OneClient, OneLane, HasLane, AreOf, AreTurns}
use Rattle.tm_turns.specs.Going.{has_moved, TurnsAt, AllGo}
use Rattle.tm_turns.specs.Driving.{AwaitsAt, Awaits, TakesAt, TurnedAt, ServesEach, IsToDrive}
use Rattle.tm_turns.specs.declared.turns.Turns.{Turns}
use Rattle.tm_turns.proofs.Falling.{weight, client_weight, trustee_weight, turn_lessens, all_keep, all_fall}
use Rattle.tm_turns.proofs.Asked.{collect_none}
use Rattle.tm_turns.proofs.AtRest.{hand_at}
use Rattle.tm_turns.proofs.Levels.{brings_level, box_level, slot_level, level_brought, level_asked}
use Rattle.tm_turns.proofs.Light.{pending}
use Rattle.tm_turns.proofs.LightRound.{serve_nearer, weaken}
use Rattle.tm_turns.proofs.LightTurns.{ClientStep, client_step, shown, shown_was}
use Rattle.tm_turns.proofs.Others.{slot_in, slot_at, lane_at}
use Rattle.tm_turns.proofs.Pendings.{pending_are}
use Rattle.tm_turns.proofs.Quiet.{at_some, flat}
use Rattle.tm_turns.proofs.Rest.{some_is}
use Rattle.tm_turns.proofs.Seated.{lane_shows, home_at, table_below}
use Rattle.tm_turns.proofs.Splits.{goes_lane, all_same, range_within}
use Rattle.tm_turns.proofs.Steps.{turned_at}
use Rattle.tm_turns.proofs.WaitsAbove.{only_asked}
use Rattle.tm_turns.proofs.Weights.{IsLight, lane_weight, pending_at}
use Rattle.tm_turns.proofs.WeightsUp.{tables_weight}

module _ {V O R T : Type 0} where
  -- answers bring a completion, or none
  abbrev pub brings_wait : List (Completion V O R T) → ℕ
  brings_wait [] = 3
  brings_wait (x ∷ xs) = 0

  -- of a slot of which so many launches are pending: 3 where answers without a completion stand there, 2 where it is empty, 1 where a batch is
  -- asked, and 0 where a completion came
  abbrev pub box_wait : ℕ → FullBox V O R T → ℕ
  box_wait zero box = 0
  box_wait (suc p) (Answered a upto room) = brings_wait a.completions.items
  box_wait (suc p) Empty = 2
  box_wait (suc p) (Asked b room) = 1
  box_wait (suc p) (Taken b room) = 1

  abbrev pub slot_wait : FullSlot V O R T → ℕ
  slot_wait slot = box_wait (pending slot.sent slot.got) slot.box

  brings_most : (xs : List (Completion V O R T)) → brings_wait xs ≤ 3
  brings_most [] = omega arith
  brings_most (x ∷ xs) = omega arith

  box_most : (p : ℕ) (box : FullBox V O R T) → box_wait p box ≤ 3
  box_most zero box = omega arith
  box_most (suc p) (Answered a upto room) = brings_most a.completions.items
  box_most (suc p) Empty = omega arith
  box_most (suc p) (Asked b room) = omega arith
  box_most (suc p) (Taken b room) = omega arith

  wait_none : (p : ℕ) (box : FullBox V O R T) → p ≡ 0 → box_wait p box ≡ 0
  wait_none zero box e = refl
  wait_none (suc p) box e = absurd (omega (arith, e))

  wait_empty : (p : ℕ) (box : FullBox V O R T) → 1 ≤ p → box ≡ Empty → box_wait p box ≡ 2
  wait_empty zero box some is = absurd (omega (arith, some))
  wait_empty (suc p) box some is = ap (λ b. box_wait (suc p) b) is

  wait_asked : (p : ℕ) (box : FullBox V O R T) (b : List (Request V O R T)) (room : ℕ) → 1 ≤ p → box ≡ Asked b room → box_wait p box ≡ 1
  wait_asked zero box b room some is = absurd (omega (arith, some))
  wait_asked (suc p) box b room some is = ap (λ x. box_wait (suc p) x) is

  three_brought : (xs : List (Completion V O R T)) → brings_level xs ≡ 2 → brings_wait xs ≡ 3
  three_brought [] e = refl
  three_brought (x ∷ xs) e = absurd (omega (arith, e))

  none_brought : (xs : List (Completion V O R T)) → brings_level xs ≡ 0 → brings_wait xs ≡ 0
  none_brought [] e = absurd (omega (arith, e))
  none_brought (x ∷ xs) e = refl

  one_brought : (xs : List (Completion V O R T)) → brings_level xs ≡ 1 → ⊥
  one_brought [] e = omega (arith, e)
  one_brought (x ∷ xs) e = omega (arith, e)

  -- by the levels of a round
  box_three : (p : ℕ) (box : FullBox V O R T) → 1 ≤ p → box_level p box ≡ 2 → box_wait p box ≡ 3
  box_three zero box some e = absurd (omega (arith, some))
  box_three (suc p) (Answered a upto room) some e = three_brought a.completions.items e
  box_three (suc p) Empty some e = absurd (omega (arith, e))
  box_three (suc p) (Asked b room) some e = absurd (omega (arith, e))
  box_three (suc p) (Taken b room) some e = absurd (omega (arith, e))

  box_one : (p : ℕ) (box : FullBox V O R T) → 1 ≤ p → box_level p box ≡ 1 → 1 ≤ box_wait p box
  box_one zero box some e = absurd (omega (arith, some))
  box_one (suc p) (Answered a upto room) some e = absurd (one_brought a.completions.items e)
  box_one (suc p) Empty some e = omega arith
  box_one (suc p) (Asked b room) some e = omega arith
  box_one (suc p) (Taken b room) some e = omega arith

  box_nought : (p : ℕ) (box : FullBox V O R T) → box_level p box ≡ 0 → box_wait p box ≡ 0
  box_nought zero box e = refl
  box_nought (suc p) (Answered a upto room) e = none_brought a.completions.items e
  box_nought (suc p) Empty e = absurd (omega (arith, e))
  box_nought (suc p) (Asked b room) e = absurd (omega (arith, e))
  box_nought (suc p) (Taken b room) e = absurd (omega (arith, e))

  -- a light turn of a client brings its slot no further away; and nearer, where it was empty or answers stood there
  step_no_further : (old new : FullSlot V O R T) → 1 ≤ pending old.sent old.got → ClientStep old new → slot_wait new ≤ slot_wait old
  step_no_further old new some step =
      let p : ℕ = pending old.sent old.got in
      let same = step.same in
      let now : 1 ≤ pending new.sent new.got = omega (arith, same, some) in
      elim step.either [
        | inl (level, empty) ↦
            let three = box_three p old.box some level in
            let two = wait_empty (pending new.sent new.got) new.box now empty in omega (arith, three, two)
        | inr (level, (b, room, asked)) ↦
            let more = box_one p old.box some level in
            let one = wait_asked (pending new.sent new.got) new.box b room now asked in omega (arith, more, one)
      ]

  step_from_empty : (old new : FullSlot V O R T) → 1 ≤ pending old.sent old.got → old.box ≡ Empty → ClientStep old new → slot_wait new + 1 ≤ slot_wait old
  step_from_empty old new some is step =
      let p : ℕ = pending old.sent old.got in
      let same = step.same in
      let now : 1 ≤ pending new.sent new.got = omega (arith, same, some) in
      let was = wait_empty p old.box some is in
      elim step.either [
        | inl (level, empty) ↦ let three = box_three p old.box some level in absurd (omega (arith, three, was))
        | inr (level, (b, room, asked)) ↦
            let one = wait_asked (pending new.sent new.got) new.box b room now asked in omega (arith, was, one)
      ]

  step_from_answers :
      (old new : FullSlot V O R T) (a : AnswerBatch V O R T) (upto : List (Entry V O R T)) (room : ℕ) → 1 ≤ pending old.sent old.got → old.box ≡ Answered a upto room
      → ClientStep old new → slot_wait new + 1 ≤ slot_wait old
  step_from_answers old new a upto room some is step =
      let p : ℕ = pending old.sent old.got in
      let same = step.same in
      let now : 1 ≤ pending new.sent new.got = omega (arith, same, some) in
      elim step.either [
        | inl (level, empty) ↦
            let three = box_three p old.box some level in
            let two = wait_empty (pending new.sent new.got) new.box now empty in omega (arith, three, two)
        | inr (level, asked) ↦ absurd (one_brought a.completions.items (sym (level_brought p old.box a upto room some is) ∙ level))
      ]

  launches_few : (qs : List (Request V O R T)) → launches_in qs ≤ length (asks_in qs)
  launches_few [] = omega arith
  launches_few (Entrust v ∷ qs) = let rest = launches_few qs in omega (arith, rest)
  launches_few (Apply n op ∷ qs) = let rest = launches_few qs in omega (arith, rest)
  launches_few (Launch n task ∷ qs) = let rest = launches_few qs in omega (arith, rest)
  launches_few (Grant n d ∷ qs) = let rest = launches_few qs in omega (arith, rest)
  launches_few (Release n ∷ qs) = let rest = launches_few qs in omega (arith, rest)
  launches_few (Reclaim n ∷ qs) = let rest = launches_few qs in omega (arith, rest)
  launches_few (Bye ∷ qs) = launches_few qs

total_none : {X : Type 0} (f : X → ℕ) (xs : List X) → ((i : ℕ) (x : X) → slice_get xs i ≡ Some x → f x ≡ 0) → total f xs ≡ 0
total_none f [] none = refl
total_none f (x ∷ xs) none =
    let here = none 0 x refl in
    let rest = total_none f xs (λ i y e. none (suc i) y e) in omega (arith, here, rest)

total_at : {X : Type 0} (f : X → ℕ) (xs : List X) (i : ℕ) (x : X) → slice_get xs i ≡ Some x → f x ≤ total f xs
total_at f [] i x e = absurd cc
total_at f (y ∷ xs) zero x e = let is : y ≡ x = cc in let same = ap f is in omega (arith, same)
total_at f (y ∷ xs) (suc i) x e = let rest = total_at f xs i x e in omega (arith, rest)

total_same :
    {X : Type 0} (f : X → ℕ) (xs ys : List X) → length ys ≡ length xs
    → ((i : ℕ) (x y : X) → slice_get xs i ≡ Some x → slice_get ys i ≡ Some y → f y ≡ f x) → total f ys ≡ total f xs
total_same f [] [] many each = refl
total_same f [] (y ∷ ys) many each = absurd (omega (arith, many))
total_same f (x ∷ xs) [] many each = absurd (omega (arith, many))
total_same f (x ∷ xs) (y ∷ ys) many each =
    let here = each 0 x y refl refl in
    let rest = total_same f xs ys (omega (arith, many)) (λ i a b ea eb. each (suc i) a b ea eb) in omega (arith, here, rest)

-- of the slot of a client at a table
abbrev pub table_wait : {V O R T : Type 0} → ℕ → PlainTable V O R T → ℕ
table_wait c table = slot_wait (slot_in c table)

module _ {V C O R T : Type 0} (kind : Kind V O R T) where
  -- of all slots of a client
  abbrev pub waits_of : ℕ → Turns V C O R T → ℕ
  waits_of c turns = total (table_wait c) turns.tables.items

  -- what is still to do while client c is driven
  abbrev pub to_drive : ℕ → Turns V C O R T → ℕ
  to_drive c turns = 97 * weight kind turns + waits_of c turns

  module _ (laws : KindLaws kind) (config : Config) (first : List (First V)) where
    waits_most : (c : ℕ) (turns : Turns V C O R T) → AreOf kind config first turns → waits_of c turns ≤ 96
    waits_most c turns are =
        let most = total_most (table_wait c) 3 turns.tables.items
        (λ i table e. box_most (pending (slot_in c table).sent (slot_in c table).got) (slot_in c table).box) in
        let many = are.as_many_tables in
        let few : config.trustees ≤ 32 = are.buildable.trustees.1 in
        omega (arith, most, many, few)

    -- ---- a turn of the client

    light_waits :
        (c t : ℕ) (answer : Turn) (old new : Turns V C O R T) → AreOf kind config first old → (is : TurnsAt kind c t answer old new)
        → IsLight answer (client_at is.turned.lane.side) (client_at is.turned.becomes.side)
        → (table_wait c is.now ≤ table_wait c is.was) × (has_moved answer ≡ true → table_wait c is.now + 1 ≤ table_wait c is.was)
    light_waits c t (Got n) old new are is light =
        let within = table_below kind config first old are t is.was is.of_table in
        let got = is.turned.tells in
        let shows = shown_was kind config first c t old new are within (Got n) is in
        let p : pending_at (client_at is.turned.lane.side) ≡ pending (slot_in c is.was).sent (slot_in c is.was).got = ap (λ (v : ClientView V O R T). pending_at v) shows in
        let some = light.0 in
        let pends : 1 ≤ pending (slot_in c is.was).sent (slot_in c is.was).got = omega (arith, p, some) in
        let at : (client_at is.turned.lane.side).place ≡ c = ap (λ (v : ClientView V O R T). v.place) shows in
        let (upto, room, box) = got.did.may in
        let here : (slot_in c is.was).box ≡ Answered got.answers upto room = ap (λ k. (slot_of (core_at is.was) k).box) (sym at) ∙ box in
        let step = client_step kind config first c t old new are within (Got n) is light pends in
        let nearer = step_from_answers (slot_in c is.was) (slot_in c is.now) got.answers upto room pends here step in
        (omega (arith, nearer), λ moves. nearer)
    light_waits c t (Sent n) old new are is light =
        let within = table_below kind config first old are t is.was is.of_table in
        let sent = is.turned.tells in
        let shows = shown_was kind config first c t old new are within (Sent n) is in
        let p : pending_at (client_at is.turned.lane.side) ≡ pending (slot_in c is.was).sent (slot_in c is.was).got = ap (λ (v : ClientView V O R T). pending_at v) shows in
        let some = light.0 in
        let pends : 1 ≤ pending (slot_in c is.was).sent (slot_in c is.was).got = omega (arith, p, some) in
        let at : (client_at is.turned.lane.side).place ≡ c = ap (λ (v : ClientView V O R T). v.place) shows in
        let empty : (slot_in c is.was).box ≡ Empty = ap (λ k. (slot_of (core_at is.was) k).box) (sym at) ∙ sent.did.may in
        let step = client_step kind config first c t old new are within (Sent n) is light pends in
        let nearer = step_from_empty (slot_in c is.was) (slot_in c is.now) pends empty step in
        (omega (arith, nearer), λ moves. nearer)
    light_waits c t Pending old new are is light =
        let within = table_below kind config first old are t is.was is.of_table in
        let looked = is.turned.tells in
        let shows = shown_was kind config first c t old new are within Pending is in
        let place : (client_at is.turned.becomes.side).place ≡ c = looked.pending.place ∙ ap (λ (v : ClientView V O R T). v.place) shows in
        let then = shown kind config first c t old new are within is.now is.turned.becomes is.turned.keeps.mine place in
        let sent : (slot_in c is.now).sent ≡ (slot_in c is.was).sent =
        ap (λ (v : ClientView V O R T). v.sent) (sym then) ∙ looked.pending.sent ∙ ap (λ (v : ClientView V O R T). v.sent) shows in
        let got : (slot_in c is.now).got ≡ (slot_in c is.was).got =
        ap (λ (v : ClientView V O R T). v.got) (sym then) ∙ looked.pending.got ∙ ap (λ (v : ClientView V O R T). v.got) shows in
        let same : pending (slot_in c is.now).sent (slot_in c is.now).got ≡ pending (slot_in c is.was).sent (slot_in c is.was).got =
        ap (λ qs. pending qs (slot_in c is.now).got) sent ∙ ap (λ g. pending (slot_in c is.was).sent g) got in (
          elim (cases_eq (pending (slot_in c is.was).sent (slot_in c is.was).got) 0) [
            | inl none ↦
                let now = wait_none (pending (slot_in c is.now).sent (slot_in c is.now).got) (slot_in c is.now).box (same ∙ none) in omega (arith, now)
            | inr some ↦
                let pends : 1 ≤ pending (slot_in c is.was).sent (slot_in c is.was).got = omega (arith, some) in
                step_no_further (slot_in c is.was) (slot_in c is.now) pends (client_step kind config first c t old new are within Pending is light pends)
          ],
          λ moves. absurd (let never : false ≡ true = moves in cc),
        )
    light_waits c t Idle old new are is light =
        let same = ap (λ (x : PlainTable V O R T). table_wait c x) is.turned.tells.table in
        (omega (arith, same), λ moves. absurd (let never : false ≡ true = moves in cc))

    pub turn_drives :
        (c t : ℕ) (answer : Turn) (old new : Turns V C O R T) → AreOf kind config first old → TurnsAt kind c t answer old new
        → (to_drive c new ≤ to_drive c old) × (has_moved answer ≡ true → to_drive c new < to_drive c old)
    turn_drives c t answer old new are is =
        let most = waits_most c new (is.keeps config first are) in
        let sum = total_set (table_wait c) old.tables.items t is.was is.now is.of_table in
        let set : waits_of c new ≡ total (table_wait c) (slice_set old.tables.items t is.now) = ap (λ xs. total (table_wait c) xs) is.tables in
        elim (turn_lessens kind c t answer old new config first are is) [
          | inl less ↦ (omega (arith, less, most), λ moves. omega (arith, less, most))
          | inr (le, light) ↦
              let (no_further, nearer) = light_waits c t answer old new are is light in
              (omega (arith, le, sum, set, no_further), λ moves. let near = nearer moves in omega (arith, le, sum, set, near))
        ]

    -- ---- the serving turns of all

    -- what is out and has no answers is asked
    asked_at :
        (c t : ℕ) (turns : Turns V C O R T) → AreOf kind config first turns → (a : AwaitsAt c t turns)
        → (b : List (Request V O R T)) × (room : ℕ) × ((slot_in c a.table).box ≡ Asked b room)
    asked_at c t turns are a =
        let shows = lane_shows kind config first turns are t c a.table a.lane a.of_table a.has in
        let place : (client_at a.lane.side).place ≡ c = ap (λ (v : ClientView V O R T). v.place) shows in
        let slot = slot_in c a.table in
        let unanswered : is_answered slot.box ≡ false = ap (λ k. is_answered (slot_of (core_at a.table) k).box) (sym place) ∙ a.unanswered in
        let within = table_below kind config first turns are t a.table a.of_table in
        let trustees = are.as_many_trustees in
        let (trustee, of) = element_at turns.trustees.items t (omega (arith, within, trustees)) in
        let (hers, serving) = home_at kind config first turns are t a.table trustee a.of_table of in
        let free : hand_in slot.box ≡ None =
        sym (hand_at (core_at a.table).slots c) ∙ ap (λ (v : TrusteeView V O R T). hand_of v c) (sym hers.view) ∙ serving.free c in
        let is_out : batch_out slot.box slot.sent ≡ Some a.batch = ap (λ (v : ClientView V O R T). v.out) (sym shows) ∙ a.out in
        let (room, asked) = only_asked slot.box slot.sent a.batch is_out unanswered free in
        (a.batch.requests, room, asked)

    -- a launch that is pending counts
    counts : (c t : ℕ) (turns : Turns V C O R T) (lane : OneLane V C O R T) → AreOf kind config first turns → HasLane turns c t lane
        → 1 ≤ pending_at (client_at lane.side) → lane.counting ≢ 0
    counts c t turns lane are has some none =
        let (number, many, ok) = are.clients c has.client has.of_client in
        let own = (ok.lanes t lane has.of_lane).counting in
        let all = pending_are kind config first turns c t lane are has in
        let few = launches_few (out_requests (client_at lane.side).out) in
        let parts = length-append (asks_in (out_requests (client_at lane.side).out)) lane.waits.items in
        omega (arith, some, none, own, all, few, parts)

    -- a lane stays where trustees serve
    lanes_stay :
        (n c t : ℕ) (old new : Turns V C O R T) → AreOf kind config first old → AllGo kind (range_with_len config.clients config.trustees) n old new → c < config.clients
        → lane_at new c t ≡ lane_at old c t
    lanes_stay n c t old new are all below =
        all_same kind config first (λ (x : Turns V C O R T). lane_at x c t) (λ k. k ≢ c)
        (λ k moved a b its goes other. goes_lane kind config first k c t moved a b its goes other)
        (range_with_len config.clients config.trustees) n old new are
        (weaken (range_with_len config.clients config.trustees) (λ k h e. absurd (let low = h.0 in omega (arith, e, low, below))) (range_within config.clients config.trustees))
        all

    lane_there :
        (turns : Turns V C O R T) (c t : ℕ) → AreOf kind config first turns → c < config.clients → t < config.trustees
        → (lane : OneLane V C O R T) × HasLane turns c t lane × (lane_at turns c t ≡ Some lane)
    lane_there turns c t are below within =
        let clients = are.as_many_clients in
        let (client, of_client) = element_at turns.clients.items c (omega (arith, clients, below)) in
        let (number, many, ok) = are.clients c client of_client in
        let (lane, of_lane) = element_at client.books.lanes.items t (omega (arith, many, within)) in (
          lane,
          record { client = client; of_client = of_client; of_lane = of_lane },
          ap (λ o. flat (at_some (λ (x : OneClient V C O R T). slice_get x.books.lanes.items t) o)) of_client ∙ of_lane,
        )

    served_wait :
        (n c t : ℕ) (old new : Turns V C O R T) (table : PlainTable V O R T) → AreOf kind config first old → AreOf kind config first new → Awaits c old
        → AllGo kind (range_with_len config.clients config.trustees) n old new → weight kind old ≤ weight kind new → c < config.clients
        → slice_get new.tables.items t ≡ Some table → table_wait c table ≡ 0
    served_wait n c t old new table are are_new awaits all level below at =
        let within = table_below kind config first new are_new t table at in
        let tables = are.as_many_tables in
        let (was, at_was) = element_at old.tables.items t (omega (arith, tables, within)) in
        let (lane, has, there) = lane_there old c t are below within in
        let (after, has_new, there_new) = lane_there new c t are_new below within in
        let same : after ≡ lane = some_is after lane (sym there_new ∙ lanes_stay n c t old new are all below ∙ there) in
        let shows = lane_shows kind config first old are t c was lane at_was has in
        let shows_new = lane_shows kind config first new are_new t c table after at has_new in
        let p : pending_at (client_at lane.side) ≡ pending (slot_in c was).sent (slot_in c was).got = ap (λ (v : ClientView V O R T). pending_at v) shows in
        let p_new : pending_at (client_at after.side) ≡ pending (slot_in c table).sent (slot_in c table).got = ap (λ (v : ClientView V O R T). pending_at v) shows_new in
        let p_same = ap (λ (x : OneLane V C O R T). pending_at (client_at x.side)) same in
        elim (cases_eq (pending (slot_in c table).sent (slot_in c table).got) 0) [
          | inl none ↦ wait_none (pending (slot_in c table).sent (slot_in c table).got) (slot_in c table).box none
          | inr some ↦
              let a = awaits.each t lane has (counts c t old lane are has (omega (arith, p_new, p_same, some))) in
              let (b, room, asked) = asked_at c t old are a in
              let here : slot_at old t c ≡ Some (slot_in c a.table) = ap (λ o. at_some (slot_in c) o) a.of_table in
              let (pends, (then, at_then, nearer)) = serve_nearer kind laws config first n c t old new (slot_in c a.table) b room are all level below within here asked in
              let is : slot_in c table ≡ then = some_is (slot_in c table) then (sym (ap (λ o. at_some (slot_in c) o) at) ∙ at_then) in
              let one = level_asked (pending (slot_in c a.table).sent (slot_in c a.table).got) (slot_in c a.table).box b room pends asked in
              let nought : slot_level then ≡ 0 = omega (arith, nearer, one) in
              ap (λ (s : FullSlot V O R T). slot_wait s) is ∙ box_nought (pending then.sent then.got) then.box nought
        ]

    pub serves_drive :
        (n c : ℕ) (old new : Turns V C O R T) → AreOf kind config first old → Awaits c old → ServesEach kind n old new → to_drive c new < to_drive c old
    serves_drive n c old new are awaits serves =
        let clients = are.as_many_clients in
        let trustees = are.as_many_trustees in
        let all : AllGo kind (range_with_len config.clients config.trustees) n old new =
        subst (λ k. AllGo kind (range_with_len config.clients k) n old new) trustees (subst (λ k. AllGo kind (range_with_len k (length old.trustees.items)) n old new) clients serves) in
        let are_new = all_keep kind (range_with_len config.clients config.trustees) n old new all config first are in
        let falls = all_fall kind laws config first (range_with_len config.clients config.trustees) n old new are all in
        let most = waits_most c new are_new in
        elim (cases_lt (weight kind new) (weight kind old)) [
          | inl less ↦ omega (arith, less, most)
          | inr level ↦
              let a = awaits.one in
              let t = awaits.trustee in
              let inside = slice_get_within old.clients.items c a.has.client a.has.of_client in
              let below : c < config.clients = omega (arith, inside, clients) in
              let within = table_below kind config first old are t a.table a.of_table in
              let none = total_none (table_wait c) new.tables.items (λ i table at. served_wait n c i old new table are are_new awaits all level below at) in
              let (b, room, asked) = asked_at c t old are a in
              let here : slot_at old t c ≡ Some (slot_in c a.table) = ap (λ o. at_some (slot_in c) o) a.of_table in
              let (pends, nearer) = serve_nearer kind laws config first n c t old new (slot_in c a.table) b room are all level below within here asked in
              let one = wait_asked (pending (slot_in c a.table).sent (slot_in c a.table).got) (slot_in c a.table).box b room pends asked in
              let some = total_at (table_wait c) old.tables.items t a.table a.of_table in
              omega (arith, falls, none, one, some)
        ]

  -- ---- what the client takes

  takes_drive : (c : ℕ) (client becomes : OneClient V C O R T) (old new : Turns V C O R T) → TakesAt c client becomes old new → to_drive c new ≡ to_drive c old
  takes_drive c client becomes old new is =
      let calls = is.calls in
      let lanes : client_weight kind becomes ≡ client_weight kind client =
      total_same (lane_weight kind) client.books.lanes.items becomes.books.lanes.items is.as_many
      (λ i lane after e f.
      let (side, waits, fetching) = is.lanes i lane after e f in
      ap (λ s. lane_weight kind (record after { side = s })) side
      ∙ ap (λ w. lane_weight kind (record after { side = lane.side; waits = w })) waits
      ∙ ap (λ b. lane_weight kind (record after { side = lane.side; waits = lane.waits; fetching = b })) fetching) in
      let clients = total_set (client_weight kind) old.clients.items c client becomes calls.of_client in
      let of_clients : total (client_weight kind) new.clients.items ≡ total (client_weight kind) (slice_set old.clients.items c becomes) =
      ap (λ xs. total (client_weight kind) xs) calls.clients in
      let trustees : total (trustee_weight kind) new.trustees.items ≡ total (trustee_weight kind) old.trustees.items =
      ap (λ xs. total (trustee_weight kind) xs.items) calls.trustees in
      let tables : tables_weight kind new.tables.items ≡ tables_weight kind old.tables.items = ap (λ xs. tables_weight kind xs.items) calls.tables in
      let slots : waits_of c new ≡ waits_of c old = ap (λ xs. total (table_wait c) xs.items) calls.tables in
      omega (arith, lanes, clients, of_clients, trustees, tables, slots)

  -- it is a number that tells how much is still to do
  same_lists : (c : ℕ) (old new : Turns V C O R T) → new.clients.items ≡ old.clients.items → new.tables.items ≡ old.tables.items
      → new.trustees.items ≡ old.trustees.items → to_drive c new ≡ to_drive c old
  same_lists c old new clients tables trustees =
      let of_clients : total (client_weight kind) new.clients.items ≡ total (client_weight kind) old.clients.items = ap (λ xs. total (client_weight kind) xs) clients in
      let of_trustees : total (trustee_weight kind) new.trustees.items ≡ total (trustee_weight kind) old.trustees.items =
      ap (λ xs. total (trustee_weight kind) xs) trustees in
      let of_tables : tables_weight kind new.tables.items ≡ tables_weight kind old.tables.items = ap (λ xs. tables_weight kind xs) tables in
      let slots : waits_of c new ≡ waits_of c old = ap (λ xs. total (table_wait c) xs) tables in
      omega (arith, of_clients, of_trustees, of_tables, slots)

  pub is_to_drive : KindLaws kind → (c : ℕ) → IsToDrive kind c (to_drive c)
  is_to_drive laws c = record {
    lists = λ old new clients tables trustees. same_lists c old new clients tables trustees;
    takes = takes_drive c;
    turns = λ t answer old new (config, first, are) is. turn_drives laws config first c t answer old new are (turned_at kind c t answer old new is);
    serves = λ n old new (config, first, are) awaits serves. serves_drive laws config first n c old new are awaits serves;
  }

  -- a turn that said `Pending` looked in vain for the answers to a batch
  pub pending_awaits : (c t : ℕ) (old new : Turns V C O R T) → AreTurns kind old → TurnedAt kind c t Pending old new → AwaitsAt c t new
  pending_awaits c t old new (config, first, are) is =
      let looked = is.turned.tells in
      let (batch, was_out, now_out) = looked.pending.out in
      let inside = slice_get_within old.clients.items c is.client is.of_client in
      let below = slice_get_within is.client.books.lanes.items t is.turned.lane is.turned.turns.of_lane in
      let there = slice_get_within old.tables.items t is.was is.of_table in
      let place = looked.pending.place in
      record {
        lane = is.turned.becomes;
        table = is.now;
        has = record {
          client = is.becomes;
          of_client = subst (λ xs. slice_get xs c ≡ Some is.becomes) (sym is.clients) (set_here old.clients.items c is.becomes inside);
          of_lane = subst (λ xs. slice_get xs t ≡ Some is.turned.becomes) (sym is.turned.turns.lanes) (set_here is.client.books.lanes.items t is.turned.becomes below);
        };
        of_table = subst (λ xs. slice_get xs t ≡ Some is.now) (sym is.tables) (set_here old.tables.items t is.now there);
        batch = batch;
        out = now_out;
        unanswered =
            ap (λ k. is_answered (slot_of (core_at is.now) k).box) place
            ∙ ap (λ (core : FullCore V O R T). is_answered (slot_of core (client_at is.turned.lane.side).place).box) looked.did.core
            ∙ ap (λ b. is_answered b) (collect_none (core_at is.was) (client_at is.turned.lane.side).place (client_at is.turned.lane.side).place looked.did.may)
            ∙ looked.did.may;
      }
