-- Each round in which something moves lessens what is to do, or brings a completion nearer for which a client waits.
use Rattle.std.proofs.Common.{◌≡◌, ℕ, zero, suc, ◌+◌, ◌*◌, ◌-◌, ◌^◌, ◌≤◌, ◌<◌, ◌⊎◌, inl, inr, Bool, true, false, cond, List, [], ◌∷◌, length, min, slice_index_or, refl, sym, ◌∙◌, ap, subst, arith}
use Rattle.std.specs.Prelude.{slice_get, nat_lt, ◌||◌}
use Rattle.std.specs.declared.option.Option.TheVariants.{Some}
use Rattle.std.proofs.lemmas.Bool.{cases_lt}
use Rattle.std.proofs.lemmas.Option.{slice_get_within, slice_get-get_or}
use Rattle.tm_seq.specs.Kind.{Kind, KindLaws}
use Rattle.tm_batch.specs.declared.config.Config.{Config}
use Rattle.tm_batch.specs.declared.config.First.{First}
use Rattle.tm_batch.specs.declared.message.Request.{Request}
use Rattle.tm_model.specs.Holds.{launches_in}
use Rattle.tm_model.specs.State.{State, place_count}
use Rattle.tm_model.specs.Slots.{Asked, no_slot, slot_of, looked}
use Rattle.tm_model.specs.Good.{FullSlot}
use Rattle.tm_pair.specs.Views.{ClientView, looks_at, no_looks}
use Rattle.tm_pair.specs.Plain.{opening_at, core_at, client_at, trustee_at, plain_theory}
use Rattle.tm_pair.specs.declared.plain.PlainTable.{PlainTable}
use Rattle.tm_pair.specs.declared.plain.PlainClient.{PlainClient}
use Rattle.tm_pair.specs.declared.plain.PlainTrustee.{PlainTrustee}
use Rattle.tm_trustee.specs.Places.{ServesBelow, found_below}
use Rattle.tm_trustee.specs.Serving.{resumes_in, done_by}
use Rattle.tm_trustee.specs.declared.served.Served.{Served}
use Rattle.tm_trustee.proofs.Elements.{element_at, there_too, mapped}
use Rattle.tm_trustee.proofs.Serving.{found_one_more}
use Rattle.tm_trustee.proofs.TurningReady.{own_table, at_home}
use Rattle.tm_client.specs.declared.answers.Turn.{Turn}
use Rattle.tm_client.specs.declared.answers.Turn.TheVariants.{Sent, Pending, Got, Idle}
use Rattle.tm_turns.specs.Whole.{OneLane, HasLane, AreOf}
use Rattle.tm_turns.specs.Going.{has_moved, TurnsAt, TurnsBelow, ServesAt, Goes, AllGo, GoesRound}
use Rattle.tm_turns.specs.declared.turns.Turns.{Turns}
use Rattle.tm_turns.proofs.AskedServed.{passed_found}
use Rattle.tm_turns.proofs.Falling.{IsLightServe, weight, turn_lessens, serve_lessens, no_more, below_keeps, goes_keeps, all_keep, below_falls, goes_falls, all_fall}
use Rattle.tm_turns.proofs.Levels.{slot_level, level_most, level_pending, least_most, least_at, least_found, core_level, level}
use Rattle.tm_turns.proofs.Light.{pending}
use Rattle.tm_turns.proofs.LightRound.{table_there, round_nearer}
use Rattle.tm_turns.proofs.Ones.{one_of, bool_cases}
use Rattle.tm_turns.proofs.Others.{slot_in, slot_at}
use Rattle.tm_turns.proofs.Quiet.{at_some, flat, Marks, marks, marks_of, marks_at, Still}
use Rattle.tm_turns.proofs.Rest.{some_is, below_still, goes_still}
use Rattle.tm_turns.proofs.Seated.{side_at, lane_shows, seat_shows, table_below, places_are, home_at}
use Rattle.tm_turns.proofs.ServedWeighs.{places_other}
use Rattle.tm_turns.proofs.Unlaunched.{launches_none}
use Rattle.tm_turns.proofs.Weights.{IsLight, pending_at}
use Rattle.tm_turns.proofs.WeightsUp.{moved_at}

module _ {V O R T : Type 0} (kind : Kind V O R T) (opening : State V O R T) where
  -- a place at which a look found a batch
  found_asked :
      (n : ℕ) (was now : PlainTable V O R T) (old new : PlainTrustee V O R T) → ServesBelow (plain_theory kind) kind opening n was now old new
      → 1 ≤ found_below n (trustee_at new)
      → (p : ℕ) × (p < n) × ((b : List (Request V O R T)) × (room : ℕ) × ((slot_of (core_at was) p).box ≡ Asked b room))
  unfolding ServesBelow found_below
  found_asked zero was now old new none some = absurd (omega (arith, some))
  found_asked (suc n) was now old new (between, mid, below, mine, inl passes) some =
      let e : n + 1 ≡ suc n = omega arith in
      let more : found_below (suc n) (trustee_at new) ≡ found_below n (trustee_at mid) + cond (looks_at (trustee_at new) n).found 1 0 =
      subst (λ k. found_below k (trustee_at new) ≡ found_below n (trustee_at mid) + cond (looks_at (trustee_at new) n).found 1 0) e
      (found_one_more (plain_theory kind) kind opening n between now mid new (inl passes)) in
      let none : (looks_at (trustee_at new) n).found ≡ false =
      ap (λ looks. (slice_index_or looks n no_looks).found) passes.sees.looks
      ∙ passed_found (trustee_at mid).looks n (looked false (looks_at (trustee_at mid) n)) refl in
      let nought : cond (looks_at (trustee_at new) n).found 1 0 ≡ 0 = ap (λ b. one_of b) none in
      let (p, lt, asked) = found_asked n was between old mid below (omega (arith, some, more, nought)) in
      (p, omega (arith, lt), asked)
  found_asked (suc n) was now old new (between, mid, below, mine, inr answers) some =
      let same = places_other kind opening n n was between old mid below (omega arith) in
      (n, omega arith, (answers.batch.requests.items, answers.batch.room, ap (λ (s : FullSlot V O R T). s.box) (sym same) ∙ answers.saw.may))

lt_true : (n : ℕ) → nat_lt 0 n ≡ true → 1 ≤ n
lt_true zero e = absurd cc
lt_true (suc n) e = omega arith

or_true : (b a : Bool) → (b || a) ≡ true → (b ≡ true) ⊎ ((b ≡ false) × (a ≡ true))
or_true true a e = inl refl
or_true false a e = inr (refl, e)

module _ {V C O R T : Type 0} (kind : Kind V O R T) (laws : KindLaws kind) (config : Config) (first : List (First V)) where
  -- of trustees' sides none launched anything
  pub pending_client :
      (turns : Turns V C O R T) (t p : ℕ) (table : PlainTable V O R T) → AreOf kind config first turns → slice_get turns.tables.items t ≡ Some table
      → p < place_count (opening_at table).setup → 1 ≤ pending (slot_in p table).sent (slot_in p table).got
      → (lane : OneLane V C O R T) × HasLane turns p t lane × (1 ≤ pending_at (client_at lane.side))
  pending_client turns t p table are at lt some =
      elim (side_at kind config first turns are t p table at lt) [
        | inl (lane, has) ↦
            let shows = lane_shows kind config first turns are t p table lane at has in
            let same : pending_at (client_at lane.side) ≡ pending (slot_in p table).sent (slot_in p table).got = ap (λ (v : ClientView V O R T). pending_at v) shows in
            (lane, has, omega (arith, same, some))
        | inr s ↦
            let (number, ready) = are.trustees s.number s.trustee s.of_trustee in
            let (own, at_own) = own_table (plain_theory kind) kind turns.tables.items s.trustee ready in
            let home = at_home (plain_theory kind) kind turns.tables.items s.trustee own ready at_own in
            let asked = home.1.above.asked s.index (client_at s.seat)
            (mapped (λ (side : PlainClient V O R T). client_at side) s.trustee.above.items s.index s.seat s.of_seat) in
            let none : launches_in (slot_in p table).sent ≡ 0 =
            ap (λ (view : ClientView V O R T). launches_in view.sent) (sym (seat_shows kind config first turns are t p table at s)) ∙ launches_none (client_at s.seat).sent asked in
            absurd (omega (arith, none, some))
      ]

  -- a client has a launch that is pending
  pub record IsPendingLane (turns : Turns V C O R T) : Type 0 where
    pub client : ℕ
    pub trustee : ℕ
    pub lane : OneLane V C O R T
    pub has : HasLane turns client trustee lane
    pub some : 1 ≤ pending_at (client_at lane.side)

  -- so it had where nothing moved since
  pending_before :
      (old new : Turns V C O R T) → AreOf kind config first old → AreOf kind config first new → Still old new → IsPendingLane new → IsPendingLane old
  pending_before old new are are_new still is =
      let c = is.client in
      let t = is.trustee in
      let lane = is.lane in
      let inside = slice_get_within new.clients.items c is.has.client is.has.of_client in
      let within = slice_get_within is.has.client.books.lanes.items t lane is.has.of_lane in
      let clients = are.as_many_clients in
      let clients_new = are_new.as_many_clients in
      let (number_new, many_new, ok_new) = are_new.clients c is.has.client is.has.of_client in
      let (client, of_client) = element_at old.clients.items c (omega (arith, inside, clients, clients_new)) in
      let (number, many, ok) = are.clients c client of_client in
      let (before, of_lane) = element_at client.books.lanes.items t (omega (arith, within, many, many_new)) in
      let now : marks_at new c t ≡ Some (marks lane) =
      ap (λ o. flat (at_some (marks_of t) o)) is.has.of_client ∙ ap (λ o. at_some marks o) is.has.of_lane in
      let was : marks_at old c t ≡ Some (marks before) =
      ap (λ o. flat (at_some (marks_of t) o)) of_client ∙ ap (λ o. at_some marks o) of_lane in
      let same : marks lane ≡ marks before = some_is (marks lane) (marks before) (sym now ∙ still.lanes c t ∙ was) in
      let pends : pending_at (client_at lane.side) ≡ pending_at (client_at before.side) = ap (λ (m : Marks V C O R T). pending m.sent m.got) same in
      let some = is.some in
      record {
        client = c;
        trustee = t;
        lane = before;
        has = record { client = client; of_client = of_client; of_lane = of_lane };
        some = omega (arith, pends, some);
      }

  turn_pending :
      (c t : ℕ) (answer : Turn) (old new : Turns V C O R T) → AreOf kind config first old → (is : TurnsAt kind c t answer old new)
      → IsLight answer (client_at is.turned.lane.side) (client_at is.turned.becomes.side) → has_moved answer ≡ true → IsPendingLane old
  turn_pending c t (Got n) old new are is light moved = record {
    client = c;
    trustee = t;
    lane = is.turned.lane;
    has = record { client = is.client; of_client = is.of_client; of_lane = is.turned.turns.of_lane };
    some = light.0;
  }
  turn_pending c t (Sent n) old new are is light moved = record {
    client = c;
    trustee = t;
    lane = is.turned.lane;
    has = record { client = is.client; of_client = is.of_client; of_lane = is.turned.turns.of_lane };
    some = light.0;
  }
  turn_pending c t Pending old new are is light moved = absurd cc
  turn_pending c t Idle old new are is light moved = absurd cc

  below_pending :
      (c n : ℕ) (moved : Bool) (old new : Turns V C O R T) → AreOf kind config first old → TurnsBelow kind c n moved old new
      → weight kind old ≤ weight kind new → moved ≡ true → IsPendingLane old
  unfolding TurnsBelow
  below_pending c zero moved old new are (none, same) flat_w is = absurd (let never : true ≡ false = sym is ∙ none in cc)
  below_pending c (suc n) moved old new are (mid, before, answer, below, here, either) flat_w is =
      let kept = below_keeps kind c n before old mid below config first are in
      let f1 = below_falls kind laws config first c n before old mid are below in
      let falls = turn_lessens kind c n answer mid new config first kept here in
      let f2 = no_more kind mid new _ falls in
      elim (or_true before (has_moved answer) (sym either ∙ is)) [
        | inl moves ↦ below_pending c n before old mid are below (omega (arith, f2, flat_w)) moves
        | inr (quiet, moves) ↦
            elim falls [
              | inl less ↦ absurd (omega (arith, less, f1, flat_w))
              | inr (le, light) ↦
                  pending_before old mid are kept (below_still kind config first c n before old mid below quiet)
                  (turn_pending c n answer mid new kept here light moves)
            ]
      ]

  serve_pending :
      (t : ℕ) (served : Served) (old new : Turns V C O R T) → AreOf kind config first old → (is : ServesAt kind t served old new)
      → IsLightServe kind t served old new is → 1 ≤ is.becomes.moved → IsPendingLane old
  serve_pending t served old new are is light moves =
      let (number, ready) = are.trustees t is.trustee is.of_trustee in
      let (was, at_n) = own_table (plain_theory kind) kind old.tables.items is.trustee ready in
      let (now, now_n) = there_too old.tables.items new.tables.items is.trustee.number was is.tables.as_many at_n in
      let at_was : slice_get old.tables.items t ≡ Some was = subst (λ k. slice_get old.tables.items k ≡ Some was) number at_n in
      let turned = is.turned was now at_n now_n in
      let places = place_count (opening_at was).setup in
      let since : ℕ = found_below places (trustee_at is.becomes.side)
      + (resumes_in (done_by (plain_theory kind) is.becomes) - resumes_in (done_by (plain_theory kind) is.trustee))
      + moved_at kind is.trustee.above.items is.becomes.above.items in
      let moved : is.becomes.moved ≡ min since (2 ^ 64 - 1) = turned.moved in
      let resumes = light.resumes in
      let quiet = light.quiet in
      let (p, lt, (b, room, asked)) = found_asked kind (opening_at was) places was now is.trustee.side is.becomes.side turned.serves (omega (arith, moved, moves, resumes, quiet)) in
      let some = (light.slots was at_was p lt b room asked).1 in
      let (lane, has, pends) = pending_client old t p was are at_was lt some in
      record { client = p; trustee = t; lane = lane; has = has; some = pends }

  goes_pending :
      (k : ℕ) (moved : Bool) (old new : Turns V C O R T) → AreOf kind config first old → Goes kind k moved old new
      → weight kind old ≤ weight kind new → moved ≡ true → IsPendingLane old
  goes_pending k moved old new are (inl client) flat_w is = below_pending k (length old.tables.items) moved old new are client.1 flat_w is
  goes_pending k moved old new are (inr (inl (t, at, lt, (served, serves, moves)))) flat_w is =
      elim (serve_lessens kind laws t served old new config first are serves) [
        | inl less ↦ absurd (omega (arith, less, flat_w))
        | inr (le, light) ↦ serve_pending t served old new are serves light (lt_true serves.becomes.moved (sym moves ∙ is))
      ]
  goes_pending k moved old new are (inr (inr (beyond, none, same))) flat_w is = absurd (let never : true ≡ false = sym is ∙ none in cc)

  -- where something moved and as much is to do, a client has a launch that is pending
  all_pending :
      (ks : List ℕ) (n : ℕ) (old new : Turns V C O R T) → AreOf kind config first old → AllGo kind ks n old new → weight kind old ≤ weight kind new → 1 ≤ n
      → IsPendingLane old
  unfolding AllGo
  all_pending [] n old new are (none, same) flat_w some = absurd (omega (arith, none, some))
  all_pending (k ∷ ks) n old new are (mid, moved, more, goes, rest, is) flat_w some =
      let kept = goes_keeps kind k moved old mid goes config first are in
      let f1 = goes_falls kind laws config first k moved old mid are goes in
      let f2 = all_fall kind laws config first ks more mid new kept rest in
      elim (bool_cases moved) [
        | inl moves ↦ goes_pending k moved old mid are goes (omega (arith, f2, flat_w)) moves
        | inr quiet ↦
            let none : cond moved 1 0 ≡ 0 = ap (λ b. one_of b) quiet in
            pending_before old mid are kept (goes_still kind config first k moved old mid are goes quiet)
            (all_pending ks more mid new kept rest (omega (arith, f1, flat_w)) (omega (arith, is, some, none)))
      ]

  -- a table has a slot for each place
  core_places :
      (turns : Turns V C O R T) → AreOf kind config first turns → (t : ℕ) (table : PlainTable V O R T) → slice_get turns.tables.items t ≡ Some table
      → length (core_at table).slots ≡ place_count (opening_at table).setup
  core_places turns are t table at =
      let within = table_below kind config first turns are t table at in
      let trustees = are.as_many_trustees in
      let (trustee, of) = element_at turns.trustees.items t (omega (arith, within, trustees)) in
      (home_at kind config first turns are t table trustee at of).0.of_table.good.places

  -- the level of the whole is no more than that of a slot
  level_of :
      (turns : Turns V C O R T) (t c : ℕ) (slot : FullSlot V O R T) → AreOf kind config first turns → t < config.trustees → c < config.clients
      → slot_at turns t c ≡ Some slot → level turns ≤ slot_level slot
  level_of turns t c slot are within below at =
      let (table, of_table, there) = table_there kind laws config first turns t c are within in
      let is : slot ≡ slot_in c table = some_is slot (slot_in c table) (sym at ∙ there) in
      let places = places_are kind config first turns are t table of_table in
      let slots = core_places turns are t table of_table in
      let of_slot : slice_get (core_at table).slots c ≡ Some (slot_in c table) =
      slice_get-get_or (core_at table).slots c no_slot (omega (arith, slots, places, below)) in
      let tables = least_at (λ (x : PlainTable V O R T). core_level (core_at x)) turns.tables.items t table of_table in
      let own = least_at slot_level (core_at table).slots c (slot_in c table) of_slot in
      let same = ap (λ (s : FullSlot V O R T). slot_level s) is in
      omega (arith, tables, own, same)

  -- a slot of the least level of which a launch is pending, if there is one
  record LeastSlot (turns : Turns V C O R T) : Type 0 where
    c : ℕ
    t : ℕ
    slot : FullSlot V O R T
    below : c < config.clients
    within : t < config.trustees
    at : slot_at turns t c ≡ Some slot
    some : 1 ≤ pending slot.sent slot.got
    least_is : slot_level slot ≤ level turns

  slot_of_lane :
      (turns : Turns V C O R T) → AreOf kind config first turns → IsPendingLane turns → ((slot : FullSlot V O R T) → slot_level slot ≤ level turns) → LeastSlot turns
  slot_of_lane turns are is most =
      let c = is.client in
      let t = is.trustee in
      let within = slice_get_within is.has.client.books.lanes.items t is.lane is.has.of_lane in
      let inside = slice_get_within turns.clients.items c is.has.client is.has.of_client in
      let clients = are.as_many_clients in
      let (number, many, ok) = are.clients c is.has.client is.has.of_client in
      let below : c < config.clients = omega (arith, inside, clients) in
      let t_below : t < config.trustees = omega (arith, within, many) in
      let (table, at, there) = table_there kind laws config first turns t c are t_below in
      let shows = lane_shows kind config first turns are t c table is.lane at is.has in
      let same : pending_at (client_at is.lane.side) ≡ pending (slot_in c table).sent (slot_in c table).got = ap (λ (v : ClientView V O R T). pending_at v) shows in
      let some = is.some in
      record { c = c; t = t; slot = slot_in c table; below = below; within = t_below; at = there; some = omega (arith, same, some); least_is = most (slot_in c table) }

  least_slot :
      (n : ℕ) (old new : Turns V C O R T) → AreOf kind config first old → GoesRound kind n old new → weight kind old ≤ weight kind new → 1 ≤ n → LeastSlot old
  least_slot n old new are round flat_w some =
      elim (cases_lt (level old) 2) [
        | inl lt ↦
            let (t, table, at, le) = least_found (λ (x : PlainTable V O R T). core_level (core_at x)) old.tables.items lt in
            let (p, slot, of_slot, less) = least_found slot_level (core_at table).slots (omega (arith, le, lt)) in
            let pends = level_pending slot (omega (arith, less, le, lt)) in
            let p_lt = slice_get_within (core_at table).slots p slot of_slot in
            let within = table_below kind config first old are t table at in
            let is : slot ≡ slot_in p table = some_is slot (slot_in p table) (sym of_slot ∙ slice_get-get_or (core_at table).slots p no_slot p_lt) in
            let slots = core_places old are t table at in
            let pends_in : 1 ≤ pending (slot_in p table).sent (slot_in p table).got = subst (λ (s : FullSlot V O R T). 1 ≤ pending s.sent s.got) is pends in
            let (lane, has, pends_lane) = pending_client old t p table are at (omega (arith, p_lt, slots)) pends_in in
            let inside = slice_get_within old.clients.items p has.client has.of_client in
            let clients = are.as_many_clients in
            record {
              c = p;
              t = t;
              slot = slot;
              below = omega (arith, inside, clients);
              within = within;
              at = ap (λ o. at_some (slot_in p) o) at ∙ ap (λ s. Some s) (sym is);
              some = pends;
              least_is = omega (arith, less, le);
            }
        | inr high ↦
            slot_of_lane old are (all_pending _ n old new are round flat_w some) (λ slot. let most = level_most slot in omega (arith, most, high))
      ]

  -- the measure of a run falls with each round in which something moves
  pub round_lessens :
      (n : ℕ) (old new : Turns V C O R T) → AreOf kind config first old → GoesRound kind n old new → 1 ≤ n
      → 3 * weight kind new + level new + 1 ≤ 3 * weight kind old + level old
  round_lessens n old new are round some =
      let falls = all_fall kind laws config first _ n old new are round in
      let most = least_most (λ (x : PlainTable V O R T). core_level (core_at x)) new.tables.items in
      elim (cases_lt (weight kind new) (weight kind old)) [
        | inl less ↦ omega (arith, less, most)
        | inr flat_w ↦
            let s = least_slot n old new are round flat_w some in
            let (then, at, nearer) = round_nearer kind laws config first n s.c s.t old new s.slot are round flat_w s.below s.within s.at s.some in
            let are_new = all_keep kind _ n old new round config first are in
            let now = level_of new s.t s.c then are_new s.within s.below at in
            let was = s.least_is in
            omega (arith, falls, flat_w, nearer, now, was)
      ]

-- what a run lessens
abbrev pub measure : {V C O R T : Type 0} → Kind V O R T → Turns V C O R T → ℕ
measure kind turns = 3 * weight kind turns + level turns
