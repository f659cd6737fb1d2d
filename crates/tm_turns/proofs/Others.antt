-- What a turn leaves as it is: the slots of other places, the lanes of other clients, and other trustees.
use Rattle.std.proofs.Common.{◌≡◌, ◌≢◌, ℕ, zero, suc, ◌+◌, ◌-◌, inl, inr, List, [], ◌∷◌, length, refl, sym, ◌∙◌, ap, subst, arith, get_or-set_other}
use Rattle.std.specs.Prelude.{slice_get}
use Rattle.std.specs.declared.option.Option.{Option}
use Rattle.std.specs.declared.option.Option.TheVariants.{Some}
use Rattle.std.proofs.lemmas.Bool.{cases_order}
use Rattle.std.proofs.lemmas.Option.{slice_get_within}
use Rattle.tm_seq.specs.Kind.{Kind}
use Rattle.tm_batch.specs.declared.config.Config.{Config}
use Rattle.tm_batch.specs.declared.config.First.{First}
use Rattle.tm_batch.specs.declared.message.Request.{Request}
use Rattle.tm_model.specs.Good.{FullCore, FullSlot}
use Rattle.tm_model.specs.Slots.{no_slot, slot_of, publish, collect}
use Rattle.tm_pair.specs.Views.{ClientView}
use Rattle.tm_pair.specs.Calls.{Collects}
use Rattle.tm_pair.specs.Plain.{core_at, client_at, plain_theory}
use Rattle.tm_pair.specs.declared.table.Collected.{Collected}
use Rattle.tm_pair.specs.declared.table.Collected.TheVariants.{Answers, Pending as Waiting, Idle as Nothing}
use Rattle.tm_pair.specs.declared.plain.PlainTable.{PlainTable}
use Rattle.tm_pair.specs.declared.plain.PlainClient.{PlainClient}
use Rattle.tm_trustee.specs.Above.{ExchangesAt, SaysByeAt, GoesUpAt}
use Rattle.tm_trustee.specs.declared.served.Served.{Served}
use Rattle.tm_trustee.proofs.Elements.{element_at, there_too, set_here, set_other, mapped}
use Rattle.tm_trustee.proofs.TurningReady.{own_table, at_home}
use Rattle.tm_client.specs.declared.answers.Turn.{Turn}
use Rattle.tm_client.specs.declared.answers.Turn.TheVariants.{Sent, Pending, Got, Idle}
use Rattle.tm_turns.specs.Whole.{OneClient, OneLane, OneTrustee, AreOf}
use Rattle.tm_turns.specs.Going.{TurnsAt, ServesAt}
use Rattle.tm_turns.specs.declared.turns.Turns.{Turns}
use Rattle.tm_turns.proofs.TurnKeeps.{place_of_lane}
use Rattle.tm_turns.proofs.ServeKeeps.{clients_of}
use Rattle.tm_turns.proofs.Quiet.{at_some, some_set, flat}

module _ {V O R T : Type 0} where
  -- the slot of place p of a table
  abbrev pub slot_in : ℕ → PlainTable V O R T → FullSlot V O R T
  slot_in p table = slot_of (core_at table) p

  collect_other : (c k : ℕ) (core : FullCore V O R T) → k ≢ c → slot_of (collect c core) k ≡ slot_of core k
  collect_other c k core ne = get_or-set_other core.slots c k _ no_slot ne

  publish_other :
      (c k : ℕ) (b : List (Request V O R T)) (room : ℕ) (core : FullCore V O R T) → k ≢ c → slot_of (publish c b room core) k ≡ slot_of core k
  publish_other c k b room core ne = get_or-set_other core.slots c k _ no_slot ne

  -- calls at a side leave the slots of other places
  module _ (kind : Kind V O R T) where
    same_place : (found : Collected V O R T) (old mid : ClientView V O R T) → Collects old mid found → mid.place ≡ old.place
    same_place Nothing old mid idle = ap (λ v. v.place) idle.kept
    same_place Waiting old mid pending = pending.place
    same_place (Answers a) old mid gets = gets.place

    exchange_other :
        (waits : List (ℕ × O)) (k : ℕ) (was between : PlainTable V O R T) (old mid : PlainClient V O R T) → ExchangesAt (plain_theory kind) waits was between old mid
        → k ≢ (client_at old).place → (slot_in k between ≡ slot_in k was) × ((client_at mid).place ≡ (client_at old).place)
    exchange_other waits k was between old mid (inl (some, (found, collects, did, keeps))) ne = (
      ap (λ (core : FullCore V O R T). slot_of core k) did.core ∙ collect_other (client_at old).place k (core_at was) ne,
      same_place found (client_at old) (client_at mid) collects,
    )
    exchange_other waits k was between old mid (inr (inl (free, some, (batch, applies, first, room, publishes, did, keeps)))) ne = (
      ap (λ (core : FullCore V O R T). slot_of core k) did.core
          ∙ publish_other (client_at old).place k batch.requests.items batch.room (core_at was) ne,
      publishes.place,
    )
    exchange_other waits k was between old mid (inr (inr (free, none, same, kept, keeps))) ne =
        (ap (λ (x : PlainTable V O R T). slot_in k x) same, ap (λ v. v.place) kept)

    says_other :
        (all : Type 0) (k : ℕ) (between now : PlainTable V O R T) (mid after : PlainClient V O R T) → SaysByeAt (plain_theory kind) all between now mid after
        → k ≢ (client_at mid).place → slot_in k now ≡ slot_in k between
    says_other all k between now mid after (inl (is, unsaid, (batch, requests, room, publishes, did, keeps))) ne =
        ap (λ (core : FullCore V O R T). slot_of core k) did.core
        ∙ publish_other (client_at mid).place k batch.requests.items batch.room (core_at between) ne
    says_other all k between now mid after (inr none) ne = ap (λ (x : PlainTable V O R T). slot_in k x) none.1

    pub rise_other :
        (waits : List (ℕ × O)) (all : Type 0) (k : ℕ) (was now : PlainTable V O R T) (old new : PlainClient V O R T)
        → GoesUpAt (plain_theory kind) waits all was now old new → k ≢ (client_at old).place → slot_in k now ≡ slot_in k was
    rise_other waits all k was now old new (between, mid, exchanges, mine, says) ne =
        let (same, place) = exchange_other waits k was between old mid exchanges ne in
        says_other all k between now mid new says (λ e. ne (e ∙ place)) ∙ same

-- elements of one index agree under a function
some_table :
    {X Y : Type 0} (f : X → Y) (xs ys : List X) (k : ℕ) → length ys ≡ length xs
    → ((x y : X) → slice_get xs k ≡ Some x → slice_get ys k ≡ Some y → f y ≡ f x) → at_some f (slice_get ys k) ≡ at_some f (slice_get xs k)
some_table f [] [] k many alike = refl
some_table f [] (y ∷ ys) k many alike = absurd (omega (arith, many))
some_table f (x ∷ xs) [] k many alike = absurd (omega (arith, many))
some_table f (x ∷ xs) (y ∷ ys) zero many alike = ap (λ z. Some z) (alike x y refl refl)
some_table f (x ∷ xs) (y ∷ ys) (suc k) many alike = some_table f xs ys k (omega (arith, many)) alike

module _ {V C O R T : Type 0} where
  -- the slot of place p of table t
  abbrev pub slot_at : Turns V C O R T → ℕ → ℕ → Option (FullSlot V O R T)
  slot_at turns t p = at_some (slot_in p) (slice_get turns.tables.items t)

  abbrev lane_of : ℕ → OneClient V C O R T → Option (OneLane V C O R T)
  lane_of t client = slice_get client.books.lanes.items t

  -- what client c keeps at trustee t
  abbrev pub lane_at : Turns V C O R T → ℕ → ℕ → Option (OneLane V C O R T)
  lane_at turns c t = flat (at_some (lane_of t) (slice_get turns.clients.items c))

  abbrev pub trustee_in : Turns V C O R T → ℕ → Option (OneTrustee V O R T)
  trustee_in turns t = slice_get turns.trustees.items t

  module _ (kind : Kind V O R T) (config : Config) (first : List (First V)) where
    turn_slot :
        (c t p : ℕ) (answer : Turn) (old new : Turns V C O R T) → AreOf kind config first old → (is : TurnsAt kind c t answer old new) → p ≢ c
        → slot_in p is.now ≡ slot_in p is.was
    turn_slot c t p (Got n) old new are is ne =
        let place = place_of_lane kind config first old c t is.client is.turned.lane are is.of_client is.turned.turns.of_lane in
        ap (λ (core : FullCore V O R T). slot_of core p) is.turned.tells.did.core
        ∙ collect_other (client_at is.turned.lane.side).place p (core_at is.was) (λ e. ne (e ∙ place))
    turn_slot c t p Pending old new are is ne =
        let place = place_of_lane kind config first old c t is.client is.turned.lane are is.of_client is.turned.turns.of_lane in
        ap (λ (core : FullCore V O R T). slot_of core p) is.turned.tells.did.core
        ∙ collect_other (client_at is.turned.lane.side).place p (core_at is.was) (λ e. ne (e ∙ place))
    turn_slot c t p (Sent n) old new are is ne =
        let place = place_of_lane kind config first old c t is.client is.turned.lane are is.of_client is.turned.turns.of_lane in
        let sent = is.turned.tells in
        ap (λ (core : FullCore V O R T). slot_of core p) sent.did.core
        ∙ publish_other (client_at is.turned.lane.side).place p sent.batch.requests.items sent.batch.room (core_at is.was) (λ e. ne (e ∙ place))
    turn_slot c t p Idle old new are is ne = ap (λ (x : PlainTable V O R T). slot_in p x) is.turned.tells.table

    -- a client's turn at trustee u leaves the slots of other places, and its own at other trustees
    pub turn_other :
        (c u t p : ℕ) (answer : Turn) (old new : Turns V C O R T) → AreOf kind config first old → TurnsAt kind c u answer old new → p ≢ c
        → slot_at new t p ≡ slot_at old t p
    turn_other c u t p answer old new are is ne =
        ap (λ xs. at_some (slot_in p) (slice_get xs t)) is.tables
        ∙ some_set (slot_in p) old.tables.items u t is.was is.now is.of_table (turn_slot c u p answer old new are is ne)

    pub turn_elsewhere :
        (c u t p : ℕ) (answer : Turn) (old new : Turns V C O R T) → TurnsAt kind c u answer old new → t ≢ u
        → (slot_at new t p ≡ slot_at old t p) × (lane_at new c t ≡ lane_at old c t)
    turn_elsewhere c u t p answer old new is ne = (
      ap (λ xs. at_some (slot_in p) (slice_get xs t)) is.tables
          ∙ ap (λ o. at_some (slot_in p) o) (set_other old.tables.items u t is.now ne),
      ap (λ xs. flat (at_some (lane_of t) (slice_get xs c))) is.clients
          ∙ ap (λ o. flat o)
          (some_set (lane_of t) old.clients.items c c is.client is.becomes is.of_client
          (ap (λ xs. slice_get xs t) is.turned.turns.lanes ∙ set_other is.client.books.lanes.items u t is.turned.becomes ne)),
    )

    pub lane_other :
        (c u d t : ℕ) (answer : Turn) (old new : Turns V C O R T) → TurnsAt kind c u answer old new → d ≢ c → lane_at new d t ≡ lane_at old d t
    lane_other c u d t answer old new is ne =
        ap (λ xs. flat (at_some (lane_of t) (slice_get xs d))) is.clients
        ∙ ap (λ o. flat (at_some (lane_of t) o)) (set_other old.clients.items c d is.becomes ne)

    -- a serving turn leaves the number of sides above
    pub seats_stay :
        (u : ℕ) (served : Served) (old new : Turns V C O R T) → AreOf kind config first old → (is : ServesAt kind u served old new)
        → length is.becomes.above.items ≡ length is.trustee.above.items
    seats_stay u served old new are is =
        let are_now = is.keeps config first are in
        let of_now : slice_get new.trustees.items u ≡ Some is.becomes =
        subst (λ xs. slice_get xs u ≡ Some is.becomes) (sym is.trustees)
        (set_here old.trustees.items u is.becomes (slice_get_within old.trustees.items u is.trustee is.of_trustee)) in
        let (number, ready) = are.trustees u is.trustee is.of_trustee in
        let (number_now, ready_now) = are_now.trustees u is.becomes of_now in
        let seats = ready.above.as_many in
        let seats_now = ready_now.above.as_many in
        let tables = is.tables.as_many in
        omega (arith, seats, seats_now, tables, number, number_now)

    -- a serving turn of trustee u leaves the slots of places that are not its own at other tables
    pub serve_other :
        (u t p : ℕ) (served : Served) (old new : Turns V C O R T) → AreOf kind config first old → ServesAt kind u served old new → t ≢ u
        → p ≢ config.clients + u → slot_at new t p ≡ slot_at old t p
    serve_other u t p served old new are is ne other =
        let (number, ready) = are.trustees u is.trustee is.of_trustee in
        let (was, at_was) = own_table (plain_theory kind) kind old.tables.items is.trustee ready in
        let home = at_home (plain_theory kind) kind old.tables.items is.trustee was ready at_was in
        let clients = clients_of kind config first old u is.trustee are is.of_trustee in
        let seats = ready.above.as_many in
        elim (cases_order t u) [
          | inl same ↦ absurd (ne same)
          | inr (inl lt) ↦ ap (λ o. at_some (slot_in p) o) (is.tables.lower t (omega (arith, lt, number)))
          | inr (inr lt) ↦
              some_table (slot_in p) old.tables.items new.tables.items t is.tables.as_many
              (λ x y ex ey.
              let i : ℕ = t - (is.trustee.number + 1) in
              let e : is.trustee.number + 1 + i ≡ t = omega (arith, lt, number) in
              let within = slice_get_within old.tables.items t x ex in
              let (before, eb) = element_at is.trustee.above.items i (omega (arith, within, seats, e)) in
              let (after, ea) = there_too is.trustee.above.items is.becomes.above.items i before (seats_stay u served old new are is) eb in
              let goes = is.above was at_was i x y before after
              (subst (λ k. slice_get old.tables.items k ≡ Some x) (sym e) ex)
              (subst (λ k. slice_get new.tables.items k ≡ Some y) (sym e) ey) eb ea in
              let place = home.1.above.places i (client_at before) (mapped (λ (side : PlainClient V O R T). client_at side) is.trustee.above.items i before eb) in
              rise_other kind _ _ p x y before after goes (λ at. other (omega (arith, at, place, clients, number))))
        ]

    -- so it leaves the lanes, and other trustees
    pub serve_lanes : (u c t : ℕ) (served : Served) (old new : Turns V C O R T) → ServesAt kind u served old new → lane_at new c t ≡ lane_at old c t
    serve_lanes u c t served old new is = ap (λ xs. flat (at_some (lane_of t) (slice_get xs.items c))) is.clients

    pub serve_trustees : (u t : ℕ) (served : Served) (old new : Turns V C O R T) → ServesAt kind u served old new → t ≢ u → trustee_in new t ≡ trustee_in old t
    serve_trustees u t served old new is ne = ap (λ xs. slice_get xs t) is.trustees ∙ set_other old.trustees.items u t is.becomes ne
