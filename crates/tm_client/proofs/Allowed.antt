-- Which requests a client may accept, and what it does then.
use Rattle.std.proofs.Common.{◌≡◌, ◌≢◌, ℕ, ◌+◌, ◌<◌, ◌≤◌, false, [], ◌∷◌, length, cond, refl, sym, ◌∙◌, ap, subst, arith, length-append}
use Rattle.std.specs.Prelude.{◌==◌, slice_get, slice_set, IsSomeAnd}
use Rattle.std.specs.declared.option.Option.TheVariants.{Some}
use Rattle.std.proofs.lemmas.Option.{slice_get_within}
use Rattle.tm_batch.specs.declared.limits.TheConstants.{WINDOW}
use Rattle.tm_batch.specs.declared.message.Request.{Request}
use Rattle.tm_batch.specs.declared.message.Request.TheVariants.{Entrust, Apply, Launch, Grant, Release, Reclaim}
use Rattle.tm_model.specs.State.{State}
use Rattle.tm_model.specs.Holds.{Names, gave}
use Rattle.tm_model.specs.Orderly.{GrantsBelow}
use Rattle.tm_core.proofs.CallerLemmas.{found}
use Rattle.tm_pair.specs.Views.{ClientView}
use Rattle.tm_client.specs.declared.lane.Lane.{Lane}
use Rattle.tm_client.specs.declared.holds.Hold.{Hold}
use Rattle.tm_client.specs.declared.holds.Holds.{Holds}
use Rattle.tm_client.specs.declared.trust.Trust.{Trust}
use Rattle.tm_client.specs.declared.books.Books.{Books}
use Rattle.tm_client.specs.Listing.{hold_of, listed, held_count, room_for, held_at, HasHold, Loses}
use Rattle.tm_client.specs.Lanes.{asks_in, out_requests, bringing, IsAccepted, HasAccepted}
use Rattle.tm_client.specs.Clients.{come_of, IsClient}
use Rattle.tm_client.specs.Asking.{At, IsOpen, HasRoom, MayApply, MayGrant, MayEntrust, HasAsked, HasGivenUp}
use Rattle.tm_client.proofs.Elements.{element_at, same_element}
use Rattle.tm_client.proofs.Listed.{at_own, at_other, loses_listed, loses_all, listed_has}
use Rattle.tm_client.proofs.Accepting.{as_many_wait}

-- what is asked of a request besides: it is of a kind that is accepted, and the client holds what it names
pub record MayAsk {V C D O R T : Type 0} (t : ℕ) (q : Request V O R T) (more : ℕ) (books : Books V C D O R T) : Type 0 where
  pub free : (lane : Lane V C D O R T) → slice_get books.lanes.items t ≡ Some lane → (lane.closing ≡ false) × (lane.counting < WINDOW)
  pub accepted : IsAccepted q
  pub grant : GrantsBelow books.clients q
  pub held : (id : ℕ) → Names q id → 1 ≤ listed t id books.held
  pub by : more ≡ bringing (q ∷ [])

-- a client took a request with its continuation; what it gives up by the request left its list, and no other trust
pub record Asks {V C D O R T : Type 0} (t : ℕ) (q : Request V O R T) (after : C) (more : ℕ) (old new : Books V C D O R T) : Type 0 where
  pub lane : Lane V C D O R T
  pub becomes : Lane V C D O R T
  pub of_lane : slice_get old.lanes.items t ≡ Some lane
  pub accepts : HasAccepted q after lane becomes
  pub lanes : new.lanes.items ≡ slice_set old.lanes.items t becomes
  pub coming : new.coming ≡ old.coming + more
  pub number : new.number ≡ old.number
  pub clients : new.clients ≡ old.clients
  pub most : new.most ≡ old.most
  pub arrived : new.arrived ≡ old.arrived
  pub gifts : new.gifts ≡ old.gifts
  pub moved : (id : ℕ) → listed t id new.held + gave id (q ∷ []) ≡ listed t id old.held
  pub elsewhere : (u id : ℕ) → u ≢ t → listed u id new.held ≡ listed u id old.held
  pub standing : (n : ℕ) → ((at : ℕ) (h : Hold) → held_at old.held at ≡ Some h → h.trustee < n)
      → (at : ℕ) (h : Hold) → held_at new.held at ≡ Some h → h.trustee < n
  pub fits : held_count new.held + new.coming ≤ new.most
  pub room : room_for new.held ≡ room_for old.held

module _ {V C D O R T : Type 0} where
  open_and_room :
      (books : Books V C D O R T) (t : ℕ) → IsOpen books t → HasRoom books t
      → (lane : Lane V C D O R T) → slice_get books.lanes.items t ≡ Some lane → (lane.closing ≡ false) × (lane.counting < WINDOW)
  open_and_room books t is_open room lane e =
      (subst (λ o. IsSomeAnd o (λ l. l.closing ≡ false)) e is_open, subst (λ o. IsSomeAnd o (λ l. l.counting < WINDOW)) e room)

  held_by : (books : Books V C D O R T) (trust : Trust) → HasHold books.held (hold_of trust.trustee trust.name) → (id : ℕ) → trust.name.id ≡ id
      → 1 ≤ listed trust.trustee id books.held
  held_by books trust has id names =
      subst (λ i. 1 ≤ listed trust.trustee i books.held) names (listed_has trust.trustee trust.name.id books.held has)

  pub apply_may : (books : Books V C D O R T) (trust : Trust) (op : O) → MayApply books trust
      → MayAsk trust.trustee (Apply trust.name op) 0 books
  apply_may books trust op (held, is_open, room) = record {
    free = open_and_room books trust.trustee is_open room;
    accepted = tt;
    grant = tt;
    held = held_by books trust held.1;
    by = refl;
  }

  pub launch_may : (books : Books V C D O R T) (trust : Trust) (task : T) → MayApply books trust
      → MayAsk trust.trustee (Launch trust.name task) 0 books
  launch_may books trust task (held, is_open, room) = record {
    free = open_and_room books trust.trustee is_open room;
    accepted = tt;
    grant = tt;
    held = held_by books trust held.1;
    by = refl;
  }

  pub grant_may : (books : Books V C D O R T) (trust : Trust) (to : ℕ) → MayGrant books trust to
      → MayAsk trust.trustee (Grant trust.name to) 0 books
  grant_may books trust to (held, is_open, below, room) = record {
    free = open_and_room books trust.trustee is_open room;
    accepted = tt;
    grant = below;
    held = held_by books trust held.1;
    by = refl;
  }

  pub entrust_may : (books : Books V C D O R T) (t : ℕ) (v : V) → MayEntrust books t → MayAsk t (Entrust v) 1 books
  entrust_may books t v (is_open, less, room) = record {
    free = open_and_room books t is_open room;
    accepted = tt;
    grant = tt;
    held = λ id names. absurd names;
    by = refl;
  }

  pub release_may : (books : Books V C D O R T) (trust : Trust) → MayApply books trust → MayAsk trust.trustee (Release trust.name) 0 books
  release_may books trust (held, is_open, room) =
      record { free = open_and_room books trust.trustee is_open room; accepted = tt; grant = tt; held = held_by books trust held.1; by = refl }

  pub reclaim_may : (books : Books V C D O R T) (trust : Trust) → MayApply books trust → MayAsk trust.trustee (Reclaim trust.name) 1 books
  reclaim_may books trust (held, is_open, room) =
      record { free = open_and_room books trust.trustee is_open room; accepted = tt; grant = tt; held = held_by books trust held.1; by = refl }

  -- a request that gives nothing away
  pub asked_so :
      (t : ℕ) (q : Request V O R T) (after : C) (more : ℕ) (old new : Books V C D O R T) → HasAsked t q after more old new
      → ((id : ℕ) → gave id (q ∷ []) ≡ 0) → held_count old.held + (old.coming + more) ≤ old.most → Asks t q after more old new
  asked_so t q after more old new a none fits = record {
    lane = a.lane;
    becomes = a.becomes;
    of_lane = a.of_lane;
    accepts = a.accepts;
    lanes = a.lanes;
    coming = a.coming;
    number = a.rest.number;
    clients = a.rest.clients;
    most = a.rest.most;
    arrived = a.rest.arrived;
    gifts = a.rest.gifts;
    moved = λ id. let same = ap (listed t id) a.rest.held in let zero = none id in omega (arith, same, zero);
    elsewhere = λ u id ne. ap (listed u id) a.rest.held;
    standing = λ n all at h e. all at h (ap (λ held. held_at held at) (sym a.rest.held) ∙ e);
    fits = rw (a.rest.held, a.coming, a.rest.most) fits;
    room = ap room_for a.rest.held;
  }

  -- a request that gives up the trust that it names
  pub given_so :
      (trust : Trust) (q : Request V O R T) (after : C) (more : ℕ) (old new : Books V C D O R T) → HasGivenUp trust q after more old new
      → ((id : ℕ) → gave id (q ∷ []) ≡ cond (trust.name.id == id) 1 0) → more ≤ 1 → held_count old.held + old.coming ≤ old.most
      → Asks trust.trustee q after more old new
  given_so trust q after more old new a one few fits = record {
    lane = a.lane;
    becomes = a.becomes;
    of_lane = a.of_lane;
    accepts = a.accepts;
    lanes = a.lanes;
    coming = a.coming;
    number = a.number;
    clients = a.clients;
    most = a.most;
    arrived = a.arrived;
    gifts = a.gifts;
    moved = λ id.
        let loses = loses_listed trust.trustee id (hold_of trust.trustee trust.name) a.place old.held new.held a.held in
        let own = at_own trust.trustee id trust.name.id in
        let given = one id in
        omega (arith, loses, own, given);
    elsewhere = λ u id ne.
        let loses = loses_listed u id (hold_of trust.trustee trust.name) a.place old.held new.held a.held in
        let other = at_other u trust.trustee id trust.name.id ne in
        omega (arith, loses, other);
    standing = λ n all. loses_all (λ h. h.trustee < n) (hold_of trust.trustee trust.name) a.place old.held new.held a.held all;
    fits = rw (a.coming, a.most) (let count = a.held.count in omega (arith, count, few, fits));
    room = a.held.room;
  }

  -- after the request was taken, the list still has the trust that it gives up
  pub still_has :
      (old mid : Books V C D O R T) (hold own : Hold) → mid.held ≡ old.held → hold ≡ own → HasHold old.held own → HasHold mid.held hold
  still_has old mid hold own same is has = rw (same, is) has

  -- the trust left the list
  pub gone_of :
      (old mid : Books V C D O R T) (trust : Trust) (hold : Hold) (new : Holds) → mid.held ≡ old.held → hold ≡ hold_of trust.trustee trust.name
      → (place : ℕ) × (held_at mid.held trust.at ≡ Some hold → place ≡ trust.at) × Loses hold place mid.held new
      → (place : ℕ) × (held_at old.held trust.at ≡ Some (hold_of trust.trustee trust.name) → place ≡ trust.at)
      × Loses (hold_of trust.trustee trust.name) place old.held new
  gone_of old mid trust hold new same is gone = rw (← same, ← is) gone

module _ {V C D O R T : Type 0} (view : D → ClientView V O R T) where
  -- at each lane at most a window of requests counts
  pub window_at :
      (openings : ℕ → State V O R T) (books : Books V C D O R T) (t : ℕ) → IsClient view openings books → t < length books.lanes.items
      → At books t (λ lane. lane.counting ≤ WINDOW)
  window_at openings books t is lt =
      let (lane, e) = element_at books.lanes.items t lt in rw e (is.lanes t lane e).window

  -- the lane of a trust that the client holds is there
  pub trust_within :
      (openings : ℕ → State V O R T) (books : Books V C D O R T) (t id : ℕ) → IsClient view openings books
      → HasHold books.held (record { trustee = t; id = id }) → t < length books.lanes.items
  trust_within openings books t id is (at, there) = is.held at (record { trustee = t; id = id }) there

  pub room_within : (books : Books V C D O R T) (t : ℕ) → HasRoom books t → t < length books.lanes.items
  room_within books t room =
      let (lane, e, less) = found (slice_get books.lanes.items t) (λ l. l.counting < WINDOW) room in slice_get_within books.lanes.items t lane e

  -- a lane at which one more request may count has room for it
  pub room_at :
      (openings : ℕ → State V O R T) (books : Books V C D O R T) (t : ℕ) (lane : Lane V C D O R T) → IsClient view openings books
      → HasRoom books t → slice_get books.lanes.items t ≡ Some lane
      → (length lane.waits.items < lane.waits.capacity) × (length lane.afters.items < lane.afters.capacity) × (lane.counting < WINDOW)
  room_at openings books t lane is room e =
      let (other, there, less) = found (slice_get books.lanes.items t) (λ l. l.counting < WINDOW) room in
      let same : other ≡ lane = same_element books.lanes.items t lane other e there in
      let below : lane.counting < WINDOW = subst (λ l. l.counting < WINDOW) same less in
      let one = is.lanes t lane e in
      let all = length-append (asks_in (out_requests (view lane.side).out)) lane.waits.items in
      let counts = one.counting in
      let afters = as_many_wait view (openings t) books.number (come_of t books.arrived.items) lane one in
      let waits_room = one.waits_room in
      let afters_room = one.afters_room in
      (omega arith, omega arith, below)
