-- A client at which `fetch` or `close` was called.
use Rattle.std.proofs.Common.{◌≡◌, ℕ, ◌+◌, ◌<◌, Bool, true, ◌++◌, length, inl, inr, refl, sym, ◌∙◌, ap, subst, arith, length-set}
use Rattle.std.specs.Prelude.{slice_get}
use Rattle.std.specs.declared.option.Option.TheVariants.{Some}
use Rattle.tm_model.specs.State.{State}
use Rattle.tm_model.specs.Holds.{gave, came}
use Rattle.tm_pair.specs.Views.{ClientView}
use Rattle.tm_client.specs.declared.lane.Lane.{Lane}
use Rattle.tm_client.specs.declared.books.Books.{Books}
use Rattle.tm_client.specs.Lanes.{unanswered, IsLane}
use Rattle.tm_client.specs.Listing.{listed}
use Rattle.tm_client.specs.Clients.{come_of, entrusted_in, given, lane_coming, IsClient}
use Rattle.tm_client.specs.Marking.{marked, HasMarked}
use Rattle.tm_client.proofs.Elements.{set_cases, total_set}

module _ {V C D O R T : Type 0} (view : D → ClientView V O R T) where
  lane_keeps :
      (opening : State V O R T) (c n : ℕ) (lane : Lane V C D O R T) (fetching closing : Bool) → IsLane view opening c n lane
      → (lane.closing ≡ true → closing ≡ true) → IsLane view opening c n (marked fetching closing lane)
  lane_keeps opening c n lane fetching closing is more = record {
    place = is.place;
    client = is.client;
    waits_room = is.waits_room;
    afters_room = is.afters_room;
    launched_room = is.launched_room;
    names = is.names;
    launched = is.launched;
    counting = is.counting;
    window = is.window;
    out = is.out;
    room = is.room;
    said = is.said;
    last = λ s. (more (is.last s).0, (is.last s).1);
    out_accepted = is.out_accepted;
    waits = is.waits;
    grants = is.grants;
    held = is.held;
  }

  module _ (openings : ℕ → State V O R T) (t : ℕ) (fetching closing : Bool → Bool) (old new : Books V C D O R T)
      (is : IsClient view openings old) (a : HasMarked t fetching closing old new) (more : (b : Bool) → b ≡ true → closing b ≡ true) where
    abbrev becomes : Lane V C D O R T
    becomes = marked (fetching a.lane.fetching) (closing a.lane.closing) a.lane

    as_many : length new.lanes.items ≡ length old.lanes.items
    as_many = ap length a.lanes ∙ length-set old.lanes.items t becomes

    becomes_lane : IsLane view (openings t) old.number (come_of t old.arrived.items) becomes
    becomes_lane =
        lane_keeps (openings t) old.number (come_of t old.arrived.items) a.lane (fetching a.lane.fetching) (closing a.lane.closing)
        (is.lanes t a.lane a.of_lane) (more a.lane.closing)

    lanes_are : (u : ℕ) (lane : Lane V C D O R T) → slice_get new.lanes.items u ≡ Some lane
        → IsLane view (openings u) new.number (come_of u new.arrived.items) lane
    lanes_are u lane e =
        rw (a.rest.number, a.rest.arrived) (
        elim (set_cases old.lanes.items t u becomes lane (subst (λ xs. slice_get xs u ≡ Some lane) a.lanes e)) [
          | inl (same, it) ↦ rw (same, it) becomes_lane
          | inr (other, there) ↦ is.lanes u lane there
        ]
        )

    becomes_holds : (id : ℕ)
        → listed t id old.held + (entrusted_in t id old.arrived.items + given t id old.gifts.items) + gave id ((view becomes.side).sent ++ becomes.waits.items)
        ≡ came (openings t) old.number (view becomes.side).sent (view becomes.side).got id
    becomes_holds id = is.holds t a.lane id a.of_lane

    holds_are : (u : ℕ) (lane : Lane V C D O R T) (id : ℕ) → slice_get new.lanes.items u ≡ Some lane
        → listed u id new.held + (entrusted_in u id new.arrived.items + given u id new.gifts.items) + gave id ((view lane.side).sent ++ lane.waits.items)
        ≡ came (openings u) new.number (view lane.side).sent (view lane.side).got id
    holds_are u lane id e =
        rw (a.rest.number, a.rest.arrived, a.rest.held, a.rest.gifts) (
        elim (set_cases old.lanes.items t u becomes lane (subst (λ xs. slice_get xs u ≡ Some lane) a.lanes e)) [
          | inl (same, it) ↦ rw (same, it) (becomes_holds id)
          | inr (other, there) ↦ is.holds u lane id there
        ]
        )

    same_coming : lane_coming view becomes ≡ lane_coming view a.lane
    same_coming = refl

    same_length : length (unanswered view becomes) ≡ length (unanswered view a.lane)
    same_length = refl

    same_launched : length becomes.launched.items ≡ length a.lane.launched.items
    same_launched = refl

    same_counting : becomes.counting ≡ a.lane.counting
    same_counting = refl

    pub marking_keeps : IsClient view openings new
    marking_keeps = record {
      lanes = lanes_are;
      clients = λ u lt. is.clients u (subst (λ n. u < n) as_many lt) ∙ sym a.rest.clients;
      holds = holds_are;
      held = rw (a.rest.held, as_many) is.held;
      coming = rw (a.rest.arrived, a.rest.gifts, a.lanes, a.coming) (
          let set = total_set (λ lane. lane_coming view lane) old.lanes.items t a.lane becomes a.of_lane in
          let same = same_coming in
          let before = is.coming in
          omega arith
          );
      most = rw (a.rest.held, a.rest.most, a.coming) is.most;
      limit = rw a.rest.most is.limit;
      arrived = rw (a.rest.arrived, as_many) is.arrived;
      gifts = rw (a.rest.gifts, as_many, a.rest.number) is.gifts;
      counting = rw (a.rest.arrived, a.lanes) (
          let set = total_set (λ lane. length (unanswered view lane)) old.lanes.items t a.lane becomes a.of_lane in
          let waits = total_set (λ lane. length lane.launched.items) old.lanes.items t a.lane becomes a.of_lane in
          let counts = total_set (λ lane. lane.counting) old.lanes.items t a.lane becomes a.of_lane in
          let same = same_length in
          let still = same_launched in
          let equal = same_counting in
          let before = is.counting in
          omega arith
          );
      held_room = rw (a.rest.held, a.rest.most) is.held_room;
      gifts_room = rw (a.rest.gifts, a.rest.most) is.gifts_room;
      arrived_room = rw (a.rest.arrived, as_many) is.arrived_room;
    }
