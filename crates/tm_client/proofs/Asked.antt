-- A client that accepts a request stays a client.
use Rattle.std.proofs.Common.{◌≡◌, ℕ, ◌+◌, ◌<◌, [], ◌∷◌, ◌++◌, length, inl, inr, sym, ◌∙◌, ap, subst, arith, append_assoc, length-append, length-set}
use Rattle.std.specs.Prelude.{slice_get}
use Rattle.std.specs.declared.option.Option.TheVariants.{Some}
use Rattle.std.proofs.lemmas.Option.{slice_get_within}
use Rattle.tm_batch.specs.declared.message.Request.{Request}
use Rattle.tm_model.specs.State.{State}
use Rattle.tm_model.specs.Holds.{Names, gave, came}
use Rattle.tm_core.proofs.Tallies.{gave-append}
use Rattle.tm_pair.specs.Views.{ClientView}
use Rattle.tm_client.specs.declared.lane.Lane.{Lane}
use Rattle.tm_client.specs.declared.books.Books.{Books}
use Rattle.tm_client.specs.Listing.{listed}
use Rattle.tm_client.specs.Lanes.{out_room, bringing, HasAccepted, unanswered, IsLane}
use Rattle.tm_client.specs.Clients.{come_of, entrusted_in, given, brought_in, lane_coming, lanes_coming, lanes_unanswered, lanes_launched, lanes_counting, IsClient}
use Rattle.tm_client.proofs.Elements.{set_cases, total_set}
use Rattle.tm_client.proofs.Accepting.{bringing-append, unanswered_more, accepting_keeps}
use Rattle.tm_client.proofs.Allowed.{MayAsk, Asks}

module _ {V C D O R T : Type 0} (view : D → ClientView V O R T) where
  -- where a lane is given, and how many trusts may come of it
  coming_more :
      (lane becomes : Lane V C D O R T) (q : Request V O R T) (after : C) → HasAccepted q after lane becomes
      → lane_coming view becomes ≡ lane_coming view lane + bringing (q ∷ [])
  coming_more lane becomes q after h =
      let brings = ap bringing (unanswered_more view lane becomes q after h) ∙ bringing-append (unanswered view lane) (q ∷ []) in
      let room : out_room (view becomes.side).out ≡ out_room (view lane.side).out = ap (λ s. out_room (view s).out) h.side in
      omega arith

  module _ (openings : ℕ → State V O R T) (t : ℕ) (q : Request V O R T) (after : C) (more : ℕ) (old new : Books V C D O R T)
      (is : IsClient view openings old) (a : Asks t q after more old new) (may : MayAsk t q more old) where
    within : t < length old.lanes.items
    within = slice_get_within old.lanes.items t a.lane a.of_lane

    as_many : length new.lanes.items ≡ length old.lanes.items
    as_many = ap length a.lanes ∙ length-set old.lanes.items t a.becomes

    was : IsLane view (openings t) old.number (come_of t old.arrived.items) a.lane
    was = is.lanes t a.lane a.of_lane

    still_held : (id : ℕ) → Names q id
        → gave id ((view a.lane.side).sent ++ a.lane.waits.items) < came (openings t) (view a.lane.side).place (view a.lane.side).sent (view a.lane.side).got id
    still_held id names =
        let holds = is.holds t a.lane id a.of_lane in
        let one = may.held id names in
        rw was.place (omega arith)

    becomes_lane : IsLane view (openings t) old.number (come_of t old.arrived.items) a.becomes
    becomes_lane =
        accepting_keeps view (openings t) old.number (come_of t old.arrived.items) a.lane a.becomes q after was a.accepts (may.free a.lane a.of_lane).0
        (may.free a.lane a.of_lane).1 may.accepted (rw (is.clients t within) may.grant) still_held

    lanes_are : (u : ℕ) (lane : Lane V C D O R T) → slice_get new.lanes.items u ≡ Some lane
        → IsLane view (openings u) new.number (come_of u new.arrived.items) lane
    lanes_are u lane e =
        rw (a.number, a.arrived) (
        elim (set_cases old.lanes.items t u a.becomes lane (subst (λ xs. slice_get xs u ≡ Some lane) a.lanes e)) [
          | inl (same, becomes) ↦ rw (same, becomes) becomes_lane
          | inr (other, there) ↦ is.lanes u lane there
        ]
        )

    gave_more : (id : ℕ)
        → gave id ((view a.becomes.side).sent ++ a.becomes.waits.items) ≡ gave id ((view a.lane.side).sent ++ a.lane.waits.items) + gave id (q ∷ [])
    gave_more id =
        rw (a.accepts.side, a.accepts.waits) (
        ap (λ qs. gave id qs) (sym (append_assoc (view a.lane.side).sent a.lane.waits.items (q ∷ [])))
        ∙ gave-append id ((view a.lane.side).sent ++ a.lane.waits.items) (q ∷ [])
        )

    becomes_holds : (id : ℕ)
        → listed t id new.held + (entrusted_in t id old.arrived.items + given t id old.gifts.items) + gave id ((view a.becomes.side).sent ++ a.becomes.waits.items)
        ≡ came (openings t) old.number (view a.becomes.side).sent (view a.becomes.side).got id
    becomes_holds id =
        rw (gave_more id, a.accepts.side) (
        let moved = a.moved id in
        let before = is.holds t a.lane id a.of_lane in
        omega (arith, moved, before)
        )

    holds_are : (u : ℕ) (lane : Lane V C D O R T) (id : ℕ) → slice_get new.lanes.items u ≡ Some lane
        → listed u id new.held + (entrusted_in u id new.arrived.items + given u id new.gifts.items) + gave id ((view lane.side).sent ++ lane.waits.items)
        ≡ came (openings u) new.number (view lane.side).sent (view lane.side).got id
    holds_are u lane id e =
        rw (a.number, a.arrived, a.gifts) (
        elim (set_cases old.lanes.items t u a.becomes lane (subst (λ xs. slice_get xs u ≡ Some lane) a.lanes e)) [
          | inl (same, becomes) ↦ rw (same, becomes) (becomes_holds id)
          | inr (other, there) ↦ rw (a.elsewhere u id other) (is.holds u lane id there)
        ]
        )

    coming_is : new.coming ≡ lanes_coming view new.lanes.items + brought_in new.arrived.items + length new.gifts.items
    coming_is =
        rw (a.arrived, a.gifts, a.lanes) (
        let set = total_set (λ lane. lane_coming view lane) old.lanes.items t a.lane a.becomes a.of_lane in
        let one = coming_more a.lane a.becomes q after a.accepts in
        let before = is.coming in
        let now = a.coming in
        let by = may.by in
        omega arith
        )

    counting_is : length new.arrived.items + (lanes_unanswered view new.lanes.items + lanes_launched view new.lanes.items) ≡ lanes_counting view new.lanes.items
    counting_is =
        rw (a.arrived, a.lanes) (
        let set = total_set (λ lane. length (unanswered view lane)) old.lanes.items t a.lane a.becomes a.of_lane in
        let waits = total_set (λ lane. length lane.launched.items) old.lanes.items t a.lane a.becomes a.of_lane in
        let still = ap (λ l. length l.items) a.accepts.launched in
        let counts = total_set (λ lane. lane.counting) old.lanes.items t a.lane a.becomes a.of_lane in
        let longer = ap length (unanswered_more view a.lane a.becomes q after a.accepts) ∙ length-append (unanswered view a.lane) (q ∷ []) in
        let one = a.accepts.counting in
        let before = is.counting in
        omega arith
        )

    pub asking_keeps : IsClient view openings new
    asking_keeps = record {
      lanes = lanes_are;
      clients = λ u lt. is.clients u (subst (λ n. u < n) as_many lt) ∙ sym a.clients;
      holds = holds_are;
      held = rw as_many (a.standing (length old.lanes.items) is.held);
      coming = coming_is;
      most = a.fits;
      limit = rw a.most is.limit;
      arrived = rw (a.arrived, as_many) is.arrived;
      gifts = rw (a.gifts, as_many, a.number) is.gifts;
      counting = counting_is;
      held_room = rw (a.room, a.most) is.held_room;
      gifts_room = rw (a.gifts, a.most) is.gifts_room;
      arrived_room = rw (a.arrived, as_many) is.arrived_room;
    }
