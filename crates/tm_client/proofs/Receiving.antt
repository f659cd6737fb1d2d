-- A client that took in what came of a trustee stays a client.
use Rattle.std.proofs.Common.{◌≡◌, ◌≢◌, ℕ, ◌+◌, ◌<◌, ◌≤◌, true, List, ◌++◌, length, map, drop, inl, inr, refl, sym, ◌∙◌, ap, subst, arith, length-append, length-set}
use Rattle.std.specs.Prelude.{slice_get}
use Rattle.std.specs.List.{AllByRecursion}
use Rattle.std.specs.declared.option.Option.TheVariants.{Some}
use Rattle.std.proofs.lemmas.Option.{slice_get_within}
use Rattle.std.proofs.lemmas.List.{drop-map, length-map}
use Rattle.std.proofs.Math.Seq.{drop-append_seam}
use Rattle.tm_batch.specs.declared.message.Request.{Request}
use Rattle.tm_batch.specs.declared.message.AnswerBatch.{AnswerBatch}
use Rattle.tm_model.specs.State.{State}
use Rattle.tm_model.specs.Holds.{has_bye, gave, brought_by, came}
use Rattle.tm_core.proofs.CallerLemmas.{all-append}
use Rattle.tm_pair.specs.Views.{ClientView}
use Rattle.tm_pair.specs.Calls.{Gets}
use Rattle.tm_client.specs.declared.lane.Lane.{Lane}
use Rattle.tm_client.specs.declared.answers.Arrival.{Arrival}
use Rattle.tm_client.specs.declared.books.Books.{Books}
use Rattle.tm_client.specs.Lanes.{asks_in, out_requests, out_room, bringing, name_of, names_of, unanswered, IsLane}
use Rattle.tm_client.specs.Launches.{remaining, waiting_tickets, ended_tickets, tickets_of, arrivals_of, launches_of, finished_of, with_told}
use Rattle.tm_client.specs.Listing.{listed, held_count}
use Rattle.tm_client.specs.Clients.{come_of, entrusted_in, given, brought_in, lane_coming, lanes_coming, lanes_unanswered, lanes_launched, lanes_counting, MayHand, IsClient}
use Rattle.tm_client.specs.Turns.{gifts_from}
use Rattle.tm_client.specs.SideLaws.{Brings}
use Rattle.tm_client.specs.Tickets.{EndsTickets}
use Rattle.tm_client.specs.Receiving.{HasReceived}
use Rattle.tm_client.proofs.Elements.{set_cases, total_set}
use Rattle.tm_client.proofs.Accepting.{bringing-append}
use Rattle.tm_client.proofs.Moving.{nothing_left}
use Rattle.tm_client.proofs.Ended.{Finishes, tickets_left}
use Rattle.tm_client.proofs.Told as told
use Rattle.tm_client.proofs.Told.{none_left, bool_cases}
use Rattle.tm_client.proofs.Arriving.{Arrives, asks_bring, no_bye_asks, given-append, given_here, given_elsewhere, gifts_all, gifts_many, come_of-append, brought_in-append, entrusted_in-append}

module _ {V C D O R T : Type 0} (view : D → ClientView V O R T) (openings : ℕ → State V O R T) (t : ℕ) (a : AnswerBatch V O R T)
    (lane becomes : Lane V C D O R T) (old new : Books V C D O R T) (is : IsClient view openings old) (h : HasReceived t a lane becomes old new)
    (run : List (Request V O R T)) (ran_is : (view lane.side).sent ≡ run ++ out_requests (view lane.side).out)
    (same : length a.answers.items ≡ length (out_requests (view lane.side).out))
    (gets : Gets a (view lane.side) (view becomes.side)) (brings : Brings (openings t) (out_requests (view lane.side).out) a (view lane.side) (view becomes.side))
    (ends : EndsTickets a (view lane.side) (view becomes.side)) where
  within : t < length old.lanes.items
  within = slice_get_within old.lanes.items t lane h.of_lane

  as_many : length new.lanes.items ≡ length old.lanes.items
  as_many = ap length h.lanes ∙ length-set old.lanes.items t becomes

  was : IsLane view (openings t) old.number (come_of t old.arrived.items) lane
  was = is.lanes t lane h.of_lane

  after_each : length lane.afters.items ≡ length (unanswered view lane)
  after_each = told.after_each view openings t a lane old is h.of_lane (view becomes.side) run ran_is same brings ends

  names_are : names_of lane.afters.items ≡ map name_of (asks_in (out_requests (view lane.side).out)) ++ map name_of lane.waits.items
  names_are = told.names_are view openings t a lane old is h.of_lane (view becomes.side) run ran_is same brings ends

  bye_alone : has_bye (out_requests (view lane.side).out) ≡ true → length (unanswered view lane) ≡ 0
  bye_alone = told.bye_alone view openings t a lane old is h.of_lane (view becomes.side) run ran_is same brings ends

  arriving : Arrives t (length old.lanes.items) (out_requests (view lane.side).out) lane.afters.items a.answers.items
  arriving = told.arriving view openings t a lane old is h.of_lane (view becomes.side) run ran_is same brings ends

  finishing : Finishes t (length old.lanes.items) (with_told lane a) a.completions.items
  finishing = told.finishing view openings t a lane old is h.of_lane (view becomes.side) run ran_is same brings ends

  -- what arrived
  abbrev more : List (Arrival V C O R T)
  more = arrivals_of t lane.afters.items a.answers.items ++ finished_of t (with_told lane a) a.completions.items

  all_many : length more + length becomes.launched.items ≡ length (asks_in (out_requests (view lane.side).out)) + length lane.launched.items
  all_many =
      let joined = length-append (arrivals_of t lane.afters.items a.answers.items) (finished_of t (with_told lane a) a.completions.items) in
      let began = length-append lane.launched.items (launches_of lane.afters.items a.answers.items) in
      let arrive = arriving.many in
      let finish = finishing.many in
      let left = ap length h.launched in
      omega (arith, joined, began, arrive, finish, left)

  all_here : come_of t more ≡ length more
  all_here =
      let joined = come_of-append t (arrivals_of t lane.afters.items a.answers.items) (finished_of t (with_told lane a) a.completions.items) in
      let both = length-append (arrivals_of t lane.afters.items a.answers.items) (finished_of t (with_told lane a) a.completions.items) in
      let arrive = arriving.here in
      let finish = finishing.here in
      omega (arith, joined, both, arrive, finish)

  none_elsewhere : (u : ℕ) → u ≢ t → come_of u more ≡ 0
  none_elsewhere u ne =
      let joined = come_of-append u (arrivals_of t lane.afters.items a.answers.items) (finished_of t (with_told lane a) a.completions.items) in
      let arrive = arriving.elsewhere u ne in
      let finish = finishing.elsewhere u ne in
      omega (arith, joined, arrive, finish)

  all_brought : brought_in more ≡ bringing (out_requests (view lane.side).out)
  all_brought =
      let joined = brought_in-append (arrivals_of t lane.afters.items a.answers.items) (finished_of t (with_told lane a) a.completions.items) in
      let arrive = arriving.brought in
      let finish = finishing.brought in
      omega (arith, joined, arrive, finish)

  all_entrusted : (id : ℕ) → entrusted_in t id more ≡ brought_by id (out_requests (view lane.side).out) a.answers.items
  all_entrusted id =
      let joined = entrusted_in-append t id (arrivals_of t lane.afters.items a.answers.items) (finished_of t (with_told lane a) a.completions.items) in
      let arrive = arriving.entrusted id in
      let finish = finishing.entrusted t id in
      omega (arith, joined, arrive, finish)

  none_entrusted : (u id : ℕ) → u ≢ t → entrusted_in u id more ≡ 0
  none_entrusted u id ne =
      let joined = entrusted_in-append u id (arrivals_of t lane.afters.items a.answers.items) (finished_of t (with_told lane a) a.completions.items) in
      let arrive = arriving.entrusted_elsewhere u id ne in
      let finish = finishing.entrusted u id in
      omega (arith, joined, arrive, finish)

  all_takeable : AllByRecursion (λ x. (x.trustee < length old.lanes.items) × MayHand x.came) more
  all_takeable =
      all-append (λ x. (x.trustee < length old.lanes.items) × MayHand x.came) (arrivals_of t lane.afters.items a.answers.items)
      (finished_of t (with_told lane a) a.completions.items) arriving.takeable finishing.takeable

  -- what lacks its completion then is what the side tells
  launched_are : tickets_of becomes.launched.items ≡ waiting_tickets (view becomes.side).got
  launched_are =
      ap tickets_of h.launched ∙ tickets_left (ended_tickets a.completions.items) (with_told lane a)
      ∙ ap (remaining (ended_tickets a.completions.items)) (told.tickets_are view openings t a lane old is h.of_lane (view becomes.side) run ran_is same brings ends)
      ∙ sym ends.waits

  -- no request is out, and what waits is all that was not answered
  now_waits : unanswered view becomes ≡ lane.waits.items
  now_waits = rw (gets.out, h.waits) refl

  split : length (unanswered view lane) ≡ length (asks_in (out_requests (view lane.side).out)) + length lane.waits.items
  split = length-append (asks_in (out_requests (view lane.side).out)) lane.waits.items

  names_left : names_of (drop (length a.answers.items) lane.afters.items) ≡ map name_of lane.waits.items
  names_left =
      elim (bool_cases (has_bye (out_requests (view lane.side).out))) [
        | inl bye ↦
            let empty = none_left lane.afters.items (after_each ∙ bye_alone bye) in
            let all = split in
            let nothing = none_left lane.waits.items (let none = bye_alone bye in omega (arith, none, all)) in
            ap (λ l. names_of (drop (length a.answers.items) l)) empty ∙ ap names_of (nothing_left (length a.answers.items)) ∙ sym (ap (map name_of) nothing)
        | inr none ↦
            let asks = no_bye_asks (out_requests (view lane.side).out) none in
            let many : length a.answers.items ≡ length (map name_of (asks_in (out_requests (view lane.side).out))) =
            same ∙ sym (ap length asks) ∙ sym (length-map (asks_in (out_requests (view lane.side).out)) name_of) in
            sym (drop-map (λ w. w.name) (length a.answers.items) lane.afters.items) ∙ ap (drop (length a.answers.items)) names_are
            ∙ ap (λ n. drop n (map name_of (asks_in (out_requests (view lane.side).out)) ++ map name_of lane.waits.items)) many
            ∙ drop-append_seam (map name_of (asks_in (out_requests (view lane.side).out))) (map name_of lane.waits.items)
      ]

  here_now : come_of t new.arrived.items ≡ come_of t old.arrived.items + length more
  here_now =
      let joined = come_of-append t old.arrived.items more in
      let here = all_here in
      let all = ap (come_of t) h.arrived in
      omega (arith, joined, here, all)

  becomes_lane : IsLane view (openings t) old.number (come_of t new.arrived.items) becomes
  becomes_lane = record {
    place = gets.place ∙ was.place;
    client = was.client;
    waits_room = rw h.waits was.waits_room;
    afters_room = h.afters_room ∙ was.afters_room;
    launched_room = h.launched_room ∙ was.launched_room;
    names = ap names_of h.afters ∙ names_left ∙ ap (map name_of) (sym now_waits);
    launched = launched_are;
    counting =
        let before = was.counting in
        let counts = h.counting in
        let all = split in
        let here = here_now in
        let many = all_many in
        let waits = ap length now_waits in
        omega (arith, before, counts, all, here, many, waits);
    window = rw h.counting was.window;
    out = rw (gets.out) h.out;
    room = rw (gets.out) h.room;
    said = rw (h.said, gets.sent) was.said;
    last = rw (h.said, h.closing, h.counting) was.last;
    out_accepted = rw gets.out tt;
    waits = rw h.waits was.waits;
    grants = rw h.waits was.grants;
    held = rw h.waits (brings.held lane.waits.items was.held);
  }

  elsewhere_now : (u : ℕ) → u ≢ t → come_of u new.arrived.items ≡ come_of u old.arrived.items
  elsewhere_now u ne =
      let joined = come_of-append u old.arrived.items more in
      let none = none_elsewhere u ne in
      let all = ap (come_of u) h.arrived in
      omega (arith, joined, none, all)

  lanes_are : (u : ℕ) (other : Lane V C D O R T) → slice_get new.lanes.items u ≡ Some other
      → IsLane view (openings u) new.number (come_of u new.arrived.items) other
  lanes_are u other e =
      rw h.number (
      elim (set_cases old.lanes.items t u becomes other (subst (λ xs. slice_get xs u ≡ Some other) h.lanes e)) [
        | inl (own, this) ↦ rw (own, this) becomes_lane
        | inr (ne, there) ↦ rw (elsewhere_now u ne) (is.lanes u other there)
      ]
      )

  becomes_holds : (id : ℕ)
      → listed t id old.held + (entrusted_in t id new.arrived.items + given t id new.gifts.items) + gave id ((view becomes.side).sent ++ becomes.waits.items)
      ≡ came (openings t) old.number (view becomes.side).sent (view becomes.side).got id
  becomes_holds id =
      let before = is.holds t lane id h.of_lane in
      let joined = entrusted_in-append t id old.arrived.items more in
      let brought = all_entrusted id in
      let arrived = ap (entrusted_in t id) h.arrived in
      let gifts_too = given-append t id old.gifts.items (gifts_from t old.number a.gifts.items) in
      let here = given_here t old.number id a.gifts.items in
      let gifts = ap (given t id) h.gifts in
      let came_here = brings.came_to id in
      let old_place = ap (λ c. came (openings t) c (view lane.side).sent (view lane.side).got id) was.place in
      let new_place = ap (λ c. came (openings t) c (view becomes.side).sent (view becomes.side).got id) (gets.place ∙ was.place) in
      let sent : gave id ((view becomes.side).sent ++ becomes.waits.items) ≡ gave id ((view lane.side).sent ++ lane.waits.items) = rw (gets.sent, h.waits) refl in
      omega (arith, before, joined, brought, arrived, gifts_too, here, gifts, came_here, old_place, new_place, sent)

  other_holds : (u : ℕ) (other : Lane V C D O R T) (id : ℕ) → u ≢ t → slice_get old.lanes.items u ≡ Some other
      → listed u id old.held + (entrusted_in u id new.arrived.items + given u id new.gifts.items) + gave id ((view other.side).sent ++ other.waits.items)
      ≡ came (openings u) old.number (view other.side).sent (view other.side).got id
  other_holds u other id ne there =
      let before = is.holds u other id there in
      let joined = entrusted_in-append u id old.arrived.items more in
      let none = none_entrusted u id ne in
      let arrived = ap (entrusted_in u id) h.arrived in
      let gifts_too = given-append u id old.gifts.items (gifts_from t old.number a.gifts.items) in
      let nothing = given_elsewhere u t old.number id a.gifts.items ne in
      let gifts = ap (given u id) h.gifts in
      omega (arith, before, joined, none, arrived, gifts_too, nothing, gifts)

  holds_are : (u : ℕ) (other : Lane V C D O R T) (id : ℕ) → slice_get new.lanes.items u ≡ Some other
      → listed u id new.held + (entrusted_in u id new.arrived.items + given u id new.gifts.items) + gave id ((view other.side).sent ++ other.waits.items)
      ≡ came (openings u) new.number (view other.side).sent (view other.side).got id
  holds_are u other id e =
      rw (h.number, h.held) (
      elim (set_cases old.lanes.items t u becomes other (subst (λ xs. slice_get xs u ≡ Some other) h.lanes e)) [
        | inl (own, this) ↦ rw (own, this) (becomes_holds id)
        | inr (ne, there) ↦ other_holds u other id ne there
      ]
      )

  arrived_more : length new.arrived.items + length becomes.launched.items
      ≡ length old.arrived.items + length lane.launched.items + length (asks_in (out_requests (view lane.side).out))
  arrived_more =
      let all = ap length h.arrived in
      let joined = length-append old.arrived.items more in
      let many = all_many in
      omega (arith, all, joined, many)

  gifts_more : length new.gifts.items ≡ length old.gifts.items + length a.gifts.items
  gifts_more =
      let all = ap length h.gifts in
      let joined = length-append old.gifts.items (gifts_from t old.number a.gifts.items) in
      let many = gifts_many t old.number a.gifts.items in
      omega (arith, all, joined, many)

  coming_is : new.coming ≡ lanes_coming view new.lanes.items + brought_in new.arrived.items + length new.gifts.items
  coming_is =
      let set = total_set (λ lane. lane_coming view lane) old.lanes.items t lane becomes h.of_lane in
      let lanes = ap (lanes_coming view) h.lanes in
      let before = is.coming in
      let now = h.coming in
      let room = was.room in
      let all = ap brought_in h.arrived in
      let joined = brought_in-append old.arrived.items more in
      let brought = all_brought in
      let gifts = gifts_more in
      let asks = asks_bring (out_requests (view lane.side).out) in
      let split_bring = bringing-append (asks_in (out_requests (view lane.side).out)) lane.waits.items in
      let waits = ap bringing now_waits in
      let none = ap out_room gets.out in
      omega (arith, set, lanes, before, now, room, all, joined, brought, gifts, asks, split_bring, waits, none)

  counting_is : length new.arrived.items + (lanes_unanswered view new.lanes.items + lanes_launched view new.lanes.items) ≡ lanes_counting view new.lanes.items
  counting_is =
      let set = total_set (λ lane. length (unanswered view lane)) old.lanes.items t lane becomes h.of_lane in
      let launched = total_set (λ lane. length lane.launched.items) old.lanes.items t lane becomes h.of_lane in
      let counts = total_set (λ lane. lane.counting) old.lanes.items t lane becomes h.of_lane in
      let lanes = ap (lanes_unanswered view) h.lanes in
      let launches = ap (lanes_launched view) h.lanes in
      let counting = ap (lanes_counting view) h.lanes in
      let many = arrived_more in
      let waits = ap length now_waits in
      let all = split in
      let one = h.counting in
      let before = is.counting in
      omega (arith, set, launched, counts, lanes, launches, counting, many, waits, all, one, before)

  pub receiving_keeps : length a.gifts.items ≤ out_room (view lane.side).out → IsClient view openings new
  receiving_keeps fits = record {
    lanes = lanes_are;
    clients = λ u lt. is.clients u (subst (λ n. u < n) as_many lt) ∙ sym h.clients;
    holds = holds_are;
    held = rw (h.held, as_many) is.held;
    coming = coming_is;
    most =
        let before = is.most in
        let now = h.coming in
        let room = was.room in
        let most = h.most in
        let held = ap held_count h.held in
        omega (arith, before, now, room, most, held, fits);
    arrived =
        rw (h.arrived, as_many)
        (all-append (λ x. (x.trustee < length old.lanes.items) × MayHand x.came) old.arrived.items more is.arrived all_takeable);
    gifts =
        rw (h.gifts, as_many, h.number)
        (all-append (λ g. (g.trustee < length old.lanes.items) × (g.client ≡ old.number)) old.gifts.items (gifts_from t old.number a.gifts.items) is.gifts
        (gifts_all t old.number (length old.lanes.items) a.gifts.items within));
    counting = counting_is;
    limit = rw h.most is.limit;
    held_room = rw (h.held, h.most) is.held_room;
    gifts_room = rw (h.most, h.gifts_room) is.gifts_room;
    arrived_room = rw (h.arrived_room, as_many) is.arrived_room;
  }
