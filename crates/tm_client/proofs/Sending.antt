-- A client that published what was due stays a client.
use Rattle.std.proofs.Common.{◌≡◌, ◌≢◌, ℕ, ◌+◌, ◌<◌, ◌≤◌, true, false, List, [], ◌∷◌, ◌++◌, length, map, inl, inr, refl, sym, ◌∙◌, ap, subst, arith, append_assoc, append-nil, length-append, length-set}
use Rattle.std.specs.Prelude.{slice_get}
use Rattle.std.specs.List.{AllByRecursion}
use Rattle.std.specs.declared.option.Option.TheVariants.{None, Some}
use Rattle.std.proofs.lemmas.Option.{slice_get_within}
use Rattle.std.proofs.lemmas.List.{length-map}
use Rattle.tm_seq.specs.Kind.{Kind}
use Rattle.tm_batch.specs.declared.limits.TheConstants.{WINDOW}
use Rattle.tm_batch.specs.declared.message.Request.{Request}
use Rattle.tm_batch.specs.declared.message.Request.TheVariants.{Entrust, Apply, Launch, Grant, Release, Reclaim, Bye}
use Rattle.tm_model.specs.State.{State}
use Rattle.tm_model.specs.Holds.{has_bye, launches_in, gave, ended_in, came}
use Rattle.tm_model.specs.Orderly.{GrantsBelow}
use Rattle.tm_core.proofs.Tallies.{gave-append, launches_in-append, bye_at, came_same}
use Rattle.tm_pair.specs.Views.{ClientView}
use Rattle.tm_pair.specs.Sides.{IsGoodClient}
use Rattle.tm_pair.specs.Calls.{MaySend, Publishes}
use Rattle.tm_client.specs.declared.lane.Lane.{Lane}
use Rattle.tm_client.specs.declared.books.Books.{Books}
use Rattle.tm_client.specs.Lanes.{asks_in, out_requests, out_room, bringing, IsAccepted, AreHeld, name_of, names_of, unanswered, IsLane}
use Rattle.tm_client.specs.Launches.{waiting_tickets}
use Rattle.tm_client.specs.Listing.{listed}
use Rattle.tm_client.specs.Clients.{come_of, entrusted_in, given, brought_in, lane_coming, lanes_coming, lanes_unanswered, lanes_launched, lanes_counting, IsClient}
use Rattle.tm_client.specs.Sending.{HasGone}
use Rattle.tm_client.proofs.Elements.{set_cases, total_set}
use Rattle.tm_client.proofs.Arriving.{no_bye_asks}
use Rattle.tm_client.proofs.Tickets.{tickets_tell}
use Rattle.tm_client.proofs.Living.{as_many_came}
use Rattle.tm_client.proofs.Going.{all_front, accepted_no_bye, waits_may_go, rest_is_held, byes_may_go}

all_behind : {X : Type 0} (P : X → Type 0) (xs ys : List X) → AllByRecursion P (xs ++ ys) → AllByRecursion P ys
all_behind P [] ys h = h
all_behind P (x ∷ xs) ys h = all_behind P xs ys h.1

none_long : {X : Type 0} (xs : List X) → length xs ≡ 0 → xs ≡ []
none_long [] e = refl
none_long (x ∷ xs) e = absurd (omega (arith, e))

none_inside : {X : Type 0} (before after : List X) (x : X) → [] ≢ before ++ x ∷ after
none_inside [] after x e = cc
none_inside (y ∷ before) after x e = cc

module _ {V O R T : Type 0} where
  still_none : (xs ys : List (Request V O R T)) → has_bye ys ≡ false → has_bye (xs ++ ys) ≡ has_bye xs
  still_none [] ys e = e
  still_none (Entrust v ∷ xs) ys e = still_none xs ys e
  still_none (Apply n op ∷ xs) ys e = still_none xs ys e
  still_none (Launch n task ∷ xs) ys e = still_none xs ys e
  still_none (Grant n d ∷ xs) ys e = still_none xs ys e
  still_none (Release n ∷ xs) ys e = still_none xs ys e
  still_none (Reclaim n ∷ xs) ys e = still_none xs ys e
  still_none (Bye ∷ xs) ys e = refl

  few_launches : (qs : List (Request V O R T)) → launches_in qs ≤ length qs
  few_launches [] = omega arith
  few_launches (Launch n task ∷ qs) = let more = few_launches qs in omega (arith, more)
  few_launches (Entrust v ∷ qs) = let more = few_launches qs in omega (arith, more)
  few_launches (Apply n op ∷ qs) = let more = few_launches qs in omega (arith, more)
  few_launches (Grant n d ∷ qs) = let more = few_launches qs in omega (arith, more)
  few_launches (Release n ∷ qs) = let more = few_launches qs in omega (arith, more)
  few_launches (Reclaim n ∷ qs) = let more = few_launches qs in omega (arith, more)
  few_launches (Bye ∷ qs) = let more = few_launches qs in omega (arith, more)

module _ {V C D O R T : Type 0} (kind : Kind V O R T) (view : D → ClientView V O R T) (opening : State V O R T) (c n : ℕ) (lane : Lane V C D O R T)
    (was : IsLane view opening c n lane) (good : IsGoodClient kind opening (view lane.side)) where
  -- nothing waits behind a Bye
  none_behind : has_bye (view lane.side).sent ≡ true → lane.waits.items ≡ []
  none_behind bye =
      let none = (was.last (was.said ∙ bye)).1 in
      let counts = was.counting in
      let joined = length-append (asks_in (out_requests (view lane.side).out)) lane.waits.items in
      none_long lane.waits.items (omega (arith, none, counts, joined))

  -- as many launches lack their completion as their tickets wait
  as_many_launched : length lane.launched.items ≡ length (waiting_tickets (view lane.side).got)
  as_many_launched = sym (length-map lane.launched.items (λ l. l.ticket)) ∙ ap length was.launched

  -- where nothing is out, the launches that were sent and have not ended are those of the lane
  launches_are : (view lane.side).out ≡ None → launches_in (view lane.side).sent ≡ ended_in (view lane.side).got + length lane.launched.items
  launches_are free =
      let told = (tickets_tell kind opening (view lane.side) good).launches in
      let none = ap (λ o. launches_in (out_requests o)) free in
      let many = as_many_launched in
      omega (arith, told, none, many)

  -- no more launches go with the front of what waits than the window has room for
  launches_fit : (b rest : List (Request V O R T)) → lane.waits.items ≡ b ++ rest → (view lane.side).out ≡ None
      → launches_in ((view lane.side).sent ++ b) ≤ WINDOW + ended_in (view lane.side).got
  launches_fit b rest parts free =
      let all = launches_in-append (view lane.side).sent b in
      let are = launches_are free in
      let few = few_launches b in
      let waits = ap length parts ∙ length-append b rest in
      let joined = length-append (asks_in (out_requests (view lane.side).out)) lane.waits.items in
      let counts = was.counting in
      let window = was.window in
      omega (arith, all, are, few, waits, joined, counts, window)

  -- the front of what waits may be sent
  pub front_may_go : (b rest : List (Request V O R T)) → lane.waits.items ≡ b ++ rest → MaySend opening (view lane.side) b
  front_may_go b rest parts free =
      waits_may_go kind opening (view lane.side) b rest good (rw was.place was.client) (launches_fit b rest parts free) (λ bye. sym parts ∙ none_behind bye)
      (subst (AllByRecursion IsAccepted) parts was.waits) (subst (AllByRecursion (GrantsBelow opening.setup.config.clients)) parts was.grants)
      (subst (AreHeld opening (view lane.side)) parts was.held)

  -- and so may a Bye
  pub bye_may_go : lane.said ≡ false → lane.counting ≡ 0 → MaySend opening (view lane.side) (Bye ∷ [])
  bye_may_go unsaid nothing free =
      let are = launches_are free in
      let counts = was.counting in
      byes_may_go kind opening (view lane.side) good (rw was.place was.client) (omega (arith, are, counts, nothing)) (sym was.said ∙ unsaid)

module _ {V C D O R T : Type 0} (kind : Kind V O R T) (view : D → ClientView V O R T) (openings : ℕ → State V O R T) (t : ℕ)
    (b : List (Request V O R T)) (room : ℕ) (lane becomes : Lane V C D O R T) (old new : Books V C D O R T) (is : IsClient view openings old)
    (h : HasGone t b room lane becomes old new) (good : IsGoodClient kind (openings t) (view lane.side)) (free : (view lane.side).out ≡ None)
    (publishes : Publishes b room (view lane.side) (view becomes.side)) where
  within : t < length old.lanes.items
  within = slice_get_within old.lanes.items t lane h.of_lane

  as_many : length new.lanes.items ≡ length old.lanes.items
  as_many = ap length h.lanes ∙ length-set old.lanes.items t becomes

  was : IsLane view (openings t) old.number (come_of t old.arrived.items) lane
  was = is.lanes t lane h.of_lane

  before : unanswered view lane ≡ lane.waits.items
  before = rw free refl

  -- what the lane knows of what went and of what waits still
  record Went : Type 0 where
    unanswered_is : unanswered view becomes ≡ lane.waits.items
    said : becomes.said ≡ has_bye (view becomes.side).sent
    last : becomes.said ≡ true → (becomes.closing ≡ true) × (becomes.counting ≡ 0)
    out_accepted : AllByRecursion IsAccepted (asks_in b)
    waits : AllByRecursion IsAccepted becomes.waits.items
    grants : AllByRecursion (GrantsBelow (openings t).setup.config.clients) becomes.waits.items
    held : AreHeld (openings t) (view becomes.side) becomes.waits.items
    came_is : (id : ℕ)
        → came (openings t) (view becomes.side).place (view becomes.side).sent (view becomes.side).got id
        ≡ came (openings t) (view lane.side).place (view lane.side).sent (view lane.side).got id
    gave_same : (id : ℕ) → gave id ((view becomes.side).sent ++ becomes.waits.items) ≡ gave id ((view lane.side).sent ++ lane.waits.items)

  came_stays : (id : ℕ)
      → came (openings t) (view becomes.side).place (view becomes.side).sent (view becomes.side).got id
      ≡ came (openings t) (view lane.side).place (view lane.side).sent (view lane.side).got id
  came_stays id =
      rw (publishes.place, publishes.sent, publishes.got)
      (came_same (openings t) (view lane.side).place (view lane.side).sent b (view lane.side).got id (as_many_came kind (openings t) (view lane.side) good))

  front_went : lane.waits.items ≡ b ++ becomes.waits.items → becomes.said ≡ lane.said → Went
  front_went parts said =
      let accepted = subst (AllByRecursion IsAccepted) parts was.waits in
      let own = all_front IsAccepted b becomes.waits.items accepted in
      let no_bye = accepted_no_bye b own in
      let rest =
      rest_is_held kind (openings t) (view lane.side) (view becomes.side) b becomes.waits.items room good publishes
      (subst (AreHeld (openings t) (view lane.side)) parts was.held) in
      record {
        unanswered_is =
            let out : unanswered view becomes ≡ asks_in b ++ becomes.waits.items = rw publishes.out refl in
            out ∙ ap (λ l. l ++ becomes.waits.items) (no_bye_asks b no_bye) ∙ sym parts;
        said = said ∙ was.said ∙ sym (ap has_bye publishes.sent ∙ still_none (view lane.side).sent b no_bye);
        last = λ s. rw (h.closing, h.counting) (was.last (sym said ∙ s));
        out_accepted = subst (AllByRecursion IsAccepted) (sym (no_bye_asks b no_bye)) own;
        waits = all_behind IsAccepted b becomes.waits.items accepted;
        grants =
            all_behind (GrantsBelow (openings t).setup.config.clients) b becomes.waits.items
            (subst (AllByRecursion (GrantsBelow (openings t).setup.config.clients)) parts was.grants);
        held = rest.0;
        came_is = rest.1;
        gave_same = λ id.
            ap (λ l. gave id (l ++ becomes.waits.items)) publishes.sent ∙ ap (gave id) (append_assoc (view lane.side).sent b becomes.waits.items)
            ∙ ap (λ l. gave id ((view lane.side).sent ++ l)) (sym parts);
      }

  bye_went : b ≡ Bye ∷ [] → lane.waits.items ≡ [] → becomes.waits.items ≡ [] → lane.closing ≡ true → lane.counting ≡ 0 → becomes.said ≡ true → Went
  bye_went alone none rest closing nothing said =
      let sent : (view becomes.side).sent ≡ (view lane.side).sent ++ Bye ∷ [] = publishes.sent ∙ ap (λ l. (view lane.side).sent ++ l) alone in
      record {
        unanswered_is =
            let out : unanswered view becomes ≡ asks_in b ++ becomes.waits.items = rw publishes.out refl in
            out ∙ ap (λ l. asks_in l ++ becomes.waits.items) alone ∙ rest ∙ sym none;
        said = said ∙ sym (ap has_bye sent ∙ bye_at (view lane.side).sent []);
        last = λ s. (h.closing ∙ closing, h.counting ∙ nothing);
        out_accepted = rw alone tt;
        waits = rw rest tt;
        grants = rw rest tt;
        held = λ first after q id e names. absurd (none_inside first after q (sym rest ∙ e));
        came_is = came_stays;
        gave_same = λ id.
            let now = ap (λ l. gave id (l ++ becomes.waits.items)) sent ∙ ap (λ l. gave id (((view lane.side).sent ++ Bye ∷ []) ++ l)) rest
            ∙ ap (gave id) (append-nil ((view lane.side).sent ++ Bye ∷ [])) ∙ gave-append id (view lane.side).sent (Bye ∷ []) in
            let earlier = ap (λ l. gave id ((view lane.side).sent ++ l)) none ∙ ap (gave id) (append-nil (view lane.side).sent) in
            omega (arith, now, earlier);
      }

  went : Went
  went = elim h.goes [
    | inl front ↦ front_went front.0 front.1
    | inr bye ↦ bye_went bye.0 bye.1 bye.2 bye.3 bye.4 bye.5
  ]

  becomes_lane : IsLane view (openings t) old.number (come_of t old.arrived.items) becomes
  becomes_lane = record {
    place = publishes.place ∙ was.place;
    client = was.client;
    waits_room = h.waits_room ∙ was.waits_room;
    afters_room = rw h.afters was.afters_room;
    launched_room = rw h.launched was.launched_room;
    names = ap (λ l. names_of l.items) h.afters ∙ was.names ∙ ap (map name_of) before ∙ sym (ap (map name_of) went.unanswered_is);
    launched = rw (h.launched, publishes.got) was.launched;
    counting =
        let counts = h.counting in
        let all = was.counting in
        let now = ap length went.unanswered_is in
        let earlier = ap length before in
        let still = ap (λ l. length l.items) h.launched in
        omega (arith, counts, all, now, earlier, still);
    window = rw h.counting was.window;
    out = rw publishes.out h.out;
    room = rw publishes.out h.room_of;
    said = went.said;
    last = went.last;
    out_accepted = rw publishes.out went.out_accepted;
    waits = went.waits;
    grants = went.grants;
    held = went.held;
  }

  lanes_are : (u : ℕ) (other : Lane V C D O R T) → slice_get new.lanes.items u ≡ Some other
      → IsLane view (openings u) new.number (come_of u new.arrived.items) other
  lanes_are u other e =
      rw (h.number, h.arrived) (
      elim (set_cases old.lanes.items t u becomes other (subst (λ xs. slice_get xs u ≡ Some other) h.lanes e)) [
        | inl (own, this) ↦ rw (own, this) becomes_lane
        | inr (ne, there) ↦ is.lanes u other there
      ]
      )

  becomes_holds : (id : ℕ)
      → listed t id old.held + (entrusted_in t id old.arrived.items + given t id old.gifts.items) + gave id ((view becomes.side).sent ++ becomes.waits.items)
      ≡ came (openings t) old.number (view becomes.side).sent (view becomes.side).got id
  becomes_holds id =
      let all = is.holds t lane id h.of_lane in
      let same_came = went.came_is id in
      let same_gave = went.gave_same id in
      let old_place = ap (λ c. came (openings t) c (view lane.side).sent (view lane.side).got id) was.place in
      let new_place = ap (λ c. came (openings t) c (view becomes.side).sent (view becomes.side).got id) (publishes.place ∙ was.place) in
      omega (arith, all, same_came, same_gave, old_place, new_place)

  holds_are : (u : ℕ) (other : Lane V C D O R T) (id : ℕ) → slice_get new.lanes.items u ≡ Some other
      → listed u id new.held + (entrusted_in u id new.arrived.items + given u id new.gifts.items) + gave id ((view other.side).sent ++ other.waits.items)
      ≡ came (openings u) new.number (view other.side).sent (view other.side).got id
  holds_are u other id e =
      rw (h.number, h.held, h.arrived, h.gifts) (
      elim (set_cases old.lanes.items t u becomes other (subst (λ xs. slice_get xs u ≡ Some other) h.lanes e)) [
        | inl (own, this) ↦ rw (own, this) (becomes_holds id)
        | inr (ne, there) ↦ is.holds u other id there
      ]
      )

  coming_is : new.coming ≡ lanes_coming view new.lanes.items + brought_in new.arrived.items + length new.gifts.items
  coming_is =
      rw (h.arrived, h.gifts, h.lanes) (
      let set = total_set (λ lane. lane_coming view lane) old.lanes.items t lane becomes h.of_lane in
      let all = is.coming in
      let now = h.coming in
      let bring = ap bringing went.unanswered_is in
      let brought = ap bringing before in
      let none = ap out_room free in
      let some = ap out_room publishes.out in
      omega (arith, set, all, now, bring, brought, none, some)
      )

  counting_is : length new.arrived.items + (lanes_unanswered view new.lanes.items + lanes_launched view new.lanes.items) ≡ lanes_counting view new.lanes.items
  counting_is =
      rw (h.arrived, h.lanes) (
      let set = total_set (λ lane. length (unanswered view lane)) old.lanes.items t lane becomes h.of_lane in
      let waits = total_set (λ lane. length lane.launched.items) old.lanes.items t lane becomes h.of_lane in
      let counts = total_set (λ lane. lane.counting) old.lanes.items t lane becomes h.of_lane in
      let now = ap length went.unanswered_is in
      let earlier = ap length before in
      let still = ap (λ l. length l.items) h.launched in
      let one = h.counting in
      let all = is.counting in
      omega (arith, set, waits, counts, now, earlier, still, one, all)
      )

  pub sending_keeps : IsClient view openings new
  sending_keeps = record {
    lanes = lanes_are;
    clients = λ u lt. is.clients u (subst (λ n. u < n) as_many lt) ∙ sym h.clients;
    holds = holds_are;
    held = rw (h.held, as_many) is.held;
    coming = coming_is;
    most = rw (h.held, h.most, h.coming) h.fits;
    arrived = rw (h.arrived, as_many) is.arrived;
    gifts = rw (h.gifts, as_many, h.number) is.gifts;
    counting = counting_is;
    limit = rw h.most is.limit;
    held_room = rw (h.held, h.most) is.held_room;
    gifts_room = rw (h.gifts, h.most) is.gifts_room;
    arrived_room = rw (h.arrived, as_many) is.arrived_room;
  }
