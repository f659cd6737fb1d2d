-- A client that looked for the answers to a batch that is out.
use Rattle.std.proofs.Common.{◌≡◌, ◌≢◌, ℕ, zero, suc, ◌+◌, ◌*◌, ◌<◌, ◌≤◌, true, false, List, [], ◌∷◌, ◌++◌, length, drop, inl, inr, refl, sym, ◌∙◌, ap, subst, arith, append_assoc, append-nil, length-set}
use Rattle.std.specs.Prelude.{slice_get, slice_set, IsSomeAnd}
use Rattle.std.specs.declared.option.Option.{Option}
use Rattle.std.specs.declared.option.Option.TheVariants.{None, Some}
use Rattle.std.proofs.lemmas.Option.{slice_get_within}
use Rattle.tm_batch.specs.declared.limits.TheConstants.{WINDOW}
use Rattle.tm_batch.specs.declared.message.Request.{Request}
use Rattle.tm_batch.specs.declared.message.AnswerBatch.{AnswerBatch}
use Rattle.tm_model.specs.Lists.{IsPrefix}
use Rattle.tm_model.specs.State.{State}
use Rattle.tm_model.specs.Holds.{gave, came}
use Rattle.tm_model.specs.Entries.{batch_entries}
use Rattle.tm_pair.specs.Views.{BatchView, ClientView}
use Rattle.tm_pair.specs.Calls.{IsPending, Gets}
use Rattle.tm_client.specs.declared.lane.Lane.{Lane}
use Rattle.tm_client.specs.declared.books.Books.{Books}
use Rattle.tm_client.specs.Lanes.{asks_in, out_requests, out_room, is_out, unanswered, IsLane}
use Rattle.tm_client.specs.Asking.{At}
use Rattle.tm_client.specs.Listing.{listed}
use Rattle.tm_client.specs.Clients.{total, come_of, entrusted_in, given, lane_coming, lanes_counting, IsClient}
use Rattle.tm_client.specs.Receiving.{MayReceive, HasReceived, HasTakenIn}
use Rattle.tm_client.specs.Launches.{ended_tickets, launches_left, arrivals_of, finished_of, with_told}
use Rattle.tm_client.specs.Turns.{gifts_from}
use Rattle.tm_client.specs.SideLaws.{Brings}
use Rattle.tm_client.specs.Tickets.{EndsTickets}
use Rattle.tm_client.proofs.Accepting.{as_many_wait}
use Rattle.tm_client.proofs.Elements.{set_cases, same_element, total_set, total_most}
use Rattle.tm_client.proofs.Fronts.{set_there}
use Rattle.tm_client.proofs.Told.{once}

module _ {X : Type 0} where
  -- one of the numbers of a sum is at most the sum
  one_of_total : (f : X → ℕ) (xs : List X) (i : ℕ) (x : X) → slice_get xs i ≡ Some x → f x ≤ total f xs
  one_of_total f [] i x e = absurd cc
  one_of_total f (y ∷ xs) zero x e =
      let is : y ≡ x = cc in
      let same : f y ≡ f x = ap f is in
      omega (arith, same)
  one_of_total f (y ∷ xs) (suc i) x e = let rest = one_of_total f xs i x e in omega (arith, rest)

  -- of two writes at one place the second stands
  pub set_twice : (xs : List X) (i : ℕ) (x y : X) → slice_set (slice_set xs i x) i y ≡ slice_set xs i y
  set_twice [] i x y = refl
  set_twice (z ∷ xs) zero x y = refl
  set_twice (z ∷ xs) (suc i) x y = ap (λ l. z ∷ l) (set_twice xs i x y)

module _ {V O R T : Type 0} where
  pub some_out : (out : Option (BatchView V O R T)) → is_out out ≡ true → out ≢ None
  some_out None e = absurd cc
  some_out (Some batch) e = λ none. absurd cc

  pub none_out : (out : Option (BatchView V O R T)) → is_out out ≡ false → out ≡ None
  none_out None e = refl
  none_out (Some batch) e = absurd cc

  -- as many answers come as requests are out, and no more gifts than the batch has room for
  pub as_many : (a : AnswerBatch V O R T) (old new : ClientView V O R T) → Gets a old new → length a.answers.items ≡ length (out_requests old.out)
  as_many a old new gets = let (b, room, are) = gets.answers in are.answers ∙ ap (λ o. length (out_requests o)) (sym are.out)

  pub gifts_fit : (a : AnswerBatch V O R T) (old new : ClientView V O R T) → Gets a old new → length a.gifts.items ≤ out_room old.out
  gifts_fit a old new gets =
      let (b, room, are) = gets.answers in
      let is = ap out_room are.out in
      let fit = are.gifts in
      omega (arith, is, fit)

  -- the log that a side has seen begins with what it had seen before
  pub got_extends : (a : AnswerBatch V O R T) (old new : ClientView V O R T) → Gets a old new → IsPrefix old.seen new.seen
  got_extends a old new gets =
      let (b, room, are) = gets.answers in
      let (others, seen) = are.seen in
      let entries = batch_entries (old.seen ++ others) old.place b room a.answers.items in
      (others ++ entries, seen ∙ append_assoc old.seen others entries)

  pub same_extends : (old new : ClientView V O R T) → new.seen ≡ old.seen → IsPrefix old.seen new.seen
  same_extends old new seen = ([], seen ∙ sym (append-nil old.seen))

module _ {V C D O R T : Type 0} (view : D → ClientView V O R T) where
  -- a client has room for what came
  pub may_receive : (openings : ℕ → State V O R T) (t : ℕ) (a : AnswerBatch V O R T) (lane : Lane V C D O R T) (books : Books V C D O R T) (new : ClientView V O R T)
      → (is : IsClient view openings books) (there : slice_get books.lanes.items t ≡ Some lane) (run : List (Request V O R T))
      → (view lane.side).sent ≡ run ++ out_requests (view lane.side).out → Gets a (view lane.side) new
      → Brings (openings t) (out_requests (view lane.side).out) a (view lane.side) new → EndsTickets a (view lane.side) new → MayReceive a lane books
  may_receive openings t a lane books new is there run ran_is gets brings ends =
      let was = is.lanes t lane there in
      let fit = gifts_fit a (view lane.side) new gets in
      let room = was.room in
      let coming = is.coming in
      let one = one_of_total (λ lane. lane_coming view lane) books.lanes.items t lane there in record {
        arrived =
            let counting = is.counting in
            let most : lanes_counting view books.lanes.items ≤ WINDOW * length books.lanes.items =
            total_most (λ lane. lane.counting) WINDOW books.lanes.items (λ u other at. (is.lanes u other at).window) in
            let own = one_of_total (λ lane. length (unanswered view lane)) books.lanes.items t lane there in
            let names = as_many_wait view (openings t) books.number (come_of t books.arrived.items) lane was in
            let launched = one_of_total (λ lane. length lane.launched.items) books.lanes.items t lane there in
            let capacity = is.arrived_room in
            omega (arith, counting, most, own, launched, names, capacity);
        launched =
            let names = as_many_wait view (openings t) books.number (come_of t books.arrived.items) lane was in
            let counting = was.counting in
            let window = was.window in
            let capacity = was.launched_room in
            omega (arith, names, counting, window, capacity);
        once = once view openings t a lane books is there new run ran_is (as_many a (view lane.side) new gets) brings ends;
        ended = ends.ended;
        gifts =
            let all = is.most in
            let reserved = is.gifts_room in
            omega (arith, fit, coming, one, all, reserved);
        fit = omega (arith, fit, room);
        coming = omega (arith, room, coming, one);
      }

  -- so it has where only its side there changed
  pub looked_may_receive : (t : ℕ) (a : AnswerBatch V O R T) (lane : Lane V C D O R T) (side : D) (old mid : Books V C D O R T)
      → slice_get old.lanes.items t ≡ Some lane → mid.lanes.items ≡ slice_set old.lanes.items t (record lane { side = side })
      → mid ≡ record old { lanes = mid.lanes } → MayReceive a lane old → At mid t (λ l. MayReceive a l mid)
  looked_may_receive t a lane side old mid there lanes_are rest may =
      let looked : Lane V C D O R T = record lane { side = side } in
      let within = slice_get_within old.lanes.items t lane there in
      let now : slice_get mid.lanes.items t ≡ Some looked = ap (λ xs. slice_get xs t) lanes_are ∙ set_there old.lanes.items t looked within in
      let still : MayReceive a looked mid = record {
        arrived = rw (ap (λ b. b.arrived) rest) may.arrived;
        launched = may.launched;
        once = may.once;
        ended = may.ended;
        gifts = rw (ap (λ b. b.gifts) rest) may.gifts;
        fit = may.fit;
        coming = rw (ap (λ b. b.coming) rest) may.coming;
      } in
      subst (λ o. IsSomeAnd o (λ l. MayReceive a l mid)) (sym now) still

  -- what was taken in at the books that a look left was taken in from those before it
  module _ (t : ℕ) (a : AnswerBatch V O R T) (lane : Lane V C D O R T) (side : D) (old mid new : Books V C D O R T) (there : slice_get old.lanes.items t ≡ Some lane)
      (lanes_are : mid.lanes.items ≡ slice_set old.lanes.items t (record lane { side = side })) (rest : mid ≡ record old { lanes = mid.lanes })
      (taken : HasTakenIn t a mid new) where
    lane_is : taken.lane ≡ record lane { side = side }
    lane_is =
        same_element mid.lanes.items t (record lane { side = side }) taken.lane
        (subst (λ xs. slice_get xs t ≡ Some (record lane { side = side })) (sym lanes_are)
        (set_there old.lanes.items t (record lane { side = side }) (slice_get_within old.lanes.items t lane there)))
        taken.received.of_lane

    pub side_is : taken.becomes.side ≡ side
    side_is = taken.side ∙ ap (λ l. l.side) lane_is

    pub becomes_there : slice_get new.lanes.items t ≡ Some taken.becomes
    becomes_there =
        let within = slice_get_within mid.lanes.items t taken.lane taken.received.of_lane in
        subst (λ xs. slice_get xs t ≡ Some taken.becomes) (sym taken.received.lanes) (set_there mid.lanes.items t taken.becomes within)

    pub received : HasReceived t a lane taken.becomes old new
    received =
        let h = taken.received in record {
          of_lane = there;
          lanes = h.lanes ∙ ap (λ xs. slice_set xs t taken.becomes) lanes_are ∙ set_twice old.lanes.items t (record lane { side = side }) taken.becomes;
          waits = h.waits ∙ ap (λ l. l.waits) lane_is;
          afters = h.afters ∙ ap (λ l. drop (length a.answers.items) l.afters.items) lane_is;
          afters_room = h.afters_room ∙ ap (λ l. l.afters.capacity) lane_is;
          counting = h.counting ∙ ap (λ l. l.counting) lane_is;
          fetching = h.fetching ∙ ap (λ l. l.fetching) lane_is;
          closing = h.closing ∙ ap (λ l. l.closing) lane_is;
          said = h.said ∙ ap (λ l. l.said) lane_is;
          out = h.out;
          room = h.room;
          arrived =
              h.arrived
              ∙ ap (λ l. mid.arrived.items ++ (arrivals_of t l.afters.items a.answers.items ++ finished_of t (with_told l a) a.completions.items)) lane_is
              ∙ ap (λ b. b.arrived.items ++ (arrivals_of t lane.afters.items a.answers.items ++ finished_of t (with_told lane a) a.completions.items)) rest;
          launched = h.launched ∙ ap (λ l. launches_left (ended_tickets a.completions.items) (with_told l a)) lane_is;
          launched_room = h.launched_room ∙ ap (λ l. l.launched.capacity) lane_is;
          arrived_room = h.arrived_room ∙ ap (λ b. b.arrived.capacity) rest;
          gifts = h.gifts ∙ ap (λ b. b.gifts.items ++ gifts_from t b.number a.gifts.items) rest;
          gifts_room = h.gifts_room ∙ ap (λ b. b.gifts.capacity) rest;
          coming =
              let now = h.coming in
              let room = ap (λ l. l.room) lane_is in
              let coming = ap (λ b. b.coming) rest in
              omega (arith, now, room, coming);
          held = h.held ∙ ap (λ b. b.held) rest;
          number = h.number ∙ ap (λ b. b.number) rest;
          clients = h.clients ∙ ap (λ b. b.clients) rest;
          most = h.most ∙ ap (λ b. b.most) rest;
        }

  -- a client that looked and found nothing stays a client
  module _ (openings : ℕ → State V O R T) (t : ℕ) (lane : Lane V C D O R T) (side : D) (old new : Books V C D O R T) (is : IsClient view openings old)
      (there : slice_get old.lanes.items t ≡ Some lane) (lanes_are : new.lanes.items ≡ slice_set old.lanes.items t (record lane { side = side }))
      (rest : new ≡ record old { lanes = new.lanes }) (pending : IsPending (view lane.side) (view side)) where
    abbrev becomes : Lane V C D O R T
    becomes = record lane { side = side }

    was : IsLane view (openings t) old.number (come_of t old.arrived.items) lane
    was = is.lanes t lane there

    number_is : new.number ≡ old.number
    number_is = ap (λ b. b.number) rest

    arrived_is : new.arrived ≡ old.arrived
    arrived_is = ap (λ b. b.arrived) rest

    gifts_are : new.gifts ≡ old.gifts
    gifts_are = ap (λ b. b.gifts) rest

    held_is : new.held ≡ old.held
    held_is = ap (λ b. b.held) rest

    most_is : new.most ≡ old.most
    most_is = ap (λ b. b.most) rest

    same_count : length new.lanes.items ≡ length old.lanes.items
    same_count = ap length lanes_are ∙ length-set old.lanes.items t becomes

    same_out : (view side).out ≡ (view lane.side).out
    same_out = let (batch, before, after) = pending.out in after ∙ sym before

    same_unanswered : unanswered view becomes ≡ unanswered view lane
    same_unanswered = ap (λ o. asks_in (out_requests o) ++ lane.waits.items) same_out

    becomes_lane : IsLane view (openings t) old.number (come_of t old.arrived.items) becomes
    becomes_lane = record {
      place = pending.place ∙ was.place;
      client = was.client;
      waits_room = was.waits_room;
      afters_room = was.afters_room;
      launched_room = was.launched_room;
      names = rw same_out was.names;
      launched = rw pending.got was.launched;
      counting = rw same_out was.counting;
      window = was.window;
      out = rw same_out was.out;
      room = rw same_out was.room;
      said = rw pending.sent was.said;
      last = was.last;
      out_accepted = rw same_out was.out_accepted;
      waits = was.waits;
      grants = was.grants;
      held = rw (pending.sent, pending.place, pending.got) was.held;
    }

    lanes_stay : (u : ℕ) (other : Lane V C D O R T) → slice_get new.lanes.items u ≡ Some other
        → IsLane view (openings u) new.number (come_of u new.arrived.items) other
    lanes_stay u other e =
        rw (number_is, arrived_is) (
        elim (set_cases old.lanes.items t u becomes other (subst (λ xs. slice_get xs u ≡ Some other) lanes_are e)) [
          | inl (own, this) ↦ rw (own, this) becomes_lane
          | inr (ne, at) ↦ is.lanes u other at
        ]
        )

    becomes_holds : (id : ℕ)
        → listed t id old.held + (entrusted_in t id old.arrived.items + given t id old.gifts.items) + gave id ((view becomes.side).sent ++ becomes.waits.items)
        ≡ came (openings t) old.number (view becomes.side).sent (view becomes.side).got id
    becomes_holds id = rw (pending.sent, pending.got) (is.holds t lane id there)

    holds_stay : (u : ℕ) (other : Lane V C D O R T) (id : ℕ) → slice_get new.lanes.items u ≡ Some other
        → listed u id new.held + (entrusted_in u id new.arrived.items + given u id new.gifts.items) + gave id ((view other.side).sent ++ other.waits.items)
        ≡ came (openings u) new.number (view other.side).sent (view other.side).got id
    holds_stay u other id e =
        rw (number_is, arrived_is, held_is, gifts_are) (
        elim (set_cases old.lanes.items t u becomes other (subst (λ xs. slice_get xs u ≡ Some other) lanes_are e)) [
          | inl (own, this) ↦ rw (own, this) (becomes_holds id)
          | inr (ne, at) ↦ is.holds u other id at
        ]
        )

    same_coming : lane_coming view becomes ≡ lane_coming view lane
    same_coming = rw same_out refl

    pub looking_keeps : IsClient view openings new
    looking_keeps = record {
      lanes = lanes_stay;
      clients = λ u lt. is.clients u (subst (λ n. u < n) same_count lt) ∙ sym (ap (λ b. b.clients) rest);
      holds = holds_stay;
      held = rw (held_is, same_count) is.held;
      coming = rw (arrived_is, gifts_are, lanes_are) (
          let set = total_set (λ lane. lane_coming view lane) old.lanes.items t lane becomes there in
          let same = same_coming in
          let before = is.coming in
          let now = ap (λ b. b.coming) rest in
          omega arith
          );
      most = rw (held_is, most_is) (
          let now = ap (λ b. b.coming) rest in
          let before = is.most in
          omega arith
          );
      limit = rw most_is is.limit;
      arrived = rw (arrived_is, same_count) is.arrived;
      gifts = rw (gifts_are, same_count, number_is) is.gifts;
      counting = rw (arrived_is, lanes_are) (
          let set = total_set (λ lane. length (unanswered view lane)) old.lanes.items t lane becomes there in
          let waits = total_set (λ lane. length lane.launched.items) old.lanes.items t lane becomes there in
          let counts = total_set (λ lane. lane.counting) old.lanes.items t lane becomes there in
          let same = ap length same_unanswered in
          let before = is.counting in
          omega arith
          );
      held_room = rw (held_is, most_is) is.held_room;
      gifts_room = rw (gifts_are, most_is) is.gifts_room;
      arrived_room = rw (arrived_is, same_count) is.arrived_room;
    }
