-- A client that hands out the first of what arrived.
use Rattle.std.proofs.Common.{◌≡◌, ◌≢◌, ℕ, ◌+◌, ◌<◌, ◌≤◌, ◌==◌, cond, Bool, List, [], ◌∷◌, ◌++◌, length, inl, inr, refl, sym, ◌∙◌, ap, subst, arith, length-set, eq-eqb, ne_eqb}
use Rattle.std.specs.Prelude.{◌-◌, drop, slice_get}
use Rattle.std.specs.List.{AllByRecursion}
use Rattle.std.specs.declared.option.Option.TheVariants.{Some}
use Rattle.std.proofs.lemmas.Option.{slice_get_within}
use Rattle.tm_batch.specs.declared.message.Name.{Name}
use Rattle.tm_batch.specs.declared.message.Answer.{Answer}
use Rattle.tm_batch.specs.declared.message.Answer.TheVariants.{Entrusted, NotEntrusted, Replied, Launched, TicketsSpent, Granted, Gone, GiftsFull, Released, Reclaimed, Shared, ByeDone}
use Rattle.tm_model.specs.State.{State}
use Rattle.tm_model.specs.Holds.{gave, came}
use Rattle.tm_pair.specs.Views.{ClientView}
use Rattle.tm_client.specs.declared.lane.Lane.{Lane}
use Rattle.tm_client.specs.declared.holds.Hold.{Hold}
use Rattle.tm_client.specs.declared.holds.Holds.{Holds}
use Rattle.tm_client.specs.declared.trust.Trust.{Trust}
use Rattle.tm_client.specs.declared.answers.Arrival.{Arrival}
use Rattle.tm_client.specs.declared.answers.Came.{Came}
use Rattle.tm_client.specs.declared.answers.Came.TheVariants.{Answered, Finished}
use Rattle.tm_client.specs.declared.answers.Got.{Got}
use Rattle.tm_client.specs.declared.books.Books.{Books}
use Rattle.tm_client.specs.Listing.{hold_of, is_at, listed, held_count, room_for, held_at}
use Rattle.tm_client.specs.Lanes.{unanswered, IsLane}
use Rattle.tm_client.specs.Clients.{brings_by, entrusted_by, come_of, entrusted_in, given, brought_in, MayHand, lane_coming, lanes_coming, lanes_unanswered, lanes_launched, lanes_counting, IsClient}
use Rattle.tm_client.specs.Taking.{IsListed, IsGot, IsHanded, CountsLess, HasTaken}
use Rattle.tm_client.proofs.Elements.{set_cases, total_set}
use Rattle.tm_client.proofs.Listed.{gains_listed, gains_all}

pub first_rest : {X : Type 0} (xs : List X) (x : X) → slice_get xs 0 ≡ Some x → (rest : List X) × (xs ≡ x ∷ rest)
first_rest [] x e = absurd cc
first_rest (y ∷ xs) x e = let is : y ≡ x = cc in (xs, ap (λ z. z ∷ xs) is)

pub first_drop : {X : Type 0} (xs : List X) (x : X) → slice_get xs 0 ≡ Some x → xs ≡ x ∷ drop 1 xs
first_drop [] x e = absurd cc
first_drop (y ∷ xs) x e = let is : y ≡ x = cc in ap (λ z. z ∷ xs) is

pub back_again : (n m : ℕ) → m ≤ n → n ≡ (n - m) + m
back_again n m le = omega arith

abbrev counted : Bool → ℕ
counted b = cond b 1 0

one_at : (t : ℕ) → counted (t == t) ≡ 1
one_at t = ap counted (eq-eqb t t refl)

none_at : (t u : ℕ) → t ≢ u → counted (t == u) ≡ 0
none_at t u other = ap counted (ne_eqb t u other)

-- what comes with what came of trustee t for a request of this name, once it is taken
pub record Comes {V O R T : Type 0} (t : ℕ) (name : Name) (a : Came V O R T) (old new : Holds) : Type 0 where
  pub listed_is : (u id : ℕ) → listed u id new ≡ listed u id old + entrusted_by u id t name a
  pub count : held_count new ≤ held_count old + brings_by a
  pub standing : (n : ℕ) → t < n → ((at : ℕ) (h : Hold) → held_at old at ≡ Some h → h.trustee < n)
      → (at : ℕ) (h : Hold) → held_at new at ≡ Some h → h.trustee < n
  pub room : room_for new ≡ room_for old

module _ {V O R T : Type 0} where
  none_comes : (t : ℕ) (name : Name) (a : Came V O R T) (old new : Holds) → ((u id : ℕ) → entrusted_by u id t name a ≡ 0) → new ≡ old → Comes t name a old new
  none_comes t name a old new none same = record {
    listed_is = λ u id. let all = ap (listed u id) same in let zero = none u id in omega (arith, all, zero);
    count = let all = ap held_count same in omega (arith, all);
    standing = λ n lt all at h e. all at h (ap (λ held. held_at held at) (sym same) ∙ e);
    room = ap room_for same;
  }

  one_comes : (t c : ℕ) (asked name : Name) (a : Came V O R T) (trust : Trust) (old new : Holds)
      → ((u id : ℕ) → entrusted_by u id t name a ≡ is_at u id t asked.id) → 1 ≤ brings_by a → IsListed t c asked trust old new → Comes t name a old new
  one_comes t c asked name a trust old new one bring is = record {
    listed_is = λ u id.
        let gains = gains_listed u id (hold_of t asked) trust.at old new is.gains in
        let by = one u id in
        omega (arith, gains, by);
    count = let count = is.gains.count in omega (arith, count, bring);
    standing = λ n lt all. gains_all (λ h. h.trustee < n) (hold_of t asked) trust.at old new is.gains lt all;
    room = is.gains.room;
  }

  comes : (t c : ℕ) (name : Name) (a : Answer V O R T) (got : Got V O R T) (old new : Holds) → IsGot t c name a got old new → Comes t name (Answered a) old new
  comes t c name (Entrusted n) got old new (trust, is, listed) = one_comes t c n name (Answered (Entrusted n)) trust old new (λ u id. refl) (omega arith) listed
  comes t c name (NotEntrusted refusal v) got old new h = none_comes t name (Answered (NotEntrusted refusal v)) old new (λ u id. refl) h.1
  comes t c name (Replied r) got old new h = none_comes t name (Answered (Replied r)) old new (λ u id. refl) h.1
  comes t c name (Launched ticket) got old new h = absurd h
  comes t c name (TicketsSpent task) got old new h = none_comes t name (Answered (TicketsSpent task)) old new (λ u id. refl) h.1
  comes t c name Granted got old new h = none_comes t name (Answered Granted) old new (λ u id. refl) h.1
  comes t c name Gone got old new h = none_comes t name (Answered Gone) old new (λ u id. refl) h.1
  comes t c name GiftsFull got old new h = none_comes t name (Answered GiftsFull) old new (λ u id. refl) h.1
  comes t c name Released got old new h = none_comes t name (Answered Released) old new (λ u id. refl) h.1
  comes t c name (Reclaimed v) got old new h = none_comes t name (Answered (Reclaimed v)) old new (λ u id. refl) h.1
  comes t c name Shared got old new (trust, is, listed) = one_comes t c name name (Answered Shared) trust old new (λ u id. refl) (omega arith) listed
  comes t c name ByeDone got old new h = absurd h

  comes_by : (t c : ℕ) (name : Name) (a : Came V O R T) (got : Got V O R T) (old new : Holds) → IsHanded t c name a got old new → Comes t name a old new
  comes_by t c name (Answered a) got old new h = comes t c name a got old new h
  comes_by t c name (Finished r) got old new h = none_comes t name (Finished r) old new (λ u id. refl) h.1

module _ {V C D O R T : Type 0} (view : D → ClientView V O R T) where
  -- a lane of which one answer was taken
  counting_keeps :
      (opening : State V O R T) (c n m : ℕ) (lane becomes : Lane V C D O R T) → IsLane view opening c n lane → CountsLess lane becomes → n ≡ m + 1
      → IsLane view opening c m becomes
  counting_keeps opening c n m lane becomes is h one = record {
    place = rw h.side is.place;
    client = is.client;
    waits_room = rw h.waits is.waits_room;
    afters_room = rw h.afters is.afters_room;
    launched_room = rw h.launched is.launched_room;
    names = rw (h.side, h.waits, h.afters) is.names;
    launched = rw (h.side, h.launched) is.launched;
    counting = rw (h.side, h.waits, h.launched) (let was = is.counting in let now = h.counting in omega arith);
    window = let was = is.window in let now = h.counting in omega arith;
    out = h.out ∙ rw h.side is.out;
    room = h.room ∙ rw h.side is.room;
    said = h.said ∙ rw h.side is.said;
    last = λ s. let was = is.last (sym h.said ∙ s) in (h.closing ∙ was.0, let none = was.1 in let now = h.counting in omega arith);
    out_accepted = rw h.side is.out_accepted;
    waits = rw h.waits is.waits;
    grants = rw h.waits is.grants;
    held = rw (h.side, h.waits) is.held;
  }

  module _ (openings : ℕ → State V O R T) (after : C) (got : Got V O R T) (old new : Books V C D O R T)
      (is : IsClient view openings old) (a : HasTaken after got old new) where
    as_many : length new.lanes.items ≡ length old.lanes.items
    as_many = ap length a.lanes ∙ length-set old.lanes.items a.t a.becomes

    within : a.t < length old.lanes.items
    within = slice_get_within old.lanes.items a.t a.lane a.of_lane

    came_one : (u : ℕ) → come_of u old.arrived.items ≡ cond (a.t == u) 1 0 + come_of u new.arrived.items
    came_one u = ap (λ xs. come_of u xs) a.first

    one_here : come_of a.t old.arrived.items ≡ come_of a.t new.arrived.items + 1
    one_here =
        let one : counted (a.t == a.t) ≡ 1 = one_at a.t in
        let all = came_one a.t in omega arith

    none_there : (u : ℕ) → u ≢ a.t → come_of u old.arrived.items ≡ come_of u new.arrived.items
    none_there u other =
        let none : counted (a.t == u) ≡ 0 = none_at a.t u (λ same. other (sym same)) in
        let all = came_one u in omega arith

    becomes_lane : IsLane view (openings a.t) old.number (come_of a.t new.arrived.items) a.becomes
    becomes_lane =
        counting_keeps (openings a.t) old.number (come_of a.t old.arrived.items) (come_of a.t new.arrived.items) a.lane a.becomes
        (is.lanes a.t a.lane a.of_lane) a.counts one_here

    lanes_are : (u : ℕ) (lane : Lane V C D O R T) → slice_get new.lanes.items u ≡ Some lane
        → IsLane view (openings u) new.number (come_of u new.arrived.items) lane
    lanes_are u lane e =
        rw a.number (
        elim (set_cases old.lanes.items a.t u a.becomes lane (subst (λ xs. slice_get xs u ≡ Some lane) a.lanes e)) [
          | inl (same, becomes) ↦ rw (same, becomes) becomes_lane
          | inr (other, there) ↦ subst (λ n. IsLane view (openings u) old.number n lane) (none_there u other) (is.lanes u lane there)
        ]
        )

    by_answer : Comes a.t a.name a.came old.held new.held
    by_answer = comes_by a.t old.number a.name a.came got old.held new.held a.is_got

    moved : (u id : ℕ)
        → listed u id new.held + (entrusted_in u id new.arrived.items + given u id new.gifts.items)
        ≡ listed u id old.held + (entrusted_in u id old.arrived.items + given u id old.gifts.items)
    moved u id =
        let all = ap (λ xs. entrusted_in u id xs) a.first in
        let held = by_answer.listed_is u id in
        let gifts = ap (λ gs. given u id gs.items) a.gifts in
        omega arith

    same_waits : (id : ℕ) → gave id ((view a.becomes.side).sent ++ a.becomes.waits.items) ≡ gave id ((view a.lane.side).sent ++ a.lane.waits.items)
    same_waits id = rw (a.counts.side, a.counts.waits) refl

    becomes_holds : (id : ℕ)
        → listed a.t id new.held + (entrusted_in a.t id new.arrived.items + given a.t id new.gifts.items) + gave id ((view a.becomes.side).sent ++ a.becomes.waits.items)
        ≡ came (openings a.t) old.number (view a.becomes.side).sent (view a.becomes.side).got id
    becomes_holds id = rw (moved a.t id, same_waits id, a.counts.side) (is.holds a.t a.lane id a.of_lane)

    holds_are : (u : ℕ) (lane : Lane V C D O R T) (id : ℕ) → slice_get new.lanes.items u ≡ Some lane
        → listed u id new.held + (entrusted_in u id new.arrived.items + given u id new.gifts.items) + gave id ((view lane.side).sent ++ lane.waits.items)
        ≡ came (openings u) new.number (view lane.side).sent (view lane.side).got id
    holds_are u lane id e =
        rw a.number (
        elim (set_cases old.lanes.items a.t u a.becomes lane (subst (λ xs. slice_get xs u ≡ Some lane) a.lanes e)) [
          | inl (same, becomes) ↦ rw (same, becomes) (becomes_holds id)
          | inr (other, there) ↦ rw (moved u id) (is.holds u lane id there)
        ]
        )

    same_coming : lane_coming view a.becomes ≡ lane_coming view a.lane
    same_coming = rw (a.counts.side, a.counts.waits) refl

    same_length : length (unanswered view a.becomes) ≡ length (unanswered view a.lane)
    same_length = rw (a.counts.side, a.counts.waits) refl

    coming_is : new.coming ≡ lanes_coming view new.lanes.items + brought_in new.arrived.items + length new.gifts.items
    coming_is =
        rw (a.gifts, a.lanes) (
        let set = total_set (λ lane. lane_coming view lane) old.lanes.items a.t a.lane a.becomes a.of_lane in
        let same = same_coming in
        let all = ap (λ xs. brought_in xs) a.first in
        let before = is.coming in
        let now = a.coming in
        omega arith
        )

    counting_is : length new.arrived.items + (lanes_unanswered view new.lanes.items + lanes_launched view new.lanes.items) ≡ lanes_counting view new.lanes.items
    counting_is =
        rw a.lanes (
        let set = total_set (λ lane. length (unanswered view lane)) old.lanes.items a.t a.lane a.becomes a.of_lane in
        let waits = total_set (λ lane. length lane.launched.items) old.lanes.items a.t a.lane a.becomes a.of_lane in
        let still = ap (λ l. length l.items) a.counts.launched in
        let counts = total_set (λ lane. lane.counting) old.lanes.items a.t a.lane a.becomes a.of_lane in
        let same = same_length in
        let one = a.counts.counting in
        let all = ap length a.first in
        let before = is.counting in
        omega arith
        )

    most_is : held_count new.held + new.coming ≤ old.most
    most_is =
        let most = is.most in
        let now = a.coming in
        let little = by_answer.count in
        omega (arith, most, now, little)

    rest_arrived : AllByRecursion (λ x. (x.trustee < length old.lanes.items) × MayHand x.came) new.arrived.items
    rest_arrived = (subst (λ xs. AllByRecursion (λ x. (x.trustee < length old.lanes.items) × MayHand x.came) xs) a.first is.arrived).1

    pub taking_keeps : IsClient view openings new
    taking_keeps = record {
      lanes = lanes_are;
      clients = λ u lt. is.clients u (subst (λ n. u < n) as_many lt) ∙ sym a.clients;
      holds = holds_are;
      held = rw as_many (by_answer.standing (length old.lanes.items) within is.held);
      coming = coming_is;
      most = rw a.most most_is;
      limit = rw a.most is.limit;
      arrived = rw as_many rest_arrived;
      gifts = rw (a.gifts, as_many, a.number) is.gifts;
      counting = counting_is;
      held_room = rw (by_answer.room, a.most) is.held_room;
      gifts_room = rw (a.gifts, a.most) is.gifts_room;
      arrived_room = rw (a.capacity, as_many) is.arrived_room;
    }

  -- what a client that has an answer to hand out knows of it
  pub record IsFirst (books : Books V C D O R T) (x : Arrival V C O R T) : Type 0 where
    pub within : x.trustee < length books.lanes.items
    pub takeable : MayHand x.came
    pub coming : brings_by x.came ≤ books.coming
    pub room : held_count books.held + brings_by x.came ≤ room_for books.held
    pub counts : (lane : Lane V C D O R T) → slice_get books.lanes.items x.trustee ≡ Some lane → 1 ≤ lane.counting

  pub is_first :
      (openings : ℕ → State V O R T) (books : Books V C D O R T) (x : Arrival V C O R T) → IsClient view openings books
      → slice_get books.arrived.items 0 ≡ Some x → IsFirst books x
  is_first openings books x is e =
      let (rest, all) = first_rest books.arrived.items x e in
      let first = (subst (λ xs. AllByRecursion (λ y. (y.trustee < length books.lanes.items) × MayHand y.came) xs) all is.arrived).0 in
      let brought : brought_in books.arrived.items ≡ brings_by x.came + brought_in rest = ap (λ xs. brought_in xs) all in
      let coming : brings_by x.came ≤ books.coming = let sum = is.coming in omega arith in
      record {
        within = first.0;
        takeable = first.1;
        coming = coming;
        room = let most = is.most in let room = is.held_room in omega arith;
        counts = λ lane there.
            let one : counted (x.trustee == x.trustee) ≡ 1 = one_at x.trustee in
            let come : come_of x.trustee books.arrived.items ≡ cond (x.trustee == x.trustee) 1 0 + come_of x.trustee rest = ap (λ xs. come_of x.trustee xs) all in
            let counts = (is.lanes x.trustee lane there).counting in
            omega arith;
      }
