-- A client at first.
use Rattle.std.proofs.Common.{◌≡◌, ℕ, zero, suc, ◌+◌, ◌*◌, ◌<◌, ◌≤◌, List, [], ◌∷◌, ◌++◌, length, map, take, inl, inr, refl, sym, ◌∙◌, ap, subst, arith, append-nil}
use Rattle.std.specs.Prelude.{count_by, is_some, slice_get, slice_index_or}
use Rattle.std.specs.List.{AllByRecursion, AllZip}
use Rattle.std.specs.declared.option.Option.TheVariants.{None, Some}
use Rattle.std.proofs.lemmas.Bool.{cases_eq}
use Rattle.std.proofs.lemmas.List.{length-map, map-append, take_more}
use Rattle.tm_batch.specs.declared.limits.TheConstants.{WINDOW}
use Rattle.tm_batch.specs.declared.config.Config.{Config}
use Rattle.tm_batch.specs.declared.config.First.{First}
use Rattle.tm_batch.specs.declared.message.Name.{Name}
use Rattle.tm_batch.specs.declared.message.Request.{Request}
use Rattle.tm_model.specs.State.{State, holds_at}
use Rattle.tm_model.specs.Holds.{gave, came}
use Rattle.tm_core.proofs.CallerLemmas.{all-append}
use Rattle.tm_pair.specs.Views.{ClientView, new_client}
use Rattle.tm_client.specs.declared.lane.Lane.{Lane}
use Rattle.tm_client.specs.declared.holds.Hold.{Hold}
use Rattle.tm_client.specs.declared.holds.Holds.{Holds}
use Rattle.tm_client.specs.declared.trust.Trust.{Trust}
use Rattle.tm_client.specs.declared.books.Books.{Books}
use Rattle.tm_client.specs.Lanes.{unanswered, AreHeld, IsLane}
use Rattle.tm_client.specs.Listing.{hold_of, listed, held_count, held_at, Gains}
use Rattle.tm_client.specs.Taking.{IsListed}
use Rattle.tm_client.specs.Clients.{come_of, entrusted_in, given, lane_coming, lanes_coming, lanes_unanswered, lanes_launched, lanes_counting, IsClient}
use Rattle.tm_client.proofs.Told.{none_left}
use Rattle.tm_client.proofs.Listed.{at_other, gains_listed, listed_has}
use Rattle.tm_client.specs.Begun.{named_at, StandsIn, new_lane, IsTrustOf, IsFirstTrust, MayBegin, AreOpenings, HasBegun, IsFirstClient}

named-append : (t id : ℕ) (xs ys : List (ℕ × Name)) → named_at t id (xs ++ ys) ≡ named_at t id xs + named_at t id ys
named-append t id [] ys = omega arith
named-append t id (h ∷ xs) ys = let more = named-append t id xs ys in omega (arith, more)

-- a trustee that some of the names have is below what they all are
named_below : (t id n : ℕ) (held : List (ℕ × Name)) → AllByRecursion (λ h. h.0 < n) held → 1 ≤ named_at t id held → t < n
named_below t id n [] all some = absurd (omega (arith, some))
named_below t id n (h ∷ held) all some = elim (cases_eq t h.0) [
  | inl same ↦ let first = all.0 in omega (arith, same, first)
  | inr other ↦
      let none = at_other t h.0 id h.1.id other in
      named_below t id n held all.1 (omega (arith, some, none))
]

-- an empty list has no trusts
pub none_counted : (list : Holds) → list.places.slots ≡ [] → held_count list ≡ 0
none_counted list none = ap (count_by is_some) none

-- one pair more behind others
zip_more : {X Y : Type 0} (R : X → Y → Type 0) (xs : List X) (ys : List Y) (x : X) (y : Y) → AllZip R xs ys → R x y → AllZip R (xs ++ x ∷ []) (ys ++ y ∷ [])
zip_more R [] [] x y all one = (one, tt)
zip_more R [] (z ∷ ys) x y all one = absurd all
zip_more R (z ∷ xs) [] x y all one = absurd all
zip_more R (z ∷ xs) (w ∷ ys) x y all one = (all.0, zip_more R xs ys x y all.1 one)

-- one trust more of what is held
pub trusts_more :
    (c i : ℕ) (held : List (ℕ × Name)) (d : ℕ × Name) (trusts next : List Trust) (trust : Trust) → i < length held → next ≡ trusts ++ trust ∷ []
    → IsTrustOf c (slice_index_or held i d) trust → AllZip (IsTrustOf c) (take i held) trusts → AllZip (IsTrustOf c) (take (i + 1) held) next
trusts_more c i held d trusts next trust lt more is before =
    rw (more, take_more held i d lt) (zip_more (IsTrustOf c) (take i held) trusts (slice_index_or held i d) trust before is)

-- and what the list has by the names so far
pub listed_more :
    (t id c i : ℕ) (held : List (ℕ × Name)) (d : ℕ × Name) (first old new : Holds) (trust : Trust) → i < length held
    → IsListed (slice_index_or held i d).0 c (slice_index_or held i d).1 trust old new
    → listed t id old ≡ listed t id first + named_at t id (take i held) → listed t id new ≡ listed t id first + named_at t id (take (i + 1) held)
listed_more t id c i held d first old new trust lt is before =
    let x = slice_index_or held i d in
    let gains = gains_listed t id (hold_of x.0 x.1) trust.at old new is.gains in
    let all = ap (named_at t id) (take_more held i d lt) in
    let joined = named-append t id (take i held) (x ∷ []) in
    omega (arith, gains, before, all, joined)

-- where one more trust stands, the others stand still
still_stands : (h : Hold) (at : ℕ) (old new : Holds) (trust : Trust) → Gains h at old new → StandsIn old trust → StandsIn new trust
still_stands h at old new trust gains stands = elim (cases_eq trust.at at) [
  | inl same ↦ absurd (
      let none : Some (hold_of trust.trustee trust.name) ≡ None = sym stands ∙ ap (held_at old) same ∙ gains.free in cc
      )
  | inr other ↦ gains.updates.others trust.at other ∙ stands
]

all_stand : (h : Hold) (at : ℕ) (old new : Holds) (trusts : List Trust) → Gains h at old new → AllByRecursion (StandsIn old) trusts
    → AllByRecursion (StandsIn new) trusts
all_stand h at old new [] gains all = tt
all_stand h at old new (trust ∷ trusts) gains all = (still_stands h at old new trust gains all.0, all_stand h at old new trusts gains all.1)

-- and so does the one that was put in
pub stand_more : (t c : ℕ) (name : Name) (old new : Holds) (trusts next : List Trust) (trust : Trust) → IsListed t c name trust old new
    → next ≡ trusts ++ trust ∷ [] → AllByRecursion (StandsIn old) trusts → AllByRecursion (StandsIn new) next
stand_more t c name old new trusts next trust is more all =
    let own : StandsIn new trust = rw (is.trustee, is.name) is.gains.updates.changed in
    rw more (all-append (StandsIn new) trusts (trust ∷ []) (all_stand (hold_of t name) trust.at old new trusts is.gains all) (own, tt))

module _ {V C D O R T : Type 0} where
  -- one lane more at first
  pub lanes_more : (lanes next : List (Lane V C D O R T)) (sides : List D) (side : D) (lane : Lane V C D O R T)
      → next ≡ lanes ++ lane ∷ [] → lane ≡ new_lane side → lanes ≡ map new_lane sides → next ≡ map new_lane (sides ++ side ∷ [])
  lanes_more lanes next sides side lane more new before =
      more ∙ ap (λ l. l ++ lane ∷ []) before ∙ ap (λ x. map new_lane sides ++ x ∷ []) new ∙ sym (map-append new_lane sides (side ∷ []))

  -- all lanes at first
  pub lanes_all : (lanes : List (Lane V C D O R T)) (yielded rest sides : List D) → length rest ≡ 0 → yielded ++ rest ≡ sides
      → lanes ≡ map new_lane yielded → lanes ≡ map new_lane sides
  lanes_all lanes yielded rest sides none all are =
      are ∙ ap (map new_lane) (sym (append-nil yielded) ∙ ap (λ l. yielded ++ l) (sym (none_left rest none)) ∙ all)

module _ {V O R T : Type 0} where
  -- no request waits among none
  none_waits : (before after : List (Request V O R T)) (q : Request V O R T) → [] ≡ before ++ q ∷ after → ⊥
  none_waits [] after q e = absurd cc
  none_waits (p ∷ before) after q e = absurd cc

  none_held : (opening : State V O R T) (view : ClientView V O R T) → AreHeld opening view []
  none_held opening view before after q id e names = absurd (none_waits before after q e)

module _ {V C D O R T : Type 0} (view : D → ClientView V O R T) (number : ℕ) where
  -- a lane at first
  first_lane : (opening : State V O R T) (side : D) → view side ≡ new_client number → number < opening.setup.config.clients
      → IsLane {C = C} view opening number 0 (new_lane side)
  first_lane opening side e lt = record {
    place = ap (λ v. v.place) e;
    client = lt;
    waits_room = refl;
    afters_room = refl;
    launched_room = refl;
    names = rw e refl;
    launched = rw e refl;
    counting = rw e refl;
    window = omega arith;
    out = rw e refl;
    room = rw e refl;
    said = rw e refl;
    last = λ said. absurd cc;
    out_accepted = rw e tt;
    waits = tt;
    grants = tt;
    held = none_held opening (view side);
  }

  -- the lane of one of the sides is one at first
  lane_of : (sides : List D) (t : ℕ) (lane : Lane V C D O R T) → AllByRecursion (λ side. view side ≡ new_client number) sides
      → slice_get (map new_lane sides) t ≡ Some lane → (side : D) × (lane ≡ new_lane side) × (view side ≡ new_client number) × (t < length sides)
  lane_of [] t lane all e = absurd cc
  lane_of (side ∷ sides) zero lane all e = let is : new_lane side ≡ lane = cc in (side, sym is, all.0, omega arith)
  lane_of (side ∷ sides) (suc t) lane all e =
      let (other, is, new, lt) = lane_of sides t lane all.1 e in (other, is, new, omega (arith, lt))

module _ {V D O R T : Type 0} (C : Type 0) (view : D → ClientView V O R T) (number : ℕ) where
  -- nothing comes by any of them, nothing is unanswered, nothing lacks its completion and nothing counts
  none_coming : (sides : List D) → AllByRecursion (λ side. view side ≡ new_client number) sides → lanes_coming {C = C} view (map new_lane sides) ≡ 0
  none_coming [] all = refl
  none_coming (side ∷ sides) all =
      let rest = none_coming sides all.1 in
      let first : lane_coming {C = C} view (new_lane side) ≡ 0 = rw (all.0) refl in
      omega (arith, rest, first)

  none_unanswered : (sides : List D) → AllByRecursion (λ side. view side ≡ new_client number) sides → lanes_unanswered {C = C} view (map new_lane sides) ≡ 0
  none_unanswered [] all = refl
  none_unanswered (side ∷ sides) all =
      let rest = none_unanswered sides all.1 in
      let first : length (unanswered {C = C} view (new_lane side)) ≡ 0 = rw (all.0) refl in
      omega (arith, rest, first)

  none_counting : (sides : List D) → lanes_counting {V = V} {O = O} {R = R} {T = T} {C = C} view (map new_lane sides) ≡ 0
  none_counting [] = refl
  none_counting (side ∷ sides) = let rest = none_counting sides in omega (arith, rest)

  none_launched : (sides : List D) → lanes_launched {V = V} {O = O} {R = R} {T = T} {C = C} view (map new_lane sides) ≡ 0
  none_launched [] = refl
  none_launched (side ∷ sides) = let rest = none_launched sides in omega (arith, rest)

module _ {V D O R T : Type 0} (view : D → ClientView V O R T) (number : ℕ) where
  -- it gave nothing away, and what came to it is what the opening gave it
  first_gave : (side : D) (id : ℕ) → view side ≡ new_client number → gave id ((view side).sent ++ []) ≡ 0
  first_gave side id e = rw e refl

  first_came : (opening : State V O R T) (side : D) (id : ℕ) → view side ≡ new_client number
      → came opening number (view side).sent (view side).got id ≡ holds_at opening number id
  first_came opening side id e = rw e (omega arith)

module _ {V C D O R T : Type 0} (view : D → ClientView V O R T) (number : ℕ) (config : Config) (sides : List D) (held : List (ℕ × Name))
    (books : Books V C D O R T) (begun : HasBegun number config sides held books) (new : AllByRecursion (λ side. view side ≡ new_client number) sides) where
  as_many : length books.lanes.items ≡ length sides
  as_many = ap length begun.lanes ∙ length-map sides new_lane

  nothing_arrived : books.arrived.items ≡ []
  nothing_arrived = ap (λ b. b.items) begun.arrived

  no_gifts : books.gifts.items ≡ []
  no_gifts = ap (λ b. b.items) begun.gifts

  module _ (whole : List (First V)) (openings : ℕ → State V O R T) (may : MayBegin V O R T number config whole (length sides) held)
      (are : AreOpenings config whole openings) where
    below : (t : ℕ) → t < length sides → t < config.trustees
    below t lt = let many = may.sides_of in omega (arith, many, lt)

    config_is : (t : ℕ) → t < length sides → (openings t).setup.config ≡ config
    config_is t lt = ap (λ s. s.setup.config) (are t (below t lt))

    lanes_are : (t : ℕ) (lane : Lane V C D O R T) → slice_get books.lanes.items t ≡ Some lane
        → IsLane view (openings t) books.number (come_of t books.arrived.items) lane
    lanes_are t lane e =
        let (side, is, first, lt) = lane_of view number sides t lane new (subst (λ xs. slice_get xs t ≡ Some lane) begun.lanes e) in
        let client = subst (λ c. number < c.clients) (sym (config_is t lt)) may.number_of in
        rw (is, begun.number_of, nothing_arrived) (first_lane view number (openings t) side first client)

    holds_are : (t : ℕ) (lane : Lane V C D O R T) (id : ℕ) → slice_get books.lanes.items t ≡ Some lane
        → listed t id books.held + (entrusted_in t id books.arrived.items + given t id books.gifts.items) + gave id ((view lane.side).sent ++ lane.waits.items)
        ≡ came (openings t) books.number (view lane.side).sent (view lane.side).got id
    holds_are t lane id e =
        let (side, is, first, lt) = lane_of view number sides t lane new (subst (λ xs. slice_get xs t ≡ Some lane) begun.lanes e) in
        rw (is, begun.number_of, nothing_arrived, no_gifts) (
        let named = begun.holds t id in
        let given = may.given t id (below t lt) in
        let opening = ap (λ s. holds_at s number id) (are t (below t lt)) in
        let none = first_gave view number side id first in
        let all = first_came view number (openings t) side id first in
        omega (arith, named, given, opening, none, all)
        )

    pub begun_is_client : IsClient view openings books
    begun_is_client = record {
      lanes = lanes_are;
      clients = λ t lt.
          let within : t < length sides = let many = as_many in omega (arith, many, lt) in
          ap (λ c. c.clients) (config_is t within) ∙ sym begun.clients;
      holds = holds_are;
      held = λ at h there. rw (as_many, may.sides_of) (
          let counts = listed_has h.trustee h.id books.held (at, there) in
          let named = begun.holds h.trustee h.id in
          named_below h.trustee h.id config.trustees held may.trustees (omega (arith, counts, named))
          );
      coming =
          rw (begun.coming, begun.lanes, nothing_arrived, no_gifts) (let none = none_coming C view number sides new in omega (arith, none));
      most =
          let few = may.most in
          let many = begun.holds_count in
          let none = begun.coming in
          let most = begun.most in
          omega (arith, few, many, none, most);
      limit = rw begun.most may.buildable.trusts.1;
      arrived = rw nothing_arrived tt;
      gifts = rw no_gifts tt;
      held_room = rw begun.most begun.holds_room;
      gifts_room = let room = ap (λ b. b.capacity) begun.gifts in let most = begun.most in omega (arith, room, most);
      counting =
          rw (begun.lanes, nothing_arrived) (
          let none = none_unanswered C view number sides new in
          let zero = none_counting C view number sides in
          let launched = none_launched C view number sides in
          omega (arith, none, zero, launched)
          );
      arrived_room = ap (λ b. b.capacity) begun.arrived ∙ ap (λ n. WINDOW * n) (sym as_many);
    }

  pub begun_first : IsFirstClient view number config (length sides) held books
  begun_first whole openings may are = begun_is_client whole openings may are

module _ {V C D O R T : Type 0} (books : Books V C D O R T) where
  -- each trust of a name that stands in the list is held
  trusts_held : (held : List (ℕ × Name)) (trusts : List Trust) → AllByRecursion (StandsIn books.held) trusts
      → AllZip (IsTrustOf books.number) held trusts → AllZip (IsFirstTrust books) held trusts
  trusts_held [] [] stand all = tt
  trusts_held [] (x ∷ trusts) stand all = absurd all
  trusts_held (h ∷ held) [] stand all = absurd all
  trusts_held (h ∷ held) (x ∷ trusts) stand all =
      (record { names = all.0; stands = stand.0; listed = (all.0.client, (x.at, stand.0)) }, trusts_held held trusts stand.1 all.1)

  pub first_trusts_held : (number : ℕ) (held : List (ℕ × Name)) (trusts : List Trust) → books.number ≡ number
      → AllByRecursion (StandsIn books.held) trusts → AllZip (IsTrustOf number) held trusts → AllZip (IsFirstTrust books) held trusts
  first_trusts_held number held trusts same stand all = trusts_held held trusts stand (subst (λ c. AllZip (IsTrustOf c) held trusts) (sym same) all)
