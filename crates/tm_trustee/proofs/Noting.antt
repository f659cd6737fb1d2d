-- What is noted at a lane, and what is taken from one.
use Rattle.std.proofs.Common.{◌≡◌, ℕ, ◌+◌, ◌-◌, ◌<◌, ◌≤◌, List, [], length, slice_index_or, refl, sym, ◌∙◌, ap, subst, arith}
use Rattle.std.specs.Prelude.{slice_get, slice_set, IfNone, IfSome}
use Rattle.std.specs.declared.option.Option.{Option}
use Rattle.std.specs.declared.option.Option.TheVariants.{None, Some}
use Rattle.std.proofs.lemmas.List.{set-get_or}
use Rattle.std.proofs.lemmas.Option.{slice_get_within}
use Rattle.tm_latch.specs.declared.ticket.Ticket.{Ticket}
use Rattle.tm_state.specs.Launches.{Pending}
use Rattle.tm_state.specs.declared.resumed.Resumed.TheVariants.{Asked}
use Rattle.tm_trustee.specs.Tasks.{AsksAt, HasPlace, MayNote, Notes, TakesReply, TakesAt, HasAskers, IsToldAt}
use Rattle.tm_trustee.specs.declared.lane.Lane.{Lane}
use Rattle.tm_trustee.proofs.Elements.{read_at, same_element}

module _ {V O R T : Type 0} where
  -- a launch that asks trustee u can be noted at its lane, the one of index k
  module _ (number u x k : ℕ) (op : O) (launch : Ticket (Pending T)) (lanes : List (Lane V O R T)) (may : MayNote number (Asked u x op launch) lanes)
      (k_is : k ≡ u - number - 1) where
    index_is : k ≡ u - (number + 1)
    index_is = omega (arith, k_is)

    pub is_above : number < u
    is_above = may.0

    there : slice_get lanes k ≡ Some may.1.0
    there = subst (λ n. slice_get lanes n ≡ Some may.1.0) (sym index_is) may.1.1

    pub is_within : k < length lanes
    is_within = slice_get_within lanes k may.1.0 there

    module _ (lane : Lane V O R T) (read : lane ≡ slice_index_or lanes k lane) where
      at_lane : slice_get lanes k ≡ Some lane
      at_lane = read_at lanes k lane is_within read

      pub has_place : HasPlace x lane
      has_place = subst (λ l. HasPlace x l) (sym (same_element lanes k may.1.0 lane there at_lane)) may.1.2

      pub noted : (becomes : Lane V O R T) → AsksAt x op launch lane becomes → Notes number (Asked u x op launch) lanes (slice_set lanes k becomes)
      noted becomes asks =
          (lane, becomes, subst (λ n. slice_get lanes n ≡ Some lane) index_is at_lane, asks, ap (λ n. slice_set lanes n becomes) index_is)

  -- the first reply that came at lane i is taken, or none came
  module _ (i : ℕ) (lanes : List (Lane V O R T)) (lane : Lane V O R T) (within : i < length lanes) (read : lane ≡ slice_index_or lanes i lane) where
    taken_at : slice_get lanes i ≡ Some lane
    taken_at = read_at lanes i lane within read

    pub enough : HasAskers i lanes → length lane.came.items ≤ length lane.askers.items
    enough askers = askers lane taken_at

    pub next_none : (r : Option (Ticket (Pending T) × R)) → IfNone r (lane.came.items ≡ []) → IfNone r (IsToldAt i lanes)
    next_none None none = λ other at. ap (λ (x : Lane V O R T). x.came.items) (same_element lanes i lane other taken_at at) ∙ none
    next_none (Some p) none = tt

    pub next_same : (r : Option (Ticket (Pending T) × R)) (mid : Lane V O R T) → IfNone r (mid ≡ lane) → IfNone r (slice_set lanes i mid ≡ lanes)
    next_same None mid same = ap (λ x. slice_set lanes i x) (same ∙ read) ∙ set-get_or lanes i lane
    next_same (Some p) mid same = tt

    pub next_takes :
        (r : Option (Ticket (Pending T) × R)) (mid : Lane V O R T) → IfSome r (λ p. TakesReply p.0 p.1 lane mid)
        → IfSome r (λ p. TakesAt i p.0 p.1 lanes (slice_set lanes i mid))
    next_takes None mid takes = tt
    next_takes (Some p) mid takes = (lane, mid, taken_at, takes, refl)
