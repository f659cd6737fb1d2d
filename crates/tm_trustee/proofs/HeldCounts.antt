-- How many objects a trustee holds at each greater one is how many names its new lanes have.
use Rattle.std.proofs.Common.{◌≡◌, ℕ, suc, ◌+◌, ◌-◌, ◌^◌, ◌<◌, ◌≤◌, ◌==◌, true, false, cond, List, [], ◌∷◌, length, filter, inl, inr, sym, ◌∙◌, ap, subst, arith}
use Rattle.std.specs.Prelude.{slice_get, nat_lt}
use Rattle.std.specs.declared.option.Option.TheVariants.{Some}
use Rattle.std.proofs.lemmas.Bool.{cases_lt, le-ltb}
use Rattle.std.proofs.lemmas.List.{length-map, get_or_past}
use Rattle.std.proofs.lemmas.List.FromFn.{get_or-map-range_with_len, length-map-range_with_len}
use Rattle.tm_batch.specs.declared.config.Config.{Config}
use Rattle.tm_batch.specs.declared.config.First.{First}
use Rattle.tm_batch.specs.declared.message.Name.{Name}
use Rattle.tm_model.specs.Opening.{is_named, placed_on, ids_naming, ids_at}
use Rattle.tm_model.specs.State.{State, ids_above}
use Rattle.tm_state.specs.Resuming.{AreHeld}
use Rattle.tm_trustee.specs.Begun.{MayBegin}
use Rattle.tm_trustee.specs.Lanes.{AreNewLanes, AreCounted, names_held}
use Rattle.tm_trustee.specs.declared.lane.Lane.{Lane}
use Rattle.tm_trustee.proofs.Elements.{element_at}
use Rattle.tm_trustee.proofs.LaneNews.{count_there, count_below, count_past, counts_read}

module _ {V : Type 0} where
  few_named : (c id : ℕ) (fs : List (First V)) → length (ids_naming c id fs) ≤ length fs
  few_named c id [] = omega arith
  few_named c id (f ∷ fs) =
      let more = few_named c (id + 1) fs in
      elim (is_named c f) as (λ b. length (cond b (id ∷ ids_naming c (id + 1) fs) (ids_naming c (id + 1) fs)) ≤ suc (length fs)) [
        | true ↦ omega (arith, more)
        | false ↦ omega (arith, more)
      ]

module _ {V O R T : Type 0} (s : State V O R T) (number : ℕ) (config : Config) (whole first : List (First V)) (nested : List (ℕ × Name)) (seats : ℕ)
    (may : MayBegin s number config whole first nested seats) where
  above_of : (u : ℕ) → u < config.trustees → ids_above s.setup u ≡ cond (nat_lt number u) (ids_at u (config.clients + number) whole) []
  above_of u few =
      ap (λ (x : State V O R T). ids_above x.setup u) may.opening
      ∙ get_or-map-range_with_len (λ v. cond (nat_lt number v) (ids_at v (config.clients + number) whole) []) 0 config.trustees u u [] few (omega arith)

  none_past : (u : ℕ) → config.trustees ≤ u → ids_above s.setup u ≡ []
  none_past u past =
      let size : length s.setup.above ≡ config.trustees = ap (λ (x : State V O R T). length x.setup.above) may.opening ∙ length-map-range_with_len _ 0 config.trustees in
      get_or_past s.setup.above u [] (omega (arith, size, past))

  few_above : (u : ℕ) → length (ids_above s.setup u) < 2 ^ 32
  few_above u =
      elim (cases_lt u config.trustees) [
        | inl within ↦
            let is = ap (λ v. length v) (above_of u within) in
            let named = few_named (config.clients + number) 1 (placed_on u whole) in
            let placed = may.opens.buildable.room u in
            let objects = may.opens.buildable.objects.1 in
            elim (nat_lt number u) as (λ b. length (ids_above s.setup u) ≡ length (cond b (ids_at u (config.clients + number) whole) []) → length (ids_above s.setup u) < 2 ^ 32) [
              | true ↦ λ e. omega (arith, e, named, placed, objects)
              | false ↦ λ e. omega (arith, e)
            ] is
        | inr past ↦ let none = ap (λ v. length v) (none_past u past) in omega (arith, none)
      ]

  module _ (room : ℕ) (lanes : List (Lane V O R T)) (new : AreNewLanes (number + 1) room nested seats lanes) where
    names_of : (i : ℕ) (lane : Lane V O R T) → slice_get lanes i ≡ Some lane → length lane.names.items ≡ length (ids_above s.setup (number + 1 + i))
    names_of i lane at =
        let u = number + 1 + i in
        ap (λ v. length v) (new.each i lane at).names ∙ length-map (filter (λ n. n.0 == u) nested) (λ n. n.1)
        ∙ sym (length-map (filter (λ n. n.0 == u) nested) (λ n. n.1.id)) ∙ ap (λ v. length v) (may.nested u)

    pub few_names : (i : ℕ) (lane : Lane V O R T) → slice_get lanes i ≡ Some lane → length lane.names.items < 2 ^ 32
    few_names i lane at = subst (λ n. n < 2 ^ 32) (sym (names_of i lane at)) (few_above (number + 1 + i))

    pub held_are : (held : List ℕ) → AreCounted number lanes (number + 1 + length lanes) held → AreHeld s.setup held
    held_are held are u = counts_read number lanes held are u ∙ each u
      where
        each : (u : ℕ) → names_held number lanes u ≡ length (ids_above s.setup u)
        each u =
            elim (cases_lt number u) [
              | inl lt ↦
                  elim (cases_lt (u - (number + 1)) (length lanes)) [
                    | inl within ↦
                        let (lane, at) = element_at lanes (u - (number + 1)) within in
                        let back : number + 1 + (u - (number + 1)) ≡ u = omega (arith, lt) in
                        count_there number lanes u lane lt at ∙ names_of (u - (number + 1)) lane at ∙ ap (λ n. length (ids_above s.setup n)) back
                    | inr past ↦
                        let many = new.as_many in
                        let sides = may.sides in
                        count_past number lanes u lt past ∙ sym (ap (λ v. length v) (none_past u (omega (arith, lt, past, many, sides))))
                  ]
              | inr le ↦
                  count_below number lanes u le ∙ sym (below u le)
            ]
          where
            below : (u : ℕ) → u ≤ number → length (ids_above s.setup u) ≡ 0
            below u le =
                elim (cases_lt u config.trustees) [
                  | inl within ↦ ap (λ v. length v) (above_of u within ∙ ap (λ b. cond b (ids_at u (config.clients + number) whole) []) (le-ltb number u le))
                  | inr past ↦ ap (λ v. length v) (none_past u past)
                ]
