-- The parts of what a runtime may be built from are the whole.
use Rattle.std.proofs.Common.{◌≡◌, ◌≢◌, ℕ, ◌+◌, ◌<◌, ◌≤◌, inl, inr, List, [], ◌∷◌, length, refl, arith, ne_eqb}
use Rattle.std.specs.Prelude.{All, nat_eq}
use Rattle.std.specs.List.{AllByRecursion, IsDistinct}
use Rattle.std.proofs.lemmas.Bool.{cases_lt}
use Rattle.std.proofs.lemmas.List.Elements.{recursion_from_All, All-from_recursion}
use Rattle.tm_batch.specs.declared.config.Config.{Config}
use Rattle.tm_batch.specs.declared.config.First.{First}
use Rattle.tm_model.specs.Opening.{placed_on, IsBuildable}
use Rattle.tm_build.specs.Checking.{IsInRange, IsWellPlaced, HasRoomOn, IsFewFor}

module _ {V : Type 0} where
  weaker : (P Q : First V → Type 0) (first : List (First V)) → ((f : First V) → P f → Q f) → AllByRecursion P first → AllByRecursion Q first
  weaker P Q [] to all = tt
  weaker P Q (f ∷ first) to all = (to f all.0, weaker P Q first to all.1)

  -- no object is placed on a trustee that there is not
  none_placed :
      (n t : ℕ) (first : List (First V)) → AllByRecursion (λ f. f.trustee < n) first → n ≤ t → length (placed_on t first) ≡ 0
  none_placed n t [] all le = refl
  none_placed n t (f ∷ first) all le =
      let below = all.0 in
      let rest = none_placed n t first all.1 le in
      rw (ne_eqb f.trustee t (λ e. absurd (omega (arith, below, le, e)))) rest

  pub from_parts :
      (config : Config) (first : List (First V)) → IsInRange config → All (IsWellPlaced config) first
      → ((t : ℕ) → t < config.trustees → HasRoomOn config first t) → ((c : ℕ) → c < config.clients → IsFewFor config first c) → IsBuildable config first
  from_parts config first range placed room few =
      let all = recursion_from_All (IsWellPlaced config) first placed in
      let on : AllByRecursion (λ f. f.trustee < config.trustees) first = weaker (IsWellPlaced config) (λ f. f.trustee < config.trustees) first (λ f w. w.trustee) all in
      record {
        clients = range.clients;
        trustees = range.trustees;
        objects = range.objects;
        trusts = range.trusts;
        last_id = range.last_id;
        trustee = on;
        held = weaker (IsWellPlaced config) (λ f. f.holders ≢ []) first (λ f w. w.held) all;
        once = weaker (IsWellPlaced config) (λ f. IsDistinct nat_eq f.holders) first (λ f w. w.once) all;
        below = weaker (IsWellPlaced config) (λ f. AllByRecursion (λ h. h < config.clients + f.trustee) f.holders) first (λ f w. w.below) all;
        room = λ t.
            elim (cases_lt t config.trustees) [
              | inl lt ↦ (room t lt).0
              | inr le ↦ let none = none_placed config.trustees t first on le in omega (arith, none)
            ];
        ids = λ t.
            elim (cases_lt t config.trustees) [
              | inl lt ↦ (room t lt).1
              | inr le ↦ let none = none_placed config.trustees t first on le in omega (arith, none)
            ];
        named = few;
      }

  pub in_range : (config : Config) (first : List (First V)) → IsBuildable config first → IsInRange config
  in_range config first b =
      record { clients = b.clients; trustees = b.trustees; objects = b.objects; trusts = b.trusts; last_id = b.last_id }

  well_placed :
      (config : Config) (first : List (First V)) → AllByRecursion (λ f. f.trustee < config.trustees) first → AllByRecursion (λ f. f.holders ≢ []) first
      → AllByRecursion (λ f. IsDistinct nat_eq f.holders) first
      → AllByRecursion (λ f. AllByRecursion (λ h. h < config.clients + f.trustee) f.holders) first → AllByRecursion (IsWellPlaced config) first
  well_placed config [] on held once below = tt
  well_placed config (f ∷ first) on held once below =
      (record { trustee = on.0; held = held.0; once = once.0; below = below.0 }, well_placed config first on.1 held.1 once.1 below.1)

  pub are_placed : (config : Config) (first : List (First V)) → IsBuildable config first → All (IsWellPlaced config) first
  are_placed config first b =
      All-from_recursion (IsWellPlaced config) first (well_placed config first b.trustee b.held b.once b.below)

  pub have_room : (config : Config) (first : List (First V)) → IsBuildable config first → (t : ℕ) → t < config.trustees → HasRoomOn config first t
  have_room config first b t lt = (b.room t, b.ids t)
