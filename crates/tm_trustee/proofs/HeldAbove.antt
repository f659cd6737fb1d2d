-- The objects that a trustee holds at a greater one are held by its place there when that opens.
use Rattle.std.proofs.Common.{◌≡◌, ℕ, ◌+◌, ◌<◌, ◌≤◌, Bool, true, false, cond, ◌||◌, List, [], ◌∷◌, inl, inr, refl, sym, ◌∙◌, ap, subst, arith, eq-eqb}
use Rattle.std.specs.Prelude.{◌==◌, nat_lt}
use Rattle.std.specs.List.{list_any}
use Rattle.std.proofs.lemmas.Bool.{lt-ltb}
use Rattle.std.proofs.lemmas.List.FromFn.{get_or-map-range_with_len}
use Rattle.tm_seq.specs.Kind.{Kind}
use Rattle.tm_batch.specs.declared.config.Config.{Config}
use Rattle.tm_batch.specs.declared.config.First.{First}
use Rattle.tm_model.specs.State.{State, holds_at, ids_above, place_count}
use Rattle.tm_model.specs.Opening.{ids_at, opening_of}
use Rattle.tm_core.proofs.Openings.{openings_give}
use Rattle.tm_trustee.specs.NestedAsks.{IsAmong}

among_any : (id : ℕ) (ids : List ℕ) → IsAmong id ids → list_any (λ i. i == id) ids ≡ true
among_any id [] h = absurd h
among_any id (i ∷ ids) (inl e) = ap (λ b. b || list_any (λ j. j == id) ids) (eq-eqb i id e)
among_any id (i ∷ ids) (inr h) = or_true (i == id) (list_any (λ j. j == id) ids) (among_any id ids h)
  where
    or_true : (a b : Bool) → b ≡ true → a || b ≡ true
    or_true true b e = refl
    or_true false b e = e

-- what a trustee holds at a greater one is what the list of the build gives its place there
pub above_at :
    {V : Type 0} (O R T : Type 0) (number : ℕ) (config : Config) (whole : List (First V)) (u : ℕ) → number < u → u < config.trustees
    → ids_above (opening_of {V = V} {O = O} {R = R} {T = T} number config whole).setup u ≡ ids_at u (config.clients + number) whole
above_at O R T number config whole u lt few =
    get_or-map-range_with_len (λ v. cond (nat_lt number v) (ids_at v (config.clients + number) whole) []) 0 config.trustees u u [] few (omega arith)
    ∙ ap (λ b. cond b (ids_at u (config.clients + number) whole) []) (lt-ltb number u lt)

pub holds_above :
    {V O R T : Type 0} (kind : Kind V O R T) (opening home : State V O R T) (number : ℕ) (config : Config) (whole : List (First V)) (u id : ℕ)
    → opening ≡ opening_of number config whole → home ≡ opening_of u config whole → number < u → u < config.trustees
    → IsAmong id (ids_above opening.setup u) → 1 ≤ holds_at home (config.clients + number) id
holds_above {V} {O} {R} {T} kind opening home number config whole u id is at lt few among =
    let ids : ids_above opening.setup u ≡ ids_at u (config.clients + number) whole =
    ap (λ (s : State V O R T). ids_above s.setup u) is ∙ above_at O R T number config whole u lt few in
    let within : config.clients + number < place_count home.setup = subst (λ (s : State V O R T). config.clients + number < place_count s.setup) (sym at) (omega (arith, lt)) in
    let gives = openings_give kind home u config whole (config.clients + number) at within in
    let any = among_any id (ids_at u (config.clients + number) whole) (subst (IsAmong id) ids among) in
    let one : holds_at home (config.clients + number) id ≡ 1 = gives.holds id ∙ ap (λ b. cond b 1 0) any in
    omega (arith, one)
