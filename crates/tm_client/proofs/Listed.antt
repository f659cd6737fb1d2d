-- What a list of trusts counts, where one more stands in it or one less.
use Rattle.std.proofs.Common.{◌≡◌, ◌≢◌, ℕ, zero, suc, ◌+◌, ◌≤◌, inl, inr, List, [], ◌∷◌, cond, refl, sym, ◌∙◌, ap, subst, arith, eq-eqb, ne_eqb}
use Rattle.std.specs.Prelude.{◌==◌, slice_index_or}
use Rattle.std.specs.declared.option.Option.{Option}
use Rattle.std.specs.declared.option.Option.TheVariants.{None, Some}
use Rattle.std.proofs.lemmas.Bool.{cases_eq}
use Rattle.tm_client.specs.declared.holds.Hold.{Hold}
use Rattle.tm_client.specs.declared.holds.Holds.{Holds}
use Rattle.tm_client.specs.Listing.{is_at, listed_in, listed, held_at, HasHold, Gains, Loses}

-- at its own trustee an id counts as it does there, and at no other
pub at_own : (t id named : ℕ) → is_at t id t named ≡ cond (named == id) 1 0
at_own t id named = ap (λ e. cond e (cond (named == id) 1 0) 0) (eq-eqb t t refl)

pub at_other : (u t id named : ℕ) → u ≢ t → is_at u id t named ≡ 0
at_other u t id named ne = ap (λ e. cond e (cond (named == id) 1 0) 0) (ne_eqb t u (λ e. ne (sym e)))

-- how much a place counts
abbrev weight : ℕ → ℕ → Option Hold → ℕ
weight t id None = 0
weight t id (Some h) = is_at t id h.trustee h.id

listed_cons : (t id : ℕ) (o : Option Hold) (places : List (Option Hold)) → listed_in t id (o ∷ places) ≡ weight t id o + listed_in t id places
listed_cons t id None places = omega arith
listed_cons t id (Some h) places = refl

-- empty places count nothing
none_listed : (t id : ℕ) (places : List (Option Hold)) → ((k : ℕ) → slice_index_or places k None ≡ None) → listed_in t id places ≡ 0
none_listed t id [] none = refl
none_listed t id (o ∷ places) none =
    let first = ap (weight t id) (none 0) in
    let rest = none_listed t id places (λ k. none (suc k)) in
    let all = listed_cons t id o places in
    omega (arith, first, rest, all)

same_listed : (t id : ℕ) (old new : List (Option Hold)) → ((k : ℕ) → slice_index_or new k None ≡ slice_index_or old k None)
    → listed_in t id new ≡ listed_in t id old
same_listed t id [] new same = none_listed t id new same
same_listed t id (o ∷ old) [] same = sym (none_listed t id (o ∷ old) (λ k. sym (same k)))
same_listed t id (o ∷ old) (p ∷ new) same =
    let first = ap (weight t id) (same 0) in
    let rest = same_listed t id old new (λ k. same (suc k)) in
    let was = listed_cons t id o old in
    let now = listed_cons t id p new in
    omega (arith, first, rest, was, now)

-- a change of one place changes the count by what stood there and what stands there
changed : (t id : ℕ) (old new : List (Option Hold)) (at : ℕ) → ((k : ℕ) → k ≢ at → slice_index_or new k None ≡ slice_index_or old k None)
    → listed_in t id new + weight t id (slice_index_or old at None) ≡ listed_in t id old + weight t id (slice_index_or new at None)
changed t id [] [] at others = refl
changed t id [] (p ∷ new) zero others =
    let rest = none_listed t id new (λ k. others (suc k) (λ e. absurd (omega (arith, e)))) in
    let now = listed_cons t id p new in
    omega (arith, rest, now)
changed t id [] (p ∷ new) (suc at) others =
    let first = ap (weight t id) (others 0 (λ e. absurd (omega (arith, e)))) in
    let rest = changed t id [] new at (λ k ne. others (suc k) (λ e. ne (omega (arith, e)))) in
    let now = listed_cons t id p new in
    omega (arith, first, rest, now)
changed t id (o ∷ old) [] zero others =
    let rest = none_listed t id old (λ k. sym (others (suc k) (λ e. absurd (omega (arith, e))))) in
    let was = listed_cons t id o old in
    omega (arith, rest, was)
changed t id (o ∷ old) [] (suc at) others =
    let first = ap (weight t id) (others 0 (λ e. absurd (omega (arith, e)))) in
    let rest = changed t id old [] at (λ k ne. others (suc k) (λ e. ne (omega (arith, e)))) in
    let was = listed_cons t id o old in
    omega (arith, first, rest, was)
changed t id (o ∷ old) (p ∷ new) zero others =
    let rest = same_listed t id old new (λ k. others (suc k) (λ e. absurd (omega (arith, e)))) in
    let was = listed_cons t id o old in
    let now = listed_cons t id p new in
    omega (arith, rest, was, now)
changed t id (o ∷ old) (p ∷ new) (suc at) others =
    let first = ap (weight t id) (others 0 (λ e. absurd (omega (arith, e)))) in
    let rest = changed t id old new at (λ k ne. others (suc k) (λ e. ne (omega (arith, e)))) in
    let was = listed_cons t id o old in
    let now = listed_cons t id p new in
    omega (arith, first, rest, was, now)

pub gains_listed : (t id : ℕ) (h : Hold) (at : ℕ) (old new : Holds) → Gains h at old new → listed t id new ≡ listed t id old + is_at t id h.trustee h.id
gains_listed t id h at old new gains =
    let all = changed t id old.places.slots new.places.slots at gains.updates.others in
    let was = ap (weight t id) gains.free in
    let now = ap (weight t id) gains.updates.changed in
    omega (arith, all, was, now)

pub loses_listed : (t id : ℕ) (h : Hold) (at : ℕ) (old new : Holds) → Loses h at old new → listed t id new + is_at t id h.trustee h.id ≡ listed t id old
loses_listed t id h at old new loses =
    let all = changed t id old.places.slots new.places.slots at loses.updates.others in
    let was = ap (weight t id) loses.there in
    let now = ap (weight t id) loses.updates.changed in
    omega (arith, all, was, now)

-- what holds of all trusts of a list holds of them with one more, and with one less
pub gains_all : (P : Hold → Type 0) (h : Hold) (at : ℕ) (old new : Holds) → Gains h at old new → P h
    → ((k : ℕ) (x : Hold) → held_at old k ≡ Some x → P x) → (k : ℕ) (x : Hold) → held_at new k ≡ Some x → P x
gains_all P h at old new gains own all k x there = elim (cases_eq k at) [
  | inl same ↦
      let now : Some x ≡ Some h = sym there ∙ ap (held_at new) same ∙ gains.updates.changed in
      let is : h ≡ x = cc in subst P is own
  | inr other ↦ all k x (sym (gains.updates.others k other) ∙ there)
]

pub loses_all : (P : Hold → Type 0) (h : Hold) (at : ℕ) (old new : Holds) → Loses h at old new
    → ((k : ℕ) (x : Hold) → held_at old k ≡ Some x → P x) → (k : ℕ) (x : Hold) → held_at new k ≡ Some x → P x
loses_all P h at old new loses all k x there = elim (cases_eq k at) [
  | inl same ↦
      let now : Some x ≡ None = sym there ∙ ap (held_at new) same ∙ loses.updates.changed in absurd cc
  | inr other ↦ all k x (sym (loses.updates.others k other) ∙ there)
]

is_at_self : (t id : ℕ) → is_at t id t id ≡ 1
is_at_self t id = rw (eq-eqb t t refl, eq-eqb id id refl) refl

-- a hold that a list has is counted
has_counts : (t id : ℕ) (places : List (Option Hold)) (at : ℕ) → slice_index_or places at None ≡ Some (record { trustee = t; id = id }) → 1 ≤ listed_in t id places
has_counts t id [] at e = absurd cc
has_counts t id (o ∷ places) zero e =
    let first = ap (weight t id) e in
    let one = is_at_self t id in
    let all = listed_cons t id o places in
    omega (arith, first, one, all)
has_counts t id (o ∷ places) (suc at) e =
    let rest = has_counts t id places at e in
    let all = listed_cons t id o places in
    omega (arith, rest, all)

pub listed_has : (t id : ℕ) (held : Holds) → HasHold held (record { trustee = t; id = id }) → 1 ≤ listed t id held
listed_has t id held (at, there) = has_counts t id held.places.slots at there
