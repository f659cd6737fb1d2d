-- When classes stand for a store: how it is shown, and that it is kept when one class changes.
use Rattle.std.proofs.Common.{◌≡◌, ℕ, ◌<◌, ◌≤◌, ◌^◌, List, length, refl, sym, subst, ◌∙◌, inl, inr, arith, get_or-set_same, get_or-set_other}
use Rattle.std.proofs.lemmas.Bool.{cases_eq, eq-eqb, ne_eqb}
use Rattle.std.proofs.lemmas.List.{length-set}
use Rattle.mc_item.specs.declared.limits.TheConstants.{MOST_ITEMS}
use Rattle.mc_model.specs.Moments.{latest}
use Rattle.mc_model.specs.Items.{count_of}
use Rattle.mc_model.specs.Class.{Class, new_class, settled}
use Rattle.mc_model.specs.Plain.{Plain, plain_settled, update}
use Rattle.mc_laws.specs.Classes.{class_at, with_class, stored_by}
use Rattle.mc_laws.specs.Standing.{IsPartOf, StandFor}
use Rattle.mc_laws.proofs.Agreement.{Agree, agree_at_last}

-- ---- one class

pub agree_of : (p : Plain) (class : ℕ) (s : Class) (moment : ℕ) → IsPartOf p class s moment → Agree class (settled s moment) (plain_settled p moment)
agree_of p class s moment h = record { items = h.items; pending = h.pending }

-- what an IsPartOf says besides that both agree
pub record IsCounted (p : Plain) (class : ℕ) (s : Class) : Type 0 where
  pub number : s.class ≡ class
  pub changes : s.changes ≡ p.changes class
  pub bound : s.bound ≡ p.bound
  pub few : count_of s.items ≤ s.bound

pub counted_of : (p : Plain) (class : ℕ) (s : Class) (moment : ℕ) → IsPartOf p class s moment → IsCounted p class s
counted_of p class s moment h = record { number = h.number; changes = h.changes; bound = h.bound; few = h.few }

pub part_from : (p : Plain) (class : ℕ) (s : Class) (moment : ℕ) → s.moment ≤ moment → IsCounted p class s → Agree class (settled s moment) (plain_settled p moment) → IsPartOf p class s moment
part_from p class s moment past counted agree = record {
  number = counted.number;
  not_later = past;
  items = agree.items;
  pending = agree.pending;
  changes = counted.changes;
  bound = counted.bound;
  few = counted.few;
}

part_later : (p : Plain) (class : ℕ) (s : Class) (moment later : ℕ) → p.moment ≤ moment → moment ≤ later → IsPartOf p class s moment → IsPartOf p class s later
part_later p class s moment later past le h =
    part_from p class s later (omega (arith, h.not_later)) (counted_of p class s moment h) (agree_at_last class s p moment later h.not_later past le (agree_of p class s moment h))

-- ---- all classes

pub stand_later : (p : Plain) (classes : List Class) (moment later : ℕ) → StandFor p classes moment → moment ≤ later → StandFor p classes later
stand_later p classes moment later h le = record {
  count = h.count;
  bound = h.bound;
  not_later = omega (arith, h.not_later);
  parts = λ class lt. part_later p class (class_at classes class) moment later h.not_later le (h.parts class lt);
  stored = h.stored;
}

pub class_at-same : (classes : List Class) (class : ℕ) (s : Class) → length classes ≡ 64 → class < 64 → class_at (with_class classes class s) class ≡ s
class_at-same classes class s count lt = get_or-set_same classes class s (new_class class 0 0) (omega arith)

pub class_at-other : (classes : List Class) (class other : ℕ) (s : Class) → (other ≡ class → ⊥) → class_at (with_class classes class s) other ≡ class_at classes other
class_at-other classes class other s n = get_or-set_other classes class other s (new_class other 0 0) n

-- ---- what a change leaves

pub at_class : {A : Type 0} (f : ℕ → A) (class : ℕ) (value : A) → value ≡ update f class value class
at_class f class value = rw (eq-eqb class class refl) refl

pub at_other : {A : Type 0} (f : ℕ → A) (class other : ℕ) (value : A) → (other ≡ class → ⊥) → f other ≡ update f class value other
at_other f class other value n = rw (ne_eqb other class n) refl

-- once settled, a class and the store have one moment
pub same_moment : (p : Plain) (classes : List Class) (moment : ℕ) → StandFor p classes moment → moment ≤ 2 ^ 62 → (class : ℕ) → class < 64 → latest (class_at classes class).moment moment ≡ latest p.moment moment
same_moment p classes moment h most class lt = let past = (h.parts class lt).not_later in let plain_past = h.not_later in omega arith

-- what a change of one class has to keep
pub record IsChange (p : Plain) (classes : List Class) (class : ℕ) (s : Class) (q : Plain) (moment : ℕ) : Type 0 where
  pub inside : class < 64
  pub not_later : q.moment ≤ moment
  pub bound : q.bound ≤ MOST_ITEMS
  pub here : IsPartOf q class s moment
  pub elsewhere : (other : ℕ) → (other ≡ class → ⊥) → IsPartOf p other (class_at classes other) moment → IsPartOf q other (class_at classes other) moment
  pub stored : stored_by (with_class classes class s) ≡ q.stored

pub stand_changed : (p : Plain) (classes : List Class) (class : ℕ) (s : Class) (q : Plain) (moment : ℕ) → StandFor p classes moment → IsChange p classes class s q moment → StandFor q (with_class classes class s) moment
stand_changed p classes class s q moment h change = record {
  count = length-set classes class s ∙ h.count;
  bound = change.bound;
  not_later = change.not_later;
  parts = λ other lt. elim (cases_eq other class) [
    | inl e ↦ subst (λ k. IsPartOf q k (class_at (with_class classes class s) k) moment) (sym e)
        (subst (λ t. IsPartOf q class t moment) (sym (class_at-same classes class s h.count change.inside)) change.here)
    | inr n ↦ subst (λ t. IsPartOf q other t moment) (sym (class_at-other classes class other s n)) (change.elsewhere other n (h.parts other lt))
  ];
  stored = change.stored;
}
