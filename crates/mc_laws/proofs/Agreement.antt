-- A class and its part of a store: that they agree is kept when both settle.
use Rattle.std.proofs.Common.{◌≡◌, ℕ, ◌≤◌, ◌^◌, cond, not, List, [], None, refl, sym, ap, ◌∙◌, inl, inr, arith}
use Rattle.std.proofs.lemmas.Bool.{cases_lt}
use Rattle.mc_model.specs.Moments.{latest}
use Rattle.mc_model.specs.Items.{live, of_classes}
use Rattle.mc_model.specs.Class.{Class, settled, is_flush_due}
use Rattle.mc_model.specs.Plain.{Plain, plain_settled}
use Rattle.mc_laws.proofs.Settling.{own, left, waiting, latest_again, own_settled, settled_again-items, settled_again-pending, own_settled_again, plain_settled_again-pending}

-- the class's items and its flush are those of its part of the store
pub record Agree (class : ℕ) (t : Class) (u : Plain) : Type 0 where
  pub items : t.items ≡ own class u.items
  pub pending : t.pending ≡ u.pending class

pub agree_same :
    (class : ℕ) (s t : Class) (p u : Plain) → s.items ≡ t.items → s.pending ≡ t.pending → own class p.items ≡ own class u.items → p.pending class ≡ u.pending class → Agree class s p
    → Agree class t u
agree_same class s t p u items flush plain_items plain_flush h = record {
  items = sym items ∙ h.items ∙ plain_items;
  pending = sym flush ∙ h.pending ∙ plain_flush;
}

pub agree_settled : (class : ℕ) (t : Class) (u : Plain) (moment : ℕ) → latest t.moment moment ≡ latest u.moment moment → Agree class t u → Agree class (settled t moment) (plain_settled u moment)
agree_settled class t u moment at h = record {
  items =
      ap (λ now. left now t.pending t.items) at
      ∙ ap (λ flush. left (latest u.moment moment) flush t.items) h.pending
      ∙ ap (left (latest u.moment moment) (u.pending class)) h.items
      ∙ sym (own_settled u moment class);
  pending = ap (λ now. waiting now t.pending) at ∙ ap (waiting (latest u.moment moment)) h.pending;
}

-- both settled already, and now later
pub agree_later :
    (class : ℕ) (s : Class) (p : Plain) (moment later : ℕ) → moment ≤ later → latest s.moment later ≡ latest p.moment later → Agree class (settled s moment) (plain_settled p moment)
    → Agree class (settled s later) (plain_settled p later)
agree_later class s p moment later le at h =
    agree_same class (settled (settled s moment) later) (settled s later) (plain_settled (plain_settled p moment) later) (plain_settled p later)
    (settled_again-items s moment later le) (settled_again-pending s moment later le) (own_settled_again p moment later class le) (plain_settled_again-pending p moment later class le)
    (agree_settled class (settled s moment) (plain_settled p moment) later (latest_again s.moment moment later le ∙ at ∙ sym (latest_again p.moment moment later le)) h)

-- where no moment after this one counts, both stay as they are settled
stays : (class : ℕ) (s : Class) (p : Plain) (moment later : ℕ) → latest s.moment moment ≡ latest s.moment later → latest p.moment moment ≡ latest p.moment later
    → Agree class (settled s moment) (plain_settled p moment) → Agree class (settled s later) (plain_settled p later)
stays class s p moment later at plain_at h =
    agree_same class (settled s moment) (settled s later) (plain_settled p moment) (plain_settled p later)
    (ap (λ now. left now s.pending s.items) at)
    (ap (λ now. waiting now s.pending) at)
    (ap (λ now. own class (live now (of_classes (λ k. not (is_flush_due (p.pending k) now)) p.items))) plain_at)
    (ap (λ now. waiting now (p.pending class)) plain_at)
    h

pub agree_at_last :
    (class : ℕ) (s : Class) (p : Plain) (moment later : ℕ) → s.moment ≤ moment → p.moment ≤ moment → moment ≤ later → Agree class (settled s moment) (plain_settled p moment)
    → Agree class (settled s later) (plain_settled p later)
agree_at_last class s p moment later past plain_past le h = elim (cases_lt moment (2 ^ 62)) [
  | inl lt ↦ agree_later class s p moment later le (omega arith) h
  | inr most ↦ stays class s p moment later (omega arith) (omega arith) h
]

-- a class that is settled already, and a store that has changed elsewhere
pub agree_elsewhere :
    (class : ℕ) (s : Class) (q : Plain) (moment : ℕ) → s.moment ≤ moment → moment ≤ 2 ^ 62 → q.moment ≡ moment → Agree class (settled s moment) q
    → Agree class (settled s moment) (plain_settled q moment)
agree_elsewhere class s q moment past most at h =
    agree_same class (settled (settled s moment) moment) (settled s moment) (plain_settled q moment) (plain_settled q moment)
    (settled_again-items s moment moment (omega arith)) (settled_again-pending s moment moment (omega arith)) refl refl
    (agree_settled class (settled s moment) q moment (omega arith) h)

-- the class settles
pub agree_class_settled : (class : ℕ) (s : Class) (p : Plain) (moment : ℕ) → Agree class (settled s moment) (plain_settled p moment) → Agree class (settled (settled s moment) moment) (plain_settled p moment)
agree_class_settled class s p moment h =
    agree_same class (settled s moment) (settled (settled s moment) moment) (plain_settled p moment) (plain_settled p moment)
    (sym (settled_again-items s moment moment (omega arith))) (sym (settled_again-pending s moment moment (omega arith))) refl refl h

-- the store settles
pub agree_store_settled : (class : ℕ) (s : Class) (p : Plain) (moment : ℕ) → Agree class (settled s moment) (plain_settled p moment) → Agree class (settled s moment) (plain_settled (plain_settled p moment) moment)
agree_store_settled class s p moment h =
    agree_same class (settled s moment) (settled s moment) (plain_settled p moment) (plain_settled (plain_settled p moment) moment) refl refl
    (sym (own_settled_again p moment moment class (omega arith))) (sym (plain_settled_again-pending p moment moment class (omega arith))) h
