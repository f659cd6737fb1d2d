-- When the 64 classes stand for one list of all items.
use Rattle.std.specs.Prelude.{◌≡◌, ℕ, ◌<◌, ◌≤◌, ◌==◌, List, length}
use Rattle.mc_item.specs.declared.limits.TheConstants.{CLASSES, MOST_ITEMS}
use Rattle.mc_model.specs.Items.{of_classes, count_of}
use Rattle.mc_model.specs.Class.{Class, settled}
use Rattle.mc_model.specs.Plain.{Plain, plain_settled}
use Rattle.mc_laws.specs.Classes.{class_at, stored_by}

-- A class is its part of the store, for all that comes at a moment or later. It may have been settled last at an earlier moment than others.
pub record IsPartOf (p : Plain) (class : ℕ) (s : Class) (moment : ℕ) : Type 0 where
  pub number : s.class ≡ class
  pub not_later : s.moment ≤ moment
  pub items : (settled s moment).items ≡ of_classes (λ k. k == class) (plain_settled p moment).items
  pub pending : (settled s moment).pending ≡ (plain_settled p moment).pending class
  pub changes : s.changes ≡ p.changes class
  pub bound : s.bound ≡ p.bound
  pub few : count_of s.items ≤ s.bound

-- The classes stand for the store, for all that comes at a moment or later.
pub record StandFor (p : Plain) (classes : List Class) (moment : ℕ) : Type 0 where
  pub count : length classes ≡ CLASSES
  pub bound : p.bound ≤ MOST_ITEMS
  pub not_later : p.moment ≤ moment
  pub parts : (class : ℕ) → class < CLASSES → IsPartOf p class (class_at classes class) moment
  pub stored : stored_by classes ≡ p.stored
