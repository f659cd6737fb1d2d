-- A count over all classes: they settle, and their items are as many as the store's.
use Rattle.std.proofs.Common.{◌≡◌, ℕ, ◌<◌, ◌≤◌, false, List, [], ◌∷◌, length, refl, sym, ap, ap₂, subst, ◌∙◌, inl, inr, arith}
use Rattle.mc_model.specs.declared.reply.ShardReply.{ShardReply}
use Rattle.mc_model.specs.declared.reply.ShardReply.TheVariants.{Counts}
use Rattle.mc_model.specs.Items.{count_of}
use Rattle.mc_model.specs.Class.{Class, settled}
use Rattle.mc_model.specs.Plain.{Plain, plain_settled, IsCount}
use Rattle.mc_laws.specs.Classes.{class_at, first_changed, held_by, stored_by}
use Rattle.mc_laws.specs.Replies.{AreCounted}
use Rattle.mc_laws.specs.Standing.{StandFor}
use Rattle.mc_laws.proofs.Settling.{latest-le}
use Rattle.mc_laws.proofs.Agreement.{agree_class_settled, agree_store_settled}
use Rattle.mc_laws.proofs.Parts.{agree_of, part_from, IsChange}
use Rattle.mc_laws.proofs.Lengths.{count-settled-le}
use Rattle.mc_laws.proofs.Sums.{stored-with_class}
use Rattle.mc_laws.proofs.Rounds.{stand_round, whole_round, class_at-map}
use Rattle.mc_laws.proofs.Cover.{held_by-items}

-- ---- settling changes nothing that the classes stand for

settle_change : (p : Plain) (classes : List Class) (moment : ℕ) → StandFor p classes moment → (class : ℕ) → class < 64 → IsChange p classes class (settled (class_at classes class) moment) p moment
settle_change p classes moment h class inside =
    let s = class_at classes class in
    let part = h.parts class inside in
    record {
      inside = inside;
      not_later = h.not_later;
      bound = h.bound;
      here = part_from p class (settled s moment) moment (latest-le s.moment moment part.not_later)
          (record { number = part.number; changes = part.changes; bound = part.bound; few = omega (arith, count-settled-le s moment, part.few) })
          (agree_class_settled class s p moment (agree_of p class s moment part));
      elsewhere = λ other n same. same;
      stored = stored-with_class classes class (settled s moment) false (omega (arith, h.count)) refl ∙ h.stored;
    }

stand_classes_settled : (p : Plain) (classes : List Class) (moment : ℕ) → StandFor p classes moment → (n : ℕ) → n ≤ 64 → StandFor p (first_changed n (λ s. settled s moment) classes) moment
stand_classes_settled p classes moment = stand_round (λ s. settled s moment) (λ n. p) classes moment (λ n l lt before. settle_change p l moment before n lt)

stand_store_settled : (p : Plain) (classes : List Class) (moment : ℕ) → StandFor p classes moment → StandFor (plain_settled p moment) classes moment
stand_store_settled p classes moment h = record {
  count = h.count;
  bound = h.bound;
  not_later = latest-le p.moment moment h.not_later;
  parts = λ class lt. let part = h.parts class lt in
      part_from (plain_settled p moment) class (class_at classes class) moment part.not_later
      (record { number = part.number; changes = part.changes; bound = part.bound; few = part.few })
      (agree_store_settled class (class_at classes class) p moment (agree_of p class (class_at classes class) moment part));
  stored = h.stored;
}

-- ---- the count

settled_at :
    (classes : List Class) (moment class : ℕ) → length classes ≡ 64 → class < 64 → class_at (first_changed 64 (λ s. settled s moment) classes) class ≡ settled (class_at classes class) moment
settled_at classes moment class count lt =
    ap (λ l. class_at l class) (whole_round (λ s. settled s moment) classes 64 (omega (arith, count))) ∙ class_at-map (λ s. settled s moment) classes class (omega (arith, count))

held_by-settled :
    (p : Plain) (classes : List Class) (moment : ℕ) → StandFor p classes moment → held_by (first_changed 64 (λ s. settled s moment) classes) ≡ count_of (plain_settled p moment).items
held_by-settled p classes moment h =
    let new = first_changed 64 (λ s. settled s moment) classes in
    let stand = stand_classes_settled p classes moment h 64 (omega arith) in
    held_by-items (plain_settled p moment).items new stand.count
    (λ class lt. ap (λ s. s.items) (settled_at classes moment class h.count lt) ∙ (h.parts class lt).items)
    (λ class lt. let part = stand.parts class lt in omega (arith, part.few, part.bound, stand.bound))

pub count_as_one :
    (p : Plain) (classes : List Class) (moment : ℕ) (new : List Class) (replies : List ShardReply)
    → StandFor p classes moment → AreCounted classes moment new replies → (q : Plain) × IsCount p moment q replies × StandFor q new moment
count_as_one p classes moment new replies h (inl e) =
    let l = first_changed 64 (λ s. settled s moment) classes in
    let stand = stand_store_settled p l moment (stand_classes_settled p classes moment h 64 (omega arith)) in (
      plain_settled p moment,
      inl (refl, e.1 ∙ ap (λ x. Counts (held_by x) (stored_by x) ∷ []) e.0 ∙ ap₂ (λ a b. Counts a b ∷ []) (held_by-settled p classes moment h) stand.stored),
      subst (λ x. StandFor (plain_settled p moment) x moment) (sym e.0) stand,
    )
count_as_one p classes moment new replies h (inr e) = (p, inr (refl, e.3), subst (λ x. StandFor p x moment) (sym e.2) (stand_classes_settled p classes moment h e.0 e.1))
