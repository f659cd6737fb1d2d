-- A flush of all classes, one after another.
use Rattle.std.proofs.Common.{◌≡◌, ℕ, ◌<◌, ◌≤◌, ◌^◌, Bool, true, false, cond, not, eqb, ◌==◌, leb, List, [], Option, Some, None, refl, sym, ap, subst, ◌∙◌, inl, inr, arith}
use Rattle.std.proofs.lemmas.Bool.{ne_eqb, eqb-true}
use Rattle.mc_item.specs.Classes.{class_of}
use Rattle.mc_model.specs.declared.item.Item.{Item}
use Rattle.mc_model.specs.declared.reply.ShardReply.{ShardReply}
use Rattle.mc_model.specs.Items.{Items, of_classes}
use Rattle.mc_model.specs.Class.{Class, settled, flush_moment, flush_step}
use Rattle.mc_model.specs.Plain.{Plain, plain_settled, plain_flushed, plain_flushed_below, update, IsFlush}
use Rattle.mc_model.proofs.ItemFacts.{filter_stricter, filter_apart}
use Rattle.mc_laws.specs.Classes.{class_at, first_changed}
use Rattle.mc_laws.specs.Replies.{AreFlushed}
use Rattle.mc_laws.specs.Standing.{IsPartOf, StandFor}
use Rattle.mc_laws.proofs.Settling.{own, latest-le, latest_is}
use Rattle.mc_laws.proofs.Agreement.{Agree, agree_settled, agree_elsewhere}
use Rattle.mc_laws.proofs.Parts.{agree_of, part_from, at_class, at_other, same_moment, IsChange}
use Rattle.mc_laws.proofs.Lengths.{count-settled-le, count_unless}
use Rattle.mc_laws.proofs.Sums.{stored-with_class}
use Rattle.mc_laws.proofs.Rounds.{stand_round}

-- a settled class, and a store, that a flush empties now or later
abbrev emptied_class : Class → Bool → ℕ → Class
emptied_class t now flush_at = record {
  class = t.class;
  bound = t.bound;
  items = cond now [] t.items;
  moment = t.moment;
  changes = t.changes;
  stored = t.stored;
  pending = cond now None (Some flush_at);
}

abbrev emptied_part : ℕ → Plain → Bool → ℕ → Plain
emptied_part class u now flush_at = record {
  bound = u.bound;
  items = cond now (of_classes (λ k. not (k == class)) u.items) u.items;
  moment = u.moment;
  stored = u.stored;
  changes = u.changes;
  pending = update u.pending class (cond now None (Some flush_at));
}

own_gone : (class : ℕ) (items : Items) → [] ≡ own class (of_classes (λ k. not (k == class)) items)
unfolding of_classes
own_gone class items = sym (filter_apart _ _ items (λ e mine. ap not mine))

own_stays : (other class : ℕ) (items : Items) → (other ≡ class → ⊥) → own other items ≡ own other (of_classes (λ k. not (k == class)) items)
unfolding of_classes
own_stays other class items n = sym (filter_stricter _ _ items (λ e its. ap not (ne_eqb (class_of e.0) class (λ same. n (sym (eqb-true (class_of e.0) other its) ∙ same)))))

agree_emptied : (class : ℕ) (t : Class) (u : Plain) (now : Bool) (flush_at : ℕ) → Agree class t u → Agree class (emptied_class t now flush_at) (emptied_part class u now flush_at)
agree_emptied class t u true flush_at h = record { items = own_gone class u.items; pending = at_class u.pending class None }
agree_emptied class t u false flush_at h = record { items = h.items; pending = at_class u.pending class (Some flush_at) }

agree_emptied_other : (other class : ℕ) (t : Class) (u : Plain) (now : Bool) (flush_at : ℕ) → (other ≡ class → ⊥) → Agree other t u → Agree other t (emptied_part class u now flush_at)
agree_emptied_other other class t u true flush_at n h = record { items = h.items ∙ own_stays other class u.items n; pending = h.pending ∙ at_other u.pending class other None n }
agree_emptied_other other class t u false flush_at n h = record { items = h.items; pending = h.pending ∙ at_other u.pending class other (Some flush_at) n }

-- ---- the flush of one class

module _ (p : Plain) (classes : List Class) (moment : ℕ) (h : StandFor p classes moment) (most : moment ≤ 2 ^ 62) (class : ℕ) (inside : class < 64) where
  emptied_here : (now : Bool) (flush_at : ℕ) → IsPartOf (emptied_part class (plain_settled p moment) now flush_at) class (emptied_class (settled (class_at classes class) moment) now flush_at) moment
  emptied_here now flush_at =
      let s = class_at classes class in
      let t = settled s moment in
      let u = plain_settled p moment in
      let part = h.parts class inside in
      part_from (emptied_part class u now flush_at) class (emptied_class t now flush_at) moment (latest-le s.moment moment part.not_later)
      (record { number = part.number; changes = part.changes; bound = part.bound; few = omega (arith, count_unless now t.items, count-settled-le s moment, part.few) })
      (agree_settled class (emptied_class t now flush_at) (emptied_part class u now flush_at) moment (omega (arith, part.not_later, h.not_later))
      (agree_emptied class t u now flush_at (agree_of p class s moment part)))

  emptied_elsewhere :
      (now : Bool) (flush_at other : ℕ) → (other ≡ class → ⊥) → IsPartOf p other (class_at classes other) moment
      → IsPartOf (emptied_part class (plain_settled p moment) now flush_at) other (class_at classes other) moment
  emptied_elsewhere now flush_at other n part =
      let s = class_at classes other in
      let u = plain_settled p moment in
      part_from (emptied_part class u now flush_at) other s moment part.not_later
      (record { number = part.number; changes = part.changes; bound = part.bound; few = part.few })
      (agree_elsewhere other s (emptied_part class u now flush_at) moment part.not_later most (latest_is p.moment moment h.not_later most)
      (agree_emptied_other other class (settled s moment) u now flush_at n (agree_of p other s moment part)))

  emptied_change : (now : Bool) (flush_at : ℕ) → IsChange p classes class (emptied_class (settled (class_at classes class) moment) now flush_at) (emptied_part class (plain_settled p moment) now flush_at) moment
  emptied_change now flush_at = record {
    inside = inside;
    not_later = latest-le p.moment moment h.not_later;
    bound = h.bound;
    here = emptied_here now flush_at;
    elsewhere = emptied_elsewhere now flush_at;
    stored = stored-with_class classes class (emptied_class (settled (class_at classes class) moment) now flush_at) false (omega (arith, h.count)) refl ∙ h.stored;
  }

  flush_change : (delay : ℕ) → IsChange p classes class (flush_step (class_at classes class) delay moment).0 (plain_flushed class delay moment p) moment
  flush_change delay =
      let flush_at = flush_moment moment delay in
      let t = settled (class_at classes class) moment in
      subst (λ at. IsChange p classes class (emptied_class t (leb flush_at t.moment) flush_at) (emptied_part class (plain_settled p moment) (leb flush_at at) flush_at) moment)
      (same_moment p classes moment h most class inside)
      (emptied_change (leb flush_at t.moment) flush_at)

-- ---- of all classes

stand_flushed :
    (p : Plain) (classes : List Class) (delay moment : ℕ) → StandFor p classes moment → moment ≤ 2 ^ 62 → (n : ℕ) → n ≤ 64
    → StandFor (plain_flushed_below n delay moment p) (first_changed n (λ s. (flush_step s delay moment).0) classes) moment
stand_flushed p classes delay moment h most =
    stand_round (λ s. (flush_step s delay moment).0) (λ n. plain_flushed_below n delay moment p) classes moment
    (λ n l lt before. flush_change (plain_flushed_below n delay moment p) l moment before most n lt delay) h

pub flush_as_one :
    (p : Plain) (classes : List Class) (delay moment : ℕ) (new : List Class) (replies : List ShardReply)
    → StandFor p classes moment → moment ≤ 2 ^ 62 → AreFlushed classes delay moment new replies → (q : Plain) × IsFlush p delay moment q replies × StandFor q new moment
flush_as_one p classes delay moment new replies h most (inl e) = (
  plain_flushed_below 64 delay moment p,
  inl (refl, e.1),
  subst (λ l. StandFor (plain_flushed_below 64 delay moment p) l moment) (sym e.0) (stand_flushed p classes delay moment h most 64 (omega arith)),
)
flush_as_one p classes delay moment new replies h most (inr e) = (
  plain_flushed_below e.0 delay moment p,
  inr (e.0, e.1, refl, e.3),
  subst (λ l. StandFor (plain_flushed_below e.0 delay moment p) l moment) (sym e.2) (stand_flushed p classes delay moment h most e.0 e.1),
)
