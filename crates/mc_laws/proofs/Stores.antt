-- An operation on a key: its class and the store do the same, and every other class stays its part.
use Rattle.std.proofs.Common.{◌≡◌, ℕ, ◌<◌, ◌≤◌, ◌^◌, ◌==◌, true, false, List, [], ◌∷◌, take, refl, sym, ap, subst, ◌∙◌, inl, inr, arith}
use Rattle.std.proofs.lemmas.Bool.{eq-eqb, eqb-true, ne_eqb}
use Rattle.mc_item.specs.Classes.{class_of}
use Rattle.mc_model.specs.declared.reply.ShardReply.{ShardReply}
use Rattle.mc_model.specs.Items.{Items, item_at, first, first_of}
use Rattle.mc_model.specs.Rows.{KeyOp, Effect, Keep, Use, Put, Remove, Outcome, changes_after, outcome_of}
use Rattle.mc_model.specs.Class.{Class, settled, stored_after, after_effect, after_key, outcome_at, key_step}
use Rattle.mc_model.specs.Plain.{Plain, Part, plain_settled, plain_after_key, plain_outcome_at, plain_key_step, IsPart, AreParts}
use Rattle.mc_model.proofs.ItemFacts.{item_at-of_classes, of_classes-first, of_classes-first_other, of_classes-first_of, of_classes-first_of_other, of_classes-without, of_classes-without_other}
use Rattle.mc_laws.specs.Classes.{class_at}
use Rattle.mc_laws.specs.Replies.{IsClassPart, AreClassParts}
use Rattle.mc_laws.specs.Standing.{IsPartOf, StandFor}
use Rattle.mc_laws.proofs.Settling.{own, latest-le, latest_is}
use Rattle.mc_laws.proofs.Agreement.{Agree, agree_settled, agree_elsewhere}
use Rattle.mc_laws.proofs.Parts.{agree_of, counted_of, part_from, same_moment, at_class, at_other, IsChange, stand_changed}
use Rattle.mc_laws.proofs.Lengths.{IsFitting, count-settled-le, count-after_effect-le, outcome_fits}
use Rattle.mc_laws.proofs.Sums.{stored-with_class}

pub class_below : (key : List ℕ) → class_of key < 64
unfolding class_of
class_below key = omega arith

-- ---- an effect on a key's item, in its class and elsewhere

own_effect : (class bound : ℕ) (items : Items) (key : List ℕ) (effect : Effect) → class ≡ class_of key
    → after_effect (take bound) (own class items) key effect ≡ own class (after_effect (first_of (λ k. k == class_of key) bound) items key effect)
own_effect class bound items key Keep same = refl
own_effect class bound items key (Use item) same = sym (of_classes-first (λ k. k == class) items key item (eq-eqb (class_of key) class (sym same)))
own_effect class bound items key (Put item) same =
    ap (take bound) (sym (of_classes-first (λ k. k == class) items key item (eq-eqb (class_of key) class (sym same))))
    ∙ sym (of_classes-first_of (λ k. k == class) bound (first items key item))
    ∙ ap (λ c. own class (first_of (λ k. k == c) bound (first items key item))) same
own_effect class bound items key Remove same = sym (of_classes-without (λ k. k == class) items key)

others_apart : (other class k : ℕ) → (other ≡ class → ⊥) → (k == other) ≡ true → (k == class) ≡ false
others_apart other class k n e = ne_eqb k class (λ same. n (sym (eqb-true k other e) ∙ same))

own_effect_other : (other bound : ℕ) (items : Items) (key : List ℕ) (effect : Effect) → (other ≡ class_of key → ⊥)
    → own other items ≡ own other (after_effect (first_of (λ k. k == class_of key) bound) items key effect)
own_effect_other other bound items key Keep n = refl
own_effect_other other bound items key (Use item) n = sym (of_classes-first_other (λ k. k == other) items key item (ne_eqb (class_of key) other (λ e. n (sym e))))
own_effect_other other bound items key (Put item) n =
    sym (of_classes-first_of_other (λ k. k == class_of key) (λ k. k == other) bound (first items key item) (λ k e. others_apart other (class_of key) k n e)
    ∙ of_classes-first_other (λ k. k == other) items key item (ne_eqb (class_of key) other (λ e. n (sym e))))
own_effect_other other bound items key Remove n = sym (of_classes-without_other (λ k. k == other) items key (ne_eqb (class_of key) other (λ e. n (sym e))))

agree_after : (t : Class) (u : Plain) (key : List ℕ) (o : Outcome) → t.bound ≡ u.bound → Agree (class_of key) t u → Agree (class_of key) (after_key t key o) (plain_after_key u key o)
agree_after t u key o bound h = record {
  items =
      ap (λ items. after_effect (take t.bound) items key o.effect) h.items
      ∙ ap (λ n. after_effect (take n) (own (class_of key) u.items) key o.effect) bound
      ∙ own_effect (class_of key) u.bound u.items key o.effect refl;
  pending = h.pending;
}

agree_after_other : (other : ℕ) (t : Class) (u : Plain) (key : List ℕ) (o : Outcome) → (other ≡ class_of key → ⊥) → Agree other t u → Agree other t (plain_after_key u key o)
agree_after_other other t u key o n h = record {
  items = h.items ∙ own_effect_other other u.bound u.items key o.effect n;
  pending = h.pending;
}

-- ---- the change of one class

module _ (p : Plain) (classes : List Class) (moment : ℕ) (h : StandFor p classes moment) (most : moment ≤ 2 ^ 62) where
  after_here :
      (key : List ℕ) (o : Outcome)
      → IsFitting (item_at (settled (class_at classes (class_of key)) moment).items key) o.effect
      → IsPartOf (plain_after_key (plain_settled p moment) key o) (class_of key) (after_key (settled (class_at classes (class_of key)) moment) key o) moment
  after_here key o fits =
      let class = class_of key in
      let s = class_at classes class in
      let t = settled s moment in
      let u = plain_settled p moment in
      let part = h.parts class (class_below key) in
      part_from (plain_after_key u key o) class (after_key t key o) moment (latest-le s.moment moment part.not_later)
      (record {
        number = part.number;
        changes = ap (λ changes. changes_after changes o.effect) part.changes ∙ at_class u.changes class (changes_after (u.changes class) o.effect);
        bound = part.bound;
        few = count-after_effect-le s.bound t.items key o.effect (omega (arith, count-settled-le s moment, part.few)) fits;
      })
      (agree_settled class (after_key t key o) (plain_after_key u key o) moment (omega (arith, part.not_later, h.not_later)) (agree_after t u key o part.bound (agree_of p class s moment part)))

  after_elsewhere :
      (key : List ℕ) (o : Outcome) (other : ℕ) → (other ≡ class_of key → ⊥) → IsPartOf p other (class_at classes other) moment
      → IsPartOf (plain_after_key (plain_settled p moment) key o) other (class_at classes other) moment
  after_elsewhere key o other n part =
      let s = class_at classes other in
      let u = plain_settled p moment in
      let counted = counted_of p other s moment part in
      part_from (plain_after_key u key o) other s moment part.not_later
      (record { number = counted.number; changes = counted.changes ∙ at_other u.changes (class_of key) other (changes_after (u.changes (class_of key)) o.effect) n; bound = counted.bound; few = counted.few })
      (agree_elsewhere other s (plain_after_key u key o) moment part.not_later most (latest_is p.moment moment h.not_later most)
      (agree_after_other other (settled s moment) u key o n (agree_of p other s moment part)))

  after_change :
      (key : List ℕ) (o : Outcome)
      → IsFitting (item_at (settled (class_at classes (class_of key)) moment).items key) o.effect
      → IsChange p classes (class_of key) (after_key (settled (class_at classes (class_of key)) moment) key o) (plain_after_key (plain_settled p moment) key o) moment
  after_change key o fits = record {
    inside = class_below key;
    not_later = latest-le p.moment moment h.not_later;
    bound = h.bound;
    here = after_here key o fits;
    elsewhere = after_elsewhere key o;
    stored = stored-with_class classes (class_of key) (after_key (settled (class_at classes (class_of key)) moment) key o) o.is_store (omega (arith, class_below key, h.count)) refl
        ∙ ap (λ stored. stored_after stored o.is_store) h.stored;
  }

  own_item : (key : List ℕ) → item_at (settled (class_at classes (class_of key)) moment).items key ≡ item_at (plain_settled p moment).items key
  own_item key =
      let class = class_of key in
      let s = class_at classes class in
      let u = plain_settled p moment in
      ap (λ items. item_at items key) (agree_of p class s moment (h.parts class (class_below key))).items
      ∙ item_at-of_classes (λ k. k == class) u.items key (eq-eqb class class refl)

  -- the rows of the class say what the store's say
  same_outcome : (key : List ℕ) (op : KeyOp) → outcome_at (settled (class_at classes (class_of key)) moment) key op ≡ plain_outcome_at (plain_settled p moment) key op
  same_outcome key op =
      let class = class_of key in
      let s = class_at classes class in
      let t = settled s moment in
      let u = plain_settled p moment in
      let part = h.parts class (class_below key) in
      ap (λ number. outcome_of number t.moment t.changes op (item_at t.items key)) part.number
      ∙ ap (λ at. outcome_of class at t.changes op (item_at t.items key)) (same_moment p classes moment h most class (class_below key))
      ∙ ap (λ changes. outcome_of class u.moment changes op (item_at t.items key)) part.changes
      ∙ ap (outcome_of class u.moment (u.changes class) op) (own_item key)

  key_change : (key : List ℕ) (op : KeyOp) → IsChange p classes (class_of key) (key_step (class_at classes (class_of key)) key op moment).0 (plain_key_step p key op moment).0 moment
  key_change key op =
      let t = settled (class_at classes (class_of key)) moment in
      subst (λ (o : Outcome). IsChange p classes (class_of key) (after_key t key (outcome_at t key op)) (plain_after_key (plain_settled p moment) key o) moment) (same_outcome key op)
      (after_change key (outcome_at t key op) (outcome_fits t.class t.moment t.changes op (item_at t.items key)))

  -- ---- a part

  part_as_one : (part : Part) (new : List Class) (reply : ShardReply) → IsClassPart classes part moment new reply → (r : Plain) × IsPart p part moment r reply × StandFor r new moment
  part_as_one part new reply (inl e) =
      let r = (plain_key_step p part.0 part.1 moment).0 in (
        r,
        inl (ap (λ x. (r, x)) (e.1 ∙ ap (λ (o : Outcome). o.reply) (same_outcome part.0 part.1))),
        subst (λ l. StandFor r l moment) (sym e.0)
            (stand_changed p classes (class_of part.0) (key_step (class_at classes (class_of part.0)) part.0 part.1 moment).0 r moment h (key_change part.0 part.1)),
      )
  part_as_one part new reply (inr e) = (p, inr (refl, e.1), subst (λ l. StandFor p l moment) (sym e.0) h)

-- the parts one after another
pub parts_as_one :
    (parts : List Part) (p : Plain) (classes : List Class) (moment : ℕ) (new : List Class) (replies : List ShardReply)
    → StandFor p classes moment → moment ≤ 2 ^ 62 → AreClassParts classes parts moment new replies → (q : Plain) × AreParts p parts moment q replies × StandFor q new moment
parts_as_one [] p classes moment new replies h most parts = (p, (refl, parts.1), subst (λ l. StandFor p l moment) (sym parts.0) h)
parts_as_one (part ∷ others) p classes moment new replies h most parts =
    let one = part_as_one p classes moment h most part parts.0 parts.1 parts.4 in
    let rest = parts_as_one others one.0 parts.0 moment new parts.2 one.2 most parts.5 in
    (rest.0, (one.0, parts.1, parts.2, parts.3, one.1, rest.1), rest.2)
