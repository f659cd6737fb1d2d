-- A class that has moved on to a moment.
use Rattle.std.proofs.Common.{◌≡◌, ℕ, true, false, if◌then◌else◌, List, [], Option, Some, None, IsSome, is_some, refl, sym, ap, subst, ◌∙◌}
use Rattle.mc_model.specs.declared.item.Item.{Item}
use Rattle.mc_model.specs.Moments.{latest}
use Rattle.mc_model.specs.Items.{Items, no_items, item_at, without, live}
use Rattle.mc_model.specs.Class.{Class, is_flush_due, settled}
use Rattle.mc_shard.specs.Kept.{Kept, after_change, after_use, after_remove}
use Rattle.mc_shard.specs.Shard.{with_change, with_use, without_item}

-- a class at a moment that it has come to
abbrev pub settled_at : Class → ℕ → Class
settled_at s now = record {
  class = s.class;
  bound = s.bound;
  items = live now (if is_flush_due s.pending now then no_items else s.items);
  moment = now;
  changes = s.changes;
  stored = s.stored;
  pending = if is_flush_due s.pending now then None else s.pending;
}

-- the same class, with these items, at this moment and with this flush that waits
abbrev pub moved : Class → Items → ℕ → Option ℕ → Class
moved s items moment pending = record { class = s.class; bound = s.bound; items = items; moment = moment; changes = s.changes; stored = s.stored; pending = pending }

live-none : (now : ℕ) → live now [] ≡ []
unfolding live
live-none now = refl

at_due : (s : Class) (now : ℕ) → is_flush_due s.pending now ≡ true → moved s [] now None ≡ settled_at s now
at_due s now due = sym (rw due (ap (λ items. moved s items now None) (live-none now)))

-- where a flush is due, nothing is left
pub settled_due : (s : Class) (moment now : ℕ) → now ≡ latest s.moment moment → is_flush_due s.pending now ≡ true → moved s [] now None ≡ settled s moment
settled_due s moment now is due = at_due s now due ∙ ap (settled_at s) is

not_due : (s : Class) (now : ℕ) → is_flush_due s.pending now ≡ false → moved s (live now s.items) now s.pending ≡ settled_at s now
not_due s now wait = sym (rw wait refl)

-- else what is live is left
pub settled_not_due : (s : Class) (moment now : ℕ) → now ≡ latest s.moment moment → is_flush_due s.pending now ≡ false → moved s (live now s.items) now s.pending ≡ settled s moment
settled_not_due s moment now is wait = not_due s now wait ∙ ap (settled_at s) is

-- nothing is found where a flush is due
pub found_due : (s : Class) (moment now : ℕ) (key : List ℕ) → now ≡ latest s.moment moment → is_flush_due s.pending now ≡ true → item_at (settled s moment).items key ≡ None
found_due s moment now key is due = ap (λ (t : Class). item_at t.items key) (sym (settled_due s moment now is due))

-- where something is found, no flush is due
pub found_not_due : (s : Class) (moment now : ℕ) (key : List ℕ) → now ≡ latest s.moment moment → IsSome (item_at (settled s moment).items key) → is_flush_due s.pending now ≡ false
found_not_due s moment now key is there =
    elim (is_flush_due s.pending now) as (λ b. is_flush_due s.pending now ≡ b → b ≡ false) [
      | true ↦ λ due. sym there ∙ ap (λ o. is_some o) (found_due s moment now key is due)
      | false ↦ λ wait. refl
    ] refl

-- and it is what is live
pub found_live : (s : Class) (moment now : ℕ) (key : List ℕ) → now ≡ latest s.moment moment → is_flush_due s.pending now ≡ false → item_at (settled s moment).items key ≡ item_at (live now s.items) key
found_live s moment now key is wait = ap (λ (t : Class). item_at t.items key) (sym (settled_not_due s moment now is wait))

-- ---- a class by its parts

-- a class whose items these are
abbrev pub class_of_parts : ℕ → Kept → ℕ → ℕ → Option ℕ → Class
class_of_parts class k changes stored pending = record { class = class; bound = k.bound; items = k.items; moment = k.moment; changes = changes; stored = stored; pending = pending }

remove_settled :
    (s : Class) (moment now : ℕ) (key : List ℕ) → now ≡ latest s.moment moment → is_flush_due s.pending now ≡ false
    → moved s (without (live now s.items) key) now s.pending ≡ without_item (settled s moment) key
remove_settled s moment now key is wait = ap (λ t. without_item t key) (settled_not_due s moment now is wait)

module _ (class : ℕ) (k : Kept) (changes stored : ℕ) (pending : Option ℕ) where
  -- what an operation finds is there
  pub found_there :
      (moment now : ℕ) (key : List ℕ) → now ≡ latest k.moment moment
      → IsSome (item_at (settled (class_of_parts class k changes stored pending) moment).items key) → IsSome (item_at (live now k.items) key)
  found_there moment now key is there =
      let s = class_of_parts class k changes stored pending in
      let P : Option Item → Type 0 = λ o. IsSome o in
      subst P (found_live s moment now key is (found_not_due s moment now key is there)) there

  change_by_item :
      (f : Item → Item) (now : ℕ) (key : List ℕ) (o : Option Item)
      → class_of_parts class (after_change f k now key o) changes stored pending
      ≡ with_change f (moved (class_of_parts class k changes stored pending) (live now k.items) now pending) key o
  change_by_item f now key None = refl
  change_by_item f now key (Some item) = refl

  -- a change of the items is a change of the class
  pub change_class :
      (f : Item → Item) (k' : Kept) (moment now : ℕ) (key : List ℕ) → now ≡ latest k.moment moment
      → IsSome (item_at (settled (class_of_parts class k changes stored pending) moment).items key)
      → k' ≡ after_change f k now key (item_at (live now k.items) key)
      → class_of_parts class k' changes stored pending
      ≡ with_change f (settled (class_of_parts class k changes stored pending) moment) key (item_at (settled (class_of_parts class k changes stored pending) moment).items key)
  change_class f k' moment now key is there e =
      let s = class_of_parts class k changes stored pending in
      let wait = found_not_due s moment now key is there in
      ap (λ x. class_of_parts class x changes stored pending) e
      ∙ change_by_item f now key (item_at (live now k.items) key)
      ∙ ap (λ t. with_change f t key (item_at (live now k.items) key)) (settled_not_due s moment now is wait)
      ∙ ap (with_change f (settled s moment) key) (sym (found_live s moment now key is wait))

  use_by_item :
      (f : Item → Item) (now : ℕ) (key : List ℕ) (o : Option Item)
      → class_of_parts class (after_use f k now key o) changes stored pending
      ≡ with_use f (moved (class_of_parts class k changes stored pending) (live now k.items) now pending) key o
  use_by_item f now key None = refl
  use_by_item f now key (Some item) = refl

  -- a use of the items is a use of the class
  pub use_class :
      (f : Item → Item) (k' : Kept) (moment now : ℕ) (key : List ℕ) → now ≡ latest k.moment moment
      → IsSome (item_at (settled (class_of_parts class k changes stored pending) moment).items key)
      → k' ≡ after_use f k now key (item_at (live now k.items) key)
      → class_of_parts class k' changes stored pending
      ≡ with_use f (settled (class_of_parts class k changes stored pending) moment) key (item_at (settled (class_of_parts class k changes stored pending) moment).items key)
  use_class f k' moment now key is there e =
      let s = class_of_parts class k changes stored pending in
      let wait = found_not_due s moment now key is there in
      ap (λ x. class_of_parts class x changes stored pending) e
      ∙ use_by_item f now key (item_at (live now k.items) key)
      ∙ ap (λ t. with_use f t key (item_at (live now k.items) key)) (settled_not_due s moment now is wait)
      ∙ ap (with_use f (settled s moment) key) (sym (found_live s moment now key is wait))

  -- a removal from the items is one from the class, where no flush is due
  pub remove_class :
      (k' : Kept) (moment now : ℕ) (key : List ℕ) → now ≡ latest k.moment moment → is_flush_due pending now ≡ false
      → k' ≡ after_remove k now key
      → class_of_parts class k' changes stored pending ≡ without_item (settled (class_of_parts class k changes stored pending) moment) key
  remove_class k' moment now key is wait e =
      let s = class_of_parts class k changes stored pending in
      ap (λ x. class_of_parts class x changes stored pending) e ∙ remove_settled s moment now key is wait

-- where one is due nothing is left to take out
without-none : (key : List ℕ) → [] ≡ without [] key
unfolding without
without-none key = refl

pub remove_due : (s : Class) (moment now : ℕ) (key : List ℕ) → now ≡ latest s.moment moment → is_flush_due s.pending now ≡ true → moved s [] now None ≡ without_item (settled s moment) key
remove_due s moment now key is due = ap (λ l. moved s l now None) (without-none key) ∙ ap (λ t. without_item t key) (settled_due s moment now is due)
