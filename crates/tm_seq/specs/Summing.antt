-- What a sum of two kinds does.
use Rattle.std.specs.Prelude.{ℕ}
use Rattle.tm_seq.specs.Kind.{Kind}
use Rattle.tm_seq.specs.declared.kind.Event.{Event}
use Rattle.tm_seq.specs.declared.kind.Next.{Next}
use Rattle.tm_seq.specs.declared.kind.Next.TheVariants.{Ask, Done}
use Rattle.tm_seq.specs.declared.sum.Sum.{Sum}
use Rattle.tm_seq.specs.declared.sum.Sum.TheVariants.{First, Second}

-- what comes next, with its task read as a task of the sum
abbrev pub next_as : {O R T W : Type 0} → (T → W) → Next O T R → Next O W R
next_as f (Ask trustee index op task) = Ask trustee index op (f task)
next_as f (Done reply) = Done reply

module _ {A B O R : Type 0} where
  -- an operation runs on the side that the value is of
  abbrev pub sum_step : (A → O → A × R) → (B → O → B × R) → Sum A B → O → Sum A B × R
  sum_step f g (First v) op = (First (f v op).0, (f v op).1)
  sum_step f g (Second v) op = (Second (g v op).0, (g v op).1)

-- how many more times a task may ask at most: as many as that of its side
abbrev pub sum_left : {T U : Type 0} → (T → ℕ) → (U → ℕ) → Sum T U → ℕ
sum_left f g (First task) = f task
sum_left f g (Second task) = g task

-- a task is of another side than the value
abbrev pub IsOfOtherSide : {A B T U : Type 0} → Sum A B → Sum T U → Type 0
IsOfOtherSide (First v) (First task) = ⊥
IsOfOtherSide (First v) (Second task) = Unit {0}
IsOfOtherSide (Second v) (First task) = Unit {0}
IsOfOtherSide (Second v) (Second task) = ⊥

module _ {A B O R T U : Type 0} where
  -- a task of the value's side is told the event there; a task of the other side ends with `other`, and leaves the value
  abbrev pub sum_advance :
      (A → T → Event R → A × Next O T R) → (B → U → Event R → B × Next O U R) → R → Sum A B → Sum T U → Event R → Sum A B × Next O (Sum T U) R
  sum_advance f g other (First v) (First task) event = (First (f v task event).0, next_as First (f v task event).1)
  sum_advance f g other (Second v) (Second task) event = (Second (g v task event).0, next_as Second (g v task event).1)
  sum_advance f g other (First v) (Second task) event = (First v, Done other)
  sum_advance f g other (Second v) (First task) event = (Second v, Done other)

  -- two kinds as one, with `other` for a task whose side is not the value's
  abbrev pub sum_kind : Kind A O R T → Kind B O R U → R → Kind (Sum A B) O R (Sum T U)
  sum_kind a b other = record {
    step = sum_step a.step b.step;
    advance = sum_advance a.advance b.advance other;
    left = sum_left a.left b.left;
    no_memory = a.no_memory;
    lacks = a.lacks;
  }
