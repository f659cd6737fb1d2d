-- How far the completions are for which a side waits, slot by slot: a round of light moves alone brings each nearer.
use Rattle.std.proofs.Common.{◌≡◌, ℕ, zero, suc, ◌≤◌, ◌<◌, inl, inr, List, [], ◌∷◌, min, refl, ap, arith}
use Rattle.std.specs.Prelude.{slice_get}
use Rattle.std.specs.declared.option.Option.TheVariants.{Some}
use Rattle.std.proofs.lemmas.Bool.{cases_lt}
use Rattle.tm_batch.specs.declared.message.Completion.{Completion}
use Rattle.tm_batch.specs.declared.message.Request.{Request}
use Rattle.tm_batch.specs.declared.message.AnswerBatch.{AnswerBatch}
use Rattle.tm_model.specs.declared.entry.Entry.{Entry}
use Rattle.tm_model.specs.Slots.{Empty, Asked, Taken, Answered}
use Rattle.tm_model.specs.Good.{FullBox, FullSlot, FullCore}
use Rattle.tm_pair.specs.Plain.{core_at}
use Rattle.tm_pair.specs.declared.plain.PlainTable.{PlainTable}
use Rattle.tm_turns.specs.declared.turns.Turns.{Turns}
use Rattle.tm_turns.proofs.Light.{pending}

module _ {V O R T : Type 0} where
  -- answers bring a completion, or none
  abbrev pub brings_level : List (Completion V O R T) → ℕ
  brings_level [] = 2
  brings_level (x ∷ xs) = 0

  -- of a slot of which so many launches are pending: 0 where answers with a completion stand there, 1 where an answer is still to be given
  abbrev pub box_level : ℕ → FullBox V O R T → ℕ
  box_level zero box = 2
  box_level (suc p) (Answered a upto room) = brings_level a.completions.items
  box_level (suc p) Empty = 1
  box_level (suc p) (Asked b room) = 1
  box_level (suc p) (Taken b room) = 1

  abbrev pub slot_level : FullSlot V O R T → ℕ
  slot_level slot = box_level (pending slot.sent slot.got) slot.box

  pub level_brought :
      (p : ℕ) (box : FullBox V O R T) (a : AnswerBatch V O R T) (upto : List (Entry V O R T)) (room : ℕ) → 1 ≤ p → box ≡ Answered a upto room
      → box_level p box ≡ brings_level a.completions.items
  level_brought zero box a upto room some is = absurd (omega (arith, some))
  level_brought (suc p) box a upto room some is = ap (λ b. box_level (suc p) b) is

  pub level_empty : (p : ℕ) (box : FullBox V O R T) → 1 ≤ p → box ≡ Empty → box_level p box ≡ 1
  level_empty zero box some is = absurd (omega (arith, some))
  level_empty (suc p) box some is = ap (λ b. box_level (suc p) b) is

  pub level_asked : (p : ℕ) (box : FullBox V O R T) (b : List (Request V O R T)) (room : ℕ) → 1 ≤ p → box ≡ Asked b room → box_level p box ≡ 1
  level_asked zero box b room some is = absurd (omega (arith, some))
  level_asked (suc p) box b room some is = ap (λ b. box_level (suc p) b) is

  brought_most : (xs : List (Completion V O R T)) → brings_level xs ≤ 2
  brought_most [] = omega arith
  brought_most (x ∷ xs) = omega arith

  high : (p : ℕ) (box : FullBox V O R T) → box_level p box ≤ 2
  high zero box = omega arith
  high (suc p) (Answered a upto room) = brought_most a.completions.items
  high (suc p) Empty = omega arith
  high (suc p) (Asked b room) = omega arith
  high (suc p) (Taken b room) = omega arith

  low : (p : ℕ) (box : FullBox V O R T) → box_level p box < 2 → 1 ≤ p
  low zero box lt = absurd (omega (arith, lt))
  low (suc p) box lt = omega arith

  pub level_most : (slot : FullSlot V O R T) → slot_level slot ≤ 2
  level_most slot = high (pending slot.sent slot.got) slot.box

  -- a slot below the last level has launches that are pending
  pub level_pending : (slot : FullSlot V O R T) → slot_level slot < 2 → 1 ≤ pending slot.sent slot.got
  level_pending slot lt = low (pending slot.sent slot.got) slot.box lt

-- the least of some numbers, 2 at most
abbrev pub least : {X : Type 0} → (X → ℕ) → List X → ℕ
least f [] = 2
least f (x ∷ xs) = min (f x) (least f xs)

pub least_most : {X : Type 0} (f : X → ℕ) (xs : List X) → least f xs ≤ 2
least_most f [] = omega arith
least_most f (x ∷ xs) = let more = least_most f xs in omega (arith, more)

pub least_at : {X : Type 0} (f : X → ℕ) (xs : List X) (i : ℕ) (x : X) → slice_get xs i ≡ Some x → least f xs ≤ f x
least_at f [] i x at = absurd cc
least_at f (y ∷ xs) zero x at = let is : y ≡ x = cc in let same = ap f is in omega (arith, same)
least_at f (y ∷ xs) (suc i) x at = let more = least_at f xs i x at in omega (arith, more)

-- it is that of one of them, if it is below 2
pub least_found : {X : Type 0} (f : X → ℕ) (xs : List X) → least f xs < 2 → (i : ℕ) × (x : X) × (slice_get xs i ≡ Some x) × (f x ≤ least f xs)
least_found f [] lt = absurd (omega (arith, lt))
least_found f (x ∷ xs) lt =
    elim (cases_lt (least f xs) (f x)) [
      | inl less ↦ let (i, y, at, le) = least_found f xs (omega (arith, lt, less)) in (suc i, y, at, omega (arith, le, less))
      | inr not ↦ (0, x, refl, omega (arith, not))
    ]

abbrev pub core_level : {V O R T : Type 0} → FullCore V O R T → ℕ
core_level core = least slot_level core.slots

module _ {V C O R T : Type 0} where
  -- of the whole
  abbrev pub level : Turns V C O R T → ℕ
  level turns = least (λ (table : PlainTable V O R T). core_level (core_at table)) turns.tables.items
