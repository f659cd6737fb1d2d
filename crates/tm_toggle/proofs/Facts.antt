-- Words, lists of calls and lists of views.
use Rattle.std.proofs.Common.{◌≡◌, ℕ, zero, suc, ◌-◌, ◌<◌, Bool, true, false, true≢false, not, List, [], ◌∷◌, ◌++◌, length, refl, sym, ◌∙◌, ap, arith}
use Rattle.std.specs.Prelude.{IsSomeAnd}
use Rattle.std.specs.List.{AllByRecursion}
use Rattle.std.specs.declared.option.Option.TheVariants.{None, Some}
use Rattle.std.specs.declared.option.Option.{Option as RustOption}
use Rattle.std.proofs.lemmas.List.{append_assoc, append-nil}
use mathlib.Core.Option.{some, some-ne-none}
use lib.ListN.{get_elem?}
use Rattle.tm_model.specs.Lists.{IsPrefix}
use Rattle.tm_model.specs.Good.{FullCore}
use Rattle.tm_pair.specs.Moves.{MayCome, after_move, after_moves}
use Rattle.tm_pair.specs.declared.moves.Move.{Move}
use Rattle.tm_toggle.specs.Ruled.{r_of, s_of, bit, HasAll, IsNext, HaveCome}

pub same_r : (a b : ℕ) → r_of a ≡ r_of b → a ≡ b
same_r a b e = omega arith

pub same_s : (a b : ℕ) → s_of a ≡ s_of b → a ≡ b
same_s a b e = omega arith

pub off : true ≡ false → ⊥
off e = true≢false e

pub flips : (b : Bool) → bit (not b) ≡ 1 - bit b
flips true = refl
flips false = refl

pub low : (b : Bool) → bit b < 2
low true = omega arith
low false = omega arith

pub same_bit : (a b : Bool) → bit a ≡ bit b → a ≡ b
same_bit true true e = refl
same_bit false false e = refl
same_bit true false e = absurd (omega arith)
same_bit false true e = absurd (omega arith)

pub at_bound : {A : Type 0} (l : List A) (i : ℕ) (a : A) → get_elem? l i ≡ some a → i < length l
at_bound [] i a e = absurd (some-ne-none a (sym e))
at_bound (x ∷ xs) zero a e = omega arith
at_bound (x ∷ xs) (suc i) a e = let h = at_bound xs i a e in omega arith

pub some_and : {X : Type 0} (o : RustOption X) (P : X → Type 0) → IsSomeAnd o P → (x : X) × (o ≡ Some x) × P x
some_and None P h = absurd h
some_and (Some x) P h = (x, refl, h)

pub all_snoc : {X : Type 0} (P : X → Type 0) (xs : List X) (x : X) → AllByRecursion P xs → P x → AllByRecursion P (xs ++ x ∷ [])
all_snoc P [] x all h = (h, tt)
all_snoc P (y ∷ ys) x all h = (all.0, all_snoc P ys x all.1 h)

-- a list begins itself, and what it begins
pub prefix_self : {X : Type 0} (xs : List X) → IsPrefix xs xs
prefix_self xs = ([], sym (append-nil xs))

pub prefix_on : {X : Type 0} (xs ys zs : List X) → IsPrefix xs ys → IsPrefix ys zs → IsPrefix xs zs
prefix_on xs ys zs a b = (a.0 ++ b.0, b.1 ∙ ap (λ l. l ++ b.0) a.1 ∙ append_assoc xs a.0 b.0)

-- the slot that a seat took last
abbrev pub one_content : {A : Type 0} → ℕ → A → List (ℕ × A)
one_content p y = (p, y) ∷ []

content_or : {A : Type 0} → A → List (ℕ × A) → A
content_or d [] = d
content_or d (x ∷ xs) = x.1

pub same_content : {A : Type 0} (x y : A) (k j : ℕ) (more more' : List (ℕ × A)) (l : List (ℕ × A)) → l ≡ (k, x) ∷ more → l ≡ (j, y) ∷ more' → x ≡ y
unfolding content_or
same_content x y k j more more' l e e' = ap (content_or x) (sym e ∙ e')

module _ {V O R T : Type 0} where
  -- one call more, of another side
  pub all_more : (Own : Move V O R T → Type 0) (front past : List (Move V O R T)) (move : Move V O R T) → (Own move → ⊥) → HasAll Own front past → HasAll Own front (past ++ move ∷ [])
  all_more Own front past move other h =
      (h.0 ++ move ∷ [], ap (λ l. l ++ move ∷ []) h.1 ∙ append_assoc front h.0 (move ∷ []), all_snoc (λ m. Own m → ⊥) h.0 move h.2 other)

  pub all_own : (Own : Move V O R T → Type 0) (past : List (Move V O R T)) → HasAll Own past past
  all_own Own past = ([], sym (append-nil past), tt)

  -- one call more, of the side itself
  pub next_call : (Own : Move V O R T → Type 0) (front past : List (Move V O R T)) (move : Move V O R T) → HasAll Own front past → IsNext Own front (past ++ move ∷ []) move
  next_call Own front past move h = (h.0, ap (λ l. l ++ move ∷ []) h.1, h.2)

  pub come_next :
      (past : List (Move V O R T)) (move : Move V O R T) (core : FullCore V O R T) → HaveCome past core → MayCome move (after_moves past core) → HaveCome (past ++ move ∷ []) core
  come_next [] move core come may = (may, tt)
  come_next (m ∷ past) move core come may = (come.0, come_next past move (after_move m core) come.1 may)
