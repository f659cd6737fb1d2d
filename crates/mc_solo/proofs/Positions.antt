-- How near a session is to its end, as one number.
use Rattle.std.proofs.Common.{◌≡◌, ℕ, ◌<◌, ◌≤◌, inl, inr, Bool, true, false, List, [], ◌∷◌, sym, subst, arith}
use Rattle.mc_next.specs.declared.ahead.Ahead.{Ahead}
use Rattle.mc_next.specs.declared.session.Session.{Session}
use Rattle.mc_next.specs.Numbers.{one_where, numbers_of, IsBounded}
use Rattle.mc_next.specs.Steps.{before_of, IsLess}
use Rattle.mc_solo.specs.Driving.{folded, position}

-- no list is less than itself
pub never_less : (xs : List ℕ) → IsLess xs xs → ⊥
never_less [] h = h
never_less (x ∷ xs) (inl lt) = absurd (omega (arith, lt))
never_less (x ∷ xs) (inr (e, h)) = never_less xs h

one_most : (b : Bool) → one_where b ≤ 1
one_most true = omega arith
one_most false = omega arith

-- the lesser list folds to the lesser number
less_folds : (was now : Ahead) → IsBounded now → IsLess (numbers_of now) (numbers_of was) → folded (numbers_of now) < folded (numbers_of was)
less_folds was now is h =
    let to_come = is.to_come in
    let unfed = is.unfed in
    let at_work = one_most now.at_work in
    let unwritten = one_most now.unwritten in
    let unasked = is.unasked in
    elim h [
      | inl lt ↦ omega (arith, lt, to_come, unfed, at_work, unwritten, unasked)
      | inr (a, inl lt) ↦ omega (arith, a, lt, unfed, at_work, unwritten, unasked)
      | inr (a, inr (b, inl lt)) ↦ omega (arith, a, b, lt, at_work, unwritten, unasked)
      | inr (a, inr (b, inr (c, inl lt))) ↦ omega (arith, a, b, c, lt, unwritten, unasked)
      | inr (a, inr (b, inr (c, inr (d, inl lt)))) ↦ omega (arith, a, b, c, d, lt, unasked)
      | inr (a, inr (b, inr (c, inr (d, inr (e, inl lt))))) ↦ omega (arith, a, b, c, d, e, lt)
      | inr (a, inr (b, inr (c, inr (d, inr (e, inr (f, none)))))) ↦ absurd none
    ]

-- less is before a session, by the numbers that were read of it
pub nearer :
    (session session_new : Session) (was now : Ahead) → numbers_of was ≡ before_of session → numbers_of now ≡ before_of session_new → IsBounded now
    → IsLess (before_of session_new) (before_of session) → position session_new < position session
nearer session session_new was now were are is less =
    let lt = less_folds was now is (subst (λ xs. IsLess xs (numbers_of was)) (sym are) (subst (λ xs. IsLess (before_of session_new) xs) (sym were) less)) in
    subst (λ xs. folded xs < position session) are (subst (λ xs. folded (numbers_of now) < folded xs) were lt)
