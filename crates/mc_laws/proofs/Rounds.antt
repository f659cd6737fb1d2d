-- The classes one after another: what changes one class at a time, from the first on.
use Rattle.std.proofs.Common.{◌≡◌, ℕ, zero, suc, ◌<◌, ◌≤◌, List, [], ◌∷◌, map, length, get_or, set, refl, sym, ap, subst, arith, append-nil}
use Rattle.std.proofs.lemmas.List.{take_all, drop_all, get_or-map}
use Rattle.mc_model.specs.Class.{Class, new_class}
use Rattle.mc_model.specs.Plain.{Plain}
use Rattle.mc_laws.specs.Classes.{class_at, first_changed}
use Rattle.mc_laws.specs.Standing.{StandFor}
use Rattle.mc_laws.proofs.Parts.{IsChange, stand_changed}

-- one class more is changed, the next one
one_more : (change : Class → Class) (n : ℕ) (classes : List Class) (none : Class) → n < length classes
    → first_changed (suc n) change classes ≡ set (first_changed n change classes) n (change (get_or (first_changed n change classes) n none))
one_more change n [] none lt = absurd (omega arith)
one_more change zero (s ∷ classes) none lt = refl
one_more change (suc n) (s ∷ classes) none lt = ap (λ l. change s ∷ l) (one_more change n classes none (omega arith))

-- Where each class's change, in its turn, makes of one store the next, the first n classes' changes make of the first store the one after n.
pub stand_round :
    (change : Class → Class) (after : ℕ → Plain) (classes : List Class) (moment : ℕ)
    → ((n : ℕ) (l : List Class) → n < 64 → StandFor (after n) l moment → IsChange (after n) l n (change (class_at l n)) (after (suc n)) moment)
    → StandFor (after 0) classes moment → (n : ℕ) → n ≤ 64 → StandFor (after n) (first_changed n change classes) moment
stand_round change after classes moment each h zero le = h
stand_round change after classes moment each h (suc n) le =
    let before = stand_round change after classes moment each h n (omega arith) in
    let l = first_changed n change classes in
    subst (λ new. StandFor (after (suc n)) new moment) (sym (one_more change n classes (new_class n 0 0) (omega (arith, h.count))))
    (stand_changed (after n) l n (change (class_at l n)) (after (suc n)) moment before (each n l le before))

-- after a whole round each class is changed
pub whole_round : (change : Class → Class) (classes : List Class) (n : ℕ) → length classes ≤ n → first_changed n change classes ≡ map change classes
whole_round change classes n le = rw (take_all n classes le, drop_all n classes le) (append-nil (map change classes))

pub class_at-map : (change : Class → Class) (classes : List Class) (class : ℕ) → class < length classes → class_at (map change classes) class ≡ change (class_at classes class)
class_at-map change classes class lt = get_or-map change classes class (new_class class 0 0) (new_class class 0 0) lt
