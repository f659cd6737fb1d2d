use Rattle.std.proofs.Common.{◌≡◌, ◌∷◌, [], Bool, false, refl, List, ℕ, length, get_or, set, ap, sym, ◌∙◌, arith, subst}
use Rattle.std.specs.Vec.{vec_capacity}
use Rattle.tm_objects.specs.Sparse.{IsSparse}
use Rattle.tm_objects.proofs.Sparse.{sparse-last, removed_is, last_in, none_in}
use Rattle.tm_objects.proofs.keys.KeySet.pop.Goals as goal

empty_is : (xs : List ℕ) → length xs ≡ 0 → xs ≡ []
empty_is [] h = refl
empty_is (x ∷ xs) h = absurd (omega arith)

pub returns-in_err-key-clause-none : goal.returns-in_err-key-clause-none
returns-in_err-key-clause-none c =
    let none = empty_is c.self.inside.members.items (let h = c.in_err-key.ensures.cases in omega (arith, h, c.self.inside.members.ok.0)) in
    let sparse = subst (λ (l : List ℕ). IsSparse l c.self.inside.positions.items (vec_capacity c.self.inside.members)) none c.self.invariant in
    rw (c.from_residual.ensures, ← c.self.view_is) (none_in c.self.inside.positions.items (vec_capacity c.self.inside.members) sparse)

pub invariant_of-self-2 : goal.invariant_of-self-2
invariant_of-self-2 c =
    let sparse = subst (λ (l : List ℕ). IsSparse l c.self.inside.positions.items (vec_capacity c.self.inside.members)) c.in_ok-key.ensures.items c.self.invariant in
    rw c.in_ok-key.ensures.capacity (sparse-last c.pop.new.self.items c.self.inside.positions.items c.in_ok-key.field-0 _ sparse)

pub returns-clause-was : goal.returns-clause-was
returns-clause-was c =
    let sparse = subst (λ (l : List ℕ). IsSparse l c.self.inside.positions.items (vec_capacity c.self.inside.members)) c.in_ok-key.ensures.items c.self.invariant in
    ap (λ (flags : List Bool). get_or flags c.in_ok-key.field-0 false) (sym c.self.view_is)
    ∙ (last_in c.pop.new.self.items c.self.inside.positions.items c.in_ok-key.field-0 _ sparse).1

pub returns-clause-taken : goal.returns-clause-taken
returns-clause-taken c =
    removed_is c.self.inside.positions.items c.in_ok-key.field-0 ∙ ap (λ (flags : List Bool). set flags c.in_ok-key.field-0 false) c.self.view_is
