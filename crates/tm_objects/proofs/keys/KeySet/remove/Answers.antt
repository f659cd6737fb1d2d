use Rattle.std.proofs.Common.{◌++◌, ◌∷◌, [], Bool, false, List, ℕ, get_or, set, ap, sym, ◌∙◌, arith, subst}
use Rattle.std.proofs.lemmas.Grind.{get_or_default_zero}
use Rattle.std.specs.Vec.{vec_capacity}
use Rattle.tm_objects.specs.Sparse.{IsSparse}
use Rattle.tm_objects.proofs.Sparse.{seen, flag_out, flag-kept, moved_short, sparse-last, sparse-moved, removed_is, moved_is}
use Rattle.tm_objects.proofs.keys.KeySet.remove.Goals as goal

pub returns-then-position : goal.returns-then-position
returns-then-position c =
    let within = seen c.self.inside.positions.items c.args.self.now c.args.key c.self.view_is c.requires in
    let at = c.index-position.ensures ∙ get_or_default_zero c.self.inside.positions.items c.args.key c.index-position.result.now within in
    flag-kept c.args.self.now c.args.key false
    (ap (λ (flags : List Bool). get_or flags c.args.key false) (sym c.self.view_is) ∙ flag_out c.self.inside.positions.items c.args.key within (sym at ∙ c.if-position.true))

pub index_mut-requires-then-last-key : goal.index_mut-requires-then-last-key
index_mut-requires-then-last-key c =
    let within = seen c.self.inside.positions.items c.args.self.now c.args.key c.self.view_is c.requires in
    let at = c.index-position.ensures ∙ get_or_default_zero c.self.inside.positions.items c.args.key c.index-position.result.now within in
    let sparse = subst (λ (l : List ℕ). IsSparse l c.self.inside.positions.items (vec_capacity c.self.inside.members)) c.in-Some.ensures.items c.self.invariant in
    let short = moved_short c.pop.new.self.items c.self.inside.positions.items c.args.key c.in-Some.last _ sparse within (λ a. c.if-position.false (at ∙ a)) c.if-last-key.true in
    omega (arith, at, short)

pub invariant_of-self : goal.invariant_of-self
invariant_of-self c =
    let within = seen c.self.inside.positions.items c.args.self.now c.args.key c.self.view_is c.requires in
    let at = c.index-position.ensures ∙ get_or_default_zero c.self.inside.positions.items c.args.key c.index-position.result.now within in
    let sparse = subst (λ (l : List ℕ). IsSparse l c.self.inside.positions.items (vec_capacity c.self.inside.members)) c.in-Some.ensures.items c.self.invariant in
    rw (at, c.in-Some.ensures.capacity)
    (sparse-moved c.pop.new.self.items c.self.inside.positions.items c.args.key c.in-Some.last _ sparse within (λ a. c.if-position.false (at ∙ a)) c.if-last-key.true)

pub invariant_of-self-else-last-key : goal.invariant_of-self-else-last-key
invariant_of-self-else-last-key c =
    let e = c.in-Some.ensures.items ∙ ap (λ (k : ℕ). c.pop.new.self.items ++ k ∷ []) c.if-last-key.false in
    let sparse = subst (λ (l : List ℕ). IsSparse l c.self.inside.positions.items (vec_capacity c.self.inside.members)) e c.self.invariant in
    rw c.in-Some.ensures.capacity (sparse-last c.pop.new.self.items c.self.inside.positions.items c.args.key _ sparse)

pub returns-then-last-key : goal.returns-then-last-key
returns-then-last-key c =
    let within = seen c.self.inside.positions.items c.args.self.now c.args.key c.self.view_is c.requires in
    let at = c.index-position.ensures ∙ get_or_default_zero c.self.inside.positions.items c.args.key c.index-position.result.now within in
    let sparse = subst (λ (l : List ℕ). IsSparse l c.self.inside.positions.items (vec_capacity c.self.inside.members)) c.in-Some.ensures.items c.self.invariant in
    rw at
    (moved_is c.pop.new.self.items c.self.inside.positions.items c.args.key c.in-Some.last _ sparse within (λ a. c.if-position.false (at ∙ a)) c.if-last-key.true
    ∙ ap (λ (flags : List Bool). set flags c.args.key false) c.self.view_is)

pub returns-else-last-key : goal.returns-else-last-key
returns-else-last-key c = removed_is c.self.inside.positions.items c.args.key ∙ ap (λ (flags : List Bool). set flags c.args.key false) c.self.view_is
