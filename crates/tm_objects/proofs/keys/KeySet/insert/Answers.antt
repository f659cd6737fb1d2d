use Rattle.std.proofs.Common.{Bool, true, false, List, get_or, set, ap, sym, ◌∙◌, arith}
use Rattle.std.proofs.lemmas.Grind.{get_or_default_zero}
use Rattle.tm_objects.proofs.Sparse.{seen, fewer, sparse-insert, inserted_is, flag_in, flag-kept}
use Rattle.tm_objects.proofs.keys.KeySet.insert.Goals as goal

pub push_reserved-requires : goal.push_reserved-requires
push_reserved-requires c =
    let within = seen c.self.inside.positions.items c.args.self.now c.args.key c.self.view_is c.requires in
    let at = c.index.ensures ∙ get_or_default_zero c.self.inside.positions.items c.args.key c.index.result.now within in
    omega (arith, fewer c.self.invariant c.args.key within (sym at ∙ c.if-index.true), c.self.invariant.fits)

pub invariant_of-self : goal.invariant_of-self
invariant_of-self c =
    let within = seen c.self.inside.positions.items c.args.self.now c.args.key c.self.view_is c.requires in
    let at = c.index.ensures ∙ get_or_default_zero c.self.inside.positions.items c.args.key c.index.result.now within in
    rw (c.push_reserved.ensures.items, c.push_reserved.ensures.capacity, c.len.ensures ∙ c.self.inside.members.ok.0) (sparse-insert c.self.invariant c.args.key within (sym at ∙ c.if-index.true))

pub returns-then-index : goal.returns-then-index
returns-then-index c =
    let within = seen c.self.inside.positions.items c.args.self.now c.args.key c.self.view_is c.requires in
    let at = c.index.ensures ∙ get_or_default_zero c.self.inside.positions.items c.args.key c.index.result.now within in
    rw (c.len.ensures ∙ c.self.inside.members.ok.0)
    (inserted_is c.self.invariant c.args.key within (sym at ∙ c.if-index.true) ∙ ap (λ (flags : List Bool). set flags c.args.key true) c.self.view_is)

pub returns-else-index : goal.returns-else-index
returns-else-index c =
    let within = seen c.self.inside.positions.items c.args.self.now c.args.key c.self.view_is c.requires in
    let at = c.index.ensures ∙ get_or_default_zero c.self.inside.positions.items c.args.key c.index.result.now within in
    flag-kept c.args.self.now c.args.key true
    (ap (λ (flags : List Bool). get_or flags c.args.key false) (sym c.self.view_is) ∙ flag_in c.self.inside.positions.items c.args.key within (λ a. c.if-index.false (at ∙ a)))
