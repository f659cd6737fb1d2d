use Rattle.std.proofs.Common.{true, false, ◌∷◌, [], List, length, refl, sym, ◌∙◌, ap, subst}
use Rattle.std.proofs.lemmas.List.{with_items_is}
use Rattle.tm_core.specs.declared.cell.Cell.{Cell}
use Rattle.tm_core.specs.Numbers.{NumberCore}
use Rattle.tm_core.specs.Steps.{IsAllowed, AreGood, after_step, core_after, TakesMemory}
use Rattle.tm_core.specs.Shown.{Tells, CellsGo, CellsStay}
use Rattle.tm_core.proofs.Runs as runs
use Rattle.tm_core.proofs.Newly.{after-append, allowed-append, places_kept}
use Rattle.tm_core.proofs.Telling.{is_allowed, is_not_allowed, shows_next, shows_same, in_range}
use Rattle.tm_core.proofs.machine.Core.step.Goals as goal

pub returns-then-not-allows-clause-cause : goal.returns-then-not-allows-clause-cause
returns-then-not-allows-clause-cause c =
    let tells = subst (λ (l : List Cell). Tells l c.args.step false) c.as_slice.ensures.value c.if-not-allows.ensures in (
      refl,
      λ may.
          is_not_allowed c.self.inside.cells.items c.args.step _ c.self.invariant.shown tells
          (subst (λ (core : NumberCore). IsAllowed core c.args.step) (sym c.self.view_is) may),
    )

pub go-requires : goal.go-requires
go-requires c =
    let tells = subst (λ (l : List Cell). Tells l c.args.step true) c.as_slice.ensures.value c.if-not-allows.ensures in
    let may = is_allowed c.self.inside.cells.items c.args.step _ c.self.invariant.shown tells in
    rw c.as_mut_slice.ensures.value (in_range c.self.inside.cells.items c.args.step _ c.self.invariant.shown may)

pub invariant_of-self : goal.invariant_of-self
invariant_of-self c =
    let stays = subst (λ (l : List Cell). CellsStay l c.go.new.cells) c.as_mut_slice.ensures.value c.in-Err.ensures.err in
    record {
      shown = rw (with_items_is c.self.inside.cells c.go.new.cells (c.go.auto.cells ∙ c.as_mut_slice.ensures.len))
          (shows_same c.self.inside.cells.items c.args.step _ c.self.invariant.shown c.go.new.cells stays);
      allowed = c.self.invariant.allowed;
    }

pub returns-in-Err-clause-cause : goal.returns-in-Err-clause-cause
returns-in-Err-clause-cause c =
    let tells = subst (λ (l : List Cell). Tells l c.args.step true) c.as_slice.ensures.value c.if-not-allows.ensures in
    let may = is_allowed c.self.inside.cells.items c.args.step _ c.self.invariant.shown tells in
    let back = c.in-Err.ensures.back in
    (back.0, subst (λ (core : NumberCore). IsAllowed core c.args.step) c.self.view_is may, subst TakesMemory back.0 back.1)

pub invariant_of-self-2 : goal.invariant_of-self-2
invariant_of-self-2 c =
    let cells = c.self.inside.cells.items in
    let tells = subst (λ (l : List Cell). Tells l c.args.step true) c.as_slice.ensures.value c.if-not-allows.ensures in
    let may = is_allowed cells c.args.step _ c.self.invariant.shown tells in
    let goes = subst (λ (l : List Cell). CellsGo l c.args.step c.go.new.cells) c.as_mut_slice.ensures.value c.in_default.ensures.ok in
    record {
      shown = rw (
        with_items_is c.self.inside.cells c.go.new.cells (c.go.auto.cells ∙ c.as_mut_slice.ensures.len),
        c.records-past.ensures,
        after-append c.self.inside.past.items (c.args.step ∷ []),
      )
          (shows_next cells c.args.step _ c.self.invariant.shown c.go.new.cells goes may);
      allowed = rw c.records-past.ensures (allowed-append c.self.inside.past.items c.args.step _ c.self.invariant.allowed may);
    }

pub returns-clause-allowed : goal.returns-clause-allowed
returns-clause-allowed c =
    let tells = subst (λ (l : List Cell). Tells l c.args.step true) c.as_slice.ensures.value c.if-not-allows.ensures in
    subst (λ (core : NumberCore). IsAllowed core c.args.step) c.self.view_is
    (is_allowed c.self.inside.cells.items c.args.step _ c.self.invariant.shown tells)

pub returns-clause-ok : goal.returns-clause-ok
returns-clause-ok c =
    ap (core_after c.self.inside.cells.len) c.records-past.ensures
    ∙ after-append c.self.inside.past.items (c.args.step ∷ []) _
    ∙ ap (after_step c.args.step) c.self.view_is

pub returns-clause-places : goal.returns-clause-places
returns-clause-places c = ap (λ (core : NumberCore). length core.slots) (returns-clause-ok c) ∙ places_kept c.args.step c.args.self.now

pub returns-then-not-allows-clause-good : goal.returns-then-not-allows-clause-good
returns-then-not-allows-clause-good c =
    subst (λ (core : NumberCore). AreGood core) c.self.view_is (runs.steps_keep_slots _ c.self.inside.past.items c.self.invariant.allowed)

pub returns-in-Err-clause-good : goal.returns-in-Err-clause-good
returns-in-Err-clause-good c = runs.steps_keep_slots _ c.self.inside.past.items c.self.invariant.allowed

pub returns-clause-good : goal.returns-clause-good
returns-clause-good c = let after = invariant_of-self-2 c in runs.steps_keep_slots _ c.records-past.result.items after.allowed
