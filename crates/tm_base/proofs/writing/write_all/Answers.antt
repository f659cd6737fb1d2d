use Rattle.std.proofs.Common.{ℕ, List, ◌++◌, ◌-◌, length, ◌∙◌, ap, Some, take, drop, arith}
use Rattle.std.proofs.lemmas.List.{length-drop, length-take}
use Rattle.tm_base.proofs.Pieces.{from_place}
use Rattle.tm_base.proofs.writing.write_all.Goals as goal

pub loop-at-preserved : goal.loop-at-preserved
loop-at-preserved g c =
    let s = c.args.from.now in
    let at = c.loop-at.at in
    record {
      within = omega (arith, c.in_ok-at.ensures.bound, length-take (length s - at) (drop at s), length-drop at s);
      wrote = λ before told. c.in_ok-at.ensures.bytes (before ++ take at s) (c.loop-at.invariant.wrote before told)
          ∙ ap (λ (b : List ℕ). Some b) (from_place at c.in_ok-at.field-0 s before);
      no_fault = c.in_ok-at.ensures.no_fault ∙ c.loop-at.invariant.no_fault;
    }
