use Rattle.std.proofs.Common.{◌∙◌, Some, sym, ap}
use Rattle.tm_latch.specs.declared.lines.Node.{Node}
use Rattle.tm_latch.proofs.Chains.{some_same}
use Rattle.tm_latch.proofs.Changes.{spot_line}
use Rattle.tm_latch.proofs.lines.Lines.line_of.Goals as goal

pub returns-in-Some : goal.returns-in-Some
returns-in-Some c pairs table =
    let spot = c.in-Some.ensures.found pairs table in
    ap (λ (n : Node). Some n.line) (some_same _ _ (sym c.index.ensures ∙ spot.here)) ∙ sym (spot_line _ _ pairs table c.args.id c.in-Some.spot spot)
