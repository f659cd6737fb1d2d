use Rattle.std.proofs.Common.{◌∙◌}
use Rattle.tm_core.proofs.Telling.{beyond_answer, tells_answer}
use Rattle.tm_core.proofs.cells.may_answer.Goals as goal

pub returns-then-client-cells : goal.returns-then-client-cells
returns-then-client-cells c = beyond_answer c.args.cells.now c.args.client c.args.answers.now c.if-client-cells.true

pub returns : goal.returns
returns c =
    tells_answer c.args.cells.now c.args.client c.index-cells-client.result c.if-client-cells.false c.index-cells-client.is c.args.answers.now
    c.len.result _ (c.len.ensures ∙ c.args.answers.now.ok.0) c.has_in_hand.ensures
