use Rattle.std.proofs.Common.{◌∙◌}
use Rattle.tm_core.proofs.Telling.{beyond_publish, free_publish, held_publish}
use Rattle.tm_core.proofs.cells.may_publish.Goals as goal

pub returns-then-client-cells : goal.returns-then-client-cells
returns-then-client-cells c = beyond_publish c.args.cells.now c.args.client c.args.requests.now c.if-client-cells.true

pub returns-then-is_free : goal.returns-then-is_free
returns-then-is_free c =
    free_publish c.args.cells.now c.args.client c.index-cells-client.result c.if-client-cells.false c.index-cells-client.is c.args.requests.now c.len.result
    (c.if-is_free.ensures.0 cc) (c.len.ensures ∙ c.args.requests.now.ok.0)

pub returns-else-is_free : goal.returns-else-is_free
returns-else-is_free c =
    rw c.if-is_free.false
    (held_publish c.args.cells.now c.args.client c.index-cells-client.result c.if-client-cells.false c.index-cells-client.is c.args.requests.now
    (λ free. cc (c.if-is_free.ensures.1 free)))
