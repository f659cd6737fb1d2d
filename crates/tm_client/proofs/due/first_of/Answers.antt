use Rattle.std.proofs.Common.{◌++◌, take, drop, ◌∙◌, ap}
use Rattle.tm_client.proofs.Fronts.{front_more, rest_less}
use Rattle.tm_client.proofs.due.first_of.Goals as goal

pub loop-preserved : goal.loop-preserved
loop-preserved g c =
    let i = c.loop.invariant in (
      c.take_one.ensures.requests ∙ ap (λ l. l ++ take 1 c.loop.waits.items) i.0 ∙ ap (λ l. take c.loop.counter c.args.waits.now.items ++ take 1 l) i.1
          ∙ front_more c.loop.counter c.args.waits.now.items,
      c.take_one.ensures.rest ∙ ap (drop 1) i.1 ∙ rest_less c.loop.counter c.args.waits.now.items,
      c.take_one.ensures.capacity ∙ i.2,
      c.take_one.ensures.room ∙ i.3,
    )
