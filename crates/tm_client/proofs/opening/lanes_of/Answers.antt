use Rattle.std.proofs.Common.{[], ◌∷◌, ◌++◌, sym, ap, ◌∙◌, arith, append_assoc}
use Rattle.tm_client.proofs.Beginning.{lanes_more, lanes_all}
use Rattle.tm_client.proofs.opening.lanes_of.Goals as goal

pub loop-side-preserved : goal.loop-side-preserved
loop-side-preserved g c =
    let more = ap (λ l. c.loop-side.yielded ++ l) (sym c.in-Some.ensures.steps.0) ∙ c.loop-side.invariant.1 in (
      lanes_more c.loop-side.lanes.items c.push.new.self.items c.loop-side.yielded c.in-Some.side c.in_ok-lane_of.field-0 c.in_ok-push.ensures.items
          c.in_ok-lane_of.ensures c.loop-side.invariant.0,
      append_assoc c.loop-side.yielded (c.in-Some.side ∷ []) c.next.new.self.rest.items ∙ more,
    )

pub returns : goal.returns
returns g c =
    let none = c.loop-side.side-iterator.rest.ok.0 in
    let end = c.in-None.ensures.steps.0 in
    lanes_all c.loop-side.lanes.items c.loop-side.yielded c.loop-side.side-iterator.rest.items c.args.sides.items (omega (arith, none, end)) c.loop-side.invariant.1
    c.loop-side.invariant.0
