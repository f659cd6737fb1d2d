use Rattle.std.proofs.Common.{rules, ◌≡◌, ◌∙◌, ◌<◌, ◌∷◌, length, sym, ap, subst, arith, length-append}
use Rattle.std.specs.Prelude.{nat_eq}
use Rattle.std.specs.List.{IsDistinct}
use Rattle.tm_client.specs.Launches.{tickets_of, finished_by}
use Rattle.tm_client.proofs.Fronts.{empty_of}
use Rattle.tm_client.proofs.Moving.{removed}
use Rattle.tm_client.proofs.Ended as ended
use Rattle.tm_client.proofs.finishing.finish.Goals as goal

pub returns-clause-arrived : goal.returns-clause-arrived
returns-clause-arrived g c =
    let none = empty_of c.loop-batch.batch.completions.items (sym c.loop-batch-test.false ∙ c.is_empty.ensures) in
    ended.finished_at_end c.args.trustee c.loop-batch.arrived.items _ c.loop-batch.launched.items c.loop-batch.batch.completions.items none
    c.loop-batch.invariant.arrives

pub returns-clause-launched : goal.returns-clause-launched
returns-clause-launched g c =
    let none = empty_of c.loop-batch.batch.completions.items (sym c.loop-batch-test.false ∙ c.is_empty.ensures) in
    ended.left_at_end c.loop-batch.launched.items _ c.loop-batch.batch.completions.items none c.loop-batch.invariant.leaves

pub loop-batch-preserved : goal.loop-batch-preserved
loop-batch-preserved g c =
    let some : 0 < length c.loop-batch.batch.completions.items = search rules in
    let all : c.loop-batch.batch.completions.items ≡ c.remove-completion.result ∷ c.remove-completion.new.self.items =
    removed c.loop-batch.batch.completions.items c.remove-completion.new.self.items c.remove-completion.result some c.remove-completion.ensures.value
    c.remove-completion.ensures.items in
    let was = c.loop-batch.invariant in
    let more = c.finish_one.ensures in
    let x = c.remove-completion.result in
    let out = ended.one_out c.args.trustee x c.loop-batch.launched.items was.once in
    let arrived = ap length more.arrived ∙ length-append c.loop-batch.arrived.items (finished_by c.args.trustee c.loop-batch.launched.items x) in
    let left = ap length more.launched in
    let capacity = more.capacity in
    let room = was.room in
    record {
      arrives =
          ended.finishing c.args.trustee c.loop-batch.arrived.items c.finish_one.new.arrived.items _ c.loop-batch.launched.items c.finish_one.new.launched.items
          x c.loop-batch.batch.completions.items c.remove-completion.new.self.items all was.ended more.arrived more.launched was.arrives;
      leaves =
          ended.leaving c.loop-batch.launched.items c.finish_one.new.launched.items _ x c.loop-batch.batch.completions.items c.remove-completion.new.self.items
          all more.launched was.leaves;
      once = subst (λ ls. IsDistinct nat_eq (tickets_of ls)) (sym more.launched) (ended.others_distinct x.ticket c.loop-batch.launched.items was.once);
      ended = ended.ended_rest x c.loop-batch.batch.completions.items c.remove-completion.new.self.items all was.ended;
      room = omega (arith, out, arrived, left, capacity, room);
      capacity = more.capacity ∙ was.capacity;
      launched_room = more.launched_room ∙ was.launched_room;
      gifts = was.gifts;
    }
