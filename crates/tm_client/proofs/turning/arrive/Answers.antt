use Rattle.std.proofs.Common.{rules, ◌≡◌, ◌∙◌, ◌<◌, ◌∷◌, length, drop, sym, ap, arith}
use Rattle.tm_client.proofs.Fronts.{empty_of}
use Rattle.tm_client.proofs.Moving as moving
use Rattle.tm_client.proofs.turning.arrive.Goals as goal

pub returns-clause-arrived : goal.returns-clause-arrived
returns-clause-arrived g c =
    let none = empty_of c.loop-batch.batch.answers.items (sym c.loop-batch-test.false ∙ c.is_empty.ensures) in
    moving.arrivals_at_end c.args.trustee c.loop-batch.arrived.items _ c.loop-batch.afters.items c.loop-batch.batch.answers.items none c.loop-batch.invariant.arrives

pub returns-clause-launched : goal.returns-clause-launched
returns-clause-launched g c =
    let none = empty_of c.loop-batch.batch.answers.items (sym c.loop-batch-test.false ∙ c.is_empty.ensures) in
    moving.launches_at_end c.loop-batch.launched.items _ c.loop-batch.afters.items c.loop-batch.batch.answers.items none c.loop-batch.invariant.launches

pub returns-clause-count : goal.returns-clause-count
returns-clause-count g c =
    let none = ap length (empty_of c.loop-batch.batch.answers.items (sym c.loop-batch-test.false ∙ c.is_empty.ensures)) in
    let all = c.loop-batch.invariant.count in
    omega (arith, none, all)

pub loop-batch-preserved : goal.loop-batch-preserved
loop-batch-preserved g c =
    let some : 0 < length c.loop-batch.batch.answers.items = search rules in
    let all : c.loop-batch.batch.answers.items ≡ c.remove-answer.result ∷ c.remove-answer.new.self.items =
    moving.removed c.loop-batch.batch.answers.items c.remove-answer.new.self.items c.remove-answer.result some c.remove-answer.ensures.value
    c.remove-answer.ensures.items in
    let was = c.loop-batch.invariant in
    let more = c.arrive_first.ensures in
    let moves =
    moving.moving c.args.trustee c.loop-batch.arrived.items c.arrive_first.new.arrived.items c.loop-batch.launched.items c.arrive_first.new.launched.items
    c.loop-batch.afters.items c.arrive_first.new.afters.items c.remove-answer.result c.loop-batch.batch.answers.items c.remove-answer.new.self.items all
    more.arrived more.launched more.afters in
    let count = moves.count in
    let arrives = moves.arrives in
    let launches = moves.launches in
    let room = was.room in
    let launched_room = was.launched_room in
    let counted = was.count in
    let capacity = more.capacity in
    let launched_capacity = more.launched_room in
    record {
      arrives =
          moving.arriving c.args.trustee c.loop-batch.arrived.items c.arrive_first.new.arrived.items _ c.loop-batch.afters.items c.arrive_first.new.afters.items
          c.remove-answer.result c.loop-batch.batch.answers.items c.remove-answer.new.self.items all more.arrived more.afters was.arrives;
      launches =
          moving.launching c.loop-batch.launched.items c.arrive_first.new.launched.items _ c.loop-batch.afters.items c.arrive_first.new.afters.items
          c.remove-answer.result c.loop-batch.batch.answers.items c.remove-answer.new.self.items all more.launched more.afters was.launches;
      drops =
          rw more.afters (moving.drop_first (length c.remove-answer.new.self.items) c.loop-batch.afters.items)
          ∙ ap (λ xs. drop (length xs) c.loop-batch.afters.items) (sym all) ∙ was.drops;
      room = omega (arith, arrives, room, capacity);
      launched_room = omega (arith, launches, launched_room, launched_capacity);
      count = omega (arith, count, counted);
      capacity = more.capacity ∙ was.capacity;
      launched_capacity = more.launched_room ∙ was.launched_capacity;
      afters_room = more.afters_room ∙ was.afters_room;
      gifts = was.gifts;
      completions = was.completions;
    }
