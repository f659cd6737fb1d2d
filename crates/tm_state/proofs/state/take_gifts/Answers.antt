use Rattle.std.proofs.Common.{◌≡◌, ◌∙◌, ap, sym, arith}
use Rattle.std.specs.Prelude.{take}
use Rattle.tm_objects.specs.Stock.{gifts_of, gifts_taken}
use Rattle.tm_state.proofs.BatchLeaves.{one_more, no_gift, one_gift}
use Rattle.tm_state.proofs.state.take_gifts.Goals as goal
use Rattle.tm_state.proofs.state.take_gifts.Goals.{in-Some, in_default}

pub loop-preserved : goal.loop-preserved
loop-preserved g c =
    let s = c.args.objects.now in
    let had = c.loop.invariant in
    let taken = one_more s c.args.place c.loop.counter c.loop.objects c.take_gift.new.self had.taken c.take_gift.ensures.taken in
    elim c.match-take_gift.branch [
      | in-Some w ↦
          let some = one_gift s c.args.place c.loop.counter c.loop.objects c.loop.answers.gifts.items w.push.new.self.items w.in-Some.gift c.requires.place
          had.taken had.gifts (sym w.in-Some.is ∙ c.take_gift.ensures.gift) w.push.ensures.items in
          rw w.answers-is (record { answers = had.answers; completions = had.completions; gifts = some; taken = taken })
      | in_default w ↦
          let none = no_gift s c.args.place c.loop.counter c.loop.objects c.loop.answers.gifts.items c.requires.place had.taken had.gifts
          (sym w.in_default.is ∙ c.take_gift.ensures.gift) in
          rw w.answers-is (record { answers = had.answers; completions = had.completions; gifts = none; taken = taken })
    ]

pub returns-clause-gifts : goal.returns-clause-gifts
returns-clause-gifts g c =
    let all : c.loop.counter ≡ c.args.room = omega arith in
    c.loop.invariant.gifts ∙ ap (λ n. take n (gifts_of c.args.objects.now.gifts c.args.place)) all

pub returns-clause-taken : goal.returns-clause-taken
returns-clause-taken g c =
    let all : c.loop.counter ≡ c.args.room = omega arith in
    c.loop.invariant.taken ∙ ap (λ n. gifts_taken c.args.place n c.args.objects.now) all
