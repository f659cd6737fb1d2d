use Rattle.std.proofs.Common.{◌≡◌, ◌∙◌, [], min, refl, ap, sym, arith}
use Rattle.std.specs.Prelude.{take, drop, slice_index_or, slice_set}
use Rattle.std.proofs.lemmas.List.{set-get_or}
use Rattle.tm_batch.specs.declared.limits.TheConstants.{MOST_COMPLETIONS}
use Rattle.tm_state.proofs.BatchLeaves.{ready_more, no_ready, one_ready, take_least, drop_least}
use Rattle.tm_state.proofs.state.take_ready.Goals as goal
use Rattle.tm_state.proofs.state.take_ready.Goals.{in-Some, in_default}

pub loop-init : goal.loop-init
loop-init g c = record {
  answers = refl;
  gifts = refl;
  completions = c.requires.empty;
  taken = sym (set-get_or c.args.ready.now c.args.place []);
}

pub loop-preserved : goal.loop-preserved
loop-preserved g c =
    let s = c.args.ready.now in
    let had = c.loop.invariant in
    let taken = ready_more s c.args.place c.loop.counter c.loop.ready c.requires.place had.taken c.take.new.self c.take.ensures.taken in
    elim c.match-take.branch [
      | in-Some w ↦
          let some = one_ready s c.args.place c.loop.counter c.loop.ready c.requires.place had.taken c.loop.answers.completions.items w.push.new.self.items w.in-Some.completion
          had.completions (sym w.in-Some.is ∙ c.take.ensures.completion) w.push.ensures.items in
          rw w.answers-is (record { answers = had.answers; gifts = had.gifts; completions = some; taken = taken })
      | in_default w ↦
          let none = no_ready s c.args.place c.loop.counter c.loop.ready c.requires.place had.taken c.loop.answers.completions.items had.completions
          (sym w.in_default.is ∙ c.take.ensures.completion) in
          rw w.answers-is (record { answers = had.answers; gifts = had.gifts; completions = none; taken = taken })
    ]

pub returns-clause-completions : goal.returns-clause-completions
returns-clause-completions g c =
    let waits = slice_index_or c.args.ready.now c.args.place [] in
    let at : c.loop.counter ≡ c.min-end.result = omega (arith, c.loop-test.false, c.loop.auto.counter-end) in
    let end = at ∙ c.min-end.ensures ∙ ap (λ n. min n MOST_COMPLETIONS) c.count.ensures in
    c.loop.invariant.completions ∙ ap (λ n. take n waits) end ∙ take_least MOST_COMPLETIONS waits

pub returns-clause-taken : goal.returns-clause-taken
returns-clause-taken g c =
    let waits = slice_index_or c.args.ready.now c.args.place [] in
    let at : c.loop.counter ≡ c.min-end.result = omega (arith, c.loop-test.false, c.loop.auto.counter-end) in
    let end = at ∙ c.min-end.ensures ∙ ap (λ n. min n MOST_COMPLETIONS) c.count.ensures in
    c.loop.invariant.taken ∙ ap (λ n. slice_set c.args.ready.now c.args.place (drop n waits)) end
    ∙ ap (λ l. slice_set c.args.ready.now c.args.place l) (drop_least MOST_COMPLETIONS waits)
