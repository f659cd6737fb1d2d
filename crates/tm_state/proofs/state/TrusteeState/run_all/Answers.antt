use Rattle.std.proofs.Common.{◌≡◌, ◌<◌, length, get_or, refl, ap, arith}
use Rattle.tm_state.proofs.BatchGrows.{grows_none, grows_more}
use Rattle.tm_state.proofs.BatchMore.{same_item, same_rest, none_run, next_runnable, next_run, all_run}
use Rattle.tm_state.proofs.state.TrusteeState.run_all.Goals as goal

pub loop-request-init : goal.loop-request-init
loop-request-init g c = record {
  gifts = refl;
  completions = refl;
  many = ap (λ l. length l) c.requires.empty;
  rest = c.as_mut_slice-request-items.ensures.value;
  ran = none_run g.S.Entrusted.kind c.args.place c.args.batch.requests.items c.args.answers.now.answers.items c.args.self.now;
  launched = grows_none c.args.self.now.launched c.args.self.now.launched refl;
}

pub run-answer-requires : goal.run-answer-requires
run-answer-requires g c =
    let b = c.args.batch.requests.items in
    let i = c.loop-request.request-index in
    let q = c.take.result in
    let had = c.loop-request.invariant in
    let is : get_or b i q ≡ q = same_item c.loop-request.request-items b i c.request-item.result q had.rest c.request-item.is c.take.ensures.value in
    let lt : i < length b = omega (arith, c.loop-request-test.true, ap (λ l. length l) c.as_mut_slice-request-items.ensures.value) in
    next_runnable g.S.Entrusted.kind c.args.place b i c.loop-request.answers.answers.items q c.args.self.now c.loop-request.self had.many lt is had.ran
    c.requires.may

pub loop-request-preserved : goal.loop-request-preserved
loop-request-preserved g c =
    let b = c.args.batch.requests.items in
    let i = c.loop-request.request-index in
    let q = c.take.result in
    let had = c.loop-request.invariant in
    let is : get_or b i q ≡ q = same_item c.loop-request.request-items b i c.request-item.result q had.rest c.request-item.is c.take.ensures.value in
    let lt : i < length b = omega (arith, c.loop-request-test.true, ap (λ l. length l) c.as_mut_slice-request-items.ensures.value) in
    record {
      gifts = had.gifts;
      completions = had.completions;
      many = omega (arith, c.push.ensures.len, had.many);
      rest = same_rest c.loop-request.request-items b i c.take.new.dest had.rest;
      ran =
          next_run g.S.Entrusted.kind c.args.place b i c.loop-request.answers.answers.items q c.args.self.now c.loop-request.self had.many lt is had.ran
          c.run-answer.result c.push.new.self.items c.run-answer.new.self c.push.ensures.items c.run-answer.ensures.run;
      launched = grows_more c.args.self.now.launched c.loop-request.self.launched c.run-answer.new.self.launched had.launched c.run-answer.ensures.launched;
    }

pub returns-clause-ran : goal.returns-clause-ran
returns-clause-ran g c =
    let had = c.loop-request.invariant in
    let all : c.loop-request.request-index ≡ length c.args.batch.requests.items =
    omega (arith, c.loop-request-test.false, ap (λ l. length l) c.as_mut_slice-request-items.ensures.value) in
    all_run g.S.Entrusted.kind c.args.place c.args.batch.requests.items c.loop-request.request-index c.loop-request.answers.answers.items c.args.self.now
    c.loop-request.self all had.many had.ran
