use Rattle.std.proofs.Common.{◌≡◌, length, drop}
use Rattle.tm_state.specs.Launches.{Grows}
use Rattle.tm_state.proofs.BatchMore.{HasRunFront}
use Rattle.tm_state.proofs.state.TrusteeState.run_all.Given as goal

-- so many requests were run and answered, and the others are as they were
abbrev pub invariant-loop-request : goal.invariant-loop-request
invariant-loop-request g l = record {
  gifts : l.answers.gifts.items ≡ l.fn.answers.gifts.items;
  completions : l.answers.completions.items ≡ l.fn.answers.completions.items;
  many : length l.answers.answers.items ≡ l.request-index;
  rest : drop l.request-index l.request-items ≡ drop l.request-index l.fn.batch.requests.items;
  ran : HasRunFront g.S.Entrusted.kind l.fn.place l.fn.batch.requests.items l.request-index l.answers.answers.items l.fn.self l.self;
  launched : Grows l.fn.self.launched l.self.launched;
}
