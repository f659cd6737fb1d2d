use Rattle.std.proofs.Common.{rules, ℕ, ◌≤◌, take, slice_set, sym, ◌∙◌, ap, subst, arith}
use Rattle.tm_batch.specs.declared.limits.TheConstants.{MOST_REQUESTS}
use Rattle.tm_toggle.proofs.Counting.{other, still_no_requests, no_more_answers}
use Rattle.tm_toggle.proofs.content.Content.take_answers.Goals as goal

pub take_out-requires-2 : goal.take_out-requires-2
take_out-requires-2 g c =
    let f = c.requires.requests.full in
    let n = c.args.self.now.counts in
    let is = other n 1 2 0 (λ e. absurd (omega arith)) in
    (search rules, (f.gifts, (subst (λ k. k ≤ MOST_REQUESTS) (sym is) f.given_most, c.new-answers.ensures.gifts)))

pub take_out-requires-3 : goal.take_out-requires-3
take_out-requires-3 g c =
    let f = c.requires.requests.full in
    let n = c.args.self.now.counts in
    let is = other (slice_set n 1 0) 2 3 0 (λ e. absurd (omega arith)) ∙ other n 1 3 0 (λ e. absurd (omega arith)) in
    (search rules, (f.completions, (subst (λ k. k ≤ MOST_REQUESTS) (sym is) f.ended_most, c.new-answers.ensures.completions)))

pub returns-clause-requests : goal.returns-clause-requests
returns-clause-requests g c =
    still_no_requests c.args.self.now c.args.self.now.front c.take_out.new.row c.take_out-2.new.row c.take_out-3.new.row 0 0 0
    c.requires.requests c.take_out.ensures.full c.take_out-2.ensures.full c.take_out-3.ensures.full (omega arith) (omega arith) (omega arith)

pub returns-clause-none : goal.returns-clause-none
returns-clause-none g c =
    no_more_answers c.args.self.now c.take_out.new.row c.take_out-2.new.row c.take_out-3.new.row c.requires.requests.full
    c.take_out.ensures.full c.take_out-2.ensures.full c.take_out-3.ensures.full

pub returns-clause-answers : goal.returns-clause-answers
returns-clause-answers g c =
    let n = c.args.self.now.counts in
    let front = c.new-answers.ensures.front in
    let first = c.take_out.ensures.items in
    let second = c.take_out-2.ensures.items ∙ ap (λ (k : ℕ). take k c.args.self.now.gifts.items) (other n 1 2 0 (λ e. absurd (omega arith))) in
    let third = c.take_out-3.ensures.items ∙ ap (λ (k : ℕ). take k c.args.self.now.completions.items) (other (slice_set n 1 0) 2 3 0 (λ e. absurd (omega arith)) ∙ other n 1 3 0 (λ e. absurd (omega arith))) in
    λ j. record { front = front j; answers = record { items = first j }; gifts = record { items = second j }; completions = record { items = third j } }
