-- Counts of what stands in a slot, once some of them change.
use Rattle.std.proofs.Common.{◌≡◌, ◌≢◌, ℕ, ◌<◌, ◌≤◌, List, length, take, slice_index, slice_set, sym, ◌∙◌, ap, subst, arith}
use Rattle.std.proofs.lemmas.List.{get_or-set_same, get_or-set_other, length-set}
use Rattle.arrayvec.specs.ArrayVec.{ArrayVec}
use Rattle.tm_batch.specs.declared.batch.Batch.{Batch}
use Rattle.tm_batch.specs.declared.message.Name.{Name}
use Rattle.tm_batch.specs.declared.message.Request.{Request}
use Rattle.tm_batch.specs.declared.message.Answer.{Answer}
use Rattle.tm_batch.specs.declared.message.Completion.{Completion}
use Rattle.tm_batch.specs.declared.message.AnswerBatch.{AnswerBatch}
use Rattle.tm_batch.specs.declared.limits.TheConstants.{MOST_REQUESTS}
use Rattle.tm_toggle.specs.Contents.{batch_in, answers_in, IsFull, HasNoRequests, HasNoAnswers}
use Rattle.tm_toggle.specs.declared.content.Content.{Content}

pub at : (l : List ℕ) (i n : ℕ) → length l ≡ 16 → i < 16 → slice_index (slice_set l i n) i ≡ n
at l i n e lt = get_or-set_same l i n 0 (omega arith)

pub other : (l : List ℕ) (i j n : ℕ) → j ≢ i → slice_index (slice_set l i n) j ≡ slice_index l j
other l i j n ne = get_or-set_other l i j n 0 ne

-- three counts of answers
abbrev three : List ℕ → ℕ → ℕ → ℕ → List ℕ
three l a b d = slice_set (slice_set (slice_set l 1 a) 2 b) 3 d

three_long : (l : List ℕ) (a b d : ℕ) → length l ≡ 16 → length (three l a b d) ≡ 16
three_long l a b d e = length-set (slice_set (slice_set l 1 a) 2 b) 3 d ∙ length-set (slice_set l 1 a) 2 b ∙ length-set l 1 a ∙ e

three_asked : (l : List ℕ) (a b d : ℕ) → slice_index (three l a b d) 0 ≡ slice_index l 0
three_asked l a b d =
    other (slice_set (slice_set l 1 a) 2 b) 3 0 d (λ e. absurd (omega arith))
    ∙ other (slice_set l 1 a) 2 0 b (λ e. absurd (omega arith))
    ∙ other l 1 0 a (λ e. absurd (omega arith))

three_answered : (l : List ℕ) (a b d : ℕ) → length l ≡ 16 → slice_index (three l a b d) 1 ≡ a
three_answered l a b d e =
    other (slice_set (slice_set l 1 a) 2 b) 3 1 d (λ e. absurd (omega arith))
    ∙ other (slice_set l 1 a) 2 1 b (λ e. absurd (omega arith))
    ∙ at l 1 a e (omega arith)

three_given : (l : List ℕ) (a b d : ℕ) → length l ≡ 16 → slice_index (three l a b d) 2 ≡ b
three_given l a b d e =
    other (slice_set (slice_set l 1 a) 2 b) 3 2 d (λ e. absurd (omega arith)) ∙ at (slice_set l 1 a) 2 b (length-set l 1 a ∙ e) (omega arith)

three_ended : (l : List ℕ) (a b d : ℕ) → length l ≡ 16 → slice_index (three l a b d) 3 ≡ d
three_ended l a b d e = at (slice_set (slice_set l 1 a) 2 b) 3 d (length-set (slice_set l 1 a) 2 b ∙ length-set l 1 a ∙ e) (omega arith)

module _ {V O R T : Type 0} where
  -- other requests, so many of which count
  abbrev with_requests : Content V O R T → ArrayVec (Request V O R T) → ℕ → ℕ → Content V O R T
  with_requests y row room n = record y { room = room; requests = row; counts = slice_set y.counts 0 n }

  -- other answers, gifts and completions, so many of which count
  abbrev with_answers : Content V O R T → ℕ → ArrayVec (Answer V O R T) → ArrayVec Name → ArrayVec (Completion V O R T) → ℕ → ℕ → ℕ → Content V O R T
  with_answers y front answers gifts completions a b d = record y { front = front; answers = answers; gifts = gifts; completions = completions; counts = three y.counts a b d }

  full_requests :
      (y : Content V O R T) (row : ArrayVec (Request V O R T)) (room n : ℕ) → IsFull y → length row.items ≡ MOST_REQUESTS → n ≤ MOST_REQUESTS
      → IsFull (with_requests y row room n)
  full_requests y row room n f l most =
      let is = at y.counts 0 n f.counts (omega arith) in
      let one = other y.counts 0 1 n (λ e. absurd (omega arith)) in
      let two = other y.counts 0 2 n (λ e. absurd (omega arith)) in
      let end = other y.counts 0 3 n (λ e. absurd (omega arith)) in
      record {
        requests = l;
        answers = f.answers;
        gifts = f.gifts;
        completions = f.completions;
        counts = length-set y.counts 0 n ∙ f.counts;
        asked_most = subst (λ k. k ≤ MOST_REQUESTS) (sym is) most;
        answered_most = subst (λ k. k ≤ MOST_REQUESTS) (sym one) f.answered_most;
        given_most = subst (λ k. k ≤ MOST_REQUESTS) (sym two) f.given_most;
        ended_most = subst (λ k. k ≤ MOST_REQUESTS) (sym end) f.ended_most;
      }

  pub still_no_answers :
      (y : Content V O R T) (row : ArrayVec (Request V O R T)) (room n : ℕ) → HasNoAnswers y → length row.items ≡ MOST_REQUESTS → n ≤ MOST_REQUESTS
      → HasNoAnswers (with_requests y row room n)
  still_no_answers y row room n none l most = record {
    answers = other y.counts 0 1 n (λ e. absurd (omega arith)) ∙ none.answers;
    gifts = other y.counts 0 2 n (λ e. absurd (omega arith)) ∙ none.gifts;
    completions = other y.counts 0 3 n (λ e. absurd (omega arith)) ∙ none.completions;
    full = full_requests y row room n none.full l most;
  }

  pub no_more_requests :
      (y : Content V O R T) (row : ArrayVec (Request V O R T)) → IsFull y → length row.items ≡ MOST_REQUESTS → HasNoRequests (with_requests y row y.room 0)
  no_more_requests y row f l = record { requests = at y.counts 0 0 f.counts (omega arith); full = full_requests y row y.room 0 f l (omega arith) }

  pub batch_is :
      (y : Content V O R T) (row : ArrayVec (Request V O R T)) (b : Batch V O R T) (n : ℕ) → IsFull y → n ≡ length b.requests.items
      → take (length b.requests.items) row.items ≡ b.requests.items → batch_in (with_requests y row b.room n) ≡ b
  batch_is y row b n f e front =
      let all = ap (λ k. take k row.items) (at y.counts 0 n f.counts (omega arith) ∙ e) ∙ front in
      λ j. record { requests = record { items = all j }; room = b.room }

  full_answers :
      (y : Content V O R T) (front : ℕ) (answers : ArrayVec (Answer V O R T)) (gifts : ArrayVec Name) (completions : ArrayVec (Completion V O R T)) (a b d : ℕ)
      → IsFull y → length answers.items ≡ MOST_REQUESTS → length gifts.items ≡ MOST_REQUESTS → length completions.items ≡ MOST_REQUESTS
      → a ≤ MOST_REQUESTS → b ≤ MOST_REQUESTS → d ≤ MOST_REQUESTS → IsFull (with_answers y front answers gifts completions a b d)
  full_answers y front answers gifts completions a b d f la lb ld ma mb md = record {
    requests = f.requests;
    answers = la;
    gifts = lb;
    completions = ld;
    counts = three_long y.counts a b d f.counts;
    asked_most = subst (λ k. k ≤ MOST_REQUESTS) (sym (three_asked y.counts a b d)) f.asked_most;
    answered_most = subst (λ k. k ≤ MOST_REQUESTS) (sym (three_answered y.counts a b d f.counts)) ma;
    given_most = subst (λ k. k ≤ MOST_REQUESTS) (sym (three_given y.counts a b d f.counts)) mb;
    ended_most = subst (λ k. k ≤ MOST_REQUESTS) (sym (three_ended y.counts a b d f.counts)) md;
  }

  pub still_no_requests :
      (y : Content V O R T) (front : ℕ) (answers : ArrayVec (Answer V O R T)) (gifts : ArrayVec Name) (completions : ArrayVec (Completion V O R T)) (a b d : ℕ)
      → HasNoRequests y → length answers.items ≡ MOST_REQUESTS → length gifts.items ≡ MOST_REQUESTS → length completions.items ≡ MOST_REQUESTS
      → a ≤ MOST_REQUESTS → b ≤ MOST_REQUESTS → d ≤ MOST_REQUESTS → HasNoRequests (with_answers y front answers gifts completions a b d)
  still_no_requests y front answers gifts completions a b d none la lb ld ma mb md = record {
    requests = three_asked y.counts a b d ∙ none.requests;
    full = full_answers y front answers gifts completions a b d none.full la lb ld ma mb md;
  }

  pub no_more_answers :
      (y : Content V O R T) (answers : ArrayVec (Answer V O R T)) (gifts : ArrayVec Name) (completions : ArrayVec (Completion V O R T))
      → IsFull y → length answers.items ≡ MOST_REQUESTS → length gifts.items ≡ MOST_REQUESTS → length completions.items ≡ MOST_REQUESTS
      → HasNoAnswers (with_answers y y.front answers gifts completions 0 0 0)
  no_more_answers y answers gifts completions f la lb ld = record {
    answers = three_answered y.counts 0 0 0 f.counts;
    gifts = three_given y.counts 0 0 0 f.counts;
    completions = three_ended y.counts 0 0 0 f.counts;
    full = full_answers y y.front answers gifts completions 0 0 0 f la lb ld (omega arith) (omega arith) (omega arith);
  }

  pub answers_are :
      (y : Content V O R T) (front : ℕ) (answers : ArrayVec (Answer V O R T)) (gifts : ArrayVec Name) (completions : ArrayVec (Completion V O R T)) (a b d : ℕ)
      (x : AnswerBatch V O R T) → IsFull y → front ≡ x.front → a ≡ length x.answers.items → b ≡ length x.gifts.items → d ≡ length x.completions.items
      → take (length x.answers.items) answers.items ≡ x.answers.items → take (length x.gifts.items) gifts.items ≡ x.gifts.items
      → take (length x.completions.items) completions.items ≡ x.completions.items → answers_in (with_answers y front answers gifts completions a b d) ≡ x
  answers_are y front answers gifts completions a b d x f ef ea eb ed ta tb td =
      let first = ap (λ k. take k answers.items) (three_answered y.counts a b d f.counts ∙ ea) ∙ ta in
      let second = ap (λ k. take k gifts.items) (three_given y.counts a b d f.counts ∙ eb) ∙ tb in
      let third = ap (λ k. take k completions.items) (three_ended y.counts a b d f.counts ∙ ed) ∙ td in
      λ j. record { front = ef j; answers = record { items = first j }; gifts = record { items = second j }; completions = record { items = third j } }
