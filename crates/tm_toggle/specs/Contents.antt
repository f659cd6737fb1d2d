-- What stands in a slot.
use Rattle.std.specs.Prelude.{◌≡◌, ℕ, ◌≤◌, length, take, replicate, slice_index}
use Rattle.tm_seq.specs.Kind.{Kind}
use Rattle.tm_batch.specs.declared.batch.Batch.{Batch}
use Rattle.tm_batch.specs.declared.message.AnswerBatch.{AnswerBatch}
use Rattle.tm_batch.specs.declared.message.Request.TheVariants.{Bye}
use Rattle.tm_batch.specs.declared.message.Answer.TheVariants.{ByeDone}
use Rattle.tm_batch.specs.declared.limits.TheConstants.{MOST_REQUESTS}
use Rattle.tm_toggle.specs.declared.content.Content.{Content}

module _ {V O R T : Type 0} where
  -- how many requests, answers, gifts and completions count
  abbrev pub asked : Content V O R T → ℕ
  asked y = slice_index y.counts 0

  abbrev pub answered : Content V O R T → ℕ
  answered y = slice_index y.counts 1

  abbrev pub given : Content V O R T → ℕ
  given y = slice_index y.counts 2

  abbrev pub ended : Content V O R T → ℕ
  ended y = slice_index y.counts 3

  -- the batch: of the requests, those that count
  abbrev pub batch_in : Content V O R T → Batch V O R T
  batch_in y = record { requests = record { items = take (asked y) y.requests.items }; room = y.room }

  -- the answer batch: of all elements, those that count
  abbrev pub answers_in : Content V O R T → AnswerBatch V O R T
  answers_in y = record {
    front = y.front;
    answers = record { items = take (answered y) y.answers.items };
    gifts = record { items = take (given y) y.gifts.items };
    completions = record { items = take (ended y) y.completions.items };
  }

  -- all arrays are full, and no more counts than is there
  pub record IsFull (y : Content V O R T) : Type 0 where
    pub requests : length y.requests.items ≡ MOST_REQUESTS
    pub answers : length y.answers.items ≡ MOST_REQUESTS
    pub gifts : length y.gifts.items ≡ MOST_REQUESTS
    pub completions : length y.completions.items ≡ MOST_REQUESTS
    pub counts : length y.counts ≡ 16
    pub asked_most : asked y ≤ MOST_REQUESTS
    pub answered_most : answered y ≤ MOST_REQUESTS
    pub given_most : given y ≤ MOST_REQUESTS
    pub ended_most : ended y ≤ MOST_REQUESTS

  pub record HasNoRequests (y : Content V O R T) : Type 0 where
    pub requests : asked y ≡ 0
    pub full : IsFull y

  pub record HasNoAnswers (y : Content V O R T) : Type 0 where
    pub answers : answered y ≡ 0
    pub gifts : given y ≡ 0
    pub completions : ended y ≡ 0
    pub full : IsFull y

  -- nothing stands there
  abbrev pub IsClear : Content V O R T → Type 0
  IsClear y = HasNoRequests y × HasNoAnswers y

  -- a slot at first
  abbrev pub no_content : Kind V O R T → Content V O R T
  no_content kind = record {
    front = 0;
    room = 0;
    requests = record { items = replicate MOST_REQUESTS Bye };
    answers = record { items = replicate MOST_REQUESTS ByeDone };
    gifts = record { items = replicate MOST_REQUESTS (record { id = 0; place = 0 }) };
    completions = record { items = replicate MOST_REQUESTS (record { ticket = 0; reply = kind.no_memory }) };
    counts = replicate 16 0;
  }
