-- No task behind one that still is to ask was asked of its trustee.
use Rattle.std.proofs.Common.{◌≡◌, ℕ, ◌+◌, ◌<◌, ◌≤◌, List, [], ◌++◌, subst, arith}
use Rattle.std.specs.List.{All}
use Rattle.std.proofs.lemmas.List.Elements.{All-append, All-nil, All-weaker}
use Rattle.tm_batch.specs.declared.limits.TheConstants.{WINDOW}
use Rattle.tm_client.specs.declared.books.Books.{Books}
use Rattle.tm_client.specs.declared.trust.Trust.{Trust}
use Rattle.tm_task.specs.declared.deed.Deed.{Deed}
use Rattle.tm_task.specs.declared.deed.Deed.TheVariants.{Added, Started, Asked, Resumed, Turned}
use Rattle.tm_task.specs.declared.stage.Stage.{Stage}
use Rattle.tm_task.specs.declared.stage.Stage.TheVariants.{Fresh, Asks, Waits, Ended}
use Rattle.tm_task.specs.Going.{AsksWithRoom}
use Rattle.tm_task.specs.Progressing.{AsksBefore, IsSettled, IsUnpassed, counting_at, rank}
use Rattle.tm_task.proofs.Places.{read_some}

module _ {V T U O R K : Type 0} (trusts : List Trust) where
  -- by where a deed stands in a turn: it is of a task before n, or asks nothing
  before_rank : (t n : ℕ) (d : Deed V T U O R K) → rank 0 d ≤ n → AsksBefore trusts t n d
  before_rank t n (Added task) h = tt
  before_rank t n (Started k move) h = tt
  before_rank t n (Asked k i op) h = λ trust of same. omega (arith, h)
  before_rank t n (Resumed k got move) h = tt
  before_rank t n (Turned t2 turn) h = tt

  pub all_before : (t n : ℕ) (deeds : List (Deed V T U O R K)) → All (λ d. rank 0 d ≤ n) deeds → All (AsksBefore trusts t n) deeds
  all_before t n deeds all = All-weaker (λ d. rank 0 d ≤ n) (AsksBefore trusts t n) (before_rank t n) deeds all

  last_rank : (t n : ℕ) (d : Deed V T U O R K) → rank 0 d ≡ 1 → rank 1 d ≡ 2 → AsksBefore trusts t n d
  last_rank t n (Added task) zero one = tt
  last_rank t n (Started k move) zero one = tt
  last_rank t n (Asked k i op) zero one = absurd (omega (arith, zero, one))
  last_rank t n (Resumed k got move) zero one = tt
  last_rank t n (Turned t2 turn) zero one = tt

  -- deeds that stand behind all tasks, however many these are, ask nothing
  pub all_last : (t n : ℕ) (deeds : List (Deed V T U O R K)) → ((count : ℕ) → All (λ d. rank count d ≡ count + 1) deeds) → All (AsksBefore trusts t n) deeds
  all_last t n deeds all = λ i d less. last_rank t n _ (all 0 i d less) (all 1 i d less)

  pub unpassed_none : (n : ℕ) (stage : Stage V T U O R K) → IsUnpassed trusts [] n stage
  unpassed_none n (Fresh task) = tt
  unpassed_none n (Asks i op task) = λ trust of. All-nil (AsksBefore trusts trust.trustee n)
  unpassed_none n (Waits i task) = tt
  unpassed_none n (Ended out) = tt

  -- behind deeds that ask for tasks before it, and before such deeds
  pub unpassed_then : (n : ℕ) (stage : Stage V T U O R K) (xs ys : List (Deed V T U O R K)) → ((t : ℕ) → All (AsksBefore trusts t n) xs)
      → IsUnpassed trusts ys n stage → IsUnpassed trusts (xs ++ ys) n stage
  unpassed_then n (Fresh task) xs ys all h = tt
  unpassed_then n (Asks i op task) xs ys all h = λ trust of. All-append (AsksBefore trusts trust.trustee n) xs ys (all trust.trustee) (h trust of)
  unpassed_then n (Waits i task) xs ys all h = tt
  unpassed_then n (Ended out) xs ys all h = tt

  pub unpassed_still : (n : ℕ) (stage : Stage V T U O R K) (xs ys : List (Deed V T U O R K)) → IsUnpassed trusts xs n stage
      → ((t : ℕ) → All (AsksBefore trusts t n) ys) → IsUnpassed trusts (xs ++ ys) n stage
  unpassed_still n (Fresh task) xs ys h all = tt
  unpassed_still n (Asks i op task) xs ys h all = λ trust of. All-append (AsksBefore trusts trust.trustee n) xs ys (h trust of) (all trust.trustee)
  unpassed_still n (Waits i task) xs ys h all = tt
  unpassed_still n (Ended out) xs ys h all = tt

  module _ {D : Type 0} (books : Books V ℕ D O R K) where
    -- what asks where a window has room asks nothing where it is full
    not_there : (t n : ℕ) → WINDOW ≤ counting_at books t → (d : Deed V T U O R K) → AsksWithRoom trusts books d → AsksBefore trusts t n d
    not_there t n full (Added task) room = tt
    not_there t n full (Started k move) room = tt
    not_there t n full (Asked k i op) room = λ trust of same.
        let less : counting_at books t < WINDOW = subst (λ m. counting_at books m < WINDOW) same (room trust of) in absurd (omega (arith, less, full))
    not_there t n full (Resumed k got move) room = tt
    not_there t n full (Turned t2 turn) room = tt

    -- before deeds that ask only where there is room, of a task that is settled
    pub unpassed_settled : (n : ℕ) (stage : Stage V T U O R K) (xs ys : List (Deed V T U O R K)) → IsSettled books trusts stage
        → IsUnpassed trusts xs n stage → All (AsksWithRoom trusts books) ys → IsUnpassed trusts (xs ++ ys) n stage
    unpassed_settled n (Fresh task) xs ys settled h room = tt
    unpassed_settled n (Asks i op task) xs ys (at, there, full) h room = λ trust of.
        let same : at ≡ trust = read_some trusts i at trust there of in
        let here : WINDOW ≤ counting_at books trust.trustee = subst (λ x. WINDOW ≤ counting_at books x.trustee) same full in
        All-append (AsksBefore trusts trust.trustee n) xs ys (h trust of)
        (All-weaker (AsksWithRoom trusts books) (AsksBefore trusts trust.trustee n) (not_there trust.trustee n here) ys room)
    unpassed_settled n (Waits i task) xs ys settled h room = tt
    unpassed_settled n (Ended out) xs ys settled h room = tt
