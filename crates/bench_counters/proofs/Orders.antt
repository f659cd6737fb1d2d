-- Replies that come in order.
use Rattle.std.proofs.Common.{◌≡◌, ℕ, zero, suc, ◌+◌, ◌-◌, ◌<◌, ◌≤◌, List, [], ◌∷◌, ◌++◌, length, get_or, take, sym, ◌∙◌, ap, subst, arith}
use Rattle.std.proofs.lemmas.List.{take_more}
use Rattle.tm_seq.specs.declared.counter.Counter.{Counter}
use Rattle.tm_seq.specs.declared.counter.CounterOp.{CounterOp}
use Rattle.tm_seq.specs.declared.counter.CounterReply.{CounterReply}
use Rattle.tm_seq.specs.declared.counter.CounterReply.TheVariants.{Is}
use Rattle.tm_seq.specs.declared.counter.CounterTask.{CounterTask}
use Rattle.tm_batch.specs.declared.message.Answer.{Answer}
use Rattle.tm_batch.specs.declared.message.Answer.TheVariants.{Replied}
use Rattle.bench_counters.specs.Counting.{up_to, sums_of}

abbrev pub Told : Type 0
Told = Answer Counter CounterOp CounterReply CounterTask

-- the first n answers, and what the counter stands at behind them
pub record HaveCome (before n : ℕ) (told : List Told) (last : ℕ) : Type 0 where
  pub start : ℕ
  pub since : before ≤ start
  pub sums : told ≡ sums_of start n
  pub is_last : last ≡ start + up_to n

-- one more
pub one_more : (before n last sum : ℕ) (told : List Told) (answer : Told) → HaveCome before n told last → answer ≡ Replied (Is sum) → last + suc n ≤ sum
    → (1 < suc n → sum ≡ last + suc n) → HaveCome before (suc n) (told ++ answer ∷ []) sum
one_more before zero last sum told answer had is least exact =
    let a = had.since in
    let b = had.is_last in
    let from : sum ≡ (sum - 1) + up_to 1 = omega arith in record {
      start = sum - 1;
      since = omega arith;
      sums = (λ j. had.sums j ++ is j ∷ []) ∙ ap (λ (m : ℕ). Replied (Is m) ∷ []) from;
      is_last = from;
    }
one_more before (suc n) last sum told answer had is least exact =
    let b = had.is_last in
    let e = exact (omega arith) in
    let on : sum ≡ had.start + (up_to (suc n) + suc (suc n)) = omega arith in record {
      start = had.start;
      since = had.since;
      sums = (λ j. had.sums j ++ is j ∷ []) ∙ ap (λ (m : ℕ). sums_of had.start (suc n) ++ Replied (Is m) ∷ []) on;
      is_last = on;
    }

-- the same, of the answer that stands at some index
pub one_more_at : (before at last sum : ℕ) (told : List Told) (d : Told) → at < length told → HaveCome before at (take at told) last
    → (get_or told at d ≡ Replied (Is sum)) × (last + (at + 1) ≤ sum) × (1 < at + 1 → sum ≡ last + (at + 1)) → HaveCome before (at + 1) (take (at + 1) told) sum
one_more_at before at last sum told d lt had is =
    let on : suc at ≡ at + 1 = omega arith in
    let more = one_more before at last sum (take at told) (get_or told at d) had is.0 (subst (λ n. last + n ≤ sum) (sym on) is.1)
    (λ l. is.2 (omega arith) ∙ ap (λ n. last + n) (sym on)) in
    subst (λ n. HaveCome before n (take (at + 1) told) sum) on (subst (λ l. HaveCome before (suc at) l sum) (sym (take_more told at d lt)) more)
