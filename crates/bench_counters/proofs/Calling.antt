-- A client's side through its calls.
use Rattle.std.proofs.Common.{◌≡◌, ℕ, List, [], ◌∷◌, ◌++◌, Result, Ok, Err, sym, ◌∙◌, ap, subst}
use Rattle.std.specs.Prelude.{OnOk, OnErr}
use Rattle.std.specs.List.{AllByRecursion}
use Rattle.std.specs.declared.option.Option.TheVariants.{None}
use Rattle.tm_seq.specs.declared.counter.Counter.{Counter}
use Rattle.tm_seq.specs.declared.counter.CounterOp.{CounterOp}
use Rattle.tm_seq.specs.declared.counter.CounterReply.{CounterReply}
use Rattle.tm_seq.specs.declared.counter.CounterTask.{CounterTask}
use Rattle.tm_batch.specs.declared.batch.Batch.{Batch}
use Rattle.tm_batch.specs.declared.message.Request.{Request}
use Rattle.tm_core.proofs.CallerLemmas.{all-append}
use Rattle.tm_pair.specs.Views.{ClientView}
use Rattle.tm_pair.specs.Calls.{Publishes, Collects}
use Rattle.tm_pair.specs.Theory.{Theory, KeepsSides}
use Rattle.tm_pair.specs.declared.table.Collected.{Collected}
use Rattle.tm_pair.specs.declared.table.Collected.TheVariants.{Answers, Pending, Idle}
use Rattle.bench_counters.specs.Counting.{IsOfCounter, HasAsked, UnlessPending}

module _ {Table Client Owner : Type 0} (theory : Theory Counter CounterOp CounterReply CounterTask Table Client Owner) where
  -- it asked nothing else after a batch of operations on the counter
  pub publishes_asked :
      (was now : Table) (before after : Client) (b : List (Request Counter CounterOp CounterReply CounterTask)) (room : ℕ) → HasAsked theory was before
      → AllByRecursion IsOfCounter b → Publishes b room (theory.client_view before) (theory.client_view after) → KeepsSides theory was now before after
      → HasAsked theory now after
  publishes_asked was now before after b room asked more publishes keeps = record {
    mine = keeps.mine;
    client = rw (publishes.place, keeps.opening) asked.client;
    holds = rw (publishes.place, keeps.opening) asked.holds;
    sent = rw publishes.sent (all-append IsOfCounter (theory.client_view before).sent b asked.sent more);
  }

  -- nor by a look
  pub collects_asked :
      (was now : Table) (before after : Client) (found : Collected Counter CounterOp CounterReply CounterTask) → HasAsked theory was before
      → Collects (theory.client_view before) (theory.client_view after) found → KeepsSides theory was now before after → HasAsked theory now after
  collects_asked was now before after (Answers a) asked gets keeps = record {
    mine = keeps.mine;
    client = rw (gets.place, keeps.opening) asked.client;
    holds = rw (gets.place, keeps.opening) asked.holds;
    sent = rw gets.sent asked.sent;
  }
  collects_asked was now before after Pending asked gets keeps = record {
    mine = keeps.mine;
    client = rw (gets.place, keeps.opening) asked.client;
    holds = rw (gets.place, keeps.opening) asked.holds;
    sent = rw gets.sent asked.sent;
  }
  collects_asked was now before after Idle asked gets keeps = record {
    mine = keeps.mine;
    client = rw (gets.kept, keeps.opening) asked.client;
    holds = rw (gets.kept, keeps.opening) asked.holds;
    sent = rw gets.kept asked.sent;
  }

-- nothing is out behind a look that found answers
pub free_behind :
    {V O R T : Type 0} (old new : ClientView V O R T) (found : Collected V O R T) → Collects old new found → UnlessPending found (new.out ≡ None)
free_behind old new (Answers a) gets = gets.out
free_behind old new Pending gets = tt
free_behind old new Idle gets = ap (λ v. v.out) gets.kept ∙ gets.out

-- a batch behind a push
pub pushed :
    {V O R T : Type 0} (old new : Batch V O R T) (q : Request V O R T) (r : Result (Unit {0}) (Request V O R T)) → IsOfCounter q
    → AllByRecursion IsOfCounter old.requests.items → OnOk r (new.requests.items ≡ old.requests.items ++ q ∷ []) → OnErr r (new ≡ old)
    → AllByRecursion IsOfCounter new.requests.items
pushed old new q (Ok x) is all done same = rw done (all-append IsOfCounter old.requests.items (q ∷ []) all (is, tt))
pushed old new q (Err e) is all done same = subst (λ b. AllByRecursion IsOfCounter b.requests.items) (sym same) all
