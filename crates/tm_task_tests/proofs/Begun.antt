-- Tasks of the only client of a runtime, which was built.
use Rattle.std.proofs.Common.{◌≡◌, ℕ, List, sym, subst}
use Rattle.std.specs.Prelude.{slice_get}
use Rattle.std.specs.declared.option.Option.TheVariants.{Some}
use Rattle.tm_seq.specs.Counting.{counter_kind}
use Rattle.tm_seq.specs.declared.counter.Counter.{Counter}
use Rattle.tm_batch.specs.declared.config.Config.{Config}
use Rattle.tm_batch.specs.declared.config.First.{First}
use Rattle.tm_model.specs.Opening.{opening_of}
use Rattle.tm_pair.specs.Plain.{plain_theory}
use Rattle.tm_client.specs.declared.trust.Trust.{Trust}
use Rattle.tm_task.specs.Ours.{HoldsOpen}
use Rattle.tm_task.specs.Stages.{AreTasks, HaveBegun}
use Rattle.tm_turns.specs.Making.{HasBuilt}
use Rattle.tm_task_tests.specs.Adding.{adder_rules}
use Rattle.tm_task_tests.specs.Playing.{Adders, Counters, IsPlaying}
use Rattle.tm_task_tests.proofs.Beginning.{theirs_first, holds_first}

module _ (config : Config) (first : List (First Counter)) (turns : Counters) (trusts : List (List Trust))
    (built : HasBuilt counter_kind config first turns trusts) where
  pub begun_plays :
      (own : List Trust) (room : ℕ) (tasks : Adders) → config.clients ≡ 1 → config.trustees ≡ 2 → slice_get trusts 0 ≡ Some own
      → HaveBegun own room tasks → AreTasks adder_rules tasks → IsPlaying tasks turns
  begun_plays own room tasks one two at begun are_tasks = record {
    config = config;
    first = first;
    are = built.are;
    one = one;
    two = two;
    are_tasks = are_tasks;
    theirs = λ client e.
        let (sides, new, is) = built.clients 0 client own e at in
        theirs_first 0 config sides is.held client.books is.begun tasks.trusts.items tasks.stages.items begun.none;
    holds = λ client e.
        let (sides, new, is) = built.clients 0 client own e at in
        subst (λ l. HoldsOpen client.books l) (sym begun.trusts_are)
        (holds_first 0 config sides is.held client.books is.begun (plain_theory counter_kind).client_view (λ t. opening_of t config first) is.is_client is.held own
        is.trusts_are);
  }
