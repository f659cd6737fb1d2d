-- A turn of the tasks keeps what the tests say of them and their runtime.
use Rattle.std.proofs.Common.{◌≡◌, ℕ, ◌<◌, List, length, sym, ◌∙◌, ap, subst, arith}
use Rattle.std.specs.Prelude.{slice_get, slice_set}
use Rattle.std.specs.declared.option.Option.TheVariants.{Some}
use Rattle.std.proofs.lemmas.Option.{slice_get_within}
use Rattle.tm_seq.specs.Counting.{counter_kind}
use Rattle.tm_seq.specs.declared.counter.Counter.{Counter}
use Rattle.tm_seq.specs.declared.counter.CounterOp.{CounterOp}
use Rattle.tm_seq.specs.declared.counter.CounterReply.{CounterReply}
use Rattle.tm_seq.specs.declared.counter.CounterTask.{CounterTask}
use Rattle.tm_pair.specs.Plain.{plain_theory}
use Rattle.tm_pair.specs.declared.plain.PlainTable.{PlainTable}
use Rattle.tm_trustee.proofs.Elements.{set_here, same_element}
use Rattle.tm_task.specs.Ours.{AreTables, AreOfClient, AreTheirs, HoldsOpen, KeepsTables}
use Rattle.tm_task.specs.Progressing.{HaveTurned, world_of}
use Rattle.tm_task.specs.Stages.{AreTasks}
use Rattle.tm_task.specs.declared.turning.Progress.{Progress}
use Rattle.tm_turns.specs.Whole.{OneClient}
use Rattle.tm_task_tests.specs.Adding.{adder_rules}
use Rattle.tm_task_tests.specs.Playing.{Adders, Counters, IsPlaying}
use Rattle.tm_task_tests.proofs.Standing.{Stands, stands_then}
use Rattle.tm_task_tests.proofs.Whole.{openings, tables_of, stands_first, keeps_build}

abbrev pub One : Type 0
One = OneClient Counter ℕ CounterOp CounterReply CounterTask

abbrev pub Tables : Type 0
Tables = List (PlainTable Counter CounterOp CounterReply CounterTask)

pub some_client : (tasks : Adders) (turns : Counters) → IsPlaying tasks turns → 0 < length turns.clients.items
some_client tasks turns is = let many = is.are.as_many_clients in let one = is.one in omega (arith, many, one)

-- the client may make turns at the runtime's tables
pub may_turn :
    (tasks : Adders) (turns : Counters) (client : One) (before : Tables) → IsPlaying tasks turns → slice_get turns.clients.items 0 ≡ Some client
    → before ≡ turns.tables.items → AreOfClient (plain_theory counter_kind) client.books before
may_turn tasks turns client before is at same =
    let (number, many, is_client) = is.are.clients 0 client at in (
      openings counter_kind is.config is.first,
      subst (λ ts. AreTables (plain_theory counter_kind) (openings counter_kind is.config is.first) client.books ts) (sym same)
          (tables_of counter_kind is.config is.first 0 turns client is.are at),
      is_client,
    )

module _ (progress : Progress) (tasks next : Adders) (turns new : Counters) (client becomes : One) (before after : Tables) (is : IsPlaying tasks turns)
    (at : slice_get turns.clients.items 0 ≡ Some client) (same : before ≡ turns.tables.items)
    (clients : new.clients.items ≡ slice_set turns.clients.items 0 becomes) (tables : length after ≡ length before → new.tables.items ≡ after)
    (trustees : new.trustees ≡ turns.trustees) (counts : new.counts ≡ turns.counts)
    (turned : HaveTurned (plain_theory counter_kind) counter_kind adder_rules progress tasks next client.books becomes.books before after)
    (keeps : KeepsTables (plain_theory counter_kind) client.books becomes.books before after)
    (are_tasks : AreTasks adder_rules next) (theirs : AreTheirs next.trusts.items next.stages.items becomes.books)
    (holds : HoldsOpen becomes.books next.trusts.items) where
  stands : Stands counter_kind 0 is.config is.first turns.trustees.items becomes.books after
  stands =
      let one = is.one in
      let begun : Stands counter_kind 0 is.config is.first turns.trustees.items client.books before =
      subst (λ ts. Stands counter_kind 0 is.config is.first turns.trustees.items client.books ts) (sym same)
      (stands_first counter_kind is.config is.first 0 turns client is.are at) in
      stands_then counter_kind 0 is.config is.first turns.trustees.items adder_rules tasks.trusts.items (omega (arith, one)) turned.deeds
      (world_of tasks client.books before) (world_of next becomes.books after) turned.runs begun

  tables_are : new.tables.items ≡ after
  tables_are = tables (stands.many ∙ sym (ap (λ (ts : Tables). length ts) same ∙ is.are.as_many_tables))

  becomes_is : (now : One) → slice_get new.clients.items 0 ≡ Some now → now ≡ becomes
  becomes_is now e =
      same_element (slice_set turns.clients.items 0 becomes) 0 becomes now (set_here turns.clients.items 0 becomes (slice_get_within turns.clients.items 0 client at))
      (subst (λ xs. slice_get xs 0 ≡ Some now) clients e)

  pub turned_plays : IsPlaying next new
  turned_plays =
      let (number, many, is_client) = is.are.clients 0 client at in
      let own = subst (λ ts. AreTables (plain_theory counter_kind) (openings counter_kind is.config is.first) client.books ts) (sym same)
      (tables_of counter_kind is.config is.first 0 turns client is.are at) in
      let kept = keeps (openings counter_kind is.config is.first) own is_client in
      record {
        config = is.config;
        first = is.first;
        are =
            keeps_build counter_kind is.config is.first turns new client becomes is.are is.one clients trustees counts
            (subst (λ ts. Stands counter_kind 0 is.config is.first turns.trustees.items becomes.books ts) (sym tables_are) stands)
            (subst (λ ts. AreTables (plain_theory counter_kind) (openings counter_kind is.config is.first) becomes.books ts) (sym tables_are) kept.0)
            kept.1;
        one = is.one;
        two = is.two;
        are_tasks = are_tasks;
        theirs = λ now e. subst (λ (x : One). AreTheirs next.trusts.items next.stages.items x.books) (sym (becomes_is now e)) theirs;
        holds = λ now e. subst (λ (x : One). HoldsOpen x.books next.trusts.items) (sym (becomes_is now e)) holds;
      }
