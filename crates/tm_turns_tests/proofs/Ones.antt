-- The only client of a runtime of counters, and what is kept where it is called.
use Rattle.std.proofs.Common.{◌≡◌, ℕ, ◌<◌, length, arith}
use Rattle.std.specs.Prelude.{slice_get, slice_index_or, vec_len, List}
use Rattle.std.specs.declared.option.Option.TheVariants.{Some}
use Rattle.tm_seq.specs.Counting.{counter_kind}
use Rattle.tm_seq.specs.declared.counter.Counter.{Counter}
use Rattle.tm_seq.specs.declared.counter.CounterOp.{CounterOp}
use Rattle.tm_seq.specs.declared.counter.CounterReply.{CounterReply}
use Rattle.tm_seq.specs.declared.counter.CounterTask.{CounterTask}
use Rattle.tm_batch.specs.declared.config.Config.{Config}
use Rattle.tm_batch.specs.declared.config.First.{First}
use Rattle.tm_pair.specs.declared.plain.PlainTable.{PlainTable}
use Rattle.tm_client.specs.declared.trust.Trust.{Trust}
use Rattle.tm_trustee.proofs.Elements.{read_at}
use Rattle.tm_turns.specs.Making.{HasBuilt}
use Rattle.tm_turns.specs.Whole.{OneClient, AreTurns, Keeps}
use Rattle.tm_turns_tests.specs.Adding.{Counters, IsOfOne}

abbrev pub Only : Type 0
Only = OneClient Counter ℕ CounterOp CounterReply CounterTask

abbrev pub OneTable : Type 0
OneTable = PlainTable Counter CounterOp CounterReply CounterTask

pub are_turns : (turns : Counters) → IsOfOne turns → AreTurns counter_kind turns
are_turns turns is = (is.config, is.first, is.are)

pub stays : (old new : Counters) → IsOfOne old → Keeps counter_kind old new → IsOfOne new
stays old new is keeps = record { config = is.config; first = is.first; are = keeps is.config is.first is.are; one = is.one; two = is.two }

pub some_client : (turns : Counters) → IsOfOne turns → 0 < length turns.clients.items
some_client turns is = let many = is.are.as_many_clients in let one = is.one in omega (arith, many, one)

pub second_table : (turns : Counters) → IsOfOne turns → 1 < length turns.tables.items
second_table turns is = let many = is.are.as_many_tables in let two = is.two in omega (arith, many, two)

pub second_trustee : (turns : Counters) → IsOfOne turns → 1 < length turns.trustees.items
second_trustee turns is = let many = is.are.as_many_trustees in let two = is.two in omega (arith, many, two)

pub client_counts : (turns : Counters) → IsOfOne turns → 0 < vec_len turns.clients
client_counts turns is = let lt = some_client turns is in omega (arith, lt, turns.clients.ok.0)

pub table_counts : (turns : Counters) → IsOfOne turns → 1 < vec_len turns.tables
table_counts turns is = let lt = second_table turns is in omega (arith, lt, turns.tables.ok.0)

pub client_of : (turns : Counters) (client : Only) → IsOfOne turns → client ≡ slice_index_or turns.clients.items 0 client → slice_get turns.clients.items 0 ≡ Some client
client_of turns client is e = read_at turns.clients.items 0 client (some_client turns is) e

pub table_of : (turns : Counters) (table : OneTable) → IsOfOne turns → table ≡ slice_index_or turns.tables.items 1 table → slice_get turns.tables.items 1 ≡ Some table
table_of turns table is e = read_at turns.tables.items 1 table (second_table turns is) e

pub built_one :
    (config : Config) (first : List (First Counter)) (turns : Counters) (trusts : List (List Trust)) → HasBuilt counter_kind config first turns trusts
    → config.clients ≡ 1 → config.trustees ≡ 2 → IsOfOne turns
built_one config first turns trusts built one two = record { config = config; first = first; are = built.are; one = one; two = two }
