-- What is kept where the first client of a runtime of counters is called.
use Rattle.std.proofs.Common.{◌≡◌, ℕ, ◌<◌, length, arith}
use Rattle.std.specs.Prelude.{slice_get, slice_index_or, vec_len, List}
use Rattle.std.specs.declared.option.Option.TheVariants.{Some}
use Rattle.tm_seq.specs.Counting.{counter_kind}
use Rattle.tm_seq.specs.declared.counter.Counter.{Counter}
use Rattle.tm_batch.specs.declared.config.Config.{Config}
use Rattle.tm_batch.specs.declared.config.First.{First}
use Rattle.tm_client.specs.declared.trust.Trust.{Trust}
use Rattle.tm_trustee.proofs.Elements.{read_at}
use Rattle.tm_turns.specs.Making.{HasBuilt}
use Rattle.tm_turns.specs.Whole.{Keeps}
use Rattle.tm_turns_tests.specs.Adding.{Counters}
use Rattle.tm_turns_tests.specs.Launching.{HasClient}
use Rattle.tm_turns_tests.proofs.Calling.{clients_stay, kept}
use Rattle.tm_turns_tests.proofs.Ones.{Only}

pub client_stays : (old new : Counters) → HasClient old → Keeps counter_kind old new → HasClient new
client_stays old new has keeps = record {
  are = kept counter_kind old new has.are keeps;
  some = clients_stay counter_kind old old new has.are (λ config first are. are) keeps has.some;
}

pub some_counts : (turns : Counters) → HasClient turns → 0 < vec_len turns.clients
some_counts turns has = let lt = has.some in omega (arith, lt, turns.clients.ok.0)

pub first_client : (turns : Counters) (client : Only) → HasClient turns → client ≡ slice_index_or turns.clients.items 0 client → slice_get turns.clients.items 0 ≡ Some client
first_client turns client has e = read_at turns.clients.items 0 client has.some e

pub built_some :
    (config : Config) (first : List (First Counter)) (turns : Counters) (trusts : List (List Trust)) → HasBuilt counter_kind config first turns trusts
    → config.clients ≡ 1 → HasClient turns
built_some config first turns trusts built one = record {
  are = (config, first, built.are);
  some = let many = built.are.as_many_clients in omega (arith, many, one);
}
