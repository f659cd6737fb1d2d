-- What the words behind `load` say, and what `clap`'s matches give of them.
use Rattle.std.proofs.Common.{◌≡◌, ◌<◌, ℕ, zero, suc, List, length, Option, refl, subst, arith, codes}
use Rattle.std.specs.List.{AllByRecursion, slice_index_or}
use Rattle.clap.specs.Walk.{Row, Text}
use Rattle.mc_words.specs.declared.names.Name.{Name}
use Rattle.mc_words.specs.declared.names.Name.TheVariants.{Seed, Ops, Clients, Trustees, Turns}
use Rattle.mc_words.specs.declared.load.Load as load
use Rattle.mc_words.specs.declared.limits.TheConstants.{USUAL_SEED, USUAL_OPS, USUAL_CLIENTS, USUAL_TRUSTEES}
use Rattle.mc_words.specs.Options.{Giving}
use Rattle.mc_words.specs.Matched.{RowsGive}
use Rattle.mc_words.specs.LoadWords.{load_names, IsLoad, SaysLoad}
use Rattle.mc_words.proofs.WalkBack.{IsNoDashes}
use Rattle.mc_words.proofs.CommandWords.{GivesAlso, GivesEach, IsTakenBy, rows_behind, taken_writes, written_taken}
use Rattle.mc_words.proofs.SettingFacts.{flag_also, set_also, set_unique, up_unique}

load_also : (gives also : Giving) (l : load.Load) → GivesAlso load_names gives also → IsLoad gives l → IsLoad also l
load_also gives also l more is = record {
  seed = set_also load_names gives also Seed USUAL_SEED l.seed more (0, omega arith, refl) is.seed;
  ops = set_also load_names gives also Ops USUAL_OPS l.ops more (1, omega arith, refl) is.ops;
  clients = set_also load_names gives also Clients USUAL_CLIENTS l.clients more (2, omega arith, refl) is.clients;
  trustees = set_also load_names gives also Trustees USUAL_TRUSTEES l.trustees more (3, omega arith, refl) is.trustees;
  turns = flag_also load_names gives also Turns l.turns more (4, omega arith, refl) is.turns;
}

load_each : (gives : Giving) (l : load.Load) → IsLoad gives l → GivesEach load_names gives
load_each gives l is name member = by_place member.0 member.1 member.2 where
  by_place : (k : ℕ) → k < length load_names → slice_index_or load_names k name ≡ name → (given : Option ℕ) × gives name given
  by_place zero below at = (is.seed.0, subst (λ (n : Name). gives n is.seed.0) at is.seed.1)
  by_place (suc zero) below at = (is.ops.0, subst (λ (n : Name). gives n is.ops.0) at is.ops.1)
  by_place (suc (suc zero)) below at = (is.clients.0, subst (λ (n : Name). gives n is.clients.0) at is.clients.1)
  by_place (suc (suc (suc zero))) below at = (is.trustees.0, subst (λ (n : Name). gives n is.trustees.0) at is.trustees.1)
  by_place (suc (suc (suc (suc zero)))) below at = (is.turns.0, subst (λ (n : Name). gives n is.turns.0) at is.turns.1)
  by_place (suc (suc (suc (suc (suc k))))) below at = absurd (omega arith)

-- what the words behind `load` say, by the matches
pub load_back : (words : List Text) (l : load.Load) → AllByRecursion IsNoDashes words → IsTakenBy (codes "load") load_names words
    → IsLoad (RowsGive (rows_behind load_names words)) l → SaysLoad words l
load_back words l no_dashes taken is =
    let writes = taken_writes (codes "load") load_names words no_dashes taken (load_each (RowsGive (rows_behind load_names words)) l is) in
    (writes.0, writes.1, load_also _ _ l writes.2 is)

pub load_on : (words : List Text) (l : load.Load) → SaysLoad words l → IsTakenBy (codes "load") load_names words × IsLoad (RowsGive (rows_behind load_names words)) l
load_on words l says =
    let taken = written_taken (codes "load") load_names words says.0 says.1 in
    (taken.0, load_also _ _ l taken.1 says.2)

pub load_unique : (rows : List Row) (one other : load.Load) → IsLoad (RowsGive rows) one → IsLoad (RowsGive rows) other → one ≡ other
load_unique rows one other is also = λ i. record {
  seed = set_unique rows Seed USUAL_SEED one.seed other.seed is.seed also.seed i;
  ops = set_unique rows Ops USUAL_OPS one.ops other.ops is.ops also.ops i;
  clients = set_unique rows Clients USUAL_CLIENTS one.clients other.clients is.clients also.clients i;
  trustees = set_unique rows Trustees USUAL_TRUSTEES one.trustees other.trustees is.trustees also.trustees i;
  turns = up_unique rows Turns one.turns other.turns is.turns also.turns i;
}
