-- What the words behind `run` say, and what `clap`'s matches give of them.
use Rattle.std.proofs.Common.{◌≡◌, ◌<◌, ℕ, zero, suc, List, length, Option, refl, subst, arith, codes}
use Rattle.std.specs.List.{AllByRecursion, slice_index_or}
use Rattle.clap.specs.Walk.{Row, Text}
use Rattle.mc_words.specs.declared.names.Name.{Name}
use Rattle.mc_words.specs.declared.names.Name.TheVariants.{Trustees, MaxBytes, Items, Turns}
use Rattle.mc_words.specs.declared.run.Run as run
use Rattle.mc_words.specs.declared.limits.TheConstants.{USUAL_TRUSTEES, USUAL_BYTES}
use Rattle.mc_item.specs.declared.limits.TheConstants.{USUAL_ITEMS}
use Rattle.mc_words.specs.Options.{Giving}
use Rattle.mc_words.specs.Matched.{RowsGive}
use Rattle.mc_words.specs.RunWords.{run_names, IsRun, SaysRun}
use Rattle.mc_words.proofs.WalkBack.{IsNoDashes}
use Rattle.mc_words.proofs.CommandWords.{GivesAlso, GivesEach, IsTakenBy, rows_behind, taken_writes, written_taken}
use Rattle.mc_words.proofs.SettingFacts.{flag_also, set_also, set_unique, up_unique}

run_also : (gives also : Giving) (r : run.Run) → GivesAlso run_names gives also → IsRun gives r → IsRun also r
run_also gives also r more is = record {
  trustees = set_also run_names gives also Trustees USUAL_TRUSTEES r.trustees more (0, omega arith, refl) is.trustees;
  max_bytes = set_also run_names gives also MaxBytes USUAL_BYTES r.max_bytes more (1, omega arith, refl) is.max_bytes;
  items = set_also run_names gives also Items USUAL_ITEMS r.items more (2, omega arith, refl) is.items;
  turns = flag_also run_names gives also Turns r.turns more (3, omega arith, refl) is.turns;
}

run_each : (gives : Giving) (r : run.Run) → IsRun gives r → GivesEach run_names gives
run_each gives r is name member = by_place member.0 member.1 member.2 where
  by_place : (k : ℕ) → k < length run_names → slice_index_or run_names k name ≡ name → (given : Option ℕ) × gives name given
  by_place zero below at = (is.trustees.0, subst (λ (n : Name). gives n is.trustees.0) at is.trustees.1)
  by_place (suc zero) below at = (is.max_bytes.0, subst (λ (n : Name). gives n is.max_bytes.0) at is.max_bytes.1)
  by_place (suc (suc zero)) below at = (is.items.0, subst (λ (n : Name). gives n is.items.0) at is.items.1)
  by_place (suc (suc (suc zero))) below at = (is.turns.0, subst (λ (n : Name). gives n is.turns.0) at is.turns.1)
  by_place (suc (suc (suc (suc k)))) below at = absurd (omega arith)

-- what the words behind `run` say, by the matches
pub run_back : (words : List Text) (r : run.Run) → AllByRecursion IsNoDashes words → IsTakenBy (codes "run") run_names words → IsRun (RowsGive (rows_behind run_names words)) r → SaysRun words r
run_back words r no_dashes taken is =
    let writes = taken_writes (codes "run") run_names words no_dashes taken (run_each (RowsGive (rows_behind run_names words)) r is) in
    (writes.0, writes.1, run_also _ _ r writes.2 is)

pub run_on : (words : List Text) (r : run.Run) → SaysRun words r → IsTakenBy (codes "run") run_names words × IsRun (RowsGive (rows_behind run_names words)) r
run_on words r says =
    let taken = written_taken (codes "run") run_names words says.0 says.1 in
    (taken.0, run_also _ _ r taken.1 says.2)

pub run_unique : (rows : List Row) (one other : run.Run) → IsRun (RowsGive rows) one → IsRun (RowsGive rows) other → one ≡ other
run_unique rows one other is also = λ i. record {
  trustees = set_unique rows Trustees USUAL_TRUSTEES one.trustees other.trustees is.trustees also.trustees i;
  max_bytes = set_unique rows MaxBytes USUAL_BYTES one.max_bytes other.max_bytes is.max_bytes also.max_bytes i;
  items = set_unique rows Items USUAL_ITEMS one.items other.items is.items also.items i;
  turns = up_unique rows Turns one.turns other.turns is.turns also.turns i;
}
