-- What the words behind `serve` say, and what `clap`'s matches give of them.
use Rattle.std.proofs.Common.{◌≡◌, ◌<◌, ℕ, zero, suc, List, length, Option, Some, unwrap_or, refl, ap, subst, arith, codes}
use Rattle.std.specs.List.{AllByRecursion, slice_index_or}
use Rattle.clap.specs.Walk.{Row, Text}
use Rattle.mc_words.specs.declared.names.Name.{Name}
use Rattle.mc_words.specs.declared.names.Name.TheVariants.{Port, Workers, Trustees, Connections, MaxBytes, Items}
use Rattle.mc_words.specs.declared.serve.Serve as serve
use Rattle.mc_words.specs.declared.limits.TheConstants.{USUAL_WORKERS, USUAL_TRUSTEES, USUAL_BYTES}
use Rattle.mc_item.specs.declared.limits.TheConstants.{USUAL_ITEMS}
use Rattle.mc_words.specs.Options.{Giving}
use Rattle.mc_words.specs.Matched.{RowsGive}
use Rattle.mc_words.specs.ServeWords.{serve_names, IsServe, SaysServe}
use Rattle.mc_words.proofs.WalkBack.{IsNoDashes}
use Rattle.mc_words.proofs.CommandWords.{GivesAlso, GivesEach, IsTakenBy, rows_behind, taken_writes, written_taken}
use Rattle.mc_words.proofs.SettingFacts.{rows_unique, set_also, set_unique}

serve_also : (gives also : Giving) (s : serve.Serve) → GivesAlso serve_names gives also → IsServe gives s → IsServe also s
serve_also gives also s more is = record {
  port = more Port (0, omega arith, refl) (Some s.port) is.port;
  workers = set_also serve_names gives also Workers USUAL_WORKERS s.workers more (1, omega arith, refl) is.workers;
  trustees = set_also serve_names gives also Trustees USUAL_TRUSTEES s.trustees more (2, omega arith, refl) is.trustees;
  connections = more Connections (3, omega arith, refl) s.connections is.connections;
  max_bytes = set_also serve_names gives also MaxBytes USUAL_BYTES s.max_bytes more (4, omega arith, refl) is.max_bytes;
  items = set_also serve_names gives also Items USUAL_ITEMS s.items more (5, omega arith, refl) is.items;
}

serve_each : (gives : Giving) (s : serve.Serve) → IsServe gives s → GivesEach serve_names gives
serve_each gives s is name member = by_place member.0 member.1 member.2 where
  by_place : (k : ℕ) → k < length serve_names → slice_index_or serve_names k name ≡ name → (given : Option ℕ) × gives name given
  by_place zero below at = (Some s.port, subst (λ (n : Name). gives n (Some s.port)) at is.port)
  by_place (suc zero) below at = (is.workers.0, subst (λ (n : Name). gives n is.workers.0) at is.workers.1)
  by_place (suc (suc zero)) below at = (is.trustees.0, subst (λ (n : Name). gives n is.trustees.0) at is.trustees.1)
  by_place (suc (suc (suc zero))) below at = (s.connections, subst (λ (n : Name). gives n s.connections) at is.connections)
  by_place (suc (suc (suc (suc zero)))) below at = (is.max_bytes.0, subst (λ (n : Name). gives n is.max_bytes.0) at is.max_bytes.1)
  by_place (suc (suc (suc (suc (suc zero))))) below at = (is.items.0, subst (λ (n : Name). gives n is.items.0) at is.items.1)
  by_place (suc (suc (suc (suc (suc (suc k)))))) below at = absurd (omega arith)

-- what the words behind `serve` say, by the matches
pub serve_back : (words : List Text) (s : serve.Serve) → AllByRecursion IsNoDashes words → IsTakenBy (codes "serve") serve_names words
    → IsServe (RowsGive (rows_behind serve_names words)) s → SaysServe words s
serve_back words s no_dashes taken is =
    let writes = taken_writes (codes "serve") serve_names words no_dashes taken (serve_each (RowsGive (rows_behind serve_names words)) s is) in
    (writes.0, writes.1, serve_also _ _ s writes.2 is)

pub serve_on : (words : List Text) (s : serve.Serve) → SaysServe words s → IsTakenBy (codes "serve") serve_names words × IsServe (RowsGive (rows_behind serve_names words)) s
serve_on words s says =
    let taken = written_taken (codes "serve") serve_names words says.0 says.1 in
    (taken.0, serve_also _ _ s taken.1 says.2)

pub serve_unique : (rows : List Row) (one other : serve.Serve) → IsServe (RowsGive rows) one → IsServe (RowsGive rows) other → one ≡ other
serve_unique rows one other is also = λ i. record {
  port = ap (λ (given : Option ℕ). unwrap_or given 0) (rows_unique rows Port (Some one.port) (Some other.port) is.port also.port) i;
  workers = set_unique rows Workers USUAL_WORKERS one.workers other.workers is.workers also.workers i;
  trustees = set_unique rows Trustees USUAL_TRUSTEES one.trustees other.trustees is.trustees also.trustees i;
  connections = rows_unique rows Connections one.connections other.connections is.connections also.connections i;
  max_bytes = set_unique rows MaxBytes USUAL_BYTES one.max_bytes other.max_bytes is.max_bytes also.max_bytes i;
  items = set_unique rows Items USUAL_ITEMS one.items other.items is.items also.items i;
}
