-- What the words of `serve` say.
use Rattle.std.specs.Prelude.{ℕ, List, [], ◌∷◌, Some, IfSome}
use Rattle.mc_item.specs.declared.limits.TheConstants.{USUAL_ITEMS}
use Rattle.mc_words.specs.declared.limits.TheConstants.{USUAL_TRUSTEES, USUAL_BYTES, USUAL_WORKERS}
use Rattle.mc_words.specs.declared.names.Name.{Name}
use Rattle.mc_words.specs.declared.names.Name.TheVariants.{Trustees, MaxBytes, Items, Port, Workers, Connections}
use Rattle.mc_words.specs.declared.serve.Serve.{Serve}
use Rattle.mc_words.specs.Spelling.{range_of, LiesIn}
use Rattle.mc_words.specs.Options.{Given, Gives, Giving, AreWritten, IsSet}

abbrev pub serve_names : List Name
serve_names = Port ∷ Workers ∷ Trustees ∷ Connections ∷ MaxBytes ∷ Items ∷ []

-- A port has to be given. Without a number of connections there is no bound on them.
pub record IsServe (gives : Giving) (serve : Serve) : Type 0 where
  pub port : gives Port (Some serve.port)
  pub workers : IsSet gives Workers USUAL_WORKERS serve.workers
  pub trustees : IsSet gives Trustees USUAL_TRUSTEES serve.trustees
  pub connections : gives Connections serve.connections
  pub max_bytes : IsSet gives MaxBytes USUAL_BYTES serve.max_bytes
  pub items : IsSet gives Items USUAL_ITEMS serve.items

-- each value is one that its option may have
pub record IsServeInRange (serve : Serve) : Type 0 where
  pub port : LiesIn (range_of Port) serve.port
  pub workers : LiesIn (range_of Workers) serve.workers
  pub trustees : LiesIn (range_of Trustees) serve.trustees
  pub connections : IfSome serve.connections (LiesIn (range_of Connections))
  pub max_bytes : LiesIn (range_of MaxBytes) serve.max_bytes
  pub items : LiesIn (range_of Items) serve.items

-- the words behind `serve` say this
abbrev pub SaysServe : List (List ℕ) → Serve → Type 0
SaysServe words serve = (options : List Given) × AreWritten serve_names words options × IsServe (Gives options) serve
