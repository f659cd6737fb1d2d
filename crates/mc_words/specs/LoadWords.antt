-- What the words of `load` say.
use Rattle.std.specs.Prelude.{ℕ, List, [], ◌∷◌}
use Rattle.mc_words.specs.declared.limits.TheConstants.{USUAL_TRUSTEES, USUAL_SEED, USUAL_OPS, USUAL_CLIENTS}
use Rattle.mc_words.specs.declared.names.Name.{Name}
use Rattle.mc_words.specs.declared.names.Name.TheVariants.{Trustees, Turns, Seed, Ops, Clients}
use Rattle.mc_words.specs.declared.load.Load.{Load}
use Rattle.mc_words.specs.Spelling.{range_of, LiesIn}
use Rattle.mc_words.specs.Options.{Given, Gives, Giving, AreWritten, IsSet, IsFlag}

abbrev pub load_names : List Name
load_names = Seed ∷ Ops ∷ Clients ∷ Trustees ∷ Turns ∷ []

pub record IsLoad (gives : Giving) (load : Load) : Type 0 where
  pub seed : IsSet gives Seed USUAL_SEED load.seed
  pub ops : IsSet gives Ops USUAL_OPS load.ops
  pub clients : IsSet gives Clients USUAL_CLIENTS load.clients
  pub trustees : IsSet gives Trustees USUAL_TRUSTEES load.trustees
  pub turns : IsFlag gives Turns load.turns

-- each value is one that its option may have
pub record IsLoadInRange (load : Load) : Type 0 where
  pub seed : LiesIn (range_of Seed) load.seed
  pub ops : LiesIn (range_of Ops) load.ops
  pub clients : LiesIn (range_of Clients) load.clients
  pub trustees : LiesIn (range_of Trustees) load.trustees

-- the words behind `load` say this
abbrev pub SaysLoad : List (List ℕ) → Load → Type 0
SaysLoad words load = (options : List Given) × AreWritten load_names words options × IsLoad (Gives options) load
