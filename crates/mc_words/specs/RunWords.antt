-- What the words of `run` say.
use Rattle.std.specs.Prelude.{ℕ, List, [], ◌∷◌}
use Rattle.mc_item.specs.declared.limits.TheConstants.{USUAL_ITEMS}
use Rattle.mc_words.specs.declared.limits.TheConstants.{USUAL_TRUSTEES, USUAL_BYTES}
use Rattle.mc_words.specs.declared.names.Name.{Name}
use Rattle.mc_words.specs.declared.names.Name.TheVariants.{Trustees, MaxBytes, Items, Turns}
use Rattle.mc_words.specs.declared.run.Run.{Run}
use Rattle.mc_words.specs.Spelling.{range_of, LiesIn}
use Rattle.mc_words.specs.Options.{Given, Gives, Giving, AreWritten, IsSet, IsFlag}

abbrev pub run_names : List Name
run_names = Trustees ∷ MaxBytes ∷ Items ∷ Turns ∷ []

pub record IsRun (gives : Giving) (run : Run) : Type 0 where
  pub trustees : IsSet gives Trustees USUAL_TRUSTEES run.trustees
  pub max_bytes : IsSet gives MaxBytes USUAL_BYTES run.max_bytes
  pub items : IsSet gives Items USUAL_ITEMS run.items
  pub turns : IsFlag gives Turns run.turns

-- each value is one that its option may have
pub record IsRunInRange (run : Run) : Type 0 where
  pub trustees : LiesIn (range_of Trustees) run.trustees
  pub max_bytes : LiesIn (range_of MaxBytes) run.max_bytes
  pub items : LiesIn (range_of Items) run.items

-- the words behind `run` say this
abbrev pub SaysRun : List (List ℕ) → Run → Type 0
SaysRun words run = (options : List Given) × AreWritten run_names words options × IsRun (Gives options) run
