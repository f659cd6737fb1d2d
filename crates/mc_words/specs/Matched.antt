-- What `clap`'s matches give to the names of options, and what they say. Only contracts of private functions speak of
-- this.
use Rattle.std.specs.Prelude.{◌≡◌, ◌⊎◌, ℕ, List, Option, Some, None, codes}
use Rattle.clap.specs.Words.{Row, Text, first_of, one_of}
use Rattle.mc_words.specs.declared.names.Name.TheVariants.{Turns}
use Rattle.mc_words.specs.declared.names.Range.{Range}
use Rattle.mc_words.specs.declared.reading.Words.{Words}
use Rattle.mc_words.specs.declared.reading.Words.TheVariants.{Run, Serve, Load}
use Rattle.mc_words.specs.Spelling.{label, range_of, IsValue}
use Rattle.mc_words.specs.Options.{Giving}
use Rattle.mc_words.specs.RunWords.{IsRun}
use Rattle.mc_words.specs.ServeWords.{IsServe}
use Rattle.mc_words.specs.LoadWords.{IsLoad}

-- by the text of an option, if there is one
abbrev pub TextGives : Option Range → Option Text → Option ℕ → Type 0
TextGives range None given = given ≡ None
TextGives range (Some text) None = ⊥
TextGives range (Some text) (Some value) = IsValue range text value

-- by the text of a flag, `true` or `false`
abbrev pub FlagGives : Option Text → Option ℕ → Type 0
FlagGives text None = text ≡ Some (codes "false")
FlagGives text (Some value) = (text ≡ Some (codes "true")) × (value ≡ 0)

abbrev pub GivesBy : Option Range → List Row → Text → Option ℕ → Type 0
GivesBy None rows name given = FlagGives (one_of name rows) given
GivesBy (Some range) rows name given = TextGives (Some range) (first_of name rows) given

abbrev pub RowsGive : List Row → Giving
RowsGive rows name = GivesBy (range_of name) rows (label name)

-- what a command and the rows of its options say, which `clap` found
abbrev pub RowsSay : Option (Text × List Row) → Words → Type 0
RowsSay None meaning = ⊥
RowsSay (Some found) (Run run) = (found.0 ≡ codes "run") × IsRun (RowsGive found.1) run
RowsSay (Some found) (Serve serve) = (found.0 ≡ codes "serve") × IsServe (RowsGive found.1) serve
RowsSay (Some found) (Load load) = (found.0 ≡ codes "load") × IsLoad (RowsGive found.1) load

-- the rows tell of the flag whether it is given, where the command has one
abbrev pub TellTurns : Option (Text × List Row) → Type 0
TellTurns None = Unit {0}
TellTurns (Some found) = (found.0 ≡ codes "run") ⊎ (found.0 ≡ codes "load") → (given : Option ℕ) × RowsGive found.1 Turns given
