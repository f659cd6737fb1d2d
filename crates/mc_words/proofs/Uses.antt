-- One use of an option: when `clap` refuses it, and the row that it adds.
use Rattle.std.proofs.Common.{◌≡◌, ◌∙◌, ◌||◌, Bool, true, false, List, [], ◌∷◌, ◌++◌, Some, None, refl, ap, codes, append-nil}
use Rattle.std.specs.Str.{bytes_eq}
use Rattle.std.proofs.lemmas.List.Folds.{list_any-append}
use Rattle.std.proofs.lemmas.Bool.{or_parts}
use Rattle.clap.specs.Walk.{Row, Text, at_row, has_row, more_values, used, with_values, without}
use Rattle.clap.specs.Faults.{use_fault}
use Rattle.clap.specs.declared.builder.value_parser.Reading.TheVariants.{AsWritten}
use Rattle.clap.specs.declared.parser.matches.ValueSource.{ValueSource}
use Rattle.clap.specs.declared.parser.matches.ValueSource.TheVariants.{CommandLine}
use Rattle.mc_words.proofs.BuiltRules.{built_by}

-- the row of an option with these values
abbrev pub row_from : ValueSource → Text → List Text → Row
row_from source id values = record { id = id; values = values; count = None; source = Some source; reading = AsWritten }

abbrev pub option_row : Text → List Text → Row
option_row id values = row_from CommandLine id values

-- the values of a use, where a flag's value is `true`
abbrev pub values_by : Bool → Text → List Text
values_by true text = text ∷ []
values_by false text = []

abbrev pub kept_by : Bool → Text → List Text
kept_by true text = text ∷ []
kept_by false text = codes "true" ∷ []

-- a use passes exactly where the option has no row yet
pub use-fresh : (takes : Bool) (id text : Text) (rows : List Row) → use_fault false (built_by id takes) (values_by takes text) rows ≡ [] → has_row id rows ≡ false
use-fresh true id text rows none = go (has_row id rows) refl where
  go : (b : Bool) → has_row id rows ≡ b → has_row id rows ≡ false
  go true is = cc (rw is at none)
  go false is = is
use-fresh false id text rows none = go (has_row id rows) refl where
  go : (b : Bool) → has_row id rows ≡ b → has_row id rows ≡ false
  go true is = cc (rw is at none)
  go false is = is

pub use-passes : (takes : Bool) (id text : Text) (rows : List Row) → has_row id rows ≡ false → use_fault false (built_by id takes) (values_by takes text) rows ≡ []
use-passes true id text rows fresh = rw fresh refl
use-passes false id text rows fresh = rw fresh refl

at_row-none : (id : Text) (change : Row → List Row) (missing rows : List Row) → has_row id rows ≡ false → at_row id change missing rows ≡ rows ++ missing
at_row-none id change missing [] fresh = refl
at_row-none id change missing (row ∷ rows) fresh =
    let parts = or_parts (bytes_eq row.id id) (has_row id rows) fresh in
    rw (parts.0) (ap (λ rest. row ∷ rest) (at_row-none id change missing rows parts.1))

-- values of an option that has no row make one
pub with_values-none : (source : ValueSource) (id : Text) (values : List Text) (rows : List Row) → has_row id rows ≡ false
    → with_values id AsWritten source values rows ≡ rows ++ row_from source id values ∷ []
with_values-none source id values rows fresh = at_row-none id (more_values source values) (row_from source id values ∷ []) rows fresh

without-none : (id : Text) (rows : List Row) → has_row id rows ≡ false → without id rows ≡ rows
without-none id rows fresh = at_row-none id (λ _. []) [] rows fresh ∙ append-nil rows

-- a use adds a row
pub used-row : (takes : Bool) (id text : Text) (rows : List Row) → has_row id rows ≡ false
    → used (built_by id takes) (values_by takes text) rows ≡ rows ++ option_row id (kept_by takes text) ∷ []
used-row true id text rows fresh =
    ap (with_values id AsWritten CommandLine (text ∷ [])) (without-none id rows fresh) ∙ with_values-none CommandLine id (text ∷ []) rows fresh
used-row false id text rows fresh =
    ap (with_values id AsWritten CommandLine (codes "true" ∷ [])) (without-none id rows fresh) ∙ with_values-none CommandLine id (codes "true" ∷ []) rows fresh

pub has_row-more : (id : Text) (rows : List Row) (row : Row) → has_row id (rows ++ row ∷ []) ≡ (has_row id rows || (bytes_eq row.id id || false))
has_row-more id rows row = list_any-append (λ r. bytes_eq r.id id) rows (row ∷ [])
