-- Options as they are written, whatever their values, and the rows that they leave.
use Rattle.std.proofs.Common.{◌≡◌, Bool, true, false, List, [], ◌∷◌, ◌++◌, map, codes, Contains}
use Rattle.std.specs.List.{flat_map}
use Rattle.clap.specs.Walk.{Held, Row, Text, has_row, settled, walk}
use Rattle.clap.specs.Faults.{settle_fault}
use Rattle.mc_words.specs.declared.names.Name.{Name}
use Rattle.mc_words.specs.Spelling.{label, spelled, takes_value}
use Rattle.mc_words.specs.Options.{Form, Alone, Apart, Joined, form_words}
use Rattle.mc_words.proofs.BuiltRules.{built_rules}
use Rattle.mc_words.proofs.Uses.{option_row}

pub record Shaped : Type 0 where
  pub name : Name
  pub form : Form

abbrev pub shaped : Name → Form → Shaped
shaped name form = record { name = name; form = form }

abbrev pub shape_words : Shaped → List Text
shape_words option = form_words (spelled option.name) option.form

-- what takes a value has one, and a flag stands alone
abbrev pub Fits : Bool → Form → Type 0
Fits true Alone = ⊥
Fits true (Apart text) = Unit {0}
Fits true (Joined text) = Unit {0}
Fits false Alone = Unit {0}
Fits false (Apart text) = ⊥
Fits false (Joined text) = ⊥

abbrev pub values_in : Form → List Text
values_in Alone = codes "true" ∷ []
values_in (Apart text) = text ∷ []
values_in (Joined text) = text ∷ []

abbrev pub row_for : Shaped → Row
row_for option = option_row (label option.name) (values_in option.form)

abbrev pub AreKnown : List Name → List Shaped → Type 0
AreKnown known [] = Unit {0}
AreKnown known (option ∷ more) = Contains known option.name × Fits (takes_value option.name) option.form × AreKnown known more

-- no option has a row before it is met
abbrev pub AreFresh : List Row → List Shaped → Type 0
AreFresh rows [] = Unit {0}
AreFresh rows (option ∷ more) = (has_row (label option.name) rows ≡ false) × AreFresh (rows ++ row_for option ∷ []) more

-- the words write options, and the walk over them keeps their rows
pub record Reads (known : List Name) (h : Held) (words : List Text) : Type 0 where
  pub options : List Shaped
  pub settles : settle_fault (built_rules known) false h ≡ []
  pub written : words ≡ flat_map shape_words options
  pub lawful : AreKnown known options
  pub fresh : AreFresh (settled (built_rules known) h).rows options
  pub rows : (settled (built_rules known) (walk (built_rules known) [] h words).held).rows ≡ (settled (built_rules known) h).rows ++ map row_for options
