-- A list of options: the words that it is written in, and the value that it gives to each name.
use Rattle.std.specs.Prelude.{◌≡◌, ◌≢◌, ℕ, Bool, ◌⊎◌, List, [], ◌∷◌, ◌++◌, Option, Some, None, is_some, unwrap_or, map, string_bytes, Contains, String}
use Rattle.std.specs.List.{flat_map}
use Rattle.std.specs.declared.alloc.Global.{Global}
use Rattle.mc_words.specs.declared.names.Name.{Name}
use Rattle.mc_words.specs.declared.names.Range.{Range}
use Rattle.mc_words.specs.Spelling.{spelled, range_of, IsValue}

-- words as their bytes
abbrev pub texts : List (String Global) → List (List ℕ)
texts words = map (λ word. string_bytes word) words

-- how an option is written: alone, as two words, or as one
pub data Form : Type 0 where
  Alone : Form
  Apart : List ℕ → Form
  Joined : List ℕ → Form

-- an option as it is given
pub record Given : Type 0 where
  pub name : Name
  pub form : Form
  pub value : ℕ

abbrev pub given : Name → Form → ℕ → Given
given name form value = record { name = name; form = form; value = value }

-- `--name`, `--name value` or `--name=value`, where 61 is `=`
abbrev pub form_words : List ℕ → Form → List (List ℕ)
form_words name Alone = name ∷ []
form_words name (Apart text) = name ∷ text ∷ []
form_words name (Joined text) = (name ++ 61 ∷ text) ∷ []

abbrev pub words_of : Given → List (List ℕ)
words_of option = form_words (spelled option.name) option.form

-- An option has a value of its range, and one without a range stands alone, with the value 0.
abbrev pub HasValue : Option Range → Form → ℕ → Type 0
HasValue range Alone value = (range ≡ None) × (value ≡ 0)
HasValue range (Apart text) value = IsValue range text value
HasValue range (Joined text) value = IsValue range text value

-- the value that options give to a name, if one of them has it
abbrev pub Gives : List Given → Name → Option ℕ → Type 0
Gives [] name value = value ≡ None
Gives (option ∷ more) name value = ((option.name ≡ name) × (value ≡ Some option.value)) ⊎ ((option.name ≢ name) × Gives more name value)

-- Each is one of these names, has a lawful value, and is not given again.
abbrev pub AreLawful : List Name → List Given → Type 0
AreLawful known [] = Unit {0}
AreLawful known (option ∷ more) =
    Contains known option.name × HasValue (range_of option.name) option.form option.value × Gives more option.name None × AreLawful known more

-- the words write these options, all of them lawful
abbrev pub AreWritten : List Name → List (List ℕ) → List Given → Type 0
AreWritten known words options = (words ≡ flat_map words_of options) × AreLawful known options

-- what gives names their values, where an option that is not given has none
abbrev pub Giving : Type 1
Giving = Name → Option ℕ → Type 0

-- a setting has the value that is given, or else the usual one
abbrev pub IsSet : Giving → Name → ℕ → ℕ → Type 0
IsSet gives name usual value = (given : Option ℕ) × gives name given × (value ≡ unwrap_or given usual)

-- a flag is up where it is given
abbrev pub IsFlag : Giving → Name → Bool → Type 0
IsFlag gives name flag = (given : Option ℕ) × gives name given × (flag ≡ is_some given)
