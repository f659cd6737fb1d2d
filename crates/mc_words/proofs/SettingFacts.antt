-- What one giving gives and another also gives, and that rows give one thing.
use Rattle.std.proofs.Common.{◌≡◌, ◌∙◌, ℕ, Bool, Option, Some, None, is_some, unwrap_or, List, sym, ap, refl, Contains}
use Rattle.clap.specs.Walk.{Row, Text}
use Rattle.mc_words.specs.declared.names.Name.{Name}
use Rattle.mc_words.specs.declared.names.Range.{Range}
use Rattle.mc_words.specs.Spelling.{label, range_of}
use Rattle.mc_words.specs.Options.{Giving, IsSet, IsFlag}
use Rattle.mc_words.specs.Matched.{FlagGives, GivesBy, RowsGive, TextGives}
use Rattle.mc_words.proofs.CommandWords.{GivesAlso}

-- ---- settings and flags, by two givings

pub set_also : (known : List Name) (gives also : Giving) (name : Name) (usual value : ℕ) → GivesAlso known gives also → Contains known name → IsSet gives name usual value → IsSet also name usual value
set_also known gives also name usual value more member set = (set.0, more name member set.0 set.1, set.2)

pub flag_also : (known : List Name) (gives also : Giving) (name : Name) (flag : Bool) → GivesAlso known gives also → Contains known name → IsFlag gives name flag → IsFlag also name flag
flag_also known gives also name flag more member up = (up.0, more name member up.0 up.1, up.2)

-- what the rows give to a name is one
text_unique : (range : Option Range) (text : Option Text) (given other : Option ℕ) → TextGives range text given → TextGives range text other → given ≡ other
text_unique range None given other gives also = gives ∙ sym also
text_unique range (Some text) None other gives also = absurd gives
text_unique range (Some text) (Some value) None gives also = absurd also
text_unique None (Some text) (Some value) (Some other) gives also = absurd gives
text_unique (Some range) (Some text) (Some value) (Some other) gives also = sym gives.0 ∙ also.0

flag_unique : (text : Option Text) (given other : Option ℕ) → FlagGives text given → FlagGives text other → given ≡ other
flag_unique text None None gives also = refl
flag_unique text None (Some value) gives also = cc (gives, also.0)
flag_unique text (Some value) None gives also = cc (gives.0, also)
flag_unique text (Some value) (Some other) gives also = ap Some (gives.1 ∙ sym also.1)

pub rows_unique : (rows : List Row) (name : Name) (given other : Option ℕ) → RowsGive rows name given → RowsGive rows name other → given ≡ other
rows_unique rows name given other = go (range_of name) where
  go : (range : Option Range) → GivesBy range rows (label name) given → GivesBy range rows (label name) other → given ≡ other
  go None gives also = flag_unique _ given other gives also
  go (Some range) gives also = text_unique (Some range) _ given other gives also

pub set_unique : (rows : List Row) (name : Name) (usual value other : ℕ) → IsSet (RowsGive rows) name usual value → IsSet (RowsGive rows) name usual other → value ≡ other
set_unique rows name usual value other set also =
    set.2 ∙ ap (λ given. unwrap_or given usual) (rows_unique rows name set.0 also.0 set.1 also.1) ∙ sym also.2

pub up_unique : (rows : List Row) (name : Name) (flag other : Bool) → IsFlag (RowsGive rows) name flag → IsFlag (RowsGive rows) name other → flag ≡ other
up_unique rows name flag other up also =
    up.2 ∙ ap (λ (given : Option ℕ). is_some given) (rows_unique rows name up.0 also.0 up.1 also.1) ∙ sym also.2
