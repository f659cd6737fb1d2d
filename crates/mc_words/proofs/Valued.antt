-- Options with their values, and the same as they are written.
use Rattle.std.proofs.Common.{◌≡◌, ◌≢◌, ◌∙◌, ◌==◌, ◌&&◌, ◌||◌, ℕ, ◌+◌, nat_le, nat_lt, Bool, true, false, cond, List, [], ◌∷◌, ◌++◌, map, length, Option, Some, None, is_some, refl, sym, ap, inl, inr, true≢false}
use Rattle.std.specs.List.{AllByRecursion, flat_map, list_all}
use Rattle.std.specs.Char.{is_ascii_digit}
use Rattle.std.specs.Str.{bytes_eq}
use Rattle.std.proofs.lemmas.Bool.{and_parts, eqb-true, or_from}
use Rattle.std.proofs.lemmas.Option.{cond_some}
use Rattle.clap.specs.Walk.{Row, Text, has_row}
use Rattle.mc_item.specs.Numbers.{digits_below, value_of}
use Rattle.mc_words.specs.declared.limits.TheConstants.{LONGEST_VALUE}
use Rattle.mc_words.specs.declared.names.Name.{Name}
use Rattle.mc_words.specs.declared.names.Range.{Range}
use Rattle.mc_words.specs.Spelling.{label, range_of, IsValue}
use Rattle.mc_words.specs.Options.{Form, Alone, Apart, Joined, Given, words_of, HasValue, Gives, AreLawful}
use Rattle.mc_words.proofs.BuiltRules.{bytes_eq-ne, label_injective}
use Rattle.mc_words.proofs.Shapes.{AreFresh, AreKnown, Fits, Shaped, row_for, shape_words, shaped}
use Rattle.mc_words.proofs.Uses.{has_row-more}
use Rattle.mc_words.proofs.WalkOn.{HasPlainValue, IsPlain}

abbrev pub shape : Given → Shaped
shape option = shaped option.name option.form

pub words-shape : (options : List Given) → flat_map words_of options ≡ flat_map shape_words (map shape options)
words-shape [] = refl
words-shape (option ∷ options) = ap (λ rest. words_of option ++ rest) (words-shape options)

-- ---- what lawful options are

fits-value : (range : Option Range) (form : Form) (value : ℕ) → HasValue range form value → Fits (is_some range) form
fits-value None Alone value has = tt
fits-value (Some range) Alone value has = cc (has.0)
fits-value None (Apart text) value has = absurd has
fits-value (Some range) (Apart text) value has = tt
fits-value None (Joined text) value has = absurd has
fits-value (Some range) (Joined text) value has = tt

pub known-shape : (known : List Name) (options : List Given) → AreLawful known options → AreKnown known (map shape options)
known-shape known [] lawful = tt
known-shape known (option ∷ options) lawful =
    (lawful.0, fits-value (range_of option.name) option.form option.value lawful.1, known-shape known options lawful.3)

digits-plain : (text : Text) → list_all is_ascii_digit text ≡ true → IsPlain text
digits-plain [] digits = refl
digits-plain (x ∷ xs) digits = go (x == 45) refl where
  digit : is_ascii_digit x ≡ true
  digit = (and_parts (is_ascii_digit x) (list_all is_ascii_digit xs) digits).0

  go : (b : Bool) → (x == 45) ≡ b → ◌≡◌ {A = Option Text} (cond b (Some xs) None) None
  go true is = absurd (true≢false (sym digit ∙ ap is_ascii_digit (eqb-true x 45 is)))
  go false is = refl

value-plain : (range : Option Range) (text : Text) (value : ℕ) → IsValue range text value → IsPlain text
unfolding digits_below
value-plain None text value spells = absurd spells
value-plain (Some range) text value spells =
    let tests = (cond_some _ (value_of text) value spells.0).0 in
    let front = (and_parts (nat_le 1 (length text) && nat_le (length text) LONGEST_VALUE && list_all is_ascii_digit text) (nat_lt (value_of text) (range.most + 1)) tests).0 in
    digits-plain text (and_parts (nat_le 1 (length text) && nat_le (length text) LONGEST_VALUE) (list_all is_ascii_digit text) front).1

pub plain-value : (range : Option Range) (form : Form) (value : ℕ) → HasValue range form value → HasPlainValue form
plain-value range Alone value has = tt
plain-value range (Apart text) value has = value-plain range text value has
plain-value range (Joined text) value has = tt

pub plain-shape : (known : List Name) (options : List Given) → AreLawful known options → AllByRecursion (λ (option : Shaped). HasPlainValue option.form) (map shape options)
plain-shape known [] lawful = tt
plain-shape known (option ∷ options) lawful = (plain-value (range_of option.name) option.form option.value lawful.1, plain-shape known options lawful.3)

-- ---- names that are not given again

pub gives_none : (options : List Given) (name : Name) → Gives options name None → AllByRecursion (λ (option : Given). option.name ≢ name) options
gives_none [] name gives = tt
gives_none (option ∷ options) name (inl here) = cc (here.1)
gives_none (option ∷ options) name (inr later) = (later.0, gives_none options name later.1)

pub none_gives : (options : List Given) (name : Name) → AllByRecursion (λ (option : Given). option.name ≢ name) options → Gives options name None
none_gives [] name differ = refl
none_gives (option ∷ options) name differ = inr (differ.0, none_gives options name differ.1)

labels-differ : (one other : Name) → (one ≡ other → ⊥) → bytes_eq (label one) (label other) ≡ false
labels-differ one other differ = bytes_eq-ne (label one) (label other) (λ same. differ (label_injective one other same))

abbrev HasNoRow : List Row → Given → Type 0
HasNoRow rows option = has_row (label option.name) rows ≡ false

one_more_row : (rows : List Row) (option : Given) (more : List Given) → AllByRecursion (HasNoRow rows) more → AllByRecursion (λ (other : Given). other.name ≢ option.name) more
    → AllByRecursion (HasNoRow (rows ++ row_for (shape option) ∷ [])) more
one_more_row rows option [] none differ = tt
one_more_row rows option (other ∷ more) none differ = (
  has_row-more (label other.name) rows (row_for (shape option))
      ∙ or_from (has_row (label other.name) rows) (bytes_eq (label option.name) (label other.name) || false) none.0
      (or_from (bytes_eq (label option.name) (label other.name)) false (labels-differ option.name other.name (λ same. differ.0 (sym same))) refl),
  one_more_row rows option more none.1 differ.1,
)

pub fresh-shape : (known : List Name) (options : List Given) (rows : List Row) → AreLawful known options → AllByRecursion (HasNoRow rows) options → AreFresh rows (map shape options)
fresh-shape known [] rows lawful none = tt
fresh-shape known (option ∷ options) rows lawful none =
    (none.0, fresh-shape known options (rows ++ row_for (shape option) ∷ []) lawful.3 (one_more_row rows option options none.1 (gives_none options option.name lawful.2)))

pub no_rows : (options : List Given) → AllByRecursion (HasNoRow []) options
no_rows [] = tt
no_rows (option ∷ options) = (refl, no_rows options)
