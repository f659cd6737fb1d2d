-- `clap` takes the words behind a command exactly where they write lawful options, whatever the values, and gives what
-- these give.
use Rattle.std.proofs.Common.{◌≡◌, ◌∙◌, ℕ, true, false, List, [], ◌∷◌, ◌++◌, map, Option, Some, None, is_some, option_map, sym, ap, subst, Contains, true≢false}
use Rattle.std.specs.List.{AllByRecursion, flat_map}
use Rattle.clap.specs.Walk.{Row, Text, first_of, nothing_held, rows_after}
use Rattle.clap.specs.Faults.{level_fault}
use Rattle.mc_words.specs.declared.names.Name.{Name}
use Rattle.mc_words.specs.declared.names.Range.{Range}
use Rattle.mc_words.specs.Spelling.{label, range_of}
use Rattle.mc_words.specs.Options.{Form, Alone, Apart, Joined, Given, words_of, HasValue, Gives, Giving, AreLawful, AreWritten}
use Rattle.mc_words.specs.Matched.{GivesBy, RowsGive, TextGives}
use Rattle.mc_words.proofs.BuiltRules.{built_rules}
use Rattle.mc_words.proofs.Gathered.{AllGive, gathered}
use Rattle.mc_words.proofs.Giving.{FormGives, form-gives, gives-form, rows-form}
use Rattle.mc_words.proofs.Leaves.{leaf_keeps, leaf_takes, with_defaults}
use Rattle.mc_words.proofs.Lexed.{joined-no_dashes, spelled-no_dashes}
use Rattle.mc_words.proofs.Lookups.{first_of-value, form_of, text_in}
use Rattle.mc_words.proofs.RestSteps.{leaf}
use Rattle.mc_words.proofs.Shapes.{Shaped, row_for, shape_words}
use Rattle.mc_words.proofs.Valued.{fresh-shape, known-shape, no_rows, plain-shape, plain-value, shape, words-shape}
use Rattle.mc_words.proofs.WalkBack.{IsNoDashes}
use Rattle.mc_words.proofs.WalkOn.{plain-no_dashes}

-- what the matches of a command have of the words behind it
abbrev pub rows_behind : List Name → List Text → List Row
rows_behind known words = rows_after (built_rules known) [] words

abbrev pub IsTakenBy : Text → List Name → List Text → Type 0
IsTakenBy command known words = level_fault (leaf command known) [] nothing_held words false [] ≡ []

-- each name of the command is given something
abbrev pub GivesEach : List Name → Giving → Type 0
GivesEach known gives = (name : Name) → Contains known name → (given : Option ℕ) × gives name given

-- what one gives to the command's names, the other gives
abbrev pub GivesAlso : List Name → Giving → Giving → Type 0
GivesAlso known gives also = (name : Name) → Contains known name → (given : Option ℕ) → gives name given → also name given

-- ---- from what `clap` takes

text_by : (range : Option Range) (name : Text) (rows : List Row) (text : Option Text) (given : Option ℕ) → is_some range ≡ true → first_of name rows ≡ text → GivesBy range rows name given
    → TextGives range text given
text_by None name rows text given takes is gives = absurd (true≢false (sym takes))
text_by (Some range) name rows text given takes is gives = subst (λ (t : Option Text). TextGives (Some range) t given) is gives

pub taken_writes : (command : Text) (known : List Name) (words : List Text) → AllByRecursion IsNoDashes words → IsTakenBy command known words
    → GivesEach known (RowsGive (rows_behind known words)) → (options : List Given) × AreWritten known words options × GivesAlso known (RowsGive (rows_behind known words)) (Gives options)
taken_writes command known words no_dashes taken each =
    let kept = leaf_keeps command known words no_dashes taken in
    let options = kept.0 in
    let keeps = kept.1 in
    let give : AllGive known options = λ name member takes. (
      (each name member).0,
      text_by (range_of name) (label name) (rows_behind known words) (option_map text_in (form_of options name)) (each name member).0 takes
          (ap (first_of (label name)) keeps.rows ∙ first_of-value known options name takes) (each name member).1,
    ) in
    let all = gathered known options keeps.lawful keeps.fresh give in (
      all.options_given,
      (keeps.written ∙ ap (λ (more : List Shaped). flat_map shape_words more) (sym all.shapes) ∙ sym (words-shape all.options_given), all.lawful),
      λ name member given gives.
          let rows : RowsGive (with_defaults known (map row_for options)) name given = subst (λ (rows : List Row). RowsGive rows name given) keeps.rows gives in
          let form = (rows-form known options name given keeps.lawful member).0 rows in
          form-gives known all.options_given name given all.lawful (subst (λ (more : List Shaped). FormGives (range_of name) (form_of more name) given) (sym all.shapes) form),
    )

-- ---- from words that are written

pub written_taken : (command : Text) (known : List Name) (words : List Text) (options : List Given) → AreWritten known words options
    → IsTakenBy command known words × GivesAlso known (Gives options) (RowsGive (rows_behind known words))
written_taken command known words options written =
    let lawful = known-shape known options written.1 in
    let taken = leaf_takes command known (map shape options) lawful (plain-shape known options written.1) (fresh-shape known options [] written.1 (no_rows options)) in
    let whole : words ≡ flat_map shape_words (map shape options) = written.0 ∙ words-shape options in (
      subst (λ (words : List Text). IsTakenBy command known words) (sym whole) taken.0,
      λ name member given gives.
          let rows = (rows-form known (map shape options) name given lawful member).1 (gives-form known options name given written.1 gives) in
          let kept : RowsGive (rows_behind known (flat_map shape_words (map shape options))) name given = subst (λ (rows : List Row). RowsGive rows name given) (sym taken.1.rows) rows in
          subst (λ (words : List Text). RowsGive (rows_behind known words) name given) (sym whole) kept,
    )

-- no word of lawful options is `--`
pub written_no_dashes : (known : List Name) (options : List Given) → AreLawful known options → AllByRecursion IsNoDashes (flat_map words_of options)
written_no_dashes known [] lawful = tt
written_no_dashes known (option ∷ options) lawful = by_form option.form option.value lawful.1 (written_no_dashes known options lawful.3) where
  by_form : (form : Form) (value : ℕ) → HasValue (range_of option.name) form value → AllByRecursion IsNoDashes (flat_map words_of options)
      → AllByRecursion IsNoDashes (words_of (record { name = option.name; form = form; value = value }) ++ flat_map words_of options)
  by_form Alone value has rest = (spelled-no_dashes option.name, rest)
  by_form (Apart text) value has rest = (spelled-no_dashes option.name, (plain-no_dashes text (plain-value (range_of option.name) (Apart text) value has), rest))
  by_form (Joined text) value has rest = (joined-no_dashes option.name text, rest)
