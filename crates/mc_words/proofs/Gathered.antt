-- The options that `clap` found, with the values that their texts spell.
use Rattle.std.proofs.Common.{◌≡◌, ◌≢◌, ◌∙◌, ◌||◌, ℕ, Bool, true, false, List, [], ◌∷◌, ◌++◌, map, Option, Some, None, is_some, option_map, refl, sym, ap, subst, Contains, true≢false}
use Rattle.std.specs.List.{AllByRecursion}
use Rattle.std.specs.Str.{bytes_eq}
use Rattle.std.proofs.lemmas.Bool.{or_parts}
use Rattle.clap.specs.Walk.{Row, has_row}
use Rattle.mc_words.specs.declared.names.Name.{Name}
use Rattle.mc_words.specs.declared.names.Range.{Range}
use Rattle.mc_words.specs.Spelling.{label, range_of, takes_value}
use Rattle.mc_words.specs.Options.{Form, Alone, Apart, Joined, Given, given, HasValue, AreLawful}
use Rattle.mc_words.specs.Matched.{TextGives}
use Rattle.mc_words.proofs.BuiltRules.{bytes_eq-refl}
use Rattle.mc_words.proofs.Lookups.{form_of, text_in}
use Rattle.mc_words.proofs.Shapes.{AreFresh, AreKnown, Fits, Shaped, row_for}
use Rattle.mc_words.proofs.Uses.{has_row-more}
use Rattle.mc_words.proofs.Valued.{none_gives, shape}

-- ---- no name is given twice

fresh_absent : (options : List Shaped) (rows : List Row) → AreFresh rows options → AllByRecursion (λ (option : Shaped). has_row (label option.name) rows ≡ false) options
fresh_absent [] rows fresh = tt
fresh_absent (option ∷ options) rows fresh = (fresh.0, weaker options (fresh_absent options (rows ++ row_for option ∷ []) fresh.1)) where
  weaker : (more : List Shaped) → AllByRecursion (λ (other : Shaped). has_row (label other.name) (rows ++ row_for option ∷ []) ≡ false) more
      → AllByRecursion (λ (other : Shaped). has_row (label other.name) rows ≡ false) more
  weaker [] none = tt
  weaker (other ∷ more) none =
      ((or_parts (has_row (label other.name) rows) (bytes_eq (label option.name) (label other.name) || false) (sym (has_row-more (label other.name) rows (row_for option)) ∙ none.0)).0, weaker more none.1)

abbrev IsOther : Shaped → Shaped → Type 0
IsOther option other = bytes_eq (label option.name) (label other.name) ≡ false

fresh_others : (option : Shaped) (options : List Shaped) (rows : List Row) → AreFresh rows (option ∷ options) → AllByRecursion (IsOther option) options
fresh_others option options rows fresh = go options (fresh_absent options (rows ++ row_for option ∷ []) fresh.1) where
  go : (more : List Shaped) → AllByRecursion (λ (other : Shaped). has_row (label other.name) (rows ++ row_for option ∷ []) ≡ false) more → AllByRecursion (IsOther option) more
  go [] none = tt
  go (other ∷ more) none =
      let parts = or_parts (has_row (label other.name) rows) (bytes_eq (label option.name) (label other.name) || false) (sym (has_row-more (label other.name) rows (row_for option)) ∙ none.0) in
      ((or_parts (bytes_eq (label option.name) (label other.name)) false parts.1).0, go more none.1)

-- each option is the one of its name
each_found : (options : List Shaped) (rows : List Row) → AreFresh rows options → AllByRecursion (λ (option : Shaped). form_of options option.name ≡ Some option.form) options
each_found [] rows fresh = tt
each_found (option ∷ options) rows fresh =
    (rw (bytes_eq-refl (label option.name)) refl, go options (fresh_others option options rows fresh) (each_found options (rows ++ row_for option ∷ []) fresh.1)) where
      go : (more : List Shaped) → AllByRecursion (IsOther option) more → AllByRecursion (λ (other : Shaped). form_of options other.name ≡ Some other.form) more
          → AllByRecursion (λ (other : Shaped). form_of (option ∷ options) other.name ≡ Some other.form) more
      go [] others found = tt
      go (other ∷ more) others found = (rw (others.0) (found.0), go more others.1 found.1)

-- ---- the values of the texts

text_has : (range : Option Range) (form : Form) (value : Option ℕ) → Fits (is_some range) form → (is_some range ≡ true → TextGives range (Some (text_in form)) value) → (spelt : ℕ) × HasValue range form spelt
text_has None Alone value fits gives = (0, (refl, refl))
text_has (Some range) Alone value fits gives = absurd fits
text_has None (Apart text) value fits gives = absurd fits
text_has None (Joined text) value fits gives = absurd fits
text_has (Some range) (Apart text) None fits gives = absurd (gives refl)
text_has (Some range) (Apart text) (Some value) fits gives = (value, gives refl)
text_has (Some range) (Joined text) None fits gives = absurd (gives refl)
text_has (Some range) (Joined text) (Some value) fits gives = (value, gives refl)

-- each name that takes a value is given one by its text, or none
abbrev pub AllGive : List Name → List Shaped → Type 0
AllGive known options = (name : Name) → Contains known name → takes_value name ≡ true → (given : Option ℕ) × TextGives (range_of name) (option_map text_in (form_of options name)) given

abbrev HasSomeValue : Shaped → Type 0
HasSomeValue option = (value : ℕ) × HasValue (range_of option.name) option.form value

each_valued : (known : List Name) (options : List Shaped) (rows : List Row) → AreKnown known options → AreFresh rows options → AllGive known options → AllByRecursion HasSomeValue options
each_valued known options rows lawful fresh give = go options lawful (each_found options rows fresh) where
  by_name : (option : Shaped) → Contains known option.name → Fits (takes_value option.name) option.form → form_of options option.name ≡ Some option.form → (takes : Bool) → takes_value option.name ≡ takes → HasSomeValue option
  by_name option member fits found true takes =
      let text = give option.name member takes in
      text_has (range_of option.name) option.form text.0 fits (λ some. rw found at text.1)
  by_name option member fits found false flag = text_has (range_of option.name) option.form None fits (λ some. absurd (true≢false (sym some ∙ flag)))

  go : (more : List Shaped) → AreKnown known more → AllByRecursion (λ (option : Shaped). form_of options option.name ≡ Some option.form) more → AllByRecursion HasSomeValue more
  go [] lawful found = tt
  go (option ∷ more) lawful found = (by_name option lawful.0 lawful.1 found.0 (takes_value option.name) refl, go more lawful.2 found.1)

-- the options with their values
pub record Gathered (known : List Name) (options : List Shaped) : Type 0 where
  pub options_given : List Given
  pub shapes : map shape options_given ≡ options
  pub lawful : AreLawful known options_given

others_given : (option : Shaped) (given : List Given) → AllByRecursion (IsOther option) (map shape given) → AllByRecursion (λ (other : Given). other.name ≢ option.name) given
others_given option [] others = tt
others_given option (first ∷ given) others = (
  (λ name. true≢false (sym (bytes_eq-refl (label option.name)) ∙ ap (λ n. bytes_eq (label option.name) (label n)) (sym name) ∙ others.0)),
  others_given option given others.1,
)

gather : (known : List Name) (options : List Shaped) (rows : List Row) → AreKnown known options → AreFresh rows options → AllByRecursion HasSomeValue options → Gathered known options
gather known [] rows lawful fresh valued = record { options_given = []; shapes = refl; lawful = tt }
gather known (option ∷ options) rows lawful fresh valued =
    let rest = gather known options (rows ++ row_for option ∷ []) lawful.2 fresh.1 valued.1 in
    let first = given option.name option.form valued.0.0 in
    let once = none_gives rest.options_given option.name (others_given option rest.options_given
    (subst (λ (more : List Shaped). AllByRecursion (IsOther option) more) (sym rest.shapes) (fresh_others option options rows fresh))) in
    record {
      options_given = first ∷ rest.options_given;
      shapes = ap (λ (more : List Shaped). option ∷ more) rest.shapes;
      lawful = (lawful.0, valued.0.1, once, rest.lawful);
    }

pub gathered : (known : List Name) (options : List Shaped) → AreKnown known options → AreFresh [] options → AllGive known options → Gathered known options
gathered known options lawful fresh give = gather known options [] lawful fresh (each_valued known options [] lawful fresh give)
