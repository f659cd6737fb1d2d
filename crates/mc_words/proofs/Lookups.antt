-- What the matches say of an option's name, by the options that are written.
use Rattle.std.proofs.Common.{◌≡◌, ◌∙◌, ◌<◌, ◌||◌, ℕ, zero, suc, Bool, true, false, cond, List, [], ◌∷◌, ◌++◌, map, length, Option, Some, None, is_some, option_map, refl, sym, ap, subst, arith, codes, Contains, true≢false}
use Rattle.std.specs.Prelude.{option_and_then, slice_get}
use Rattle.std.specs.List.{find, slice_index_or}
use Rattle.std.specs.Option.{option_or}
use Rattle.std.specs.Str.{bytes_eq}
use Rattle.std.proofs.lemmas.List.Folds.{find-append}
use Rattle.clap.proofs.WalkLemmas.{find-map}
use Rattle.clap.specs.Walk.{Row, Text, first_of, has_row, one_of, row_text, with_default}
use Rattle.clap.specs.declared.parser.matches.ValueSource.TheVariants.{DefaultValue}
use Rattle.mc_words.specs.declared.names.Name.{Name}
use Rattle.mc_words.specs.Spelling.{label, takes_value}
use Rattle.mc_words.specs.Options.{Form, Alone, Apart, Joined}
use Rattle.mc_words.proofs.BuiltRules.{built_by, built_rule, bytes_eq-ne, bytes_eq-refl, bytes_eq-true, label_injective}
use Rattle.mc_words.proofs.Uses.{row_from, with_values-none}
use Rattle.mc_words.proofs.Shapes.{AreKnown, Fits, Shaped, row_for, shaped, values_in}
use Rattle.mc_words.proofs.Leaves.{with_defaults}

abbrev pub row_of_id : Text → List Row → Option Row
row_of_id id rows = find (λ (r : Row). bytes_eq r.id id) rows

-- how the option of a name is written, if one is
abbrev pub form_of : List Shaped → Name → Option Form
form_of options name = option_map (λ option. option.form) (find (λ option. bytes_eq (label option.name) (label name)) options)

abbrev pub text_in : Form → Text
text_in Alone = codes "true"
text_in (Apart text) = text
text_in (Joined text) = text

-- ---- rows by their ids

has_row-find : (id : Text) (rows : List Row) → has_row id rows ≡ is_some (row_of_id id rows)
has_row-find id [] = refl
has_row-find id (row ∷ rows) = go (bytes_eq row.id id) (has_row-find id rows) where
  go : (b : Bool) → has_row id rows ≡ is_some (row_of_id id rows) → (b || has_row id rows) ≡ is_some (cond b (Some row) (row_of_id id rows))
  go true e = refl
  go false e = e

or_none : (o : Option Row) → option_or o None ≡ o
or_none None = refl
or_none (Some row) = refl

module _ (name : Name) where
  -- the row of a flag that is not given
  abbrev pub unset_row : Name → Row
  unset_row flag = row_from DefaultValue (label flag) (codes "false" ∷ [])

  one_row-other : (flag : Name) → (flag ≡ name → ⊥) → row_of_id (label name) (unset_row flag ∷ []) ≡ None
  one_row-other flag differs =
      let ne : bytes_eq (label flag) (label name) ≡ false = bytes_eq-ne (label flag) (label name) (λ same. differs (label_injective flag name same)) in
      rw ne refl

  -- a default of another name
  default-other : (rows : List Row) (other : Name) (takes : Bool) → (takes ≡ false → other ≡ name → ⊥)
      → row_of_id (label name) (with_default rows (built_by (label other) takes)) ≡ row_of_id (label name) rows
  default-other rows other true differs = go (has_row (label other) rows) refl where
    go : (b : Bool) → has_row (label other) rows ≡ b → row_of_id (label name) (with_default rows (built_by (label other) true)) ≡ row_of_id (label name) rows
    go true is = rw is refl
    go false is = rw is refl
  default-other rows other false differs = go (has_row (label other) rows) refl where
    go : (b : Bool) → has_row (label other) rows ≡ b → row_of_id (label name) (with_default rows (built_by (label other) false)) ≡ row_of_id (label name) rows
    go true is = rw is refl
    go false is =
        let added : with_default rows (built_by (label other) false) ≡ rows ++ unset_row other ∷ [] = rw is (with_values-none DefaultValue (label other) (codes "false" ∷ []) rows is) in
        ap (row_of_id (label name)) added ∙ find-append (λ (r : Row). bytes_eq r.id (label name)) rows (unset_row other ∷ [])
        ∙ ap (option_or (row_of_id (label name) rows)) (one_row-other other (differs refl)) ∙ or_none (row_of_id (label name) rows)

  -- no default changes the row of an option that takes a value
  pub value-default : takes_value name ≡ true → (known : List Name) (rows : List Row) → row_of_id (label name) (with_defaults known rows) ≡ row_of_id (label name) rows
  value-default takes [] rows = refl
  value-default takes (other ∷ known) rows =
      value-default takes known (with_default rows (built_rule other))
      ∙ default-other rows other (takes_value other) (λ flag same. true≢false (sym takes ∙ ap takes_value (sym same) ∙ flag))

  -- a row that is there stays
  row-stays : (rows : List Row) (row : Row) (other : Name) (takes : Bool) → row_of_id (label name) rows ≡ Some row
      → row_of_id (label name) (with_default rows (built_by (label other) takes)) ≡ Some row
  row-stays rows row other true is = default-other rows other true (λ flag. absurd (true≢false flag)) ∙ is
  row-stays rows row other false is = go (has_row (label other) rows) refl where
    go : (b : Bool) → has_row (label other) rows ≡ b → row_of_id (label name) (with_default rows (built_by (label other) false)) ≡ Some row
    go true there = rw there is
    go false none =
        let added : with_default rows (built_by (label other) false) ≡ rows ++ unset_row other ∷ [] = rw none (with_values-none DefaultValue (label other) (codes "false" ∷ []) rows none) in
        ap (row_of_id (label name)) added ∙ find-append (λ (r : Row). bytes_eq r.id (label name)) rows (unset_row other ∷ [])
        ∙ ap (λ o. option_or o (row_of_id (label name) (unset_row other ∷ []))) is

  pub rows-stay : (known : List Name) (rows : List Row) (row : Row) → row_of_id (label name) rows ≡ Some row → row_of_id (label name) (with_defaults known rows) ≡ Some row
  rows-stay [] rows row is = is
  rows-stay (other ∷ known) rows row is = rows-stay known (with_default rows (built_rule other)) row (row-stays rows row other (takes_value other) is)

  -- a flag that is not given has its default
  own-default : (rows : List Row) → takes_value name ≡ false → row_of_id (label name) rows ≡ None → row_of_id (label name) (with_default rows (built_rule name)) ≡ Some (unset_row name)
  own-default rows flag none =
      let absent : has_row (label name) rows ≡ false = has_row-find (label name) rows ∙ ap (λ (o : Option Row). is_some o) none in
      let added : with_default rows (built_by (label name) false) ≡ rows ++ unset_row name ∷ [] = rw absent (with_values-none DefaultValue (label name) (codes "false" ∷ []) rows absent) in
      let own : row_of_id (label name) (unset_row name ∷ []) ≡ Some (unset_row name) = rw (bytes_eq-refl (label name)) refl in
      ap (λ takes. row_of_id (label name) (with_default rows (built_by (label name) takes))) flag
      ∙ ap (row_of_id (label name)) added ∙ find-append (λ (r : Row). bytes_eq r.id (label name)) rows (unset_row name ∷ [])
      ∙ ap (λ o. option_or o (row_of_id (label name) (unset_row name ∷ []))) none ∙ own

  pub flag-default : (known : List Name) (rows : List Row) → takes_value name ≡ false → Contains known name → row_of_id (label name) rows ≡ None
      → row_of_id (label name) (with_defaults known rows) ≡ Some (unset_row name)
  flag-default [] rows flag member none = absurd (omega (arith, member.1))
  flag-default (other ∷ known) rows flag member none = go (bytes_eq (label other) (label name)) refl (flag-default known) where
    later : (other ≡ name → ⊥) → (k : ℕ) → k < length (other ∷ known) → slice_index_or (other ∷ known) k name ≡ name → Contains known name
    later differs zero below at = absurd (differs at)
    later differs (suc k) below at = (k, omega arith, at)

    go : (b : Bool) → bytes_eq (label other) (label name) ≡ b
        → ((rows : List Row) → takes_value name ≡ false → Contains known name → row_of_id (label name) rows ≡ None → row_of_id (label name) (with_defaults known rows) ≡ Some (unset_row name))
        → row_of_id (label name) (with_defaults (other ∷ known) rows) ≡ Some (unset_row name)
    go true is rest =
        let same : name ≡ other = sym (label_injective other name (bytes_eq-true (label other) (label name) is)) in
        let own = subst (λ (n : Name). row_of_id (label name) (with_default rows (built_rule n)) ≡ Some (unset_row name)) same (own-default rows flag none) in
        rows-stay known (with_default rows (built_rule other)) (unset_row name) own
    go false is rest =
        let differs : other ≡ name → ⊥ = λ same. true≢false (sym (bytes_eq-refl (label name)) ∙ ap (λ n. bytes_eq (label n) (label name)) (sym same) ∙ is) in
        rest (with_default rows (built_rule other)) flag (later differs member.0 member.1 member.2)
        (default-other rows other (takes_value other) (λ flag. differs) ∙ none)

-- ---- what the matches give

row_of-options : (options : List Shaped) (name : Name) → row_of_id (label name) (map row_for options) ≡ option_map row_for (find (λ option. bytes_eq (label option.name) (label name)) options)
row_of-options options name = sym (find-map (λ (r : Row). bytes_eq r.id (label name)) row_for options)

values-first : (form : Form) → slice_get (values_in form) 0 ≡ Some (text_in form)
values-first Alone = refl
values-first (Apart text) = refl
values-first (Joined text) = refl

-- the text of an option that takes a value
pub first_of-value : (known : List Name) (options : List Shaped) (name : Name) → takes_value name ≡ true
    → first_of (label name) (with_defaults known (map row_for options)) ≡ option_map text_in (form_of options name)
first_of-value known options name takes =
    ap (option_and_then (λ (r : Row). slice_get r.values 0)) (value-default name takes known (map row_for options) ∙ row_of-options options name)
    ∙ go (find (λ option. bytes_eq (label option.name) (label name)) options)
  where
    go : (o : Option Shaped) → option_and_then (λ (r : Row). slice_get r.values 0) (option_map row_for o) ≡ option_map text_in (option_map (λ option. option.form) o)
    go None = refl
    go (Some option) = values-first option.form

abbrev pub given_as : List Shaped → Name → Option Shaped
given_as options name = find (λ option. bytes_eq (label option.name) (label name)) options

-- the option of a name fits it
pub given-fits : (known : List Name) (options : List Shaped) (name : Name) (option : Shaped) → AreKnown known options → given_as options name ≡ Some option → Fits (takes_value name) option.form
given-fits known [] name option lawful is = cc
given-fits known (first ∷ options) name option lawful is = go (bytes_eq (label first.name) (label name)) refl (given-fits known options name option lawful.2) is where
  go : (b : Bool) → bytes_eq (label first.name) (label name) ≡ b → (given_as options name ≡ Some option → Fits (takes_value name) option.form)
      → cond b (Some first) (given_as options name) ≡ Some option → Fits (takes_value name) option.form
  go true same later is =
      let names : first.name ≡ name = label_injective first.name name (bytes_eq-true (label first.name) (label name) same) in
      let options_same : first ≡ option = cc in
      subst (λ (o : Shaped). Fits (takes_value name) o.form) options_same (subst (λ (n : Name). Fits (takes_value n) first.form) names lawful.1)
  go false same later is = later is

fits-alone : (takes : Bool) (form : Form) → takes ≡ false → Fits takes form → form ≡ Alone
fits-alone true form flag fits = absurd (true≢false flag)
fits-alone false Alone flag fits = refl
fits-alone false (Apart text) flag fits = absurd fits
fits-alone false (Joined text) flag fits = absurd fits

-- a flag is `true` where it is given, and else `false`
pub one_of-flag : (known : List Name) (options : List Shaped) (name : Name) → AreKnown known options → takes_value name ≡ false → Contains known name
    → one_of (label name) (with_defaults known (map row_for options)) ≡ Some (cond (is_some (form_of options name)) (codes "true") (codes "false"))
one_of-flag known options name lawful flag member = go (given_as options name) refl where
  go : (o : Option Shaped) → given_as options name ≡ o
      → one_of (label name) (with_defaults known (map row_for options)) ≡ Some (cond (is_some (form_of options name)) (codes "true") (codes "false"))
  go None none =
      let row = flag-default name known (map row_for options) flag member (row_of-options options name ∙ ap (option_map row_for) none) in
      rw none (ap (option_and_then row_text) row)
  go (Some option) there =
      let row = rows-stay name known (map row_for options) (row_for option) (row_of-options options name ∙ ap (option_map row_for) there) in
      let alone = fits-alone (takes_value name) option.form flag (given-fits known options name option lawful there) in
      rw there (ap (option_and_then row_text) row ∙ ap (λ (form : Form). row_text (row_for (shaped option.name form))) alone)
