-- What the rows of matches give to a name is what the options give to it.
use Rattle.std.proofs.Common.{◌≡◌, ◌∙◌, ℕ, Bool, true, false, cond, List, [], ◌∷◌, map, Option, Some, None, is_some, option_map, refl, sym, ap, subst, inl, inr, codes, Contains}
use Rattle.std.specs.Str.{bytes_eq}
use Rattle.clap.specs.Walk.{Row, Text}
use Rattle.mc_words.specs.declared.names.Name.{Name}
use Rattle.mc_words.specs.declared.names.Range.{Range}
use Rattle.mc_words.specs.Spelling.{label, range_of, takes_value, IsValue}
use Rattle.mc_words.specs.Options.{Form, Alone, Apart, Joined, Given, HasValue, Gives, AreLawful}
use Rattle.mc_words.specs.Matched.{FlagGives, GivesBy, RowsGive, TextGives}
use Rattle.mc_words.proofs.BuiltRules.{bytes_eq-ne, bytes_eq-refl, bytes_eq-true, label_injective}
use Rattle.mc_words.proofs.Leaves.{with_defaults}
use Rattle.mc_words.proofs.Lookups.{first_of-value, form_of, given-fits, given_as, one_of-flag, text_in}
use Rattle.mc_words.proofs.Shapes.{AreKnown, Fits, Shaped, row_for}
use Rattle.mc_words.proofs.Valued.{shape}

-- by how the option of a name is written, if one is
abbrev pub FormGives : Option Range → Option Form → Option ℕ → Type 0
FormGives range None given = given ≡ None
FormGives range (Some form) None = ⊥
FormGives range (Some form) (Some value) = HasValue range form value

-- ---- options and how they are written

is_value_unique : (range : Option Range) (text : Text) (value other : ℕ) → IsValue range text value → IsValue range text other → value ≡ other
is_value_unique None text value other has also = absurd has
is_value_unique (Some range) text value other has also =
    let read = has.0 in
    let again = also.0 in
    cc

has_value_unique : (range : Option Range) (form : Form) (value other : ℕ) → HasValue range form value → HasValue range form other → value ≡ other
has_value_unique range Alone value other has also = has.1 ∙ sym also.1
has_value_unique range (Apart text) value other has also = is_value_unique range text value other has also
has_value_unique range (Joined text) value other has also = is_value_unique range text value other has also

pub gives-form : (known : List Name) (options : List Given) (name : Name) (given : Option ℕ) → AreLawful known options → Gives options name given
    → FormGives (range_of name) (form_of (map shape options) name) given
gives-form known [] name given lawful gives = gives
gives-form known (option ∷ options) name given lawful (inl here) =
    let same : bytes_eq (label option.name) (label name) ≡ true = rw (here.0) (bytes_eq-refl (label name)) in
    let has : HasValue (range_of name) option.form option.value = subst (λ (n : Name). HasValue (range_of n) option.form option.value) here.0 lawful.1 in
    rw (same, here.1) has
gives-form known (option ∷ options) name given lawful (inr later) =
    let differ : bytes_eq (label option.name) (label name) ≡ false = bytes_eq-ne (label option.name) (label name) (λ same. later.0 (label_injective option.name name same)) in
    rw differ (gives-form known options name given lawful.3 later.1)

pub form-gives : (known : List Name) (options : List Given) (name : Name) (given : Option ℕ) → AreLawful known options
    → FormGives (range_of name) (form_of (map shape options) name) given → Gives options name given
form-gives known [] name given lawful gives = gives
form-gives known (option ∷ options) name given lawful gives = go (bytes_eq (label option.name) (label name)) refl (form-gives known options name given lawful.3) gives where
  here : (given : Option ℕ) → option.name ≡ name → FormGives (range_of name) (Some option.form) given → given ≡ Some option.value
  here None same gives = absurd gives
  here (Some value) same gives =
      let has : HasValue (range_of name) option.form option.value = subst (λ (n : Name). HasValue (range_of n) option.form option.value) same lawful.1 in
      ap Some (has_value_unique (range_of name) option.form value option.value gives has)

  go : (b : Bool) → bytes_eq (label option.name) (label name) ≡ b → (FormGives (range_of name) (form_of (map shape options) name) given → Gives options name given)
      → FormGives (range_of name) (option_map (λ (o : Shaped). o.form) (cond b (Some (shape option)) (given_as (map shape options) name))) given → Gives (option ∷ options) name given
  go true is later gives =
      let same = label_injective option.name name (bytes_eq-true (label option.name) (label name) is) in
      inl (same, here given same gives)
  go false is later gives = inr ((λ same. cc (is, ap (λ n. bytes_eq (label n) (label name)) same, bytes_eq-refl (label name))), later gives)

-- ---- how options are written, and the rows

form_fits : (known : List Name) (options : List Shaped) (name : Name) (form : Form) → AreKnown known options → form_of options name ≡ Some form → Fits (takes_value name) form
form_fits known options name form lawful is = go (given_as options name) refl is where
  go : (o : Option Shaped) → given_as options name ≡ o → option_map (λ (o : Shaped). o.form) o ≡ Some form → Fits (takes_value name) form
  go None there is = cc
  go (Some option) there is =
      let same : option.form ≡ form = cc in
      subst (λ (f : Form). Fits (takes_value name) f) same (given-fits known options name option lawful there)

value_both : (range : Range) (form : Option Form) (given : Option ℕ) → ((f : Form) → form ≡ Some f → Fits true f)
    → (TextGives (Some range) (option_map text_in form) given → FormGives (Some range) form given) × (FormGives (Some range) form given → TextGives (Some range) (option_map text_in form) given)
value_both range None given fits = ((λ gives. gives), (λ gives. gives))
value_both range (Some Alone) given fits = absurd (fits Alone refl)
value_both range (Some (Apart text)) None fits = ((λ gives. gives), (λ gives. gives))
value_both range (Some (Apart text)) (Some value) fits = ((λ gives. gives), (λ gives. gives))
value_both range (Some (Joined text)) None fits = ((λ gives. gives), (λ gives. gives))
value_both range (Some (Joined text)) (Some value) fits = ((λ gives. gives), (λ gives. gives))

abbrev flag_text : Option Form → Option Text
flag_text form = Some (cond (is_some form) (codes "true") (codes "false"))

flag_both : (form : Option Form) (given : Option ℕ) → ((f : Form) → form ≡ Some f → Fits false f)
    → (FlagGives (flag_text form) given → FormGives None form given) × (FormGives None form given → FlagGives (flag_text form) given)
flag_both None None fits = ((λ gives. refl), (λ gives. refl))
flag_both None (Some value) fits = ((λ gives. cc (gives.0)), (λ gives. cc))
flag_both (Some Alone) None fits = ((λ gives. cc), (λ gives. absurd gives))
flag_both (Some Alone) (Some value) fits = ((λ gives. (refl, gives.1)), (λ gives. (refl, gives.1)))
flag_both (Some (Apart text)) given fits = absurd (fits (Apart text) refl)
flag_both (Some (Joined text)) given fits = absurd (fits (Joined text) refl)

-- The rows give a name what the options' form gives.
pub rows-form : (known : List Name) (options : List Shaped) (name : Name) (given : Option ℕ) → AreKnown known options → Contains known name
    → (RowsGive (with_defaults known (map row_for options)) name given → FormGives (range_of name) (form_of options name) given)
    × (FormGives (range_of name) (form_of options name) given → RowsGive (with_defaults known (map row_for options)) name given)
rows-form known options name given lawful member = go (range_of name) refl where
  rows : List Row
  rows = with_defaults known (map row_for options)

  go : (range : Option Range) → range_of name ≡ range
      → (GivesBy range (with_defaults known (map row_for options)) (label name) given → FormGives range (form_of options name) given)
      × (FormGives range (form_of options name) given → GivesBy range (with_defaults known (map row_for options)) (label name) given)
  go None is =
      let text = one_of-flag known options name lawful (ap (λ (r : Option Range). is_some r) is) member in
      let both = flag_both (form_of options name) given (λ f there. subst (λ (b : Bool). Fits b f) (ap (λ (r : Option Range). is_some r) is) (form_fits known options name f lawful there)) in
      ((λ gives. both.0 (subst (λ (t : Option Text). FlagGives t given) text gives)), (λ gives. subst (λ (t : Option Text). FlagGives t given) (sym text) (both.1 gives)))
  go (Some range) is =
      let text = first_of-value known options name (ap (λ (r : Option Range). is_some r) is) in
      let both = value_both range (form_of options name) given (λ f there. subst (λ (b : Bool). Fits b f) (ap (λ (r : Option Range). is_some r) is) (form_fits known options name f lawful there)) in
      ((λ gives. both.0 (subst (λ (t : Option Text). TextGives (Some range) t given) text gives)), (λ gives. subst (λ (t : Option Text). TextGives (Some range) t given) (sym text) (both.1 gives)))
