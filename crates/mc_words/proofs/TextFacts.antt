-- What the getters of matches read, by their rows.
use Rattle.std.proofs.Common.{◌≡◌, ◌∙◌, ℕ, Bool, true, false, cond, Option, Some, None, is_some, refl, sym, ap, codes}
use Rattle.clap.specs.Words.{Text, first_of, first_value, one_of, one_text, rows_of}
use Rattle.clap.specs.declared.parser.matches.Found.{Found}
use Rattle.clap.proofs.WalkLemmas.{first_value-rows, one_text-rows}
use Rattle.mc_words.specs.declared.names.Range.{Range}
use Rattle.mc_words.specs.Spelling.{IsValue}
use Rattle.mc_words.specs.Matched.{FlagGives, TextGives}

module _ (found : Found) (id name : Text) (is : id ≡ name) where
  text_at : (text : Option Text) → text ≡ first_value found id → first_of name (rows_of found) ≡ text
  text_at text read = ap (λ (n : Text). first_of n (rows_of found)) (sym is) ∙ sym (first_value-rows found id) ∙ sym read

  -- no text gives nothing
  pub no_text : (range : Option Range) → None ≡ first_value found id → TextGives range (first_of name (rows_of found)) None
  no_text range read = rw (text_at None read) refl

  -- a text gives the value that it spells
  pub text_given : (range : Option Range) (text : Text) (value : ℕ) → Some text ≡ first_value found id → IsValue range text value → TextGives range (first_of name (rows_of found)) (Some value)
  text_given range text value read spells = rw (text_at (Some text) read) spells

  -- a text that spells no value gives nothing lawful
  pub text_refused : (range : Option Range) (text : Text) → Some text ≡ first_value found id → ((value : ℕ) → IsValue range text value → ⊥)
      → (given : Option ℕ) → TextGives range (first_of name (rows_of found)) given → ⊥
  text_refused range text read none given gives = go given (rw (text_at (Some text) read) at gives) where
    go : (given : Option ℕ) → TextGives range (Some text) given → ⊥
    go None gives = gives
    go (Some value) gives = none value gives

  -- a flag is up where its text is `true`
  pub flag_read : (result : Bool) → (one_text found id ≡ Some (codes "true") → result ≡ true) → (one_text found id ≡ Some (codes "false") → result ≡ false)
      → (given : Bool) → one_of name (rows_of found) ≡ Some (cond given (codes "true") (codes "false")) → result ≡ given
  flag_read result up down true text = up (one_text-rows found id ∙ ap (λ (n : Text). one_of n (rows_of found)) is ∙ text)
  flag_read result up down false text = down (one_text-rows found id ∙ ap (λ (n : Text). one_of n (rows_of found)) is ∙ text)

-- the text of a flag, by whether it is given
pub flag_text : (text : Option Text) (given : Option ℕ) → FlagGives text given → text ≡ Some (cond (is_some given) (codes "true") (codes "false"))
flag_text text None gives = gives
flag_text text (Some value) gives = gives.0
