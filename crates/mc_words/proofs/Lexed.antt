-- Options as `clap` cuts them: `--name` and `--name=value`.
use Rattle.std.proofs.Common.{◌≡◌, ◌∙◌, ◌<◌, ◌==◌, ◌||◌, ℕ, Bool, true, false, cond, [], ◌∷◌, ◌++◌, length, get_or, Option, Some, None, unwrap_or, refl, sym, ap, arith}
use Rattle.std.specs.List.{before_first, after_first, position_or_len}
use Rattle.std.specs.Str.{bytes_eq}
use Rattle.std.proofs.lemmas.Bool.{eqb-true}
use Rattle.std.proofs.lemmas.List.Sums.{passes_at_first, split_at_first}
use Rattle.clap.specs.Walk.{Text}
use Rattle.clap.specs.Lexer.{has_byte, long_of, long_of_rest, name_and_value, strip_byte}
use Rattle.std.specs.Prelude.{option_and_then}
use Rattle.std.proofs.lemmas.List.{take_all}
use Rattle.mc_words.specs.declared.names.Name.{Name}
use Rattle.mc_words.specs.declared.names.Name.TheVariants.{Trustees, MaxBytes, Items, Turns, Port, Workers, Connections, Seed, Ops, Clients}
use Rattle.mc_words.specs.Spelling.{label, spelled}
use Rattle.mc_words.proofs.RestSteps.{dashes}

-- the test for `=`
abbrev is_equals : ℕ → Bool
is_equals byte = byte == 61

-- ---- how an option's words are cut

pub long_of-spelled : (name : Name) → long_of (spelled name) ≡ Some (label name, None)
long_of-spelled Trustees = refl
long_of-spelled MaxBytes = refl
long_of-spelled Items = refl
long_of-spelled Turns = refl
long_of-spelled Port = refl
long_of-spelled Workers = refl
long_of-spelled Connections = refl
long_of-spelled Seed = refl
long_of-spelled Ops = refl
long_of-spelled Clients = refl

pub long_of-joined : (name : Name) (text : Text) → long_of (spelled name ++ 61 ∷ text) ≡ Some (label name, Some text)
long_of-joined Trustees text = refl
long_of-joined MaxBytes text = refl
long_of-joined Items text = refl
long_of-joined Turns text = refl
long_of-joined Port text = refl
long_of-joined Workers text = refl
long_of-joined Connections text = refl
long_of-joined Seed text = refl
long_of-joined Ops text = refl
long_of-joined Clients text = refl

pub spelled-no_dashes : (name : Name) → bytes_eq (spelled name) dashes ≡ false
spelled-no_dashes Trustees = refl
spelled-no_dashes MaxBytes = refl
spelled-no_dashes Items = refl
spelled-no_dashes Turns = refl
spelled-no_dashes Port = refl
spelled-no_dashes Workers = refl
spelled-no_dashes Connections = refl
spelled-no_dashes Seed = refl
spelled-no_dashes Ops = refl
spelled-no_dashes Clients = refl

pub joined-no_dashes : (name : Name) (text : Text) → bytes_eq (spelled name ++ 61 ∷ text) dashes ≡ false
joined-no_dashes Trustees text = refl
joined-no_dashes MaxBytes text = refl
joined-no_dashes Items text = refl
joined-no_dashes Turns text = refl
joined-no_dashes Port text = refl
joined-no_dashes Workers text = refl
joined-no_dashes Connections text = refl
joined-no_dashes Seed text = refl
joined-no_dashes Ops text = refl
joined-no_dashes Clients text = refl

-- ---- which words are cut so

has_equals : (text : Text) → has_byte 61 text ≡ true → position_or_len is_equals text < length text
has_equals [] e = cc
has_equals (x ∷ xs) e = go (has_equals xs) (is_equals x) refl e where
  go : (has_byte 61 xs ≡ true → position_or_len is_equals xs < length xs) → (b : Bool) → is_equals x ≡ b → (b || has_byte 61 xs) ≡ true
      → position_or_len is_equals (x ∷ xs) < length (x ∷ xs)
  go later true is e = rw is (omega arith)
  go later false is e =
      let below = later e in
      rw is (omega arith)

no_equals : (text : Text) → has_byte 61 text ≡ false → position_or_len is_equals text ≡ length text
no_equals [] e = refl
no_equals (x ∷ xs) e = go (no_equals xs) (is_equals x) refl e where
  go : (has_byte 61 xs ≡ false → position_or_len is_equals xs ≡ length xs) → (b : Bool) → is_equals x ≡ b → (b || has_byte 61 xs) ≡ false
      → position_or_len is_equals (x ∷ xs) ≡ length (x ∷ xs)
  go later true is e = cc
  go later false is e =
      let whole = later e in
      rw is (omega arith)

-- a name with the value behind its `=`, or alone
abbrev pub rejoined : Text → Option Text → Text
rejoined name None = name
rejoined name (Some text) = name ++ 61 ∷ text

cut-back : (text name : Text) (value : Option Text) → Some (name_and_value text) ≡ Some (name, value) → text ≡ rejoined name value
cut-back text name value e = go (has_byte 61 text) refl (ap (λ (found : Option (Text × Option Text)). unwrap_or found (name, value)) e) where
  go : (b : Bool) → has_byte 61 text ≡ b → ◌≡◌ {A = Text × Option Text} (before_first is_equals text, cond b (Some (after_first is_equals text)) None) (name, value)
      → text ≡ rejoined name value
  go true is e =
      let inside = has_equals text is in
      let parts = split_at_first is_equals text 0 inside in
      let code : get_or text (position_or_len is_equals text) 0 ≡ 61 = eqb-true _ 61 (passes_at_first is_equals text 0 inside) in
      let before : before_first is_equals text ≡ name = ap (λ (p : Text × Option Text). p.0) e in
      let behind : Some (after_first is_equals text) ≡ value = ap (λ (p : Text × Option Text). p.1) e in
      rw (← before, ← behind) (rw code at parts)
  go false is e =
      let before : before_first is_equals text ≡ name = ap (λ (p : Text × Option Text). p.0) e in
      let none : None ≡ value = ap (λ (p : Text × Option Text). p.1) e in
      let all : before_first is_equals text ≡ text = take_all (position_or_len is_equals text) text (omega (arith, no_equals text is)) in
      rw (← before, ← none) (sym all)

-- what `clap` makes of a word by its first two bytes
abbrev after_hyphens : Bool → Bool → Text → Option (Text × Option Text)
after_hyphens first second rest = option_and_then long_of_rest (cond first (cond second (Some rest) None) None)

hyphens : (x y : ℕ) (rest : Text) → long_of (x ∷ y ∷ rest) ≡ after_hyphens (x == 45) (y == 45) rest
hyphens x y rest = go (x == 45) where
  go : (first : Bool) → option_and_then long_of_rest (option_and_then (strip_byte 45) (cond first (Some (y ∷ rest)) None)) ≡ after_hyphens first (y == 45) rest
  go true = refl
  go false = refl

pub long_of-back : (word name : Text) (value : Option Text) → long_of word ≡ Some (name, value) → word ≡ 45 ∷ 45 ∷ rejoined name value
long_of-back [] name value e = cc
long_of-back (x ∷ []) name value e = go (x == 45) e where
  go : (b : Bool) → option_and_then long_of_rest (option_and_then (strip_byte 45) (cond b (Some []) None)) ≡ Some (name, value) → x ∷ [] ≡ 45 ∷ 45 ∷ rejoined name value
  go true e = cc
  go false e = cc
long_of-back (x ∷ y ∷ rest) name value e = go (x == 45) (y == 45) refl refl rest (sym (hyphens x y rest) ∙ e) where
  go : (first second : Bool) → (x == 45) ≡ first → (y == 45) ≡ second → (rest : Text) → after_hyphens first second rest ≡ Some (name, value) → x ∷ y ∷ rest ≡ 45 ∷ 45 ∷ rejoined name value
  go false second is also rest e = cc
  go true false is also rest e = cc
  go true true is also [] e = cc
  go true true is also (z ∷ rest) e = rw (eqb-true x 45 is, eqb-true y 45 also, ← (cut-back (z ∷ rest) name value e)) refl
