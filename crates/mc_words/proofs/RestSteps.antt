-- What `clap` does with a word of a command that has options alone, where nothing waits for a value.
use Rattle.std.proofs.Common.{◌≡◌, ℕ, true, false, List, [], ◌∷◌, Option, Some, None, refl}
use Rattle.std.specs.Prelude.{slice_get}
use Rattle.std.specs.Str.{bytes_eq, chars}
use Rattle.clap.specs.Lexer.{long_of, short_of}
use Rattle.clap.specs.Kinds.{Kinds, or_else}
use Rattle.clap.specs.Walk.{Held, Text, Walk, arg_by_long, option, reacted, settled, walk_from, walked, bundle_met}
use Rattle.clap.specs.Simple.{Shape, new_shape}
use Rattle.clap.specs.Faults.{flags_fault, react_fault, settle_fault, turn_fault}
use Rattle.clap.specs.declared.error.kind.ErrorKind.TheVariants.{TooManyValues, UnknownArgument}
use Rattle.mc_words.specs.declared.names.Name.{Name}
use Rattle.mc_words.proofs.BuiltRules.{arg_by_index-built, arg_by_short-built, built_by, built_rules}

-- a command with these options, as `clap` builds it
abbrev pub leaf : Text → List Name → Shape
leaf name known = record (new_shape name) {
  rules = built_rules known;
  no_binary_name = true;
  disable_help_flag = true;
  disable_help_subcommand = true;
  disable_version_flag = true;
  is_built = true;
}

abbrev pub dashes : Text
dashes = 45 ∷ 45 ∷ []

-- the walk behind an option's name, where its value is to come
abbrev pub waiting_for : List Name → Text → Held → Walk
waiting_for known id h = record {
  held = record (settled (built_rules known) h) { pending = Some (id, []) };
  waiting = option id;
  position = 1;
  is_trailing = false;
  stopped = None;
}

pub or_else-empty : (first next : Kinds) → or_else first next ≡ [] → (first ≡ []) × (next ≡ [])
or_else-empty [] next e = (refl, e)
or_else-empty (kind ∷ first) next e = cc

pub or_else-both : (first next : Kinds) → first ≡ [] → next ≡ [] → or_else first next ≡ []
or_else-both first next none also = rw (none, also) refl

module _ (command : Text) (known : List Name) (h : Held) (word : Text) (differs : bytes_eq word dashes ≡ false) where
  -- an option with its value behind `=`
  pub joined-walked : (name text id : Text) → long_of word ≡ Some (name, Some text) → arg_by_long (built_rules known) name ≡ Some (built_by id true)
      → walked (built_rules known) [] (walk_from h) word ≡ walk_from (reacted (built_rules known) (built_by id true) (text ∷ []) h)
  unfolding walked
  joined-walked name text id long found = rw (differs, long, found) refl

  pub joined-fault : (name text id : Text) → long_of word ≡ Some (name, Some text) → arg_by_long (built_rules known) name ≡ Some (built_by id true)
      → turn_fault (leaf command known) [] (walk_from h) word ≡ or_else (react_fault (built_rules known) false (built_by id true) (text ∷ []) h) []
  joined-fault name text id long found = rw (differs, long, found) refl

  -- an option's name, where its value is the next word
  pub apart-walked : (name id : Text) → long_of word ≡ Some (name, None) → arg_by_long (built_rules known) name ≡ Some (built_by id true)
      → walked (built_rules known) [] (walk_from h) word ≡ waiting_for known id h
  unfolding walked
  apart-walked name id long found = rw (differs, long, found) refl

  pub apart-fault : (name id : Text) → long_of word ≡ Some (name, None) → arg_by_long (built_rules known) name ≡ Some (built_by id true)
      → turn_fault (leaf command known) [] (walk_from h) word ≡ or_else (settle_fault (built_rules known) false h) []
  apart-fault name id long found = rw (differs, long, found) refl

  -- a flag
  pub flag-walked : (name id : Text) → long_of word ≡ Some (name, None) → arg_by_long (built_rules known) name ≡ Some (built_by id false)
      → walked (built_rules known) [] (walk_from h) word ≡ walk_from (reacted (built_rules known) (built_by id false) [] h)
  unfolding walked
  flag-walked name id long found = rw (differs, long, found) refl

  pub flag-fault : (name id : Text) → long_of word ≡ Some (name, None) → arg_by_long (built_rules known) name ≡ Some (built_by id false)
      → turn_fault (leaf command known) [] (walk_from h) word ≡ or_else (react_fault (built_rules known) false (built_by id false) [] h) []
  flag-fault name id long found = rw (differs, long, found) refl

  -- a flag with a value behind `=`, and a name that no option has
  pub flag_value-refused : (name text id : Text) → long_of word ≡ Some (name, Some text) → arg_by_long (built_rules known) name ≡ Some (built_by id false)
      → turn_fault (leaf command known) [] (walk_from h) word ≡ [] → ⊥
  flag_value-refused name text id long found none =
      let refused : turn_fault (leaf command known) [] (walk_from h) word ≡ TooManyValues ∷ [] = rw (differs, long, found) refl in
      cc

  pub unknown-refused : (name : Text) (value : Option Text) → long_of word ≡ Some (name, value) → arg_by_long (built_rules known) name ≡ None
      → turn_fault (leaf command known) [] (walk_from h) word ≡ [] → ⊥
  unknown-refused name value long found none =
      let refused : turn_fault (leaf command known) [] (walk_from h) word ≡ UnknownArgument ∷ [] = rw (differs, long, found) refl in
      cc

  -- a word that is no long option
  pub stray-refused : long_of word ≡ None → short_of word ≡ None → turn_fault (leaf command known) [] (walk_from h) word ≡ [] → ⊥
  stray-refused long short none =
      let refused : turn_fault (leaf command known) [] (walk_from h) word ≡ UnknownArgument ∷ [] = rw (differs, long, short, arg_by_index-built known 1) refl in
      cc

  pub short-refused : (flags : Text) → long_of word ≡ None → short_of word ≡ Some flags → h.skip ≡ 0 → turn_fault (leaf command known) [] (walk_from h) word ≡ [] → ⊥
  unfolding flags_fault bundle_met
  short-refused [] long short whole none =
      let refused : turn_fault (leaf command known) [] (walk_from h) word ≡ UnknownArgument ∷ [] = rw (differs, long, short, arg_by_index-built known 1) refl in
      cc
  short-refused (x ∷ flags) long short whole none = go (slice_get (chars (x ∷ flags)) 0) refl where
    go : (first : Option ℕ) → slice_get (chars (x ∷ flags)) 0 ≡ first → ⊥
    go None is =
        let refused : turn_fault (leaf command known) [] (walk_from h) word ≡ UnknownArgument ∷ [] = rw (differs, long, short, whole, is, arg_by_index-built known 1) refl in
        cc
    go (Some code) is =
        let refused : turn_fault (leaf command known) [] (walk_from h) word ≡ UnknownArgument ∷ [] = rw (differs, long, short, whole, is, arg_by_short-built known code) refl in
        cc
