-- What `clap` does with the word behind an option's name, which is the option's value.
use Rattle.std.proofs.Common.{◌≡◌, ℕ, Bool, true, false, List, [], ◌∷◌, Option, Some, None, option_map, refl}
use Rattle.std.specs.Prelude.{slice_get}
use Rattle.std.specs.Str.{bytes_eq, chars}
use Rattle.clap.specs.Lexer.{long_of, short_of}
use Rattle.clap.specs.Walk.{Held, Text, arg_by_id, bundle_met, option, settled, word_met, walk_from, walked}
use Rattle.clap.specs.Faults.{flags_fault, long_fault, settle_fault, step_fault, turn_fault, word_fault}
use Rattle.clap.specs.declared.error.kind.ErrorKind.TheVariants.{InvalidValue, UnknownArgument}
use Rattle.mc_words.specs.declared.names.Name.{Name}
use Rattle.mc_words.specs.Spelling.{label, takes_value}
use Rattle.mc_words.proofs.BuiltRules.{arg_by_long-built, arg_by_short-built, built_by, built_rule, built_rules, bytes_eq-refl, named}
use Rattle.mc_words.proofs.RestSteps.{dashes, leaf, or_else-empty, waiting_for}

-- the walk behind an option and its value
abbrev pub settles_with : List Name → Text → Text → Held → Held
settles_with known id text h = record (settled (built_rules known) h) { pending = Some (id, text ∷ []) }

module _ (command : Text) (known : List Name) (id : Text) (found : arg_by_id (built_rules known) id ≡ Some (built_by id true)) (h : Held) where
  abbrev waiting_held : Held
  waiting_held = (waiting_for known id h).held

  -- a value that is not there
  pub waiting-settle : settle_fault (built_rules known) false waiting_held ≡ [] → ⊥
  waiting-settle none =
      let refused : settle_fault (built_rules known) false waiting_held ≡ InvalidValue ∷ [] = rw found refl in
      cc

  -- an option in the value's place
  option-refused : (rule : Option Name) (value : Option Text) → long_fault (built_rules known) false (option_map built_rule rule) value waiting_held ≡ [] → ⊥
  option-refused None value none = cc
  option-refused (Some name) value none = go (takes_value name) value none where
    go : (takes : Bool) (value : Option Text) → long_fault (built_rules known) false (Some (built_by (label name) takes)) value waiting_held ≡ [] → ⊥
    go true None none =
        let refused : long_fault (built_rules known) false (Some (built_by (label name) true)) None waiting_held ≡ InvalidValue ∷ [] = rw found refl in
        cc
    go true (Some text) none =
        let refused : long_fault (built_rules known) false (Some (built_by (label name) true)) (Some text) waiting_held ≡ InvalidValue ∷ [] = rw found refl in
        cc
    go false None none =
        let refused : long_fault (built_rules known) false (Some (built_by (label name) false)) None waiting_held ≡ InvalidValue ∷ [] = rw found refl in
        cc
    go false (Some text) none = cc

  module _ (word : Text) (differs : bytes_eq word dashes ≡ false) where
    pub long-refused : (name : Text) (value : Option Text) → long_of word ≡ Some (name, value)
        → turn_fault (leaf command known) [] (waiting_for known id h) word ≡ [] → ⊥
    long-refused name value long none =
        let met = word_met (built_rules known) [] false (option id) 1 word waiting_held in
        let parts = or_else-empty (word_fault (leaf command known) [] false (option id) word waiting_held) (step_fault (leaf command known) 1 met.0 met.1) none in
        option-refused (named known name) value (rw (differs, long, arg_by_long-built known name) at parts.0)

    pub plain-walked : long_of word ≡ None → short_of word ≡ None → walked (built_rules known) [] (waiting_for known id h) word ≡ walk_from (settles_with known id word h)
    unfolding walked
    plain-walked long short = rw (differs, long, short, found, bytes_eq-refl id) refl

    empty_flags : long_of word ≡ None → short_of word ≡ Some [] → h.skip ≡ 0 → walked (built_rules known) [] (waiting_for known id h) word ≡ walk_from (settles_with known id word h)
    unfolding walked bundle_met
    empty_flags long short whole = rw (differs, long, short, whole, found, bytes_eq-refl id) refl

    some_flags : (x : ℕ) (flags : Text) → long_of word ≡ None → short_of word ≡ Some (x ∷ flags) → turn_fault (leaf command known) [] (waiting_for known id h) word ≡ []
        → h.skip ≡ 0 → walked (built_rules known) [] (waiting_for known id h) word ≡ walk_from (settles_with known id word h)
    unfolding walked bundle_met flags_fault
    some_flags x flags long short none whole = go (slice_get (chars (x ∷ flags)) 0) refl where
      go : (first : Option ℕ) → slice_get (chars (x ∷ flags)) 0 ≡ first → walked (built_rules known) [] (waiting_for known id h) word ≡ walk_from (settles_with known id word h)
      go None is = rw (differs, long, short, whole, is, found, bytes_eq-refl id) refl
      go (Some code) is =
          let refused : turn_fault (leaf command known) [] (waiting_for known id h) word ≡ UnknownArgument ∷ [] =
          rw (differs, long, short, whole, is, arg_by_short-built known code) refl in
          cc

    pub plain-fault : long_of word ≡ None → short_of word ≡ None → turn_fault (leaf command known) [] (waiting_for known id h) word ≡ []
    plain-fault long short = rw (differs, long, short) refl

    pub read-fault : turn_fault (leaf command known) [] (waiting_for known id h) word ≡ [] → h.skip ≡ 0
        → walked (built_rules known) [] (waiting_for known id h) word ≡ walk_from (settles_with known id word h)
    read-fault none whole = by_long (long_of word) refl where
      by_short : long_of word ≡ None → (flags : Option Text) → short_of word ≡ flags → walked (built_rules known) [] (waiting_for known id h) word ≡ walk_from (settles_with known id word h)
      by_short long None short = plain-walked long short
      by_short long (Some []) short = empty_flags long short whole
      by_short long (Some (x ∷ flags)) short = some_flags x flags long short none whole

      by_long : (parts : Option (Text × Option Text)) → long_of word ≡ parts → walked (built_rules known) [] (waiting_for known id h) word ≡ walk_from (settles_with known id word h)
      by_long None long = by_short long (short_of word) refl
      by_long (Some (name, value)) long = absurd (long-refused name value long none)
