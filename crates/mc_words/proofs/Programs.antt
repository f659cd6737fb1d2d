-- The first word is a command's name, and `clap` leaves the words behind it to the command.
use Rattle.std.proofs.Common.{◌≡◌, ◌∙◌, ℕ, Bool, true, false, List, [], ◌∷◌, ◌++◌, Option, Some, None, is_some, refl, sym, ap, subst, codes, inl, inr}
use Rattle.std.specs.Prelude.{◌⊎◌, slice_get}
use Rattle.std.specs.List.{AllByRecursion, fold}
use Rattle.std.specs.Str.{bytes_eq, chars}
use Rattle.clap.specs.Lexer.{long_of, short_of}
use Rattle.clap.specs.Kinds.{Kinds, or_else}
use Rattle.clap.specs.Walk.{Held, Names, Text, Walk, bundle_met, finished, idle, nothing_held, rows_after, settled, subcommand_met, walk, walk_from, walked}
use Rattle.clap.specs.Simple.{App, Shape, built, entered, subcommand_of}
use Rattle.clap.specs.Faults.{check_fault, defaults_fault, entered_fault, fault_of, flags_fault, level_fault, settle_fault, turn_fault, walk_fault}
use Rattle.clap.proofs.WalkLemmas.{walk_stopped}
use Rattle.clap.specs.declared.error.kind.ErrorKind.TheVariants.{InvalidSubcommand, UnknownArgument}
use Rattle.mc_words.specs.declared.names.Name.{Name}
use Rattle.mc_words.specs.Commands.{program}
use Rattle.mc_words.specs.LoadWords.{load_names}
use Rattle.mc_words.specs.RunWords.{run_names}
use Rattle.mc_words.specs.ServeWords.{serve_names}
use Rattle.mc_words.proofs.BuiltRules.{built_rules, bytes_eq-true}
use Rattle.mc_words.proofs.RestSteps.{dashes, leaf, or_else-both, or_else-empty}
use Rattle.mc_words.proofs.WalkBack.{IsNoDashes}

abbrev pub top : Shape
top = record program.top { is_built = true }

abbrev pub built_program : App
built_program = record { top = top; subs = leaf (codes "run") run_names ∷ leaf (codes "serve") serve_names ∷ leaf (codes "load") load_names ∷ [] }

-- this is the program as `clap` builds it
program-built : built program ≡ built_program
program-built = refl

abbrev pub commands : Names
commands = (codes "run", []) ∷ (codes "serve", []) ∷ (codes "load", []) ∷ []

-- ---- a word that names no command

module _ (h : Held) (whole : h.skip ≡ 0) (word : Text) (differs : bytes_eq word dashes ≡ false) (unmet : subcommand_met commands idle word ≡ None) where
  stranger-long : (name : Text) (value : Option Text) → long_of word ≡ Some (name, value) → turn_fault top commands (walk_from h) word ≡ [] → ⊥
  stranger-long name value long none =
      let refused : turn_fault top commands (walk_from h) word ≡ UnknownArgument ∷ [] = rw (unmet, differs, long) refl in
      cc

  stranger-plain : long_of word ≡ None → short_of word ≡ None → turn_fault top commands (walk_from h) word ≡ [] → ⊥
  stranger-plain long short none =
      let refused : turn_fault top commands (walk_from h) word ≡ UnknownArgument ∷ InvalidSubcommand ∷ [] = rw (unmet, differs, long, short) refl in
      cc

  stranger-short : (flags : Text) → long_of word ≡ None → short_of word ≡ Some flags → turn_fault top commands (walk_from h) word ≡ [] → ⊥
  unfolding flags_fault bundle_met
  stranger-short [] long short none =
      let refused : turn_fault top commands (walk_from h) word ≡ UnknownArgument ∷ InvalidSubcommand ∷ [] = rw (unmet, differs, long, short) refl in
      cc
  stranger-short (x ∷ flags) long short none = go (slice_get (chars (x ∷ flags)) 0) refl where
    go : (first : Option ℕ) → slice_get (chars (x ∷ flags)) 0 ≡ first → ⊥
    go None is =
        let refused : turn_fault top commands (walk_from h) word ≡ UnknownArgument ∷ InvalidSubcommand ∷ [] = rw (unmet, differs, long, short, whole, is) refl in
        cc
    go (Some code) is =
        let refused : turn_fault top commands (walk_from h) word ≡ UnknownArgument ∷ [] = rw (unmet, differs, long, short, whole, is) refl in
        cc

  pub stranger-refused : turn_fault top commands (walk_from h) word ≡ [] → ⊥
  stranger-refused none = by_long (long_of word) refl where
    by_short : long_of word ≡ None → (flags : Option Text) → short_of word ≡ flags → ⊥
    by_short long None short = stranger-plain long short none
    by_short long (Some flags) short = stranger-short flags long short none

    by_long : (parts : Option (Text × Option Text)) → long_of word ≡ parts → ⊥
    by_long None long = by_short long (short_of word) refl
    by_long (Some (name, value)) long = stranger-long name value long none

-- ---- behind a command

abbrev pub behind : Text → List Text → Walk
behind name words = record (walk_from nothing_held) { stopped = Some (name, words) }

stopped-passes : (name : Text) (seen words : List Text) → walk_fault top commands (behind name seen) words ≡ []
unfolding walk_fault walked
stopped-passes name seen [] = refl
stopped-passes name seen (word ∷ rest) = stopped-passes name (seen ++ word ∷ []) rest

module _ (name word : Text) (met : subcommand_met commands idle word ≡ Some name) (no_help : bytes_eq name (codes "help") ≡ false) (rest : List Text) where
  enters : walked [] commands (walk_from nothing_held) word ≡ behind name []
  unfolding walked
  enters = rw met refl

  pub stops : walk [] commands nothing_held (word ∷ rest) ≡ behind name rest
  stops = ap (λ (w : Walk). fold (walked [] commands) w rest) enters ∙ sym (walk_stopped [] commands (walk_from nothing_held) name [] rest)

  pub enters-passes : walk_fault top commands (walk_from nothing_held) (word ∷ rest) ≡ []
  unfolding walk_fault
  enters-passes =
      let turn : turn_fault top commands (walk_from nothing_held) word ≡ [] = rw (met, no_help) refl in
      or_else-both (turn_fault top commands (walk_from nothing_held) word) (walk_fault top commands (walked [] commands (walk_from nothing_held) word) rest) turn
      (subst (λ (w : Walk). walk_fault top commands w rest ≡ []) (sym enters) (stopped-passes name [] rest))

first_turn : (word : Text) (rest : List Text) → walk_fault top commands (walk_from nothing_held) (word ∷ rest) ≡ [] → turn_fault top commands (walk_from nothing_held) word ≡ []
unfolding walk_fault
first_turn word rest passes =
    (or_else-empty (turn_fault top commands (walk_from nothing_held) word) (walk_fault top commands (walked [] commands (walk_from nothing_held) word) rest) passes).0

-- ---- the whole parse

-- what may fail behind the walk
abbrev pub fault_behind : Walk → Kinds
fault_behind w = or_else (entered_fault built_program w.stopped) (or_else (settle_fault [] false w.held)
    (or_else (defaults_fault (settled [] w.held).rows []) (check_fault top (finished [] w.held) (is_some (entered built_program w.stopped)))))

-- this is what `clap` may say of words
fault_of-program : (words : List Text) → fault_of program words ≡ or_else (walk_fault top commands (walk_from nothing_held) words) (fault_behind (walk [] commands nothing_held words))
fault_of-program words = refl

-- the words are a command's name, and words that it takes
pub record AtCommand (name : Text) (known : List Name) (words : List Text) : Type 0 where
  pub rest : List Text
  pub begins : words ≡ name ∷ rest
  pub passes : level_fault (leaf name known) [] nothing_held rest false [] ≡ []
  pub enters : subcommand_of program words ≡ Some (name, rows_after (built_rules known) [] rest)

-- how the command of this name stands in the program
pub record IsCommand (name : Text) (known : List Name) : Type 0 where
  pub meets : subcommand_met commands idle name ≡ Some name
  pub no_help : bytes_eq name (codes "help") ≡ false
  pub fault : (rest : List Text) → fault_behind (behind name rest) ≡ or_else (level_fault (leaf name known) [] nothing_held rest false []) []
  pub rows : (rest : List Text) → entered built_program (Some (name, rest)) ≡ Some (name, rows_after (built_rules known) [] rest)

pub run_command : IsCommand (codes "run") run_names
unfolding defaults_fault
run_command = record { meets = refl; no_help = refl; fault = λ rest. refl; rows = λ rest. refl }

pub serve_command : IsCommand (codes "serve") serve_names
unfolding defaults_fault
serve_command = record { meets = refl; no_help = refl; fault = λ rest. refl; rows = λ rest. refl }

pub load_command : IsCommand (codes "load") load_names
unfolding defaults_fault
load_command = record { meets = refl; no_help = refl; fault = λ rest. refl; rows = λ rest. refl }

module _ (name : Text) (known : List Name) (is : IsCommand name known) (rest : List Text) where
  pub enters-rows : subcommand_of program (name ∷ rest) ≡ Some (name, rows_after (built_rules known) [] rest)
  enters-rows = ap (λ (w : Walk). entered built_program w.stopped) (stops name name is.meets is.no_help rest) ∙ is.rows rest

  command-back : fault_of program (name ∷ rest) ≡ [] → AtCommand name known (name ∷ rest)
  command-back passes =
      let parts = or_else-empty (walk_fault top commands (walk_from nothing_held) (name ∷ rest)) (fault_behind (walk [] commands nothing_held (name ∷ rest))) passes in
      let behind_it : fault_behind (behind name rest) ≡ [] = subst (λ (w : Walk). fault_behind w ≡ []) (stops name name is.meets is.no_help rest) parts.1 in
      record {
        rest = rest;
        begins = refl;
        passes = (or_else-empty (level_fault (leaf name known) [] nothing_held rest false []) [] (sym (is.fault rest) ∙ behind_it)).0;
        enters = enters-rows;
      }

  pub command-on : level_fault (leaf name known) [] nothing_held rest false [] ≡ [] → fault_of program (name ∷ rest) ≡ []
  command-on passes =
      let behind_it : fault_behind (behind name rest) ≡ [] = is.fault rest ∙ or_else-both (level_fault (leaf name known) [] nothing_held rest false []) [] passes refl in
      or_else-both (walk_fault top commands (walk_from nothing_held) (name ∷ rest)) (fault_behind (walk [] commands nothing_held (name ∷ rest)))
      (enters-passes name name is.meets is.no_help rest)
      (subst (λ (w : Walk). fault_behind w ≡ []) (sym (stops name name is.meets is.no_help rest)) behind_it)

at : (name : Text) (known : List Name) (word : Text) (rest : List Text) → IsCommand name known → bytes_eq name word ≡ true → fault_of program (word ∷ rest) ≡ []
    → AtCommand name known (word ∷ rest)
at name known word rest is same passes =
    let named = bytes_eq-true name word same in
    subst (λ (w : Text). AtCommand name known (w ∷ rest)) named (command-back name known is rest (subst (λ (w : Text). fault_of program (w ∷ rest) ≡ []) (sym named) passes))

-- Where `clap` takes words, they are none, or a command's name and words that it takes.
pub program_back : (words : List Text) → AllByRecursion IsNoDashes words → fault_of program words ≡ []
    → ((words ≡ []) × (subcommand_of program words ≡ None)) ⊎ (AtCommand (codes "run") run_names words ⊎ (AtCommand (codes "serve") serve_names words ⊎ AtCommand (codes "load") load_names words))
program_back [] no_dashes passes = inl (refl, refl)
program_back (word ∷ rest) no_dashes passes = go (bytes_eq (codes "run") word) (bytes_eq (codes "serve") word) (bytes_eq (codes "load") word) refl refl refl where
  go : (run serve load : Bool) → bytes_eq (codes "run") word ≡ run → bytes_eq (codes "serve") word ≡ serve → bytes_eq (codes "load") word ≡ load
      → ((word ∷ rest ≡ []) × (subcommand_of program (word ∷ rest) ≡ None)) ⊎ (AtCommand (codes "run") run_names (word ∷ rest) ⊎ (AtCommand (codes "serve") serve_names (word ∷ rest) ⊎ AtCommand (codes "load") load_names (word ∷ rest)))
  go true serve load is also third = inr (inl (at (codes "run") run_names word rest run_command is passes))
  go false true load is also third = inr (inr (inl (at (codes "serve") serve_names word rest serve_command also passes)))
  go false false true is also third = inr (inr (inr (at (codes "load") load_names word rest load_command third passes)))
  go false false false is also third =
      let unmet : subcommand_met commands idle word ≡ None = rw (is, also, third) refl in
      let parts = or_else-empty (walk_fault top commands (walk_from nothing_held) (word ∷ rest)) (fault_behind (walk [] commands nothing_held (word ∷ rest))) passes in
      absurd (stranger-refused nothing_held refl word no_dashes.0 unmet (first_turn word rest parts.0))
