-- `clap` takes the words behind a command exactly where they write options of it, and what it then keeps of them.
use Rattle.std.proofs.Common.{◌≡◌, ◌&&◌, Bool, true, false, not, List, [], ◌∷◌, map, length, refl, ap, arith}
use Rattle.std.specs.List.{AllByRecursion, flat_map, fold, list_any}
use Rattle.clap.specs.Kinds.{Kinds, or_else}
use Rattle.clap.specs.Walk.{Held, Row, Rule, Text, finished, has_row, nothing_held, rows_after, settled, walk, walk_from, with_default}
use Rattle.clap.specs.Takes.{is_given}
use Rattle.clap.specs.Faults.{check_fault, default_fault, defaults_fault, level_fault, settle_fault, walk_fault}
use Rattle.mc_words.specs.declared.names.Name.{Name}
use Rattle.mc_words.specs.Spelling.{label, takes_value}
use Rattle.mc_words.proofs.BuiltRules.{built_by, built_rule, built_rules}
use Rattle.mc_words.proofs.RestSteps.{leaf, or_else-both, or_else-empty}
use Rattle.mc_words.proofs.Shapes.{AreFresh, AreKnown, Shaped, row_for, shape_words}
use Rattle.mc_words.proofs.WalkBack.{IsNoDashes, walk_reads}
use Rattle.mc_words.proofs.WalkOn.{HasPlainValue, walk_on}

-- the rows with that of a flag that is not given
abbrev pub with_defaults : List Name → List Row → List Row
with_defaults known rows = fold with_default rows (built_rules known)

-- what is kept of words that write options
pub record Keeps (known : List Name) (words : List Text) (options : List Shaped) : Type 0 where
  pub written : words ≡ flat_map shape_words options
  pub lawful : AreKnown known options
  pub fresh : AreFresh [] options
  pub rows : rows_after (built_rules known) [] words ≡ with_defaults known (map row_for options)

default-passes : (takes : Bool) (id : Text) (rows : List Row) → default_fault rows (built_by id takes) ≡ []
default-passes true id rows = go (has_row id rows) refl where
  go : (b : Bool) → has_row id rows ≡ b → default_fault rows (built_by id true) ≡ []
  go true is = rw is refl
  go false is = rw is refl
default-passes false id rows = go (has_row id rows) refl where
  go : (b : Bool) → has_row id rows ≡ b → default_fault rows (built_by id false) ≡ []
  go true is = rw is refl
  go false is = rw is refl

defaults-pass : (known : List Name) (rows : List Row) → defaults_fault rows (built_rules known) ≡ []
unfolding defaults_fault
defaults-pass [] rows = refl
defaults-pass (name ∷ known) rows =
    or_else-both (default_fault rows (built_rule name)) (defaults_fault (with_default rows (built_rule name)) (built_rules known))
    (default-passes (takes_value name) (label name) rows) (defaults-pass known (with_default rows (built_rule name)))

none_required : (known : List Name) (rows : List Row) → list_any (λ (a : Rule). a.required && not (is_given a.id rows)) (built_rules known) ≡ false
none_required [] rows = refl
none_required (name ∷ known) rows = none_required known rows

checks-pass : (command : Text) (known : List Name) (rows : List Row) → check_fault (leaf command known) rows false ≡ []
checks-pass command known rows = rw (none_required known rows) refl

module _ (command : Text) (known : List Name) (words : List Text) where
  abbrev end : Held
  end = (walk (built_rules known) [] nothing_held words).held

  abbrev after_walk : Kinds
  after_walk = or_else (defaults_fault (settled (built_rules known) end).rows (built_rules known)) (check_fault (leaf command known) (finished (built_rules known) end) false)

  pub leaf_keeps : AllByRecursion IsNoDashes words → level_fault (leaf command known) [] nothing_held words false [] ≡ [] → (options : List Shaped) × Keeps known words options
  leaf_keeps no_dashes passes =
      let first = or_else-empty (walk_fault (leaf command known) [] (walk_from nothing_held) words) (or_else (settle_fault (built_rules known) false end) after_walk) passes in
      let second = or_else-empty (settle_fault (built_rules known) false end) after_walk first.1 in
      let reads = walk_reads command known (length words) nothing_held words (omega arith) no_dashes refl first.0 second.0 in (
        reads.options,
        record {
          written = reads.written;
          lawful = reads.lawful;
          fresh = reads.fresh;
          rows = ap (with_defaults known) reads.rows;
        },
      )

pub leaf_takes : (command : Text) (known : List Name) (options : List Shaped) → AreKnown known options → AllByRecursion (λ option. HasPlainValue option.form) options → AreFresh [] options
    → (level_fault (leaf command known) [] nothing_held (flat_map shape_words options) false [] ≡ []) × Keeps known (flat_map shape_words options) options
leaf_takes command known options lawful plain fresh =
    let walks = walk_on command known options lawful plain nothing_held refl fresh in
    let words = flat_map shape_words options in (
      or_else-both (walk_fault (leaf command known) [] (walk_from nothing_held) words) (or_else (settle_fault (built_rules known) false (end command known words)) (after_walk command known words)) walks.walks
          (or_else-both (settle_fault (built_rules known) false (end command known words)) (after_walk command known words) walks.ends
          (or_else-both (defaults_fault (settled (built_rules known) (end command known words)).rows (built_rules known)) (check_fault (leaf command known) (finished (built_rules known) (end command known words)) false)
          (defaults-pass known (settled (built_rules known) (end command known words)).rows) (checks-pass command known (finished (built_rules known) (end command known words))))),
      record { written = refl; lawful = lawful; fresh = fresh; rows = ap (with_defaults known) walks.rows },
    )
