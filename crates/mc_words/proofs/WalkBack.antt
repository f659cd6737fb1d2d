-- Where `clap` takes words, they write options.
use Rattle.std.proofs.Common.{◌≡◌, ◌∙◌, ◌≤◌, ℕ, zero, suc, Bool, true, false, List, [], ◌∷◌, ◌++◌, length, map, Option, Some, None, option_map, refl, sym, ap, subst, arith, append-nil, append_assoc, Contains}
use Rattle.std.specs.List.{AllByRecursion, fold}
use Rattle.std.specs.Str.{bytes_eq}
use Rattle.clap.specs.Lexer.{long_of, short_of}
use Rattle.clap.specs.Walk.{Held, Row, Text, Walk, arg_by_id, arg_by_long, has_row, reacted, settled, used, walk, walk_from, walked}
use Rattle.clap.specs.Faults.{react_fault, settle_fault, turn_fault, use_fault, walk_fault}
use Rattle.mc_words.specs.declared.names.Name.{Name}
use Rattle.mc_words.specs.Spelling.{label, spelled, takes_value}
use Rattle.mc_words.specs.Options.{Form, Alone, Apart, Joined}
use Rattle.mc_words.proofs.BuiltRules.{arg_by_id-built, arg_by_long-built, built_by, built_rule, built_rules, named, named-is, named-known}
use Rattle.mc_words.proofs.Lexed.{long_of-back}
use Rattle.mc_words.proofs.RestSteps.{apart-fault, apart-walked, dashes, flag-fault, flag-walked, flag_value-refused, joined-fault, joined-walked, leaf, or_else-empty, short-refused, stray-refused, unknown-refused, waiting_for}
use Rattle.mc_words.proofs.WaitingSteps.{read-fault, settles_with, waiting-settle}
use Rattle.mc_words.proofs.Uses.{use-fresh, used-row}
use Rattle.mc_words.proofs.Shapes.{AreFresh, Fits, Reads, Shaped, row_for, shape_words, shaped}

abbrev pub IsNoDashes : Text → Type 0
IsNoDashes word = bytes_eq word dashes ≡ false

-- one more option before those that are read
pub reads_more : (known : List Name) (h after : Held) (option : Shaped) (words rest : List Text)
    → settle_fault (built_rules known) false h ≡ [] → words ≡ shape_words option ++ rest → Contains known option.name → Fits (takes_value option.name) option.form
    → has_row (label option.name) (settled (built_rules known) h).rows ≡ false
    → (settled (built_rules known) after).rows ≡ (settled (built_rules known) h).rows ++ row_for option ∷ []
    → ◌≡◌ {A = Walk} (walk (built_rules known) [] h words) (walk (built_rules known) [] after rest)
    → Reads known after rest → Reads known h words
reads_more known h after option words rest settles begins member fits fresh row same later =
    let before = (settled (built_rules known) h).rows in
    let ends : (settled (built_rules known) (walk (built_rules known) [] h words).held).rows ≡ (settled (built_rules known) (walk (built_rules known) [] after rest).held).rows =
    ap (λ (w : Walk). (settled (built_rules known) w.held).rows) same in
    record {
      options = option ∷ later.options;
      settles = settles;
      written = begins ∙ ap (λ words. shape_words option ++ words) later.written;
      lawful = (member, fits, later.lawful);
      fresh = (fresh, subst (λ (rows : List Row). AreFresh rows later.options) row later.fresh);
      rows = ends ∙ later.rows ∙ ap (λ (rows : List Row). rows ++ map row_for later.options) row ∙ append_assoc before (row_for option ∷ []) (map row_for later.options);
    }

reads_nothing : (known : List Name) (h : Held) → settle_fault (built_rules known) false h ≡ [] → Reads known h []
reads_nothing known h settles = record {
  options = [];
  settles = settles;
  written = refl;
  lawful = tt;
  fresh = tt;
  rows = sym (append-nil (settled (built_rules known) h).rows);
}

-- ---- from a word on

-- what is read of fewer words
abbrev pub ReadsShorter : Text → List Name → ℕ → Type 0
ReadsShorter command known n = (h : Held) (words : List Text) → length words ≤ n → AllByRecursion IsNoDashes words → h.skip ≡ 0
    → walk_fault (leaf command known) [] (walk_from h) words ≡ [] → settle_fault (built_rules known) false (walk (built_rules known) [] h words).held ≡ []
    → Reads known h words

-- a walk that passes, from any state of it on
pub record Passes (command : Text) (known : List Name) (from : Walk) (words : List Text) : Type 0 where
  pub walks : walk_fault (leaf command known) [] from words ≡ []
  pub ends : settle_fault (built_rules known) false (fold (walked (built_rules known) []) from words).held ≡ []

passes_on : (command : Text) (known : List Name) (from : Walk) (word : Text) (rest : List Text) → Passes command known from (word ∷ rest)
    → (turn_fault (leaf command known) [] from word ≡ []) × Passes command known (walked (built_rules known) [] from word) rest
unfolding walk_fault
passes_on command known from word rest passes =
    let parts = or_else-empty (turn_fault (leaf command known) [] from word) (walk_fault (leaf command known) [] (walked (built_rules known) [] from word) rest) passes.walks in
    (parts.0, record { walks = parts.1; ends = passes.ends })

passes_at : (command : Text) (known : List Name) (from to : Walk) (words : List Text) → from ≡ to → Passes command known from words → Passes command known to words
passes_at command known from to words same passes = subst (λ (w : Walk). Passes command known w words) same passes

module _ (command : Text) (known : List Name) (n : ℕ) (shorter : ReadsShorter command known n) (h : Held) (whole : h.skip ≡ 0) (word : Text) (differs : IsNoDashes word)
    (rest : List Text) (bound : length rest ≤ n) (no_dashes : AllByRecursion IsNoDashes rest) (passes : Passes command known (walk_from h) (word ∷ rest)) where
  -- an option in one word: `--name=value`, or a flag
  pub one_word : (name : Name) (form : Form) (takes : Bool) (text : Text) (after : Held) → Contains known name → word ∷ [] ≡ shape_words (shaped name form) → Fits (takes_value name) form
      → after.skip ≡ 0 → settle_fault (built_rules known) false h ≡ [] → has_row (label name) (settled (built_rules known) h).rows ≡ false
      → (settled (built_rules known) after).rows ≡ (settled (built_rules known) h).rows ++ row_for (shaped name form) ∷ []
      → walked (built_rules known) [] (walk_from h) word ≡ walk_from after → Reads known h (word ∷ rest)
  one_word name form takes text after member begins fits skip settles fresh row step =
      let next = passes_at command known (walked (built_rules known) [] (walk_from h) word) (walk_from after) rest step (passes_on command known (walk_from h) word rest passes).1 in
      reads_more known h after (shaped name form) (word ∷ rest) rest settles (ap (λ (words : List Text). words ++ rest) begins) member fits fresh row
      (ap (λ (w : Walk). fold (walked (built_rules known) []) w rest) step)
      (shorter after rest bound no_dashes skip next.walks next.ends)

  -- an option in two words
  pub two_words : (name : Name) (takes : takes_value name ≡ true) → Contains known name → word ≡ spelled name → long_of word ≡ Some (label name, None)
      → arg_by_long (built_rules known) (label name) ≡ Some (built_by (label name) true) → Reads known h (word ∷ rest)
  two_words name takes member begins long found = by_rest rest bound no_dashes passes where
    here : arg_by_id (built_rules known) (label name) ≡ Some (built_by (label name) true)
    here = arg_by_id-built known (label name) ∙ ap (option_map built_rule) (named-known known name member) ∙ ap (λ b. Some (built_by (label name) b)) takes

    by_rest : (rest : List Text) → length rest ≤ n → AllByRecursion IsNoDashes rest → Passes command known (walk_from h) (word ∷ rest) → Reads known h (word ∷ rest)
    by_rest rest bound no_dashes passes = go rest bound no_dashes (passes_on command known (walk_from h) word rest passes) where
      step : walked (built_rules known) [] (walk_from h) word ≡ waiting_for known (label name) h
      step = apart-walked command known h word differs (label name) (label name) long found

      go : (rest : List Text) → length rest ≤ n → AllByRecursion IsNoDashes rest
          → (turn_fault (leaf command known) [] (walk_from h) word ≡ []) × Passes command known (walked (built_rules known) [] (walk_from h) word) rest → Reads known h (word ∷ rest)
      go [] bound no_dashes parts = absurd (waiting-settle command known (label name) here h (passes_at command known _ _ [] step parts.1).ends)
      go (text ∷ rest) bound no_dashes parts =
          let turn = apart-fault command known h word differs (label name) (label name) long found in
          let settles : settle_fault (built_rules known) false h ≡ [] = (or_else-empty (settle_fault (built_rules known) false h) [] (sym turn ∙ parts.0)).0 in
          let next = passes_on command known (waiting_for known (label name) h) text rest (passes_at command known _ _ (text ∷ rest) step parts.1) in
          let again = read-fault command known (label name) here h text no_dashes.0 next.0 whole in
          let after = settles_with known (label name) text h in
          let last = passes_at command known _ _ rest again next.1 in
          let later = shorter after rest (omega arith) no_dashes.1 whole last.walks last.ends in
          let passed : use_fault false (built_by (label name) true) (text ∷ []) (settled (built_rules known) h).rows ≡ [] = rw here at later.settles in
          let fresh = use-fresh true (label name) text (settled (built_rules known) h).rows passed in
          let used_here : (settled (built_rules known) after).rows ≡ used (built_by (label name) true) (text ∷ []) (settled (built_rules known) h).rows = rw here refl in
          reads_more known h after (shaped name (Apart text)) (word ∷ text ∷ rest) rest settles
          (ap (λ (w : Text). w ∷ text ∷ rest) begins) member (subst (λ b. Fits b (Apart text)) (sym takes) tt) fresh
          (used_here ∙ used-row true (label name) text (settled (built_rules known) h).rows fresh)
          (ap (λ (w : Walk). fold (walked (built_rules known) []) (walked (built_rules known) [] w text) rest) step ∙ ap (λ (w : Walk). fold (walked (built_rules known) []) w rest) again)
          later

  -- a word that is cut as an option
  by_name : (name : Name) (l : Text) (value : Option Text) → Contains known name → label name ≡ l → long_of word ≡ Some (l, value)
      → (takes : Bool) → takes_value name ≡ takes → arg_by_long (built_rules known) l ≡ Some (built_by (label name) takes) → Reads known h (word ∷ rest)
  by_name name l None member is long true takes found =
      two_words name takes member (long_of-back word l None long ∙ ap (λ (text : Text). 45 ∷ 45 ∷ text) (sym is)) (long ∙ ap (λ (text : Text). Some (text, None)) (sym is))
      (ap (arg_by_long (built_rules known)) is ∙ found)
  by_name name l (Some text) member is long true takes found =
      let turn = joined-fault command known h word differs l text (label name) long found in
      let react = (or_else-empty (react_fault (built_rules known) false (built_by (label name) true) (text ∷ []) h) [] (sym turn ∙ (passes_on command known (walk_from h) word rest passes).0)).0 in
      let parts = or_else-empty (settle_fault (built_rules known) false h) (use_fault false (built_by (label name) true) (text ∷ []) (settled (built_rules known) h).rows) react in
      let fresh = use-fresh true (label name) text (settled (built_rules known) h).rows parts.1 in
      one_word name (Joined text) true text (reacted (built_rules known) (built_by (label name) true) (text ∷ []) h) member
      (ap (λ (w : Text). w ∷ []) (long_of-back word l (Some text) long ∙ ap (λ (name : Text). 45 ∷ 45 ∷ (name ++ 61 ∷ text)) (sym is)))
      (subst (λ b. Fits b (Joined text)) (sym takes) tt) whole parts.0 fresh
      (used-row true (label name) text (settled (built_rules known) h).rows fresh)
      (joined-walked command known h word differs l text (label name) long found)
  by_name name l None member is long false takes found =
      let turn = flag-fault command known h word differs l (label name) long found in
      let react = (or_else-empty (react_fault (built_rules known) false (built_by (label name) false) [] h) [] (sym turn ∙ (passes_on command known (walk_from h) word rest passes).0)).0 in
      let parts = or_else-empty (settle_fault (built_rules known) false h) (use_fault false (built_by (label name) false) [] (settled (built_rules known) h).rows) react in
      let fresh = use-fresh false (label name) [] (settled (built_rules known) h).rows parts.1 in
      one_word name Alone false [] (reacted (built_rules known) (built_by (label name) false) [] h) member
      (ap (λ (w : Text). w ∷ []) (long_of-back word l None long ∙ ap (λ (name : Text). 45 ∷ 45 ∷ name) (sym is)))
      (subst (λ b. Fits b Alone) (sym takes) tt) whole parts.0 fresh
      (used-row false (label name) [] (settled (built_rules known) h).rows fresh)
      (flag-walked command known h word differs l (label name) long found)
  by_name name l (Some text) member is long false takes found =
      absurd (flag_value-refused command known h word differs l text (label name) long found (passes_on command known (walk_from h) word rest passes).0)

  pub reads_word : Reads known h (word ∷ rest)
  reads_word = by_long (long_of word) refl where
    turn : turn_fault (leaf command known) [] (walk_from h) word ≡ []
    turn = (passes_on command known (walk_from h) word rest passes).0

    by_short : long_of word ≡ None → (flags : Option Text) → short_of word ≡ flags → Reads known h (word ∷ rest)
    by_short long None short = absurd (stray-refused command known h word differs long short turn)
    by_short long (Some flags) short = absurd (short-refused command known h word differs flags long short whole turn)

    by_named : (l : Text) (value : Option Text) → long_of word ≡ Some (l, value) → (name : Option Name) → named known l ≡ name → Reads known h (word ∷ rest)
    by_named l value long None is = absurd (unknown-refused command known h word differs l value long (arg_by_long-built known l ∙ ap (option_map built_rule) is) turn)
    by_named l value long (Some name) is =
        let known_name = named-is known l name is in
        by_name name l value known_name.0 known_name.1 long (takes_value name) refl (arg_by_long-built known l ∙ ap (option_map built_rule) is)

    by_long : (parts : Option (Text × Option Text)) → long_of word ≡ parts → Reads known h (word ∷ rest)
    by_long None long = by_short long (short_of word) refl
    by_long (Some (l, value)) long = by_named l value long (named known l) refl

-- Where `clap` takes words, they write options.
pub walk_reads : (command : Text) (known : List Name) (n : ℕ) → ReadsShorter command known n
walk_reads command known n h [] bound no_dashes whole walks ends = reads_nothing known h ends
walk_reads command known zero h (word ∷ rest) bound no_dashes whole walks ends = absurd (omega arith)
walk_reads command known (suc n) h (word ∷ rest) bound no_dashes whole walks ends =
    reads_word command known n (walk_reads command known n) h whole word no_dashes.0 rest (omega arith) no_dashes.1 (record { walks = walks; ends = ends })
