-- `clap` takes words that write options.
use Rattle.std.proofs.Common.{◌≡◌, ◌∙◌, ◌&&◌, ◌==◌, Bool, true, false, cond, List, [], ◌∷◌, ◌++◌, map, Option, Some, None, option_map, refl, sym, ap, subst, append-nil, append_assoc, Contains}
use Rattle.std.specs.List.{AllByRecursion, flat_map, fold}
use Rattle.std.specs.Str.{bytes_eq}
use Rattle.clap.specs.Lexer.{long_of, short_of, strip_byte}
use Rattle.clap.specs.Walk.{Held, Row, Text, Walk, arg_by_id, arg_by_long, has_row, reacted, settled, used, walk, walk_from, walked}
use Rattle.clap.specs.Faults.{react_fault, settle_fault, turn_fault, use_fault, walk_fault}
use Rattle.mc_words.specs.declared.names.Name.{Name}
use Rattle.mc_words.specs.Spelling.{label, spelled, takes_value}
use Rattle.mc_words.specs.Options.{Form, Alone, Apart, Joined}
use Rattle.mc_words.proofs.BuiltRules.{arg_by_id-built, arg_by_long-built, built_by, built_rule, built_rules, named-known}
use Rattle.mc_words.proofs.Lexed.{joined-no_dashes, long_of-joined, long_of-spelled, spelled-no_dashes}
use Rattle.mc_words.proofs.RestSteps.{apart-fault, apart-walked, dashes, flag-fault, flag-walked, joined-fault, joined-walked, leaf, or_else-both, waiting_for}
use Rattle.mc_words.proofs.WaitingSteps.{plain-fault, plain-walked, settles_with}
use Rattle.mc_words.proofs.Uses.{use-passes, used-row}
use Rattle.mc_words.proofs.Shapes.{AreFresh, AreKnown, Fits, Shaped, row_for, shape_words, shaped}

-- no hyphen before it
abbrev pub IsPlain : Text → Type 0
IsPlain text = strip_byte 45 text ≡ None

abbrev pub HasPlainValue : Form → Type 0
HasPlainValue Alone = Unit {0}
HasPlainValue (Apart text) = IsPlain text
HasPlainValue (Joined text) = Unit {0}

pub plain-no_dashes : (text : Text) → IsPlain text → bytes_eq text dashes ≡ false
plain-no_dashes [] plain = refl
plain-no_dashes (x ∷ xs) plain = go (x == 45) plain where
  go : (b : Bool) → ◌≡◌ {A = Option Text} (cond b (Some xs) None) None → (b && bytes_eq xs (45 ∷ [])) ≡ false
  go true e = cc
  go false e = refl

plain-long : (text : Text) → IsPlain text → long_of text ≡ None
plain-long text plain = rw plain refl

plain-short : (text : Text) → IsPlain text → short_of text ≡ None
plain-short text plain = rw plain refl

-- the words pass, and the walk keeps the rows of the options
pub record Walks (command : Text) (known : List Name) (h : Held) (options : List Shaped) (words : List Text) : Type 0 where
  pub walks : walk_fault (leaf command known) [] (walk_from h) words ≡ []
  pub ends : settle_fault (built_rules known) false (walk (built_rules known) [] h words).held ≡ []
  pub rows : (settled (built_rules known) (walk (built_rules known) [] h words).held).rows ≡ (settled (built_rules known) h).rows ++ map row_for options

-- one option more
more_rows : (known : List Name) (h after : Held) (option : Shaped) (options : List Shaped) (from to : Walk) → from ≡ to
    → (settled (built_rules known) after).rows ≡ (settled (built_rules known) h).rows ++ row_for option ∷ []
    → (settled (built_rules known) to.held).rows ≡ (settled (built_rules known) after).rows ++ map row_for options
    → (settled (built_rules known) from.held).rows ≡ (settled (built_rules known) h).rows ++ map row_for (option ∷ options)
more_rows known h after option options from to same row later =
    ap (λ (w : Walk). (settled (built_rules known) w.held).rows) same ∙ later ∙ ap (λ (rows : List Row). rows ++ map row_for options) row
    ∙ append_assoc (settled (built_rules known) h).rows (row_for option ∷ []) (map row_for options)

module _ (command : Text) (known : List Name) (h : Held) (settles : settle_fault (built_rules known) false h ≡ []) where
  one_word : (option : Shaped) (options : List Shaped) (word : Text) (rest : List Text) (after : Held)
      → turn_fault (leaf command known) [] (walk_from h) word ≡ [] → walked (built_rules known) [] (walk_from h) word ≡ walk_from after
      → (settled (built_rules known) after).rows ≡ (settled (built_rules known) h).rows ++ row_for option ∷ []
      → Walks command known after options rest → Walks command known h (option ∷ options) (word ∷ rest)
  unfolding walk_fault
  one_word option options word rest after turn step row later = record {
    walks = or_else-both (turn_fault (leaf command known) [] (walk_from h) word) (walk_fault (leaf command known) [] (walked (built_rules known) [] (walk_from h) word) rest)
        turn (subst (λ (w : Walk). walk_fault (leaf command known) [] w rest ≡ []) (sym step) later.walks);
    ends = subst (λ (w : Walk). settle_fault (built_rules known) false (fold (walked (built_rules known) []) w rest).held ≡ []) (sym step) later.ends;
    rows = more_rows known h after option options _ _ (ap (λ (w : Walk). fold (walked (built_rules known) []) w rest) step) row later.rows;
  }

  two_words : (option : Shaped) (options : List Shaped) (word text : Text) (rest : List Text) (between : Walk) (after : Held)
      → turn_fault (leaf command known) [] (walk_from h) word ≡ [] → walked (built_rules known) [] (walk_from h) word ≡ between
      → turn_fault (leaf command known) [] between text ≡ [] → walked (built_rules known) [] between text ≡ walk_from after
      → (settled (built_rules known) after).rows ≡ (settled (built_rules known) h).rows ++ row_for option ∷ []
      → Walks command known after options rest → Walks command known h (option ∷ options) (word ∷ text ∷ rest)
  unfolding walk_fault
  two_words option options word text rest between after turn step second last row later =
      let behind : walk_fault (leaf command known) [] between (text ∷ rest) ≡ [] =
      or_else-both (turn_fault (leaf command known) [] between text) (walk_fault (leaf command known) [] (walked (built_rules known) [] between text) rest)
      second (subst (λ (w : Walk). walk_fault (leaf command known) [] w rest ≡ []) (sym last) later.walks) in
      let both : ◌≡◌ {A = Walk} (walked (built_rules known) [] (walked (built_rules known) [] (walk_from h) word) text) (walk_from after) =
      ap (λ (w : Walk). walked (built_rules known) [] w text) step ∙ last in
      record {
        walks = or_else-both (turn_fault (leaf command known) [] (walk_from h) word) (walk_fault (leaf command known) [] (walked (built_rules known) [] (walk_from h) word) (text ∷ rest))
            turn (subst (λ (w : Walk). walk_fault (leaf command known) [] w (text ∷ rest) ≡ []) (sym step) behind);
        ends = subst (λ (w : Walk). settle_fault (built_rules known) false (fold (walked (built_rules known) []) w rest).held ≡ []) (sym both) later.ends;
        rows = more_rows known h after option options _ _ (ap (λ (w : Walk). fold (walked (built_rules known) []) w rest) both) row later.rows;
      }

-- what is taken behind an option
abbrev pub TakesRest : Text → List Name → List Shaped → Type 0
TakesRest command known options = (h : Held) → settle_fault (built_rules known) false h ≡ [] → AreFresh (settled (built_rules known) h).rows options
    → Walks command known h options (flat_map shape_words options)

module _ (command : Text) (known : List Name) (h : Held) (settles : settle_fault (built_rules known) false h ≡ []) (name : Name) (member : Contains known name)
    (fresh : has_row (label name) (settled (built_rules known) h).rows ≡ false) (options : List Shaped) (rest : TakesRest command known options) where
  found : (takes : Bool) → takes_value name ≡ takes → arg_by_long (built_rules known) (label name) ≡ Some (built_by (label name) takes)
  found takes is = arg_by_long-built known (label name) ∙ ap (option_map built_rule) (named-known known name member) ∙ ap (λ b. Some (built_by (label name) b)) is

  here : (takes : Bool) → takes_value name ≡ takes → arg_by_id (built_rules known) (label name) ≡ Some (built_by (label name) takes)
  here takes is = arg_by_id-built known (label name) ∙ ap (option_map built_rule) (named-known known name member) ∙ ap (λ b. Some (built_by (label name) b)) is

  pub flag_on : takes_value name ≡ false → AreFresh ((settled (built_rules known) h).rows ++ row_for (shaped name Alone) ∷ []) options
      → Walks command known h (shaped name Alone ∷ options) (flat_map shape_words (shaped name Alone ∷ options))
  flag_on is later =
      let after = reacted (built_rules known) (built_by (label name) false) [] h in
      let row = used-row false (label name) [] (settled (built_rules known) h).rows fresh in
      let react = or_else-both (settle_fault (built_rules known) false h) (use_fault false (built_by (label name) false) [] (settled (built_rules known) h).rows)
      settles (use-passes false (label name) [] (settled (built_rules known) h).rows fresh) in
      one_word command known h settles (shaped name Alone) options (spelled name) (flat_map shape_words options) after
      (flag-fault command known h (spelled name) (spelled-no_dashes name) (label name) (label name) (long_of-spelled name) (found false is)
      ∙ or_else-both (react_fault (built_rules known) false (built_by (label name) false) [] h) [] react refl)
      (flag-walked command known h (spelled name) (spelled-no_dashes name) (label name) (label name) (long_of-spelled name) (found false is))
      row
      (rest after refl (subst (λ (rows : List Row). AreFresh rows options) (sym row) later))

  joined_on : (text : Text) → takes_value name ≡ true → AreFresh ((settled (built_rules known) h).rows ++ row_for (shaped name (Joined text)) ∷ []) options
      → Walks command known h (shaped name (Joined text) ∷ options) (flat_map shape_words (shaped name (Joined text) ∷ options))
  joined_on text is later =
      let after = reacted (built_rules known) (built_by (label name) true) (text ∷ []) h in
      let row = used-row true (label name) text (settled (built_rules known) h).rows fresh in
      let react = or_else-both (settle_fault (built_rules known) false h) (use_fault false (built_by (label name) true) (text ∷ []) (settled (built_rules known) h).rows)
      settles (use-passes true (label name) text (settled (built_rules known) h).rows fresh) in
      let word = spelled name ++ 61 ∷ text in
      one_word command known h settles (shaped name (Joined text)) options word (flat_map shape_words options) after
      (joined-fault command known h word (joined-no_dashes name text) (label name) text (label name) (long_of-joined name text) (found true is)
      ∙ or_else-both (react_fault (built_rules known) false (built_by (label name) true) (text ∷ []) h) [] react refl)
      (joined-walked command known h word (joined-no_dashes name text) (label name) text (label name) (long_of-joined name text) (found true is))
      row
      (rest after refl (subst (λ (rows : List Row). AreFresh rows options) (sym row) later))

  apart_on : (text : Text) → IsPlain text → takes_value name ≡ true → AreFresh ((settled (built_rules known) h).rows ++ row_for (shaped name (Apart text)) ∷ []) options
      → Walks command known h (shaped name (Apart text) ∷ options) (flat_map shape_words (shaped name (Apart text) ∷ options))
  apart_on text plain is later =
      let rows = (settled (built_rules known) h).rows in
      let after = settles_with known (label name) text h in
      let used_here : (settled (built_rules known) after).rows ≡ used (built_by (label name) true) (text ∷ []) rows = rw (here true is) refl in
      let row = used_here ∙ used-row true (label name) text rows fresh in
      let settles_after : settle_fault (built_rules known) false after ≡ [] = rw (here true is) (use-passes true (label name) text rows fresh) in
      two_words command known h settles (shaped name (Apart text)) options (spelled name) text (flat_map shape_words options) (waiting_for known (label name) h) after
      (apart-fault command known h (spelled name) (spelled-no_dashes name) (label name) (label name) (long_of-spelled name) (found true is)
      ∙ or_else-both (settle_fault (built_rules known) false h) [] settles refl)
      (apart-walked command known h (spelled name) (spelled-no_dashes name) (label name) (label name) (long_of-spelled name) (found true is))
      (plain-fault command known (label name) (here true is) h text (plain-no_dashes text plain) (plain-long text plain) (plain-short text plain))
      (plain-walked command known (label name) (here true is) h text (plain-no_dashes text plain) (plain-long text plain) (plain-short text plain))
      row
      (rest after settles_after (subst (λ (rows : List Row). AreFresh rows options) (sym row) later))

  by_form : (form : Form) (takes : Bool) → takes_value name ≡ takes → Fits takes form → HasPlainValue form
      → AreFresh ((settled (built_rules known) h).rows ++ row_for (shaped name form) ∷ []) options
      → Walks command known h (shaped name form ∷ options) (flat_map shape_words (shaped name form ∷ options))
  by_form Alone false is fits plain later = flag_on is later
  by_form (Apart text) true is fits plain later = apart_on text plain is later
  by_form (Joined text) true is fits plain later = joined_on text is later
  by_form Alone true is fits plain later = absurd fits
  by_form (Apart text) false is fits plain later = absurd fits
  by_form (Joined text) false is fits plain later = absurd fits

-- Words that write options are taken.
pub walk_on : (command : Text) (known : List Name) (options : List Shaped) → AreKnown known options → AllByRecursion (λ option. HasPlainValue option.form) options
    → TakesRest command known options
unfolding walk_fault
walk_on command known [] lawful plain h settles fresh = record {
  walks = refl;
  ends = settles;
  rows = sym (append-nil (settled (built_rules known) h).rows);
}
walk_on command known (option ∷ options) lawful plain h settles fresh =
    by_form command known h settles option.name lawful.0 fresh.0 options (walk_on command known options lawful.2 plain.1) option.form (takes_value option.name) refl lawful.1 plain.0 fresh.1
