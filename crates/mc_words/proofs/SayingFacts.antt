-- What all words say, and what `clap` makes of them.
use Rattle.std.proofs.Common.{◌≡◌, ◌∙◌, ◌||◌, ℕ, Bool, cond, is_some, true, false, List, [], ◌∷◌, Option, Some, None, unwrap_or, option_map, String, string_bytes, refl, sym, ap, ap₂, subst, arith, inl, inr, codes, Contains, true≢false}
use Rattle.std.specs.List.{AllByRecursion, list_any}
use Rattle.std.specs.Str.{bytes_eq}
use Rattle.std.specs.Prelude.{Box}
use Rattle.std.specs.Borrow.{Bor}
use Rattle.std.specs.Box.{box_value}
use Rattle.std.specs.declared.alloc.Global.{Global}
use Rattle.clap.specs.Words.{found_of, rows_of}
use Rattle.clap.specs.Walk.{Row, Text, one_of}
use Rattle.clap.specs.Simple.{subcommand_of, subcommand_rows}
use Rattle.clap.specs.declared.parser.matches.ArgMatches.{ArgMatches}
use Rattle.clap.specs.declared.parser.matches.ArgMatches.TheViews.{out-SubCommand}
use Rattle.clap.specs.declared.parser.matches.SubCommand.{SubCommand}
use Rattle.clap.specs.Faults.{fault_of}
use Rattle.mc_words.specs.declared.names.Name.{Name}
use Rattle.mc_words.specs.declared.reading.Words.{Words}
use Rattle.mc_words.specs.declared.reading.Words.TheVariants.{Run, Serve, Load}
use Rattle.mc_words.specs.Commands.{program}
use Rattle.mc_words.specs.declared.names.Name.TheVariants.{Turns}
use Rattle.mc_words.specs.declared.run.Run as run
use Rattle.mc_words.specs.declared.serve.Serve as serve
use Rattle.mc_words.specs.declared.load.Load as load
use Rattle.mc_words.specs.Options.{texts}
use Rattle.mc_words.specs.Spelling.{label}
use Rattle.mc_words.specs.Matched.{RowsGive, RowsSay, TellTurns}
use Rattle.mc_words.specs.RunWords.{run_names, IsRun}
use Rattle.mc_words.specs.ServeWords.{serve_names, IsServe}
use Rattle.mc_words.specs.LoadWords.{load_names, IsLoad}
use Rattle.mc_words.specs.Saying.{Says}
use Rattle.mc_words.proofs.BuiltRules.{bytes_eq-refl}
use Rattle.mc_words.proofs.Leaves.{leaf_keeps}
use Rattle.mc_words.proofs.Lookups.{form_of, one_of-flag}
use Rattle.mc_words.proofs.RestSteps.{dashes}
use Rattle.mc_words.proofs.WalkBack.{IsNoDashes}
use Rattle.mc_words.proofs.CommandWords.{IsTakenBy, rows_behind, written_no_dashes}
use Rattle.mc_words.proofs.Programs.{AtCommand, command-on, enters-rows, load_command, program_back, run_command, serve_command}
use Rattle.mc_words.proofs.RunFacts.{run_back, run_on, run_unique}
use Rattle.mc_words.proofs.ServeFacts.{serve_back, serve_on, serve_unique}
use Rattle.mc_words.proofs.LoadFacts.{load_back, load_on, load_unique}

-- ---- commands are told apart

pub differ : (command one other : Text) → bytes_eq one other ≡ false → command ≡ one → command ≡ other → ⊥
differ command one other differs is also =
    true≢false (sym (bytes_eq-refl other) ∙ ap (λ (text : Text). bytes_eq text other) (sym also ∙ is) ∙ differs)

pub says_unique : (words : List Text) (one other : Words) → Says words one → Says words other → one ≡ other
says_unique [] one other says also = absurd says
says_unique (command ∷ options) (Run one) (Run other) says also =
    ap Run (run_unique (rows_behind run_names options) one other (run_on options one says.1).1 (run_on options other also.1).1)
says_unique (command ∷ options) (Serve one) (Serve other) says also =
    ap Serve (serve_unique (rows_behind serve_names options) one other (serve_on options one says.1).1 (serve_on options other also.1).1)
says_unique (command ∷ options) (Load one) (Load other) says also =
    ap Load (load_unique (rows_behind load_names options) one other (load_on options one says.1).1 (load_on options other also.1).1)
says_unique (command ∷ options) (Run one) (Serve other) says also = absurd (differ command (codes "run") (codes "serve") refl says.0 also.0)
says_unique (command ∷ options) (Run one) (Load other) says also = absurd (differ command (codes "run") (codes "load") refl says.0 also.0)
says_unique (command ∷ options) (Serve one) (Run other) says also = absurd (differ command (codes "serve") (codes "run") refl says.0 also.0)
says_unique (command ∷ options) (Serve one) (Load other) says also = absurd (differ command (codes "serve") (codes "load") refl says.0 also.0)
says_unique (command ∷ options) (Load one) (Run other) says also = absurd (differ command (codes "load") (codes "run") refl says.0 also.0)
says_unique (command ∷ options) (Load one) (Serve other) says also = absurd (differ command (codes "load") (codes "serve") refl says.0 also.0)

-- ---- from a meaning

abbrev IsTaken : List Text → Type 0
IsTaken words = fault_of program words ≡ []

-- `clap` takes words that say something
pub says-taken : (words : List Text) (meaning : Words) → Says words meaning → fault_of program words ≡ []
says-taken [] meaning says = absurd says
says-taken (command ∷ options) (Run run) says =
    subst (λ (name : Text). IsTaken (name ∷ options)) (sym says.0) (command-on (codes "run") run_names run_command options (run_on options run says.1).0)
says-taken (command ∷ options) (Serve serve) says =
    subst (λ (name : Text). IsTaken (name ∷ options)) (sym says.0) (command-on (codes "serve") serve_names serve_command options (serve_on options serve says.1).0)
says-taken (command ∷ options) (Load load) says =
    subst (λ (name : Text). IsTaken (name ∷ options)) (sym says.0) (command-on (codes "load") load_names load_command options (load_on options load says.1).0)

-- no word that says something is `--`
pub no_dashes : (words : List Text) (meaning : Words) → Says words meaning → AllByRecursion IsNoDashes words
no_dashes [] meaning says = tt
no_dashes (command ∷ options) (Run run) says =
    (subst IsNoDashes (sym says.0) refl, subst (λ (words : List Text). AllByRecursion IsNoDashes words) (sym says.1.1.0) (written_no_dashes run_names says.1.0 says.1.1.1))
no_dashes (command ∷ options) (Serve serve) says =
    (subst IsNoDashes (sym says.0) refl, subst (λ (words : List Text). AllByRecursion IsNoDashes words) (sym says.1.1.0) (written_no_dashes serve_names says.1.0 says.1.1.1))
no_dashes (command ∷ options) (Load load) says =
    (subst IsNoDashes (sym says.0) refl, subst (λ (words : List Text). AllByRecursion IsNoDashes words) (sym says.1.1.0) (written_no_dashes load_names says.1.0 says.1.1.1))

-- ---- from what `clap` found

-- the words are this command's, and `clap` took those behind it, with these rows
pub record Found (name : Text) (known : List Name) (words : List Text) (rows : List Row) : Type 0 where
  pub options : List Text
  pub begins : words ≡ name ∷ options
  pub no_dashes : AllByRecursion IsNoDashes options
  pub taken : IsTakenBy name known options
  pub kept : rows ≡ rows_behind known options

found_from : (name : Text) (known : List Name) (words : List Text) (rows : List Row) → AllByRecursion IsNoDashes words → AtCommand name known words
    → subcommand_of program words ≡ Some (name, rows) → Found name known words rows
found_from name known words rows absent at is =
    let same : ◌≡◌ {A = Option (Text × List Row)} (Some (name, rows)) (Some (name, rows_behind known at.rest)) = sym is ∙ at.enters in
    let behind : AllByRecursion IsNoDashes (name ∷ at.rest) = subst (λ (words : List Text). AllByRecursion IsNoDashes words) at.begins absent in
    record {
      options = at.rest;
      begins = at.begins;
      no_dashes = behind.1;
      taken = at.passes;
      kept = ap (λ (o : Option (Text × List Row)). (unwrap_or o (name, rows)).1) same;
    }

-- the name of the subcommand
name_is : (one other : Text) (rows more : List Row) → ◌≡◌ {A = Option (Text × List Row)} (Some (one, rows)) (Some (other, more)) → one ≡ other
name_is one other rows more same = ap (λ (o : Option (Text × List Row)). (unwrap_or o (one, rows)).0) same

pub found_run : (words : List Text) (rows : List Row) → AllByRecursion IsNoDashes words → fault_of program words ≡ [] → subcommand_of program words ≡ Some (codes "run", rows)
    → Found (codes "run") run_names words rows
found_run words rows absent taken is = elim (program_back words absent taken) [
  | inl none ↦ cc (is, none.1)
  | inr some ↦ elim some [
    | inl run ↦ found_from (codes "run") run_names words rows absent run is
    | inr others ↦ elim others [
      | inl serve ↦ absurd (differ (codes "run") (codes "run") (codes "serve") refl refl (name_is _ _ _ _ (sym is ∙ serve.enters)))
      | inr load ↦ absurd (differ (codes "run") (codes "run") (codes "load") refl refl (name_is _ _ _ _ (sym is ∙ load.enters)))
    ]
  ]
]

pub found_serve : (words : List Text) (rows : List Row) → AllByRecursion IsNoDashes words → fault_of program words ≡ [] → subcommand_of program words ≡ Some (codes "serve", rows)
    → Found (codes "serve") serve_names words rows
found_serve words rows absent taken is = elim (program_back words absent taken) [
  | inl none ↦ cc (is, none.1)
  | inr some ↦ elim some [
    | inl run ↦ absurd (differ (codes "serve") (codes "serve") (codes "run") refl refl (name_is _ _ _ _ (sym is ∙ run.enters)))
    | inr others ↦ elim others [
      | inl serve ↦ found_from (codes "serve") serve_names words rows absent serve is
      | inr load ↦ absurd (differ (codes "serve") (codes "serve") (codes "load") refl refl (name_is _ _ _ _ (sym is ∙ load.enters)))
    ]
  ]
]

pub found_load : (words : List Text) (rows : List Row) → AllByRecursion IsNoDashes words → fault_of program words ≡ [] → subcommand_of program words ≡ Some (codes "load", rows)
    → Found (codes "load") load_names words rows
found_load words rows absent taken is = elim (program_back words absent taken) [
  | inl none ↦ cc (is, none.1)
  | inr some ↦ elim some [
    | inl run ↦ absurd (differ (codes "load") (codes "load") (codes "run") refl refl (name_is _ _ _ _ (sym is ∙ run.enters)))
    | inr others ↦ elim others [
      | inl serve ↦ absurd (differ (codes "load") (codes "load") (codes "serve") refl refl (name_is _ _ _ _ (sym is ∙ serve.enters)))
      | inr load ↦ found_from (codes "load") load_names words rows absent load is
    ]
  ]
]

-- ---- what the command that was found says

pub run_found_says : (words : List Text) (rows : List Row) (r : run.Run) → Found (codes "run") run_names words rows → IsRun (RowsGive rows) r → Says words (Run r)
run_found_says words rows r found is =
    let behind : IsRun (RowsGive (rows_behind run_names found.options)) r = subst (λ (rows : List Row). IsRun (RowsGive rows) r) found.kept is in
    subst (λ (words : List Text). Says words (Run r)) (sym found.begins) (refl, run_back found.options r found.no_dashes found.taken behind)

pub serve_found_says : (words : List Text) (rows : List Row) (s : serve.Serve) → Found (codes "serve") serve_names words rows → IsServe (RowsGive rows) s → Says words (Serve s)
serve_found_says words rows s found is =
    let behind : IsServe (RowsGive (rows_behind serve_names found.options)) s = subst (λ (rows : List Row). IsServe (RowsGive rows) s) found.kept is in
    subst (λ (words : List Text). Says words (Serve s)) (sym found.begins) (refl, serve_back found.options s found.no_dashes found.taken behind)

pub load_found_says : (words : List Text) (rows : List Row) (l : load.Load) → Found (codes "load") load_names words rows → IsLoad (RowsGive rows) l → Says words (Load l)
load_found_says words rows l found is =
    let behind : IsLoad (RowsGive (rows_behind load_names found.options)) l = subst (λ (rows : List Row). IsLoad (RowsGive rows) l) found.kept is in
    subst (λ (words : List Text). Says words (Load l)) (sym found.begins) (refl, load_back found.options l found.no_dashes found.taken behind)

-- the flag of a command that was found is given or not
pub turns_told : (name : Text) (known : List Name) (words : List Text) (rows : List Row) → Contains known Turns → Found name known words rows
    → (given : Option ℕ) × RowsGive rows Turns given
turns_told name known words rows member found =
    let kept = leaf_keeps name known found.options found.no_dashes found.taken in
    let text = ap (one_of (label Turns)) (found.kept ∙ kept.1.rows) ∙ one_of-flag known kept.0 Turns kept.1.lawful refl member in
    go (is_some (form_of kept.0 Turns)) text
  where
    go : (b : Bool) → one_of (label Turns) rows ≡ Some (cond b (codes "true") (codes "false")) → (given : Option ℕ) × RowsGive rows Turns given
    go true is = (Some 0, (is, refl))
    go false is = (None, is)

-- ---- what was found, and what the words say

pub found_says : (words : List Text) (meaning : Words) → AllByRecursion IsNoDashes words → fault_of program words ≡ [] → RowsSay (subcommand_of program words) meaning → Says words meaning
found_says words meaning absent taken says = go (subcommand_of program words) refl meaning says where
  go : (found : Option (Text × List Row)) → subcommand_of program words ≡ found → (meaning : Words) → RowsSay found meaning → Says words meaning
  go None is meaning says = absurd says
  go (Some found) is (Run r) says =
      run_found_says words found.1 r (found_run words found.1 absent taken (is ∙ ap (λ (name : Text). Some (name, found.1)) says.0)) says.1
  go (Some found) is (Serve s) says =
      serve_found_says words found.1 s (found_serve words found.1 absent taken (is ∙ ap (λ (name : Text). Some (name, found.1)) says.0)) says.1
  go (Some found) is (Load l) says =
      load_found_says words found.1 l (found_load words found.1 absent taken (is ∙ ap (λ (name : Text). Some (name, found.1)) says.0)) says.1

pub says-found : (words : List Text) (meaning : Words) → Says words meaning → RowsSay (subcommand_of program words) meaning
says-found [] meaning says = absurd says
says-found (command ∷ options) (Run r) says =
    let enters = ap (λ (name : Text). subcommand_of program (name ∷ options)) says.0 ∙ enters-rows (codes "run") run_names run_command options in
    subst (λ (found : Option (Text × List Row)). RowsSay found (Run r)) (sym enters) (refl, (run_on options r says.1).1)
says-found (command ∷ options) (Serve s) says =
    let enters = ap (λ (name : Text). subcommand_of program (name ∷ options)) says.0 ∙ enters-rows (codes "serve") serve_names serve_command options in
    subst (λ (found : Option (Text × List Row)). RowsSay found (Serve s)) (sym enters) (refl, (serve_on options s says.1).1)
says-found (command ∷ options) (Load l) says =
    let enters = ap (λ (name : Text). subcommand_of program (name ∷ options)) says.0 ∙ enters-rows (codes "load") load_names load_command options in
    subst (λ (found : Option (Text × List Row)). RowsSay found (Load l)) (sym enters) (refl, (load_on options l says.1).1)

pub found_turns : (words : List Text) → AllByRecursion IsNoDashes words → fault_of program words ≡ [] → TellTurns (subcommand_of program words)
found_turns words absent taken = go (subcommand_of program words) refl where
  go : (found : Option (Text × List Row)) → subcommand_of program words ≡ found → TellTurns found
  go None is = tt
  go (Some found) is = λ command. elim command [
    | inl run ↦ turns_told (codes "run") run_names words found.1 (3, omega arith, refl)
        (found_run words found.1 absent taken (is ∙ ap (λ (name : Text). Some (name, found.1)) run))
    | inr load ↦ turns_told (codes "load") load_names words found.1 (4, omega arith, refl)
        (found_load words found.1 absent taken (is ∙ ap (λ (name : Text). Some (name, found.1)) load))
  ]

-- ---- what `subcommand` answers

module _ {Z : Type 0} where
  -- the command and the rows of its options, as they are handed out
  pub handed_out : (there : Option (Box SubCommand Z)) (result : Option (Bor Text × Bor ArgMatches))
      → option_map (λ (p : Bor Text × Bor ArgMatches). p.0.now) result ≡ option_map (λ (b : Box SubCommand Z). (out-SubCommand (box_value b)).name.now) there
      → option_map (λ (p : Bor Text × Bor ArgMatches). rows_of (found_of p.1.now)) result ≡ option_map (λ (p : Text × List Row). p.1) (subcommand_rows there)
      → subcommand_rows there ≡ option_map (λ (p : Bor Text × Bor ArgMatches). (p.0.now, rows_of (found_of p.1.now))) result
  handed_out None None names rows = refl
  handed_out None (Some p) names rows = cc
  handed_out (Some b) None names rows = cc
  handed_out (Some b) (Some p) names rows =
      let name : p.0.now ≡ (out-SubCommand (box_value b)).name.now = cc in
      let row : rows_of (found_of p.1.now) ≡ rows_of (found_of (out-SubCommand (box_value b)).matches) = cc in
      ap₂ (λ (n : Text) (r : List Row). Some (n, r)) (sym name) (sym row)

-- a command whose options say nothing says nothing
module _ (there : Option (Text × List Row)) (command : Text) (rows : List Row) (found : there ≡ Some (command, rows)) where
  pub run_refused : command ≡ codes "run" → ((r : run.Run) → IsRun (RowsGive rows) r → ⊥) → (meaning : Words) → RowsSay there meaning → ⊥
  run_refused is none meaning says = go meaning (subst (λ (there : Option (Text × List Row)). RowsSay there meaning) found says) where
    go : (meaning : Words) → RowsSay (Some (command, rows)) meaning → ⊥
    go (Run r) says = none r says.1
    go (Serve s) says = differ command (codes "run") (codes "serve") refl is says.0
    go (Load l) says = differ command (codes "run") (codes "load") refl is says.0

  pub load_refused : command ≡ codes "load" → ((l : load.Load) → IsLoad (RowsGive rows) l → ⊥) → (meaning : Words) → RowsSay there meaning → ⊥
  load_refused is none meaning says = go meaning (subst (λ (there : Option (Text × List Row)). RowsSay there meaning) found says) where
    go : (meaning : Words) → RowsSay (Some (command, rows)) meaning → ⊥
    go (Run r) says = differ command (codes "load") (codes "run") refl is says.0
    go (Serve s) says = differ command (codes "load") (codes "serve") refl is says.0
    go (Load l) says = none l says.1

-- ---- `--` among words

-- one of them is `--`
abbrev has_dashes : List (String Global) → Bool
has_dashes words = list_any (λ (word : String Global). bytes_eq (string_bytes word) dashes) words

pub none_is_dashes : (words : List (String Global)) → has_dashes words ≡ false → AllByRecursion IsNoDashes (texts words)
none_is_dashes [] none = tt
none_is_dashes (word ∷ words) none = go (bytes_eq (string_bytes word) dashes) refl none (none_is_dashes words) where
  go : (b : Bool) → bytes_eq (string_bytes word) dashes ≡ b → b || has_dashes words ≡ false → (has_dashes words ≡ false → AllByRecursion IsNoDashes (texts words))
      → AllByRecursion IsNoDashes (texts (word ∷ words))
  go true is none more = absurd (true≢false none)
  go false is none more = (is, more none)

pub one_is_dashes : (words : List (String Global)) → has_dashes words ≡ true → AllByRecursion IsNoDashes (texts words) → ⊥
one_is_dashes [] one absent = true≢false (sym one)
one_is_dashes (word ∷ words) one absent = one_is_dashes words (subst (λ (b : Bool). b || has_dashes words ≡ true) absent.0 one) absent.1
