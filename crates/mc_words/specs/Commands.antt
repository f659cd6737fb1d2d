-- The program's commands as they are described to `clap`: one level of subcommands, with options that are set once with
-- their texts, and flags; no help and no version. Only contracts of private functions speak of this.
use Rattle.std.specs.Prelude.{Bool, true, false, List, [], ◌∷◌, map, Some, codes, if◌then◌else◌}
use Rattle.clap.specs.Words.{App, Rule, Shape, Text, new_rule}
use Rattle.clap.specs.Simple.{new_shape}
use Rattle.clap.specs.declared.builder.action.ArgAction.{ArgAction}
use Rattle.clap.specs.declared.builder.action.ArgAction.TheVariants.{Set, SetTrue}
use Rattle.mc_words.specs.declared.names.Name.{Name}
use Rattle.mc_words.specs.Spelling.{label, takes_value}
use Rattle.mc_words.specs.RunWords.{run_names}
use Rattle.mc_words.specs.ServeWords.{serve_names}
use Rattle.mc_words.specs.LoadWords.{load_names}

abbrev pub action_by : Bool → ArgAction
action_by takes = if takes then Set else SetTrue

abbrev pub rule : Name → Rule
rule name = record (new_rule (label name)) { long = Some (label name); action = Some (action_by (takes_value name)) }

abbrev pub subcommand : Text → List Name → Shape
subcommand name options = record (new_shape name) { rules = map rule options }

abbrev pub bare_program : App
bare_program = record {
  top = record (new_shape (codes "trustmc")) {
    no_binary_name = true;
    disable_help_flag = true;
    disable_help_subcommand = true;
    disable_version_flag = true;
  };
  subs = [];
}

abbrev pub program : App
program = record {
  top = record bare_program.top { is_leaf = false };
  subs = subcommand (codes "run") run_names ∷ subcommand (codes "serve") serve_names ∷ subcommand (codes "load") load_names ∷ [];
}
