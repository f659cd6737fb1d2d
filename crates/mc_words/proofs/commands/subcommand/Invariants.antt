use Rattle.std.proofs.Common.{◌≡◌, false, take}
use Rattle.clap.specs.Words.{app_of}
use Rattle.clap.specs.declared.builder.command.Command.TheViews.{out-Command}
use Rattle.mc_words.specs.Commands.{subcommand}
use Rattle.mc_words.proofs.commands.subcommand.Given as goal

abbrev pub invariant-loop-option : goal.invariant-loop-option
invariant-loop-option l = record {
  told : (app_of l.command).top ≡ subcommand l.name (take l.option-index l.options);
  local : (out-Command l.command).has_globals ≡ false;
}
