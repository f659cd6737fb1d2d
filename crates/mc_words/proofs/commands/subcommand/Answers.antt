use Rattle.std.proofs.Common.{◌∙◌, ◌||◌, ap, ap₂}
use Rattle.clap.specs.Words.{App, app_of, rule_of}
use Rattle.mc_words.proofs.CommandShapes.{option_more}
use Rattle.mc_words.proofs.commands.subcommand.Goals as goal

pub loop-option-init : goal.loop-option-init
loop-option-init c = record {
  told = ap (λ (a : App). a.top) c.new-command.ensures.app;
  local = c.new-command.ensures.local;
}

pub loop-option-preserved : goal.loop-option-preserved
loop-option-preserved c = record {
  told = option_more c.args.name.now c.args.options.now c.loop-option.option-index (app_of c.loop-option.command) (app_of c.in_ok-command.command) (rule_of c.argument.result)
      c.loop-option-test.true c.loop-option.invariant.told (c.in_ok-command.ensures.shape c.argument.ensures.local) c.argument.ensures.rule;
  local = c.in_ok-command.ensures.globals ∙ ap₂ ◌||◌ c.loop-option.invariant.local c.argument.ensures.local;
}
