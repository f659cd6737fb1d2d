use Rattle.std.proofs.Common.{◌++◌, arith}
use Rattle.std.proofs.lemmas.List.{length-append}
use Rattle.mc_grammar.proofs.Steps.{line_after, line_long_ends}
use Rattle.mc_grammar.proofs.Taking.{takes_done}
use Rattle.mc_grammar.proofs.lines.ended.Goals as goal

pub returns-then-end-len-clause-ok : goal.returns-then-end-len-clause-ok
returns-then-end-len-clause-ok c =
    let whole = c.args.front ++ c.args.end.now in
    takes_done _ _ c.args.from.now (line_long_ends whole (line_after _ _ c.requires.sound.0 c.requires.line) (omega (arith, length-append c.args.front c.args.end.now))) tt tt

pub joined-requires : goal.joined-requires
joined-requires c = line_after _ _ c.requires.sound.0 c.requires.line
