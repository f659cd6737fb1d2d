use Rattle.std.proofs.Common.{◌++◌, arith}
use Rattle.std.proofs.lemmas.List.{length-append}
use Rattle.mc_grammar.proofs.Steps.{line_then, line_too_long, line_goes_on, none_after}
use Rattle.mc_grammar.proofs.lines.unended.Goals as goal

pub returns-then-from-len-clause-goes : goal.returns-then-from-len-clause-goes
returns-then-from-len-clause-goes c =
    let t = c.args.from.now in
    line_then c.args.front t _ (line_too_long (c.args.front ++ t) (none_after _ _ c.requires.sound.0 c.requires.no_end) (omega (arith, length-append c.args.front t)))

pub returns-in-Ok-clause-goes : goal.returns-in-Ok-clause-goes
returns-in-Ok-clause-goes c = rw c.in-Ok.ensures.ok (line_goes_on c.args.front c.args.from.now)

pub returns-in-Ok-clause-sound : goal.returns-in-Ok-clause-sound
returns-in-Ok-clause-sound c =
    rw c.in-Ok.ensures.ok (none_after _ _ c.requires.sound.0 c.requires.no_end, omega (arith, length-append c.args.front c.args.from.now))
