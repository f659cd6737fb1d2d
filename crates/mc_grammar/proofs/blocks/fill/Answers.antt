use Rattle.std.proofs.Common.{◌-◌, ◌++◌, length, arith}
use Rattle.std.proofs.lemmas.List.{length-append}
use Rattle.mc_grammar.specs.declared.progress.Progress.TheVariants.{Block}
use Rattle.mc_grammar.specs.Progress.{Goes}
use Rattle.mc_grammar.proofs.Steps.{block_goes_on}
use Rattle.mc_grammar.proofs.Taking.{takes_all, takes_then}
use Rattle.mc_grammar.proofs.blocks.fill.Goals as goal

pub returns-then-from-lacking : goal.returns-then-from-lacking
returns-then-from-lacking c =
    let f = c.args.filling in
    rw c.take.ensures (takes_all _ _ c.args.from.now (block_goes_on c.args.header f.0 f.1 c.args.from.now (omega arith)) (c.requires.0, omega (arith, c.requires.1, length-append f.0 c.args.from.now)))

pub returns : goal.returns
returns c =
    let h = c.args.header in
    let f = c.args.filling in
    let block = c.split_at.result.0.now in
    let step : Goes (Block h f) block (Block h (f.0 ++ block, f.1 - length block)) = block_goes_on h f.0 f.1 block (omega (arith, c.split_at.ensures.front_len, c.lacking-lacking.ensures)) in
    let here : Goes (Block h f) block (Block h c.take-2.new.self) = rw c.take-2.ensures step in
    takes_then _ _ _ c.args.from.now c.lacking-lacking.result _ (omega arith) (rw (← c.split_at.ensures.front) here)
    (rw c.split_at.ensures.back at c.tail-progress.ensures)

pub tail-progress-requires-clause-sound : goal.tail-progress-requires-clause-sound
tail-progress-requires-clause-sound c =
    let f = c.args.filling in
    let block = c.split_at.result.0.now in
    rw c.take-2.ensures (c.requires.0, omega (arith, c.requires.1, c.split_at.ensures.front_len, c.lacking-lacking.ensures, length-append f.0 block))
