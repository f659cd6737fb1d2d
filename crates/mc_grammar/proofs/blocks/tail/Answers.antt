use Rattle.std.proofs.Common.{refl}
use Rattle.mc_model.specs.declared.message.Fault.TheVariants.{BadChunk}
use Rattle.mc_grammar.specs.declared.progress.Progress.TheVariants.{Returned, Pass}
use Rattle.mc_grammar.proofs.Steps.{tail_bare, tail_returned, tail_other}
use Rattle.mc_grammar.proofs.Taking.{takes_none, takes_tail, takes_byte, goes_byte}
use Rattle.mc_grammar.proofs.blocks.tail.Goals as goal

pub returns-in-empty : goal.returns-in-empty
returns-in-empty c = takes_none _ c.args.from.now c.requires.sound c.in-empty.len_below

pub returns-then-first-eq13 : goal.returns-then-first-eq13
returns-then-first-eq13 c =
    takes_tail _ (Returned c.args.header c.args.filling.0) _ c.args.from.now _ c.in-len1-up.len_at_least
    (goes_byte _ _ c.args.from.now 13 c.in-len1-up.len_at_least c.if-first-eq13.true (tail_returned c.args.header c.args.filling.0 c.args.filling.1 c.requires.whole))
    (rw c.into_bytes.ensures at c.after_return-progress.ensures)

pub returns-then-first-eq10 : goal.returns-then-first-eq10
returns-then-first-eq10 c =
    takes_byte _ _ c.args.from.now 10 c.in-len1-up.len_at_least c.if-first-eq10.true (tail_bare c.args.header c.args.filling.0 c.args.filling.1 c.requires.whole c.requires.sound.0) tt tt

pub returns : goal.returns
returns c =
    takes_tail _ (Pass (BadChunk c.args.header.quiet) 0) _ c.args.from.now _ c.in-len1-up.len_at_least
    (goes_byte _ _ c.args.from.now _ c.in-len1-up.len_at_least refl (tail_other c.args.header c.args.filling.0 c.args.filling.1 _ c.requires.whole c.requires.sound.0 c.if-first-eq10.false c.if-first-eq13.false))
    c.bad_chunk-progress.ensures
