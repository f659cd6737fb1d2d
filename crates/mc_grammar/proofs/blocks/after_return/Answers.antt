use Rattle.mc_model.specs.declared.message.Fault.TheVariants.{BadChunk}
use Rattle.mc_grammar.specs.declared.progress.Progress.TheVariants.{Pass}
use Rattle.mc_grammar.proofs.Steps.{tail_whole, tail_late}
use Rattle.mc_grammar.proofs.Taking.{takes_none, takes_tail, takes_byte, goes_byte}
use Rattle.std.proofs.Common.{refl}
use Rattle.mc_grammar.proofs.blocks.after_return.Goals as goal

pub returns-in-empty : goal.returns-in-empty
returns-in-empty c = takes_none _ c.args.from.now c.requires c.in-empty.len_below

pub returns-then-first-eq10 : goal.returns-then-first-eq10
returns-then-first-eq10 c =
    rw c.store.ensures (takes_byte _ _ c.args.from.now 10 c.in-len1-up.len_at_least c.if-first-eq10.true (tail_whole c.args.header c.args.value c.requires.0) tt tt)

pub returns-else-first-eq10 : goal.returns-else-first-eq10
returns-else-first-eq10 c =
    takes_tail _ (Pass (BadChunk c.args.header.quiet) 0) _ c.args.from.now _ c.in-len1-up.len_at_least
    (goes_byte _ _ c.args.from.now _ c.in-len1-up.len_at_least refl (tail_late c.args.header c.args.value _ c.requires.0 c.if-first-eq10.false))
    c.bad_chunk-progress.ensures
