use Rattle.std.proofs.Common.{subst, ◌∙◌}
use Rattle.mc_grammar.specs.Progress.{IsSound, Takes}
use Rattle.mc_grammar.proofs.ReadFacts.{reads_on}
use Rattle.mc_grammar.proofs.Unfinished.{bounded, takes_exactly}
use Rattle.mc_grammar.proofs.reader.Reader.feed.Goals as goal

pub returns-in-Ok-clause-reads : goal.returns-in-Ok-clause-reads
returns-in-Ok-clause-reads c =
    let took : Takes c.args.self.now c.args.from.now c.in-Ok.state c.in-Ok.taken = rw (c.replace-state.ensures.value ∙ c.self.view_is) at c.in-Ok.ensures.ok in
    reads_on _ _ _ took.goes

pub returns-in-Ok-clause-takes : goal.returns-in-Ok-clause-takes
returns-in-Ok-clause-takes c =
    let took : Takes c.args.self.now c.args.from.now c.in-Ok.state c.in-Ok.taken = rw (c.replace-state.ensures.value ∙ c.self.view_is) at c.in-Ok.ensures.ok in
    takes_exactly _ _ _ _ (subst IsSound c.self.view_is c.self.invariant) took

pub returns-in-Ok-clause-bounded : goal.returns-in-Ok-clause-bounded
returns-in-Ok-clause-bounded c = bounded c.in-Ok.state c.in-Ok.ensures.ok.sound
