use Rattle.std.proofs.Common.{sym, ap, subst, ◌∙◌, ◌≡◌}
use Rattle.mc_grammar.specs.declared.progress.Progress.TheVariants.{Line, Ready}
use Rattle.mc_grammar.specs.Progress.{IsSound, Start}
use Rattle.mc_grammar.proofs.ReadFacts.{reads_item, reads_rest}
use Rattle.mc_grammar.proofs.Unfinished.{unfinished}
use Rattle.mc_grammar.proofs.reader.Reader.next.Goals as goal
use Rattle.mc_grammar.proofs.reader.Reader.next.Goals.{in-Command, in-Fault}

pub returns-after-message-clause-reads : goal.returns-after-message-clause-reads
returns-after-message-clause-reads c =
    let was : c.args.self.now ≡ Ready c.in-Ready.message = sym (c.replace.ensures.value ∙ c.self.view_is) ∙ c.in-Ready.is in
    let begun : c.replace.new.dest ≡ Start = c.replace.ensures.after ∙ ap Line c.new.ensures in
    elim c.match-message.branch [
      | in-Command w ↦ rw w.result-is (reads_item _ _ _ (was ∙ ap Ready w.in-Command.is) begun)
      | in-Fault w ↦ rw w.result-is (reads_item _ _ _ (was ∙ ap Ready w.in-Fault.is) begun)
    ]

pub returns-in_default : goal.returns-in_default
returns-in_default c =
    let same = c.replace.ensures.value ∙ c.self.view_is in
    let part = unfinished c.args.self.now (subst IsSound c.self.view_is c.self.invariant) (λ y e. c.in_default.not-Ready y (same ∙ e)) in
    record { comes = (part, same); reads = reads_rest c.args.self.now part }
