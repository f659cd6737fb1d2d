use Rattle.std.proofs.Common.{sym, subst, ◌∙◌, ◌≡◌}
use Rattle.std.proofs.lemmas.Bool.{false≢true}
use Rattle.mc_grammar.specs.declared.progress.Progress.TheVariants.{Line}
use Rattle.mc_grammar.specs.Progress.{Goes, Start, IsSound}
use Rattle.mc_grammar.proofs.Between.{between_line, some_held}
use Rattle.mc_grammar.proofs.reader.Reader.is_between.Goals as goal

pub returns-in-Line-clause-held : goal.returns-in-Line-clause-held
returns-in-Line-clause-held c = λ held g.
    let is : c.args.self.now ≡ Line c.in-Line.front = sym c.self.view_is ∙ c.in-Line.is in
    between_line c.in-Line.front held c.is_empty.result c.is_empty.ensures (subst (λ p. Goes Start held p) is g)

pub returns-in_default : goal.returns-in_default
returns-in_default c =
    let sound = subst IsSound c.self.view_is c.self.invariant in
    record {
      start = ((λ t. absurd (false≢true t)), λ e. absurd (c.in_default.not-Line _ (c.self.view_is ∙ e)));
      held = λ held g. (
        (λ t. absurd (false≢true t)),
        λ none. absurd (some_held c.args.self.now sound (λ front e. c.in_default.not-Line front (c.self.view_is ∙ e)) (subst (λ h. Goes Start h c.args.self.now) none g)),
      );
    }
