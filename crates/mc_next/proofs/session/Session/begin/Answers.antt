use Rattle.std.proofs.Common.{[], refl, sym, ◌∙◌, inl, inr}
use Rattle.std.proofs.lemmas.Bool.{false≢true}
use Rattle.mc_next.proofs.Working.{all_are_asked}
use Rattle.mc_next.proofs.session.Session.begin.Goals as goal

pub finish-requires-clause-all : goal.finish-requires-clause-all
finish-requires-clause-all g c =
    all_are_asked (λ i. record { id = 0; place = 0 }) c.args.trustees c.args.command c.args.self.now.moment [] c.in-Ok.work (c.in-Ok.ensures (λ i. record { id = 0; place = 0 }))
    (c.is_asked.ensures.0 c.if-is_asked.true)

pub returns-then-is_asked : goal.returns-then-is_asked
returns-then-is_asked g c = inr (inl (c.in-Ok.work, c.in-Ok.ensures, c.is_asked.ensures.0 c.if-is_asked.true, c.finish.ensures))

pub returns-else-is_asked : goal.returns-else-is_asked
returns-else-is_asked g c = inl (c.in-Ok.work, c.in-Ok.ensures, λ none. false≢true (sym c.if-is_asked.false ∙ c.is_asked.ensures.1 none), refl)
