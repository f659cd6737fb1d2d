use Rattle.mc_next.specs.Sessions.{seen}
use Rattle.mc_next.proofs.Finished.{goes_on}
use Rattle.mc_next.proofs.Marked.{none_marked}
use Rattle.mc_next.proofs.session.Session.take_unless_quit.Goals as goal

pub returns-then-self-clause-goes : goal.returns-then-self-clause-goes
returns-then-self-clause-goes g c = λ s marks first left written many on.
    let view = g.P.PairTable.theory.client_view in
    let books = c.args.client.now.books in
    let now = seen view books left (g.W.Clock.readings c.args.clock.now) written in
    none_marked view s marks first now books c.args.self.now (goes_on view s marks first now books c.args.self.now c.requires.running on)
