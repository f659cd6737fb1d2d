use Rattle.std.proofs.Common.{refl}
use Rattle.mc_next.proofs.Dropped.{given_taken, none_to_drop}
use Rattle.mc_next.proofs.session.Session.drop_replies.Goals as goal

pub returns-in-Some-clause-given : goal.returns-in-Some-clause-given
returns-in-Some-clause-given g c = λ s marks first now given.
    given_taken g.P.PairTable.theory.client_view s marks c.args.self.now first now c.args.client.now.books c.take_all.new.client.books c.in-Some.work _ c.in-Some.is c.take_all.ensures.taken given

pub returns-in-None-clause-rests : goal.returns-in-None-clause-rests
returns-in-None-clause-rests g c = λ _.
    let (openings, client) = c.requires.client in
    let (s, marks, first, now, given) = c.requires.given in
    (refl, refl, none_to_drop g.P.PairTable.theory.client_view openings s marks c.args.self.now first now c.args.client.now.books c.in-None.is client given)
