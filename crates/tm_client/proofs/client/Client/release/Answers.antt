use Rattle.std.proofs.Common.{arith}
use Rattle.tm_batch.specs.declared.message.Request.TheVariants.{Release}
use Rattle.tm_client.proofs.Allowed as allowed
use Rattle.tm_client.proofs.Asked as asked
use Rattle.tm_client.proofs.client.Client.release.Goals as goal

pub returns-clause-client : goal.returns-clause-client
returns-clause-client g c = λ openings is.
    let asks =
    allowed.given_so c.args.trust (Release c.args.trust.name) c.args.after 0 c.args.self.now.books c.give_up.new.self.books c.give_up.ensures
    (λ id. omega arith) (omega arith) is.most in
    asked.asking_keeps g.P.PairTable.theory.client_view openings c.args.trust.trustee (Release c.args.trust.name) c.args.after 0 c.args.self.now.books
    c.give_up.new.self.books is asks (allowed.release_may c.args.self.now.books c.args.trust c.in_default.ensures)
