use Rattle.std.proofs.Common.{refl, arith}
use Rattle.tm_batch.specs.declared.message.Request.TheVariants.{Launch}
use Rattle.tm_client.proofs.Allowed as allowed
use Rattle.tm_client.proofs.Asked as asked
use Rattle.tm_client.proofs.client.Client.launch.Goals as goal

pub returns-clause-client : goal.returns-clause-client
returns-clause-client g c = λ openings is.
    let asks =
    allowed.asked_so c.args.trust.now.trustee (Launch c.args.trust.now.name c.args.task) c.args.after 0 c.args.self.now.books c.ask.new.self.books c.ask.ensures (λ id. refl)
    (let most = is.most in omega (arith, most)) in
    asked.asking_keeps g.P.PairTable.theory.client_view openings c.args.trust.now.trustee (Launch c.args.trust.now.name c.args.task) c.args.after 0
    c.args.self.now.books c.ask.new.self.books is asks (allowed.launch_may c.args.self.now.books c.args.trust.now c.args.task c.in_default.ensures)
