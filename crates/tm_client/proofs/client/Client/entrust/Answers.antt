use Rattle.std.proofs.Common.{◌≤◌, refl, arith}
use Rattle.tm_batch.specs.declared.limits.TheConstants.{MOST_TRUSTS}
use Rattle.tm_batch.specs.declared.message.Request.TheVariants.{Entrust}
use Rattle.tm_client.proofs.Allowed as allowed
use Rattle.tm_client.proofs.Asked as asked
use Rattle.tm_client.proofs.client.Client.entrust.Goals as goal

pub overflow_add-self : goal.overflow_add-self
overflow_add-self g c =
    let (openings, is) = c.requires.client in
    let limit : c.args.self.now.books.most ≤ MOST_TRUSTS = is.limit in
    let most = is.most in
    let coming = c.ask.ensures.coming in
    omega arith

pub returns-clause-asked : goal.returns-clause-asked
returns-clause-asked g c =
    let was = c.ask.ensures in
    record {
      lane = was.lane;
      becomes = was.becomes;
      of_lane = was.of_lane;
      accepts = was.accepts;
      lanes = was.lanes;
      coming = let is = was.coming in omega arith;
      rest = record { number = was.rest.number; clients = was.rest.clients; most = was.rest.most; held = was.rest.held; arrived = was.rest.arrived; gifts = was.rest.gifts };
    }

pub returns-clause-client : goal.returns-clause-client
returns-clause-client g c = λ openings is.
    let most = c.in_default.ensures.1 in
    let asks =
    allowed.asked_so c.args.trustee (Entrust c.args.value) c.args.after 1 c.args.self.now.books _ (returns-clause-asked g c) (λ id. refl) (omega (arith, most)) in
    asked.asking_keeps g.P.PairTable.theory.client_view openings c.args.trustee (Entrust c.args.value) c.args.after 1 c.args.self.now.books _ is asks
    (allowed.entrust_may c.args.self.now.books c.args.trustee c.args.value c.in_default.ensures)
