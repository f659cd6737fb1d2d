use Rattle.std.proofs.Common.{◌≤◌, arith}
use Rattle.tm_batch.specs.declared.limits.TheConstants.{MOST_TRUSTS}
use Rattle.tm_batch.specs.declared.message.Request.TheVariants.{Reclaim}
use Rattle.tm_client.proofs.Allowed as allowed
use Rattle.tm_client.proofs.Asked as asked
use Rattle.tm_client.proofs.client.Client.reclaim.Goals as goal

pub overflow_add-self : goal.overflow_add-self
overflow_add-self g c =
    let (openings, is) = c.requires.client in
    let limit : c.args.self.now.books.most ≤ MOST_TRUSTS = is.limit in
    let most = is.most in
    let coming = c.give_up.ensures.coming in
    omega arith

pub returns-clause-given : goal.returns-clause-given
returns-clause-given g c =
    let was = c.give_up.ensures in
    record {
      lane = was.lane;
      becomes = was.becomes;
      of_lane = was.of_lane;
      accepts = was.accepts;
      lanes = was.lanes;
      coming = let is = was.coming in omega (arith, is);
      place = was.place;
      told = was.told;
      held = was.held;
      number = was.number;
      clients = was.clients;
      most = was.most;
      arrived = was.arrived;
      gifts = was.gifts;
    }

pub returns-clause-client : goal.returns-clause-client
returns-clause-client g c = λ openings is.
    let asks =
    allowed.given_so c.args.trust (Reclaim c.args.trust.name) c.args.after 1 c.args.self.now.books _ (returns-clause-given g c) (λ id. omega arith) (omega arith)
    is.most in
    asked.asking_keeps g.P.PairTable.theory.client_view openings c.args.trust.trustee (Reclaim c.args.trust.name) c.args.after 1 c.args.self.now.books _ is asks
    (allowed.reclaim_may c.args.self.now.books c.args.trust c.in_default.ensures)
