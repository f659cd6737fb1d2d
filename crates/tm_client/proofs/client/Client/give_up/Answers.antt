use Rattle.tm_client.proofs.Allowed as allowed
use Rattle.tm_client.proofs.client.Client.give_up.Goals as goal

pub remove-requires : goal.remove-requires
remove-requires g c = allowed.still_has c.args.self.now.books c.ask.new.self.books _ _ c.ask.ensures.rest.held c.hold.ensures c.requires.may.0.1

pub returns : goal.returns
returns g c =
    let was = c.ask.ensures in
    let gone = allowed.gone_of c.args.self.now.books c.ask.new.self.books c.args.trust.now _ c.remove.new.self was.rest.held c.hold.ensures c.remove.ensures in
    record {
      lane = was.lane;
      becomes = was.becomes;
      of_lane = was.of_lane;
      accepts = was.accepts;
      lanes = was.lanes;
      coming = was.coming;
      place = gone.0;
      told = gone.1;
      held = gone.2;
      number = was.rest.number;
      clients = was.rest.clients;
      most = was.rest.most;
      arrived = was.rest.arrived;
      gifts = was.rest.gifts;
    }
