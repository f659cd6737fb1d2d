use Rattle.std.proofs.Common.{length, refl, arith}
use Rattle.std.proofs.lemmas.Option.{slice_get_read}
use Rattle.tm_client.proofs.Allowed as allowed
use Rattle.tm_client.proofs.client.Client.ask.Goals as goal

pub accept-requires-clause-waits : goal.accept-requires-clause-waits
accept-requires-clause-waits g c =
    let (openings, is) = c.requires.client in
    let lt = allowed.room_within g.P.PairTable.theory.client_view c.args.self.now.books c.args.trustee c.requires.room in
    let e = slice_get_read c.args.self.now.books.lanes.items (length c.args.self.now.books.lanes.items) c.args.trustee c.index_mut-lane.result.now refl lt c.index_mut-lane.ensures.value in
    (allowed.room_at g.P.PairTable.theory.client_view openings c.args.self.now.books c.args.trustee c.index_mut-lane.result.now is c.requires.room e).0

pub accept-requires-clause-afters : goal.accept-requires-clause-afters
accept-requires-clause-afters g c =
    let (openings, is) = c.requires.client in
    let lt = allowed.room_within g.P.PairTable.theory.client_view c.args.self.now.books c.args.trustee c.requires.room in
    let e = slice_get_read c.args.self.now.books.lanes.items (length c.args.self.now.books.lanes.items) c.args.trustee c.index_mut-lane.result.now refl lt c.index_mut-lane.ensures.value in
    (allowed.room_at g.P.PairTable.theory.client_view openings c.args.self.now.books c.args.trustee c.index_mut-lane.result.now is c.requires.room e).1

pub accept-requires-clause-counting : goal.accept-requires-clause-counting
accept-requires-clause-counting g c =
    let (openings, is) = c.requires.client in
    let lt = allowed.room_within g.P.PairTable.theory.client_view c.args.self.now.books c.args.trustee c.requires.room in
    let e = slice_get_read c.args.self.now.books.lanes.items (length c.args.self.now.books.lanes.items) c.args.trustee c.index_mut-lane.result.now refl lt c.index_mut-lane.ensures.value in
    (allowed.room_at g.P.PairTable.theory.client_view openings c.args.self.now.books c.args.trustee c.index_mut-lane.result.now is c.requires.room e).2

pub returns : goal.returns
returns g c =
    let lt = allowed.room_within g.P.PairTable.theory.client_view c.args.self.now.books c.args.trustee c.requires.room in
    record {
      lane = c.index_mut-lane.result.now;
      becomes = c.accept.new.self;
      of_lane =
          slice_get_read c.args.self.now.books.lanes.items (length c.args.self.now.books.lanes.items) c.args.trustee c.index_mut-lane.result.now refl lt
          c.index_mut-lane.ensures.value;
      accepts = c.accept.ensures;
      lanes = refl;
      coming = omega arith;
      rest = record { number = refl; clients = refl; most = refl; held = refl; arrived = refl; gifts = refl };
    }
