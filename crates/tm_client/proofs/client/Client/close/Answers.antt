use Rattle.std.proofs.Common.{true, length, refl}
use Rattle.std.proofs.lemmas.Option.{slice_get_read}
use Rattle.tm_client.proofs.Marked as marked
use Rattle.tm_client.proofs.client.Client.close.Goals as goal

pub returns-clause-marked : goal.returns-clause-marked
returns-clause-marked g c = record {
  lane = c.index_mut-lane.result.now;
  of_lane =
      slice_get_read c.args.self.now.books.lanes.items (length c.args.self.now.books.lanes.items) c.args.trustee c.index_mut-lane.result.now refl c.requires.trustee
      c.index_mut-lane.ensures.value;
  lanes = refl;
  coming = refl;
  rest = record { number = refl; clients = refl; most = refl; held = refl; arrived = refl; gifts = refl };
}

pub returns-clause-client : goal.returns-clause-client
returns-clause-client g c = λ openings is.
    marked.marking_keeps g.P.PairTable.theory.client_view openings c.args.trustee (λ b. b) (λ b. true) c.args.self.now.books _ is
    (record {
      lane = c.index_mut-lane.result.now;
      of_lane =
          slice_get_read c.args.self.now.books.lanes.items (length c.args.self.now.books.lanes.items) c.args.trustee c.index_mut-lane.result.now refl
          c.requires.trustee c.index_mut-lane.ensures.value;
      lanes = refl;
      coming = refl;
      rest = record { number = refl; clients = refl; most = refl; held = refl; arrived = refl; gifts = refl };
    })
    (λ b e. refl)
