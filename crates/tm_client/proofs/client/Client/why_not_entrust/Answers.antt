use Rattle.tm_client.proofs.Allowed as allowed
use Rattle.tm_client.proofs.client.Client.why_not_entrust.Goals as goal

pub is_full-requires : goal.is_full-requires
is_full-requires g c =
    let (openings, is) = c.requires.client in allowed.window_at g.P.PairTable.theory.client_view openings c.args.self.now.books c.args.trustee is c.requires.trustee
