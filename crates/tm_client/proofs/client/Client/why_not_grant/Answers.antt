use Rattle.std.proofs.Common.{rules}
use Rattle.tm_client.specs.Asking.{IsHeldBy}
use Rattle.tm_client.proofs.Allowed as allowed
use Rattle.tm_client.proofs.client.Client.why_not_grant.Goals as goal

pub is_closing-requires : goal.is_closing-requires
is_closing-requires g c =
    let (openings, is) = c.requires.client in
    let held : IsHeldBy c.args.self.now.books c.args.trust.now = search rules in
    allowed.trust_within g.P.PairTable.theory.client_view openings c.args.self.now.books c.args.trust.now.trustee c.args.trust.now.name.id is held.1

pub is_full-requires : goal.is_full-requires
is_full-requires g c =
    let (openings, is) = c.requires.client in
    let held : IsHeldBy c.args.self.now.books c.args.trust.now = search rules in
    allowed.window_at g.P.PairTable.theory.client_view openings c.args.self.now.books c.args.trust.now.trustee is
    (allowed.trust_within g.P.PairTable.theory.client_view openings c.args.self.now.books c.args.trust.now.trustee c.args.trust.now.name.id is held.1)
