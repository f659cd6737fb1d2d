use Rattle.std.proofs.Common.{length}
use Rattle.tm_turns.proofs.Fronts.{ok_of_three}
use Rattle.tm_turns.proofs.Given.{may_begin}
use Rattle.tm_turns.proofs.Made.{client_made}
use Rattle.tm_turns.proofs.making.client_of.Goals as goal

pub new-requires-clause-begins : goal.new-requires-clause-begins
new-requires-clause-begins g c = (
  c.args.first.now.items,
  may_begin g.S.Entrusted.kind c.args.config c.args.first.now.items c.args.number c.in_ok-held.held.items (length c.args.sides.items) c.requires.buildable
      c.requires.number c.requires.as_many c.in_ok-held.ensures,
)

pub returns : goal.returns
returns g c =
    ok_of_three c.new.result _ _ _ _
    (λ r begun trusts is_first.
    client_made g.S.Entrusted.kind c.args.config c.args.first.now.items c.args.number c.in_ok-held.held.items c.args.sides.items r.0 r.1.items c.requires.buildable
    c.requires.number c.requires.as_many c.in_ok-held.ensures begun trusts is_first)
    c.new.ensures.begun c.new.ensures.trusts c.new.ensures.client
