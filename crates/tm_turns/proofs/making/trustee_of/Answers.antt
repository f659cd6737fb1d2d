use Rattle.std.proofs.Common.{◌+◌}
use Rattle.tm_turns.proofs.Made.{home_new, all_seats_new, part_begins, trustee_made}
use Rattle.tm_turns.proofs.making.trustee_of.Goals as goal

pub new-requires-clause-begins : goal.new-requires-clause-begins
new-requires-clause-begins g c =
    let (first, part) = c.requires in
    (_, first, part_begins c.args.config first c.args.number c.args.placed.items c.args.home c.args.seats.items c.args.nested.items part)

pub new-requires-clause-home : goal.new-requires-clause-home
new-requires-clause-home g c = let (first, part) = c.requires in home_new c.args.home (c.args.config.clients + c.args.number) part.home_is

pub new-requires-clause-seats : goal.new-requires-clause-seats
new-requires-clause-seats g c =
    let (first, part) = c.requires in all_seats_new (c.args.config.clients + c.args.number) c.args.seats.items part.seats_are

pub returns : goal.returns
returns g c first part =
    let is = c.in-Ok.ensures in
    trustee_made g.S.Entrusted.kind c.args.config first c.args.number c.args.placed.items c.args.home c.args.seats.items c.args.nested.items c.in-Ok.trustee part is.begun
    is.side is.above is.nested is.moved
