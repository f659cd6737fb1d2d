use Rattle.std.proofs.Common.{map, refl, sym, ◌∙◌, ap, subst}
use Rattle.std.proofs.lemmas.List.{drop-map}
use Rattle.tm_turns.specs.Making.{AreParts, AreNewTrustees}
use Rattle.tm_turns.proofs.Built.{for_clients, parts_are, built_is}
use Rattle.tm_turns.proofs.building.make.Goals as goal

pub clients_of-requires-clause-seats : goal.clients_of-requires-clause-seats
clients_of-requires-clause-seats g c =
    for_clients g.S.Entrusted.kind c.args.config c.args.first.items c.in_ok-opened.opened c.in_ok-opened.ensures

pub trustees_of-requires : goal.trustees_of-requires
trustees_of-requires g c =
    let opened = c.in_ok-opened.opened in
    let clients = c.args.config.clients in
    let same = ap (λ l. map (λ v. v.items) l) c.in_ok-clients.ensures.rest ∙ sym (drop-map (λ v. v.items) clients opened.seats.items) in
    let parts = parts_are g.S.Entrusted.kind c.args.config c.args.first.items opened c.in_ok-opened.ensures _ _ c.requires c.in_ok-nested.ensures c.in_ok-placed.ensures in (
      c.args.first.items,
      subst
          (λ l. AreParts c.args.config c.args.first.items opened.homes.items l (map (λ v. v.items) c.in_ok-nested.nested.items) (map (λ v. v.items) c.in_ok-placed.placed.items))
          (sym same) parts,
    )

pub returns : goal.returns
returns g c =
    let opened = c.in_ok-opened.opened in
    let clients = c.args.config.clients in
    let same = ap (λ l. map (λ v. v.items) l) c.in_ok-clients.ensures.rest ∙ sym (drop-map (λ v. v.items) clients opened.seats.items) in
    let whole = parts_are g.S.Entrusted.kind c.args.config c.args.first.items opened c.in_ok-opened.ensures _ _ c.requires c.in_ok-nested.ensures c.in_ok-placed.ensures in
    let parts =
    subst
    (λ l. AreParts c.args.config c.args.first.items opened.homes.items l (map (λ v. v.items) c.in_ok-nested.nested.items) (map (λ v. v.items) c.in_ok-placed.placed.items))
    (sym same) whole in
    let made = c.in_ok-trustees.ensures c.args.first.items parts in
    built_is g.S.Entrusted.kind c.args.config c.args.first.items opened c.in_ok-opened.ensures _ _ c.requires refl c.in_ok-clients.ensures.clients
    (subst (λ l. AreNewTrustees g.S.Entrusted.kind c.args.config c.args.first.items c.args.config.trustees opened.homes.items l c.in_ok-trustees.trustees.items) same made)
    c.in_ok-counts.ensures.items c.in_ok-counts.ensures.capacity
