use Rattle.std.proofs.Common.{◌≡◌, ◌+◌, ◌≤◌, refl, sym, subst, arith, slice_index_or, slice_set}
use Rattle.tm_model.specs.State.{place_count}
use Rattle.tm_trustee.proofs.Elements.{read_at, set_here}
use Rattle.tm_trustee.proofs.TurningIdle.{below_idle}
use Rattle.tm_trustee.proofs.TurningLooks.{found_most, below_grows}
use Rattle.tm_trustee.proofs.TurningReady as turning
use Rattle.tm_trustee.proofs.TurningOwn as own
use Rattle.tm_trustee.proofs.trustee.Trustee.serve_table.Goals as goal

pub overflow_add-places : goal.overflow_add-places
overflow_add-places g c =
    let few = turning.is_few g.P.PairTable.theory g.S.Entrusted.kind c.args.tables.now c.args.self.now c.requires in
    omega (arith, few.number, few.clients)

pub bounds-tables-number : goal.bounds-tables-number
bounds-tables-number g c = (turning.is_few g.P.PairTable.theory g.S.Entrusted.kind c.args.tables.now c.args.self.now c.requires).within

pub serve_places-requires : goal.serve_places-requires
serve_places-requires g c =
    let theory = g.P.PairTable.theory in
    let kind = g.S.Entrusted.kind in
    let t = c.args.self.now in
    let table = slice_index_or c.args.tables.now t.number c.index-tables-number.result in
    let is = subst (λ x. x ≡ slice_index_or c.args.tables.now t.number x) c.index-tables-number.is c.index-tables-number.is in
    let here = read_at c.args.tables.now t.number table (turning.is_few theory kind c.args.tables.now t c.requires).within is in
    let home = turning.at_home theory kind c.args.tables.now t table c.requires here in
    let many = own.places_of theory kind (theory.opening table) t home.1 in
    let enough : t.clients + t.number ≤ place_count (theory.opening table).setup = omega (arith, many) in
    record { mine = home.0; current = home.1.current; places = enough; free = home.1.free }

pub returns-clause-ready : goal.returns-clause-ready
returns-clause-ready g c =
    let theory = g.P.PairTable.theory in
    let kind = g.S.Entrusted.kind in
    let t = c.args.self.now in
    let becomes = c.serve_places.new.table in
    let table = slice_index_or c.args.tables.now t.number c.index-tables-number.result in
    let is = subst (λ x. x ≡ slice_index_or c.args.tables.now t.number x) c.index-tables-number.is c.index-tables-number.is in
    let within = (turning.is_few theory kind c.args.tables.now t c.requires).within in
    let here = read_at c.args.tables.now t.number table within is in
    let call = c.serve_places.ensures in
    let home = turning.at_home theory kind c.args.tables.now t table c.requires here in
    let many = own.places_of theory kind (theory.opening table) t home.1 in
    let few : t.clients + t.number ≤ place_count (theory.opening table).setup = omega (arith, many) in
    let idle = below_idle theory kind g.met.P.PairTable.laws (theory.opening table) (t.clients + t.number) table becomes t.side c.serve_places.new.side call.serves refl few home.0 home.1.idle in
    let longer = below_grows theory kind (theory.opening table) (t.clients + t.number) table becomes t.side c.serve_places.new.side call.serves in
    turning.own_ready theory kind c.args.tables.now (slice_set c.args.tables.now t.number becomes) t
    (record t { side = c.serve_places.new.side; state = c.serve_places.new.state; since = c.serve_places.new.since }) table becomes refl c.requires here
    (set_here c.args.tables.now t.number becomes within)
    (own.own_kept theory kind g.met.P.PairTable.laws c.args.tables.now t.number table becomes c.serve_places.new.side here call.keeps) call.keeps.opening
    call.keeps.mine call.current call.free call.goes_on idle longer

pub returns-clause-serves : goal.returns-clause-serves
returns-clause-serves g c = λ was now is_was is_now.
    let theory = g.P.PairTable.theory in
    let kind = g.S.Entrusted.kind in
    let t = c.args.self.now in
    let table = slice_index_or c.args.tables.now t.number c.index-tables-number.result in
    let is = subst (λ x. x ≡ slice_index_or c.args.tables.now t.number x) c.index-tables-number.is c.index-tables-number.is in
    let here = read_at c.args.tables.now t.number table (turning.is_few theory kind c.args.tables.now t c.requires).within is in
    let home = turning.at_home theory kind c.args.tables.now t table c.requires here in
    own.served_there theory kind g.met.P.PairTable.laws c.args.tables.now t.number (t.clients + t.number) table c.serve_places.new.table was now
    c.args.self.now.side c.serve_places.new.side here is_was is_now (own.places_of theory kind (theory.opening table) t home.1) c.serve_places.ensures.serves

pub returns-clause-goes_on : goal.returns-clause-goes_on
returns-clause-goes_on g c = c.serve_places.ensures.goes_on

pub returns-clause-found : goal.returns-clause-found
returns-clause-found g c = c.serve_places.ensures.found

pub returns-clause-most : goal.returns-clause-most
returns-clause-most g c =
    let t = c.args.self.now in
    subst (λ n. n ≤ t.clients + t.number) (sym c.serve_places.ensures.found)
    (found_most (t.clients + t.number) (g.P.PairTable.theory.trustee_view c.serve_places.new.side))

pub returns-clause-tables : goal.returns-clause-tables
returns-clause-tables g c =
    let theory = g.P.PairTable.theory in
    let kind = g.S.Entrusted.kind in
    let t = c.args.self.now in
    let table = slice_index_or c.args.tables.now t.number c.index-tables-number.result in
    let is = subst (λ x. x ≡ slice_index_or c.args.tables.now t.number x) c.index-tables-number.is c.index-tables-number.is in
    let here = read_at c.args.tables.now t.number table (turning.is_few theory kind c.args.tables.now t c.requires).within is in
    own.own_kept theory kind g.met.P.PairTable.laws c.args.tables.now t.number table c.serve_places.new.table c.serve_places.new.side here
    c.serve_places.ensures.keeps

pub returns-clause-only : goal.returns-clause-only
returns-clause-only g c = refl
