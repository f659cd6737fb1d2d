use Rattle.std.proofs.Common.{◌+◌, refl, arith}
use Rattle.tm_trustee.proofs.TurningReady as turning
use Rattle.tm_trustee.proofs.TurningAll as all
use Rattle.tm_trustee.proofs.trustee.Trustee.exchange_above.Goals as goal

pub overflow_add-self : goal.overflow_add-self
overflow_add-self g c =
    let few = turning.is_few g.P.PairTable.theory g.S.Entrusted.kind c.args.tables.now c.args.self.now c.requires in
    omega (arith, few.number)

pub go_above-requires : goal.go_above-requires
go_above-requires g c = record {
  above = (c.args.self.now.clients + c.args.self.now.number, turning.is_above g.P.PairTable.theory g.S.Entrusted.kind c.args.tables.now c.args.self.now c.requires);
  among = c.requires.above;
  needs = all.needs_exchange g.P.PairTable.theory g.S.Entrusted.kind g.met.P.PairTable.laws c.args.tables.now c.args.self.now c.requires;
}

pub returns-clause-ready : goal.returns-clause-ready
returns-clause-ready g c =
    let t = c.args.self.now in
    let place = t.clients + t.number in
    let is = turning.is_above g.P.PairTable.theory g.S.Entrusted.kind c.args.tables.now t c.requires in
    let go = c.go_above.ensures in
    all.exchanged_midway g.P.PairTable.theory g.S.Entrusted.kind g.met.P.PairTable.laws c.args.tables.now c.go_above.new.tables t
    (record t { above = c.go_above.new.above; lanes = c.go_above.new.lanes }) c.requires go.goes go.as_many go.lanes go.among (go.above place is) (go.tables place is) refl

pub returns-clause-exchanges : goal.returns-clause-exchanges
returns-clause-exchanges g c = λ was here.
    let go = c.go_above.ensures in
    let t = c.args.self.now in
    all.exchanged_all g.P.PairTable.theory g.S.Entrusted.kind g.met.P.PairTable.laws c.args.tables.now c.go_above.new.tables t
    (record t { above = c.go_above.new.above; lanes = c.go_above.new.lanes }) c.requires go.goes go.as_many go.lanes go.among was here

pub returns-clause-tables : goal.returns-clause-tables
returns-clause-tables g c =
    let t = c.args.self.now in
    c.go_above.ensures.tables (t.clients + t.number) (turning.is_above g.P.PairTable.theory g.S.Entrusted.kind c.args.tables.now t c.requires)

pub returns-clause-as_many : goal.returns-clause-as_many
returns-clause-as_many g c = c.go_above.ensures.as_many

pub returns-clause-moved : goal.returns-clause-moved
returns-clause-moved g c = c.go_above.ensures.moved

pub returns-clause-most : goal.returns-clause-most
returns-clause-most g c = c.go_above.ensures.most

pub returns-clause-only : goal.returns-clause-only
returns-clause-only g c = refl
