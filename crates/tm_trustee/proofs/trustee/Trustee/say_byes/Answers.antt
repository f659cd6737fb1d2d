use Rattle.std.proofs.Common.{◌≡◌, ◌+◌, true, false, refl, sym, ◌∙◌, arith, IsTrue}
use Rattle.tm_trustee.specs.Serving.{ups_of}
use Rattle.tm_trustee.proofs.Keeping.{keeps_none}
use Rattle.tm_trustee.proofs.TurningAbove.{none_moves}
use Rattle.tm_trustee.proofs.TurningMoved.{all_say_at, none_say_at}
use Rattle.tm_trustee.proofs.TurningAll as all
use Rattle.tm_trustee.proofs.TurningReady as turning
use Rattle.tm_trustee.proofs.trustee.Trustee.say_byes.Goals as goal

pub overflow_add-from : goal.overflow_add-from
overflow_add-from g c =
    let few = turning.is_few g.P.PairTable.theory g.S.Entrusted.kind c.args.tables.now c.args.self.now c.requires.ready in
    omega (arith, few.number)

pub go_above-requires : goal.go_above-requires
go_above-requires g c = record {
  above = (c.args.self.now.clients + c.args.self.now.number, turning.is_above g.P.PairTable.theory g.S.Entrusted.kind c.args.tables.now c.args.self.now c.requires.ready);
  among = c.requires.ready.above;
  needs =
      let t = c.args.self.now in
      let (own, here) = turning.own_table g.P.PairTable.theory g.S.Entrusted.kind c.args.tables.now t c.requires.ready in
      all.needs_bye g.P.PairTable.theory g.S.Entrusted.kind g.met.P.PairTable.laws c.args.tables.now t c.requires.ready own here
      (all.all_ended g.P.PairTable.theory g.S.Entrusted.kind g.met.P.PairTable.laws c.args.tables.now t c.requires.ready own here c.args.all c.requires.told c.if-all.true);
}

pub returns-then-all-clause-ready : goal.returns-then-all-clause-ready
returns-then-all-clause-ready g c =
    let t = c.args.self.now in
    let place = t.clients + t.number in
    let theory = g.P.PairTable.theory in
    let kind = g.S.Entrusted.kind in
    let laws = g.met.P.PairTable.laws in
    let is = turning.is_above theory kind c.args.tables.now t c.requires.ready in
    let go = c.go_above.ensures in
    let (own, here) = turning.own_table theory kind c.args.tables.now t c.requires.ready in
    let ended = all.all_ended theory kind laws c.args.tables.now t c.requires.ready own here c.args.all c.requires.told c.if-all.true in
    all.said_ready theory kind laws c.args.tables.now t c.requires.ready own here ended c.go_above.new.tables
    (record t { above = c.go_above.new.above; lanes = c.go_above.new.lanes }) go.goes go.as_many go.lanes go.among (go.above place is) (go.tables place is) refl

pub returns-then-all-clause-says : goal.returns-then-all-clause-says
returns-then-all-clause-says g c =
    let t = c.args.self.now in
    let go = c.go_above.ensures in
    all_say_at g.P.PairTable.theory (Unit {0}) (IsTrue c.args.all) (λ _. c.if-all.true) (λ _. tt) (t.number + 1) c.args.tables.now c.go_above.new.tables
    t.above.items c.go_above.new.above.items
    (all.said_all g.P.PairTable.theory g.S.Entrusted.kind g.met.P.PairTable.laws c.args.tables.now c.go_above.new.tables t
    (record t { above = c.go_above.new.above; lanes = c.go_above.new.lanes }) c.requires.ready go.goes go.lanes)

pub returns-then-all-clause-as_many : goal.returns-then-all-clause-as_many
returns-then-all-clause-as_many g c = c.go_above.ensures.as_many

pub returns-then-all-clause-moved : goal.returns-then-all-clause-moved
returns-then-all-clause-moved g c = c.go_above.ensures.moved

pub returns-then-all-clause-most : goal.returns-then-all-clause-most
returns-then-all-clause-most g c = c.go_above.ensures.most

pub returns-then-all-clause-tables : goal.returns-then-all-clause-tables
returns-then-all-clause-tables g c =
    let t = c.args.self.now in
    c.go_above.ensures.tables (t.clients + t.number) (turning.is_above g.P.PairTable.theory g.S.Entrusted.kind c.args.tables.now t c.requires.ready)

pub returns-then-all-clause-only : goal.returns-then-all-clause-only
returns-then-all-clause-only g c = refl

pub returns-else-all : goal.returns-else-all
returns-else-all g c =
    let t = c.args.self.now in
    let theory = g.P.PairTable.theory in record {
      ready = c.requires.ready;
      says =
          none_say_at theory (IsTrue c.args.all) (λ holds. let e : false ≡ true = sym c.if-all.false ∙ holds in absurd cc) (t.number + 1) c.args.tables.now
          t.above.items;
      as_many = refl;
      moved = sym (none_moves (ups_of theory t));
      most = omega arith;
      tables = keeps_none theory g.S.Entrusted.kind g.met.P.PairTable.laws c.args.tables.now (t.number + 1) (t.clients + t.number);
      only = refl;
    }
