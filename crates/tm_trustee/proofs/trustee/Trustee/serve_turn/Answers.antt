use Rattle.std.proofs.Common.{◌≡◌, ◌↔◌, IsTrue, subst, arith}
use Rattle.std.specs.Prelude.{All}
use Rattle.tm_trustee.specs.declared.stage.Stage.TheVariants.{Over}
use Rattle.tm_trustee.proofs.TurningReady as turning
use Rattle.tm_trustee.proofs.TurningParts as parts
use Rattle.tm_trustee.proofs.trustee.Trustee.serve_turn.Goals as goal

pub exchange_above-exchanged-requires : goal.exchange_above-exchanged-requires
exchange_above-exchanged-requires g c = c.requires.ready

pub resume_all-resumed-requires : goal.resume_all-resumed-requires
resume_all-resumed-requires g c = (c.exchange_above-exchanged.new.tables, c.exchange_above-exchanged.ensures.ready)

pub serve_table-found-requires : goal.serve_table-found-requires
serve_table-found-requires g c = c.resume_all-resumed.ensures.ready c.exchange_above-exchanged.new.tables c.exchange_above-exchanged.ensures.ready

pub say_byes-said-requires : goal.say_byes-said-requires
say_byes-said-requires g c = record { ready = c.serve_table-found.ensures.ready; told = c.is_closed-all.ensures }

pub overflow_add-answered : goal.overflow_add-answered
overflow_add-answered g c =
    let theory = g.P.PairTable.theory in
    let kind = g.S.Entrusted.kind in
    let few = turning.is_few theory kind c.args.tables.now c.args.self.now c.requires.ready in
    let went = c.resume_all-resumed.ensures.ready c.exchange_above-exchanged.new.tables c.exchange_above-exchanged.ensures.ready in
    let few_then = turning.is_few theory kind c.exchange_above-exchanged.new.tables c.resume_all-resumed.new.self went in
    omega (arith, few.above, few_then.number, few_then.clients, c.exchange_above-exchanged.ensures.most, c.serve_table-found.ensures.most)

pub overflow_add-answered-2 : goal.overflow_add-answered-2
overflow_add-answered-2 g c =
    let theory = g.P.PairTable.theory in
    let kind = g.S.Entrusted.kind in
    let few = turning.is_few theory kind c.args.tables.now c.args.self.now c.requires.ready in
    let went = c.resume_all-resumed.ensures.ready c.exchange_above-exchanged.new.tables c.exchange_above-exchanged.ensures.ready in
    let few_then = turning.is_few theory kind c.exchange_above-exchanged.new.tables c.resume_all-resumed.new.self went in
    let few_last = turning.is_few theory kind c.serve_table-found.new.tables c.serve_table-found.new.self c.serve_table-found.ensures.ready in
    omega (arith, few.above, few_then.number, few_then.clients, few_last.above, c.exchange_above-exchanged.ensures.most, c.serve_table-found.ensures.most, c.say_byes-said.ensures.most)

pub returns : goal.returns
returns g c =
    let theory = g.P.PairTable.theory in
    let kind = g.S.Entrusted.kind in
    let laws = g.met.P.PairTable.laws in
    let t = c.args.self.now in
    let p = c.exchange_above-exchanged.new.self in
    let w = c.resume_all-resumed.new.self in
    let q = c.serve_table-found.new.self in
    let r = c.say_byes-said.new.self in
    let a = c.args.tables.now in
    let b = c.exchange_above-exchanged.new.tables in
    let d = c.serve_table-found.new.tables in
    let e = c.say_byes-said.new.tables in
    let looks = c.exchange_above-exchanged.ensures in
    let goes = c.resume_all-resumed.ensures in
    let serves = c.serve_table-found.ensures in
    let says = c.say_byes-said.ensures in
    let all = c.is_closed-all.result in
    let n = c.exchange_above-exchanged.result in
    let m = c.resume_all-resumed.result in
    let found = c.serve_table-found.result in
    let said = c.say_byes-said.result in
    let are : parts.AreParts theory kind laws a b d e t p w q r all n m found said = record {
      ready = c.requires.ready;
      midway = looks.ready;
      looks = looks.exchanges;
      looks_many = looks.as_many;
      collects = looks.moved;
      looks_keep = looks.tables;
      looks_only = looks.only;
      goes = goes.resumed;
      goes_only = goes.only;
      going = goes.ready b looks.ready;
      serves = serves.serves;
      goes_on = serves.goes_on;
      finds = serves.found;
      serves_keep = serves.tables;
      serves_only = serves.only;
      served = serves.ready;
      closed = c.is_closed-all.ensures;
      says = says.says;
      says_many = says.as_many;
      says_are = says.moved;
      says_keep = says.tables;
      says_only = says.only;
      last = says.ready;
    } in
    let kept = parts.parts_kept theory kind laws a b d e t p w q r all n m found said are in
    let moved = c.saturating_add-moved.result in
    let over_is = subst (λ l. IsTrue c.are_over-over.result ↔ All (λ lane. lane.stage ≡ Over) l) c.as_slice.ensures.value c.are_over-over.ensures in
    record {
      ready = turning.noted_ready theory kind e r moved says.ready;
      turned = λ was now is is_now.
          parts.has_turned theory kind laws a b d e t p w q r all n m found said are was now is is_now c.are_over-over.result c.is_both.result moved c.outcome.result over_is
          c.is_both.ensures c.saturating_add-moved.ensures c.outcome.ensures;
      above = parts.has_gone_up theory kind laws a b d e t p w q r all n m found said are;
      tables = parts.tables_kept theory kind laws a b d e t p w q r all n m found said are;
      parts = record { number = kept.number; clients = kept.clients; nested = kept.nested };
    }
