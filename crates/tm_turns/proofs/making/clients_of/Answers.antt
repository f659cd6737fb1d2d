use Rattle.std.proofs.Common.{◌≡◌, ◌+◌, ◌≤◌, length, map, drop, refl, ◌∙◌, ap, subst, arith}
use Rattle.std.proofs.lemmas.List.{length-map, map_push}
use Rattle.tm_trustee.proofs.Elements.{mapped}
use Rattle.tm_turns.specs.Making.{AreNewClients}
use Rattle.tm_turns.proofs.Fronts.{front_is, rest_is, rest_many}
use Rattle.tm_turns.proofs.Made.{clients_none, clients_more}
use Rattle.tm_turns.proofs.making.clients_of.Goals as goal

pub loop-number-init : goal.loop-number-init
loop-number-init g c =
    record {
      made =
          clients_none g.S.Entrusted.kind c.args.config c.args.first.now.items _ c.new-clients.result.items _ c.new-clients.ensures.items
          (ap (λ l. map (λ v. v.items) l) c.new-trusts.ensures.items);
      rest = refl;
    }

pub remove-sides-requires : goal.remove-sides-requires
remove-sides-requires g c =
    let lt = c.requires.seats.as_many c.loop-number.number c.loop-number-test.true in
    let same = length-map c.args.seats.now.items (λ l. l.items) in
    let more : c.loop-number.number + 1 ≤ length c.args.seats.now.items = omega (arith, lt, same) in
    let some = rest_many c.args.seats.now.items c.loop-number.seats.items c.loop-number.number (c.loop-number.number + 1) c.loop-number.invariant.rest (omega arith) more in
    let len = c.loop-number.seats.ok.0 in
    omega (arith, some, len)

pub client_of-requires-clause-as_many : goal.client_of-requires-clause-as_many
client_of-requires-clause-as_many g c =
    let n = c.loop-number.number in
    let lt = c.requires.seats.as_many n c.loop-number-test.true in
    let same = length-map c.args.seats.now.items (λ l. l.items) in
    let more : n + 1 ≤ length c.args.seats.now.items = omega (arith, lt, same) in
    let some = rest_many c.args.seats.now.items c.loop-number.seats.items n (n + 1) c.loop-number.invariant.rest (omega arith) more in
    let there = front_is c.args.seats.now.items c.loop-number.seats.items n c.remove-sides.result c.loop-number.invariant.rest some c.remove-sides.ensures.value in
    let at = mapped (λ l. l.items) c.args.seats.now.items n c.remove-sides.result there in
    (c.requires.seats.each n c.remove-sides.result.items c.loop-number-test.true at).0

pub client_of-requires-clause-new : goal.client_of-requires-clause-new
client_of-requires-clause-new g c =
    let n = c.loop-number.number in
    let lt = c.requires.seats.as_many n c.loop-number-test.true in
    let same = length-map c.args.seats.now.items (λ l. l.items) in
    let more : n + 1 ≤ length c.args.seats.now.items = omega (arith, lt, same) in
    let some = rest_many c.args.seats.now.items c.loop-number.seats.items n (n + 1) c.loop-number.invariant.rest (omega arith) more in
    let there = front_is c.args.seats.now.items c.loop-number.seats.items n c.remove-sides.result c.loop-number.invariant.rest some c.remove-sides.ensures.value in
    let at = mapped (λ l. l.items) c.args.seats.now.items n c.remove-sides.result there in
    (c.requires.seats.each n c.remove-sides.result.items c.loop-number-test.true at).1

pub loop-number-preserved : goal.loop-number-preserved
loop-number-preserved g c =
    let n = c.loop-number.number in
    let lt = c.requires.seats.as_many n c.loop-number-test.true in
    let same = length-map c.args.seats.now.items (λ l. l.items) in
    let more : n + 1 ≤ length c.args.seats.now.items = omega (arith, lt, same) in
    let some = rest_many c.args.seats.now.items c.loop-number.seats.items n (n + 1) c.loop-number.invariant.rest (omega arith) more in
    let there = front_is c.args.seats.now.items c.loop-number.seats.items n c.remove-sides.result c.loop-number.invariant.rest some c.remove-sides.ensures.value in
    let at = mapped (λ l. l.items) c.args.seats.now.items n c.remove-sides.result there in
    record {
      made =
          clients_more g.S.Entrusted.kind c.args.config c.args.first.now.items n _ c.loop-number.clients.items c.push.new.self.items _ _ c.remove-sides.result.items
          c.in_ok-client.client c.in_ok-client.of_client.items c.loop-number.invariant.made at c.in_ok-client.ensures c.in_ok-push.ensures.items
          (ap (λ l. map (λ v. v.items) l) c.in_ok-push-2.ensures.items ∙ map_push (λ v. v.items) c.loop-number.trusts.items c.in_ok-client.of_client);
      rest = rest_is c.args.seats.now.items c.loop-number.seats.items c.remove-sides.new.self.items n c.loop-number.invariant.rest c.remove-sides.ensures.by_index.2;
    }

pub returns-clause-clients : goal.returns-clause-clients
returns-clause-clients g c =
    let past = c.loop-number-test.false in
    let end = c.loop-number.auto.number-end in
    subst
    (λ n. AreNewClients g.S.Entrusted.kind c.args.config c.args.first.now.items n (map (λ l. l.items) c.args.seats.now.items) c.loop-number.clients.items (map (λ l. l.items) c.loop-number.trusts.items))
    (omega (arith, past, end)) c.loop-number.invariant.made

pub returns-clause-rest : goal.returns-clause-rest
returns-clause-rest g c =
    let past = c.loop-number-test.false in
    let end = c.loop-number.auto.number-end in
    subst (λ n. c.loop-number.seats.items ≡ drop n c.args.seats.now.items) (omega (arith, past, end)) c.loop-number.invariant.rest
