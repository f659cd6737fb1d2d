use Rattle.std.proofs.Common.{◌≡◌, ◌*◌, [], ◌∙◌, length, refl, ap, subst, arith}
use Rattle.std.specs.List.{AllZip}
use Rattle.circular_buffer.specs.Buffer.{buffer}
use Rattle.tm_batch.specs.declared.limits.TheConstants.{WINDOW}
use Rattle.tm_client.specs.Begun.{IsTrustOf, named_at}
use Rattle.tm_client.specs.Listing.{listed_in}
use Rattle.tm_client.proofs.Beginning.{begun_first, first_trusts_held, none_counted}
use Rattle.tm_client.proofs.client.Client.new.Goals as goal

pub first_trusts-requires : goal.first_trusts-requires
first_trusts-requires g c =
    let (whole, may) = c.requires.begins in
    let few = may.most in
    let none = none_counted c.in_ok-list.list c.in_ok-list.ensures.empty in
    let room = c.in_ok-list.ensures.room in
    let many = ap length c.as_slice.ensures.value in
    omega (arith, few, none, room, many)

pub returns-clause-trusts : goal.returns-clause-trusts
returns-clause-trusts g c =
    let named = c.in_ok-trusts.ensures in
    first_trusts_held _ c.args.number c.args.held.items c.in_ok-trusts.trusts.items refl named.stand
    (subst (λ l. AllZip (IsTrustOf c.args.number) l c.in_ok-trusts.trusts.items) c.as_slice.ensures.value named.trusts)

pub returns-clause-begun : goal.returns-clause-begun
returns-clause-begun g c =
    let named = c.in_ok-trusts.ensures in
    let none = none_counted c.in_ok-list.list c.in_ok-list.ensures.empty in
    let many : c.len.result ≡ length c.args.sides.items = let sides = c.len.ensures in omega (arith, sides) in
    record {
      number_of = refl;
      clients = refl;
      most = refl;
      lanes = c.in_ok-lanes.ensures;
      holds = λ t id.
          let all = named.listed t id in
          let empty = ap (listed_in t id) c.in_ok-list.ensures.empty in
          let names = ap (named_at t id) c.as_slice.ensures.value in
          omega (arith, all, empty, names);
      holds_count = let all = named.count in let names = ap length c.as_slice.ensures.value in omega (arith, all, none, names);
      holds_room = let room = c.in_ok-list.ensures.room in let kept = named.room in omega (arith, room, kept);
      arrived = c.in_ok-arrived.ensures ∙ ap (λ n. buffer [] (WINDOW * n)) many;
      gifts = c.in_ok-gifts.ensures;
      coming = refl;
    }

pub returns-clause-client : goal.returns-clause-client
returns-clause-client g c =
    begun_first g.P.PairTable.theory.client_view c.args.number c.args.config c.args.sides.items c.args.held.items _ (returns-clause-begun g c) c.requires.sides
