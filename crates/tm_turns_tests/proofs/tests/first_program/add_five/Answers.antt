use Rattle.std.proofs.Common.{◌<◌, length, refl, arith}
use Rattle.tm_seq.specs.Counting.{counter_kind}
use Rattle.tm_trustee.proofs.Elements.{read_at}
use Rattle.tm_turns_tests.proofs.Calling.{asking_keeps, may_call, clients_stay, kept}
use Rattle.tm_turns_tests.proofs.tests.first_program.add_five.Goals as goal

pub apply_then-asked-requires : goal.apply_then-asked-requires
apply_then-asked-requires c =
    let client = c.index_mut.result.now in
    let of = read_at c.args.turns.now.clients.items 0 client c.requires.client c.index_mut.ensures.value in
    record { client = may_call counter_kind 0 client c.args.turns.now c.requires.are of }

pub run-requires : goal.run-requires
run-requires c =
    let client = c.index_mut.result.now in
    let of = read_at c.args.turns.now.clients.items 0 client c.requires.client c.index_mut.ensures.value in
    record {
      are = kept counter_kind c.args.turns.now _ c.requires.are
          (asking_keeps counter_kind c.apply_then-asked.result 0 c.args.trust.now.trustee _ _ client c.apply_then-asked.new.self c.args.turns.now _
          (record { of_client = of; clients = refl; tables = refl; trustees = refl; counts = refl }) c.apply_then-asked.ensures.asked
          c.apply_then-asked.ensures.err c.apply_then-asked.ensures.client);
    }

pub index_mut-requires-2 : goal.index_mut-requires-2
index_mut-requires-2 c =
    let client = c.index_mut.result.now in
    let of = read_at c.args.turns.now.clients.items 0 client c.requires.client c.index_mut.ensures.value in
    let some : 0 < length c.run.new.self.clients.items =
    clients_stay counter_kind c.args.turns.now _ c.run.new.self c.requires.are
    (asking_keeps counter_kind c.apply_then-asked.result 0 c.args.trust.now.trustee _ _ client c.apply_then-asked.new.self c.args.turns.now _
    (record { of_client = of; clients = refl; tables = refl; trustees = refl; counts = refl }) c.apply_then-asked.ensures.asked
    c.apply_then-asked.ensures.err c.apply_then-asked.ensures.client)
    c.run.ensures.keeps c.requires.client in
    omega (arith, some, c.run.new.self.clients.ok.0)

pub next-requires : goal.next-requires
next-requires c =
    let client = c.index_mut.result.now in
    let of = read_at c.args.turns.now.clients.items 0 client c.requires.client c.index_mut.ensures.value in
    let asking = asking_keeps counter_kind c.apply_then-asked.result 0 c.args.trust.now.trustee _ _ client c.apply_then-asked.new.self c.args.turns.now _
    (record { of_client = of; clients = refl; tables = refl; trustees = refl; counts = refl }) c.apply_then-asked.ensures.asked
    c.apply_then-asked.ensures.err c.apply_then-asked.ensures.client in
    let some = clients_stay counter_kind c.args.turns.now _ c.run.new.self c.requires.are asking c.run.ensures.keeps c.requires.client in
    let are = kept counter_kind _ c.run.new.self (kept counter_kind c.args.turns.now _ c.requires.are asking) c.run.ensures.keeps in
    let there = read_at c.run.new.self.clients.items 0 c.index_mut-2.result.now some c.index_mut-2.ensures.value in
    record { client = may_call counter_kind 0 c.index_mut-2.result.now c.run.new.self are there }
