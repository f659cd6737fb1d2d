use Rattle.std.proofs.Common.{refl}
use Rattle.tm_seq.specs.Counting.{counter_kind}
use Rattle.tm_turns_tests.proofs.Calling.{asking_keeps, may_call}
use Rattle.tm_turns_tests.proofs.Launched.{client_stays, first_client, some_counts}
use Rattle.tm_turns_tests.proofs.tests.launching.add_one.Goals as goal

pub index_mut-requires : goal.index_mut-requires
index_mut-requires c = some_counts c.args.turns.now c.requires

pub apply_then-requires : goal.apply_then-requires
apply_then-requires c =
    let client = c.index_mut.result.now in
    record { client = may_call counter_kind 0 client c.args.turns.now c.requires.are (first_client c.args.turns.now client c.requires c.index_mut.ensures.value) }

pub returns : goal.returns
returns c =
    let client = c.index_mut.result.now in
    client_stays c.args.turns.now _ c.requires
    (asking_keeps counter_kind c.apply_then.result 0 c.args.trust.now.trustee _ _ client c.apply_then.new.self c.args.turns.now _
    (record {
      of_client = first_client c.args.turns.now client c.requires c.index_mut.ensures.value;
      clients = refl;
      tables = refl;
      trustees = refl;
      counts = refl;
    })
    c.apply_then.ensures.asked c.apply_then.ensures.err c.apply_then.ensures.client)
