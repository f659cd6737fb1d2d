use Rattle.std.proofs.Common.{◌∙◌, arith}
use Rattle.tm_client.proofs.Beginning.{trusts_more, listed_more, stand_more}
use Rattle.tm_client.proofs.opening.first_trusts.Goals as goal

pub hold-requires : goal.hold-requires
hold-requires c =
    let count = c.loop-named.invariant.count in
    let room = c.loop-named.invariant.room in
    let lt = c.loop-named-test.true in
    let all = c.requires in
    omega (arith, count, room, lt, all)

pub loop-named-preserved : goal.loop-named-preserved
loop-named-preserved c =
    let is = c.hold.ensures in record {
      trusts =
          trusts_more c.args.client c.loop-named.named-index c.args.held.now _ c.loop-named.trusts.items c.push.new.self.items c.hold.result c.loop-named-test.true
          c.in_ok-push.ensures.items (record { trustee = is.trustee; name = is.name; client = is.client }) c.loop-named.invariant.trusts;
      stand =
          stand_more _ _ _ c.loop-named.list c.hold.new.held c.loop-named.trusts.items c.push.new.self.items c.hold.result is c.in_ok-push.ensures.items
          c.loop-named.invariant.stand;
      listed_is = λ t id.
          listed_more t id c.args.client c.loop-named.named-index c.args.held.now _ c.args.list.now c.loop-named.list c.hold.new.held c.hold.result
          c.loop-named-test.true is (c.loop-named.invariant.listed_is t id);
      count = let before = c.loop-named.invariant.count in let one = is.gains.count in omega (arith, before, one);
      room = is.gains.room ∙ c.loop-named.invariant.room;
    }
