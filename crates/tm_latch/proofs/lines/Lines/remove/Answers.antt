use Rattle.std.proofs.Common.{◌≡◌, ◌∙◌, ◌%◌, ◌<◌, length, refl, sym, ap}
use Rattle.slab.proofs.SlabLemmas.{Updates-with_value}
use Rattle.tm_latch.specs.declared.lines.Node.{Node}
use Rattle.tm_latch.proofs.Pairs.{change, loses_change, length_lost}
use Rattle.tm_latch.proofs.Chains.{some_same}
use Rattle.tm_latch.proofs.Changes.{table_lose_first, table_lose_behind, before_there, written_len}
use Rattle.tm_latch.proofs.lines.Lines.remove.Goals as goal

pub index_mut-requires : goal.index_mut-requires
index_mut-requires c =
    let pairs = c.requires.0 in
    let table = c.requires.1 in
    before_there _ _ pairs table c.args.id c.in-Some.spot (c.in-Some.ensures.found pairs table) c.remove-next.new.self c.remove-next.ensures.updates c.remove-next.ensures.len (length_lost c.args.id pairs c.requires.2) c.in-Some-before.before c.in-Some-before.is

-- the node before it has the next
pub returns-in-Some-before-clause-loses : goal.returns-in-Some-before-clause-loses
returns-in-Some-before-clause-loses c pairs table some =
    let spot = c.in-Some.ensures.found pairs table in
    let len = length_lost c.args.id pairs some in
    let next : c.remove-next.result.next ≡ spot.next = ap (λ (n : Node). n.next) (some_same _ _ (sym c.remove-next.ensures.value ∙ spot.here)) in
    let at = c.in-Some-before.before in
    let r = c.index_mut.result.now in
    let read = c.index_mut.ensures.value in
    let node : Node = record { id = r.id; line = r.line; next = spot.next } in
    rw next (
      change c.args.id _ pairs,
      table_lose_behind _ _ pairs table c.args.id c.in-Some.spot spot c.remove-next.new.self c.remove-next.ensures.updates c.remove-next.ensures.len len at c.in-Some-before.is r read _
          (Updates-with_value c.remove-next.new.self at node (rw read refl)) (written_len c.remove-next.new.self at r node read),
      loses_change c.args.id pairs table.distinct,
      len,
    )

-- or the bucket begins with the next
pub returns-in-None-clause-loses : goal.returns-in-None-clause-loses
returns-in-None-clause-loses c pairs table some =
    let spot = c.in-Some.ensures.found pairs table in
    let len = length_lost c.args.id pairs some in
    let next : c.remove-next.result.next ≡ spot.next = ap (λ (n : Node). n.next) (some_same _ _ (sym c.remove-next.ensures.value ∙ spot.here)) in
    let within : c.args.id % length c.args.self.now.firsts.items < length c.args.self.now.firsts.items = rw c.bucket-bucket.ensures.bucket at c.bucket-bucket.ensures.within in
    rw (next, c.bucket-bucket.ensures.bucket) (
      change c.args.id _ pairs,
      table_lose_first _ _ pairs table c.args.id c.in-Some.spot spot c.remove-next.new.self c.remove-next.ensures.updates c.remove-next.ensures.len len within c.in-None.is,
      loses_change c.args.id pairs table.distinct,
      len,
    )
