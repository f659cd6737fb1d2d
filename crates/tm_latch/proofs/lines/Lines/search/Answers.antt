use Rattle.std.proofs.Common.{◌≡◌, ◌∙◌, ℕ, ◌+◌, ◌-◌, ◌%◌, ◌<◌, length, get_or, None, refl, sym, ap, arith}
use Rattle.std.proofs.lemmas.List.{get_or_default}
use Rattle.tm_latch.proofs.Pairs.{bucket_length, get_bucket}
use Rattle.tm_latch.proofs.Table.{next_is, come_first, come_on, come_to, come_none, come_last}
use Rattle.tm_latch.proofs.lines.Lines.search.Goals as goal

-- the walk begins at the first node of the bucket
pub loop-init : goal.loop-init
loop-init c pairs table =
    let firsts = c.args.self.now.firsts.items in
    let b = c.args.id % length firsts in
    let within : b < length firsts = rw c.bucket.ensures.bucket at c.bucket.ensures.within in
    let at : c.index-at.result.now ≡ get_or firsts b None =
    c.index-at.ensures ∙ (get_or_default firsts c.bucket.result c.index-at.result.now None c.bucket.ensures.within ∙ ap (λ (i : ℕ). get_or firsts i None) c.bucket.ensures.bucket) in
    rw at
    (come_first _ _ _ _ (c.len-end.result - 0) (table.chains b within) (omega (arith, bucket_length (length firsts) b pairs, table.count, c.len-end.ensures)))

pub index-node-requires : goal.index-node-requires
index-node-requires c =
    let come = c.loop.invariant c.requires.0 c.requires.1 in
    let next = next_is _ come.rest _ c.in-Some.key c.in-Some.is come.behind in
    rw next.here refl

-- it goes on past other nodes
pub loop-preserved : goal.loop-preserved
loop-preserved c pairs table =
    come_on _ _ _ _ _ _ _ (c.loop.invariant pairs table) c.in-Some.key c.index-node.result.now (c.len-end.result - (c.loop.counter + 1)) c.in-Some.is c.index-node.ensures c.if-node-id.false
    (omega arith)

-- and ends at the node of the id
pub returns-then-node-id-clause-found : goal.returns-then-node-id-clause-found
returns-then-node-id-clause-found c pairs table =
    come_to _ _ _ _ _ _ _ (c.loop.invariant pairs table) c.in-Some.key c.index-node.result.now c.in-Some.is c.index-node.ensures c.if-node-id.true

-- or where no node is left
pub returns-in_default-clause-absent : goal.returns-in_default-clause-absent
returns-in_default-clause-absent c pairs table =
    sym (get_bucket (length c.args.self.now.firsts.items) c.args.id pairs) ∙ come_none _ _ _ _ _ _ _ (c.loop.invariant pairs table) c.in_default.is

pub returns-clause-absent : goal.returns-clause-absent
returns-clause-absent c pairs table =
    sym (get_bucket (length c.args.self.now.firsts.items) c.args.id pairs) ∙ come_last _ _ _ _ _ _ _ (c.loop.invariant pairs table) (omega (arith, c.loop-test.false))
