use Rattle.std.proofs.Common.{◌≡◌, ◌∙◌, ℕ, ◌%◌, ◌<◌, ◌∷◌, length, get_or, None, ap, arith}
use Rattle.std.proofs.lemmas.List.{get_or_default}
use Rattle.tm_latch.proofs.Pairs.{sets_cons}
use Rattle.tm_latch.proofs.Changes.{table_add}
use Rattle.tm_latch.proofs.lines.Lines.add.Goals as goal

pub returns-clause-adds : goal.returns-clause-adds
returns-clause-adds c pairs table absent =
    let firsts = c.args.self.now.firsts.items in
    let b = c.args.id % length firsts in
    let within : b < length firsts = rw c.bucket-bucket.ensures.bucket at c.bucket-bucket.ensures.within in
    let next : c.index-next.result.now ≡ get_or firsts b None =
    c.index-next.ensures ∙ (get_or_default firsts c.bucket-bucket.result c.index-next.result.now None c.bucket-bucket.ensures.within ∙ ap (λ (i : ℕ). get_or firsts i None) c.bucket-bucket.ensures.bucket) in
    let put = c.insert_reserved-key.ensures in
    rw c.bucket-bucket.ensures.bucket (
      (c.args.id, c.args.line) ∷ pairs,
      table_add _ _ pairs table c.args.id c.insert_reserved-key.result c.args.line _ within absent put.was_vacant (rw next at put.updates) put.len,
      sets_cons c.args.id c.args.line pairs,
      omega arith,
    )
