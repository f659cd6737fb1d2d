use Rattle.std.proofs.Common.{rules, tests, ◌==◌, not, length, eqb, ap, ◌∙◌}
use Rattle.std.specs.Slice.Iter.{split_rest, split_done, split_callee}
use Rattle.std.proofs.lemmas.Iterator.Consumers.{YieldsList-from_filter, map_from_collect}
use Rattle.std.proofs.lemmas.Iterator.Splits.{YieldsList-from_slice_split}
use Rattle.mc_line.proofs.token.tokens.Goals as goal

pub returns : goal.returns
returns c =
    let at = c.filter.ensures.source in
    map_from_collect _ c.collect.ensures.ran
    (YieldsList-from_filter _ (λ t. not (length t == 0))
    (YieldsList-from_slice_split _ (λ b. eqb b 32) c.args.bytes.now (ap (λ s. split_rest s) at ∙ c.split.ensures.rest) (ap (λ s. split_done s) at ∙ c.split.ensures.done) (ap (λ s. split_callee s) at ∙ c.split.ensures.closure) (λ x b q k. search (rules, tests)))
    c.filter.ensures.closure (λ x b q k. search (rules, tests)))
