use Rattle.std.proofs.Common.{◌≤◌, length, rules, tests, arith, sym, ◌∙◌}
use Rattle.std.proofs.lemmas.Iterator.{YieldsList-from_slice}
use Rattle.std.proofs.lemmas.Iterator.Search.{all_from_yields_List}
use Rattle.std.proofs.lemmas.Bool.Decides.{nat_tests}
use Rattle.mc_item.specs.Keys.{is_key_byte}
use Rattle.mc_item.proofs.KeyFacts.{is_key-in_range}
use Rattle.mc_item.proofs.key.is_key.Goals as goal

pub returns : goal.returns
returns c =
    let some : 1 ≤ length c.args.bytes.now = grind (arith, nat_tests) in
    all_from_yields_List is_key_byte _ _ c.all.result c.all.ensures.ran (YieldsList-from_slice c.args.bytes.now cc) (λ x b q k. search (rules, tests))
    ∙ sym (is_key-in_range c.args.bytes.now some c.if-bytes-gt-LONGEST_KEY.false)
