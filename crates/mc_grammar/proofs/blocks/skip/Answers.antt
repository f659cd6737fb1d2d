use Rattle.std.proofs.Common.{◌≡◌, ◌-◌, length, take, List, ℕ, subst, arith}
use Rattle.std.proofs.lemmas.List.{length-take-le}
use Rattle.mc_grammar.specs.declared.progress.Progress.TheVariants.{Pass}
use Rattle.mc_grammar.specs.Progress.{Goes, Takes}
use Rattle.mc_grammar.proofs.Steps.{pass_goes_on}
use Rattle.mc_grammar.proofs.Taking.{takes_all, takes_then}
use Rattle.mc_grammar.proofs.blocks.skip.Goals as goal

pub returns-then-from-left : goal.returns-then-from-left
returns-then-from-left c = takes_all _ _ c.args.from.now (pass_goes_on c.args.fault c.args.left c.args.from.now (omega arith)) c.requires

pub returns : goal.returns
returns c =
    let left = c.args.left in
    let from = c.args.from.now in
    let len : length (take left from) ≡ left = length-take-le left from (omega arith) in
    let none : left - length (take left from) ≡ 0 = omega (arith, len) in
    takes_then (Pass c.args.fault left) (Pass c.args.fault 0) _ from left _ (omega arith)
    (subst (λ (k : ℕ). Goes (Pass c.args.fault left) (take left from) (Pass c.args.fault k)) none (pass_goes_on c.args.fault left (take left from) (omega (arith, len))))
    (subst (λ (rest : List ℕ). Takes (Pass c.args.fault 0) rest c.skip_line-progress.result.0 c.skip_line-progress.result.1) c.split_at.ensures.back c.skip_line-progress.ensures)
