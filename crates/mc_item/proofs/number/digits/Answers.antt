use Rattle.std.proofs.Common.{◌≤◌, ◌+◌, ◌*◌, ◌-◌, take, get_or, arith, sym, ◌∙◌}
use Rattle.mc_item.specs.Numbers.{value_of}
use Rattle.mc_item.proofs.NumberFacts.{digits_below-too_large}
use Rattle.mc_item.proofs.number.digits.Goals as goal

pub returns-in_err-checked_mul-clause-value : goal.returns-in_err-checked_mul-clause-value
returns-in_err-checked_mul-clause-value c =
    let i = c.loop-byte.byte-index in
    let large : c.args.most + 1 ≤ value_of (take i c.args.text.now) * 10 + (get_or c.args.text.now i 0 - 48) = omega (arith, c.in_err-checked_mul.ensures) in
    c.from_residual.ensures ∙ sym (digits_below-too_large c.args.longest _ c.args.text.now i (omega arith) large)

pub returns-in_err-value-clause-value : goal.returns-in_err-value-clause-value
returns-in_err-value-clause-value c =
    let i = c.loop-byte.byte-index in
    let large : c.args.most + 1 ≤ value_of (take i c.args.text.now) * 10 + (get_or c.args.text.now i 0 - 48) = omega (arith, c.in_ok-checked_mul.ensures, c.in_err-value.ensures, c.from.ensures) in
    c.from_residual-in_err-value.ensures ∙ sym (digits_below-too_large c.args.longest _ c.args.text.now i (omega arith) large)
