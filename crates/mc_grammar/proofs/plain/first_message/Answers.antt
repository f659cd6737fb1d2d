use Rattle.std.proofs.Common.{arith}
use Rattle.mc_grammar.proofs.Spellings.{part_of_line}
use Rattle.mc_grammar.proofs.Plainly.{spells_line}
use Rattle.mc_grammar.proofs.plain.first_message.Goals as goal

pub returns-in_default : goal.returns-in_default
returns-in_default c = part_of_line c.args.text.now c.in_default.ensures

pub returns-in-Some-2 : goal.returns-in-Some-2
returns-in-Some-2 c =
    let found = rw c.in-Some-2.is at c.in_ok-completed.ensures in
    let first = c.in-Some.ensures in (
      omega (arith, first.0),
      omega (arith, first.1, found.0, c.split_at.ensures.back_len),
      spells_line c.args.text.now c.in-Some.n c.in-Some-2.taken c.in-Some-2.message first.2 (rw (c.in_ok-saying.ensures, c.split_at.ensures.front, c.split_at.ensures.back) at found.1),
    )
