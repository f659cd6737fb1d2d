use Rattle.std.proofs.Common.{arith}
use Rattle.mc_grammar.proofs.Plainly.{awaits_block, awaits_tail, completes_block}
use Rattle.mc_grammar.proofs.plain.completed.Goals as goal

pub returns-then-rest-size : goal.returns-then-rest-size
returns-then-rest-size c = rw c.in-Awaits.is (awaits_block c.in-Awaits.header c.args.rest.now c.if-rest-size.true)

pub returns-in_default : goal.returns-in_default
returns-in_default c =
    rw c.in-Awaits.is (awaits_tail c.in-Awaits.header c.args.rest.now c.if-rest-size.false (rw c.split_at.ensures.back at c.in_default.ensures))

pub returns-in_ok-message-in-Awaits : goal.returns-in_ok-message-in-Awaits
returns-in_ok-message-in-Awaits c = (
  omega (arith, c.in-Some.ensures.1, c.split_at.ensures.back_len),
  rw c.in-Awaits.is (completes_block c.in-Awaits.header c.args.rest.now c.in-Some.n c.in_ok-message-in-Awaits.message c.if-rest-size.false (rw c.split_at.ensures.back at c.in-Some.ensures.2)
      (rw (c.split_at.ensures.front, c.split_at-in-Awaits.ensures.front, c.split_at.ensures.back) at c.in_ok-message-in-Awaits.ensures)),
)
