use Rattle.std.proofs.Common.{suc, length, sym, ◌∙◌, ap, subst, arith}
use Rattle.tm_turns.specs.Closing.{TakesFirst}
use Rattle.tm_turns.proofs.Shutting.{takes_none, takes_more}
use Rattle.tm_turns.proofs.closing.take_all.Goals as goal

pub loop-init : goal.loop-init
loop-init g c = record { takes = (0, takes_none c.args.client.now.books); still = λ openings is. is }

pub take_one-requires : goal.take_one-requires
take_one-requires g c =
    let (openings, is) = c.requires.client in record { client = (openings, c.loop.invariant.still openings is) }

pub loop-smaller : goal.loop-smaller
loop-smaller g c =
    let (after, got, taken) = c.loop-test.ensures.takes in
    let first = ap (λ xs. length xs) taken.first in
    omega (arith, first)

pub loop-preserved : goal.loop-preserved
loop-preserved g c =
    let (n, takes) = c.loop.invariant.takes in
    let (after, got, taken) = c.loop-test.ensures.takes in
    record {
      takes = (suc n, takes_more n c.args.client.now.books c.loop.client.books c.take_one.new.client.books after got takes taken);
      still = λ openings is. c.take_one.ensures.client openings (c.loop.invariant.still openings is);
    }

pub returns-clause-taken : goal.returns-clause-taken
returns-clause-taken g c =
    let (n, takes) = c.loop.invariant.takes in
    let none = c.loop-test.ensures.takes in
    record {
      count = n;
      takes = subst (λ books. TakesFirst n c.args.client.now.books books) (sym none.1) takes;
      none = ap (λ books. books.arrived.items) none.1 ∙ none.0;
    }

pub returns-clause-client : goal.returns-clause-client
returns-clause-client g c = λ openings is. c.take_one.ensures.client openings (c.loop.invariant.still openings is)
