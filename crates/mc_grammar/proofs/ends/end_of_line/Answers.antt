use Rattle.std.proofs.Common.{add-one, eq-eqb, arith}
use Rattle.std.proofs.lemmas.Bool.{eqb-true}
use Rattle.mc_grammar.proofs.LineFacts.{none_by_place, line_by_place}
use Rattle.mc_grammar.proofs.ends.end_of_line.Goals as goal

pub returns-in-None : goal.returns-in-None
returns-in-None c = record { within = none_by_place c.args.bytes.now (λ k lt e. c.in-None.ensures k (omega arith) lt (eq-eqb _ _ e)) }

pub returns-in-Some : goal.returns-in-Some
returns-in-Some c =
    let first = c.in-Some.ensures.0 in
    record {
      within = (
        omega arith,
        omega (arith, first.high),
        rw add-one (line_by_place c.args.bytes.now c.in-Some.at first.high (λ j lt e. first.before j (omega arith) lt (eq-eqb _ _ e)) (eqb-true _ _ c.in-Some.ensures.1)),
      );
    }
