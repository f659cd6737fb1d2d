use Rattle.std.proofs.Common.{◌<◌, length, refl, ◌∙◌, arith}
use Rattle.tm_turns.proofs.Shutting.{shut_more, shut_all, shut_many, rest_same, rest_on}
use Rattle.tm_turns.proofs.closing.shut.Goals as goal

pub loop-trustee-init : goal.loop-trustee-init
loop-trustee-init g c = record { lanes = refl; coming = refl; rest = rest_same c.args.client.now.books; still = λ openings is. is }

pub close-requires : goal.close-requires
close-requires g c =
    let lt = c.loop-trustee-test.true in
    let many = c.requires in
    let same = shut_many c.loop-trustee.trustee c.args.client.now.books c.loop-trustee.client.books c.loop-trustee.invariant.lanes in
    omega (arith, lt, many, same)

pub loop-trustee-preserved : goal.loop-trustee-preserved
loop-trustee-preserved g c =
    let lt = c.loop-trustee-test.true in
    let many = c.requires in
    let within : c.loop-trustee.trustee < length c.args.client.now.books.lanes.items = omega (arith, lt, many) in
    let is = c.close.ensures.marked in
    record {
      lanes = shut_more c.loop-trustee.trustee c.args.client.now.books c.loop-trustee.client.books c.close.new.self.books within c.loop-trustee.invariant.lanes is;
      coming = is.coming ∙ c.loop-trustee.invariant.coming;
      rest = rest_on c.args.client.now.books c.loop-trustee.client.books c.close.new.self.books c.loop-trustee.invariant.rest is.rest;
      still = λ openings client. c.close.ensures.client openings (c.loop-trustee.invariant.still openings client);
    }

pub returns-clause-shut : goal.returns-clause-shut
returns-clause-shut g c =
    let past = c.loop-trustee-test.false in
    let many = c.requires in
    record {
      lanes = shut_all c.loop-trustee.trustee c.args.client.now.books c.loop-trustee.client.books (omega (arith, past, many)) c.loop-trustee.invariant.lanes;
      coming = c.loop-trustee.invariant.coming;
      rest = c.loop-trustee.invariant.rest;
    }

pub returns-clause-client : goal.returns-clause-client
returns-clause-client g c = c.loop-trustee.invariant.still
