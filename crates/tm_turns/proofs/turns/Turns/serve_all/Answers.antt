use Rattle.std.proofs.Common.{◌≡◌, ◌+◌, length, refl, sym, ◌∙◌, ap, subst, arith}
use Rattle.std.specs.List.{range_with_len}
use Rattle.tm_turns.specs.Going.{AllGo}
use Rattle.tm_turns.proofs.Falling.{all_keep, turns_still}
use Rattle.tm_turns.proofs.Going.{go_none, go_more, range_one_more, same_counts, goes_serve}
use Rattle.tm_turns.proofs.Ones.{one_of, one_at_most, byte_is}
use Rattle.tm_turns.proofs.turns.Turns.serve_all.Goals as goal

pub loop-trustee-init : goal.loop-trustee-init
loop-trustee-init g c = record { goes = go_none g.S.Entrusted.kind c.args.self.now; clients = refl; most = omega arith }

pub serve_one-requires-clause-are : goal.serve_one-requires-clause-are
serve_one-requires-clause-are g c =
    let i = c.loop-trustee.invariant in
    let kept = all_keep g.S.Entrusted.kind (range_with_len (length c.args.self.now.clients.items) c.loop-trustee.trustee) c.loop-trustee.moved c.args.self.now c.loop-trustee.self i.goes in
    turns_still g.S.Entrusted.kind c.args.self.now c.loop-trustee.self kept c.requires.are

pub serve_one-requires-clause-trustee : goal.serve_one-requires-clause-trustee
serve_one-requires-clause-trustee g c =
    let i = c.loop-trustee.invariant in
    let kept = all_keep g.S.Entrusted.kind (range_with_len (length c.args.self.now.clients.items) c.loop-trustee.trustee) c.loop-trustee.moved c.args.self.now c.loop-trustee.self i.goes in
    let same = (same_counts g.S.Entrusted.kind c.args.self.now c.loop-trustee.self kept c.requires.are).2 in
    let lt = c.loop-trustee-test.true in
    let many = c.len-trustee-end.ensures in
    omega (arith, lt, many, same)

pub loop-trustee-preserved : goal.loop-trustee-preserved
loop-trustee-preserved g c =
    let i = c.loop-trustee.invariant in
    let old = c.args.self.now in
    let clients = length old.clients.items in
    let k = c.loop-trustee.trustee in
    let kept = all_keep g.S.Entrusted.kind (range_with_len clients k) c.loop-trustee.moved old c.loop-trustee.self i.goes in
    let same = same_counts g.S.Entrusted.kind old c.loop-trustee.self kept c.requires.are in
    let one : c.from-moved.result ≡ one_of c.serve_one.result = c.from-moved.ensures ∙ byte_is c.serve_one.result in
    let most = i.most in
    let few = one_at_most c.serve_one.result in
    let lt = c.loop-trustee-test.true in
    let many = c.len-trustee-end.ensures in
    let trustees = same.2 in
    let goes = go_more g.S.Entrusted.kind (range_with_len clients k) c.loop-trustee.moved (clients + k) c.serve_one.result old c.loop-trustee.self c.serve_one.new.self i.goes
    (goes_serve g.S.Entrusted.kind clients k c.serve_one.result c.loop-trustee.self c.serve_one.new.self same.0 (omega (arith, lt, many, trustees)) c.serve_one.ensures) in
    record {
      goes = subst (λ n. AllGo g.S.Entrusted.kind (range_with_len clients (k + 1)) n old c.serve_one.new.self) (ap (λ n. c.loop-trustee.moved + n) (sym one))
          (
          subst (λ ks. AllGo g.S.Entrusted.kind ks (c.loop-trustee.moved + one_of c.serve_one.result) old c.serve_one.new.self) (sym (range_one_more clients k)) goes
          );
      clients = c.serve_one.ensures.1.clients ∙ i.clients;
      most = omega (arith, one, most, few);
    }

pub returns-clause-serves : goal.returns-clause-serves
returns-clause-serves g c =
    let past = c.loop-trustee-test.false in
    let end = c.loop-trustee.auto.trustee-end in
    let many = c.len-trustee-end.ensures in
    subst (λ n. AllGo g.S.Entrusted.kind (range_with_len (length c.args.self.now.clients.items) n) c.loop-trustee.moved c.args.self.now c.loop-trustee.self) (omega (arith, past, end, many))
    c.loop-trustee.invariant.goes

pub returns-clause-keeps : goal.returns-clause-keeps
returns-clause-keeps g c =
    all_keep g.S.Entrusted.kind (range_with_len (length c.args.self.now.clients.items) c.loop-trustee.trustee) c.loop-trustee.moved c.args.self.now c.loop-trustee.self
    c.loop-trustee.invariant.goes
