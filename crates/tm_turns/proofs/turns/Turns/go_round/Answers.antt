use Rattle.std.proofs.Common.{◌≡◌, ◌+◌, sym, ◌∙◌, ap, subst, arith}
use Rattle.std.specs.List.{range_with_len}
use Rattle.tm_turns.specs.Going.{AllGo}
use Rattle.tm_turns.proofs.Falling.{all_keep, turns_still}
use Rattle.tm_turns.proofs.Going.{go_none, go_more, range_more}
use Rattle.tm_turns.proofs.Ones.{one_of, one_at_most, byte_is}
use Rattle.tm_turns.proofs.turns.Turns.go_round.Goals as goal

pub loop-number-init : goal.loop-number-init
loop-number-init g c = record { goes = go_none g.S.Entrusted.kind c.args.self.now; most = omega arith }

pub go-requires : goal.go-requires
go-requires g c =
    let kept = all_keep g.S.Entrusted.kind (range_with_len 0 c.loop-number.number) c.loop-number.moved c.args.self.now c.loop-number.self c.loop-number.invariant.goes in
    record { are = turns_still g.S.Entrusted.kind c.args.self.now c.loop-number.self kept c.requires.are }

pub loop-number-preserved : goal.loop-number-preserved
loop-number-preserved g c =
    let k = c.loop-number.number in
    let one : c.from-moved.result ≡ one_of c.go.result = c.from-moved.ensures ∙ byte_is c.go.result in
    let most = c.loop-number.invariant.most in
    let few = one_at_most c.go.result in
    let goes = go_more g.S.Entrusted.kind (range_with_len 0 k) c.loop-number.moved k c.go.result c.args.self.now c.loop-number.self c.go.new.self
    c.loop-number.invariant.goes c.go.ensures in
    record {
      goes = subst (λ n. AllGo g.S.Entrusted.kind (range_with_len 0 (k + 1)) n c.args.self.now c.go.new.self) (ap (λ n. c.loop-number.moved + n) (sym one))
          (
          subst (λ ks. AllGo g.S.Entrusted.kind ks (c.loop-number.moved + one_of c.go.result) c.args.self.now c.go.new.self) (sym (range_more k)) goes
          );
      most = omega (arith, one, most, few);
    }

pub returns : goal.returns
returns g c =
    let past = c.loop-number-test.false in
    let end = c.loop-number.auto.number-end in
    let clients = c.len.ensures in
    let trustees = c.len-2.ensures in
    subst (λ n. AllGo g.S.Entrusted.kind (range_with_len 0 n) c.loop-number.moved c.args.self.now c.loop-number.self) (omega (arith, past, end, clients, trustees))
    c.loop-number.invariant.goes
