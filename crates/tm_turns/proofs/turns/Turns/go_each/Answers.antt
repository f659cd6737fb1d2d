use Rattle.std.proofs.Common.{◌≡◌, ◌+◌, take, slice_index_or, sym, ◌∙◌, ap, subst, arith}
use Rattle.std.proofs.lemmas.List.{take_more, take_all}
use Rattle.tm_turns.specs.Going.{AllGo}
use Rattle.tm_turns.proofs.Falling.{all_keep, turns_still}
use Rattle.tm_turns.proofs.Going.{go_none, go_more}
use Rattle.tm_turns.proofs.Ones.{one_of, one_at_most, byte_is}
use Rattle.tm_turns.proofs.turns.Turns.go_each.Goals as goal

pub loop-number-init : goal.loop-number-init
loop-number-init g c = record { goes = go_none g.S.Entrusted.kind c.args.self.now; most = omega arith }

pub go-requires : goal.go-requires
go-requires g c =
    let kept = all_keep g.S.Entrusted.kind (take c.loop-number.number-index c.args.order.now) c.loop-number.moved c.args.self.now c.loop-number.self c.loop-number.invariant.goes in
    record { are = turns_still g.S.Entrusted.kind c.args.self.now c.loop-number.self kept c.requires.are }

pub loop-number-preserved : goal.loop-number-preserved
loop-number-preserved g c =
    let order = c.args.order.now in
    let i = c.loop-number.number-index in
    let one : c.from-moved.result ≡ one_of c.go.result = c.from-moved.ensures ∙ byte_is c.go.result in
    let most = c.loop-number.invariant.most in
    let few = one_at_most c.go.result in
    let goes = go_more g.S.Entrusted.kind (take i order) c.loop-number.moved (slice_index_or order i 0) c.go.result c.args.self.now c.loop-number.self c.go.new.self
    c.loop-number.invariant.goes c.go.ensures in
    record {
      goes = subst (λ n. AllGo g.S.Entrusted.kind (take (i + 1) order) n c.args.self.now c.go.new.self) (ap (λ n. c.loop-number.moved + n) (sym one))
          (
          subst (λ ks. AllGo g.S.Entrusted.kind ks (c.loop-number.moved + one_of c.go.result) c.args.self.now c.go.new.self)
          (sym (take_more order i 0 c.loop-number-test.true)) goes
          );
      most = omega (arith, one, most, few);
    }

pub returns : goal.returns
returns g c =
    subst (λ ks. AllGo g.S.Entrusted.kind ks c.loop-number.moved c.args.self.now c.loop-number.self)
    (take_all c.loop-number.number-index c.args.order.now c.loop-number-test.false) c.loop-number.invariant.goes
