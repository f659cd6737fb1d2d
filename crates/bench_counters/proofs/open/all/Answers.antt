use Rattle.std.proofs.Common.{◌≡◌, [], ◌∷◌, ◌++◌, sym, ◌∙◌, ap, arith}
use Rattle.std.specs.List.{range_with_len}
use Rattle.bench_counters.proofs.Opening.{range_more}
use Rattle.bench_counters.proofs.open.all.Goals as goal

pub loop-place-preserved : goal.loop-place-preserved
loop-place-preserved c =
    c.in_ok-push.ensures.items ∙ ap (λ l. l ++ c.loop-place.place ∷ []) c.loop-place.invariant ∙ sym (range_more c.loop-place.place)

pub returns : goal.returns
returns c =
    let a = c.loop-place-test.false in
    let b = c.loop-place.auto.place-end in
    let e : c.loop-place.place ≡ c.args.clients = omega arith in
    c.loop-place.invariant ∙ ap (λ n. range_with_len 0 n) e
