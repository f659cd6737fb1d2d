use Rattle.std.proofs.Common.{◌≡◌, drop, ap, sym, arith}
use Rattle.std.proofs.lemmas.List.{drop-drop}
use Rattle.tm_base.proofs.Pieces.{one_further}
use Rattle.tm_base.proofs.mem_source.MemSourceSource.read.Goals as goal

pub returns-then-fails_next-clause-cause : goal.returns-then-fails_next-clause-cause
returns-then-fails_next-clause-cause c =
    let before = ap (λ s. s.plan.faults) c.self.view_is in
    let after = ap (λ p. p.faults) c.if-fails_next.ensures.plan in
    record { later = omega (arith, before, c.fails_next.ensures.later); failed = omega (arith, before, after) }

pub returns-clause-state : goal.returns-clause-state
returns-clause-state c =
    let s = c.self.inside in
    let moved = sym (drop-drop c.cut_to-count.result s.at s.bytes.items) in
    let len = s.cuts.ok.0 in
    let used : drop c.min-self-inside.result s.cuts.items ≡ drop 1 (drop s.used s.cuts.items) = one_further s.used c.min-self-inside.result s.cuts.items (omega (arith, len)) (omega (arith, len)) in
    let plan = c.if-fails_next.ensures.plan in
    rw (← c.self.view_is) cc
