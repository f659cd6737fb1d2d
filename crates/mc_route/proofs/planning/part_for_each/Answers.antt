use Rattle.std.proofs.Common.{◌≡◌, ◌∙◌, ℕ, List, [], ◌∷◌, ◌++◌, length, ap, sym, append_assoc, arith}
use Rattle.mc_route.proofs.KeyParts.{one_part_more, all_parts}
use Rattle.mc_route.proofs.planning.part_for_each.Goals as goal

pub loop-key-preserved : goal.loop-key-preserved
loop-key-preserved c = record {
  parts = one_part_more _ _ c.loop-key.yielded c.in-Some.key _ _ _ c.loop-key.invariant.parts c.part_of.ensures c.in_ok-push.ensures.ok;
  still = c.loop-key.invariant.still ∙ ap (λ (l : List (List ℕ)). c.loop-key.yielded ++ l) c.in-Some.ensures.steps.0 ∙ sym (append_assoc c.loop-key.yielded (c.in-Some.key ∷ []) c.next.new.self.rest.items);
}

pub returns : goal.returns
returns c =
    let ended : c.loop-key.key-iterator.rest.len ≡ 0 = c.in-None.ensures.steps.0 in
    let none : length c.loop-key.key-iterator.rest.items ≡ 0 = omega arith in
    all_parts _ _ c.args.keys c.loop-key.yielded c.loop-key.key-iterator.rest.items c.loop-key.parts c.loop-key.invariant.parts c.loop-key.invariant.still none
