use Rattle.std.proofs.Common.{◌≡◌, ◌-◌, ◌++◌, take, drop, ap, ◌∙◌}
use Rattle.tm_client.proofs.Ended.{taken_rest}
use Rattle.tm_client.proofs.finishing.take_out.Goals as goal

pub returns-clause-items : goal.returns-clause-items
returns-clause-items g c =
    let popped : c.pop_front-item.new.self.items ≡ drop 1 c.rotate.new.ring.items = ap (λ b. b.items) c.pop_front-item.ensures.items in
    c.rotate-2.ensures.items
    ∙ ap (λ l. drop (c.len.result - c.args.at - 1) l ++ take (c.len.result - c.args.at - 1) l) popped
    ∙ taken_rest c.args.ring.now.items c.rotate.new.ring.items c.args.at (c.len.result - c.args.at - 1) c.requires
    (ap (λ n. n - c.args.at - 1) c.len.ensures.len) c.rotate.ensures.items
