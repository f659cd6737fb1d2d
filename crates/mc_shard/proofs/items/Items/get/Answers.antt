use Rattle.std.proofs.Common.{ap, sym, refl, ◌∙◌}
use Rattle.mc_item.specs.Expiry.{is_expired}
use Rattle.mc_shard.proofs.CacheFacts.{kept}
use Rattle.mc_shard.proofs.Steps.{item_now}
use Rattle.mc_shard.proofs.items.Items.get.Goals as goal

pub returns-then-expired : goal.returns-then-expired
returns-then-expired c =
    let s = c.self.inside in
    let o = c.self.invariant in
    rw (← c.self.view_is) (sym (item_now s.cache.entries s.cache.cap s.index.keys s.late s.moment s.bound o c.args.now c.args.key.now (rw (← c.self.view_is) at c.requires) ∙ ap (kept c.args.now) (sym c.in-Some.ensures) ∙ rw (← (c.if-expired.ensures ∙ ap (λ due. is_expired due c.args.now) c.due.ensures)) refl))

pub returns-else-expired : goal.returns-else-expired
returns-else-expired c =
    let s = c.self.inside in
    let o = c.self.invariant in
    rw (← c.self.view_is) (sym (item_now s.cache.entries s.cache.cap s.index.keys s.late s.moment s.bound o c.args.now c.args.key.now (rw (← c.self.view_is) at c.requires) ∙ ap (kept c.args.now) (sym c.in-Some.ensures) ∙ rw (← (c.if-expired.ensures ∙ ap (λ due. is_expired due c.args.now) c.due.ensures)) refl))

pub returns-in-None : goal.returns-in-None
returns-in-None c =
    let s = c.self.inside in
    let o = c.self.invariant in
    rw (← c.self.view_is) (sym (item_now s.cache.entries s.cache.cap s.index.keys s.late s.moment s.bound o c.args.now c.args.key.now (rw (← c.self.view_is) at c.requires) ∙ ap (kept c.args.now) (sym c.in-None.ensures)))
