use Rattle.std.proofs.Common.{refl, sym, subst, ◌∙◌}
use Rattle.mc_shard.specs.Kept.{same}
use Rattle.mc_shard.proofs.Steps.{there, changed_is, order_changed, paired_changed, use_view}
use Rattle.mc_shard.proofs.items.Items.use_item.Goals as goal

pub invariant_of-self : goal.invariant_of-self
invariant_of-self c =
    let s = c.self.inside in
    let o = c.self.invariant in
    let le = rw (← c.self.view_is) at c.requires.moment in
    let t = there s.cache.entries s.cache.cap s.index.keys s.late s.moment s.bound o (same) c.args.now c.args.key.now le (λ w h. h) (rw (← c.self.view_is) at c.requires.there) in
    let is = changed_is s.cache.entries s.cache.cap s.index.keys s.late s.moment s.bound o (same) c.args.now c.args.key.now le (λ w h. h) c.use_item.new.cache.entries t c.use_item.ensures.used in
    order_changed s.cache.entries s.cache.cap s.index.keys s.late s.moment s.bound o (same) c.args.now c.args.key.now le (λ w h. h) c.use_item.new.cache.entries c.use_item.new.cache.cap s.index.keys t is c.use_item.ensures.cap (paired_changed s.cache.entries s.cache.cap s.index.keys s.late s.moment s.bound o (same) c.args.now c.args.key.now le (λ w h. h) c.use_item.new.cache.entries t is refl)

pub returns : goal.returns
returns c =
    let s = c.self.inside in
    let o = c.self.invariant in
    let le = rw (← c.self.view_is) at c.requires.moment in
    let t = there s.cache.entries s.cache.cap s.index.keys s.late s.moment s.bound o (same) c.args.now c.args.key.now le (λ w h. h) (rw (← c.self.view_is) at c.requires.there) in
    let is = changed_is s.cache.entries s.cache.cap s.index.keys s.late s.moment s.bound o (same) c.args.now c.args.key.now le (λ w h. h) c.use_item.new.cache.entries t c.use_item.ensures.used in
    c.settle.ensures ∙ rw (← c.self.view_is) (use_view s.cache.entries s.cache.cap s.index.keys s.late s.moment s.bound o (same) c.args.now c.args.key.now le (λ w h. h) c.use_item.new.cache.entries t is)
