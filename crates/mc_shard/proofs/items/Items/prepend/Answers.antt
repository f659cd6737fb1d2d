use Rattle.std.proofs.Common.{refl, sym, subst, ◌∙◌}
use Rattle.mc_shard.specs.Kept.{prepended}
use Rattle.mc_shard.proofs.Steps.{there, changed_is, order_changed, paired_changed, put_view}
use Rattle.mc_shard.proofs.items.Items.prepend.Goals as goal

pub invariant_of-self-2 : goal.invariant_of-self-2
invariant_of-self-2 c =
    let s = c.self.inside in
    let o = c.self.invariant in
    let le = rw (← c.self.view_is) at c.requires.moment in
    let t = there s.cache.entries s.cache.cap s.index.keys s.late s.moment s.bound o (prepended c.get.result.now c.args.cas) c.args.now c.args.key.now le (λ w h. h) (rw (← c.self.view_is) at c.requires.there) in
    let is = changed_is s.cache.entries s.cache.cap s.index.keys s.late s.moment s.bound o (prepended c.get.result.now c.args.cas) c.args.now c.args.key.now le (λ w h. h) c.prepend.new.cache.entries t c.in_ok-prepend.ensures.put in
    order_changed s.cache.entries s.cache.cap s.index.keys s.late s.moment s.bound o (prepended c.get.result.now c.args.cas) c.args.now c.args.key.now le (λ w h. h) c.prepend.new.cache.entries c.prepend.new.cache.cap s.index.keys t is c.prepend.ensures.cap (paired_changed s.cache.entries s.cache.cap s.index.keys s.late s.moment s.bound o (prepended c.get.result.now c.args.cas) c.args.now c.args.key.now le (λ w h. h) c.prepend.new.cache.entries t is refl)

pub returns-clause-ok : goal.returns-clause-ok
returns-clause-ok c =
    let s = c.self.inside in
    let o = c.self.invariant in
    let le = rw (← c.self.view_is) at c.requires.moment in
    let t = there s.cache.entries s.cache.cap s.index.keys s.late s.moment s.bound o (prepended c.get.result.now c.args.cas) c.args.now c.args.key.now le (λ w h. h) (rw (← c.self.view_is) at c.requires.there) in
    let is = changed_is s.cache.entries s.cache.cap s.index.keys s.late s.moment s.bound o (prepended c.get.result.now c.args.cas) c.args.now c.args.key.now le (λ w h. h) c.prepend.new.cache.entries t c.in_ok-prepend.ensures.put in
    c.settle.ensures ∙ rw (← c.self.view_is, ← c.get.ensures) (put_view s.cache.entries s.cache.cap s.index.keys s.late s.moment s.bound o (prepended c.get.result.now c.args.cas) c.args.now c.args.key.now le (λ w h. h) c.prepend.new.cache.entries t is)
