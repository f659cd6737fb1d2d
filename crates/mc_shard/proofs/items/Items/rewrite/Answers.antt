use Rattle.std.proofs.Common.{refl, sym, subst, ◌∙◌}
use Rattle.mc_model.specs.Rows.{with_value}
use Rattle.mc_shard.proofs.Steps.{there, changed_is, order_changed, paired_changed, put_view}
use Rattle.mc_shard.proofs.items.Items.rewrite.Goals as goal

pub invariant_of-self : goal.invariant_of-self
invariant_of-self c =
    let s = c.self.inside in
    let o = c.self.invariant in
    let le = rw (← c.self.view_is) at c.requires.moment in
    let t = there s.cache.entries s.cache.cap s.index.keys s.late s.moment s.bound o (with_value c.args.value c.args.cas) c.args.now c.args.key.now le (λ w h. h) (rw (← c.self.view_is) at c.requires.there) in
    let is = changed_is s.cache.entries s.cache.cap s.index.keys s.late s.moment s.bound o (with_value c.args.value c.args.cas) c.args.now c.args.key.now le (λ w h. h) c.rewrite.new.cache.entries t c.rewrite.ensures.put in
    order_changed s.cache.entries s.cache.cap s.index.keys s.late s.moment s.bound o (with_value c.args.value c.args.cas) c.args.now c.args.key.now le (λ w h. h) c.rewrite.new.cache.entries c.rewrite.new.cache.cap s.index.keys t is c.rewrite.ensures.cap (paired_changed s.cache.entries s.cache.cap s.index.keys s.late s.moment s.bound o (with_value c.args.value c.args.cas) c.args.now c.args.key.now le (λ w h. h) c.rewrite.new.cache.entries t is refl)

pub returns : goal.returns
returns c =
    let s = c.self.inside in
    let o = c.self.invariant in
    let le = rw (← c.self.view_is) at c.requires.moment in
    let t = there s.cache.entries s.cache.cap s.index.keys s.late s.moment s.bound o (with_value c.args.value c.args.cas) c.args.now c.args.key.now le (λ w h. h) (rw (← c.self.view_is) at c.requires.there) in
    let is = changed_is s.cache.entries s.cache.cap s.index.keys s.late s.moment s.bound o (with_value c.args.value c.args.cas) c.args.now c.args.key.now le (λ w h. h) c.rewrite.new.cache.entries t c.rewrite.ensures.put in
    c.settle.ensures ∙ rw (← c.self.view_is) (put_view s.cache.entries s.cache.cap s.index.keys s.late s.moment s.bound o (with_value c.args.value c.args.cas) c.args.now c.args.key.now le (λ w h. h) c.rewrite.new.cache.entries t is)
