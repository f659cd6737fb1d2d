use Rattle.std.proofs.Common.{ap, sym, subst, length, refl, ◌∙◌, ◌-◌, arith}
use Rattle.mc_item.specs.Expiry.{is_expired}
use Rattle.mc_shard.proofs.Steps.{order_without, without_view, settled_parts, order_late, put_late_view, live_cut, few_late}
use Rattle.mc_shard.proofs.items.Items.put_late.Goals as goal

pub invariant_of-self : goal.invariant_of-self
invariant_of-self c =
    let s = c.self.inside in
    let o = c.self.invariant in
    order_without s.cache.entries s.cache.cap s.index.keys s.late s.moment s.bound o c.take.new.cache.entries c.take.new.cache.cap c.take.new.index.keys c.args.key c.take.ensures.entries c.take.ensures.cap c.take.ensures.paired

pub invariant_of-self-2 : goal.invariant_of-self-2
invariant_of-self-2 c =
    let s = c.self.inside in
    let o = c.self.invariant in
    let le = rw (← c.self.view_is) at c.requires.moment in
    let gone = c.settle.ensures ∙ without_view s.cache.entries s.cache.cap s.index.keys s.late s.moment s.bound o c.take.new.cache.entries c.args.now c.args.key le c.take.ensures.entries in
    let s2 = c.self-2.inside in
    let o2 = c.self-2.invariant in
    let parts = settled_parts c.args.now c.args.self.now c.args.key s2.cache.entries s2.cache.cap s2.index.keys s2.late s2.moment s2.bound o2 (c.self-2.view_is ∙ rw (← c.self.view_is) gone) in
    order_late s2.cache.entries c.trim.new.cache.entries s2.cache.cap c.trim.new.cache.cap s2.index.keys c.trim.new.index.keys s2.late s2.moment s2.bound c.args.key c.args.item
    o2 (live_cut s2.moment (s2.bound - 1) s2.cache.entries c.trim.new.cache.entries o2.fresh c.trim.ensures.entries) c.trim.ensures.cap c.trim.ensures.paired
    (ap (is_expired c.args.item.due) parts.at ∙ c.requires.expired) (few_late s2.bound s2.cache.entries c.trim.new.cache.entries o2.some c.trim.ensures.entries)

pub returns : goal.returns
returns c =
    let s = c.self.inside in
    let o = c.self.invariant in
    let le = rw (← c.self.view_is) at c.requires.moment in
    let gone = c.settle.ensures ∙ without_view s.cache.entries s.cache.cap s.index.keys s.late s.moment s.bound o c.take.new.cache.entries c.args.now c.args.key le c.take.ensures.entries in
    let s2 = c.self-2.inside in
    let o2 = c.self-2.invariant in
    let parts = settled_parts c.args.now c.args.self.now c.args.key s2.cache.entries s2.cache.cap s2.index.keys s2.late s2.moment s2.bound o2 (c.self-2.view_is ∙ rw (← c.self.view_is) gone) in
    put_late_view c.args.now c.args.self.now c.args.key c.args.item s2.cache.entries c.trim.new.cache.entries s2.late s2.moment s2.bound parts o2.some c.trim.ensures.entries
