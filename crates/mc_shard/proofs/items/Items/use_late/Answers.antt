use Rattle.std.proofs.Common.{◌∷◌, Some, ap, sym, subst, is_some, refl, ◌∙◌, arith}
use Rattle.mc_item.specs.Expiry.{is_expired}
use Rattle.mc_model.specs.Items.{item_at}
use Rattle.mc_model.specs.Rows.{with_due}
use Rattle.mc_shard.specs.Kept.{same, kept_at, IsInOrder}
use Rattle.mc_shard.proofs.Steps.{order_without, without_view, settled_parts, order_late, few_used, none_taken, use_late_view, there}
use Rattle.mc_shard.proofs.items.Items.use_late.Goals as goal

pub invariant_of-self : goal.invariant_of-self
invariant_of-self c =
    let s = c.self.inside in
    let o = c.self.invariant in
    order_without s.cache.entries s.cache.cap s.index.keys s.late s.moment s.bound o c.take-taken.new.cache.entries c.take-taken.new.cache.cap c.take-taken.new.index.keys c.args.key.now c.take-taken.ensures.entries c.take-taken.ensures.cap c.take-taken.ensures.paired

pub invariant_of-self-2 : goal.invariant_of-self-2
invariant_of-self-2 c =
    let s = c.self.inside in
    let o = c.self.invariant in
    let le = rw (← c.self.view_is) at c.requires.moment in
    let gone = c.settle.ensures ∙ without_view s.cache.entries s.cache.cap s.index.keys s.late s.moment s.bound o c.take-taken.new.cache.entries c.args.now c.args.key.now le c.take-taken.ensures.entries in
    let s2 = c.self-2.inside in
    let o2 = c.self-2.invariant in
    let parts = settled_parts c.args.now c.args.self.now c.args.key.now s2.cache.entries s2.cache.cap s2.index.keys s2.late s2.moment s2.bound o2 (c.self-2.view_is ∙ rw (← c.self.view_is) gone) in
    subst (λ w. IsInOrder s2.cache.entries s2.cache.cap s2.index.keys (Some (c.in-Some.key, w)) s2.moment s2.bound) (sym c.set_due.ensures)
    (order_late s2.cache.entries s2.cache.entries s2.cache.cap s2.cache.cap s2.index.keys s2.index.keys s2.late s2.moment s2.bound c.in-Some.key (with_due c.args.due c.in-Some.item)
    o2 o2.fresh refl o2.paired (ap (is_expired c.args.due) parts.at ∙ c.requires.expired)
    (few_used c.args.now c.args.self.now c.args.key.now s2.cache.entries s2.late s2.moment s2.bound (rw (← c.self.view_is) o.few) parts c.requires.there))

pub returns : goal.returns
returns c =
    let s = c.self.inside in
    let o = c.self.invariant in
    let le = rw (← c.self.view_is) at c.requires.moment in
    let gone = c.settle.ensures ∙ without_view s.cache.entries s.cache.cap s.index.keys s.late s.moment s.bound o c.take-taken.new.cache.entries c.args.now c.args.key.now le c.take-taken.ensures.entries in
    let s2 = c.self-2.inside in
    let o2 = c.self-2.invariant in
    let parts = settled_parts c.args.now c.args.self.now c.args.key.now s2.cache.entries s2.cache.cap s2.index.keys s2.late s2.moment s2.bound o2 (c.self-2.view_is ∙ rw (← c.self.view_is) gone) in
    ap (λ w. kept_at ((c.in-Some.key, w) ∷ s2.cache.entries) s2.moment s2.bound) c.set_due.ensures
    ∙ use_late_view c.args.now c.args.self.now c.args.key.now c.in-Some.key (with_due c.args.due) c.in-Some.item s2.cache.entries s2.late s2.moment s2.bound
    parts c.in-Some.ensures.key (rw (← c.self.view_is) (let t = there s.cache.entries s.cache.cap s.index.keys s.late s.moment s.bound o same c.args.now c.args.key.now le (λ w h. h) (rw (← c.self.view_is) at c.requires.there) in t.seen ∙ sym t.found ∙ sym c.in-Some.ensures.item))

pub returns-in_default : goal.returns-in_default
returns-in_default c =
    let s = c.self.inside in
    let o = c.self.invariant in
    let le = rw (← c.self.view_is) at c.requires.moment in
    let t = there s.cache.entries s.cache.cap s.index.keys s.late s.moment s.bound o same c.args.now c.args.key.now le (λ w h. h) (rw (← c.self.view_is) at c.requires.there) in
    absurd (none_taken c.take-taken.result (item_at s.cache.entries c.args.key.now) c.take-taken.ensures.item c.in_default.is (ap (λ o. is_some o) t.found))
