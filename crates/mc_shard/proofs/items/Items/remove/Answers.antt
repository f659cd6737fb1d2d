use Rattle.std.proofs.Common.{ap, sym, is_some, not, refl, ◌∙◌}
use Rattle.mc_item.specs.Expiry.{is_expired}
use Rattle.mc_shard.proofs.Steps.{order_without, without_view, seen_of, is_kept}
use Rattle.mc_shard.proofs.items.Items.remove.Goals as goal

pub invariant_of-self : goal.invariant_of-self
invariant_of-self c =
    let s = c.self.inside in
    let o = c.self.invariant in
    order_without s.cache.entries s.cache.cap s.index.keys s.late s.moment s.bound o c.take-taken.new.cache.entries c.take-taken.new.cache.cap c.take-taken.new.index.keys c.args.key.now c.take-taken.ensures.entries c.take-taken.ensures.cap c.take-taken.ensures.paired

pub returns-in-Some-clause-there : goal.returns-in-Some-clause-there
returns-in-Some-clause-there c =
    let s = c.self.inside in
    let o = c.self.invariant in
    let le = rw (← c.self.view_is) at c.requires in
    ap not (c.expired.ensures ∙ ap (λ due. is_expired due c.args.now) c.due.ensures) ∙ is_kept c.in-Some.item c.args.now ∙ rw (← c.self.view_is) (ap (λ o. is_some o) (seen_of s.cache.entries s.cache.cap s.index.keys s.late s.moment s.bound c.args.now c.args.key.now _ o le c.in-Some.ensures.item))

pub returns-in-Some-clause-gone : goal.returns-in-Some-clause-gone
returns-in-Some-clause-gone c =
    let s = c.self.inside in
    let o = c.self.invariant in
    let le = rw (← c.self.view_is) at c.requires in
    let gone = c.settle.ensures ∙ without_view s.cache.entries s.cache.cap s.index.keys s.late s.moment s.bound o c.take-taken.new.cache.entries c.args.now c.args.key.now le c.take-taken.ensures.entries in
    rw (← c.self.view_is) gone

pub returns-in-None-clause-there : goal.returns-in-None-clause-there
returns-in-None-clause-there c =
    let s = c.self.inside in
    let o = c.self.invariant in
    let le = rw (← c.self.view_is) at c.requires in
    rw (← c.self.view_is) (ap (λ o. is_some o) (seen_of s.cache.entries s.cache.cap s.index.keys s.late s.moment s.bound c.args.now c.args.key.now _ o le c.in-None.ensures.item))

pub returns-in-None-clause-gone : goal.returns-in-None-clause-gone
returns-in-None-clause-gone c =
    let s = c.self.inside in
    let o = c.self.invariant in
    let le = rw (← c.self.view_is) at c.requires in
    let gone = c.settle.ensures ∙ without_view s.cache.entries s.cache.cap s.index.keys s.late s.moment s.bound o c.take-taken.new.cache.entries c.args.now c.args.key.now le c.take-taken.ensures.entries in
    rw (← c.self.view_is) gone
