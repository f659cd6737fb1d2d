use Rattle.std.proofs.Common.{ap, sym, refl, ◌∙◌}
use Rattle.mc_shard.proofs.Steps.{few_kept, few_more, order_put, put_live_view}
use Rattle.mc_shard.proofs.items.Items.put_live.Goals as goal

pub trim-requires-clause-few : goal.trim-requires-clause-few
trim-requires-clause-few c =
    let s = c.self.inside in
    let o = c.self.invariant in
    few_more c.args.now s.bound s.cache.entries c.place.new.cache.entries c.sweep.new.cache.entries c.args.key c.args.item (few_kept s.cache.entries s.cache.cap s.index.keys s.late s.moment s.bound o) c.in_ok-place.ensures.ok c.sweep.ensures.swept

pub invariant_of-self-2 : goal.invariant_of-self-2
invariant_of-self-2 c =
    let s = c.self.inside in
    let o = c.self.invariant in
    order_put s.cache.entries c.sweep.new.cache.entries s.cache.cap c.trim.new.cache.cap c.args.now s.index.keys c.trim.new.index.keys s.late s.moment s.bound c.place.new.cache.entries c.trim.new.cache.entries
    o c.sweep.ensures.swept c.trim.ensures.entries (c.trim.ensures.cap ∙ c.sweep.ensures.cap ∙ c.place.ensures.cap) c.trim.ensures.paired

pub returns-clause-ok : goal.returns-clause-ok
returns-clause-ok c =
    let s = c.self.inside in
    let o = c.self.invariant in
    rw (← c.self.view_is) (put_live_view s.cache.entries c.place.new.cache.entries c.sweep.new.cache.entries c.trim.new.cache.entries s.cache.cap c.args.now s.index.keys s.late s.moment s.bound c.args.key c.args.item
    o (rw (← c.self.view_is) at c.requires.moment) c.requires.live c.in_ok-place.ensures.ok c.sweep.ensures.swept c.trim.ensures.entries)
