use Rattle.std.proofs.Common.{refl, sym, subst, ◌∙◌}
use Rattle.mc_model.specs.Rows.{with_due}
use Rattle.mc_shard.specs.Kept.{IsPaired}
use Rattle.mc_shard.proofs.IndexFacts.{paired_first}
use Rattle.mc_shard.proofs.Steps.{there, changed_is, order_changed, use_view}
use Rattle.mc_shard.proofs.items.Items.use_until.Goals as goal

pub invariant_of-self-2 : goal.invariant_of-self-2
invariant_of-self-2 c =
    let s = c.self.inside in
    let o = c.self.invariant in
    let le = rw (← c.self.view_is) at c.requires.moment in
    let t = there s.cache.entries s.cache.cap s.index.keys s.late s.moment s.bound o (with_due c.args.due) c.args.now c.args.key le (λ w h. sym c.if-expired.ensures) (rw (← c.self.view_is) at c.requires.there) in
    let is = changed_is s.cache.entries s.cache.cap s.index.keys s.late s.moment s.bound o (with_due c.args.due) c.args.now c.args.key le (λ w h. sym c.if-expired.ensures) c.set_due-old.new.cache.entries t c.set_due-old.ensures.put in
    order_changed s.cache.entries s.cache.cap s.index.keys s.late s.moment s.bound o (with_due c.args.due) c.args.now c.args.key le (λ w h. sym c.if-expired.ensures) c.set_due-old.new.cache.entries c.set_due-old.new.cache.cap c.unnote.new.index.keys t is c.set_due-old.ensures.cap (subst (λ l. IsPaired l c.unnote.new.index.keys) (sym is) (paired_first s.cache.entries s.index.keys c.note.new.index.keys c.unnote.new.index.keys c.args.key c.set_due-old.result (with_due c.args.due t.item) o.paired c.set_due-old.ensures.was c.in_ok-note.ensures.gains c.unnote.ensures.gone))

pub returns-clause-ok : goal.returns-clause-ok
returns-clause-ok c =
    let s = c.self.inside in
    let o = c.self.invariant in
    let le = rw (← c.self.view_is) at c.requires.moment in
    let t = there s.cache.entries s.cache.cap s.index.keys s.late s.moment s.bound o (with_due c.args.due) c.args.now c.args.key le (λ w h. sym c.if-expired.ensures) (rw (← c.self.view_is) at c.requires.there) in
    let is = changed_is s.cache.entries s.cache.cap s.index.keys s.late s.moment s.bound o (with_due c.args.due) c.args.now c.args.key le (λ w h. sym c.if-expired.ensures) c.set_due-old.new.cache.entries t c.set_due-old.ensures.put in
    c.settle.ensures ∙ rw (← c.self.view_is) (use_view s.cache.entries s.cache.cap s.index.keys s.late s.moment s.bound o (with_due c.args.due) c.args.now c.args.key le (λ w h. sym c.if-expired.ensures) c.set_due-old.new.cache.entries t is)
