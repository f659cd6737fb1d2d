use Rattle.std.proofs.Common.{◌≡◌, ◌+◌, ◌<◌, cond, [], ◌∷◌, ◌++◌, length, length-set, refl, sym, ◌∙◌, ap, subst, arith, slice_index_or}
use Rattle.std.specs.List.{AllByRecursion}
use Rattle.std.proofs.lemmas.List.{get_or_read}
use Rattle.tm_model.specs.Opening.{placed_on}
use Rattle.tm_build.specs.Holding.{held_of, ids_in}
use Rattle.tm_build.proofs.HeldBy.{all_at, few_placed, counted_more, held_more, held_all}
use Rattle.tm_build.proofs.held.held_by.Goals as goal

pub loop-f-init : goal.loop-f-init
loop-f-init g c =
    record {
      many = sym c.resize.new.self.ok.0 ∙ c.in_ok-resize.ensures.len;
      counted = λ t lt. let none = c.new-counts.ensures.len in c.in_ok-resize.ensures.by_index.1 t 0 refl (omega (arith, none)) lt;
      so_far = ap (λ h. ids_in h ++ held_of c.args.place c.deref-f-items.result.now) c.new-held.ensures.items;
    }

pub index-before-requires : goal.index-before-requires
index-before-requires g c =
    let xs = c.deref-f-items.result.now in
    let f = c.f-item.result in
    let all = subst (λ l. AllByRecursion (λ f. f.trustee < c.args.config.trustees) l) (sym c.deref-f-items.ensures.value) c.requires.trustee in
    let below : f.trustee < c.args.config.trustees = all_at (λ f. f.trustee < c.args.config.trustees) xs c.loop-f.f-index f all c.loop-f-test.true c.f-item.is in
    let many = c.loop-f.invariant.many in
    omega (arith, below, many)

pub overflow_add-before : goal.overflow_add-before
overflow_add-before g c =
    let xs = c.deref-f-items.result.now in
    let f = c.f-item.result in
    let all = subst (λ l. AllByRecursion (λ f. f.trustee < c.args.config.trustees) l) (sym c.deref-f-items.ensures.value) c.requires.trustee in
    let below : f.trustee < c.args.config.trustees = all_at (λ f. f.trustee < c.args.config.trustees) xs c.loop-f.f-index f all c.loop-f-test.true c.f-item.is in
    let many = c.loop-f.invariant.many in
    let counted = c.loop-f.invariant.counted f.trustee below in
    let was : c.index-before.result.now ≡ slice_index_or c.loop-f.counts.items f.trustee 0 =
    get_or_read c.loop-f.counts.items f.trustee c.index-before.result.now (omega (arith, below, many)) c.index-before.ensures 0 in
    let few = few_placed f.trustee c.loop-f.f-index xs in
    let room = c.requires.room f.trustee in
    let same = ap (λ l. length (placed_on f.trustee l)) c.deref-f-items.ensures.value in
    let most = c.requires.objects.1 in
    omega (arith, counted, was, few, room, same, most)

pub index_mut-requires : goal.index_mut-requires
index_mut-requires g c =
    let xs = c.deref-f-items.result.now in
    let f = c.f-item.result in
    let all = subst (λ l. AllByRecursion (λ f. f.trustee < c.args.config.trustees) l) (sym c.deref-f-items.ensures.value) c.requires.trustee in
    let below : f.trustee < c.args.config.trustees = all_at (λ f. f.trustee < c.args.config.trustees) xs c.loop-f.f-index f all c.loop-f-test.true c.f-item.is in
    let many = c.loop-f.invariant.many in
    omega (arith, below, many)

pub loop-f-preserved : goal.loop-f-preserved
loop-f-preserved g c =
    let xs = c.deref-f-items.result.now in
    let i = c.loop-f.f-index in
    let f = c.f-item.result in
    let before = c.index-before.result.now in
    let all = subst (λ l. AllByRecursion (λ f. f.trustee < c.args.config.trustees) l) (sym c.deref-f-items.ensures.value) c.requires.trustee in
    let below : f.trustee < c.args.config.trustees = all_at (λ f. f.trustee < c.args.config.trustees) xs i f all c.loop-f-test.true c.f-item.is in
    let many = c.loop-f.invariant.many in
    let was : before ≡ slice_index_or c.loop-f.counts.items f.trustee 0 =
    get_or_read c.loop-f.counts.items f.trustee before (omega (arith, below, many)) c.index-before.ensures 0 in
    record {
      many = length-set c.loop-f.counts.items f.trustee (before + 1) ∙ many;
      counted = counted_more c.args.config.trustees i xs f before c.loop-f.counts.items _ c.loop-f-test.true c.f-item.is below many was refl c.loop-f.invariant.counted;
      so_far =
          held_more c.args.place i xs f before (ids_in c.loop-f.held.items) (ids_in c.note.new.held.items) (held_of c.args.place xs) c.loop-f-test.true c.f-item.is
          (was ∙ c.loop-f.invariant.counted f.trustee below)
          (c.in_ok-note.ensures ∙ ap (λ b. ids_in c.loop-f.held.items ++ cond b ((f.trustee, before + 1) ∷ []) []) c.names.ensures) c.loop-f.invariant.so_far;
    }

pub returns : goal.returns
returns g c =
    held_all c.args.place c.loop-f.f-index c.deref-f-items.result.now (ids_in c.loop-f.held.items) c.loop-f-test.false c.loop-f.invariant.so_far
    ∙ ap (λ l. held_of c.args.place l) c.deref-f-items.ensures.value
