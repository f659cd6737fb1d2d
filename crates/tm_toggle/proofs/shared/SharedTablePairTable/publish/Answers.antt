use Rattle.std.proofs.Common.{rules, ◌≡◌, ◌<◌, ◌≤◌, ℕ, ◌+◌, ◌-◌, ◌*◌, [], ◌∷◌, length, refl, sym, ◌∙◌, ap, subst, arith}
use Rattle.std.specs.declared.option.Option.TheVariants.{None, Some}
use Rattle.atomic_table.specs.Table.{rest}
use Rattle.tm_batch.specs.declared.limits.TheConstants.{MOST_REQUESTS, MOST_ROOM}
use Rattle.tm_model.specs.Orderly.{IsOrderly}
use Rattle.tm_pair.specs.Calls.{Publishes}
use Rattle.tm_pair.specs.declared.moves.Move.TheVariants.{Publish}
use Rattle.tm_toggle.specs.Contents.{batch_in, HasNoRequests, HasNoAnswers}
use Rattle.tm_toggle.specs.Ruled.{bit, r_of, opening_by, client_in, IsByClient, IsNext}
use Rattle.tm_toggle.specs.Plays.{Sat, asks}
use Rattle.tm_toggle.specs.Shared.{client_at, client_knows}
use Rattle.tm_toggle.proofs.Facts.{low}
use Rattle.tm_toggle.proofs.Publishing.{publishes_as}
use Rattle.tm_toggle.proofs.Keeping.{held, same_first, published_side, told_published, keeps_sides}
use Rattle.tm_toggle.proofs.shared.SharedTablePairTable.publish.Goals as goal

pub returns-then-side-clause-free : goal.returns-then-side-clause-free
returns-then-side-clause-free g c = let a = (c.requires.mine.away c.if-side.true).0 in (λ e. absurd cc, λ e. let no : None ≡ Some a.0 = sym e ∙ a.1 in absurd cc)

pub returns-then-side-clause-keeps : goal.returns-then-side-clause-keeps
returns-then-side-clause-keeps g c = keeps_sides g.S.Entrusted.kind c.args.self.now c.args.side.now c.args.side.now c.requires.mine

pub overflow_sub-word : goal.overflow_sub-word
overflow_sub-word g c = let e = c.requires.mine.word in let l = low (asks (client_knows c.args.side.now).past.items c.args.side.now.place) in omega arith

pub slot_mut-requires : goal.slot_mut-requires
slot_mut-requires g c = let h = (c.requires.mine.free c.if-side.false).1 in (search rules, (h.0, held c.args.side.now.seat.me.1 c.args.side.now.place h.0 [] h.1))

pub put_batch-requires : goal.put_batch-requires
put_batch-requires g c =
    let h = (c.requires.mine.free c.if-side.false).1 in
    let e = same_first c.args.side.now.seat.me.1 c.args.side.now.place c.args.side.now.place h.0 c.slot_mut.result.now [] _ h.1 c.slot_mut.ensures.value in
    (g.met.S.Shareable.fits_content, (g.met.S.FitsBatches.fits_batch, (subst HasNoRequests e h.2.0, subst HasNoAnswers e h.2.1)))

pub store-requires : goal.store-requires
store-requires g c =
    let kn = c.requires.mine in
    let h = kn.free c.if-side.false in
    let v = client_knows c.args.side.now in
    let kind = g.S.Entrusted.kind in
    let y = c.put_batch.new.self in
    let put : Sat g.row.S.Denot g.row.S-Op.Denot g.row.S-Reply.Denot g.row.S-Task.Denot = (v, (c.args.side.now.place, y) ∷ rest c.args.side.now.seat.me.1) in
    let is : put ≡ (v, (v.place, y) ∷ []) = (λ j. (v, (sym kn.place j, y) ∷ rest (h.1.1 j))) in
    let words = kn.sized.words in
    let inside = kn.in_range in
    let d = ap (λ t. t.shared) c.deref.ensures in
    let batch = c.put_batch.ensures.batch in
    let enough : 32 * c.args.side.now.place + 16 < c.deref.result.now.shared.table_id.words =
    subst (λ z. 32 * c.args.side.now.place + 16 < z.table_id.words) (sym d) (omega arith) in (
      search rules,
      enough,
      publishes_as kind (opening_by c.deref.result.now.shared.key) _ _ put v y _ _ is kn.client kn.plain kn.settled
          (kn.opening_is ∙ ap (λ t. opening_by t.key) (sym d)) h.0
          (subst (λ b. IsOrderly (opening_by c.deref.result.now.shared.key) v.place (client_in v.place v.past.items).sent (client_in v.place v.past.items).got b.requests.items) (sym batch)
          (subst (λ o. IsOrderly o v.place (client_in v.place v.past.items).sent (client_in v.place v.past.items).got c.args.batch.requests.items) (ap (λ t. opening_by t.key) (sym d)) (c.requires.orderly h.0)))
          (subst (λ b. length b.requests.items ≤ MOST_REQUESTS) (sym batch) (search rules)) (subst (λ b. b.room ≤ MOST_ROOM) (sym batch) (search rules)) c.put_batch.ensures.answers (ap r_of (sym kn.place))
          (ap (λ (n : ℕ). 1 - n) (kn.word ∙ ap (λ (n : ℕ). bit (asks v.past.items n)) (sym kn.place))),
    )

pub returns-clause-free : goal.returns-clause-free
returns-clause-free g c = let h = c.requires.mine.free c.if-side.false in (λ e. h.0, λ e. refl)

pub returns-clause-ok : goal.returns-clause-ok
returns-clause-ok g c =
    let kn = c.requires.mine in
    let h = kn.free c.if-side.false in
    let v = client_knows c.args.side.now in
    let kind = g.S.Entrusted.kind in
    let y = c.put_batch.new.self in
    let put : Sat g.row.S.Denot g.row.S-Op.Denot g.row.S-Reply.Denot g.row.S-Task.Denot = (v, (c.args.side.now.place, y) ∷ rest c.args.side.now.seat.me.1) in
    let is : put ≡ (v, (v.place, y) ∷ []) = (λ j. (v, (sym kn.place j, y) ∷ rest (h.1.1 j))) in
    let t = told_published kind put c.store.new.seat.me v y is c.store.ensures.2 in
    subst (λ (x : Sat g.row.S.Denot g.row.S-Op.Denot g.row.S-Reply.Denot g.row.S-Task.Denot). Publishes c.args.batch.requests.items c.args.batch.room (client_at c.args.side.now) (client_in x.0.place x.0.past.items)) (sym t.1)
    (subst (λ b. Publishes b.requests.items b.room (client_at c.args.side.now) (client_in v.place t.0)) c.put_batch.ensures.batch t.2.publishes)

pub returns-clause-keeps : goal.returns-clause-keeps
returns-clause-keeps g c =
    let kn = c.requires.mine in
    let h = kn.free c.if-side.false in
    let v = client_knows c.args.side.now in
    let kind = g.S.Entrusted.kind in
    let y = c.put_batch.new.self in
    let put : Sat g.row.S.Denot g.row.S-Op.Denot g.row.S-Reply.Denot g.row.S-Task.Denot = (v, (c.args.side.now.place, y) ∷ rest c.args.side.now.seat.me.1) in
    let is : put ≡ (v, (v.place, y) ∷ []) = (λ j. (v, (sym kn.place j, y) ∷ rest (h.1.1 j))) in
    let t = told_published kind put c.store.new.seat.me v y is c.store.ensures.2 in
    keeps_sides kind c.args.self.now c.args.side.now _
    (published_side kind c.args.self.now c.args.side.now _ (batch_in y) t.0 kn c.store.ensures.0 t.1 refl refl refl t.2)

pub returns-clause-next : goal.returns-clause-next
returns-clause-next g c =
    let kn = c.requires.mine in
    let h = kn.free c.if-side.false in
    let v = client_knows c.args.side.now in
    let kind = g.S.Entrusted.kind in
    let y = c.put_batch.new.self in
    let put : Sat g.row.S.Denot g.row.S-Op.Denot g.row.S-Reply.Denot g.row.S-Task.Denot = (v, (c.args.side.now.place, y) ∷ rest c.args.side.now.seat.me.1) in
    let is : put ≡ (v, (v.place, y) ∷ []) = (λ j. (v, (sym kn.place j, y) ∷ rest (h.1.1 j))) in
    let t = told_published kind put c.store.new.seat.me v y is c.store.ensures.2 in
    subst (λ (x : Sat g.row.S.Denot g.row.S-Op.Denot g.row.S-Reply.Denot g.row.S-Task.Denot). IsNext (IsByClient v.place) v.past.items x.0.past.items (Publish v.place c.args.batch)) (sym t.1)
    (subst (λ b. IsNext (IsByClient v.place) v.past.items t.0 (Publish v.place b)) c.put_batch.ensures.batch t.2.next)
