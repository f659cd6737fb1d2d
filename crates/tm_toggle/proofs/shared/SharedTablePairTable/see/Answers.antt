use Rattle.std.proofs.Common.{rules, ◌≡◌, ◌<◌, ◌+◌, ◌*◌, ◌∷◌, refl, sym, ◌∙◌, ap, subst, arith}
use Rattle.std.specs.declared.option.Option.TheVariants.{None, Some}
use Rattle.atomic_table.specs.Table.{rest}
use Rattle.tm_pair.specs.Calls.{SeesNothing, Takes}
use Rattle.tm_pair.specs.declared.moves.Move.TheVariants.{See}
use Rattle.tm_toggle.specs.Contents.{batch_in, HasNoAnswers}
use Rattle.tm_toggle.specs.Ruled.{listed, bit, opening_by, trustee_in, IsByTrustee, IsNext}
use Rattle.tm_toggle.specs.Plays.{Sat, replies}
use Rattle.tm_toggle.specs.Shared.{opening_at, trustee_at, trustee_knows}
use Rattle.tm_toggle.proofs.Seeing.{sees_as}
use Rattle.tm_toggle.proofs.Raising.{lays_as}
use Rattle.tm_toggle.proofs.Keeping.{held, same_first, put_in, laid, stepped_trustee, in_table, word_at, taken_hand, keeps_clients}
use Rattle.tm_toggle.proofs.shared.SharedTablePairTable.see.Goals as goal

pub load-found-requires : goal.load-found-requires
load-found-requires g c =
    let kind = g.S.Entrusted.kind in
    let kn = c.requires.mine in
    let v = trustee_knows c.args.side.now in
    let inside = in_table kind c.args.self.now c.args.side.now c.args.client kn c.requires.in_range in
    let words = kn.sized.words in
    let d = ap (λ t. t.shared) c.deref.ensures in
    let enough : 32 * c.args.client + 16 < c.deref.result.now.shared.table_id.words =
    subst (λ z. 32 * c.args.client + 16 < z.table_id.words) (sym d) (omega arith) in (
      search rules,
      enough,
      sees_as kind (opening_by c.deref.result.now.shared.key) _ _ c.args.side.now.seat.me _ c.args.client kn.nothing kn.trustee
          (kn.opening_is ∙ ap (λ t. opening_by t.key) (sym d)) refl (subst (λ z. c.args.client < z.table_id.slots) (sym d) inside) c.requires.free kn.down,
    )

pub returns-then-found-index-clause-sees : goal.returns-then-found-index-clause-sees
returns-then-found-index-clause-sees g c =
    let kind = g.S.Entrusted.kind in
    let kn = c.requires.mine in
    let v = trustee_knows c.args.side.now in
    let inside = in_table kind c.args.self.now c.args.side.now c.args.client kn c.requires.in_range in
    let e : c.load-found.result ≡ bit (replies v.past.items c.args.client) =
    c.if-found-index.true ∙ word_at kind c.args.self.now c.args.side.now c.args.client c.index.result.now kn inside c.index.ensures in
    let t = (c.load-found.ensures.2 c.args.client refl).0 e in
    subst (λ (x : Sat g.row.S.Denot g.row.S-Op.Denot g.row.S-Reply.Denot g.row.S-Task.Denot). SeesNothing c.args.client (trustee_at c.args.side.now) (trustee_in x.0.past.items)) (sym t.1) t.2.sees

pub returns-then-found-index-clause-keeps : goal.returns-then-found-index-clause-keeps
returns-then-found-index-clause-keeps g c =
    let kind = g.S.Entrusted.kind in
    let kn = c.requires.mine in
    let v = trustee_knows c.args.side.now in
    let inside = in_table kind c.args.self.now c.args.side.now c.args.client kn c.requires.in_range in
    let e : c.load-found.result ≡ bit (replies v.past.items c.args.client) =
    c.if-found-index.true ∙ word_at kind c.args.self.now c.args.side.now c.args.client c.index.result.now kn inside c.index.ensures in
    let t = (c.load-found.ensures.2 c.args.client refl).0 e in
    let is = t.1 ∙ (λ j. (record v { past = listed t.0; up = kn.down j }, kn.nothing j)) in
    keeps_clients kind c.args.self.now _
    (stepped_trustee kind c.args.self.now c.args.side.now _ t.0 kn c.load-found.ensures.0 is refl refl (λ k l. kn.words k l ∙ ap bit (sym (t.2.words k))) t.2.good)

pub returns-then-found-index-clause-next : goal.returns-then-found-index-clause-next
returns-then-found-index-clause-next g c =
    let kind = g.S.Entrusted.kind in
    let kn = c.requires.mine in
    let v = trustee_knows c.args.side.now in
    let inside = in_table kind c.args.self.now c.args.side.now c.args.client kn c.requires.in_range in
    let e : c.load-found.result ≡ bit (replies v.past.items c.args.client) =
    c.if-found-index.true ∙ word_at kind c.args.self.now c.args.side.now c.args.client c.index.result.now kn inside c.index.ensures in
    let t = (c.load-found.ensures.2 c.args.client refl).0 e in
    subst (λ (x : Sat g.row.S.Denot g.row.S-Op.Denot g.row.S-Reply.Denot g.row.S-Task.Denot). IsNext IsByTrustee v.past.items x.0.past.items (See c.args.client None)) (sym t.1) t.2.next

pub slot_mut-requires : goal.slot_mut-requires
slot_mut-requires g c =
    let kind = g.S.Entrusted.kind in
    let kn = c.requires.mine in
    let v = trustee_knows c.args.side.now in
    let inside = in_table kind c.args.self.now c.args.side.now c.args.client kn c.requires.in_range in
    let e : c.index.result.now ≡ bit (replies v.past.items c.args.client) =
    word_at kind c.args.self.now c.args.side.now c.args.client c.index.result.now kn inside c.index.ensures in
    let t = (c.load-found.ensures.2 c.args.client refl).1 (λ z. c.if-found-index.false (z ∙ sym e)) in
    let there = ap (λ (m : Sat g.row.S.Denot g.row.S-Op.Denot g.row.S-Reply.Denot g.row.S-Task.Denot). m.1) t.2 in
    (search rules, (t.1, held c.load-found.new.seat.me.1 c.args.client t.1 c.args.side.now.seat.me.1 there))

pub take_batch-batch-requires : goal.take_batch-batch-requires
take_batch-batch-requires g c =
    let kind = g.S.Entrusted.kind in
    let kn = c.requires.mine in
    let v = trustee_knows c.args.side.now in
    let inside = in_table kind c.args.self.now c.args.side.now c.args.client kn c.requires.in_range in
    let e : c.index.result.now ≡ bit (replies v.past.items c.args.client) =
    word_at kind c.args.self.now c.args.side.now c.args.client c.index.result.now kn inside c.index.ensures in
    let t = (c.load-found.ensures.2 c.args.client refl).1 (λ z. c.if-found-index.false (z ∙ sym e)) in
    let there = ap (λ (m : Sat g.row.S.Denot g.row.S-Op.Denot g.row.S-Reply.Denot g.row.S-Task.Denot). m.1) t.2 in
    let y = same_first c.load-found.new.seat.me.1 c.args.client c.args.client t.1 c.slot_mut.result.now c.args.side.now.seat.me.1 _ there c.slot_mut.ensures.value in
    (g.met.S.Shareable.fits_content, (g.met.S.FitsBatches.fits_batch, subst HasNoAnswers y t.3))

pub load-requires : goal.load-requires
load-requires g c =
    let kind = g.S.Entrusted.kind in
    let kn = c.requires.mine in
    let v = trustee_knows c.args.side.now in
    let inside = in_table kind c.args.self.now c.args.side.now c.args.client kn c.requires.in_range in
    let e : c.index.result.now ≡ bit (replies v.past.items c.args.client) =
    word_at kind c.args.self.now c.args.side.now c.args.client c.index.result.now kn inside c.index.ensures in
    let t = (c.load-found.ensures.2 c.args.client refl).1 (λ z. c.if-found-index.false (z ∙ sym e)) in
    let there = ap (λ (m : Sat g.row.S.Denot g.row.S-Op.Denot g.row.S-Reply.Denot g.row.S-Task.Denot). m.1) t.2 in
    let y = same_first c.load-found.new.seat.me.1 c.args.client c.args.client t.1 c.slot_mut.result.now c.args.side.now.seat.me.1 _ there c.slot_mut.ensures.value in
    let now = c.take_batch-batch.new.self in
    let w = record v { past = listed t.0; up = c.args.client + 1 } in
    let put : Sat g.row.S.Denot g.row.S-Op.Denot g.row.S-Reply.Denot g.row.S-Task.Denot = (c.load-found.new.seat.me.0, (c.args.client, now) ∷ rest c.load-found.new.seat.me.1) in
    let is = put_in c.load-found.new.seat.me put w c.args.client c.args.client t.1 now c.args.side.now.seat.me.1 kn.nothing t.2 refl in
    let words = kn.sized.words in
    let d = ap (λ t. t.shared) c.deref.ensures in
    let enough : 32 * c.args.client + 32 < c.deref.result.now.shared.table_id.words =
    subst (λ z. 32 * c.args.client + 32 < z.table_id.words) (sym d) (omega arith) in (
      search rules,
      enough,
      lays_as kind (opening_by c.deref.result.now.shared.key) _ _ put w _ c.args.client now _ is kn.trustee
          (subst (λ z. c.args.client < z.table_id.slots) (sym d) inside)
          (taken_hand kind c.args.self.now c.args.side.now c.args.client (batch_in t.1) t.0 kn inside t.4) refl (c.take_batch-batch.ensures.requests, c.take_batch-batch.ensures.answers),
    )

pub returns-clause-sees : goal.returns-clause-sees
returns-clause-sees g c =
    let kind = g.S.Entrusted.kind in
    let kn = c.requires.mine in
    let v = trustee_knows c.args.side.now in
    let inside = in_table kind c.args.self.now c.args.side.now c.args.client kn c.requires.in_range in
    let e : c.index.result.now ≡ bit (replies v.past.items c.args.client) =
    word_at kind c.args.self.now c.args.side.now c.args.client c.index.result.now kn inside c.index.ensures in
    let t = (c.load-found.ensures.2 c.args.client refl).1 (λ z. c.if-found-index.false (z ∙ sym e)) in
    let there = ap (λ (m : Sat g.row.S.Denot g.row.S-Op.Denot g.row.S-Reply.Denot g.row.S-Task.Denot). m.1) t.2 in
    let y = same_first c.load-found.new.seat.me.1 c.args.client c.args.client t.1 c.slot_mut.result.now c.args.side.now.seat.me.1 _ there c.slot_mut.ensures.value in
    let now = c.take_batch-batch.new.self in
    let w = record v { past = listed t.0; up = c.args.client + 1 } in
    let put : Sat g.row.S.Denot g.row.S-Op.Denot g.row.S-Reply.Denot g.row.S-Task.Denot = (c.load-found.new.seat.me.0, (c.args.client, now) ∷ rest c.load-found.new.seat.me.1) in
    let is = put_in c.load-found.new.seat.me put w c.args.client c.args.client t.1 now c.args.side.now.seat.me.1 kn.nothing t.2 refl in
    let b = ap batch_in y ∙ sym c.take_batch-batch.ensures.batch in
    let after = c.load.ensures.2 ∙ laid put w _ is in
    subst (λ (x : Sat g.row.S.Denot g.row.S-Op.Denot g.row.S-Reply.Denot g.row.S-Task.Denot). Takes kind (opening_at c.args.self.now) c.args.client c.take_batch-batch.result.requests.items c.take_batch-batch.result.room (trustee_at c.args.side.now) (trustee_in x.0.past.items)) (sym after)
    (subst (λ z. Takes kind (opening_at c.args.self.now) c.args.client z.requests.items z.room (trustee_at c.args.side.now) (trustee_in t.0)) b
    (subst (λ o. Takes kind o c.args.client (batch_in t.1).requests.items (batch_in t.1).room (trustee_at c.args.side.now) (trustee_in t.0)) kn.opening_is t.4.takes))

pub returns-clause-keeps : goal.returns-clause-keeps
returns-clause-keeps g c =
    let kind = g.S.Entrusted.kind in
    let kn = c.requires.mine in
    let v = trustee_knows c.args.side.now in
    let inside = in_table kind c.args.self.now c.args.side.now c.args.client kn c.requires.in_range in
    let e : c.index.result.now ≡ bit (replies v.past.items c.args.client) =
    word_at kind c.args.self.now c.args.side.now c.args.client c.index.result.now kn inside c.index.ensures in
    let t = (c.load-found.ensures.2 c.args.client refl).1 (λ z. c.if-found-index.false (z ∙ sym e)) in
    let there = ap (λ (m : Sat g.row.S.Denot g.row.S-Op.Denot g.row.S-Reply.Denot g.row.S-Task.Denot). m.1) t.2 in
    let y = same_first c.load-found.new.seat.me.1 c.args.client c.args.client t.1 c.slot_mut.result.now c.args.side.now.seat.me.1 _ there c.slot_mut.ensures.value in
    let now = c.take_batch-batch.new.self in
    let w = record v { past = listed t.0; up = c.args.client + 1 } in
    let put : Sat g.row.S.Denot g.row.S-Op.Denot g.row.S-Reply.Denot g.row.S-Task.Denot = (c.load-found.new.seat.me.0, (c.args.client, now) ∷ rest c.load-found.new.seat.me.1) in
    let is = put_in c.load-found.new.seat.me put w c.args.client c.args.client t.1 now c.args.side.now.seat.me.1 kn.nothing t.2 refl in
    let b = ap batch_in y ∙ sym c.take_batch-batch.ensures.batch in
    let after = c.load.ensures.2 ∙ laid put w _ is in
    keeps_clients kind c.args.self.now _
    (stepped_trustee kind c.args.self.now c.args.side.now _ t.0 kn (c.load.ensures.0 ∙ c.load-found.ensures.0) after refl refl (λ k l. kn.words k l ∙ ap bit (sym (t.4.words k))) t.4.good)

pub returns-clause-next : goal.returns-clause-next
returns-clause-next g c =
    let kind = g.S.Entrusted.kind in
    let kn = c.requires.mine in
    let v = trustee_knows c.args.side.now in
    let inside = in_table kind c.args.self.now c.args.side.now c.args.client kn c.requires.in_range in
    let e : c.index.result.now ≡ bit (replies v.past.items c.args.client) =
    word_at kind c.args.self.now c.args.side.now c.args.client c.index.result.now kn inside c.index.ensures in
    let t = (c.load-found.ensures.2 c.args.client refl).1 (λ z. c.if-found-index.false (z ∙ sym e)) in
    let there = ap (λ (m : Sat g.row.S.Denot g.row.S-Op.Denot g.row.S-Reply.Denot g.row.S-Task.Denot). m.1) t.2 in
    let y = same_first c.load-found.new.seat.me.1 c.args.client c.args.client t.1 c.slot_mut.result.now c.args.side.now.seat.me.1 _ there c.slot_mut.ensures.value in
    let now = c.take_batch-batch.new.self in
    let w = record v { past = listed t.0; up = c.args.client + 1 } in
    let put : Sat g.row.S.Denot g.row.S-Op.Denot g.row.S-Reply.Denot g.row.S-Task.Denot = (c.load-found.new.seat.me.0, (c.args.client, now) ∷ rest c.load-found.new.seat.me.1) in
    let is = put_in c.load-found.new.seat.me put w c.args.client c.args.client t.1 now c.args.side.now.seat.me.1 kn.nothing t.2 refl in
    let b = ap batch_in y ∙ sym c.take_batch-batch.ensures.batch in
    let after = c.load.ensures.2 ∙ laid put w _ is in
    subst (λ (x : Sat g.row.S.Denot g.row.S-Op.Denot g.row.S-Reply.Denot g.row.S-Task.Denot). IsNext IsByTrustee v.past.items x.0.past.items (See c.args.client (Some c.take_batch-batch.result))) (sym after)
    (subst (λ z. IsNext IsByTrustee v.past.items t.0 (See c.args.client (Some z))) b t.4.next)
