use Rattle.std.proofs.Common.{rules, ◌<◌, ℕ, ◌+◌, ◌*◌, ◌∷◌, refl, sym, ◌∙◌, ap, subst, arith}
use Rattle.std.specs.declared.option.Option.TheVariants.{None, Some}
use Rattle.atomic_table.specs.Table.{rest}
use Rattle.tm_pair.specs.Calls.{IsPending, Gets}
use Rattle.tm_pair.specs.declared.moves.Move.TheVariants.{Collect}
use Rattle.tm_toggle.specs.Contents.{answers_in, HasNoRequests}
use Rattle.tm_toggle.specs.Ruled.{listed, bit, s_of, opening_by, client_in, IsByClient, IsNext}
use Rattle.tm_toggle.specs.Plays.{Sat, asks}
use Rattle.tm_toggle.specs.Shared.{client_at, client_knows}
use Rattle.tm_toggle.proofs.Collecting.{collects_as}
use Rattle.tm_toggle.proofs.Keeping.{held, same_first, put_in, collected_side, pending_side, keeps_sides}
use Rattle.tm_toggle.proofs.shared.SharedTablePairTable.collect.Goals as goal

pub returns-then-not-side-clause-collects : goal.returns-then-not-side-clause-collects
returns-then-not-side-clause-collects g c = record { out = (c.requires.mine.free c.if-not-side.true).0; kept = refl }

pub returns-then-not-side-clause-keeps : goal.returns-then-not-side-clause-keeps
returns-then-not-side-clause-keeps g c = keeps_sides g.S.Entrusted.kind c.args.self.now c.args.side.now c.args.side.now c.requires.mine

pub load-found-requires : goal.load-found-requires
load-found-requires g c =
    let kn = c.requires.mine in
    let h = kn.away c.if-not-side.false in
    let words = kn.sized.words in
    let inside = kn.in_range in
    let d = ap (λ t. t.shared) c.deref.ensures in
    let enough : 32 * c.args.side.now.place + 32 < c.deref.result.now.shared.table_id.words =
    subst (λ z. 32 * c.args.side.now.place + 32 < z.table_id.words) (sym d) (omega arith) in (
      search rules,
      enough,
      collects_as g.S.Entrusted.kind (opening_by c.deref.result.now.shared.key) _ _ c.args.side.now.seat.me _ h.0.0 h.1 kn.client kn.plain kn.settled
          (kn.opening_is ∙ ap (λ t. opening_by t.key) (sym d)) h.0.1 (ap s_of (sym kn.place)),
    )

pub returns-then-found-side-clause-collects : goal.returns-then-found-side-clause-collects
returns-then-found-side-clause-collects g c =
    let kn = c.requires.mine in
    let v = client_knows c.args.side.now in
    let t = c.load-found.ensures.2.1 (λ e. c.if-found-side.true (e ∙ ap (λ (n : ℕ). bit (asks v.past.items n)) kn.place ∙ sym kn.word)) in
    subst (λ (x : Sat g.row.S.Denot g.row.S-Op.Denot g.row.S-Reply.Denot g.row.S-Task.Denot). IsPending (client_at c.args.side.now) (client_in x.0.place x.0.past.items)) (sym t.1) t.2.collects

pub returns-then-found-side-clause-keeps : goal.returns-then-found-side-clause-keeps
returns-then-found-side-clause-keeps g c =
    let kn = c.requires.mine in
    let v = client_knows c.args.side.now in
    let t = c.load-found.ensures.2.1 (λ e. c.if-found-side.true (e ∙ ap (λ (n : ℕ). bit (asks v.past.items n)) kn.place ∙ sym kn.word)) in
    keeps_sides g.S.Entrusted.kind c.args.self.now c.args.side.now _
    (pending_side g.S.Entrusted.kind c.args.self.now c.args.side.now _ t.0 kn c.load-found.ensures.0 t.1 refl c.if-not-side.false c.if-not-side.false refl t.2)

pub returns-then-found-side-clause-next : goal.returns-then-found-side-clause-next
returns-then-found-side-clause-next g c =
    let kn = c.requires.mine in
    let v = client_knows c.args.side.now in
    let t = c.load-found.ensures.2.1 (λ e. c.if-found-side.true (e ∙ ap (λ (n : ℕ). bit (asks v.past.items n)) kn.place ∙ sym kn.word)) in
    subst (λ (x : Sat g.row.S.Denot g.row.S-Op.Denot g.row.S-Reply.Denot g.row.S-Task.Denot). IsNext (IsByClient v.place) v.past.items x.0.past.items (Collect v.place None)) (sym t.1) t.2.next

pub slot_mut-requires : goal.slot_mut-requires
slot_mut-requires g c =
    let kn = c.requires.mine in
    let v = client_knows c.args.side.now in
    let l = c.args.side.now.seat.me.1 in
    let t = c.load-found.ensures.2.0 (c.if-found-side.false ∙ kn.word ∙ ap (λ (n : ℕ). bit (asks v.past.items n)) (sym kn.place)) in
    let there = ap (λ (m : Sat g.row.S.Denot g.row.S-Op.Denot g.row.S-Reply.Denot g.row.S-Task.Denot). m.1) t.2 in
    (search rules, (t.1, held c.load-found.new.seat.me.1 c.args.side.now.place t.1 l (there ∙ ap (λ (p : ℕ). (p, t.1) ∷ l) kn.place)))

pub take_answers-requires : goal.take_answers-requires
take_answers-requires g c =
    let kn = c.requires.mine in
    let v = client_knows c.args.side.now in
    let l = c.args.side.now.seat.me.1 in
    let t = c.load-found.ensures.2.0 (c.if-found-side.false ∙ kn.word ∙ ap (λ (n : ℕ). bit (asks v.past.items n)) (sym kn.place)) in
    let there = ap (λ (m : Sat g.row.S.Denot g.row.S-Op.Denot g.row.S-Reply.Denot g.row.S-Task.Denot). m.1) t.2 in
    let y = same_first c.load-found.new.seat.me.1 v.place c.args.side.now.place t.1 c.slot_mut.result.now l _ there c.slot_mut.ensures.value in
    (g.met.S.Shareable.fits_content, (g.met.S.FitsAnswers.fits, subst HasNoRequests y t.3))

pub returns-clause-collects : goal.returns-clause-collects
returns-clause-collects g c =
    let kn = c.requires.mine in
    let v = client_knows c.args.side.now in
    let l = c.args.side.now.seat.me.1 in
    let t = c.load-found.ensures.2.0 (c.if-found-side.false ∙ kn.word ∙ ap (λ (n : ℕ). bit (asks v.past.items n)) (sym kn.place)) in
    let there = ap (λ (m : Sat g.row.S.Denot g.row.S-Op.Denot g.row.S-Reply.Denot g.row.S-Task.Denot). m.1) t.2 in
    let y = same_first c.load-found.new.seat.me.1 v.place c.args.side.now.place t.1 c.slot_mut.result.now l _ there c.slot_mut.ensures.value in
    let now = c.take_answers.new.self in
    let put : Sat g.row.S.Denot g.row.S-Op.Denot g.row.S-Reply.Denot g.row.S-Task.Denot = (c.load-found.new.seat.me.0, (c.args.side.now.place, now) ∷ rest c.load-found.new.seat.me.1) in
    let is = put_in c.load-found.new.seat.me put (record v { past = listed t.0 }) c.args.side.now.place v.place t.1 now l (kn.away c.if-not-side.false).1 t.2 refl in
    let a = ap answers_in y ∙ sym c.take_answers.ensures.answers in
    subst (λ (x : Sat g.row.S.Denot g.row.S-Op.Denot g.row.S-Reply.Denot g.row.S-Task.Denot). Gets c.take_answers.result (client_at c.args.side.now) (client_in x.0.place x.0.past.items)) (sym is)
    (subst (λ z. Gets z (client_at c.args.side.now) (client_in v.place t.0)) a t.4.collects)

pub returns-clause-keeps : goal.returns-clause-keeps
returns-clause-keeps g c =
    let kn = c.requires.mine in
    let v = client_knows c.args.side.now in
    let l = c.args.side.now.seat.me.1 in
    let t = c.load-found.ensures.2.0 (c.if-found-side.false ∙ kn.word ∙ ap (λ (n : ℕ). bit (asks v.past.items n)) (sym kn.place)) in
    let there = ap (λ (m : Sat g.row.S.Denot g.row.S-Op.Denot g.row.S-Reply.Denot g.row.S-Task.Denot). m.1) t.2 in
    let y = same_first c.load-found.new.seat.me.1 v.place c.args.side.now.place t.1 c.slot_mut.result.now l _ there c.slot_mut.ensures.value in
    let now = c.take_answers.new.self in
    let put : Sat g.row.S.Denot g.row.S-Op.Denot g.row.S-Reply.Denot g.row.S-Task.Denot = (c.load-found.new.seat.me.0, (c.args.side.now.place, now) ∷ rest c.load-found.new.seat.me.1) in
    let is = put_in c.load-found.new.seat.me put (record v { past = listed t.0 }) c.args.side.now.place v.place t.1 now l (kn.away c.if-not-side.false).1 t.2 refl in
    let a = ap answers_in y ∙ sym c.take_answers.ensures.answers in
    keeps_sides g.S.Entrusted.kind c.args.self.now c.args.side.now _
    (collected_side g.S.Entrusted.kind c.args.self.now c.args.side.now _ (answers_in t.1) now t.0 kn c.load-found.ensures.0 is
    (c.take_answers.ensures.requests, c.take_answers.ensures.none) refl refl refl t.4)

pub returns-clause-next : goal.returns-clause-next
returns-clause-next g c =
    let kn = c.requires.mine in
    let v = client_knows c.args.side.now in
    let l = c.args.side.now.seat.me.1 in
    let t = c.load-found.ensures.2.0 (c.if-found-side.false ∙ kn.word ∙ ap (λ (n : ℕ). bit (asks v.past.items n)) (sym kn.place)) in
    let there = ap (λ (m : Sat g.row.S.Denot g.row.S-Op.Denot g.row.S-Reply.Denot g.row.S-Task.Denot). m.1) t.2 in
    let y = same_first c.load-found.new.seat.me.1 v.place c.args.side.now.place t.1 c.slot_mut.result.now l _ there c.slot_mut.ensures.value in
    let now = c.take_answers.new.self in
    let put : Sat g.row.S.Denot g.row.S-Op.Denot g.row.S-Reply.Denot g.row.S-Task.Denot = (c.load-found.new.seat.me.0, (c.args.side.now.place, now) ∷ rest c.load-found.new.seat.me.1) in
    let is = put_in c.load-found.new.seat.me put (record v { past = listed t.0 }) c.args.side.now.place v.place t.1 now l (kn.away c.if-not-side.false).1 t.2 refl in
    let a = ap answers_in y ∙ sym c.take_answers.ensures.answers in
    subst (λ (x : Sat g.row.S.Denot g.row.S-Op.Denot g.row.S-Reply.Denot g.row.S-Task.Denot). IsNext (IsByClient v.place) v.past.items x.0.past.items (Collect v.place (Some c.take_answers.result))) (sym is)
    (subst (λ z. IsNext (IsByClient v.place) v.past.items t.0 (Collect v.place (Some z))) a t.4.next)
