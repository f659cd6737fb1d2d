use Rattle.std.proofs.Common.{rules, ◌<◌, ℕ, ◌+◌, ◌-◌, ◌*◌, ◌∷◌, length-set, refl, sym, ◌∙◌, ap, subst, arith}
use Rattle.atomic_table.specs.Table.{rest}
use Rattle.tm_pair.specs.Calls.{MayAnswer, HasAnswered}
use Rattle.tm_pair.specs.Moves.{answer_of}
use Rattle.tm_toggle.specs.Contents.{answers_in, HasNoRequests, HasNoAnswers}
use Rattle.tm_toggle.specs.Ruled.{opening_by, trustee_in, IsByTrustee, IsNext}
use Rattle.tm_toggle.specs.Plays.{Sat, replies}
use Rattle.tm_toggle.specs.Shared.{trustee_at, trustee_knows}
use Rattle.tm_toggle.proofs.Facts.{low, some_and}
use Rattle.tm_toggle.proofs.Answering.{answers_as}
use Rattle.tm_toggle.proofs.Raising.{lifts_as}
use Rattle.tm_toggle.proofs.Keeping.{held, same_first, put_in, told_answered, stepped_trustee, in_table_hand, word_at, words_set, keeps_clients}
use Rattle.tm_toggle.proofs.shared.SharedTablePairTable.answer.Goals as goal

pub index-requires : goal.index-requires
index-requires g c =
    let kind = g.S.Entrusted.kind in
    let kn = c.requires.mine in
    let may = some_and _ _ c.requires.may in
    let inside = in_table_hand kind c.args.self.now c.args.side.now c.args.client may.0 kn may.1 in
    subst (λ n. c.args.client < n) (sym kn.len) inside

pub overflow_sub-word : goal.overflow_sub-word
overflow_sub-word g c =
    let kind = g.S.Entrusted.kind in
    let kn = c.requires.mine in
    let may = some_and _ _ c.requires.may in
    let inside = in_table_hand kind c.args.self.now c.args.side.now c.args.client may.0 kn may.1 in
    let e = word_at kind c.args.self.now c.args.side.now c.args.client c.index.result.now kn inside c.index.ensures in
    let l = low (replies (trustee_knows c.args.side.now).past.items c.args.client) in omega arith

pub load-requires : goal.load-requires
load-requires g c =
    let kind = g.S.Entrusted.kind in
    let kn = c.requires.mine in
    let may = some_and _ _ c.requires.may in
    let inside = in_table_hand kind c.args.self.now c.args.side.now c.args.client may.0 kn may.1 in
    let words = kn.sized.words in
    let d = ap (λ t. t.shared) c.deref.ensures in
    let enough : 32 * c.args.client + 32 < c.deref.result.now.shared.table_id.words =
    subst (λ z. 32 * c.args.client + 32 < z.table_id.words) (sym d) (omega arith) in (
      search rules,
      enough,
      lifts_as kind (opening_by c.deref.result.now.shared.key) _ _ c.args.side.now.seat.me _ c.args.client may.0 kn.nothing kn.trustee
          refl (subst (λ z. c.args.client < z.table_id.slots) (sym d) inside) may.1 kn.down,
    )

pub slot_mut-requires : goal.slot_mut-requires
slot_mut-requires g c =
    let t = c.load.ensures.2 c.args.client refl in
    let there = ap (λ (m : Sat g.row.S.Denot g.row.S-Op.Denot g.row.S-Reply.Denot g.row.S-Task.Denot). m.1) t.1 in
    (search rules, (t.0, held c.load.new.seat.me.1 c.args.client t.0 c.args.side.now.seat.me.1 there))

pub put_answers-requires : goal.put_answers-requires
put_answers-requires g c =
    let t = c.load.ensures.2 c.args.client refl in
    let there = ap (λ (m : Sat g.row.S.Denot g.row.S-Op.Denot g.row.S-Reply.Denot g.row.S-Task.Denot). m.1) t.1 in
    let y = same_first c.load.new.seat.me.1 c.args.client c.args.client t.0 c.slot_mut.result.now c.args.side.now.seat.me.1 _ there c.slot_mut.ensures.value in
    (g.met.S.Shareable.fits_content, (g.met.S.FitsAnswers.fits, (subst HasNoRequests y t.2.0, subst HasNoAnswers y t.2.1)))

pub store-requires : goal.store-requires
store-requires g c =
    let kind = g.S.Entrusted.kind in
    let kn = c.requires.mine in
    let may = some_and _ _ c.requires.may in
    let inside = in_table_hand kind c.args.self.now c.args.side.now c.args.client may.0 kn may.1 in
    let e = word_at kind c.args.self.now c.args.side.now c.args.client c.index.result.now kn inside c.index.ensures in
    let t = c.load.ensures.2 c.args.client refl in
    let there = ap (λ (m : Sat g.row.S.Denot g.row.S-Op.Denot g.row.S-Reply.Denot g.row.S-Task.Denot). m.1) t.1 in
    let v = trustee_knows c.args.side.now in
    let now = c.put_answers.new.self in
    let w = record v { up = c.args.client + 1 } in
    let put : Sat g.row.S.Denot g.row.S-Op.Denot g.row.S-Reply.Denot g.row.S-Task.Denot = (c.load.new.seat.me.0, (c.args.client, now) ∷ rest c.load.new.seat.me.1) in
    let is = put_in c.load.new.seat.me put w c.args.client c.args.client t.0 now c.args.side.now.seat.me.1 kn.nothing t.1 refl in
    let words = kn.sized.words in
    let d = ap (λ t. t.shared) c.deref.ensures in
    let begins = ap (λ t. opening_by t.key) (sym d) in
    let enough : 32 * c.args.client + 32 < c.deref.result.now.shared.table_id.words =
    subst (λ z. 32 * c.args.client + 32 < z.table_id.words) (sym d) (omega arith) in (
      search rules,
      enough,
      answers_as kind (opening_by c.deref.result.now.shared.key) _ _ put w g.E.Since.resumes now _ _ c.args.client is kn.trustee
          (kn.opening_is ∙ begins) refl (subst (λ z. c.args.client < z.table_id.slots) (sym d) inside) refl (ap (λ (n : ℕ). 1 - n) e) c.put_answers.ensures.requests
          (subst (λ a. MayAnswer kind (opening_by c.deref.result.now.shared.key) c.args.client g.E.Since.resumes a (trustee_at c.args.side.now)) (sym c.put_answers.ensures.answers)
          (subst (λ o. MayAnswer kind o c.args.client g.E.Since.resumes c.args.answers (trustee_at c.args.side.now)) begins c.requires.may)),
    )

pub index_mut-requires : goal.index_mut-requires
index_mut-requires g c =
    let kind = g.S.Entrusted.kind in
    let kn = c.requires.mine in
    let may = some_and _ _ c.requires.may in
    let inside = in_table_hand kind c.args.self.now c.args.side.now c.args.client may.0 kn may.1 in
    subst (λ n. c.args.client < n) (sym kn.len) inside

pub returns-clause-answers : goal.returns-clause-answers
returns-clause-answers g c =
    let kind = g.S.Entrusted.kind in
    let kn = c.requires.mine in
    let may = some_and _ _ c.requires.may in
    let inside = in_table_hand kind c.args.self.now c.args.side.now c.args.client may.0 kn may.1 in
    let t = c.load.ensures.2 c.args.client refl in
    let there = ap (λ (m : Sat g.row.S.Denot g.row.S-Op.Denot g.row.S-Reply.Denot g.row.S-Task.Denot). m.1) t.1 in
    let v = trustee_knows c.args.side.now in
    let now = c.put_answers.new.self in
    let w = record v { up = c.args.client + 1 } in
    let put : Sat g.row.S.Denot g.row.S-Op.Denot g.row.S-Reply.Denot g.row.S-Task.Denot = (c.load.new.seat.me.0, (c.args.client, now) ∷ rest c.load.new.seat.me.1) in
    let is = put_in c.load.new.seat.me put w c.args.client c.args.client t.0 now c.args.side.now.seat.me.1 kn.nothing t.1 refl in
    let a = told_answered kind g.E.Since.resumes put c.store.new.seat.me w c.args.client now is c.store.ensures.2 in
    let same = c.put_answers.ensures.answers in
    subst (λ (x : Sat g.row.S.Denot g.row.S-Op.Denot g.row.S-Reply.Denot g.row.S-Task.Denot). HasAnswered c.args.client g.E.Since.resumes c.args.answers (trustee_at c.args.side.now) (trustee_in x.0.past.items)) (sym a.1)
    (subst (λ z. HasAnswered c.args.client g.E.Since.resumes z (trustee_at c.args.side.now) (trustee_in a.0)) same a.2.answers)

pub returns-clause-keeps : goal.returns-clause-keeps
returns-clause-keeps g c =
    let kind = g.S.Entrusted.kind in
    let kn = c.requires.mine in
    let may = some_and _ _ c.requires.may in
    let inside = in_table_hand kind c.args.self.now c.args.side.now c.args.client may.0 kn may.1 in
    let e = word_at kind c.args.self.now c.args.side.now c.args.client c.index.result.now kn inside c.index.ensures in
    let t = c.load.ensures.2 c.args.client refl in
    let there = ap (λ (m : Sat g.row.S.Denot g.row.S-Op.Denot g.row.S-Reply.Denot g.row.S-Task.Denot). m.1) t.1 in
    let v = trustee_knows c.args.side.now in
    let now = c.put_answers.new.self in
    let w = record v { up = c.args.client + 1 } in
    let put : Sat g.row.S.Denot g.row.S-Op.Denot g.row.S-Reply.Denot g.row.S-Task.Denot = (c.load.new.seat.me.0, (c.args.client, now) ∷ rest c.load.new.seat.me.1) in
    let is = put_in c.load.new.seat.me put w c.args.client c.args.client t.0 now c.args.side.now.seat.me.1 kn.nothing t.1 refl in
    let a = told_answered kind g.E.Since.resumes put c.store.new.seat.me w c.args.client now is c.store.ensures.2 in
    let same = c.put_answers.ensures.answers in
    keeps_clients kind c.args.self.now _
    (stepped_trustee kind c.args.self.now c.args.side.now _ a.0 kn (c.store.ensures.0 ∙ c.load.ensures.0) a.1
    (length-set c.args.side.now.words.items c.args.client (1 - c.index.result.now)) refl
    (words_set kind c.args.self.now c.args.side.now c.args.client (1 - c.index.result.now) g.E.Since.resumes (answers_in now) a.0 kn inside (ap (λ (n : ℕ). 1 - n) e) a.2) a.2.good)

pub returns-clause-next : goal.returns-clause-next
returns-clause-next g c =
    let kind = g.S.Entrusted.kind in
    let kn = c.requires.mine in
    let may = some_and _ _ c.requires.may in
    let inside = in_table_hand kind c.args.self.now c.args.side.now c.args.client may.0 kn may.1 in
    let t = c.load.ensures.2 c.args.client refl in
    let there = ap (λ (m : Sat g.row.S.Denot g.row.S-Op.Denot g.row.S-Reply.Denot g.row.S-Task.Denot). m.1) t.1 in
    let v = trustee_knows c.args.side.now in
    let now = c.put_answers.new.self in
    let w = record v { up = c.args.client + 1 } in
    let put : Sat g.row.S.Denot g.row.S-Op.Denot g.row.S-Reply.Denot g.row.S-Task.Denot = (c.load.new.seat.me.0, (c.args.client, now) ∷ rest c.load.new.seat.me.1) in
    let is = put_in c.load.new.seat.me put w c.args.client c.args.client t.0 now c.args.side.now.seat.me.1 kn.nothing t.1 refl in
    let a = told_answered kind g.E.Since.resumes put c.store.new.seat.me w c.args.client now is c.store.ensures.2 in
    let same = c.put_answers.ensures.answers in
    subst (λ (x : Sat g.row.S.Denot g.row.S-Op.Denot g.row.S-Reply.Denot g.row.S-Task.Denot). IsNext IsByTrustee (trustee_knows c.args.side.now).past.items x.0.past.items (answer_of c.args.client g.E.Since.resumes c.args.answers)) (sym a.1)
    (subst (λ z. IsNext IsByTrustee (trustee_knows c.args.side.now).past.items a.0 (answer_of c.args.client g.E.Since.resumes z)) same a.2.next)
