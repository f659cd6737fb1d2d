use Rattle.std.proofs.Common.{rules, ◌<◌, sym, ◌∙◌, ap, subst, arith}
use Rattle.tm_toggle.specs.Ruled.{opening_by}
use Rattle.tm_toggle.specs.Plays.{Sat}
use Rattle.tm_toggle.proofs.Noting.{client_notes_as, trustee_notes_as, joins, compares_as, follows_as}
use Rattle.tm_toggle.proofs.meeting.SharedTableMeet.follow.Goals as goal

pub split_seat-note-requires : goal.split_seat-note-requires
split_seat-note-requires g c =
    let kn = c.requires.side in
    let words = kn.sized.words in
    let d = ap (λ t. t.shared) c.deref.ensures in
    let enough : 0 < c.deref.result.now.shared.table_id.words = subst (λ z. 0 < z.table_id.words) (sym d) (omega arith) in (
      search rules,
      enough,
      client_notes_as g.S.Entrusted.kind (opening_by c.deref.result.now.shared.key) _ c.args.side.now.seat.me kn.client kn.plain,
    )

pub join_seat-requires : goal.join_seat-requires
join_seat-requires g c =
    let kn = c.requires.home in
    let words = kn.sized.words in
    let d = ap (λ t. t.shared) c.deref.ensures in
    let enough : 0 < c.deref.result.now.shared.table_id.words = subst (λ z. 0 < z.table_id.words) (sym d) (omega arith) in (
      search rules,
      search rules,
      ap (λ (m : Sat g.row.S.Denot g.row.S-Op.Denot g.row.S-Reply.Denot g.row.S-Task.Denot). m.1) c.split_seat-note.ensures.4,
      enough,
      joins g.S.Entrusted.kind (opening_by c.deref.result.now.shared.key) _ _ _ _,
    )

pub load-requires : goal.load-requires
load-requires g c =
    let kn = c.requires.home in
    let words = kn.sized.words in
    let m = c.join_seat.ensures.2 in
    let d = ap (λ t. t.shared) c.deref.ensures in
    let enough : 0 < c.deref.result.now.shared.table_id.words = subst (λ z. 0 < z.table_id.words) (sym d) (omega arith) in (
      search rules,
      enough,
      follows_as g.S.Entrusted.kind (opening_by c.deref.result.now.shared.key) _ _ c.join_seat.new.seat.me 0 (ap (λ (x : Sat g.row.S.Denot g.row.S-Op.Denot g.row.S-Reply.Denot g.row.S-Task.Denot). x.0.trustee) m ∙ kn.trustee),
    )

pub split_seat-note-requires-2 : goal.split_seat-note-requires-2
split_seat-note-requires-2 g c =
    let kn = c.requires.home in
    let words = kn.sized.words in
    let m = c.load.ensures.2.0 ∙ c.join_seat.ensures.2 in
    let d = ap (λ t. t.shared) c.deref.ensures in
    let enough : 0 < c.deref.result.now.shared.table_id.words = subst (λ z. 0 < z.table_id.words) (sym d) (omega arith) in (
      search rules,
      enough,
      trustee_notes_as g.S.Entrusted.kind (opening_by c.deref.result.now.shared.key) _ c.load.new.seat.me (ap (λ (x : Sat g.row.S.Denot g.row.S-Op.Denot g.row.S-Reply.Denot g.row.S-Task.Denot). x.0.trustee) m ∙ kn.trustee),
    )

pub join_seat-requires-2 : goal.join_seat-requires-2
join_seat-requires-2 g c =
    let kn = c.requires.side in
    let words = kn.sized.words in
    let d = ap (λ t. t.shared) c.deref.ensures in
    let enough : 0 < c.deref.result.now.shared.table_id.words = subst (λ z. 0 < z.table_id.words) (sym d) (omega arith) in (
      search rules,
      search rules,
      ap (λ (m : Sat g.row.S.Denot g.row.S-Op.Denot g.row.S-Reply.Denot g.row.S-Task.Denot). m.1) c.split_seat-note-2.ensures.4,
      enough,
      joins g.S.Entrusted.kind (opening_by c.deref.result.now.shared.key) _ _ _ _,
    )

pub load-requires-2 : goal.load-requires-2
load-requires-2 g c =
    let kn = c.requires.side in
    let words = kn.sized.words in
    let was = c.split_seat-note.ensures.2 in
    let m = c.join_seat-2.ensures.2 in
    let d = ap (λ t. t.shared) c.deref.ensures in
    let enough : 0 < c.deref.result.now.shared.table_id.words = subst (λ z. 0 < z.table_id.words) (sym d) (omega arith) in (
      search rules,
      enough,
      compares_as g.S.Entrusted.kind (opening_by c.deref.result.now.shared.key) _ _ c.join_seat-2.new.seat.me 0
          (ap (λ (x : Sat g.row.S.Denot g.row.S-Op.Denot g.row.S-Reply.Denot g.row.S-Task.Denot). x.0.trustee) m ∙ ap (λ (x : Sat g.row.S.Denot g.row.S-Op.Denot g.row.S-Reply.Denot g.row.S-Task.Denot). x.0.trustee) was ∙ kn.client)
          (ap (λ (x : Sat g.row.S.Denot g.row.S-Op.Denot g.row.S-Reply.Denot g.row.S-Task.Denot). x.0.note) m ∙ ap (λ (x : Sat g.row.S.Denot g.row.S-Op.Denot g.row.S-Reply.Denot g.row.S-Task.Denot). x.0.note) was ∙ kn.plain),
    )
