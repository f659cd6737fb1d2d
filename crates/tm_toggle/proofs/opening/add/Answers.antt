use Rattle.std.proofs.Common.{rules, ◌≡◌, ◌<◌, true, [], ◌∷◌, refl, ◌∙◌, ap, subst, arith}
use Rattle.tm_toggle.specs.Ruled.{opening_by}
use Rattle.tm_toggle.specs.Plays.{Sat, new_client}
use Rattle.tm_toggle.specs.Opened.{maker}
use Rattle.tm_toggle.proofs.Starting.{splits_as, settles_as}
use Rattle.tm_toggle.proofs.opening.add.Goals as goal

pub split_seat-client-requires : goal.split_seat-client-requires
split_seat-client-requires g c =
    let key = c.args.table.now.shared.key in
    let words = c.requires.sized.words in (
      search rules,
      omega arith,
      splits_as g.S.Entrusted.kind (opening_by key) _ c.args.seat.now.me (maker key c.args.place) c.requires.seat refl refl refl (subst (λ n. c.args.place < n) c.requires.sized.slots c.requires.place),
    )

pub load-requires : goal.load-requires
load-requires g c =
    let key = c.args.table.now.shared.key in
    let words = c.requires.sized.words in
    let inside = c.requires.place in
    let made : Sat g.row.S.Denot g.row.S-Op.Denot g.row.S-Reply.Denot g.row.S-Task.Denot = (new_client (maker key c.args.place), []) in
    let is : c.split_seat-client.result.me ≡ made =
    c.split_seat-client.ensures.4 ∙ ap (λ (m : Sat g.row.S.Denot g.row.S-Op.Denot g.row.S-Reply.Denot g.row.S-Task.Denot). (new_client m.0, [])) c.requires.seat in (
      search rules,
      omega arith,
      settles_as g.S.Entrusted.kind (opening_by key) _ _ c.split_seat-client.result.me (new_client (maker key c.args.place)) _ is refl refl refl refl,
    )

pub returns-clause-client : goal.returns-clause-client
returns-clause-client g c =
    let key = c.args.table.now.shared.key in
    let made : Sat g.row.S.Denot g.row.S-Op.Denot g.row.S-Reply.Denot g.row.S-Task.Denot = (new_client (maker key c.args.place), []) in
    let is : c.split_seat-client.result.me ≡ made =
    c.split_seat-client.ensures.4 ∙ ap (λ (m : Sat g.row.S.Denot g.row.S-Op.Denot g.row.S-Reply.Denot g.row.S-Task.Denot). (new_client m.0, [])) c.requires.seat in
    let t = c.load.ensures.2 in
    let y = t.0 in
    record {
      same = c.load.ensures.0 ∙ c.split_seat-client.ensures.3 ∙ c.requires.table;
      me = (
        y,
        t.1 ∙ ap (λ (m : Sat g.row.S.Denot g.row.S-Op.Denot g.row.S-Reply.Denot g.row.S-Task.Denot). (record m.0 { settled = true }, (m.0.place, y) ∷ m.1)) is,
        t.2,
      );
      place = refl;
      word = refl;
      out = refl;
    }
