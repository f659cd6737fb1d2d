use Rattle.std.proofs.Common.{rules, ◌≡◌, ◌+◌, ◌*◌, ℕ, length, replicate, arith, ap, subst, ◌∙◌, sym, refl}
use lib.ListN.{length-replicate}
use Rattle.tm_model.specs.Opening.{IsBuildable, opening_of}
use Rattle.tm_toggle.specs.Opened.{IsMade}
use Rattle.tm_toggle.specs.declared.sides.Key.{Key}
use Rattle.tm_toggle.proofs.Starting.{starts, empty_of}
use Rattle.tm_toggle.proofs.opening.make.Goals as goal

pub new-requires : goal.new-requires
new-requires g c =
    let key : Key g.row.S.Denot g.row.S-Op.Denot g.row.S-Reply.Denot g.row.S-Task.Denot = record { number = c.args.number; config = c.args.config; first = c.told.result } in
    let words : c.as_slice.result.now ≡ replicate (32 * (c.args.config.clients + c.args.number) + 48) 0 = c.as_slice.ensures.value ∙ c.in_ok-words.ensures.items_if_clones_equal (λ y h. h) in
    let slots : c.in_ok-slots.slots.items ≡ replicate (c.args.config.clients + c.args.number) (empty_of g.S.Entrusted.kind) = search rules in
    starts g.S.Entrusted.kind key (c.args.config.clients + c.args.number) _ _ (subst (λ l. IsBuildable c.args.config l) (sym c.told.ensures) c.requires.buildable) c.requires.number refl words slots

pub returns : goal.returns
returns g c =
    let n = c.args.config.clients + c.args.number in
    let z : ℕ = 0 in
    let key : Key g.row.S.Denot g.row.S-Op.Denot g.row.S-Reply.Denot g.row.S-Task.Denot = record { number = c.args.number; config = c.args.config; first = c.told.result } in
    let made = c.in-Ok.ensures.ok in
    let words : c.as_slice.result.now ≡ replicate (32 * n + 48) z = c.as_slice.ensures.value ∙ c.in_ok-words.ensures.items_if_clones_equal (λ y h. h) in
    let empty = empty_of g.S.Entrusted.kind in
    let slots : c.in_ok-slots.slots.items ≡ replicate n empty = search rules in
    let many : c.in-Ok.table.shared.table_id.words ≡ 32 * n + 48 = made.0 ∙ ap length words ∙ length-replicate (32 * n + 48) z in
    let deep : c.in-Ok.table.shared.table_id.slots ≡ n = made.1 ∙ ap length slots ∙ length-replicate n empty in
    let clients = c.requires.buildable.clients in
    let trustees = c.requires.buildable.trustees in
    let number = c.requires.number in
    let keyed : c.in-Ok.table.shared.key ≡ key = made.5 in
    subst (λ (k : Key g.row.S.Denot g.row.S-Op.Denot g.row.S-Reply.Denot g.row.S-Task.Denot). IsMade (opening_of c.args.number c.args.config c.args.first.now.items) k c.in-Ok.table.shared.table_id c.in-Ok.seat.table_id c.in-Ok.seat.me) (sym keyed)
    (record {
      opens = ap (λ l. opening_of c.args.number c.args.config l) c.told.ensures;
      buildable = subst (λ l. IsBuildable c.args.config l) (sym c.told.ensures) c.requires.buildable;
      number = c.requires.number;
      sized = record { words = omega arith; slots = deep; few = omega arith };
      same = made.2;
      me_is = made.4;
    })
