use Rattle.std.proofs.Common.{◌≡◌, ◌+◌, ◌<◌, ℕ, length, replicate, arith, ap, subst, ◌∙◌, sym}
use Rattle.std.specs.Arc.{arc_value}
use Rattle.tm_model.specs.State.{State, place_count}
use Rattle.tm_pair.specs.Theory.{IsNewTable}
use Rattle.tm_toggle.specs.Ruled.{opening_by}
use Rattle.tm_toggle.specs.Shared.{IsSized, id_of, shared_theory}
use Rattle.tm_toggle.specs.Opened.{AreFirstSides}
use Rattle.tm_toggle.specs.declared.shared.SharedTable.{SharedTable}
use Rattle.tm_toggle.proofs.NewTables.{no_sides, one_more_side, is_new}
use Rattle.tm_toggle.proofs.shared.SharedTable.new.Goals as goal

pub loop-place-init : goal.loop-place-init
loop-place-init g c =
    let made = c.in_ok-table.ensures in
    record {
      same = made.same;
      me = made.me_is;
      sized = made.sized;
      count = c.new-clients.ensures.len;
      sides = no_sides _ _ _ c.new-clients.ensures.items;
    }

pub add-requires : goal.add-requires
add-requires g c =
    let i = c.loop-place.invariant in
    let made = c.in_ok-table.ensures in
    let n = c.args.config.clients + c.args.number in
    let places : n ≡ place_count (opening_by c.in_ok-table.table.shared.key).setup = ap (λ (o : State g.row.S.Denot g.row.S-Op.Denot g.row.S-Reply.Denot g.row.S-Task.Denot). place_count o.setup) (sym made.opens) in
    let slots = i.sized.slots in
    let before = c.loop-place-test.true in
    let within : c.loop-place.place < c.in_ok-table.table.shared.table_id.slots = omega arith in
    (g.met.S.Shareable.fits_content, (i.same, (i.sized, (within, i.me))))

pub loop-place-preserved : goal.loop-place-preserved
loop-place-preserved g c =
    let i = c.loop-place.invariant in
    record {
      same = c.add.ensures.table ∙ i.same;
      me = c.add.ensures.seat;
      sized = i.sized;
      count = omega (arith, c.in_ok-push.ensures.len, i.count);
      sides = one_more_side c.in_ok-table.table.shared.key c.in_ok-table.table.shared.table_id c.loop-place.clients.items c.add.result _ c.loop-place.place c.in_ok-push.ensures.items
          (sym i.count ∙ c.loop-place.clients.ok.0) i.sides c.add.ensures.client;
    }

pub returns : goal.returns
returns g c =
    let n = c.args.config.clients + c.args.number in
    let i = c.loop-place.invariant in
    let made = c.in_ok-table.ensures in
    let key = c.in_ok-table.table.shared.key in
    let arc = c.in_ok-table-2.ensures.ok in
    let t : SharedTable g.row.S.Denot g.row.S-Op.Denot g.row.S-Reply.Denot g.row.S-Task.Denot = record { table = c.in_ok-table-2.table } in
    let end = c.loop-place-test.false in
    let far = c.loop-place.auto.place-end in
    let done : c.loop-place.place ≡ n = omega arith in
    let places : n ≡ place_count (opening_by key).setup = ap (λ (o : State g.row.S.Denot g.row.S-Op.Denot g.row.S-Reply.Denot g.row.S-Task.Denot). place_count o.setup) (sym made.opens) in
    let count : length c.loop-place.clients.items ≡ n = sym c.loop-place.clients.ok.0 ∙ i.count ∙ done in
    let ids : id_of t ≡ c.in_ok-table.table.shared.table_id = ap (λ x. x.shared.table_id) arc in
    let keys : (arc_value c.in_ok-table-2.table).shared.key ≡ key = ap (λ x. x.shared.key) arc in
    let z : ℕ = 0 in
    subst (λ o. IsNewTable (shared_theory g.S.Entrusted.kind) o t c.loop-place.clients.items (record { seat = c.loop-place.seat; words = c.in_ok-replied.replied })) made.opens
    (is_new g.S.Entrusted.kind t key keys made.buildable made.number
    (subst (λ x. IsSized (opening_by key) x) (sym ids) i.sized)
    c.loop-place.clients.items (record { seat = c.loop-place.seat; words = c.in_ok-replied.replied }) c.loop-place.place (count ∙ places)
    (subst (λ x. AreFirstSides key x c.loop-place.clients.items) (sym ids) i.sides)
    (i.same ∙ sym ids)
    i.me
    (c.in_ok-replied.ensures.items_if_clones_equal (λ y h. h) ∙ ap (λ (k : ℕ). replicate k z) places) (c.in_ok-replied.ensures.len ∙ places))
