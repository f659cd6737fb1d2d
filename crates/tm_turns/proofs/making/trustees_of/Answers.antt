use Rattle.std.proofs.Common.{map, refl, sym, ◌∙◌, subst, arith}
use Rattle.std.proofs.lemmas.List.{length-map}
use Rattle.tm_trustee.proofs.Elements.{mapped}
use Rattle.tm_turns.specs.Making.{AreNewTrustees}
use Rattle.tm_turns.proofs.Fronts.{front_is, rest_is, some_left}
use Rattle.tm_turns.proofs.Made.{trustees_none, trustees_more, part_at}
use Rattle.tm_turns.proofs.making.trustees_of.Goals as goal

pub loop-number-init : goal.loop-number-init
loop-number-init g c =
    record {
      homes = refl;
      seats = refl;
      nested = refl;
      placed = refl;
      made = λ first parts. trustees_none g.S.Entrusted.kind c.args.config first _ _ c.new-trustees.result.items c.new-trustees.ensures.items;
    }

pub remove-first-requires : goal.remove-first-requires
remove-first-requires g c =
    let (first, parts) = c.requires in
    let n = c.loop-number.number in
    let many = sym (length-map c.args.placed.items (λ v. v.items)) ∙ parts.placed_are.count in
    let some = some_left c.args.placed.items c.loop-number.placed.items n c.args.config.trustees c.loop-number.invariant.placed many c.loop-number-test.true in
    let len = c.loop-number.placed.ok.0 in
    omega (arith, some, len)

pub remove-home-requires : goal.remove-home-requires
remove-home-requires g c =
    let (first, parts) = c.requires in
    let n = c.loop-number.number in
    let some = some_left c.args.homes.items c.loop-number.homes.items n c.args.config.trustees c.loop-number.invariant.homes parts.as_many_homes c.loop-number-test.true in
    let len = c.loop-number.homes.ok.0 in
    omega (arith, some, len)

pub remove-above-requires : goal.remove-above-requires
remove-above-requires g c =
    let (first, parts) = c.requires in
    let n = c.loop-number.number in
    let many = sym (length-map c.args.seats.items (λ v. v.items)) ∙ parts.as_many_seats in
    let some = some_left c.args.seats.items c.loop-number.seats.items n c.args.config.trustees c.loop-number.invariant.seats many c.loop-number-test.true in
    let len = c.loop-number.seats.ok.0 in
    omega (arith, some, len)

pub remove-names-requires : goal.remove-names-requires
remove-names-requires g c =
    let (first, parts) = c.requires in
    let n = c.loop-number.number in
    let many = sym (length-map c.args.nested.items (λ v. v.items)) ∙ parts.nested_are.as_many in
    let some = some_left c.args.nested.items c.loop-number.nested.items n c.args.config.trustees c.loop-number.invariant.nested many c.loop-number-test.true in
    let len = c.loop-number.nested.ok.0 in
    omega (arith, some, len)

pub trustee_of-requires : goal.trustee_of-requires
trustee_of-requires g c =
    let (first, parts) = c.requires in
    let n = c.loop-number.number in
    let lt = c.loop-number-test.true in
    let all = c.args.config.trustees in
    let home_at = front_is c.args.homes.items c.loop-number.homes.items n c.remove-home.result c.loop-number.invariant.homes
    (some_left c.args.homes.items c.loop-number.homes.items n all c.loop-number.invariant.homes parts.as_many_homes lt) c.remove-home.ensures.value in
    let seat_at = front_is c.args.seats.items c.loop-number.seats.items n c.remove-above.result c.loop-number.invariant.seats
    (some_left c.args.seats.items c.loop-number.seats.items n all c.loop-number.invariant.seats (sym (length-map c.args.seats.items (λ v. v.items)) ∙ parts.as_many_seats) lt)
    c.remove-above.ensures.value in
    let names_at = front_is c.args.nested.items c.loop-number.nested.items n c.remove-names.result c.loop-number.invariant.nested
    (some_left c.args.nested.items c.loop-number.nested.items n all c.loop-number.invariant.nested (sym (length-map c.args.nested.items (λ v. v.items)) ∙ parts.nested_are.as_many) lt)
    c.remove-names.ensures.value in
    let objects_at = front_is c.args.placed.items c.loop-number.placed.items n c.remove-first.result c.loop-number.invariant.placed
    (some_left c.args.placed.items c.loop-number.placed.items n all c.loop-number.invariant.placed (sym (length-map c.args.placed.items (λ v. v.items)) ∙ parts.placed_are.count) lt)
    c.remove-first.ensures.value in (
      first,
      part_at c.args.config first c.args.homes.items _ _ _ n c.remove-home.result c.remove-above.result.items c.remove-names.result.items c.remove-first.result.items parts
          home_at (mapped (λ v. v.items) c.args.seats.items n c.remove-above.result seat_at) (mapped (λ v. v.items) c.args.nested.items n c.remove-names.result names_at)
          (mapped (λ v. v.items) c.args.placed.items n c.remove-first.result objects_at),
    )

pub loop-number-preserved : goal.loop-number-preserved
loop-number-preserved g c =
    let n = c.loop-number.number in
    let lt = c.loop-number-test.true in
    let all = c.args.config.trustees in
    record {
      homes = rest_is c.args.homes.items c.loop-number.homes.items c.remove-home.new.self.items n c.loop-number.invariant.homes c.remove-home.ensures.by_index.2;
      seats = rest_is c.args.seats.items c.loop-number.seats.items c.remove-above.new.self.items n c.loop-number.invariant.seats c.remove-above.ensures.by_index.2;
      nested = rest_is c.args.nested.items c.loop-number.nested.items c.remove-names.new.self.items n c.loop-number.invariant.nested c.remove-names.ensures.by_index.2;
      placed = rest_is c.args.placed.items c.loop-number.placed.items c.remove-first.new.self.items n c.loop-number.invariant.placed c.remove-first.ensures.by_index.2;
      made = λ first parts.
          let home_at = front_is c.args.homes.items c.loop-number.homes.items n c.remove-home.result c.loop-number.invariant.homes
          (some_left c.args.homes.items c.loop-number.homes.items n all c.loop-number.invariant.homes parts.as_many_homes lt) c.remove-home.ensures.value in
          let seat_at = front_is c.args.seats.items c.loop-number.seats.items n c.remove-above.result c.loop-number.invariant.seats
          (some_left c.args.seats.items c.loop-number.seats.items n all c.loop-number.invariant.seats (sym (length-map c.args.seats.items (λ v. v.items)) ∙ parts.as_many_seats) lt)
          c.remove-above.ensures.value in
          let names_at = front_is c.args.nested.items c.loop-number.nested.items n c.remove-names.result c.loop-number.invariant.nested
          (some_left c.args.nested.items c.loop-number.nested.items n all c.loop-number.invariant.nested (sym (length-map c.args.nested.items (λ v. v.items)) ∙ parts.nested_are.as_many) lt)
          c.remove-names.ensures.value in
          let objects_at = front_is c.args.placed.items c.loop-number.placed.items n c.remove-first.result c.loop-number.invariant.placed
          (some_left c.args.placed.items c.loop-number.placed.items n all c.loop-number.invariant.placed (sym (length-map c.args.placed.items (λ v. v.items)) ∙ parts.placed_are.count) lt)
          c.remove-first.ensures.value in
          let seat_map = mapped (λ v. v.items) c.args.seats.items n c.remove-above.result seat_at in
          let part = part_at c.args.config first c.args.homes.items _ _ _ n c.remove-home.result c.remove-above.result.items c.remove-names.result.items c.remove-first.result.items parts
          home_at seat_map (mapped (λ v. v.items) c.args.nested.items n c.remove-names.result names_at)
          (mapped (λ v. v.items) c.args.placed.items n c.remove-first.result objects_at) in
          trustees_more g.S.Entrusted.kind c.args.config first n c.args.homes.items _ c.loop-number.trustees.items c.push.new.self.items c.remove-home.result
          c.remove-above.result.items c.in_ok-trustee_of.field-0 (c.loop-number.invariant.made first parts) home_at seat_map (c.in_ok-trustee_of.ensures first part)
          c.in_ok-push.ensures.items;
    }

pub returns : goal.returns
returns g c first parts =
    let past = c.loop-number-test.false in
    let end = c.loop-number.auto.number-end in
    subst (λ n. AreNewTrustees g.S.Entrusted.kind c.args.config first n c.args.homes.items (map (λ v. v.items) c.args.seats.items) c.loop-number.trustees.items) (omega (arith, past, end))
    (c.loop-number.invariant.made first parts)
