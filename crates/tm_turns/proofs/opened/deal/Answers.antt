use Rattle.std.proofs.Common.{◌∷◌, ◌++◌, [], refl, sym, ◌∙◌, ap, arith, append_assoc}
use Rattle.std.proofs.lemmas.List.{length_push, nil_from_length}
use Rattle.tm_turns.proofs.Dealing.{deal_more, deal_room, deal_all, few_seats}
use Rattle.tm_turns.proofs.opened.deal.Goals as goal

pub index_mut-list-requires : goal.index_mut-list-requires
index_mut-list-requires g c =
    let whole = ap (λ l. c.loop-side.yielded ++ l) (sym c.in-Some.ensures.steps.0) ∙ c.loop-side.invariant.rest in
    let room =
    deal_room c.loop-side.yielded c.args.sides.items c.in-Some.side c.next.new.self.rest.items _ c.loop-side.seats.items (λ l. l.items) c.loop-side.place
    c.loop-side.invariant.place_is whole (few_seats c.args.sides.items c.args.seats.now.items (λ l. l.items) c.requires) c.loop-side.invariant.dealt_is in
    let len = c.loop-side.seats.ok.0 in
    omega (arith, room, len)

pub loop-side-preserved : goal.loop-side-preserved
loop-side-preserved g c =
    let whole = ap (λ l. c.loop-side.yielded ++ l) (sym c.in-Some.ensures.steps.0) ∙ c.loop-side.invariant.rest in
    record {
      dealt_is =
          deal_more c.loop-side.yielded c.in-Some.side _ c.loop-side.seats.items _ c.index_mut-list.result.now c.push.new.self (λ l. l.items) c.loop-side.place
          c.loop-side.invariant.place_is
          (
          deal_room c.loop-side.yielded c.args.sides.items c.in-Some.side c.next.new.self.rest.items _ c.loop-side.seats.items (λ l. l.items) c.loop-side.place
          c.loop-side.invariant.place_is whole (few_seats c.args.sides.items c.args.seats.now.items (λ l. l.items) c.requires) c.loop-side.invariant.dealt_is
          )
          c.index_mut-list.ensures.value c.in_ok-push.ensures.items refl c.loop-side.invariant.dealt_is;
      place_is = let one = length_push c.loop-side.yielded c.in-Some.side in let is = c.loop-side.invariant.place_is in omega (arith, one, is);
      rest = append_assoc c.loop-side.yielded (c.in-Some.side ∷ []) c.next.new.self.rest.items ∙ whole;
    }

pub returns : goal.returns
returns g c =
    let none = c.loop-side.side-iterator.rest.ok.0 in
    let end = c.in-None.ensures.steps.0 in
    deal_all c.loop-side.yielded c.args.sides.items c.loop-side.side-iterator.rest.items _ c.loop-side.seats.items (λ l. l.items)
    (nil_from_length c.loop-side.side-iterator.rest.items (omega (arith, none, end))) c.loop-side.invariant.rest c.loop-side.invariant.dealt_is
