use Rattle.std.proofs.Common.{rules, refl, sym, ◌∙◌, ap, subst}
use Rattle.tm_model.specs.Slots.{slot_of, publish, published}
use Rattle.tm_model.specs.Orderly.{IsOrderly}
use Rattle.tm_core.proofs.Accounts.{publish_keeps_good}
use Rattle.tm_pair.specs.SideViews.{batch_out, client_of, trustee_of}
use Rattle.tm_pair.specs.Moves.{core_after}
use Rattle.tm_pair.specs.Calls.{Publishes}
use Rattle.tm_pair.specs.Plain.{opening_at, core_at}
use Rattle.tm_pair.specs.declared.moves.Move.TheVariants.{Publish}
use Rattle.tm_pair.proofs.Stepping as stepping
use Rattle.tm_pair.proofs.Calling as calling
use Rattle.tm_pair.proofs.Owing.{is_client}
use Rattle.tm_pair.proofs.Tabling as tabling
use Rattle.tm_pair.proofs.plain.PlainTablePairTable.publish.Goals as goal

pub publish-requires : goal.publish-requires
publish-requires g c = (g.met.S.FitsTable.fits_place, search rules)

pub returns-then-not-is_free : goal.returns-then-not-is_free
returns-then-not-is_free g c =
    let kind = g.S.Entrusted.kind in
    let table = c.args.self.now in
    let mine = c.requires.mine in
    let of = mine.of_table in
    let at = c.args.side.now.place in
    let opening = opening_at table in
    let core = core_at table in
    let lt = tabling.slot_in_range kind table of at mine.in_range in
    let place = tabling.place_in_range kind table of at mine.in_range in
    let box = (slot_of core at).box in
    let first = c.index.result.now in
    let looks = tabling.slot_shown table.places.items at first first core place c.index.ensures of.shows in
    record {
      free = (
        λ e. absurd cc,
        λ e.
            let empty = calling.nothing_out box (slot_of core at).sent (sym (ap (λ v. v.out) mine.view) ∙ e) in
            sym c.if-not-is_free.true ∙ c.is_free.ensures.1 (tabling.empty_is_free first.content box looks.box empty),
      );
      ok = tt;
      err = refl;
      back = refl;
      did = tt;
      stays = refl;
      keeps = record { same = refl; opening = refl; mine = mine; clients = λ other ne has. has; trustee = λ other has. has };
    }

pub returns : goal.returns
returns g c =
    let kind = g.S.Entrusted.kind in
    let table = c.args.self.now in
    let mine = c.requires.mine in
    let of = mine.of_table in
    let at = c.args.side.now.place in
    let opening = opening_at table in
    let core = core_at table in
    let lt = tabling.slot_in_range kind table of at mine.in_range in
    let place = tabling.place_in_range kind table of at mine.in_range in
    let box = (slot_of core at).box in
    let first = c.index.result.now in
    let looks = tabling.slot_shown table.places.items at first first core place c.index.ensures of.shows in
    let b = c.args.batch in
    let was = c.index_mut.result.now in
    let new = c.publish.new.self in
    let empty = tabling.free_is_empty first.content box looks.box (c.is_free.ensures.0 c.if-not-is_free.false) in
    let none = ap (λ v. v.out) mine.view ∙ ap (λ x. batch_out x (slot_of core at).sent) empty in
    let step = calling.core_next table.past.items c.published-self.result.items (Publish at b) c.published-self.ensures in
    let again = ap (λ l. core_after l) c.again-side.ensures ∙ step in
    let next = tabling.next_table kind table of at new c.published-self.result (publish at b.requests.items b.room core) step
    (publish_keeps_good kind opening core at b.requests.items b.room
    (record { in_range = lt; is_empty = empty; most = c.is_bounded.ensures.requests; most_gifts = c.is_bounded.ensures.room })
    (subst (λ v. IsOrderly opening v.place v.sent v.got b.requests.items) mine.view (c.requires.orderly none)) of.good)
    (tabling.publish_shown table.places.items at was new core place c.index_mut.ensures.value of.shows b c.publish.ensures.request
    c.publish.ensures.response c.publish.ensures.content) in
    record {
      free = (λ e. none, λ e. refl);
      ok =
          subst (λ old. Publishes b.requests.items b.room old (client_of at (slot_of (core_after c.again-side.result.items) at))) (sym mine.view)
          (subst (λ k. Publishes b.requests.items b.room (client_of at (slot_of core at)) (client_of at (slot_of k at))) (sym again)
          (stepping.publishes core at b.requests.items b.room lt));
      err = tt;
      back = tt;
      did = record { may = empty; core = step };
      stays = tt;
      keeps = record {
        same = refl;
        opening = refl;
        mine = is_client kind _ next _ mine.in_range (ap (λ l. client_of at (slot_of (core_after l) at)) c.again-side.ensures);
        clients = λ other ne has. record {
          of_table = next;
          is_good = has.is_good;
          in_range = has.in_range;
          view = has.view ∙ sym (ap (λ s. client_of other.place s) (stepping.other_slot core at other.place (published b.requests.items b.room (slot_of core at)) ne))
              ∙ ap (λ k. client_of other.place (slot_of k other.place)) (sym step);
        };
        trustee = λ other has. record {
          of_table = next;
          is_good = has.is_good;
          view = has.view ∙ sym (stepping.publish_trustee core at b.requests.items b.room empty) ∙ ap (λ k. trustee_of k) (sym step);
        };
      };
    }
