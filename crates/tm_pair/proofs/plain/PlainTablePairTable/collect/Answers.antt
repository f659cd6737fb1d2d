use Rattle.std.proofs.Common.{◌≡◌, ◌≢◌, true, false, refl, sym, ◌∙◌, ap, subst}
use Rattle.std.specs.Vec.{with_item}
use Rattle.tm_model.specs.Slots.{slot_of, collect}
use Rattle.tm_core.proofs.Accounts.{collect_keeps_good}
use Rattle.tm_pair.specs.SideViews.{batch_out, client_of, trustee_of}
use Rattle.tm_pair.specs.Moves.{core_after, answers_found}
use Rattle.tm_pair.specs.Calls.{Collects}
use Rattle.tm_pair.specs.Plain.{opening_at, core_at, HasDone}
use Rattle.tm_pair.specs.declared.place.Content.TheVariants.{Empty as Free}
use Rattle.tm_pair.specs.declared.moves.Move.TheVariants.{Collect}
use Rattle.tm_pair.proofs.Stepping as stepping
use Rattle.tm_pair.proofs.Calling as calling
use Rattle.tm_pair.proofs.Owing.{is_client}
use Rattle.tm_pair.proofs.Tabling as tabling
use Rattle.tm_pair.proofs.plain.PlainTablePairTable.collect.Goals as goal

pub returns-then-is_free : goal.returns-then-is_free
returns-then-is_free g c =
    let kind = g.S.Entrusted.kind in
    let table = c.args.self.now in
    let mine = c.requires.mine in
    let of = mine.of_table in
    let at = c.args.side.now.place in
    let opening = opening_at table in
    let core = core_at table in
    let lt = tabling.slot_in_range kind table of at mine.in_range in
    let place = tabling.place_in_range kind table of at mine.in_range in
    let box = (slot_of core at).box in
    let first = c.index.result.now in
    let looks = tabling.slot_shown table.places.items at first first core place c.index.ensures of.shows in
    let empty = tabling.free_is_empty first.content box looks.box (c.is_free.ensures.0 c.if-is_free.true) in
    record {
      collects = record { out = ap (λ v. v.out) mine.view ∙ ap (λ b. batch_out b (slot_of core at).sent) empty; kept = refl };
      did = refl;
      keeps = record { same = refl; opening = refl; mine = mine; clients = λ other ne has. has; trustee = λ other has. has };
    }

pub returns : goal.returns
returns g c =
    let kind = g.S.Entrusted.kind in
    let table = c.args.self.now in
    let mine = c.requires.mine in
    let of = mine.of_table in
    let at = c.args.side.now.place in
    let opening = opening_at table in
    let core = core_at table in
    let lt = tabling.slot_in_range kind table of at mine.in_range in
    let place = tabling.place_in_range kind table of at mine.in_range in
    let box = (slot_of core at).box in
    let first = c.index.result.now in
    let looks = tabling.slot_shown table.places.items at first first core place c.index.ensures of.shows in
    let was = c.index_mut.result.now in
    let new = c.collect-found.new.self in
    let is = c.index_mut.ensures.value in
    let shown = tabling.slot_shown table.places.items at was new core place is of.shows in
    let busy : was.content ≢ Free = λ e.
    let no : false ≡ true =
    sym c.if-is_free.false
    ∙ c.is_free.ensures.1 (tabling.empty_is_free first.content box looks.box (tabling.free_is_empty was.content box shown.box e)) in absurd cc in
    let step = calling.core_next table.past.items c.collected-self.result.items (Collect at (answers_found c.collect-found.result)) c.collected-self.ensures in
    let again = ap (λ l. core_after l) c.again-side.ensures ∙ step in
    let next = tabling.next_table kind table of at new c.collected-self.result (collect at core) step (collect_keeps_good kind opening core at lt of.good)
    (tabling.collect_shown table.places.items at was new core place is of.shows c.collect-found.result c.collect-found.ensures.found c.collect-found.ensures.words) in
    let looks = tabling.found_looks was.content new.content c.collect-found.result box busy shown.box c.collect-found.ensures.found in
    let collects = stepping.collects opening core at c.collect-found.result lt looks (of.good.accounts at lt).out in
    record {
      collects =
          subst (λ old. Collects old (client_of at (slot_of (core_after c.again-side.result.items) at)) c.collect-found.result) (sym mine.view)
          (subst (λ k. Collects (client_of at (slot_of core at)) (client_of at (slot_of k at)) c.collect-found.result) (sym again) collects);
      did = calling.looked_on c.collect-found.result box _ (λ found. HasDone (Collect at found) table (record table { places = with_item table.places at new; past = c.collected-self.result })) looks
          (record { may = looks.2; core = step });
      keeps = record {
        same = refl;
        opening = refl;
        mine = is_client kind _ next _ mine.in_range (ap (λ l. client_of at (slot_of (core_after l) at)) c.again-side.ensures);
        clients = λ other ne has. record {
          of_table = next;
          is_good = has.is_good;
          in_range = has.in_range;
          view = has.view ∙ sym (ap (λ s. client_of other.place s) (stepping.other_slot core at other.place (stepping.looked_at (slot_of core at)) ne))
              ∙ ap (λ k. client_of other.place (slot_of k other.place)) (sym step);
        };
        trustee = λ other has. record {
          of_table = next;
          is_good = has.is_good;
          view = has.view ∙ sym (stepping.collect_trustee core at) ∙ ap (λ k. trustee_of k) (sym step);
        };
      };
    }
