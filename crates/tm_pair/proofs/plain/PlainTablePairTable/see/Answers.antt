use Rattle.std.proofs.Common.{refl, sym, ◌∙◌, ap, subst}
use Rattle.tm_model.specs.Slots.{slot_of, see}
use Rattle.tm_core.proofs.Accounts.{see_keeps_good}
use Rattle.tm_core.proofs.Promised.{batches_are_promised}
use Rattle.tm_pair.specs.SideViews.{client_of, trustee_of}
use Rattle.tm_pair.specs.Moves.{core_after}
use Rattle.tm_pair.specs.Calls.{Sees}
use Rattle.tm_pair.specs.Plain.{opening_at, core_at}
use Rattle.tm_pair.specs.declared.moves.Move.TheVariants.{See}
use Rattle.tm_pair.proofs.Stepping as stepping
use Rattle.tm_pair.proofs.Calling as calling
use Rattle.tm_pair.proofs.Owing.{opens, is_trustee}
use Rattle.tm_pair.proofs.Tabling as tabling
use Rattle.tm_pair.proofs.plain.PlainTablePairTable.see.Goals as goal

pub returns : goal.returns
returns g c =
    let kind = g.S.Entrusted.kind in
    let table = c.args.self.now in
    let of = c.requires.mine.of_table in
    let at = c.args.client in
    let opening = opening_at table in
    let core = core_at table in
    let was = c.index_mut.result.now in
    let new = c.see-given.new.self in
    let lt = tabling.slot_in_range kind table of at c.requires.in_range in
    let place = tabling.place_in_range kind table of at c.requires.in_range in
    let is = c.index_mut.ensures.value in
    let shown = tabling.slot_shown table.places.items at was new core place is of.shows in
    let step = calling.core_next table.past.items c.seen-self.result.items (See at c.see-given.result) c.seen-self.ensures in
    let again = ap (λ l. core_after l) c.again-side.ensures ∙ step in
    let next = tabling.next_table kind table of at new c.seen-self.result (see at core) step
    (see_keeps_good kind opening core at lt of.good)
    (tabling.see_shown table.places.items at was new core place is of.shows c.see-given.result c.see-given.ensures.gave c.see-given.ensures.words) in
    let finds = tabling.gave_finds was.content new.content c.see-given.result (slot_of core at).box shown.box c.see-given.ensures.gave in
    let sees = stepping.sees kind opening core at c.see-given.result finds
    (λ b room asked. (batches_are_promised kind opening core at b room (opens kind table of) of.good lt).0 asked) in
    record {
      sees =
          subst (λ old. Sees kind opening at c.see-given.result old (trustee_of (core_after c.again-side.result.items))) (sym c.requires.mine.view)
          (subst (λ k. Sees kind opening at c.see-given.result (trustee_of core) (trustee_of k)) (sym again) sees);
      did = record { may = finds; core = step };
      keeps = record {
        same = refl;
        opening = refl;
        mine = is_trustee kind _ next _ (ap (λ l. trustee_of (core_after l)) c.again-side.ensures);
        clients = λ other has. record {
          of_table = next;
          is_good = has.is_good;
          in_range = has.in_range;
          view = has.view ∙ sym (stepping.see_clients core at other.place lt) ∙ ap (λ k. client_of other.place (slot_of k other.place)) (sym step);
        };
      };
    }
