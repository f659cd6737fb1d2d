use Rattle.std.proofs.Common.{◌≡◌, ◌<◌, refl, sym, ◌∙◌, ap, subst}
use Rattle.tm_model.specs.Legal.{IsLegal}
use Rattle.tm_model.specs.Slots.{Taken, slot_of}
use Rattle.tm_model.specs.GoodSlots.{Agrees}
use Rattle.tm_model.specs.Good.{FullBox}
use Rattle.tm_model.specs.Ran.{mark_of, ran}
use Rattle.tm_model.specs.Batches.{batches}
use Rattle.tm_model.specs.Answering.{answer_with}
use Rattle.tm_core.proofs.LogTallied.{answer_keeps_good}
use Rattle.tm_pair.specs.SideViews.{client_of, trustee_of}
use Rattle.tm_pair.specs.Moves.{answer_of, core_after}
use Rattle.tm_pair.specs.Calls.{HasAnswered}
use Rattle.tm_pair.specs.Plain.{opening_at, core_at, trustee_at}
use Rattle.tm_pair.proofs.Stepping as stepping
use Rattle.tm_pair.proofs.Calling as calling
use Rattle.tm_pair.proofs.Owing.{opens, is_trustee}
use Rattle.tm_pair.proofs.Tabling as tabling
use Rattle.tm_pair.proofs.plain.PlainTablePairTable.answer.Goals as goal

pub index_mut-requires : goal.index_mut-requires
index_mut-requires g c =
    let kind = g.S.Entrusted.kind in
    let table = c.args.self.now in
    let of = c.requires.mine.of_table in
    let (hand, is, there, lt, taken, grows) =
    calling.may_be_answered kind (opening_at table) (core_at table) (trustee_at c.args.side.now) c.args.client g.E.Since.resumes c.args.answers
    c.requires.mine.view c.requires.may in
    subst (λ n. c.args.client < n) (sym c.args.self.now.places.ok.0) (subst (λ n. c.args.client < n) of.shows.count lt)

pub answer-requires : goal.answer-requires
answer-requires g c =
    let kind = g.S.Entrusted.kind in
    let table = c.args.self.now in
    let of = c.requires.mine.of_table in
    let core = core_at table in
    let at = c.args.client in
    let (hand, is, there, lt, taken, grows) =
    calling.may_be_answered kind (opening_at table) core (trustee_at c.args.side.now) at g.E.Since.resumes c.args.answers
    c.requires.mine.view c.requires.may in
    let was = c.index_mut.result.now in
    let shown = tabling.slot_shown table.places.items at was was core (subst (λ n. at < n) of.shows.count lt) c.index_mut.ensures.value of.shows in
    (g.met.S.FitsTable.fits_place, (g.met.S.FitsAnswers.fits, tabling.taken_in_hand was.content (slot_of core at).box hand.requests hand.room shown.box taken))

pub returns : goal.returns
returns g c =
    let kind = g.S.Entrusted.kind in
    let table = c.args.self.now in
    let of = c.requires.mine.of_table in
    let at = c.args.client in
    let opening = opening_at table in
    let core = core_at table in
    let view = trustee_at c.args.side.now in
    let resumes = g.E.Since.resumes in
    let a = c.args.answers in
    let (hand, is, there, lt, taken, grows) = calling.may_be_answered kind opening core view at resumes a c.requires.mine.view c.requires.may in
    let after = answer_with at hand.requests hand.room resumes a core in
    let was = c.index_mut.result.now in
    let new = c.answer.new.self in
    let place = subst (λ n. at < n) of.shows.count lt in
    let agrees : Agrees mark_of (batches kind opening) (IsLegal kind opening) (Taken hand.requests hand.room) (slot_of core at) at core.log =
    subst (λ (box : FullBox _ _ _ _). Agrees mark_of (batches kind opening) (IsLegal kind opening) box (slot_of core at) at core.log) taken
    (of.good.slots.slots at lt).agrees in
    let step : core_after c.answered-self.result.items ≡ answer_with at hand.requests hand.room resumes a core =
    calling.core_next table.past.items c.answered-self.result.items (answer_of at resumes a) c.answered-self.ensures
    ∙ calling.answer_is (slot_of core at).box at hand.requests hand.room resumes a core taken in
    let again = ap (λ l. core_after l) c.again-side.ensures ∙ step in
    let next = tabling.next_table kind table of at new c.answered-self.result after step
    (answer_keeps_good kind opening core at hand.requests hand.room resumes a (opens kind table of)
    (record { in_range = lt; is_taken = taken; grows = grows }) of.good)
    (tabling.answer_shown table.places.items at was new core place c.index_mut.ensures.value of.shows hand.requests hand.room resumes a
    c.answer.ensures.request c.answer.ensures.response c.answer.ensures.content) in
    record {
      answers =
          subst (λ old. HasAnswered at resumes a old (trustee_of (core_after c.again-side.result.items))) (sym c.requires.mine.view)
          (subst (λ k. HasAnswered at resumes a (trustee_of core) (trustee_of k)) (sym again) (stepping.answers core at hand resumes a there));
      did = record {
        may = (hand.requests, hand.room, taken);
        core = calling.core_next table.past.items c.answered-self.result.items (answer_of at resumes a) c.answered-self.ensures;
      };
      keeps = record {
        same = refl;
        opening = refl;
        mine = is_trustee kind _ next _ (ap (λ l. trustee_of (core_after l)) c.again-side.ensures);
        clients = λ other has. record {
          of_table = next;
          is_good = has.is_good;
          in_range = has.in_range;
          view = has.view ∙ sym (stepping.answer_clients core at (ran at core.log) hand.requests hand.room resumes a other.place lt taken agrees.1 grows.as_many)
              ∙ ap (λ k. client_of other.place (slot_of k other.place)) (sym step);
        };
      };
    }
