use Rattle.std.proofs.Common.{◌≡◌, [], length, sym, subst}
use Rattle.std.proofs.lemmas.Option.{slice_get_within}
use Rattle.tm_pair.specs.Plain.{plain_theory}
use Rattle.tm_trustee.proofs.Elements.{read_at, same_element}
use Rattle.tm_asking.specs.Asking.{NoneCounts, AllOpen}
use Rattle.tm_asking.specs.Turning.{IsAtTables}
use Rattle.mc_next.specs.Parts.{store_kind}
use Rattle.mc_next.specs.Clients.{AreStoreTrusts}
use Rattle.mc_next.specs.Sessions.{IsSession, seen}
use Rattle.mc_solo.specs.Serving.{store_view}
use Rattle.mc_solo.proofs.Marking.{marks_none}
use Rattle.mc_solo.proofs.Standing.{home_of}
use Rattle.mc_solo.proofs.serving.begin.Goals as goal

pub sessions_begin-requires-clause-home : goal.sessions_begin-requires-clause-home
sessions_begin-requires-clause-home c =
    let turns = c.args.turns.now in
    let may = c.requires.may in
    let (openings, home) = home_of c.args.place turns may.client c.args.trusts.now c.requires.are may.of_client may.are_trusts in
    let at = read_at turns.clients.items c.args.place c.index.result.now (slice_get_within turns.clients.items c.args.place may.client may.of_client) c.index.ensures in
    let is = same_element turns.clients.items c.args.place c.index.result.now may.client at may.of_client in (
      openings,
      subst (λ xs. IsAtTables (plain_theory store_kind) openings xs c.index.result.now.books) (sym c.as_slice.ensures.value)
          (subst (λ x. IsAtTables (plain_theory store_kind) openings turns.tables.items x.books) is home),
    )

pub sessions_begin-requires-clause-none : goal.sessions_begin-requires-clause-none
sessions_begin-requires-clause-none c =
    let turns = c.args.turns.now in
    let may = c.requires.may in
    let at = read_at turns.clients.items c.args.place c.index.result.now (slice_get_within turns.clients.items c.args.place may.client may.of_client) c.index.ensures in
    subst (λ x. NoneCounts x.books) (same_element turns.clients.items c.args.place c.index.result.now may.client at may.of_client) may.none

pub sessions_begin-requires-clause-open : goal.sessions_begin-requires-clause-open
sessions_begin-requires-clause-open c =
    let turns = c.args.turns.now in
    let may = c.requires.may in
    let at = read_at turns.clients.items c.args.place c.index.result.now (slice_get_within turns.clients.items c.args.place may.client may.of_client) c.index.ensures in
    subst (λ x. AllOpen x.books) (same_element turns.clients.items c.args.place c.index.result.now may.client at may.of_client) may.all_open

pub returns : goal.returns
returns c = λ s client left readings written limit of of_client.
    let turns = c.args.turns.now in
    let may = c.requires.may in
    let at = read_at turns.clients.items c.args.place c.index.result.now (slice_get_within turns.clients.items c.args.place may.client may.of_client) c.index.ensures in
    let read : c.index.result.now ≡ client = same_element turns.clients.items c.args.place client c.index.result.now of_client at in
    let was : may.client ≡ client = same_element turns.clients.items c.args.place client may.client of_client may.of_client in record {
      are = c.requires.are;
      client = client;
      of_client = of_client;
      are_trusts = subst (λ x. AreStoreTrusts (length turns.tables.items) x.books c.args.trusts.now) was may.are_trusts;
      all_open = subst (λ x. AllOpen x.books) was may.all_open;
      is_of = of;
      marks = [];
      marked = marks_none c.args.place turns;
      holds =
          subst (λ x. IsSession store_view s [] c.args.session.now (seen store_view x.books left readings written) (seen store_view x.books left readings written) x.books) read
          (c.sessions_begin.ensures s left readings written limit);
    }
