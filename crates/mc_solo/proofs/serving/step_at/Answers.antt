use Rattle.std.proofs.Common.{length, sym, subst}
use Rattle.tm_pair.specs.Plain.{plain_theory}
use Rattle.tm_asking.specs.declared.turning.Turned.TheVariants.{Pending}
use Rattle.tm_asking.specs.Turning.{TurnsBelow}
use Rattle.mc_next.specs.Parts.{store_kind}
use Rattle.mc_next.specs.Sessions.{IsOf}
use Rattle.mc_next.specs.Steps.{HasAdvanced, AsksOrTurns}
use Rattle.mc_solo.proofs.Standing.{entered, entered_home, entered_session, stepped_keeps, stepped_others, stepped_stands, has_gone_on, has_waited}
use Rattle.mc_solo.proofs.serving.step_at.Goals as goal

pub step-requires-clause-home : goal.step-requires-clause-home
step-requires-clause-home g c =
    let (s, first, start, d) = c.requires.stands in
    entered_home s first start c.args.place c.args.trusts.now c.args.session.now c.args.turns.now _ _ _ d c.index_mut-client.result.now c.index_mut-client.ensures.value
    c.as_mut_slice.result.now c.as_mut_slice.ensures.value

pub step-requires-clause-session : goal.step-requires-clause-session
step-requires-clause-session g c =
    let (s, first, start, d) = c.requires.stands in
    let (of, is) = entered_session s first start c.args.place c.args.trusts.now c.args.session.now c.args.turns.now _ _ _ d c.index_mut-client.result.now
    c.index_mut-client.ensures.value c.as_mut_slice.result.now c.as_mut_slice.ensures.value in (s, d.marks, first, of, is)

pub returns-clause-keeps : goal.returns-clause-keeps
returns-clause-keeps g c =
    let (s, first, start, d) = c.requires.stands in
    let turns = c.args.turns.now in
    let client = c.index_mut-client.result.now in
    let new = c.step.new.client in
    (stepped_keeps c.args.place turns d.are client new
    (entered s first start c.args.place c.args.trusts.now c.args.session.now turns _ _ _ d client c.index_mut-client.ensures.value) c.step.new.tables
    c.calls_keep.ensures c.deeds_keep.ensures c.driving_ends.ensures
    (subst (λ xs. AsksOrTurns (plain_theory store_kind) xs client.books c.step.new.tables new.books) c.as_mut_slice.ensures.value c.step.ensures.turns)).0

pub returns-clause-others : goal.returns-clause-others
returns-clause-others g c =
    let (s, first, start, d) = c.requires.stands in
    let turns = c.args.turns.now in
    let client = c.index_mut-client.result.now in
    let new = c.step.new.client in
    stepped_others c.args.place turns d.are client new
    (entered s first start c.args.place c.args.trusts.now c.args.session.now turns _ _ _ d client c.index_mut-client.ensures.value) c.step.new.tables
    c.calls_keep.ensures c.deeds_keep.ensures c.driving_ends.ensures
    (subst (λ xs. AsksOrTurns (plain_theory store_kind) xs client.books c.step.new.tables new.books) c.as_mut_slice.ensures.value c.step.ensures.turns)

pub returns-clause-stands : goal.returns-clause-stands
returns-clause-stands g c = λ s first start d.
    let turns = c.args.turns.now in
    let client = c.index_mut-client.result.now in
    let new = c.step.new.client in
    let same = c.as_mut_slice.ensures.value in
    stepped_stands c.args.place turns d.are client new
    (entered s first start c.args.place c.args.trusts.now c.args.session.now turns _ _ _ d client c.index_mut-client.ensures.value) c.step.new.tables
    c.calls_keep.ensures c.deeds_keep.ensures c.driving_ends.ensures
    (subst (λ xs. AsksOrTurns (plain_theory store_kind) xs client.books c.step.new.tables new.books) same c.step.ensures.turns)
    s first start c.args.trusts.now c.args.session.now c.step.new.self _ _ _ _ _ _ d
    (λ of is. c.step.ensures.session s d.marks first (subst (λ xs. IsOf s c.args.trusts.now (length xs)) (sym same) of) is)
    c.step.ensures.keeps c.step.ensures.trusts

pub returns-clause-steps : goal.returns-clause-steps
returns-clause-steps g c =
    let (s, first, start, d) = c.requires.stands in
    let turns = c.args.turns.now in
    let client = c.index_mut-client.result.now in
    let new = c.step.new.client in
    let same = c.as_mut_slice.ensures.value in
    let at = entered s first start c.args.place c.args.trusts.now c.args.session.now turns _ _ _ d client c.index_mut-client.ensures.value in
    let did = subst (λ xs. AsksOrTurns (plain_theory store_kind) xs client.books c.step.new.tables new.books) same c.step.ensures.turns in record {
      moved = λ e.
          has_gone_on c.args.place turns d.are client new at c.step.new.tables c.calls_keep.ensures c.deeds_keep.ensures c.driving_ends.ensures did
          c.args.session.now c.step.new.self
          (subst (λ xs. HasAdvanced (plain_theory store_kind) c.args.session.now c.step.new.self xs client.books c.step.new.tables new.books) same (c.step.ensures.moved e));
      waits = λ e.
          has_waited c.args.place turns d.are client new at c.step.new.tables c.calls_keep.ensures c.deeds_keep.ensures c.driving_ends.ensures did
          c.args.session.now c.step.new.self c.args.trusts.now c.args.source.now c.step.new.source c.args.sink.now c.step.new.sink c.args.clock.now c.step.new.clock
          (c.step.ensures.waits e)
          (subst (λ xs. TurnsBelow (plain_theory store_kind) store_kind (length xs) Pending xs client.books c.step.new.tables new.books) same (c.step.ensures.looks e))
          c.step.ensures.trusts;
    }
