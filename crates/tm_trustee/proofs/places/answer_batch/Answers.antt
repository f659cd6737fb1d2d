use Rattle.std.proofs.Common.{◌++◌}
use Rattle.tm_trustee.proofs.Resuming as resuming
use Rattle.tm_trustee.proofs.places.answer_batch.Goals as goal

pub answer-answers-requires : goal.answer-answers-requires
answer-answers-requires g c =
    let theory = g.P.PairTable.theory in
    let view = theory.trustee_view c.args.side.now in
    let good = g.met.P.PairTable.laws.trustee_is_good c.args.table.now c.args.side.now c.requires.mine in (
      g.met.S.FitsBatches.fits_batch,
      (
        g.met.S.FitsAnswers.fits,
        (
          theory.opening c.args.table.now,
          view.log ++ c.args.since.now.items,
          resuming.in_hand_may_run g.S.Entrusted.kind (theory.opening c.args.table.now) view c.args.since.now.items c.args.state.now c.args.place c.args.batch
              good c.requires.current c.requires.place c.requires.hand,
        ),
      ),
    )

pub answer_behind-requires : goal.answer_behind-requires
answer_behind-requires g c =
    let kind = g.S.Entrusted.kind in
    let theory = g.P.PairTable.theory in
    let opening = theory.opening c.args.table.now in
    let view = theory.trustee_view c.args.side.now in
    let since = c.args.since.now.items in
    let good = g.met.P.PairTable.laws.trustee_is_good c.args.table.now c.args.side.now c.requires.mine in
    let may =
    resuming.in_hand_may_run kind opening view since c.args.state.now c.args.place c.args.batch good c.requires.current c.requires.place c.requires.hand in (
      g.met.S.FitsAnswers.fits,
      (
        c.requires.mine,
        resuming.may_answer kind opening view since c.args.state.now c.answer-answers.new.self c.args.place c.args.batch c.answer-answers.result
            c.requires.current.only c.requires.hand may c.answer-answers.ensures.answered,
      ),
    )

pub returns-clause-replied : goal.returns-clause-replied
returns-clause-replied g c =
    let kind = g.S.Entrusted.kind in
    let theory = g.P.PairTable.theory in
    let opening = theory.opening c.args.table.now in
    let view = theory.trustee_view c.args.side.now in
    let since = c.args.since.now.items in
    let good = g.met.P.PairTable.laws.trustee_is_good c.args.table.now c.args.side.now c.requires.mine in
    let may =
    resuming.in_hand_may_run kind opening view since c.args.state.now c.args.place c.args.batch good c.requires.current c.requires.place c.requires.hand in
    record {
      resumes = since;
      answers = c.answer-answers.result;
      only = c.requires.current.only;
      may = resuming.may_answer kind opening view since c.args.state.now c.answer-answers.new.self c.args.place c.args.batch c.answer-answers.result
          c.requires.current.only c.requires.hand may c.answer-answers.ensures.answered;
      answered = c.answer_behind.ensures.answers;
      did = c.answer_behind.ensures.did;
      keeps = c.answer_behind.ensures.keeps;
    }

pub returns-clause-current : goal.returns-clause-current
returns-clause-current g c =
    let kind = g.S.Entrusted.kind in
    let theory = g.P.PairTable.theory in
    let opening = theory.opening c.args.table.now in
    let view = theory.trustee_view c.args.side.now in
    let since = c.args.since.now.items in
    let good = g.met.P.PairTable.laws.trustee_is_good c.args.table.now c.args.side.now c.requires.mine in
    let may =
    resuming.in_hand_may_run kind opening view since c.args.state.now c.args.place c.args.batch good c.requires.current c.requires.place c.requires.hand in
    resuming.emptied_current kind opening (theory.trustee_view c.answer_behind.new.side).log c.new.result.items c.answer-answers.new.self c.new.ensures
    (resuming.current_behind kind opening view since c.args.state.now c.answer-answers.new.self c.args.place c.args.batch c.answer-answers.result
    c.requires.current.only c.requires.hand may c.answer-answers.ensures.answered (theory.trustee_view c.answer_behind.new.side) c.answer_behind.ensures.answers)

pub returns-clause-goes_on : goal.returns-clause-goes_on
returns-clause-goes_on g c =
    let kind = g.S.Entrusted.kind in
    let theory = g.P.PairTable.theory in
    let opening = theory.opening c.args.table.now in
    let view = theory.trustee_view c.args.side.now in
    let since = c.args.since.now.items in
    let good = g.met.P.PairTable.laws.trustee_is_good c.args.table.now c.args.side.now c.requires.mine in
    let may =
    resuming.in_hand_may_run kind opening view since c.args.state.now c.args.place c.args.batch good c.requires.current c.requires.place c.requires.hand in
    resuming.emptied_goes (view.log ++ since) (theory.trustee_view c.answer_behind.new.side).log c.new.result.items c.new.ensures
    (resuming.goes_behind kind opening view since c.args.state.now c.answer-answers.new.self c.args.place c.args.batch c.answer-answers.result
    c.requires.current.only c.requires.hand may c.answer-answers.ensures.answered (theory.trustee_view c.answer_behind.new.side) c.answer_behind.ensures.answers)
