use Rattle.std.proofs.Common.{[], sym, ◌∙◌, subst}
use Rattle.std.specs.Prelude.{IsSomeAnd}
use Rattle.tm_model.specs.Answering.{MayGrow}
use Rattle.tm_pair.proofs.Nothing as nothing
use Rattle.tm_pair.proofs.round.answer_empty.Goals as goal

pub answer-requires : goal.answer-requires
answer-requires g c =
    let kind = g.S.Entrusted.kind in
    let opening = g.P.PairTable.theory.opening c.args.table.now in
    let view = g.P.PairTable.theory.trustee_view c.args.side.now in
    let good = g.met.P.PairTable.laws.trustee_is_good c.args.table.now c.args.side.now c.requires.mine in
    let (room, is) = c.requires.hand in
    let most = (good.in_hand c.args.client _ is).most_gifts in
    let grows =
    nothing.nothing_grows kind opening c.states_are_sound.ensures c.legal_logs_join.ensures c.batches_join.ensures
    c.batches_have_all_answers.ensures view c.args.client room c.new.result good c.requires.in_range most c.requires.waits
    (c.new.ensures.front ∙ c.requires.front) c.new.ensures.answers c.new.ensures.gifts c.new.ensures.completions in (
      g.met.S.FitsAnswers.fits,
      (
        c.requires.mine,
        subst
            (λ o. IsSomeAnd o (λ hand. MayGrow kind opening view.log [] c.args.client hand.requests hand.room c.new.result))
            (sym is) grows,
      ),
    )

pub returns-clause-answers : goal.returns-clause-answers
returns-clause-answers g c = λ room is.
    let opening = g.P.PairTable.theory.opening c.args.table.now in
    let old = g.P.PairTable.theory.trustee_view c.args.side.now in
    let new = g.P.PairTable.theory.trustee_view c.answer.new.side in
    let good = g.met.P.PairTable.laws.trustee_is_good c.args.table.now c.args.side.now c.requires.mine in
    nothing.nothing_answered g.S.Entrusted.kind opening c.args.client room c.new.result old new good c.requires.in_range is c.answer.ensures.answers
