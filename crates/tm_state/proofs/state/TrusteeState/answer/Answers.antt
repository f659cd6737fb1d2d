use Rattle.std.proofs.Common.{◌∙◌}
use Rattle.tm_state.proofs.BatchAnswers.{may_leave, has_answered}
use Rattle.tm_state.proofs.state.TrusteeState.answer.Goals as goal

pub leave-requires : goal.leave-requires
leave-requires g c =
    let may =
    may_leave g.S.Entrusted.kind c.args.place c.args.batch.requests.items c.run_all.new.answers.answers.items c.args.self.now c.run_all.new.self
    c.requires c.run_all.ensures.ran in (
      g.met.S.FitsAnswers.fits,
      (c.room-room.ensures.most, (c.run_all.ensures.gifts ∙ c.new-answers.ensures.gifts, (c.run_all.ensures.completions ∙ c.new-answers.ensures.completions, may))),
    )

pub returns-clause-answered : goal.returns-clause-answered
returns-clause-answered g c =
    has_answered g.S.Entrusted.kind c.args.place c.args.batch.requests.items c.args.batch.room c.room-room.result c.run_all.new.answers.answers.items
    c.leave.new.answers c.args.self.now c.run_all.new.self c.leave.new.self c.room-room.ensures.value c.run_all.ensures.ran c.leave.ensures.left
    c.leave.ensures.answers

pub returns-clause-launched : goal.returns-clause-launched
returns-clause-launched g c = rw c.leave.ensures.launched c.run_all.ensures.launched
