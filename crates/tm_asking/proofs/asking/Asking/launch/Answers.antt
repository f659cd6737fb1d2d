use Rattle.std.proofs.Common.{sym}
use Rattle.tm_asking.specs.Asking.{launched}
use Rattle.tm_asking.proofs.Entering.{asking_more, why_full}
use Rattle.tm_asking.proofs.asking.Asking.launch.Goals as goal

pub returns-in-Ok-clause-asks : goal.returns-in-Ok-clause-asks
returns-in-Ok-clause-asks g c = λ missing was asked many is.
    asking_more g.P.PairTable.theory.client_view missing _ was asked c.args.self.now.replies.items c.args.client.now.books c.launch.new.self.books
    (launched c.args.trust.now c.args.task) is tt (sym many) c.requires.left c.in-Ok.ensures.asked

pub returns-in-Err-clause-full : goal.returns-in-Err-clause-full
returns-in-Err-clause-full g c = why_full c.args.client.now.books c.args.trust.now c.in-Err.refused.why c.requires.may c.in-Err.ensures.why
