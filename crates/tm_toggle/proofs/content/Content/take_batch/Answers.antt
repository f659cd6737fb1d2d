use Rattle.std.proofs.Common.{arith}
use Rattle.tm_toggle.proofs.Counting.{still_no_answers, no_more_requests}
use Rattle.tm_toggle.proofs.content.Content.take_batch.Goals as goal

pub returns-clause-requests : goal.returns-clause-requests
returns-clause-requests g c = no_more_requests c.args.self.now c.take_out.new.row c.requires.answers.full c.take_out.ensures.full

pub returns-clause-answers : goal.returns-clause-answers
returns-clause-answers g c = still_no_answers c.args.self.now c.take_out.new.row c.args.self.now.room 0 c.requires.answers c.take_out.ensures.full (omega arith)
