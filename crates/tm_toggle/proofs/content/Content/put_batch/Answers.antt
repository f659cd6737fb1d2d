use Rattle.tm_toggle.proofs.Counting.{batch_is, still_no_answers}
use Rattle.tm_toggle.proofs.content.Content.put_batch.Goals as goal

pub returns-clause-batch : goal.returns-clause-batch
returns-clause-batch g c = batch_is c.args.self.now c.put.new.row c.args.batch c.len.result c.requires.answers.full c.len.ensures.value c.put.ensures.front

pub returns-clause-answers : goal.returns-clause-answers
returns-clause-answers g c = still_no_answers c.args.self.now c.put.new.row c.args.batch.room c.len.result c.requires.answers c.put.ensures.full c.len.ensures.most
