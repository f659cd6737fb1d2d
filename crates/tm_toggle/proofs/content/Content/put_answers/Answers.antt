use Rattle.std.proofs.Common.{refl}
use Rattle.tm_toggle.proofs.Counting.{answers_are, still_no_requests}
use Rattle.tm_toggle.proofs.content.Content.put_answers.Goals as goal

pub returns-clause-answers : goal.returns-clause-answers
returns-clause-answers g c =
    answers_are c.args.self.now c.args.answers.front c.put.new.row c.put-2.new.row c.put-3.new.row c.len.result c.len-2.result c.len-3.result c.args.answers
    c.requires.requests.full refl c.len.ensures.value c.len-2.ensures.value c.len-3.ensures.value c.put.ensures.front c.put-2.ensures.front c.put-3.ensures.front

pub returns-clause-requests : goal.returns-clause-requests
returns-clause-requests g c =
    still_no_requests c.args.self.now c.args.answers.front c.put.new.row c.put-2.new.row c.put-3.new.row c.len.result c.len-2.result c.len-3.result
    c.requires.requests c.put.ensures.full c.put-2.ensures.full c.put-3.ensures.full c.len.ensures.fits c.len-2.ensures.fits c.len-3.ensures.fits
