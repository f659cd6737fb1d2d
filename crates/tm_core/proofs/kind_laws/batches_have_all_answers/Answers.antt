use Rattle.tm_core.proofs.AllAnswers as answers
use Rattle.tm_core.proofs.kind_laws.batches_have_all_answers.Goals as goal

pub returns : goal.returns
returns g c = answers.batches_have_all_answers g.S.Entrusted.kind
