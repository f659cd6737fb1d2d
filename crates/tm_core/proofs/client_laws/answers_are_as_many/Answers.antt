use Rattle.tm_core.proofs.ClientAnswers as answers
use Rattle.tm_core.proofs.client_laws.answers_are_as_many.Goals as goal

pub returns : goal.returns
returns g c = answers.answers_are_as_many g.S.Entrusted.kind
