use Rattle.tm_core.proofs.ClientAnswers as answers
use Rattle.tm_core.proofs.client_laws.answers_fit.Goals as goal

pub returns : goal.returns
returns g c = answers.answers_fit g.S.Entrusted.kind
