use Rattle.tm_client.proofs.Living as proof
use Rattle.tm_client.proofs.laws.answers_are_of_entries.Goals as goal

pub returns : goal.returns
returns g c = proof.answers_are_of_entries g.S.Entrusted.kind
