use Rattle.tm_toggle.proofs.Carrying.{carries_client, carries_trustee}
use Rattle.tm_toggle.proofs.laws.handles_share_sides.Goals as goal

pub returns-clause-clients : goal.returns-clause-clients
returns-clause-clients g c = λ a b side same has. carries_client g.S.Entrusted.kind a b same side has

pub returns-clause-trustee : goal.returns-clause-trustee
returns-clause-trustee g c = λ a b side same has. carries_trustee g.S.Entrusted.kind a b same side has
