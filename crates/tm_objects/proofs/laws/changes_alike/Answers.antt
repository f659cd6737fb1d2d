use Rattle.tm_objects.proofs.Alike as alike
use Rattle.tm_objects.proofs.laws.changes_alike.Goals as goal

pub returns : goal.returns
returns g c = alike.changes_alike g.row.S.Denot g.row.S-Op.Denot g.row.S-Reply.Denot g.row.S-Task.Denot
