use Rattle.tm_objects.proofs.Alike as alike
use Rattle.tm_objects.proofs.laws.sends_alike.Goals as goal

pub returns : goal.returns
returns g c = record {
  sent = alike.sends_alike g.row.S.Denot g.row.S-Op.Denot g.row.S-Reply.Denot g.row.S-Task.Denot;
  none = alike.takes_none g.row.S.Denot;
  one_more = alike.takes_one_more g.row.S.Denot;
}
