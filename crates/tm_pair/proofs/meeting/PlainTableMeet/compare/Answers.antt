use Rattle.tm_pair.proofs.Telling.{clients_meet}
use Rattle.tm_pair.proofs.meeting.PlainTableMeet.compare.Goals as goal

pub returns-clause-ok : goal.returns-clause-ok
returns-clause-ok g c =
    clients_meet g.S.Entrusted.kind c.args.self.now c.args.one.now c.args.other.now c.requires.one c.requires.other
