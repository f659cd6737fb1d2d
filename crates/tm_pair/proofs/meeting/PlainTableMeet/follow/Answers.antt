use Rattle.tm_pair.proofs.Telling.{side_follows}
use Rattle.tm_pair.proofs.meeting.PlainTableMeet.follow.Goals as goal

pub returns-clause-ok : goal.returns-clause-ok
returns-clause-ok g c =
    side_follows g.S.Entrusted.kind c.args.self.now c.args.home.now c.args.side.now c.requires.home c.requires.side
