use Rattle.tm_state.proofs.BatchGrows.{grows_none}
use Rattle.tm_state.proofs.RowsKeep.{served_as}
use Rattle.tm_state.proofs.state.TrusteeState.serve.Goals as goal

pub returns-in-Entrust-clause-served : goal.returns-in-Entrust-clause-served
returns-in-Entrust-clause-served g c =
    served_as g.S.Entrusted.kind c.args.place c.entrust.result c.args.self.now c.entrust.new.self c.in-Entrust.is c.entrust.ensures.served

pub returns-in-Apply-clause-served : goal.returns-in-Apply-clause-served
returns-in-Apply-clause-served g c =
    served_as g.S.Entrusted.kind c.args.place c.apply.result c.args.self.now c.apply.new.self c.in-Apply.is c.apply.ensures.served

pub returns-in-Launch-clause-served : goal.returns-in-Launch-clause-served
returns-in-Launch-clause-served g c =
    served_as g.S.Entrusted.kind c.args.place c.launch.result c.args.self.now c.launch.new.self c.in-Launch.is c.launch.ensures.served

pub returns-in-Grant-clause-served : goal.returns-in-Grant-clause-served
returns-in-Grant-clause-served g c =
    served_as g.S.Entrusted.kind c.args.place c.grant.result c.args.self.now c.grant.new.self c.in-Grant.is c.grant.ensures.served

pub returns-in-Release-clause-served : goal.returns-in-Release-clause-served
returns-in-Release-clause-served g c =
    served_as g.S.Entrusted.kind c.args.place c.release.result c.args.self.now c.release.new.self c.in-Release.is c.release.ensures.served

pub returns-in-Reclaim-clause-served : goal.returns-in-Reclaim-clause-served
returns-in-Reclaim-clause-served g c =
    served_as g.S.Entrusted.kind c.args.place c.reclaim.result c.args.self.now c.reclaim.new.self c.in-Reclaim.is c.reclaim.ensures.served

pub returns-in-Bye-clause-served : goal.returns-in-Bye-clause-served
returns-in-Bye-clause-served g c =
    served_as g.S.Entrusted.kind c.args.place c.close.result c.args.self.now c.close.new.self c.in-Bye.is c.close.ensures.served

pub returns-in-Entrust-clause-launched : goal.returns-in-Entrust-clause-launched
returns-in-Entrust-clause-launched g c = grows_none _ _ c.entrust.ensures.launched

pub returns-in-Apply-clause-launched : goal.returns-in-Apply-clause-launched
returns-in-Apply-clause-launched g c = grows_none _ _ c.apply.ensures.launched

pub returns-in-Grant-clause-launched : goal.returns-in-Grant-clause-launched
returns-in-Grant-clause-launched g c = grows_none _ _ c.grant.ensures.launched

pub returns-in-Release-clause-launched : goal.returns-in-Release-clause-launched
returns-in-Release-clause-launched g c = grows_none _ _ c.release.ensures.launched

pub returns-in-Reclaim-clause-launched : goal.returns-in-Reclaim-clause-launched
returns-in-Reclaim-clause-launched g c = grows_none _ _ c.reclaim.ensures.launched

pub returns-in-Bye-clause-launched : goal.returns-in-Bye-clause-launched
returns-in-Bye-clause-launched g c = grows_none _ _ c.close.ensures.launched
