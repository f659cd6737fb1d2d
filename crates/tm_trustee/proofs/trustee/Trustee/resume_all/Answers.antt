use Rattle.std.proofs.Common.{refl, sym, subst}
use Rattle.tm_trustee.specs.Tasks.{IsGoingOn, GoesOnWith}
use Rattle.tm_trustee.proofs.TurningResumes as resumes
use Rattle.tm_trustee.proofs.trustee.Trustee.resume_all.Goals as goal

pub resume_lanes-requires : goal.resume_lanes-requires
resume_lanes-requires g c =
    let t = c.args.self.now in
    subst (λ held. IsGoingOn _ _ _ _ g.S.Entrusted.kind t.number held t.since.items t.state t.lanes.items) (sym c.deref.ensures.value)
    (resumes.is_going g.P.PairTable.theory g.S.Entrusted.kind t c.requires.0 c.requires.1)

pub returns-clause-ready : goal.returns-clause-ready
returns-clause-ready g c =
    let t = c.args.self.now in
    let now = c.resume_lanes.new in
    let goes =
    subst (λ held. GoesOnWith g.S.Entrusted.kind t.number held t.since.items now.since.items t.state now.state t.lanes.items now.lanes.items) c.deref.ensures.value
    c.resume_lanes.ensures.goes in
    resumes.is_ready g.P.PairTable.theory g.S.Entrusted.kind t (record t { state = now.state; since = now.since; lanes = now.lanes }) refl goes c.resume_lanes.ensures.told

pub returns-clause-resumed : goal.returns-clause-resumed
returns-clause-resumed g c opening is =
    let t = c.args.self.now in
    let now = c.resume_lanes.new in
    let goes =
    subst (λ held. GoesOnWith g.S.Entrusted.kind t.number held t.since.items now.since.items t.state now.state t.lanes.items now.lanes.items) c.deref.ensures.value
    c.resume_lanes.ensures.goes in (
      c.resume_lanes.ensures.count,
      resumes.all_wait g.P.PairTable.theory g.S.Entrusted.kind t (record t { state = now.state; since = now.since; lanes = now.lanes }) refl goes
          c.resume_lanes.ensures.told opening is c.resume_lanes.ensures.all,
    )
