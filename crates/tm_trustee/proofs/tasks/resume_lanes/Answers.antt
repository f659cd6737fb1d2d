use Rattle.std.proofs.Common.{◌≡◌, ◌++◌, ◌∙◌, ap, sym, subst, arith}
use Rattle.tm_trustee.specs.Tasks.{AreGoing}
use Rattle.tm_trustee.proofs.GoingLoops.{made_twice}
use Rattle.tm_trustee.proofs.tasks.resume_lanes.Goals as goal

pub begin_all-requires-clause-going : goal.begin_all-requires-clause-going
begin_all-requires-clause-going g c =
    let (opening, log, ups, are) = c.requires in
    let same : c.replace.result.items ≡ c.args.since.now.items = ap (λ l. l.items) c.replace.ensures.value in (
      opening,
      log,
      ups,
      c.tell_all.ensures.goes opening log ups
          (subst (λ l. AreGoing g.S.Entrusted.kind opening log ups c.args.number c.args.held.now l c.args.state.now c.args.lanes.now.items) (sym same) are),
    )

pub returns-clause-goes : goal.returns-clause-goes
returns-clause-goes g c = λ opening log ups are.
    let same : c.replace.result.items ≡ c.args.since.now.items = ap (λ l. l.items) c.replace.ensures.value in
    c.begin_all.ensures.goes opening log ups
    (c.tell_all.ensures.goes opening log ups
    (subst (λ l. AreGoing g.S.Entrusted.kind opening log ups c.args.number c.args.held.now l c.args.state.now c.args.lanes.now.items) (sym same) are))

pub returns-clause-count : goal.returns-clause-count
returns-clause-count g c =
    let same : c.replace.result.items ≡ c.args.since.now.items = ap (λ l. l.items) c.replace.ensures.value in
    let (es, only, entries, count) =
    made_twice (record { entries = c.replace.result; count = 0 }) c.tell_all.new.made c.begin_all.new.made c.tell_all.ensures.made c.begin_all.ensures.made in
    let all = count (omega arith) in
    (es, entries ∙ ap (λ l. l ++ es) same, only, omega (arith, all))
