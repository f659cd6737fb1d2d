use Rattle.std.proofs.Common.{◌++◌, take, sym, ◌∙◌, ap, append-nil}
use Rattle.tm_trustee.proofs.AboveBye.{on_ok}
use Rattle.tm_trustee.proofs.Fronts.{one_front, no_front}
use Rattle.tm_trustee.proofs.lane.take_one.Goals as goal

pub returns-in_default-clause-requests : goal.returns-in_default-clause-requests
returns-in_default-clause-requests g c =
    let none = no_front c.args.waits.now.items c.in_default.ensures.value in
    sym (ap (λ l. c.args.batch.now.requests.items ++ take 1 l) none ∙ append-nil c.args.batch.now.requests.items)

pub returns-clause-requests : goal.returns-clause-requests
returns-clause-requests g c =
    on_ok c.push.result (c.push.ensures.free.1 c.requires) c.push.ensures.ok
    ∙ ap (λ l. c.args.batch.now.requests.items ++ l) (sym (one_front c.args.waits.now.items c.in-Some.request c.in-Some.ensures.value))
