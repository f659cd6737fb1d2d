use Rattle.std.proofs.Common.{◌<◌, length, arith}
use Rattle.std.proofs.lemmas.List.{length-map}
use Rattle.tm_trustee.proofs.Elements.{mapped, read_at}
use Rattle.tm_task_tests.proofs.Begun.{begun_plays}
use Rattle.tm_task_tests.proofs.tests.start.start.Goals as goal

pub remove-requires : goal.remove-requires
remove-requires c =
    let (config, first, one, two, built) = c.in_ok-turns.ensures in
    let many = built.as_many in
    let same = length-map c.in_ok-turns.trusts.items (λ l. l.items) in
    omega (arith, many, same, one)

pub returns : goal.returns
returns c =
    let (config, first, one, two, built) = c.in_ok-turns.ensures in
    let many = built.as_many in
    let trusts = c.in_ok-turns.trusts.items in
    let same = length-map trusts (λ l. l.items) in
    let some : 0 < length trusts = omega (arith, many, same, one) in
    let at = mapped (λ l. l.items) trusts 0 c.remove.result (read_at trusts 0 c.remove.result some c.remove.ensures.value) in
    begun_plays config first c.in_ok-turns.turns _ built c.remove.result.items _ c.in_ok-tasks.tasks one two at c.in_ok-tasks.ensures.begun
    c.in_ok-tasks.ensures.tasks
