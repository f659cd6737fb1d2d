use Rattle.std.proofs.Common.{rules, ◌≡◌, ◌+◌, length, refl, subst}
use Rattle.std.specs.Prelude.{slice_get}
use Rattle.std.specs.declared.option.Option.TheVariants.{Some}
use Rattle.tm_trustee.specs.Lanes.{AreNewLanes, AreCounted}
use Rattle.tm_trustee.proofs.BegunServing as begun
use Rattle.tm_trustee.proofs.HeldCounts.{few_names}
use Rattle.tm_trustee.proofs.trustee.Trustee.new.Goals as goal

pub held_by-requires-clause-few : goal.held_by-requires-clause-few
held_by-requires-clause-few g c =
    let (opening, whole, may) = c.requires.begins in
    let lanes = c.in-Ok.lanes.items in
    let many : c.len.result ≡ length c.args.above.items = search rules in
    let made = subst (λ ns. AreNewLanes (c.args.number + 1) c.args.config.objects ns c.len.result lanes) c.deref.ensures.value c.in-Ok.ensures in
    let new = subst (λ n. AreNewLanes (c.args.number + 1) c.args.config.objects c.args.nested.items n lanes) many made in
    λ i lane at.
    few_names opening c.args.number c.args.config whole c.args.first.items c.args.nested.items (length c.args.above.items) may c.args.config.objects lanes new
    i lane (subst (λ l. slice_get l i ≡ Some lane) c.deref-2.ensures.value at)

pub returns-in-Ok-new-clause-begun : goal.returns-in-Ok-new-clause-begun
returns-in-Ok-new-clause-begun g c =
    let lanes = c.in-Ok.lanes.items in
    let many : c.len.result ≡ length c.args.above.items = search rules in
    let made = subst (λ ns. AreNewLanes (c.args.number + 1) c.args.config.objects ns c.len.result lanes) c.deref.ensures.value c.in-Ok.ensures in
    let counted =
    subst (λ l. AreCounted c.args.number l (c.args.number + 1 + length l) c.in-Ok-held_by.held.items) c.deref-2.ensures.value c.in-Ok-held_by.ensures in
    λ opening whole may.
    begun.begins_serving g.P.PairTable.theory g.S.Entrusted.kind opening c.args.config whole c.args.first.items _ refl
    c.new-in-Ok-new.ensures may c.in-Ok-new.ensures.opened c.requires.home c.requires.seats c.len.result many made counted
