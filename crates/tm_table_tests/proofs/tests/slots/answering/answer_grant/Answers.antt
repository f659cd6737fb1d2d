use Rattle.std.proofs.Common.{◌≡◌, ◌<◌, sym, ◌∙◌, ap, subst, arith}
use Rattle.std.specs.declared.option.Option.TheVariants.{Some}
use Rattle.tm_model.specs.State.{place_count}
use Rattle.tm_table_tests.specs.Sample.{one_granted}
use Rattle.tm_pair.proofs.Handing.{hand_in_range, batch_taken}
use Rattle.tm_table_tests.proofs.tests.slots.answering.answer_grant.Goals as goal

pub reply_granted-requires-clause-hand : goal.reply_granted-requires-clause-hand
reply_granted-requires-clause-hand g c =
    let opening = g.P.PairTable.theory.opening c.args.table.now in
    let old = g.P.PairTable.theory.trustee_view c.args.side.now in
    let new = g.P.PairTable.theory.trustee_view c.see-seen.new.side in
    let good = g.met.P.PairTable.laws.trustee_is_good c.args.table.now c.args.side.now c.requires.mine in
    let lt : 0 < place_count opening.setup = subst (λ s. 0 < place_count s.setup) (sym c.requires.opening) (omega arith) in
    let (b, asks, is) =
    batch_taken _ opening 0 c.see-seen.result (λ b. b.requests.items ≡ one_granted) old new (hand_in_range _ opening 0 old good lt)
    c.see-seen.ensures.sees (c.is_grant-asked.ensures c.if-asked.true) in (b.room, is ∙ ap (λ r. Some (record { requests = r; room = b.room })) asks)
