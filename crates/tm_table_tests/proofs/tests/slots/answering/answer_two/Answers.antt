use Rattle.std.proofs.Common.{◌≡◌, ◌<◌, sym, ◌∙◌, ap, subst, arith}
use Rattle.std.specs.declared.option.Option.TheVariants.{Some}
use Rattle.tm_model.specs.State.{place_count}
use Rattle.tm_table_tests.specs.Sample.{two_asked}
use Rattle.tm_pair.proofs.Handing.{hand_in_range, batch_taken}
use Rattle.tm_table_tests.proofs.tests.slots.answering.answer_two.Goals as goal

pub reply_twice-requires-clause-hand : goal.reply_twice-requires-clause-hand
reply_twice-requires-clause-hand g c =
    let opening = g.P.PairTable.theory.opening c.args.table.now in
    let old = g.P.PairTable.theory.trustee_view c.args.side.now in
    let new = g.P.PairTable.theory.trustee_view c.see-seen.new.side in
    let good = g.met.P.PairTable.laws.trustee_is_good c.args.table.now c.args.side.now c.requires.mine in
    let lt : 0 < place_count opening.setup = subst (λ s. 0 < place_count s.setup) (sym c.requires.opening) (omega arith) in
    let (b, asks, is) =
    batch_taken _ opening 0 c.see-seen.result (λ b. b.requests.items ≡ two_asked) old new (hand_in_range _ opening 0 old good lt)
    c.see-seen.ensures.sees (c.are_two-asked.ensures c.if-asked.true) in (b.room, is ∙ ap (λ r. Some (record { requests = r; room = b.room })) asks)
