use Rattle.std.proofs.Common.{lit<, refl}
use Rattle.tm_table_tests.proofs.Sampling.{two_grow}
use Rattle.tm_table_tests.proofs.tests.slots.answering.reply_twice.Goals as goal

pub answer-requires : goal.answer-requires
answer-requires g c =
    let good = g.met.P.PairTable.laws.trustee_is_good c.args.table.now c.args.side.now c.requires.mine in
    let (room, is) = c.requires.hand in
    let most = (good.in_hand 0 _ is).most_gifts in
    let replies = c.two_replies.ensures in (
      lit< tt,
      (
        c.requires.mine,
        rw (is, c.requires.opening, c.requires.log)
            (two_grow (λ v. v.by) _ room c.two_replies.result refl most replies.front replies.answers replies.gifts replies.completions),
      ),
    )
