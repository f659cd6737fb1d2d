use Rattle.std.proofs.Common.{lit<}
use Rattle.tm_table_tests.proofs.Sampling.{grant_grow}
use Rattle.tm_table_tests.proofs.tests.slots.answering.reply_granted.Goals as goal

pub answer-requires : goal.answer-requires
answer-requires g c =
    let good = g.met.P.PairTable.laws.trustee_is_good c.args.table.now c.args.side.now c.requires.mine in
    let (room, is) = c.requires.hand in
    let most = (good.in_hand 0 _ is).most_gifts in
    let answers = c.granted.ensures in (
      lit< tt,
      (
        c.requires.mine,
        rw (is, c.requires.opening, c.requires.log)
            (grant_grow _ _ room c.granted.result most answers.front answers.answers answers.gifts answers.completions),
      ),
    )
