use Rattle.std.proofs.Common.{lit<}
use Rattle.tm_table_tests.proofs.Sampling.{gift_grow}
use Rattle.tm_table_tests.proofs.tests.slots.answering.give.Goals as goal

pub answer-requires : goal.answer-requires
answer-requires g c =
    let (room, most, log) = c.requires.log in
    let answers = c.one_gift.ensures in (
      lit< tt,
      (
        c.requires.mine,
        rw (c.requires.hand, c.requires.opening, log)
            (gift_grow _ _ room c.one_gift.result most answers.front answers.answers answers.gifts answers.completions),
      ),
    )
