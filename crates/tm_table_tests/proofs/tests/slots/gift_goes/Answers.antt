use Rattle.std.proofs.Common.{◌≡◌, lit<, sym, ◌∙◌, ap}
use Rattle.tm_table_tests.proofs.tests.slots.gift_goes.Goals as goal

pub collect-requires-2 : goal.collect-requires-2
collect-requires-2 g c =
    let asked = c.ask_gifts.ensures.keeps.clients _ (λ e. let wrong : 0 ≡ 1 = sym c.ask_grant.ensures.place ∙ e ∙ ap (λ v. v.place) c.requires.next in absurd cc) (c.answer_grant.ensures.clients _ c.ask_grant.ensures.keeps.mine) in (
      lit< tt,
      c.collect.ensures.keeps.clients _ (λ e. let wrong : 0 ≡ 1 = sym c.ask_grant.ensures.place ∙ e ∙ c.ask_gifts.ensures.place in absurd cc)
          (c.answer_gift.ensures.clients _ asked),
    )
