use Rattle.std.proofs.Common.{rules, ◌≡◌, refl}
use Rattle.std.specs.Prelude.{slice_get}
use Rattle.std.specs.declared.option.Option.TheVariants.{Some}
use Rattle.tm_client.proofs.Taken as taken
use Rattle.tm_client.proofs.GiftTaken as gift
use Rattle.tm_client.proofs.client.Client.take_gift.Goals as goal

pub returns-clause-gift : goal.returns-clause-gift
returns-clause-gift g c =
    let e : slice_get c.args.self.now.books.gifts.items 0 ≡ Some c.in-Some.gift = search rules in
    let (openings, is) = c.requires.client in
    record {
      first = (c.in-Some.gift.at, rw (c.hold.ensures.trustee, c.hold.ensures.name, c.hold.ensures.client, c.pop_front.ensures.items) (taken.first_drop c.args.self.now.books.gifts.items c.in-Some.gift e));
      capacity = rw c.pop_front.ensures.items refl;
      held = rw (c.hold.ensures.trustee, c.hold.ensures.name) c.hold.ensures.gains;
      coming = taken.back_again c.args.self.now.books.coming 1 (gift.has_gift g.P.PairTable.theory.client_view openings c.args.self.now.books c.in-Some.gift is e).0;
      lanes = refl;
      arrived = refl;
      number = refl;
      clients = refl;
      most = refl;
    }

pub returns-clause-client : goal.returns-clause-client
returns-clause-client g c = λ openings is.
    let e : slice_get c.args.self.now.books.gifts.items 0 ≡ Some c.in-Some.gift = search rules in
    gift.gift_keeps g.P.PairTable.theory.client_view openings c.hold.result c.args.self.now.books _ is (record {
      first = (c.in-Some.gift.at, rw (c.hold.ensures.trustee, c.hold.ensures.name, c.hold.ensures.client, c.pop_front.ensures.items) (taken.first_drop c.args.self.now.books.gifts.items c.in-Some.gift e));
      capacity = rw c.pop_front.ensures.items refl;
      held = rw (c.hold.ensures.trustee, c.hold.ensures.name) c.hold.ensures.gains;
      coming = taken.back_again c.args.self.now.books.coming 1 (gift.has_gift g.P.PairTable.theory.client_view openings c.args.self.now.books c.in-Some.gift is e).0;
      lanes = refl;
      arrived = refl;
      number = refl;
      clients = refl;
      most = refl;
    })
