-- A client that hands out the first gift.
use Rattle.std.proofs.Common.{◌≡◌, ℕ, ◌+◌, ◌<◌, ◌≤◌, suc, length, ap, subst, arith}
use Rattle.std.specs.Prelude.{slice_get}
use Rattle.std.specs.List.{AllByRecursion}
use Rattle.std.specs.declared.option.Option.TheVariants.{Some}
use Rattle.tm_model.specs.State.{State}
use Rattle.tm_pair.specs.Views.{ClientView}
use Rattle.tm_client.specs.declared.trust.Trust.{Trust}
use Rattle.tm_client.specs.declared.books.Books.{Books}
use Rattle.tm_client.specs.Listing.{hold_of, listed, held_count, room_for}
use Rattle.tm_client.specs.Clients.{entrusted_in, given, IsClient}
use Rattle.tm_client.specs.Taking.{HasTakenGift}
use Rattle.tm_client.proofs.Listed.{gains_listed, gains_all}
use Rattle.tm_client.proofs.Taken.{first_rest}

longer_by : {n m : ℕ} → n ≡ suc m → n ≡ 1 + m
longer_by e = omega arith

module _ {V C D O R T : Type 0} (view : D → ClientView V O R T) where
  module _ (openings : ℕ → State V O R T) (gift : Trust) (old new : Books V C D O R T) (is : IsClient view openings old)
      (a : HasTakenGift gift old new) where
    moved : (u id : ℕ)
        → listed u id new.held + (entrusted_in u id new.arrived.items + given u id new.gifts.items)
        ≡ listed u id old.held + (entrusted_in u id old.arrived.items + given u id old.gifts.items)
    moved u id =
        let all = ap (λ xs. given u id xs) a.first.1 in
        let held = gains_listed u id (hold_of gift.trustee gift.name) gift.at old.held new.held a.held in
        let arrived = ap (λ xs. entrusted_in u id xs.items) a.arrived in
        omega arith

    one_less : length old.gifts.items ≡ 1 + length new.gifts.items
    one_less = let all = ap length a.first.1 in omega arith

    parts : ((gift.trustee < length old.lanes.items) × (gift.client ≡ old.number))
        × AllByRecursion (λ g. (g.trustee < length old.lanes.items) × (g.client ≡ old.number)) new.gifts.items
    parts = subst (λ xs. AllByRecursion (λ g. (g.trustee < length old.lanes.items) × (g.client ≡ old.number)) xs) a.first.1 is.gifts

    pub gift_keeps : IsClient view openings new
    gift_keeps = record {
      lanes = rw (a.lanes, a.arrived, a.number) is.lanes;
      clients = rw (a.lanes, a.clients) is.clients;
      holds = λ u lane id e. rw (moved u id, a.number) (is.holds u lane id (subst (λ xs. slice_get xs.items u ≡ Some lane) a.lanes e));
      held = rw a.lanes (gains_all (λ h. h.trustee < length old.lanes.items) (hold_of gift.trustee gift.name) gift.at old.held new.held a.held parts.0.0 is.held);
      coming = rw (a.lanes, a.arrived) (let before = is.coming in let now = a.coming in let less = one_less in omega arith);
      most = rw a.most (
          let most = is.most in
          let now = a.coming in
          let count = a.held.count in
          omega arith
          );
      limit = rw a.most is.limit;
      arrived = rw (a.lanes, a.arrived) is.arrived;
      gifts = rw (a.lanes, a.number) parts.1;
      counting = rw (a.lanes, a.arrived) is.counting;
      held_room = rw (a.held.room, a.most) is.held_room;
      gifts_room = rw (a.capacity, a.most) is.gifts_room;
      arrived_room = rw (a.lanes, a.arrived) is.arrived_room;
    }

  -- where a gift is there, one trust at least may come, and the list has room for it
  pub has_gift :
      (openings : ℕ → State V O R T) (books : Books V C D O R T) (gift : Trust) → IsClient view openings books
      → slice_get books.gifts.items 0 ≡ Some gift → (1 ≤ books.coming) × (held_count books.held < room_for books.held)
  has_gift openings books gift is e =
      let (rest, all) = first_rest books.gifts.items gift e in
      let many : length books.gifts.items ≡ 1 + length rest = longer_by (ap length all) in
      let coming : 1 ≤ books.coming = let sum = is.coming in omega arith in
      (coming, let most = is.most in let room = is.held_room in omega arith)
