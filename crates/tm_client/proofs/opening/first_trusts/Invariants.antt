use Rattle.std.proofs.Common.{◌≡◌, ℕ, ◌+◌, take}
use Rattle.std.specs.List.{AllByRecursion, AllZip}
use Rattle.tm_client.specs.Begun.{IsTrustOf, StandsIn, named_at}
use Rattle.tm_client.specs.Listing.{held_count, listed, room_for}
use Rattle.tm_client.proofs.opening.first_trusts.Given as goal

-- the names so far have their trusts, which stand in the list
abbrev pub invariant-loop-named : goal.invariant-loop-named
invariant-loop-named l = record {
  trusts : AllZip (IsTrustOf l.client) (take l.named-index l.held) l.trusts.items;
  stand : AllByRecursion (StandsIn l.list) l.trusts.items;
  listed_is : (t id : ℕ) → listed t id l.list ≡ listed t id l.initial.list + named_at t id (take l.named-index l.held);
  count : held_count l.list ≡ held_count l.initial.list + l.named-index;
  room : room_for l.list ≡ room_for l.initial.list;
}
