-- The client of a session.
use Rattle.std.specs.Prelude.{◌≡◌, ℕ, ◌+◌, ◌<◌, ◌≤◌, List, length, slice_get, Some}
use Rattle.tm_batch.specs.declared.limits.TheConstants.{FEWEST_TRUSTEES, MOST_TRUSTEES}
use Rattle.tm_client.specs.declared.books.Books.{Books}
use Rattle.tm_client.specs.declared.lane.Lane.{Lane}
use Rattle.tm_client.specs.declared.trust.Trust.{Trust}
use Rattle.tm_client.specs.Asking.{IsHeldBy}
use Rattle.mc_item.specs.declared.limits.TheConstants.{CLASSES}
use Rattle.mc_model.specs.declared.reply.ShardReply.{ShardReply}
use Rattle.mc_shard.specs.declared.op.ShardOp.{ShardOp}
use Rattle.mc_route.specs.Places.{StoreValue, trustee_of}
use Rattle.mc_next.specs.Parts.{StoreTask}

-- what a client of the store keeps
abbrev pub StoreBooks : Type 0 → Type 0
StoreBooks D = Books StoreValue ℕ D ShardOp ShardReply StoreTask

abbrev pub StoreLane : Type 0 → Type 0
StoreLane D = Lane StoreValue ℕ D ShardOp ShardReply StoreTask

-- The trusts of a client of the store: of each class, in the order of their numbers, at its trustee, and then of the desk, on trustee 0. The
-- client holds them.
pub record AreStoreTrusts {D : Type 0} (trustees : ℕ) (books : StoreBooks D) (trusts : List Trust) : Type 0 where
  pub fewest : FEWEST_TRUSTEES ≤ trustees
  pub most : trustees ≤ MOST_TRUSTEES
  pub many : length books.lanes.items ≡ trustees
  pub count : length trusts ≡ CLASSES + 1
  pub classes : (class : ℕ) (trust : Trust) → class < CLASSES → slice_get trusts class ≡ Some trust → trust.trustee ≡ trustee_of class trustees
  pub desk : (trust : Trust) → slice_get trusts CLASSES ≡ Some trust → trust.trustee ≡ 0
  pub held : (i : ℕ) (trust : Trust) → slice_get trusts i ≡ Some trust → IsHeldBy books trust
