-- When the logs of the trustees tell the states of the 64 classes, between two commands of the only client.
use Rattle.std.specs.Prelude.{◌≡◌, ℕ, ◌+◌, ◌<◌, ◌≤◌, List, length, slice_get}
use Rattle.std.specs.List.{AllByRecursion}
use Rattle.std.specs.declared.option.Option.TheVariants.{Some}
use Rattle.tm_seq.specs.declared.sum.Sum.TheVariants as sum
use Rattle.tm_batch.specs.declared.message.Request.{Request}
use Rattle.tm_batch.specs.declared.message.Request.TheVariants.{Launch}
use Rattle.tm_laws.specs.Objects.{value_by}
use Rattle.tm_model.specs.Ran.{ran}
use Rattle.tm_pair.specs.Plain.{client_at, trustee_at}
use Rattle.tm_rest.specs.Resting.{NothingCounts}
use Rattle.tm_trustee.specs.NestedAsks.{IsApply}
use Rattle.tm_turns.specs.Whole.{OneLane, OneTrustee, HasLane, AreOf}
use Rattle.mc_item.specs.declared.limits.TheConstants.{CLASSES}
use Rattle.mc_model.specs.declared.reply.ShardReply.{ShardReply}
use Rattle.mc_model.specs.Class.{Class, new_class}
use Rattle.mc_laws.specs.Classes.{class_at}
use Rattle.mc_shard.specs.declared.op.ShardOp.{ShardOp}
use Rattle.mc_route.specs.Places.{StoreValue, trustee_of, index_of, store_first}
use Rattle.mc_next.specs.Parts.{StoreTask, store_kind}
use Rattle.mc_solo.specs.Serving.{StoreTurns, store_config}

-- what a client keeps for a trustee of the store, and such a trustee
abbrev pub StoreLane : Type 0
StoreLane = OneLane StoreValue ℕ ShardOp ShardReply StoreTask

abbrev pub StoreTrustee : Type 0
StoreTrustee = OneTrustee StoreValue ShardOp ShardReply StoreTask

-- a request launches work
abbrev pub IsLaunch : Request StoreValue ShardOp ShardReply StoreTask → Type 0
IsLaunch (Launch n task) = Unit {0}
IsLaunch _ = ⊥

-- A runtime over the store with one client stands between two of its commands, of which there were so many: no request counts, all that the client
-- sent was run, operations on the classes and launches on the desk alone, and the value of each class by its trustee's log is this one.
pub record StandsAt (trustees bound commands : ℕ) (classes : List Class) (turns : StoreTurns) : Type 0 where
  pub are : AreOf store_kind (store_config 1 trustees) (store_first 1 trustees bound) turns
  pub none : NothingCounts turns
  pub seen : (t : ℕ) (lane : StoreLane) → HasLane turns 0 t lane → (client_at lane.side).sent ≡ ran 0 (client_at lane.side).seen
  pub applies : (t : ℕ) (lane : StoreLane) → 1 ≤ t → HasLane turns 0 t lane → AllByRecursion IsApply (client_at lane.side).sent
  pub launches : (lane : StoreLane) → HasLane turns 0 0 lane → AllByRecursion IsLaunch (client_at lane.side).sent × (length (client_at lane.side).sent ≤ commands)
  pub many : length classes ≡ CLASSES
  pub values : (class : ℕ) (trustee : StoreTrustee) → class < CLASSES → slice_get turns.trustees.items (trustee_of class trustees) ≡ Some trustee
      → value_by store_kind (sum.First (new_class class 0 bound)) (index_of class trustees + 1) (trustee_at trustee.side).log ≡ sum.First (class_at classes class)
