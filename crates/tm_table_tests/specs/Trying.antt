-- The table that the tests make.
use Rattle.std.specs.Prelude.{◌≡◌, ℕ, []}
use Rattle.tm_batch.specs.declared.config.Config.{Config}
use Rattle.tm_seq.specs.Counting.{counter_kind}
use Rattle.tm_seq.specs.declared.counter.Counter.{Counter}
use Rattle.tm_seq.specs.declared.counter.CounterOp.{CounterOp}
use Rattle.tm_seq.specs.declared.counter.CounterReply.{CounterReply}
use Rattle.tm_seq.specs.declared.counter.CounterTask.{CounterTask}
use Rattle.tm_model.specs.State.{State}
use Rattle.tm_model.specs.Opening.{opening_of}
use Rattle.tm_pair.specs.Views.{new_client, new_trustee}
use Rattle.tm_toggle.specs.Shared.{opening_at, client_at, trustee_at, IsClientOf, IsTrusteeOf}
use Rattle.tm_toggle.specs.declared.sides.SharedClient.{SharedClient}
use Rattle.tm_toggle.specs.declared.sides.SharedTrustee.{SharedTrustee}
use Rattle.tm_toggle.specs.declared.shared.SharedTable.{SharedTable}

abbrev pub two : Config
two = record { clients = 2; trustees = 2; objects = 1; trusts = 1; last_id = 1 }

-- two clients, and no object
abbrev pub trying : State Counter CounterOp CounterReply CounterTask
trying = opening_of 0 two []

pub record IsFirstClient (table : SharedTable Counter CounterOp CounterReply CounterTask) (side : SharedClient Counter CounterOp CounterReply CounterTask) : Type 0 where
  pub mine : IsClientOf counter_kind table side
  pub view : (c : ℕ) × (client_at side ≡ new_client c)

pub record IsFirstOwner (table : SharedTable Counter CounterOp CounterReply CounterTask) (side : SharedTrustee Counter CounterOp CounterReply CounterTask) : Type 0 where
  pub opens : opening_at table ≡ trying
  pub mine : IsTrusteeOf counter_kind table side
  pub view : trustee_at side ≡ new_trustee 2
