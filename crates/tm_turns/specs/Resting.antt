-- Clients and trustees of which no turn moves anything more.
use Rattle.std.specs.Prelude.{◌≡◌, ℕ, ◌<◌, [], slice_get}
use Rattle.std.specs.declared.option.Option.TheVariants.{None, Some}
use Rattle.tm_seq.specs.Kind.{Kind}
use Rattle.tm_model.specs.State.{place_count}
use Rattle.tm_model.specs.Serve.{state_after}
use Rattle.tm_model.specs.Holds.{unfinished}
use Rattle.tm_pair.specs.Plain.{opening_at, client_at, trustee_at, plain_theory}
use Rattle.tm_pair.specs.declared.plain.PlainTable.{PlainTable}
use Rattle.tm_pair.specs.declared.plain.PlainClient.{PlainClient}
use Rattle.tm_state.specs.Asking.{HaveAllEnded}
use Rattle.tm_trustee.specs.Serving.{done_by, ups_of}
use Rattle.tm_trustee.specs.Turn.{HasEnded}
use Rattle.tm_client.specs.Turns.{IsByeDue, IsFetchDue}
use Rattle.tm_turns.specs.Whole.{OneLane, OneTrustee, HasLane}
use Rattle.tm_turns.specs.declared.turns.Turns.{Turns}

module _ {V C O R T : Type 0} (kind : Kind V O R T) where
  -- of what a client keeps for a trustee nothing waits to be published, no Bye and no fetch either, and nothing is out
  pub record IsLaneAtRest (lane : OneLane V C O R T) : Type 0 where
    pub waits : lane.waits.items ≡ []
    pub no_bye : ¬ (IsByeDue (plain_theory kind) lane)
    pub no_fetch : ¬ (IsFetchDue (plain_theory kind) lane)
    pub out : (client_at lane.side).out ≡ None

  -- so everywhere, no launch is unfinished, and each trustee has ended whose places have all said Bye
  pub record AreAtRest (turns : Turns V C O R T) : Type 0 where
    pub lanes : (c t : ℕ) (lane : OneLane V C O R T) → HasLane turns c t lane → IsLaneAtRest lane
    pub seats : (t i : ℕ) (trustee : OneTrustee V O R T) (seat : PlainClient V O R T) → slice_get turns.trustees.items t ≡ Some trustee
        → slice_get trustee.above.items i ≡ Some seat → (client_at seat).out ≡ None
    pub works : (t c : ℕ) (trustee : OneTrustee V O R T) (table : PlainTable V O R T) → slice_get turns.trustees.items t ≡ Some trustee
        → slice_get turns.tables.items t ≡ Some table → c < place_count (opening_at table).setup
        → unfinished c (state_after kind (opening_at table) (done_by (plain_theory kind) trustee)).live ≡ 0
    pub ended : (t : ℕ) (trustee : OneTrustee V O R T) (table : PlainTable V O R T) → slice_get turns.trustees.items t ≡ Some trustee
        → slice_get turns.tables.items t ≡ Some table → HaveAllEnded (opening_at table) (trustee_at trustee.side).log
        → HasEnded (opening_at table) (trustee_at trustee.side) (ups_of (plain_theory kind) trustee)
