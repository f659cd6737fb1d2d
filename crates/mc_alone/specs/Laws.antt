-- One client of the store can't tell its trustees from one list of all items: the statement, proved as the contract of a function.
use Rattle.std.specs.Prelude.{◌≡◌, ℕ, ◌≤◌, ◌<◌, ◌^◌, List, [], ◌∷◌, Option, slice_get, Some}
use Rattle.tm_client.specs.declared.trust.Trust.{Trust}
use Rattle.tm_turns.specs.Making.{HasBuilt}
use Rattle.mc_item.specs.declared.limits.TheConstants.{MOST_ITEMS}
use Rattle.mc_next.specs.declared.ended.Ended.{Ended}
use Rattle.mc_next.specs.Parts.{store_kind}
use Rattle.mc_next.specs.Runs.{Setting}
use Rattle.mc_next.specs.Sessions.{IsOf, seen}
use Rattle.mc_route.specs.Places.{store_first}
use Rattle.mc_solo.specs.Serving.{StoreTurns, StoreClient, store_view, store_config, HasServedInTurn}
use Rattle.mc_alone.specs.Outputs.{HasAnsweredAsOne}

-- Where a runtime over the store was built with one client, and a session of that client has run, what it has read and written is what the plain
-- store answers.
abbrev pub OneClientMeetsOneStore : Type 0
OneClientMeetsOneStore =
    (trustees bound limit : ℕ) (trusts : List Trust) (turns new : StoreTurns) (ended : Ended)
    (left left_new readings readings_new written written_new : Option (List ℕ))
    → bound ≤ MOST_ITEMS → limit < 2 ^ 64
    → HasBuilt store_kind (store_config 1 trustees) (store_first 1 trustees bound) turns (trusts ∷ [])
    → HasServedInTurn ended 0 trusts limit turns new left left_new readings readings_new written written_new
    → (s : Setting) (client becomes : StoreClient) → s.limit ≡ limit → IsOf s trusts trustees
    → slice_get turns.clients.items 0 ≡ Some client → slice_get new.clients.items 0 ≡ Some becomes
    → HasAnsweredAsOne bound s ended (seen store_view client.books left readings written) (seen store_view becomes.books left_new readings_new written_new)
