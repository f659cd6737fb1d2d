-- A table for many threads at first.
use Rattle.std.specs.Prelude.{◌≡◌, ℕ, ◌<◌, false, List, [], ◌∷◌, length, slice_index_or}
use Rattle.atomic_table.specs.Seated.{TableId}
use Rattle.tm_toggle.specs.Plays.{Sat, first_view, client_first}
use Rattle.tm_model.specs.State.{State}
use Rattle.tm_model.specs.Opening.{IsBuildable}
use Rattle.tm_toggle.specs.Ruled.{opening_by}
use Rattle.tm_toggle.specs.Shared.{IsSized}
use Rattle.tm_toggle.specs.Contents.{IsClear}
use Rattle.tm_toggle.specs.declared.content.Content.{Content}
use Rattle.tm_toggle.specs.declared.view.View.{View}
use Rattle.tm_toggle.specs.declared.sides.Key.{Key}
use Rattle.tm_toggle.specs.declared.sides.SharedClient.{SharedClient}

module _ {V O R T : Type 0} where
  -- the trustee's view once it made so many clients' seats
  abbrev pub maker : Key V O R T → ℕ → View V O R T
  maker key made = record (first_view key) { made = made }

  -- a table that opened in this state, of this key and id, and its first seat, which is the trustee's
  pub record IsMade (opening : State V O R T) (key : Key V O R T) (z of : TableId) (me : Sat V O R T) : Type 0 where
    pub opens : opening_by key ≡ opening
    pub buildable : IsBuildable key.config key.first.items
    pub number : key.number < key.config.trustees
    pub sized : IsSized (opening_by key) z
    pub same : of ≡ z
    pub me_is : me ≡ (first_view key, [])

  -- the client's side of place c, before any call
  pub record IsFirstSide (key : Key V O R T) (z : TableId) (c : ℕ) (side : SharedClient V O R T) : Type 0 where
    pub same : side.seat.table_id ≡ z
    pub me : (y : Content V O R T) × (side.seat.me ≡ (client_first key c, (c, y) ∷ [])) × IsClear y
    pub place : side.place ≡ c
    pub word : side.word ≡ 0
    pub out : side.out ≡ false

  unfoldable pub AreFirstSides : Key V O R T → TableId → List (SharedClient V O R T) → Type 0
  AreFirstSides key z sides = (c : ℕ) (side : SharedClient V O R T) → c < length sides → side ≡ slice_index_or sides c side → IsFirstSide key z c side
