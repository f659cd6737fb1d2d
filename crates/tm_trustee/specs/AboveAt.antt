-- The moves at a trustee's sides of the tables above.
use Rattle.std.specs.Prelude.{◌≡◌, ℕ, ◌+◌, Bool, List, length, slice_get, slice_set}
use Rattle.std.specs.List.{AllByRecursion}
use Rattle.std.specs.declared.option.Option.TheVariants.{Some}
use Rattle.tm_model.specs.Orderly.{IsOfTrustee}
use Rattle.tm_pair.specs.Views.{ClientView}
use Rattle.tm_pair.specs.Theory.{Theory, KeepsSides}
use Rattle.tm_trustee.specs.Above.{IsAt, moves_up, Counts}
use Rattle.tm_trustee.specs.declared.lane.Lane.{Lane}

-- each side of a list went on in the way of the number of its trustee, the one at i together with the table at from + i
abbrev pub EachAt : {Table Client : Type 0} → (ℕ → Table → Table → Client → Client → Type 0) → ℕ → List Table → List Table → List Client → List Client → Type 0
EachAt {Table} {Client} Goes from old new above above_new =
    (i : ℕ) (was now : Table) (before after : Client) → slice_get old (from + i) ≡ Some was → slice_get new (from + i) ≡ Some now
    → slice_get above i ≡ Some before → slice_get above_new i ≡ Some after → Goes (from + i) was now before after

-- each together with its lane
abbrev pub EachLane : {Table Client L : Type 0} → (Table → Table → Client → Client → L → L → Type 0) → ℕ → List Table → List Table → List Client → List Client → List L → List L → Type 0
EachLane {Table} {Client} {L} Goes from old new above above_new lanes lanes_new =
    (i : ℕ) (was now : Table) (before after : Client) (lane becomes : L) → slice_get old (from + i) ≡ Some was → slice_get new (from + i) ≡ Some now
    → slice_get above i ≡ Some before → slice_get above_new i ≡ Some after → slice_get lanes i ≡ Some lane → slice_get lanes_new i ≡ Some becomes
    → Goes was now before after lane becomes

-- what a step needs of each side, its table and its lane
abbrev pub NeedAll : {Table Client L : Type 0} → (Table → Client → L → Type 0) → ℕ → List Table → List Client → List L → Type 0
NeedAll {Table} {Client} {L} Needs from tables above lanes =
    (i : ℕ) (table : Table) (seat : Client) (lane : L) → slice_get tables (from + i) ≡ Some table → slice_get above i ≡ Some seat
    → slice_get lanes i ≡ Some lane → Needs table seat lane

module _ {V O R T : Type 0} where
  -- a trustee's sides above have its place, it asked applies and Bye alone, and it is as far at each as it notes
  pub record IsAbove (place : ℕ) (lanes : List (Lane V O R T)) (ups : List (ClientView V O R T)) : Type 0 where
    pub as_many : length lanes ≡ length ups
    pub places : (i : ℕ) (up : ClientView V O R T) → slice_get ups i ≡ Some up → up.place ≡ place
    pub asked : (i : ℕ) (up : ClientView V O R T) → slice_get ups i ≡ Some up → AllByRecursion IsOfTrustee up.sent
    pub stages : (i : ℕ) (lane : Lane V O R T) (up : ClientView V O R T) → slice_get lanes i ≡ Some lane → slice_get ups i ≡ Some up → IsAt lane.stage up

module _ {V O R T Table Client Owner : Type 0} (theory : Theory V O R T Table Client Owner)
    (Goes : Table → Table → Client → Client → Lane V O R T → Lane V O R T → Type 0) where
  -- a side of a table went on, and its lane; the table keeps what is not of its place
  pub record MovesUp (was becomes : Table) (before after : Client) (lane lane_new : Lane V O R T) (answer : Bool) : Type 0 where
    pub goes : Goes was becomes before after lane lane_new
    pub asked : AllByRecursion IsOfTrustee (theory.client_view after).sent
    pub at : IsAt lane_new.stage (theory.client_view after)
    pub place : (theory.client_view after).place ≡ (theory.client_view before).place
    pub moved : Counts answer (moves_up (theory.client_view before) (theory.client_view after))
    pub keeps : KeepsSides theory was becomes before after

  -- so did the side i of a list, which is of table t, and nothing else changed
  pub record MovesAt (t i : ℕ) (old new : List Table) (lanes lanes_new : List (Lane V O R T)) (above above_new : List Client) (answer : Bool) : Type 0 where
    pub was : Table
    pub becomes : Table
    pub before : Client
    pub after : Client
    pub lane : Lane V O R T
    pub lane_new : Lane V O R T
    pub of_table : slice_get old t ≡ Some was
    pub of_side : slice_get above i ≡ Some before
    pub of_lane : slice_get lanes i ≡ Some lane
    pub tables : new ≡ slice_set old t becomes
    pub sides : above_new ≡ slice_set above i after
    pub lanes_are : lanes_new ≡ slice_set lanes i lane_new
    pub moves : MovesUp was becomes before after lane lane_new answer
