-- The state of a table between two atomic steps shows one good core.
use Rattle.std.specs.Prelude.{◌≡◌, ℕ, ◌<◌, true, false, List, length, slice_index}
use mathlib.Core.Option.{some}
use mathlib.Core.Option as maybe
use lib.ListN.{get_elem?}
use Rattle.atomic_table.specs.Table.{State as TableState}
use Rattle.tm_seq.specs.Kind.{Kind}
use Rattle.tm_model.specs.State.{State}
use Rattle.tm_model.specs.Slots.{Empty, Asked, Taken, Answered, slot_of, first_core}
use Rattle.tm_model.specs.Good.{FullBox, FullCore, IsGood}
use Rattle.tm_pair.specs.SideViews.{client_of, trustee_of}
use Rattle.tm_pair.specs.Moves.{core_after}
use Rattle.tm_pair.specs.declared.moves.Move.{Move}
use Rattle.tm_toggle.specs.Contents.{batch_in, answers_in}
use Rattle.tm_toggle.specs.Ruled.{r_of, s_of, bit, client_in, trustee_in, IsByClient, IsByTrustee, HasAll, HaveCome}
use Rattle.tm_toggle.specs.declared.content.Content.{Content}
use Rattle.tm_toggle.specs.declared.view.View.{View}

module _ {V O R T : Type 0} where
  -- a batch that is asked, and answers that are back, stand in their slot, which is at home
  abbrev pub StandsIn : List (maybe.Option (Content V O R T)) → ℕ → FullBox V O R T → Type 0
  StandsIn homes c (Asked b room) = (y : Content V O R T) × (get_elem? homes c ≡ some (some y)) × ((batch_in y).requests.items ≡ b) × (y.room ≡ room)
  StandsIn homes c (Answered a upto room) = (y : Content V O R T) × (get_elem? homes c ≡ some (some y)) × (answers_in y ≡ a)
  StandsIn homes c Empty = Unit {0}
  StandsIn homes c (Taken b room) = Unit {0}

  -- a client's view shows its place of the core, and has all its own calls
  pub record ShowsPlace (core : FullCore V O R T) (past : List (Move V O R T)) (v : View V O R T) : Type 0 where
    pub view : client_in v.place v.past.items ≡ client_of v.place (slot_of core v.place)
    pub calls : HasAll (IsByClient v.place) v.past.items past

  -- the trustee's view shows the core, and has all its own calls
  pub record ShowsLog (core : FullCore V O R T) (past : List (Move V O R T)) (v : View V O R T) : Type 0 where
    pub view : trustee_in v.past.items ≡ trustee_of core
    pub calls : HasAll IsByTrustee v.past.items past

  pub record ShowsCalls (kind : Kind V O R T) (opening : State V O R T) (s : TableState (Content V O R T) (View V O R T)) (past : List (Move V O R T)) : Type 0 where
    pub come : HaveCome past (first_core 0)
    pub good : IsGood kind opening (core_after past)
    pub places : length (core_after past).slots ≡ length s.homes
    pub requests : (c : ℕ) → c < length s.homes → slice_index s.words (r_of c) ≡ bit (slot_of (core_after past) c).request_word
    pub responses : (c : ℕ) → c < length s.homes → slice_index s.words (s_of c) ≡ bit (slot_of (core_after past) c).response_word
    pub slots : (c : ℕ) → c < length s.homes → StandsIn s.homes c (slot_of (core_after past) c).box
    pub clients : (id : ℕ) (v : View V O R T) → get_elem? s.views id ≡ some v → v.trustee ≡ false → v.note ≡ false → ShowsPlace (core_after past) past v
    pub trustee : (id : ℕ) (v : View V O R T) → get_elem? s.views id ≡ some v → v.trustee ≡ true → ShowsLog (core_after past) past v
    -- and no other seat has that place, or is the trustee's
    pub alone : (i j : ℕ) (u v : View V O R T) → get_elem? s.views i ≡ some u → get_elem? s.views j ≡ some v → u.note ≡ false → v.note ≡ false
        → u.trustee ≡ v.trustee → u.place ≡ v.place → i ≡ j

  abbrev pub ShowsOneCore : Kind V O R T → State V O R T → TableState (Content V O R T) (View V O R T) → Type 0
  ShowsOneCore kind opening s = (past : List (Move V O R T)) × ShowsCalls kind opening s past
