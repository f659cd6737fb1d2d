-- The rule of a table for many threads: its words, its slots at home and all views show one good core.
use Rattle.std.specs.Prelude.{◌≡◌, ℕ, ◌+◌, ◌*◌, ◌<◌, ◌≤◌, ◌==◌, Bool, true, false, List, [], ◌∷◌, ◌++◌, length, slice_index}
use Rattle.std.specs.List.{AllByRecursion}
use mathlib.Core.Option.{some, none}
use mathlib.Core.Option as maybe
use lib.ListN.{get_elem?}
use Rattle.atomic_table.specs.Table.{State as TableState}
use Rattle.tm_ghost.specs.declared.list.GhostList.{GhostList}
use Rattle.tm_seq.specs.Kind.{Kind}
use Rattle.tm_model.specs.State.{State}
use Rattle.tm_model.specs.Opening.{opening_of}
use Rattle.tm_model.specs.Lists.{IsPrefix}
use Rattle.tm_model.specs.Slots.{Empty, Asked, Taken, Answered, no_slot, slot_of, first_core}
use Rattle.tm_model.specs.Good.{FullBox, FullCore, IsGood}
use Rattle.tm_model.specs.Laws.{IsOpening}
use Rattle.tm_pair.specs.Views.{ClientView, TrusteeView}
use Rattle.tm_pair.specs.SideViews.{client_of, trustee_of}
use Rattle.tm_pair.specs.Moves.{MayCome, after_move, core_after}
use Rattle.tm_pair.specs.declared.moves.Move.{Move}
use Rattle.tm_pair.specs.declared.moves.Move.TheVariants.{Open, Publish, See, Answer, Collect}
use Rattle.tm_toggle.specs.Contents.{batch_in, answers_in, HasNoRequests, HasNoAnswers, IsClear}
use Rattle.tm_toggle.specs.declared.content.Content.{Content}
use Rattle.tm_toggle.specs.declared.view.View.{View}
use Rattle.tm_toggle.specs.declared.sides.Key.{Key}

-- where the two words of place c stand: 128 bytes apart, and from all others
abbrev pub r_of : ℕ → ℕ
r_of c = 32 * c + 16

abbrev pub s_of : ℕ → ℕ
s_of c = 32 * c + 32

abbrev pub bit : Bool → ℕ
bit true = 1
bit false = 0

-- a list that only contracts read
abbrev pub listed : {A : Type 0} → List A → GhostList A
listed items = record { of = record {}; items = items }

module _ {V O R T : Type 0} where
  abbrev pub opening_in : View V O R T → State V O R T
  opening_in v = opening_of v.number v.config v.first.items

  abbrev pub opening_by : Key V O R T → State V O R T
  opening_by key = opening_of key.number key.config key.first.items

  -- what the side of place c, and the trustee's, stand for after a list of calls
  abbrev pub client_in : ℕ → List (Move V O R T) → ClientView V O R T
  client_in c past = client_of c (slot_of (core_after past) c)

  abbrev pub trustee_in : List (Move V O R T) → TrusteeView V O R T
  trustee_in past = trustee_of (core_after past)

  -- a call is one of the client of place c
  abbrev pub IsByClient : ℕ → Move V O R T → Type 0
  IsByClient c (Publish d batch) = d ≡ c
  IsByClient c (Collect d found) = d ≡ c
  IsByClient c (Open places) = ⊥
  IsByClient c (See d found) = ⊥
  IsByClient c (Answer d resumes a) = ⊥

  -- a call is one of the trustee
  abbrev pub IsByTrustee : Move V O R T → Type 0
  IsByTrustee (Open places) = Unit {0}
  IsByTrustee (See d found) = Unit {0}
  IsByTrustee (Answer d resumes a) = Unit {0}
  IsByTrustee (Publish d batch) = ⊥
  IsByTrustee (Collect d found) = ⊥

  -- calls of others
  abbrev pub AreOfOthers : (Move V O R T → Type 0) → List (Move V O R T) → Type 0
  AreOfOthers Own moves = AllByRecursion (λ move. Own move → ⊥) moves

  -- a front of the calls so far has all of a side's own
  abbrev pub HasAll : (Move V O R T → Type 0) → List (Move V O R T) → List (Move V O R T) → Type 0
  HasAll Own front past = (others : List (Move V O R T)) × (past ≡ front ++ others) × AreOfOthers Own others

  -- the next call of a side, after some of others
  abbrev pub IsNext : (Move V O R T → Type 0) → List (Move V O R T) → List (Move V O R T) → Move V O R T → Type 0
  IsNext Own old new move = (others : List (Move V O R T)) × (new ≡ old ++ others ++ move ∷ []) × AreOfOthers Own others

  -- calls one after the other, each of which may come at the core that those before it left
  abbrev pub HaveCome : List (Move V O R T) → FullCore V O R T → Type 0
  HaveCome [] core = Unit {0}
  HaveCome (move ∷ moves) core = MayCome move core × HaveCome moves (after_move move core)

  -- what stands in the slot of a box
  abbrev pub IsIn : Content V O R T → FullBox V O R T → Type 0
  IsIn y Empty = IsClear y
  IsIn y (Asked b room) = ((batch_in y).requests.items ≡ b) × (y.room ≡ room) × HasNoAnswers y
  IsIn y (Taken b room) = IsClear y
  IsIn y (Answered a upto room) = (answers_in y ≡ a) × HasNoRequests y

  -- a slot is out with a seat; `held`: its client has it while its box is empty; `up`: the trustee lifted it while its batch is in hand
  abbrev pub is_out : Bool → Bool → FullBox V O R T → Bool
  is_out held up Empty = held
  is_out held up (Asked b room) = false
  is_out held up (Taken b room) = up
  is_out held up (Answered a upto room) = false

  abbrev pub IsThere : Bool → maybe.Option (Content V O R T) → FullBox V O R T → Type 0
  IsThere true home box = home ≡ none
  IsThere false home box = (y : Content V O R T) × (home ≡ some y) × IsIn y box

  -- what is at home of the slot of a box
  abbrev pub IsHome : Bool → Bool → maybe.Option (Content V O R T) → FullBox V O R T → Type 0
  IsHome held up home box = IsThere (is_out held up box) home box

-- what a table has besides its words, slots and views
pub record Course (V O R T : Type 0) : Type 0 where
  -- all calls at the table, in the order of their steps
  pub past : List (Move V O R T)
  -- the clients that have the slot of their empty box
  pub held : ℕ → Bool
  -- one more than the place whose slot the trustee has, or 0
  pub up : ℕ
  -- how many clients' seats were made, and the number of each one's seat
  pub made : ℕ
  pub seat : ℕ → ℕ

module _ {V O R T : Type 0} where
  -- a place whose seat is not made
  pub record IsUntouched (core : FullCore V O R T) (k : Course V O R T) (c : ℕ) : Type 0 where
    pub view : client_of c (slot_of core c) ≡ client_of c no_slot
    pub word : (slot_of core c).request_word ≡ false
    pub held : k.held c ≡ false
    pub calls : AreOfOthers (IsByClient c) k.past

  -- what a client's seat knows of the core
  pub record KnowsPlace (core : FullCore V O R T) (k : Course V O R T) (id : ℕ) (v : View V O R T) : Type 0 where
    pub number : id ≡ k.seat v.place
    pub inside : v.place < k.made
    pub view : client_in v.place v.past.items ≡ client_of v.place (slot_of core v.place)
    pub word : (slot_of (core_after v.past.items) v.place).request_word ≡ (slot_of core v.place).request_word
    pub settled : k.held v.place ≡ v.settled
    pub calls : HasAll (IsByClient v.place) v.past.items k.past

  -- what the trustee's seat knows of the core
  pub record KnowsLog (core : FullCore V O R T) (k : Course V O R T) (id : ℕ) (v : View V O R T) : Type 0 where
    pub number : id ≡ 0
    pub view : trustee_in v.past.items ≡ trustee_of core
    pub words : (c : ℕ) → (slot_of (core_after v.past.items) c).response_word ≡ (slot_of core c).response_word
    pub up_is : v.up ≡ k.up
    pub made : v.made ≡ k.made
    pub calls : HasAll IsByTrustee v.past.items k.past

  -- what a seat knows of the core; a noted log begins the trustee's
  pub record Knows (opening : State V O R T) (core : FullCore V O R T) (k : Course V O R T) (id : ℕ) (v : View V O R T) : Type 0 where
    pub noted : IsPrefix v.noted.items core.log
    pub opening_is : v.note ≡ false → opening_in v ≡ opening
    pub log : v.trustee ≡ true → KnowsLog core k id v
    pub own : v.trustee ≡ false → v.note ≡ false → KnowsPlace core k id v

  -- words, slots at home and all views show a core, which is good
  pub record Stands (kind : Kind V O R T) (opening : State V O R T) (core : FullCore V O R T) (k : Course V O R T)
      (s : TableState (Content V O R T) (View V O R T)) : Type 0 where
    pub opens : IsOpening opening
    pub calls : HaveCome k.past (first_core 0)
    pub good : IsGood kind opening core
    pub places : length core.slots ≡ length s.homes
    pub wide : length s.words ≡ 32 * length s.homes + 48
    pub few : k.made ≤ length s.homes
    pub requests : (c : ℕ) → c < length s.homes → slice_index s.words (r_of c) ≡ bit (slot_of core c).request_word
    pub responses : (c : ℕ) → c < length s.homes → slice_index s.words (s_of c) ≡ bit (slot_of core c).response_word
    pub homes : (c : ℕ) → c < length s.homes → (home : maybe.Option (Content V O R T)) × (get_elem? s.homes c ≡ some home) × IsHome (k.held c) (k.up == c + 1) home (slot_of core c).box
    pub later : (c : ℕ) → k.made ≤ c → IsUntouched core k c
    pub seats : (id : ℕ) (v : View V O R T) → get_elem? s.views id ≡ some v → Knows opening core k id v

  -- the core is what the calls so far leave
  abbrev pub Delegates : Kind V O R T → State V O R T → TableState (Content V O R T) (View V O R T) → Type 0
  Delegates kind opening s = (k : Course V O R T) × Stands kind opening (core_after k.past) k s
