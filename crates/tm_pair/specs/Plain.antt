-- What a table in one thread and its sides stand for.
use Rattle.std.proofs.Common.{◌≡◌, ◌<◌, refl, sym, ◌∙◌}
use Rattle.tm_seq.specs.Kind.{Kind}
use Rattle.tm_model.specs.State.{State, place_count}
use Rattle.tm_model.specs.Opening.{IsBuildable, opening_of}
use Rattle.tm_model.specs.Slots.{slot_of}
use Rattle.tm_model.specs.Good.{FullCore, IsGood}
use Rattle.tm_pair.specs.Views.{ClientView, TrusteeView}
use Rattle.tm_pair.specs.Sides.{IsGoodClient, IsGoodTrustee}
use Rattle.tm_pair.specs.SideViews.{client_of, trustee_of}
use Rattle.tm_pair.specs.Moves.{MayCome, after_move, core_after}
use Rattle.tm_pair.specs.Shown.{ShowsCore}
use Rattle.tm_pair.specs.Theory.{Theory, TheoryLaws}
use Rattle.tm_pair.specs.declared.moves.Move.{Move}
use Rattle.tm_pair.specs.declared.plain.PlainTable.{PlainTable}
use Rattle.tm_pair.specs.declared.plain.PlainClient.{PlainClient}
use Rattle.tm_pair.specs.declared.plain.PlainTrustee.{PlainTrustee}

module _ {V O R T : Type 0} where
  -- the state in which a table opened
  abbrev pub opening_at : PlainTable V O R T → State V O R T
  opening_at table = opening_of table.number table.config table.first.items

  -- the core that a table stands for
  abbrev pub core_at : PlainTable V O R T → FullCore V O R T
  core_at table = core_after table.past.items

  -- what a client's side stands for: its slot at its last call
  abbrev pub client_at : PlainClient V O R T → ClientView V O R T
  client_at side = client_of side.place (slot_of (core_after side.past.items) side.place)

  -- what the trustee's side stands for: the core at its last call
  abbrev pub trustee_at : PlainTrustee V O R T → TrusteeView V O R T
  trustee_at side = trustee_of (core_after side.past.items)

  -- a table: it opened in a state from which one may be built, its core is good, and its words and boxes are those of the core
  pub record IsTable (kind : Kind V O R T) (table : PlainTable V O R T) : Type 0 where
    pub buildable : IsBuildable table.config table.first.items
    pub number : table.number < table.config.trustees
    pub good : IsGood kind (opening_at table) (core_at table)
    pub shows : ShowsCore table.places.items (core_at table)

  -- a client's side is that of a slot of a table. That it is good follows; it is told here, where the laws of the table can read it
  pub record IsClientOf (kind : Kind V O R T) (table : PlainTable V O R T) (side : PlainClient V O R T) : Type 0 where
    pub of_table : IsTable kind table
    pub in_range : side.place < place_count (opening_at table).setup
    pub view : client_at side ≡ client_of side.place (slot_of (core_at table) side.place)
    pub is_good : IsGoodClient kind (opening_at table) (client_at side)

  -- a trustee's side is that of a table, and good likewise
  pub record IsTrusteeOf (kind : Kind V O R T) (table : PlainTable V O R T) (side : PlainTrustee V O R T) : Type 0 where
    pub of_table : IsTable kind table
    pub view : trustee_at side ≡ trustee_of (core_at table)
    pub is_good : IsGoodTrustee kind (opening_at table) (trustee_at side)

  -- tables that opened in one state
  abbrev pub OpenAlike : PlainTable V O R T → PlainTable V O R T → Type 0
  OpenAlike a b = opening_at a ≡ opening_at b

  -- a table did one call: it found what stands in the slot, and the core, which is the words, the boxes, what was sent, got and seen,
  -- the floors, the looks and the log, is exactly what the call leaves
  pub record HasDone (move : Move V O R T) (old new : PlainTable V O R T) : Type 0 where
    pub may : MayCome move (core_at old)
    pub core : core_at new ≡ after_move move (core_at old)

  -- what a table in one thread tells
  abbrev pub plain_theory : Kind V O R T → Theory V O R T (PlainTable V O R T) (PlainClient V O R T) (PlainTrustee V O R T)
  plain_theory kind = record {
    opening = λ table. opening_at table;
    client_view = λ side. client_at side;
    trustee_view = λ side. trustee_at side;
    HasClient = λ table side. IsClientOf kind table side;
    HasTrustee = λ table side. IsTrusteeOf kind table side;
    Same = λ a b. OpenAlike a b;
    Did = λ move old new. HasDone move old new;
  }

  -- it meets the laws of a table
  pub plain_laws : (kind : Kind V O R T) → TheoryLaws (plain_theory kind) kind
  plain_laws kind = record {
    client_is_good = λ table side has. has.is_good;
    trustee_is_good = λ table side has. has.is_good;
    same_refl = λ a. refl;
    same_sym = λ a b e. sym e;
    same_trans = λ a b c e f. e ∙ f;
    same_opens = λ a b e. sym e;
  }
