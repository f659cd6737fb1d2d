-- What a table for many threads and its sides stand for.
use Rattle.std.proofs.Common.{◌≡◌, ℕ, ◌+◌, ◌*◌, ◌<◌, true, false, List, [], ◌∷◌, length, vec_len, slice_index, refl, sym, ◌∙◌, ap}
use Rattle.std.specs.declared.option.Option.TheVariants.{None, Some}
use Rattle.std.specs.Arc.{arc_value}
use Rattle.atomic_table.specs.Seated.{TableId}
use Rattle.tm_seq.specs.Kind.{Kind}
use Rattle.tm_model.specs.State.{State, place_count}
use Rattle.tm_pair.specs.Views.{BatchView, ClientView, TrusteeView}
use Rattle.tm_pair.specs.Sides.{IsGoodClient, IsGoodTrustee}
use Rattle.tm_toggle.specs.Ruled.{bit, opening_by, opening_in, client_in, trustee_in}
use Rattle.tm_toggle.specs.Plays.{asks, replies}
use Rattle.tm_pair.specs.Theory.{Theory, TheoryLaws}
use Rattle.tm_pair.specs.declared.moves.Move.{Move}
use Rattle.tm_toggle.specs.Contents.{IsClear}
use Rattle.tm_toggle.specs.declared.content.Content.{Content}
use Rattle.tm_toggle.specs.declared.view.View.{View}
use Rattle.tm_toggle.specs.declared.sides.SharedClient.{SharedClient}
use Rattle.tm_toggle.specs.declared.sides.SharedTrustee.{SharedTrustee}
use Rattle.tm_toggle.specs.declared.shared.SharedTable.{SharedTable}

module _ {V O R T : Type 0} where
  abbrev pub opening_at : SharedTable V O R T → State V O R T
  opening_at table = opening_by (arc_value table.table).shared.key

  abbrev pub id_of : SharedTable V O R T → TableId
  id_of table = (arc_value table.table).shared.table_id

  -- what a side knows
  abbrev pub client_knows : SharedClient V O R T → View V O R T
  client_knows side = side.seat.me.0

  abbrev pub trustee_knows : SharedTrustee V O R T → View V O R T
  trustee_knows side = side.seat.me.0

  abbrev pub client_at : SharedClient V O R T → ClientView V O R T
  client_at side = client_in (client_knows side).place (client_knows side).past.items

  abbrev pub trustee_at : SharedTrustee V O R T → TrusteeView V O R T
  trustee_at side = trustee_in (trustee_knows side).past.items

  -- the words and the slots of a table for so many places
  pub record IsSized (opening : State V O R T) (z : TableId) : Type 0 where
    pub words : z.words ≡ 32 * z.slots + 48
    pub slots : z.slots ≡ place_count opening.setup
    pub few : z.slots < 1048576

  pub record IsClientOf (kind : Kind V O R T) (table : SharedTable V O R T) (side : SharedClient V O R T) : Type 0 where
    pub same : side.seat.table_id ≡ id_of table
    pub opening_is : opening_in (client_knows side) ≡ opening_at table
    pub sized : IsSized (opening_at table) (id_of table)
    pub client : (client_knows side).trustee ≡ false
    pub plain : (client_knows side).note ≡ false
    pub settled : (client_knows side).settled ≡ true
    pub place : (client_knows side).place ≡ side.place
    pub in_range : side.place < (id_of table).slots
    pub word : side.word ≡ bit (asks (client_knows side).past.items side.place)
    pub free : side.out ≡ false → ((client_at side).out ≡ None) × ((y : Content V O R T) × (side.seat.me.1 ≡ (side.place, y) ∷ []) × IsClear y)
    pub away : side.out ≡ true → ((batch : BatchView V O R T) × ((client_at side).out ≡ Some batch)) × (side.seat.me.1 ≡ [])
    pub good : IsGoodClient kind (opening_at table) (client_at side)

  pub record IsTrusteeOf (kind : Kind V O R T) (table : SharedTable V O R T) (side : SharedTrustee V O R T) : Type 0 where
    pub same : side.seat.table_id ≡ id_of table
    pub opening_is : opening_in (trustee_knows side) ≡ opening_at table
    pub sized : IsSized (opening_at table) (id_of table)
    pub trustee : (trustee_knows side).trustee ≡ true
    pub plain : (trustee_knows side).note ≡ false
    pub down : (trustee_knows side).up ≡ 0
    pub nothing : side.seat.me.1 ≡ []
    pub count : length side.words.items ≡ (id_of table).slots
    pub len : vec_len side.words ≡ (id_of table).slots
    pub words : (c : ℕ) → c < (id_of table).slots → slice_index side.words.items c ≡ bit (replies (trustee_knows side).past.items c)
    pub good : IsGoodTrustee kind (opening_at table) (trustee_at side)

  -- what a side's calls so far were, among all at the table up to its last
  abbrev pub client_past : SharedClient V O R T → List (Move V O R T)
  client_past side = (client_knows side).past.items

  abbrev pub trustee_past : SharedTrustee V O R T → List (Move V O R T)
  trustee_past side = (trustee_knows side).past.items

  -- two handles of one table
  pub record IsSame (a b : SharedTable V O R T) : Type 0 where
    pub id : id_of b ≡ id_of a
    pub key : (arc_value b.table).shared.key ≡ (arc_value a.table).shared.key

  -- what a table for many threads tells: a call changes nothing of a handle
  abbrev pub shared_theory : Kind V O R T → Theory V O R T (SharedTable V O R T) (SharedClient V O R T) (SharedTrustee V O R T)
  shared_theory kind = record {
    opening = λ table. opening_at table;
    client_view = λ side. client_at side;
    trustee_view = λ side. trustee_at side;
    HasClient = λ table side. IsClientOf kind table side;
    HasTrustee = λ table side. IsTrusteeOf kind table side;
    Same = λ a b. IsSame a b;
    Did = λ move old new. Unit {0};
  }

  -- it meets the laws of a table
  pub shared_laws : (kind : Kind V O R T) → TheoryLaws (shared_theory kind) kind
  shared_laws kind = record {
    client_is_good = λ table side has. has.good;
    trustee_is_good = λ table side has. has.good;
    same_refl = λ a. record { id = refl; key = refl };
    same_sym = λ a b e. record { id = sym e.id; key = sym e.key };
    same_trans = λ a b c e f. record { id = f.id ∙ e.id; key = f.key ∙ e.key };
    same_opens = λ a b e. ap opening_by e.key;
  }
