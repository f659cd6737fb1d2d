-- The sides of a table at first are its sides.
use Rattle.std.proofs.Common.{◌≡◌, ℕ, ◌<◌, List, [], ◌∷◌, ◌++◌, length, slice_index_or, replicate, inl, inr, refl, sym, ◌∙◌, ap, subst, arith, length-append}
use Rattle.std.specs.Prelude.{vec_len}
use Rattle.std.specs.Arc.{arc_value}
use Rattle.std.proofs.lemmas.Bool.{cases_eq}
use Rattle.std.proofs.Math.ListN.{get_or-append}
use Rattle.std.proofs.Math.Seq.{get_or-append_seam}
use lib.ListN.{length-replicate}
use Rattle.atomic_table.specs.Seated.{TableId}
use Rattle.tm_seq.specs.Kind.{Kind}
use Rattle.tm_model.specs.State.{place_count}
use Rattle.tm_model.specs.Opening.{IsBuildable}
use Rattle.tm_model.specs.Slots.{slot_of, first_core}
use Rattle.tm_model.specs.Good.{FullSlot, FullCore}
use Rattle.tm_model.specs.Laws.{IsOpening}
use Rattle.tm_core.proofs.First.{first_is_good}
use Rattle.tm_pair.specs.Sides.{IsGoodClient, IsGoodTrustee}
use Rattle.tm_pair.specs.SideViews.{client_of}
use Rattle.tm_pair.specs.Theory.{IsNewClientOf, IsNewTable}
use Rattle.tm_pair.proofs.Standing.{client_good, trustee_good}
use Rattle.tm_pair.proofs.Calling.{first_trustee}
use Rattle.tm_toggle.specs.Ruled.{bit, opening_in, opening_by, client_in, trustee_in}
use Rattle.tm_toggle.specs.Plays.{Sat, asks, replies}
use Rattle.tm_toggle.specs.Shared.{opening_at, id_of, client_at, trustee_at, IsSized, IsTrusteeOf, shared_theory}
use Rattle.tm_toggle.specs.Opened.{maker, IsFirstSide, AreFirstSides}
use Rattle.tm_toggle.specs.declared.sides.Key.{Key}
use Rattle.tm_toggle.specs.declared.sides.SharedClient.{SharedClient}
use Rattle.tm_toggle.specs.declared.sides.SharedTrustee.{SharedTrustee}
use Rattle.tm_toggle.specs.declared.shared.SharedTable.{SharedTable}
use Rattle.tm_toggle.proofs.Facts.{off}
use Rattle.tm_toggle.proofs.Starting.{always, fresh_slot}

module _ {V O R T : Type 0} where
  pub no_sides : (key : Key V O R T) (z : TableId) (sides : List (SharedClient V O R T)) → sides ≡ [] → AreFirstSides key z sides
  unfolding AreFirstSides
  no_sides key z sides e = rw e (λ c side lt is. absurd (omega (arith, lt)))

  pub one_more_side :
      (key : Key V O R T) (z : TableId) (old : List (SharedClient V O R T)) (side : SharedClient V O R T) (new : List (SharedClient V O R T)) (n : ℕ) → new ≡ old ++ side ∷ [] → n ≡ length old
      → AreFirstSides key z old → IsFirstSide key z n side → AreFirstSides key z new
  unfolding AreFirstSides
  one_more_side key z old side new n e len all own = rw e (λ c d lt is.
      elim (cases_eq c (length old)) [
        | inl at ↦
            let there : d ≡ side = is ∙ ap (λ k. slice_index_or (old ++ side ∷ []) k d) at ∙ get_or-append_seam old side [] d in
            subst (λ k. IsFirstSide key z k d) (len ∙ sym at) (subst (λ s. IsFirstSide key z n s) (sym there) own)
        | inr ne ↦
            let before : c < length old = omega (arith, lt, length-append old (side ∷ []), ne) in
            all c d before (is ∙ get_or-append old (side ∷ []) d c before)
      ])

  module _ (kind : Kind V O R T) (table : SharedTable V O R T) (key : Key V O R T) (keyed : (arc_value table.table).shared.key ≡ key)
      (buildable : IsBuildable key.config key.first.items) (number : key.number < key.config.trustees)
      (sized : IsSized (opening_by key) (id_of table)) where
    begins : opening_at table ≡ opening_by key
    begins = ap opening_by keyed

    opens : IsOpening (opening_by key)
    opens = (key.number, key.config, key.first.items, buildable, number, refl)

    first_client : (c : ℕ) (side : SharedClient V O R T) → c < place_count (opening_by key).setup → IsFirstSide key (id_of table) c side → IsNewClientOf (shared_theory kind) table c side
    first_client c side lt own =
        let n = place_count (opening_by key).setup in
        let y = own.me.0 in
        let e = own.me.1 in
        let core : FullCore V O R T = first_core n in
        let none : FullCore V O R T = first_core 0 in
        let good : IsGoodClient kind (opening_by key) (client_of c (slot_of core c)) =
        client_good kind (opening_by key) core c opens (first_is_good kind (opening_by key) opens) (subst (λ k. c < k) (sym (first_is_good kind (opening_by key) opens).places) lt) in
        let new : IsGoodClient kind (opening_by key) (client_of c (slot_of none c)) = subst (λ (x : FullSlot V O R T). IsGoodClient kind (opening_by key) (client_of c x)) (fresh_slot n c) good in
        record {
          mine = record {
            same = own.same;
            opening_is = ap (λ (x : Sat V O R T). opening_in x.0) e ∙ sym begins;
            sized = subst (λ o. IsSized o (id_of table)) (sym begins) sized;
            client = ap (λ (x : Sat V O R T). x.0.trustee) e;
            plain = ap (λ (x : Sat V O R T). x.0.note) e;
            settled = ap (λ (x : Sat V O R T). x.0.settled) e;
            place = ap (λ (x : Sat V O R T). x.0.place) e ∙ sym own.place;
            in_range = subst (λ (k : ℕ). k < (id_of table).slots) (sym own.place) (subst (λ (k : ℕ). c < k) (sym sized.slots) lt);
            word = own.word ∙ sym (ap (λ (x : Sat V O R T). bit (asks x.0.past.items side.place)) e);
            free = λ _. (
              ap (λ (x : Sat V O R T). (client_in x.0.place x.0.past.items).out) e,
              (y, ap (λ (x : Sat V O R T). x.1) e ∙ ap (λ (k : ℕ). (k, y) ∷ []) (sym own.place), own.me.2),
            );
            away = λ o. absurd (off (sym o ∙ own.out));
            good = subst (λ o. IsGoodClient kind o (client_at side)) (sym begins)
                (subst (λ (x : Sat V O R T). IsGoodClient kind (opening_by key) (client_in x.0.place x.0.past.items)) (sym e) new);
          };
          view = ap (λ (x : Sat V O R T). client_in x.0.place x.0.past.items) e;
        }

    first_owner :
        (side : SharedTrustee V O R T) (made : ℕ) → side.seat.table_id ≡ id_of table → side.seat.me ≡ (maker key made, [])
        → side.words.items ≡ replicate (place_count (opening_by key).setup) 0 → vec_len side.words ≡ place_count (opening_by key).setup
        → IsTrusteeOf kind table side
    first_owner side made same e words len =
        let n = place_count (opening_by key).setup in
        let z : ℕ = 0 in
        record {
          same = same;
          opening_is = ap (λ (x : Sat V O R T). opening_in x.0) e ∙ sym begins;
          sized = subst (λ o. IsSized o (id_of table)) (sym begins) sized;
          trustee = ap (λ (x : Sat V O R T). x.0.trustee) e;
          plain = ap (λ (x : Sat V O R T). x.0.note) e;
          down = ap (λ (x : Sat V O R T). x.0.up) e;
          nothing = ap (λ (x : Sat V O R T). x.1) e;
          count = ap length words ∙ length-replicate n z ∙ sym sized.slots;
          len = len ∙ sym sized.slots;
          words = λ c l. ap (λ (w : List ℕ). slice_index_or w c 0) words ∙ always n c z ∙ sym (ap (λ (x : FullSlot V O R T). bit x.response_word) (fresh_slot n c))
              ∙ sym (ap (λ (x : Sat V O R T). bit (replies x.0.past.items c)) e);
          good = subst (λ o. IsGoodTrustee kind o (trustee_at side)) (sym begins)
              (subst (λ (x : Sat V O R T). IsGoodTrustee kind (opening_by key) (trustee_in x.0.past.items)) (sym e)
              (trustee_good kind (opening_by key) (first_core n) opens (first_is_good kind (opening_by key) opens)));
        }

    pub is_new :
        (clients : List (SharedClient V O R T)) (side : SharedTrustee V O R T) (made : ℕ) → length clients ≡ place_count (opening_by key).setup
        → AreFirstSides key (id_of table) clients → side.seat.table_id ≡ id_of table → side.seat.me ≡ (maker key made, [])
        → side.words.items ≡ replicate (place_count (opening_by key).setup) 0 → vec_len side.words ≡ place_count (opening_by key).setup
        → IsNewTable (shared_theory kind) (opening_by key) table clients side
    unfolding AreFirstSides
    is_new clients side made count all same e words len = record {
      opens = begins;
      count = count;
      clients_are = λ c client lt is. first_client c client (subst (λ k. c < k) count lt) (all c client lt is);
      mine = first_owner side made same e words len;
      view = ap (λ (x : Sat V O R T). trustee_in x.0.past.items) e ∙ first_trustee (place_count (opening_by key).setup);
    }
