-- The sides of a table in one thread are good.
use Rattle.std.proofs.Common.{◌≡◌, ◌<◌, refl, sym, subst}
use Rattle.tm_seq.specs.Kind.{Kind}
use Rattle.tm_model.specs.State.{place_count}
use Rattle.tm_model.specs.Slots.{slot_of}
use Rattle.tm_model.specs.Laws.{IsOpening}
use Rattle.tm_pair.specs.Sides.{IsGoodClient, IsGoodTrustee}
use Rattle.tm_pair.specs.SideViews.{client_of, trustee_of}
use Rattle.tm_pair.specs.Plain.{opening_at, core_at, client_at, trustee_at, IsTable, IsClientOf, IsTrusteeOf}
use Rattle.tm_pair.specs.declared.plain.PlainTable.{PlainTable}
use Rattle.tm_pair.specs.declared.plain.PlainClient.{PlainClient}
use Rattle.tm_pair.specs.declared.plain.PlainTrustee.{PlainTrustee}
use Rattle.tm_pair.proofs.Standing.{client_good, trustee_good}

module _ {V O R T : Type 0} (kind : Kind V O R T) (table : PlainTable V O R T) (of : IsTable kind table) where
  -- a table opened as one may
  pub opens : IsOpening (opening_at table)
  opens = (table.number, table.config, table.first.items, of.buildable, of.number, refl)

  -- what shows a slot of a table is a side of it
  pub is_client :
      (side : PlainClient V O R T) → side.place < place_count (opening_at table).setup
      → client_at side ≡ client_of side.place (slot_of (core_at table) side.place) → IsClientOf kind table side
  is_client side lt view =
      let within = subst (λ n. side.place < n) (sym of.good.places) lt in
      record {
        of_table = of;
        in_range = lt;
        view = view;
        is_good = subst (λ v. IsGoodClient kind (opening_at table) v) (sym view)
            (client_good kind (opening_at table) (core_at table) side.place opens of.good within);
      }

  -- what shows the core of a table is the trustee's side of it
  pub is_trustee : (side : PlainTrustee V O R T) → trustee_at side ≡ trustee_of (core_at table) → IsTrusteeOf kind table side
  is_trustee side view = record {
    of_table = of;
    view = view;
    is_good = subst (λ v. IsGoodTrustee kind (opening_at table) v) (sym view) (trustee_good kind (opening_at table) (core_at table) opens of.good);
  }
