-- Sides of a table in one thread show its one core, which is good.
use Rattle.std.proofs.Common.{◌<◌, ℕ, [], length, sym, subst, append-nil}
use Rattle.tm_seq.specs.Kind.{Kind}
use Rattle.tm_model.specs.State.{place_count}
use Rattle.tm_model.specs.Lists.{IsPrefix}
use Rattle.tm_model.specs.Slots.{slot_of}
use Rattle.tm_core.proofs.Agreeing.{seen_logs_agree, fronts_agree}
use Rattle.tm_pair.specs.Views.{ClientView}
use Rattle.tm_pair.specs.SideViews.{client_of, trustee_of}
use Rattle.tm_pair.specs.Plain.{opening_at, core_at, client_at, trustee_at, IsTable, IsClientOf, IsTrusteeOf}
use Rattle.tm_pair.specs.declared.plain.PlainTable.{PlainTable}
use Rattle.tm_pair.specs.declared.plain.PlainClient.{PlainClient}
use Rattle.tm_pair.specs.declared.plain.PlainTrustee.{PlainTrustee}
use Rattle.tm_pair.specs.Meets.{Meets, Follows}

module _ {V O R T : Type 0} (kind : Kind V O R T) (table : PlainTable V O R T) where
  slot_in_range : (c : ℕ) → IsTable kind table → c < place_count (opening_at table).setup → c < length (core_at table).slots
  slot_in_range c of lt = subst (λ n. c < n) (sym of.good.places) lt

  -- two clients' sides
  pub clients_meet : (one other : PlainClient V O R T) → IsClientOf kind table one → IsClientOf kind table other → Meets (client_at one) (client_at other)
  clients_meet one other is also =
      let of = is.of_table in
      let core = core_at table in
      let in_one = slot_in_range one.place of is.in_range in
      let in_other = slot_in_range other.place of also.in_range in
      let there = seen_logs_agree kind (opening_at table) core one.place other.place of.good in_one in_other in
      let back = seen_logs_agree kind (opening_at table) core other.place one.place of.good in_other in_one in
      let shown : Meets (client_of one.place (slot_of core one.place)) (client_of other.place (slot_of core other.place)) =
      record { begins = there.0; one_sent = back.1; other_sent = there.1 } in
      subst (λ (v : ClientView V O R T). Meets v (client_at other)) (sym is.view)
      (subst (λ (v : ClientView V O R T). Meets (client_of one.place (slot_of core one.place)) v) (sym also.view) shown)

  -- the trustee's side and a client's
  pub side_follows : (home : PlainTrustee V O R T) (side : PlainClient V O R T) → IsTrusteeOf kind table home → IsClientOf kind table side → Follows (trustee_at home) (client_at side)
  side_follows home side is also =
      let of = is.of_table in
      let core = core_at table in
      let whole : IsPrefix core.log core.log = ([], sym (append-nil core.log)) in
      let lt = slot_in_range side.place of also.in_range in
      let fronts = fronts_agree kind (opening_at table) core core.log core.log side.place of.good whole whole lt in
      let shown : Follows (trustee_of core) (client_of side.place (slot_of core side.place)) = record { begins = fronts.3; sent = fronts.2 } in
      subst (λ v. Follows v (client_at side)) (sym is.view) (subst (λ (v : ClientView V O R T). Follows (trustee_of core) v) (sym also.view) shown)
