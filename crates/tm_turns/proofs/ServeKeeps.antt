-- A serving turn keeps the whole of one build.
use Rattle.std.proofs.Common.{◌≡◌, ◌≢◌, ℕ, ◌+◌, ◌≤◌, inl, inr, List, length, length-set, sym, ◌∙◌, ap, subst, arith}
use Rattle.std.proofs.lemmas.Bool.{cases_order}
use Rattle.std.specs.Prelude.{slice_get, slice_set, vec_capacity}
use Rattle.std.specs.declared.option.Option.TheVariants.{Some}
use Rattle.tm_seq.specs.Kind.{Kind}
use Rattle.tm_batch.specs.declared.config.Config.{Config}
use Rattle.tm_batch.specs.declared.config.First.{First}
use Rattle.tm_model.specs.State.{State}
use Rattle.tm_model.specs.Opening.{opening_of}
use Rattle.tm_pair.specs.Plain.{opening_at, client_at, IsClientOf, IsTrusteeOf, plain_theory}
use Rattle.tm_pair.specs.declared.plain.PlainTable.{PlainTable}
use Rattle.tm_pair.specs.declared.plain.PlainClient.{PlainClient}
use Rattle.tm_pair.specs.declared.plain.PlainTrustee.{PlainTrustee}
use Rattle.tm_trustee.proofs.Elements.{set_cases, same_element, there_too}
use Rattle.tm_trustee.specs.Tables.{IsReady, KeepsTables}
use Rattle.tm_trustee.specs.Turn.{KeepsParts}
use Rattle.tm_trustee.proofs.TurningReady.{at_home, own_table}
use Rattle.tm_turns.specs.Whole.{OneClient, OneLane, OneTrustee, AreOf, Keeps}
use Rattle.tm_turns.specs.declared.turns.Turns.{Turns}
use Rattle.tm_turns.proofs.Staying.{still_ready}
use Rattle.tm_turns.proofs.TurnKeeps.{place_of_lane, client_below}

module _ {V C O R T : Type 0} (kind : Kind V O R T) where
  -- a trustee of one build knows how many clients there are
  pub clients_of :
      (config : Config) (first : List (First V)) (turns : Turns V C O R T) (t : ℕ) (trustee : OneTrustee V O R T)
      → AreOf kind config first turns → slice_get turns.trustees.items t ≡ Some trustee → trustee.clients ≡ config.clients
  clients_of config first turns t trustee are at =
      let (number, ready) = are.trustees t trustee at in
      let (own, at_own) = own_table (plain_theory kind) kind turns.tables.items trustee ready in
      let home = at_home (plain_theory kind) kind turns.tables.items trustee own ready at_own in
      home.1.clients ∙ ap (λ (s : State V O R T). s.setup.config.clients) (are.tables trustee.number own at_own)

  -- what a serving turn of trustee t was
  pub record IsServing (t : ℕ) (old new : Turns V C O R T) : Type 0 where
    pub trustee : OneTrustee V O R T
    pub becomes : OneTrustee V O R T
    pub of_trustee : slice_get old.trustees.items t ≡ Some trustee
    pub ready : IsReady (plain_theory kind) kind new.tables.items becomes
    pub keeps : KeepsTables (plain_theory kind) old.tables.items new.tables.items trustee.number (trustee.clients + trustee.number)
    pub parts : KeepsParts trustee becomes
    pub trustees : new.trustees.items ≡ slice_set old.trustees.items t becomes
    pub clients : new.clients ≡ old.clients
    pub counts : new.counts ≡ old.counts

  module _ (t : ℕ) (old new : Turns V C O R T) (is : IsServing t old new)
      (config : Config) (first : List (First V)) (are : AreOf kind config first old) where
    number_is : is.trustee.number ≡ t
    number_is = (are.trustees t is.trustee is.of_trustee).0

    kept : KeepsTables (plain_theory kind) old.tables.items new.tables.items t (config.clients + t)
    kept =
        subst (λ m. KeepsTables (plain_theory kind) old.tables.items new.tables.items m (config.clients + m)) number_is
        (
        subst (λ n. KeepsTables (plain_theory kind) old.tables.items new.tables.items is.trustee.number (n + is.trustee.number))
        (clients_of config first old t is.trustee are is.of_trustee) is.keeps
        )

    one_table :
        (k : ℕ) (table : PlainTable V O R T) → slice_get new.tables.items k ≡ Some table → opening_at table ≡ opening_of k config first
    one_table k table e =
        let (was, at) = there_too new.tables.items old.tables.items k table (sym kept.as_many) e in
        kept.openings k was table at e ∙ are.tables k was at

    -- a side of another place than the one that trustee t has above stays one of its table
    side_stays :
        (k : ℕ) (x y : PlainTable V O R T) (side : PlainClient V O R T) → slice_get old.tables.items k ≡ Some x → slice_get new.tables.items k ≡ Some y
        → (client_at side).place ≢ config.clients + t → IsClientOf kind x side → IsClientOf kind y side
    side_stays k x y side ex ey ne has =
        elim (cases_order k t) [
          | inl same ↦
              kept.clients_here x y (subst (λ m. slice_get old.tables.items m ≡ Some x) same ex) (subst (λ m. slice_get new.tables.items m ≡ Some y) same ey)
              side has
          | inr (inl lt) ↦
              subst (λ z. IsClientOf kind z side) (sym (same_element old.tables.items k x y ex (sym (kept.lower k lt) ∙ ey))) has
          | inr (inr lt) ↦ (kept.others_above k x y lt ex ey).clients side ne has
        ]

    -- so does the own side of another trustee
    owner_stays :
        (k : ℕ) (x y : PlainTable V O R T) (side : PlainTrustee V O R T) → k ≢ t → slice_get old.tables.items k ≡ Some x → slice_get new.tables.items k ≡ Some y
        → IsTrusteeOf kind x side → IsTrusteeOf kind y side
    owner_stays k x y side ne ex ey has =
        elim (cases_order k t) [
          | inl same ↦ absurd (ne same)
          | inr (inl lt) ↦
              subst (λ z. IsTrusteeOf kind z side) (sym (same_element old.tables.items k x y ex (sym (kept.lower k lt) ∙ ey))) has
          | inr (inr lt) ↦ (kept.others_above k x y lt ex ey).trustee side has
        ]

    one_trustee :
        (k : ℕ) (trustee : OneTrustee V O R T) → slice_get new.trustees.items k ≡ Some trustee
        → (trustee.number ≡ k) × IsReady (plain_theory kind) kind new.tables.items trustee
    one_trustee k trustee e =
        elim (set_cases old.trustees.items t k is.becomes trustee (subst (λ xs. slice_get xs k ≡ Some trustee) is.trustees e)) [
          | inl h ↦
              subst (λ x. (x.number ≡ k) × IsReady (plain_theory kind) kind new.tables.items x) (sym h.1) (is.parts.number ∙ number_is ∙ sym h.0, is.ready)
          | inr h ↦
              let (number, ready) = are.trustees k trustee h.1 in
              let clients = clients_of config first old k trustee are h.1 in
              let other = h.0 in (
                number,
                still_ready (plain_theory kind) kind old.tables.items new.tables.items trustee kept.as_many kept.openings
                    (λ x y ex ey has. owner_stays trustee.number x y trustee.side (λ same. other (sym number ∙ same)) ex ey has)
                    (λ i x y seat lt ex ey up has. side_stays i x y seat ex ey (λ same. other (omega (arith, up, same, clients, number))) has)
                    ready,
              )
        ]

    lane_seated :
        (k s : ℕ) (client : OneClient V C O R T) (lane : OneLane V C O R T) (table : PlainTable V O R T) → slice_get old.clients.items k ≡ Some client
        → slice_get client.books.lanes.items s ≡ Some lane → slice_get new.tables.items s ≡ Some table → IsClientOf kind table lane.side
    lane_seated k s client lane table e of at =
        let (was, at_was) = there_too new.tables.items old.tables.items s table (sym kept.as_many) at in
        let has = are.seated k s lane was (record { client = client; of_client = e; of_lane = of }) at_was in
        let place = place_of_lane kind config first old k s client lane are e of in
        let below = client_below kind config first old k s client lane are e of in
        side_stays s was table lane.side at_was at (λ same. absurd (omega (arith, place, same, below))) has

    keeps_all : AreOf kind config first new
    keeps_all = record {
      buildable = are.buildable;
      as_many_clients = ap (λ xs. length xs.items) is.clients ∙ are.as_many_clients;
      as_many_tables = kept.as_many ∙ are.as_many_tables;
      as_many_trustees = ap (λ xs. length xs) is.trustees ∙ length-set old.trustees.items t is.becomes ∙ are.as_many_trustees;
      tables = one_table;
      trustees = one_trustee;
      clients = λ k client e. are.clients k client (subst (λ xs. slice_get xs.items k ≡ Some client) is.clients e);
      seated = λ k s lane table has at.
          lane_seated k s has.client lane table (subst (λ xs. slice_get xs.items k ≡ Some has.client) is.clients has.of_client) has.of_lane at;
      counts = ap (λ xs. xs.items) is.counts ∙ are.counts;
      counts_room = subst (λ xs. config.trustees ≤ vec_capacity xs) (sym is.counts) are.counts_room;
    }

  pub serve_keeps : (t : ℕ) (old new : Turns V C O R T) → IsServing t old new → Keeps kind old new
  serve_keeps t old new is config first are = keeps_all t old new is config first are
