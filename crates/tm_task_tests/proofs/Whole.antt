-- Tasks take turns through the only client of a runtime, and all stays of one build.
use Rattle.std.proofs.Common.{◌≡◌, ℕ, ◌≤◌, inl, inr, List, length, length-set, sym, ◌∙◌, ap, subst, arith}
use Rattle.std.specs.Prelude.{slice_get, slice_set, vec_capacity}
use Rattle.std.specs.declared.option.Option.TheVariants.{Some}
use Rattle.std.proofs.lemmas.Option.{slice_get_within}
use Rattle.tm_seq.specs.Kind.{Kind}
use Rattle.tm_batch.specs.declared.config.Config.{Config}
use Rattle.tm_batch.specs.declared.config.First.{First}
use Rattle.tm_batch.specs.declared.limits.TheConstants.{MOST_TRUSTEES}
use Rattle.tm_model.specs.State.{State}
use Rattle.tm_model.specs.Opening.{opening_of}
use Rattle.tm_pair.specs.Plain.{plain_theory}
use Rattle.tm_pair.specs.declared.plain.PlainTable.{PlainTable}
use Rattle.tm_trustee.proofs.Elements.{set_cases}
use Rattle.tm_client.specs.Clients.{IsClient}
use Rattle.tm_task.specs.Ours.{AreTables}
use Rattle.tm_turns.specs.Whole.{OneClient, OneLane, AreOf}
use Rattle.tm_turns.specs.declared.turns.Turns.{Turns}
use Rattle.tm_turns.proofs.TurnKeeps.{place_of_lane}
use Rattle.tm_task_tests.proofs.Standing.{Stands}

module _ {V O R K : Type 0} (kind : Kind V O R K) (config : Config) (first : List (First V)) where
  -- the states in which the trustees opened
  abbrev pub openings : ℕ → State V O R K
  openings t = opening_of t config first

  -- a client of one build is one of the runtime's tables
  pub tables_of :
      (c : ℕ) (turns : Turns V ℕ O R K) (client : OneClient V ℕ O R K) → AreOf kind config first turns → slice_get turns.clients.items c ≡ Some client
      → AreTables (plain_theory kind) openings client.books turns.tables.items
  tables_of c turns client are at = record {
    limit = subst (λ n. n ≤ MOST_TRUSTEES) (sym are.as_many_tables) are.buildable.trustees.1;
    as_many = let (number, many, is) = are.clients c client at in are.as_many_tables ∙ sym many;
    mine = λ t table lane e of. are.seated c t lane table (record { client = client; of_client = at; of_lane = of }) e;
    opens = λ t table e. sym (are.tables t table e);
  }

  -- each is ready at first
  pub stands_first :
      (c : ℕ) (turns : Turns V ℕ O R K) (client : OneClient V ℕ O R K) → AreOf kind config first turns → slice_get turns.clients.items c ≡ Some client
      → Stands kind c config first turns.trustees.items client.books turns.tables.items
  stands_first c turns client are at = record {
    number = (are.clients c client at).0;
    places = λ t lane of. place_of_lane kind config first turns c t client lane are at of;
    many = are.as_many_tables;
    opens = are.tables;
    ready = are.trustees;
  }

  module _ (old new : Turns V ℕ O R K) (client becomes : OneClient V ℕ O R K) (are : AreOf kind config first old) (one : config.clients ≡ 1)
      (clients : new.clients.items ≡ slice_set old.clients.items 0 becomes) (trustees : new.trustees ≡ old.trustees) (counts : new.counts ≡ old.counts)
      (stands : Stands kind 0 config first old.trustees.items becomes.books new.tables.items)
      (tables : AreTables (plain_theory kind) openings becomes.books new.tables.items)
      (is : IsClient (plain_theory kind).client_view openings becomes.books) where
    one_client :
        (k : ℕ) (now : OneClient V ℕ O R K) → slice_get new.clients.items k ≡ Some now
        → (now.books.number ≡ k) × (length now.books.lanes.items ≡ config.trustees)
        × IsClient (plain_theory kind).client_view openings now.books
    one_client k now e =
        elim (set_cases old.clients.items 0 k becomes now (subst (λ xs. slice_get xs k ≡ Some now) clients e)) [
          | inl h ↦
              subst
              (λ (x : OneClient V ℕ O R K).
              (x.books.number ≡ k) × (length x.books.lanes.items ≡ config.trustees)
              × IsClient (plain_theory kind).client_view openings x.books)
              (sym h.1) (stands.number ∙ sym h.0, sym tables.as_many ∙ stands.many, is)
          | inr h ↦ are.clients k now h.1
        ]

    -- there is no other client
    lane_seated :
        (k s : ℕ) (now : OneClient V ℕ O R K) (lane : OneLane V ℕ O R K) (table : PlainTable V O R K) → slice_get new.clients.items k ≡ Some now
        → slice_get now.books.lanes.items s ≡ Some lane → slice_get new.tables.items s ≡ Some table → (plain_theory kind).HasClient table lane.side
    lane_seated k s now lane table e of at =
        elim (set_cases old.clients.items 0 k becomes now (subst (λ xs. slice_get xs k ≡ Some now) clients e)) [
          | inl h ↦ tables.mine s table lane at (subst (λ (x : OneClient V ℕ O R K). slice_get x.books.lanes.items s ≡ Some lane) h.1 of)
          | inr h ↦
              let within = slice_get_within old.clients.items k now h.1 in
              let many = are.as_many_clients in
              let none : k ≡ 0 = omega (arith, within, many, one) in
              absurd (h.0 none)
        ]

    pub keeps_build : AreOf kind config first new
    keeps_build = record {
      buildable = are.buildable;
      as_many_clients = ap (λ xs. length xs) clients ∙ length-set old.clients.items 0 becomes ∙ are.as_many_clients;
      as_many_tables = stands.many;
      as_many_trustees = ap (λ xs. length xs.items) trustees ∙ are.as_many_trustees;
      tables = stands.opens;
      trustees = λ k trustee e. stands.ready k trustee (subst (λ xs. slice_get xs.items k ≡ Some trustee) trustees e);
      clients = one_client;
      seated = λ c t lane table has at. lane_seated c t has.client lane table has.of_client has.of_lane at;
      counts = ap (λ xs. xs.items) counts ∙ are.counts;
      counts_room = subst (λ xs. config.trustees ≤ vec_capacity xs) (sym counts) are.counts_room;
    }
