-- What a client's turn and a serving turn ask for holds of the whole.
use Rattle.std.proofs.Common.{◌≡◌, ℕ, ◌<◌, length, sym, arith}
use Rattle.std.specs.Prelude.{slice_get}
use Rattle.std.specs.declared.option.Option.TheVariants.{Some}
use Rattle.std.proofs.lemmas.Option.{slice_get_within}
use Rattle.tm_seq.specs.Kind.{Kind}
use Rattle.tm_model.specs.State.{State}
use Rattle.tm_model.specs.Opening.{opening_of}
use Rattle.tm_pair.specs.Plain.{opening_at, IsClientOf, plain_theory}
use Rattle.tm_pair.specs.declared.plain.PlainTable.{PlainTable}
use Rattle.tm_trustee.proofs.Elements.{element_at}
use Rattle.tm_client.specs.Asking.{At}
use Rattle.tm_client.specs.Clients.{IsClient}
use Rattle.tm_turns.specs.Whole.{OneClient, OneLane, AreTurns}
use Rattle.tm_turns.specs.declared.turns.Turns.{Turns}
use Rattle.tm_turns.proofs.Staying.{is_some}

module _ {V C O R T : Type 0} (kind : Kind V O R T) where
  -- a client's turn at a trustee may be made
  pub record MayTurn (t : ℕ) (client : OneClient V C O R T) (table : PlainTable V O R T) : Type 0 where
    pub trustee : t < length client.books.lanes.items
    pub mine : At client.books t (λ lane. IsClientOf kind table lane.side)
    pub client_is : (openings : ℕ → State V O R T) × (openings t ≡ opening_at table) × IsClient (plain_theory kind).client_view openings client.books

  pub may_turn :
      (turns : Turns V C O R T) (c t : ℕ) (client : OneClient V C O R T) (table : PlainTable V O R T) → AreTurns kind turns
      → slice_get turns.clients.items c ≡ Some client → slice_get turns.tables.items t ≡ Some table → MayTurn t client table
  may_turn turns c t client table (config, first, are) of at =
      let (number, many, ok) = are.clients c client of in
      let lt = slice_get_within turns.tables.items t table at in
      let tables = are.as_many_tables in
      let within : t < length client.books.lanes.items = omega (arith, lt, tables, many) in
      let (lane, of_lane) = element_at client.books.lanes.items t within in
      record {
        trustee = within;
        mine = is_some (slice_get client.books.lanes.items t) (λ (l : OneLane V C O R T). IsClientOf kind table l.side) lane of_lane
            (are.seated c t lane table (record { client = client; of_client = of; of_lane = of_lane }) at);
        client_is = (λ s. opening_of s config first, sym (are.tables t table at), ok);
      }
