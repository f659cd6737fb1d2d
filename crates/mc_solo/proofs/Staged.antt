-- A whole with one client and the tables as they stand between two turns that the client makes from outside.
use Rattle.std.proofs.Common.{◌≡◌, ℕ, ◌<◌, ◌≤◌, List, length, length-set, refl, sym, ◌∙◌, ap, subst}
use Rattle.std.specs.Prelude.{slice_get, slice_set, vec_capacity}
use Rattle.std.specs.Vec.{with_item, with_items}
use Rattle.std.specs.declared.option.Option.TheVariants.{Some}
use Rattle.tm_seq.specs.Kind.{Kind}
use Rattle.tm_pair.specs.Plain.{plain_theory}
use Rattle.tm_pair.specs.declared.plain.PlainTable.{PlainTable}
use Rattle.tm_pair.specs.declared.plain.PlainClient.{PlainClient}
use Rattle.tm_trustee.specs.Tables.{IsReady}
use Rattle.tm_trustee.proofs.Elements.{set_here}
use Rattle.tm_client.proofs.Looking.{set_twice}
use Rattle.tm_client.specs.declared.answers.Turn.{Turn}
use Rattle.tm_client.specs.declared.books.Books.{Books}
use Rattle.tm_asking.specs.Turning.{TurnsAt}
use Rattle.tm_turns.specs.Whole.{OneClient, Keeps}
use Rattle.tm_turns.specs.Driving.{TurnedAt}
use Rattle.tm_turns.specs.declared.turns.Turns.{Turns}
use Rattle.mc_solo.proofs.Lists.{items_are}

-- a client with these books
abbrev pub booked : {V C O R T : Type 0} → OneClient V C O R T → Books V C (PlainClient V O R T) O R T → OneClient V C O R T
booked client books = record client { books = books }

-- the whole with this client at place c, and these tables
abbrev pub staged : {V C O R T : Type 0} → ℕ → Turns V C O R T → OneClient V C O R T → List (PlainTable V O R T) → Turns V C O R T
staged c turns client tables = record turns { clients = with_item turns.clients c client; tables = with_items turns.tables tables }

module _ {V C O R T : Type 0} (kind : Kind V O R T) where
  -- a whole of which the lists are those of another one
  pub record SameLists (old new : Turns V C O R T) : Type 0 where
    pub clients : new.clients.items ≡ old.clients.items
    pub tables : new.tables.items ≡ old.tables.items
    pub trustees : new.trustees ≡ old.trustees
    pub counts : new.counts ≡ old.counts

  -- is of one build where that is
  pub keeps_same : (old new : Turns V C O R T) → SameLists old new → Keeps kind old new
  keeps_same old new same = λ config first are. record {
    buildable = are.buildable;
    as_many_clients = ap length same.clients ∙ are.as_many_clients;
    as_many_tables = ap length same.tables ∙ are.as_many_tables;
    as_many_trustees = ap (λ xs. length xs.items) same.trustees ∙ are.as_many_trustees;
    tables = λ t table e. are.tables t table (subst (λ xs. slice_get xs t ≡ Some table) same.tables e);
    trustees = λ t trustee e.
        let (number, ready) = are.trustees t trustee (subst (λ xs. slice_get xs.items t ≡ Some trustee) same.trustees e) in
        (number, subst (λ xs. IsReady (plain_theory kind) kind xs trustee) (sym same.tables) ready);
    clients = λ c client e. are.clients c client (subst (λ xs. slice_get xs c ≡ Some client) same.clients e);
    seated = λ c t lane table has e.
        are.seated c t lane table
        (record { client = has.client; of_client = subst (λ xs. slice_get xs c ≡ Some has.client) same.clients has.of_client; of_lane = has.of_lane })
        (subst (λ xs. slice_get xs t ≡ Some table) same.tables e);
    counts = ap (λ xs. xs.items) same.counts ∙ are.counts;
    counts_room = subst (λ xs. config.trustees ≤ vec_capacity xs) (sym same.counts) are.counts_room;
  }

  module _ (c : ℕ) (turns : Turns V C O R T) (client : OneClient V C O R T) (within : c < length turns.clients.items) where
    -- the client stands at its place
    pub staged_client : (tables : List (PlainTable V O R T)) → slice_get (staged c turns client tables).clients.items c ≡ Some client
    staged_client tables = set_here turns.clients.items c client within

    -- a turn of it is one of the whole
    pub staged_turn : (t : ℕ) (answer : Turn) (tables tables_new : List (PlainTable V O R T)) (books books_new : Books V C (PlainClient V O R T) O R T)
        → length tables ≡ length turns.tables.items → TurnsAt (plain_theory kind) kind t answer tables books tables_new books_new
        → TurnedAt kind c t answer (staged c turns (booked client books) tables) (staged c turns (booked client books_new) tables_new)
    staged_turn t answer tables tables_new books books_new many at =
        let were = items_are turns.tables tables many in
        let many_new : length tables_new ≡ length turns.tables.items = ap length at.tables_are ∙ length-set tables t at.now ∙ many in
        let are = items_are turns.tables tables_new many_new in
        record {
          client = booked client books;
          becomes = booked client books_new;
          was = at.was;
          now = at.now;
          of_client = set_here turns.clients.items c (booked client books) within;
          of_table = subst (λ xs. slice_get xs t ≡ Some at.was) (sym were) at.of_table;
          turned = at.turned;
          still = at.still;
          clients = sym (set_twice turns.clients.items c (booked client books) (booked client books_new));
          tables = are ∙ at.tables_are ∙ ap (λ xs. slice_set xs t at.now) (sym were);
          trustees = refl;
          counts = refl;
        }
