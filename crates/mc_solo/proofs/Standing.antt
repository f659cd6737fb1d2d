-- A session that is driven stands after a step as it stood before it.
use Rattle.std.proofs.Common.{◌≡◌, ◌≢◌, ℕ, ◌+◌, ◌<◌, ◌≤◌, inl, inr, List, [], ◌∷◌, ◌++◌, length, length-set, refl, sym, ◌∙◌, ap, subst, arith, Option, Some, None}
use Rattle.std.specs.Prelude.{slice_get, slice_index_or}
use Rattle.std.specs.Vec.{with_item}
use Rattle.std.proofs.lemmas.Option.{slice_get_within}
use Rattle.tm_model.specs.Opening.{opening_of}
use Rattle.tm_pair.specs.Plain.{plain_theory}
use Rattle.tm_pair.specs.declared.plain.PlainTable.{PlainTable}
use Rattle.tm_pair.specs.declared.plain.PlainClient.{PlainClient}
use Rattle.tm_trustee.proofs.Elements.{set_here, set_other, same_element, element_at, read_at}
use Rattle.tm_client.specs.declared.trust.Trust.{Trust}
use Rattle.tm_asking.specs.declared.turning.Turned.{Turned}
use Rattle.tm_asking.specs.declared.turning.Turned.TheVariants as looked
use Rattle.tm_asking.specs.Turning.{IsAtTables, TurnsBelow}
use Rattle.tm_asking.specs.Asking.{NoneCounts, AllOpen}
use Rattle.tm_turns.specs.Whole.{AreTurns, Keeps, CallsAt, CallsKeep}
use Rattle.tm_turns.specs.Driving.{TakesAt, IsToDrive, ServesEach, DeedsKeep, DrivingEnds}
use Rattle.mc_model.specs.declared.message.Message.{Message}
use Rattle.mc_model.specs.declared.reply.ShardReply.{ShardReply}
use Rattle.mc_intake.specs.Intake.{IsIntake}
use Rattle.mc_shard.specs.declared.op.ShardOp.{ShardOp}
use Rattle.mc_route.specs.Places.{StoreValue}
use Rattle.mc_next.specs.declared.ended.Ended.{Ended}
use Rattle.mc_next.specs.declared.ended.Ended.TheVariants as ended
use Rattle.mc_next.specs.declared.session.Session.{Session}
use Rattle.mc_next.specs.Parts.{StoreTask, StoreView, store_kind}
use Rattle.mc_next.specs.Clients.{StoreBooks, AreStoreTrusts}
use Rattle.mc_next.specs.Works.{StoreState}
use Rattle.mc_next.specs.Runs.{Setting, SessionView, HasRun, IsInTurn}
use Rattle.mc_next.specs.Sessions.{IsOf, IsSession, IsGoing, Holds, HasMarked, taken, seen}
use Rattle.mc_next.specs.Steps.{Shown, shown_by, before_of, one_unless, one_where_none, one_where_some, IsWaiting, HasTakenSome, HasAdvanced, AsksOrTurns, KeepsMarks}
use Rattle.mc_solo.specs.Serving.{StoreTurns, StoreClient, store_view, MayServe, KeepsOthers, GoesOn}
use Rattle.mc_solo.specs.Driving.{IsDriven, one_in, arrived_in, still_to_go, HasGoneOn, HasWaited}
use Rattle.mc_solo.proofs.Lists.{items_are}
use Rattle.mc_solo.proofs.Staged.{staged, SameLists, keeps_same}
use Rattle.mc_solo.proofs.Growing.{grow_same}
use Rattle.mc_solo.proofs.Marking.{marks_still, marks_then, on_served}
use Rattle.mc_solo.proofs.Chained.{HasChained, chained}

-- the tables of a trustee of the store on this thread
abbrev pub StoreTable : Type 0
StoreTable = PlainTable StoreValue ShardOp ShardReply StoreTask

-- and a client's side at one
abbrev pub StoreSide : Type 0
StoreSide = PlainClient StoreValue ShardOp ShardReply StoreTask

-- the client of a whole is at the tables of the whole
pub home_of :
    (place : ℕ) (turns : StoreTurns) (client : StoreClient) (trusts : List Trust) → AreTurns store_kind turns → slice_get turns.clients.items place ≡ Some client
    → AreStoreTrusts (length turns.tables.items) client.books trusts
    → (openings : ℕ → StoreState) × IsAtTables (plain_theory store_kind) openings turns.tables.items client.books
home_of place turns client trusts (config, first, are) of_client are_trusts = (
  λ t. opening_of t config first,
  record {
    few = are_trusts.most;
    as_many = sym are_trusts.many;
    opens = λ t table e. sym (are.tables t table e);
    mine = λ t table lane e f. are.seated place t lane table (record { client = client; of_client = of_client; of_lane = f }) e;
    client = let (number, many, is) = are.clients place client of_client in is;
  },
)

-- the client that stands at the place of one that is driven is that one
module _ (s : Setting) (first : SessionView) (start : StoreTurns) (place : ℕ) (trusts : List Trust) (session : Session) (turns : StoreTurns) (left readings written : Option (List ℕ))
    (d : IsDriven s first start place trusts session turns left readings written) (client : StoreClient) (value : client ≡ slice_index_or turns.clients.items place client) where
  pub entered : slice_get turns.clients.items place ≡ Some client
  entered = read_at turns.clients.items place client (slice_get_within turns.clients.items place d.client d.of_client) value

  entered_is : d.client ≡ client
  entered_is = same_element turns.clients.items place client d.client entered d.of_client

  pub entered_home : (tables : List StoreTable) → tables ≡ turns.tables.items
      → (openings : ℕ → StoreState) × IsAtTables (plain_theory store_kind) openings tables client.books
  entered_home tables same =
      let (openings, home) = home_of place turns d.client trusts d.are d.of_client d.are_trusts in (
        openings,
        subst (λ xs. IsAtTables (plain_theory store_kind) openings xs client.books) (sym same)
            (subst (λ x. IsAtTables (plain_theory store_kind) openings turns.tables.items x.books) entered_is home),
      )

  pub entered_session : (tables : List StoreTable) → tables ≡ turns.tables.items
      → IsOf s trusts (length tables) × IsSession store_view s d.marks session first (seen store_view client.books left readings written) client.books
  entered_session tables same = (
    subst (λ xs. IsOf s trusts (length xs)) (sym same) d.is_of,
    subst (λ x. IsSession store_view s d.marks session first (seen store_view x.books left readings written) x.books) entered_is d.holds,
  )

-- of what a session shows
abbrev pub of_shown : Shown → List ℕ
of_shown shown =
    one_where_none shown.stopped ∷ (shown.left + one_unless shown.too_much + one_unless shown.at_end) ∷ length shown.unfed ∷ shown.pending
    ∷ one_where_some shown.gathered ∷ shown.unasked ∷ []

same_before : (old new : Session) → shown_by new ≡ shown_by old → before_of new ≡ before_of old
same_before old new e = ap of_shown e

one_most : {X : Type 0} (xs : List X) → one_in xs ≤ 1
one_most [] = omega arith
one_most (x ∷ xs) = omega arith

some_one : {X : Type 0} (xs : List X) → xs ≢ [] → one_in xs ≡ 1
some_one [] some = absurd (some refl)
some_one (x ∷ xs) some = refl

module _ (place : ℕ) (turns : StoreTurns) (are : AreTurns store_kind turns) (client becomes : StoreClient) (of_client : slice_get turns.clients.items place ≡ Some client)
    (tables_new : List StoreTable) (calls : CallsKeep ℕ store_kind) (deeds : DeedsKeep ℕ store_kind) (ends : DrivingEnds ℕ store_kind)
    (did : AsksOrTurns (plain_theory store_kind) turns.tables.items client.books tables_new becomes.books) where
  within : place < length turns.clients.items
  within = slice_get_within turns.clients.items place client of_client

  -- the whole after the step, and where the tables stayed
  abbrev pub new : StoreTurns
  new = staged place turns becomes tables_new

  abbrev pub asked : StoreTurns
  asked = record turns { clients = with_item turns.clients place becomes }

  called : CallsAt place client becomes turns asked
  called = record { of_client = of_client; clients = refl; tables = refl; trustees = refl; counts = refl }

  asked_new : tables_new ≡ turns.tables.items → SameLists store_kind asked new
  asked_new stays = record { clients = refl; tables = items_are turns.tables tables_new (ap length stays) ∙ stays; trustees = refl; counts = refl }

  chain : (told : Turned) → TurnsBelow (plain_theory store_kind) store_kind (length turns.tables.items) told turns.tables.items client.books tables_new becomes.books
      → HasChained store_kind place (length turns.tables.items) told turns new × (length tables_new ≡ length turns.tables.items)
  chain told below = chained store_kind place deeds ends turns are client of_client (length turns.tables.items) told tables_new becomes.books below

  pub stepped_keeps : Keeps store_kind turns new × (length tables_new ≡ length turns.tables.items)
  stepped_keeps =
      elim did [
        | inl (stays, h) ↦ (
          λ config first of.
              keeps_same store_kind asked new (asked_new stays) config first
              (calls place client becomes turns asked called
              (record { number = h.keeps.number; as_many = h.keeps.many; sides = λ t lane after e f. (h.keeps.sides t lane after e f).0 }) h.client config first of),
          ap length stays,
        )
        | inr (told, below) ↦ let (h, many) = chain told below in (h.keeps, many)
      ]

  pub stepped_others : KeepsOthers place turns new
  stepped_others = record {
    as_many = length-set turns.clients.items place becomes;
    others = λ c other. set_other turns.clients.items place c becomes other;
  }

  stepped_on : GoesOn place turns new
  stepped_on = record { keeps = stepped_keeps.0; logs = grow_same turns new refl; others = stepped_others }

  tables_are : new.tables.items ≡ tables_new
  tables_are = items_are turns.tables tables_new stepped_keeps.1

  same_many : length new.tables.items ≡ length turns.tables.items
  same_many = ap length tables_are ∙ stepped_keeps.1

  of_becomes : slice_get new.clients.items place ≡ Some becomes
  of_becomes = set_here turns.clients.items place becomes within

  -- it stands
  pub stepped_stands :
      (s : Setting) (first : SessionView) (start : StoreTurns) (trusts : List Trust) (session session_new : Session) (left readings written left_new readings_new written_new : Option (List ℕ))
      → (d : IsDriven s first start place trusts session turns left readings written)
      → (IsOf s trusts (length turns.tables.items) → IsSession store_view s d.marks session first (seen store_view client.books left readings written) client.books
      → (more : List (ℕ → StoreView)) × HasMarked store_view becomes.books more
      × IsSession store_view s (d.marks ++ more) session_new first (seen store_view becomes.books left_new readings_new written_new) becomes.books)
      → KeepsMarks client.books becomes.books → AreStoreTrusts (length tables_new) becomes.books trusts
      → IsDriven s first start place trusts session_new new left_new readings_new written_new
  stepped_stands s first start trusts session session_new left readings written left_new readings_new written_new d goes still trusts_new =
      let client_is : d.client ≡ client = same_element turns.clients.items place client d.client of_client d.of_client in
      let (more, marked, holds) = goes d.is_of (subst (λ x. IsSession store_view s d.marks session first (seen store_view x.books left readings written) x.books) client_is d.holds) in
      let opened : AllOpen becomes.books = λ t lane e.
      let lt = slice_get_within becomes.books.lanes.items t lane e in
      let many = still.many in
      let (was, f) = element_at client.books.lanes.items t (omega (arith, lt, many)) in
      (still.marks t was lane f e).0 ∙ d.all_open t was (subst (λ x. slice_get x.books.lanes.items t ≡ Some was) (sym client_is) f) in
      let (config, firsts, of) = are in record {
        are = (config, firsts, stepped_keeps.0 config firsts of);
        client = becomes;
        of_client = of_becomes;
        are_trusts = subst (λ xs. AreStoreTrusts (length xs) becomes.books trusts) (sym tables_are) trusts_new;
        all_open = opened;
        is_of = record { names = d.is_of.names; trustees_are = d.is_of.trustees_are ∙ sym same_many };
        marks = d.marks ++ more;
        marked = marks_then place start turns new d.marks d.marked stepped_on becomes of_becomes opened more marked;
        holds = holds;
      }

  -- what arrived, before and after
  arrived_was : arrived_in (slice_get turns.clients.items place) ≡ one_in client.books.arrived.items
  arrived_was = ap arrived_in of_client

  arrived_is : arrived_in (slice_get new.clients.items place) ≡ one_in becomes.books.arrived.items
  arrived_is = ap arrived_in of_becomes

  module _ (session session_new : Session) where
    took_some : tables_new ≡ turns.tables.items → HasTakenSome client.books becomes.books → (to_drive : StoreTurns → ℕ) → IsToDrive store_kind place to_drive
        → still_to_go place to_drive new < still_to_go place to_drive turns
    took_some stays took to_drive is =
        let takes : TakesAt place client becomes turns asked = record {
          calls = called;
          as_many = took.keeps.many;
          lanes = λ t lane after e f. let (side, closing, fetching) = took.keeps.sides t lane after e f in (side, took.waits t lane after e f, fetching);
        } in
        let same = is.takes client becomes turns asked takes in
        let lists = asked_new stays in
        let listed = is.lists asked new lists.clients lists.tables (ap (λ xs. xs.items) lists.trustees) in
        let was = arrived_was ∙ some_one client.books.arrived.items took.some in
        let now = arrived_is ∙ ap (λ xs. one_in xs) took.none in
        omega (arith, same, listed, was, now)

    turned_some : TurnsBelow (plain_theory store_kind) store_kind (length turns.tables.items) looked.Moved turns.tables.items client.books tables_new becomes.books
        → (to_drive : StoreTurns → ℕ) → IsToDrive store_kind place to_drive → still_to_go place to_drive new < still_to_go place to_drive turns
    turned_some below to_drive is =
        let less = (chain looked.Moved below).0.less to_drive is refl in
        let now = arrived_is in
        let most = one_most becomes.books.arrived.items in
        omega (arith, less, now, most)

    pub has_gone_on : HasAdvanced (plain_theory store_kind) session session_new turns.tables.items client.books tables_new becomes.books
        → HasGoneOn place session session_new turns new
    has_gone_on (inl less) = λ to_drive is. inl less
    has_gone_on (inr (same, inl (took, stays))) = λ to_drive is. inr (same, took_some stays took to_drive is)
    has_gone_on (inr (same, inr below)) = λ to_drive is. inr (same, turned_some below to_drive is)

    -- it waits
    pub has_waited :
        {A B W : Type 0} (trusts : List Trust) (source source_new : A) (sink sink_new : B) (clock clock_new : W)
        → IsWaiting store_view session session_new client.books becomes.books source source_new sink sink_new clock clock_new
        → TurnsBelow (plain_theory store_kind) store_kind (length turns.tables.items) looked.Pending turns.tables.items client.books tables_new becomes.books
        → AreStoreTrusts (length tables_new) becomes.books trusts → HasWaited place session session_new turns new
    has_waited trusts source source_new sink sink_new clock clock_new w below trusts_new =
        let h = (chain looked.Pending below).0 in
        let one = h.one refl in record {
          same = same_before session session_new w.still.shown;
          no_more = λ to_drive is.
              let le = h.no_more to_drive is in
              let was = arrived_was in
              let now = arrived_is ∙ ap (λ xs. one_in xs.items) w.looked.arrived in
              omega (arith, le, was, now);
          awaits = record {
            each = λ t lane has counts.
                let client_is : has.client ≡ becomes = same_element new.clients.items place becomes has.client of_becomes has.of_client in
                let of_lane : slice_get becomes.books.lanes.items t ≡ Some lane = subst (λ x. slice_get x.books.lanes.items t ≡ Some lane) client_is has.of_lane in
                let lt = slice_get_within becomes.books.lanes.items t lane of_lane in
                let many = trusts_new.many in
                let tables = stepped_keeps.1 in
                h.awaits (inl refl) t lane (omega (arith, lt, many, tables)) has counts;
            trustee = one.0;
            one = one.1;
          };
        }

-- the trustees served, and no client changed
module _ (place : ℕ) (turns served : StoreTurns) (same : served.clients ≡ turns.clients) (keeps : Keeps store_kind turns served) where
  pub served_stands :
      (n : ℕ) → ServesEach store_kind n turns served
      → (s : Setting) (first : SessionView) (start : StoreTurns) (trusts : List Trust) (session : Session) (left readings written : Option (List ℕ))
      → IsDriven s first start place trusts session turns left readings written → IsDriven s first start place trusts session served left readings written
  served_stands n serves s first start trusts session left readings written d =
      let (config, firsts, are) = d.are in
      let are_served = keeps config firsts are in
      let many : length served.tables.items ≡ length turns.tables.items = are_served.as_many_tables ∙ sym are.as_many_tables in record {
        are = (config, firsts, are_served);
        client = d.client;
        of_client = subst (λ xs. slice_get xs.items place ≡ Some d.client) (sym same) d.of_client;
        are_trusts = subst (λ n. AreStoreTrusts n d.client.books trusts) (sym many) d.are_trusts;
        all_open = d.all_open;
        is_of = record { names = d.is_of.names; trustees_are = d.is_of.trustees_are ∙ sym many };
        marks = d.marks;
        marked = marks_still place start turns served d.marks d.marked (on_served place n turns served d.are same keeps serves);
        holds = d.holds;
      }

  -- where answers were awaited, less is to go
  pub served_goes_on :
      (n : ℕ) (session session_new : Session) (old : StoreTurns) → AreTurns store_kind turns → ServesEach store_kind n turns served
      → HasWaited place session session_new old turns → HasGoneOn place session session_new old served
  served_goes_on n session session_new old are serves w = λ to_drive is.
      let less = is.serves n turns served are w.awaits serves in
      let le = w.no_more to_drive is in
      let arrived : arrived_in (slice_get served.clients.items place) ≡ arrived_in (slice_get turns.clients.items place) =
      ap (λ xs. arrived_in (slice_get xs.items place)) same in
      inr (w.same, omega (arith, less, le, arrived))

-- what is still in hand of a session that is not over
going_intake :
    (s : Setting) (marks : List (ℕ → StoreView)) (stopped : Option Ended) (session : Session) (first now : SessionView) (books : StoreBooks StoreSide) → IsGoing store_view s marks stopped session first now books
    → (limit : ℕ) × (text : List ℕ) × (messages : List Message) × IsIntake limit text messages session.intake
going_intake s marks None session first now books on = (s.limit, on.past.text, taken on.past, on.input.is_intake)
going_intake s marks (Some ended.WriteFault) session first now books given = (s.limit, given.past.text, taken given.past, given.input.is_intake)
going_intake s marks (Some ended.NoMemory) session first now books given = (s.limit, given.past.text, taken given.past, given.input.is_intake)
going_intake s marks (Some ended.ReadFault) session first now books (on, idle, written, fed, no_quit, within) = (s.limit, on.past.text, taken on.past, on.input.is_intake)
going_intake s marks (Some ended.AtEnd) session first now books h = absurd h
going_intake s marks (Some ended.Quit) session first now books h = absurd h
going_intake s marks (Some ended.Inside) session first now books h = absurd h
going_intake s marks (Some ended.TooMuch) session first now books h = absurd h

pub intake_of :
    (s : Setting) (first : SessionView) (start : StoreTurns) (place : ℕ) (trusts : List Trust) (session : Session) (turns : StoreTurns) (left readings written : Option (List ℕ))
    → IsDriven s first start place trusts session turns left readings written → session.over ≡ None
    → (limit : ℕ) × (text : List ℕ) × (messages : List Message) × IsIntake limit text messages session.intake
intake_of s first start place trusts session turns left readings written d none =
    let now = seen store_view d.client.books left readings written in
    going_intake s d.marks session.stopped session first now d.client.books (subst (λ over. Holds store_view s d.marks over session first now d.client.books) none d.holds).0

-- an option that is none of its values is none
pub none_where : {X : Type 0} (o : Option X) → ((x : X) → o ≡ Some x → ⊥) → o ≡ None
none_where None f = refl
none_where (Some x) f = absurd (f x refl)

-- a session that is over has run, and its client may serve again
module _ (s : Setting) (first : SessionView) (start : StoreTurns) (place : ℕ) (trusts : List Trust) (session : Session) (turns : StoreTurns) (left readings written : Option (List ℕ))
    (d : IsDriven s first start place trusts session turns left readings written) (how : Ended) (over : session.over ≡ Some how) where
  driven_over : (run : HasRun s how first (seen store_view d.client.books left readings written))
      × IsInTurn s d.marks how first (seen store_view d.client.books left readings written) run × NoneCounts d.client.books
  driven_over = subst (λ o. Holds store_view s d.marks o session first (seen store_view d.client.books left readings written) d.client.books) over d.holds

  pub driven_ran : (client : StoreClient) → slice_get turns.clients.items place ≡ Some client → HasRun s how first (seen store_view client.books left readings written)
  driven_ran client of_client =
      subst (λ x. HasRun s how first (seen store_view x.books left readings written)) (same_element turns.clients.items place client d.client of_client d.of_client) driven_over.0

  -- one command after another
  pub driven_in_turn : (client : StoreClient) → slice_get turns.clients.items place ≡ Some client
      → (run : HasRun s how first (seen store_view client.books left readings written)) × IsInTurn s d.marks how first (seen store_view client.books left readings written) run
  driven_in_turn client of_client =
      subst (λ x. (run : HasRun s how first (seen store_view x.books left readings written)) × IsInTurn s d.marks how first (seen store_view x.books left readings written) run)
      (same_element turns.clients.items place client d.client of_client d.of_client) (driven_over.0, driven_over.1)

  pub driven_rests : MayServe place trusts turns
  driven_rests = record { client = d.client; of_client = d.of_client; are_trusts = d.are_trusts; none = driven_over.2; all_open = d.all_open }

-- another client may be served as before
pub others_serve :
    (place : ℕ) (old new : StoreTurns) → AreTurns store_kind old → Keeps store_kind old new → KeepsOthers place old new → (c : ℕ) (its : List Trust) → c ≢ place
    → MayServe c its old → MayServe c its new
others_serve place old new (config, first, are) keeps others c its other may =
    let are_new = keeps config first are in
    let many : length new.tables.items ≡ length old.tables.items = are_new.as_many_tables ∙ sym are.as_many_tables in record {
      client = may.client;
      of_client = others.others c other ∙ may.of_client;
      are_trusts = subst (λ n. AreStoreTrusts n may.client.books its) (sym many) may.are_trusts;
      none = may.none;
      all_open = may.all_open;
    }
