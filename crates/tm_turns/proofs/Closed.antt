-- After all was closed: what was asked is served, and every trustee has ended.
use Rattle.std.proofs.Common.{◌≡◌, ℕ, ◌+◌, ◌-◌, ◌^◌, ◌<◌, inl, inr, true, List, [], ◌∷◌, ◌++◌, length, map, min, sym, ◌∙◌, ap, subst, arith, append-nil}
use Rattle.std.specs.Prelude.{slice_get}
use Rattle.std.specs.declared.option.Option.TheVariants.{Some}
use Rattle.std.proofs.lemmas.Option.{slice_get_within}
use Rattle.tm_seq.specs.Kind.{Kind}
use Rattle.tm_batch.specs.declared.config.Config.{Config}
use Rattle.tm_batch.specs.declared.config.First.{First}
use Rattle.tm_batch.specs.declared.message.Request.TheVariants.{Bye}
use Rattle.tm_model.specs.Opening.{opening_of}
use Rattle.tm_model.specs.Lists.{IsPrefix}
use Rattle.tm_model.specs.Ran.{ran}
use Rattle.tm_model.specs.Holds.{has_bye}
use Rattle.tm_state.specs.Represents.{requests_in}
use Rattle.tm_pair.specs.Plain.{opening_at, client_at, trustee_at, plain_theory}
use Rattle.tm_pair.specs.declared.plain.PlainTable.{PlainTable}
use Rattle.tm_pair.specs.declared.plain.PlainClient.{PlainClient}
use Rattle.tm_trustee.specs.NestedAsks.{target, asks_of}
use Rattle.tm_trustee.specs.Serving.{done_by, ups_of}
use Rattle.tm_trustee.specs.Turn.{HasEnded}
use Rattle.tm_trustee.proofs.Elements.{element_at, there_too, same_element}
use Rattle.tm_client.specs.Clients.{come_of}
use Rattle.tm_client.specs.Lanes.{asks_in, accepted}
use Rattle.tm_turns.specs.Whole.{OneClient, OneLane, OneTrustee, HasLane, AreOf, Keeps, EachClient}
use Rattle.tm_turns.specs.Going.{HasRun}
use Rattle.tm_turns.specs.Resting.{AreAtRest}
use Rattle.tm_turns.specs.Closing.{HasShut, HasTakenAll, HasRunAsks, AreRuns, ClientsShut, ClientsTake, HasClosed}
use Rattle.tm_turns.specs.declared.turns.Turns.{Turns}
use Rattle.tm_turns.proofs.Ones.{bool_cases}
use Rattle.tm_turns.proofs.Seated.{home_at}
use Rattle.tm_turns.proofs.Following.{run_follows, prefix_on}
use Rattle.tm_turns.proofs.Shutting.{shut_same, shut_closing, all_taken}
use Rattle.tm_turns.proofs.Taken.{taken_counts}
use Rattle.tm_turns.proofs.Ended.{lane_ran_all, all_ended, nested_ran}

module _ {V C O R T : Type 0} where
  -- a whole has one lane of a client at a trustee
  one_lane : (turns : Turns V C O R T) (c t : ℕ) (a b : OneLane V C O R T) → HasLane turns c t a → HasLane turns c t b → b ≡ a
  one_lane turns c t a b has too =
      let same = same_element turns.clients.items c has.client too.client has.of_client too.of_client in
      same_element has.client.books.lanes.items t a b has.of_lane
      (subst (λ (x : OneClient V C O R T). slice_get x.books.lanes.items t ≡ Some b) same too.of_lane)

  -- the lane of the same place after calls at each client alone
  lane_after :
      (Did : OneClient V C O R T → OneClient V C O R T → Type 0) (old new : Turns V C O R T) (c t : ℕ) (lane : OneLane V C O R T) → EachClient Did old new
      → ((client becomes : OneClient V C O R T) → Did client becomes → length becomes.books.lanes.items ≡ length client.books.lanes.items)
      → (has : HasLane old c t lane)
      → (becomes : OneLane V C O R T) × (has_new : HasLane new c t becomes) × Did has.client has_new.client
  lane_after R old new c t lane is many has =
      let (client, at) = there_too old.clients.items new.clients.items c has.client is.as_many has.of_client in
      let did = is.each c has.client client has.of_client at in
      let (becomes, of) = there_too has.client.books.lanes.items client.books.lanes.items t lane (many has.client client did) has.of_lane in
      (becomes, record { client = client; of_client = at; of_lane = of }, did)

-- where each client was closed at each trustee, all ran until nothing moved, the answers were taken, and all ran again
module _ {V C O R T : Type 0} (kind : Kind V O R T) (config : Config) (first : List (First V)) (old shut served taken last : Turns V C O R T) (m n : ℕ)
    (are : AreOf kind config first old)
    (shuts : ClientsShut old shut) (shut_keeps : Keeps kind old shut)
    (serves : HasRun kind [] m shut served) (serve_keeps : Keeps kind shut served) (rests_served : AreAtRest kind served)
    (takes : ClientsTake served taken) (take_keeps : Keeps kind served taken)
    (ends : HasRun kind [] n taken last) (end_keeps : Keeps kind taken last) (rests_last : AreAtRest kind last) where
  are_shut : AreOf kind config first shut
  are_shut = shut_keeps config first are

  are_served : AreOf kind config first served
  are_served = serve_keeps config first are_shut

  are_taken : AreOf kind config first taken
  are_taken = take_keeps config first are_served

  are_last : AreOf kind config first last
  are_last = end_keeps config first are_taken

  -- what became of a lane
  record IsClosedLane (c t : ℕ) (lane becomes : OneLane V C O R T) : Type 0 where
    has : HasLane last c t becomes
    same : accepted client_at becomes ≡ accepted client_at lane
    closing : becomes.closing ≡ true
    counting : becomes.counting ≡ 0

  closed_lane : (c t : ℕ) (lane : OneLane V C O R T) → HasLane old c t lane → (becomes : OneLane V C O R T) × IsClosedLane c t lane becomes
  closed_lane c t lane has =
      let (a, has_a, shut_a) =
      lane_after (λ client becomes. HasShut client.books becomes.books) old shut c t lane shuts (λ client becomes did. (shut_same client.books becomes.books did).as_many) has in
      let (side_a, waits_a) = (shut_same has.client.books has_a.client.books shut_a).lanes t lane a has.of_lane has_a.of_lane in
      let closing_a = shut_closing has.client.books has_a.client.books t a shut_a has_a.of_lane in
      let follow_b = run_follows kind [] m shut served (config, first, are_shut) serves in
      let (b, has_b, asked_b) = follow_b.lanes c t a has_a in
      let (d, has_d, took) =
      lane_after (λ client becomes. HasTakenAll client.books becomes.books) served taken c t b takes (λ client becomes did. (all_taken client.books becomes.books did).as_many) has_b in
      let its = (all_taken has_b.client.books has_d.client.books took).lanes t b d has_b.of_lane has_d.of_lane in
      let follow_e = run_follows kind [] n taken last (config, first, are_taken) ends in
      let (e, has_e, asked_e) = follow_e.lanes c t d has_d in
      let quiet = rests_served.lanes c t b has_b in
      let (number, many, client_is) = are_taken.clients c has_d.client has_d.of_client in
      let come : come_of t has_d.client.books.arrived.items ≡ 0 = ap (λ xs. come_of t xs) took.none in
      let zero_d : d.counting ≡ 0 =
      taken_counts kind (opening_of t config first) has_d.client.books.number (come_of t has_d.client.books.arrived.items) b d quiet its
      (client_is.lanes t d has_d.of_lane) come in
      let same_a : accepted client_at a ≡ accepted client_at lane =
      ap (λ (s : PlainClient V O R T). asks_in (client_at s).sent ++ a.waits.items) side_a ∙ ap (λ w. asks_in (client_at lane.side).sent ++ w.items) waits_a in
      let same_d : accepted client_at d ≡ accepted client_at b =
      ap (λ (s : PlainClient V O R T). asks_in (client_at s).sent ++ d.waits.items) its.side ∙ ap (λ w. asks_in (client_at b.side).sent ++ w.items) its.waits in (
        e,
        record {
          has = has_e;
          same = asked_e.same ∙ same_d ∙ asked_b.same ∙ same_a;
          closing = asked_e.closing ∙ its.closing ∙ asked_b.closing ∙ closing_a;
          counting = asked_e.counting ∙ zero_d;
        },
      )

  lane_of_old :
      (c t : ℕ) (lane : OneLane V C O R T) → HasLane last c t lane → (was : OneLane V C O R T) × HasLane old c t was
  lane_of_old c t lane has =
      let clients = are.as_many_clients in
      let clients_last = are_last.as_many_clients in
      let (number, many, client_is) = are_last.clients c has.client has.of_client in
      let lt = slice_get_within last.clients.items c has.client has.of_client in
      let (client, at) = element_at old.clients.items c (omega (arith, lt, clients, clients_last)) in
      let (number_old, many_old, is_old) = are.clients c client at in
      let within = slice_get_within has.client.books.lanes.items t lane has.of_lane in
      let (was, of) = element_at client.books.lanes.items t (omega (arith, within, many, many_old)) in
      (was, record { client = client; of_client = at; of_lane = of })

  -- each client has said Bye at each trustee
  all_said : (c t : ℕ) (lane : OneLane V C O R T) → HasLane last c t lane → has_bye (client_at lane.side).sent ≡ true
  all_said c t lane has =
      let (was, has_was) = lane_of_old c t lane has in
      let (becomes, is) = closed_lane c t was has_was in
      let same : lane ≡ becomes = one_lane last c t becomes lane is.has has in
      let quiet = rests_last.lanes c t becomes is.has in
      elim (bool_cases (has_bye (client_at becomes.side).sent)) [
        | inl was_said ↦ ap (λ (l : OneLane V C O R T). has_bye (client_at l.side).sent) same ∙ was_said
        | inr unsaid ↦ absurd (quiet.no_bye (quiet.waits, is.closing, unsaid, is.counting))
      ]

  ended_all :
      (t : ℕ) (trustee : OneTrustee V O R T) (table : PlainTable V O R T) → slice_get last.trustees.items t ≡ Some trustee
      → slice_get last.tables.items t ≡ Some table → HasEnded (opening_at table) (trustee_at trustee.side) (ups_of (plain_theory kind) trustee)
  ended_all t trustee table of at = all_ended kind config first last are_last rests_last all_said t trustee table of at

  asked_all :
      (c t : ℕ) (lane : OneLane V C O R T) (trustee : OneTrustee V O R T) → HasLane old c t lane → slice_get last.trustees.items t ≡ Some trustee
      → ran c (trustee_at trustee.side).log ≡ accepted client_at lane ++ Bye ∷ []
  asked_all c t lane trustee has of =
      let (becomes, is) = closed_lane c t lane has in
      let quiet = rests_last.lanes c t becomes is.has in
      lane_ran_all kind config first last are_last rests_last c t becomes trustee is.has of (all_said c t becomes is.has)
      ∙ ap (λ qs. qs ++ Bye ∷ []) (sym (append-nil (asks_in (client_at becomes.side).sent)))
      ∙ ap (λ qs. (asks_in (client_at becomes.side).sent ++ qs) ++ Bye ∷ []) (sym quiet.waits) ∙ ap (λ qs. qs ++ Bye ∷ []) is.same

  nested_all :
      (t u : ℕ) (lower upper : OneTrustee V O R T) (table : PlainTable V O R T) → t < u → slice_get last.trustees.items t ≡ Some lower
      → slice_get last.tables.items t ≡ Some table → slice_get last.trustees.items u ≡ Some upper
      → HasRunAsks (map target (asks_of (opening_at table).setup u (done_by (plain_theory kind) lower)))
      (ran (length old.clients.items + t) (trustee_at upper.side).log)
  nested_all t u lower upper table lt of at of_upper =
      subst (λ k. HasRunAsks (map target (asks_of (opening_at table).setup u (done_by (plain_theory kind) lower))) (ran (k + t) (trustee_at upper.side).log))
      (are_last.as_many_clients ∙ sym are.as_many_clients)
      (nested_ran kind config first last are_last rests_last t u lower upper table lt of at of_upper (ended_all t lower table of at))

  logs_grow :
      (t : ℕ) (trustee becomes : OneTrustee V O R T) → slice_get old.trustees.items t ≡ Some trustee → slice_get last.trustees.items t ≡ Some becomes
      → IsPrefix (trustee_at trustee.side).log (trustee_at becomes.side).log
  logs_grow t trustee becomes of e =
      let follow_b = run_follows kind [] m shut served (config, first, are_shut) serves in
      let follow_e = run_follows kind [] n taken last (config, first, are_taken) ends in
      let (b, of_b, one) = follow_b.logs t trustee (subst (λ xs. slice_get xs.items t ≡ Some trustee) (sym shuts.trustees) of) in
      let (x, of_x, two) = follow_e.logs t b (subst (λ xs. slice_get xs.items t ≡ Some b) (sym takes.trustees) of_b) in
      let same : becomes ≡ x = same_element last.trustees.items t x becomes of_x e in
      subst (λ (y : OneTrustee V O R T). IsPrefix (trustee_at trustee.side).log (trustee_at y.side).log) (sym same)
      (prefix_on (trustee_at trustee.side).log (trustee_at b.side).log (trustee_at x.side).log one two)

  -- the numbers of the requests in the logs
  counted : (numbers : List ℕ) → AreRuns kind last.trustees.items numbers
      → (t n : ℕ) (trustee : OneTrustee V O R T) → slice_get last.trustees.items t ≡ Some trustee → slice_get numbers t ≡ Some n
      → n ≡ min (requests_in (trustee_at trustee.side).log) (2 ^ 64 - 1)
  counted numbers runs t n trustee of e =
      let lt = slice_get_within last.trustees.items t trustee of in
      let trustees = are_last.as_many_trustees in
      let tables = are_last.as_many_tables in
      let (table, at) = element_at last.tables.items t (omega (arith, lt, trustees, tables)) in
      runs.each t n trustee of e (opening_at table) (home_at kind config first last are_last t table trustee at of).1

  pub closed : (numbers : List ℕ) → AreRuns kind last.trustees.items numbers → HasClosed kind old last numbers
  closed numbers runs = record {
    shut = shut;
    served = served;
    taken = taken;
    moved = m;
    more = n;
    shuts = shuts;
    serves = serves;
    takes = takes;
    ends = ends;
    keeps = λ config first its. end_keeps config first (take_keeps config first (serve_keeps config first (shut_keeps config first its)));
    rest = rests_last;
    ended = ended_all;
    logs = logs_grow;
    asked = asked_all;
    nested = nested_all;
    as_many = runs.as_many ∙ are_last.as_many_trustees ∙ sym are.as_many_trustees;
    counts = counted numbers runs;
  }
