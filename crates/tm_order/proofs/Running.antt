-- What a trustee has run for a lower one is what that one's launched work asked of it, in order.
use Rattle.std.proofs.Common.{◌≡◌, ℕ, ◌+◌, ◌-◌, ◌<◌, inl, inr, Bool, true, false, cond, List, [], ◌∷◌, ◌++◌, map, filter, append_assoc, append-nil, refl, sym, ◌∙◌, ap, subst, arith}
use Rattle.std.specs.Prelude.{◌==◌, slice_get}
use Rattle.std.specs.declared.option.Option.TheVariants.{Some}
use Rattle.std.proofs.lemmas.Option.{slice_get_within}
use Rattle.tm_seq.specs.Kind.{Kind}
use Rattle.tm_batch.specs.declared.config.Config.{Config}
use Rattle.tm_batch.specs.declared.config.First.{First}
use Rattle.tm_batch.specs.declared.message.Request.{Request}
use Rattle.tm_batch.specs.declared.message.Request.TheVariants.{Entrust, Apply, Launch, Grant, Release, Reclaim, Bye}
use Rattle.tm_batch.specs.declared.message.Answer.TheVariants.{Replied}
use Rattle.tm_model.specs.declared.entry.Entry.{Entry}
use Rattle.tm_model.specs.declared.entry.Entry.TheVariants.{By, Resume, Sent}
use Rattle.tm_model.specs.State.{State}
use Rattle.tm_model.specs.Serve.{after}
use Rattle.tm_model.specs.Legal.{IsLegal}
use Rattle.tm_model.specs.Lists.{IsPrefix}
use Rattle.tm_model.specs.Opening.{opening_of}
use Rattle.tm_model.specs.Ran.{ran}
use Rattle.tm_model.specs.Slots.{slot_of}
use Rattle.tm_core.proofs.Joins.{legal_logs_join}
use Rattle.tm_laws.specs.Objects.{runs_for}
use Rattle.tm_pair.specs.Views.{ClientView, TrusteeView}
use Rattle.tm_pair.specs.Plain.{opening_at, core_at, client_at, trustee_at, plain_theory}
use Rattle.tm_pair.specs.SideViews.{client_of}
use Rattle.tm_pair.specs.declared.plain.PlainTable.{PlainTable}
use Rattle.tm_pair.specs.declared.plain.PlainClient.{PlainClient}
use Rattle.tm_trustee.specs.NestedAsks.{NestedAsk, target, asked_by, HasSent, IsTied}
use Rattle.tm_trustee.specs.Serving.{done_by}
use Rattle.tm_trustee.proofs.Elements.{element_at}
use Rattle.tm_trustee.proofs.Replied.{asked_by-append}
use Rattle.tm_turns.specs.Whole.{OneTrustee, AreOf}
use Rattle.tm_turns.specs.declared.turns.Turns.{Turns}
use Rattle.tm_turns.proofs.Launched.{all_tied}
use Rattle.tm_turns.proofs.Seated.{SeatAt, seat_shows, home_at, places_are}
use Rattle.tm_rest.proofs.Boxes.{ran_front}
use Rattle.tm_order.specs.Order.{run_target, tickets_by, asked_of, RunInOrder, RunsAreAsks, LaunchedRunsRise}
use Rattle.tm_order.proofs.Rising.{RiseFrom, never_fall, table_of, asks_at}

-- a front of what a function gives of a list is what it gives of a front
front_of : {X Y : Type 0} (f : X → Y) (ys : List Y) (xs : List X) → IsPrefix ys (map f xs) → (zs : List X) × IsPrefix zs xs × (map f zs ≡ ys)
front_of f [] xs whole = ([], (xs, refl), refl)
front_of f (y ∷ ys) [] (rest, e) = absurd cc
front_of f (y ∷ ys) (x ∷ xs) (rest, e) =
    let head : f x ≡ y = cc in
    let later : map f xs ≡ ys ++ rest = cc in
    let (zs, (more, whole), are) = front_of f ys xs (rest, later) in
    (x ∷ zs, (more, ap (λ l. x ∷ l) whole), ap (λ l. f x ∷ l) are ∙ ap (λ z. z ∷ ys) head)

-- tickets of the first asks rise as those of all do
front_rises : {O : Type 0} (id n : ℕ) (zs rest : List (NestedAsk O)) → RiseFrom n (tickets_by id (zs ++ rest)) → RiseFrom n (tickets_by id zs)
front_rises id n [] rest rise = tt
front_rises {O} id n (a ∷ zs) rest rise =
    elim (a.by == id) as
    (λ b. RiseFrom n (map (λ (x : NestedAsk O). x.ticket) (cond b (a ∷ filter (λ x. x.by == id) (zs ++ rest)) (filter (λ x. x.by == id) (zs ++ rest))))
    → RiseFrom n (map (λ (x : NestedAsk O). x.ticket) (cond b (a ∷ filter (λ x. x.by == id) zs) (filter (λ x. x.by == id) zs)))) [
      | true ↦ λ rise. (rise.0, front_rises id a.ticket zs rest rise.1)
      | false ↦ λ rise. front_rises id n zs rest rise
    ] rise

module _ {V O R T : Type 0} where
  -- a request that asks nothing
  none_asked : (b : Bool) (q : Request V O R T) (qs : List (Request V O R T)) → asked_by (q ∷ qs) ≡ asked_by qs → asked_by (cond b (q ∷ qs) qs) ≡ asked_by qs
  none_asked true q qs none = none
  none_asked false q qs none = refl

  -- in a legal log, each apply of a place has a reply
  pub runs_asked :
      (kind : Kind V O R T) (c : ℕ) (s : State V O R T) (log : List (Entry V O R T)) → IsLegal kind s log
      → map run_target (runs_for c log) ≡ asked_by (ran c log)
  runs_asked kind c s [] legal = refl
  runs_asked kind c s (Resume id ticket event next ∷ es) legal = runs_asked kind c (after kind s (Resume id ticket event next)) es legal.1
  runs_asked kind c s (Sent d room ∷ es) legal = runs_asked kind c (after kind s (Sent d room)) es legal.1
  runs_asked kind c s (By d k (Apply n op) (Replied r) ∷ es) legal =
      let more = runs_asked kind c (after kind s (By d k (Apply n op) (Replied r))) es legal.1 in
      elim (d == c) as
      (λ b. map run_target (cond b (record { id = n.id; op = op; reply = r } ∷ runs_for c es) (runs_for c es)) ≡ asked_by (cond b (Apply n op ∷ ran c es) (ran c es)))
      [ true ↦ ap (λ l. (n.id, op) ∷ l) more | false ↦ more ]
  runs_asked kind c s (By d k (Apply n op) a ∷ es) legal = absurd legal.0.2.1
  runs_asked kind c s (By d k (Entrust v) a ∷ es) legal =
      runs_asked kind c (after kind s (By d k (Entrust v) a)) es legal.1 ∙ sym (none_asked (d == c) (Entrust v) (ran c es) refl)
  runs_asked kind c s (By d k (Launch n task) a ∷ es) legal =
      runs_asked kind c (after kind s (By d k (Launch n task) a)) es legal.1 ∙ sym (none_asked (d == c) (Launch n task) (ran c es) refl)
  runs_asked kind c s (By d k (Grant n e) a ∷ es) legal =
      runs_asked kind c (after kind s (By d k (Grant n e) a)) es legal.1 ∙ sym (none_asked (d == c) (Grant n e) (ran c es) refl)
  runs_asked kind c s (By d k (Release n) a ∷ es) legal =
      runs_asked kind c (after kind s (By d k (Release n) a)) es legal.1 ∙ sym (none_asked (d == c) (Release n) (ran c es) refl)
  runs_asked kind c s (By d k (Reclaim n) a ∷ es) legal =
      runs_asked kind c (after kind s (By d k (Reclaim n) a)) es legal.1 ∙ sym (none_asked (d == c) (Reclaim n) (ran c es) refl)
  runs_asked kind c s (By d k Bye a ∷ es) legal =
      runs_asked kind c (after kind s (By d k Bye a)) es legal.1 ∙ sym (none_asked (d == c) Bye (ran c es) refl)

  -- what was run is a front of what was sent, and so of what was asked
  pub sent_asked :
      (qs sent : List (Request V O R T)) (asks : List (ℕ × O)) → IsPrefix qs sent → HasSent asks sent → IsPrefix (asked_by qs) asks
  sent_asked qs sent asks (rest, whole) (inl (no_bye, (others, asked))) = (
    asked_by rest ++ others,
    asked ∙ ap (λ l. asked_by l ++ others) whole ∙ ap (λ l. l ++ others) (asked_by-append qs rest) ∙ append_assoc (asked_by qs) (asked_by rest) others,
  )
  sent_asked qs sent asks (rest, whole) (inr (before, is, no_bye, asked)) = (
    asked_by rest,
    sym asked ∙ sym (append-nil (asked_by before)) ∙ sym (asked_by-append before (Bye ∷ [])) ∙ ap asked_by (sym is ∙ whole) ∙ asked_by-append qs rest,
  )

module _ {V C O R T : Type 0} (kind : Kind V O R T) (config : Config) (first : List (First V)) (turns : Turns V C O R T) (are : AreOf kind config first turns)
    (t u : ℕ) (trustee greater : OneTrustee V O R T) (lt : t < u) (of : slice_get turns.trustees.items t ≡ Some trustee)
    (of_greater : slice_get turns.trustees.items u ≡ Some greater) where
  abbrev place : ℕ
  place = config.clients + t

  abbrev log : List (Entry V O R T)
  log = (trustee_at greater.side).log

  -- what trustee u has run of the place is a front of what was sent there
  front : (table : PlainTable V O R T) (i : ℕ) (side : PlainClient V O R T) → slice_get turns.tables.items u ≡ Some table
      → slice_get trustee.above.items i ≡ Some side → t + 1 + i ≡ u → IsPrefix (ran place log) (client_at side).sent
  front table i side at of_side number =
      let seat : SeatAt kind turns u place = record {
        number = t;
        index = i;
        trustee = trustee;
        seat = side;
        of_trustee = of;
        of_seat = of_side;
        of_place = let clients = are.as_many_clients in omega (arith, clients);
        of_table = number;
      } in
      let shows : client_at side ≡ client_of place (slot_of (core_at table) place) = seat_shows kind config first turns are u place table at seat in
      let home = home_at kind config first turns are u table greater at of_greater in
      let count = home.0.of_table.good.places in
      let many = places_are kind config first turns are u table at in
      let good = home.0.of_table.good.slots.slots place (omega (arith, count, many, number)) in
      let log_is : (core_at table).log ≡ log = ap (λ (v : TrusteeView V O R T). v.log) (sym home.0.view) in
      let slot = slot_of (core_at table) place in
      subst (λ l. IsPrefix (ran place log) l) (ap (λ (v : ClientView V O R T). v.sent) (sym shows))
      (subst (λ l. IsPrefix (ran place l) slot.sent) log_is (ran_front kind (opening_at table) slot.box slot place (core_at table).log good.agrees))

  pub run_front : IsPrefix (map run_target (runs_for place log)) (map target (asked_of kind config first t trustee u))
  run_front =
      let (own, at_own, opened) = table_of kind config first turns are t trustee of in
      let (table, at, opened_there) = table_of kind config first turns are u greater of_greater in
      let (number, ready) = are.trustees t trustee of in
      let tables = are.as_many_tables in
      let trustees = are.as_many_trustees in
      let u_lt = slice_get_within turns.trustees.items u greater of_greater in
      let seats = ready.above.as_many in
      let i : ℕ = u - (t + 1) in
      let (side, of_side) = element_at trustee.above.items i (omega (arith, lt, u_lt, number, seats, tables, trustees)) in
      let here : t + 1 + i ≡ u = omega (arith, lt) in
      let tied_there : IsTied kind (opening_at own) (done_by (plain_theory kind) trustee) (t + 1 + i) (client_at side) =
      all_tied C kind turns t i trustee own side (config, first, are) of at_own of_side in
      let tied : IsTied kind (opening_of t config first) (done_by (plain_theory kind) trustee) u (client_at side) =
      subst (λ k. IsTied kind (opening_of t config first) (done_by (plain_theory kind) trustee) k (client_at side)) here
      (subst (λ o. IsTied kind o (done_by (plain_theory kind) trustee) (t + 1 + i) (client_at side)) opened tied_there) in
      let served = (home_at kind config first turns are u table greater at of_greater).1 in
      let legal = ((legal_logs_join kind (opening_at table) log greater.since.items).0 served.current.represents.is_legal).0 in
      subst (λ l. IsPrefix l (map target (asked_of kind config first t trustee u))) (sym (runs_asked kind place (opening_at table) log legal))
      (sent_asked (ran place log) (client_at side).sent (map target (asked_of kind config first t trustee u)) (front table i side at of_side here) tied.sent)

  pub run_rises : RunInOrder kind config first t trustee u (runs_for place log)
  run_rises =
      let asked : List (NestedAsk O) = asked_of kind config first t trustee u in
      let (asks, (rest, whole), same) = front_of target (map run_target (runs_for place log)) asked run_front in
      record {
        asks = asks;
        are = same;
        front = (rest, whole);
        rise = λ id.
            let (n, rise) = asks_at kind config first turns are t u id trustee of in
            never_fall n (tickets_by id asks) (front_rises id n asks rest (subst (λ l. RiseFrom n (tickets_by id l)) whole rise));
      }

pub runs_are_asks : {V O R T : Type 0} → (C : Type 0) (kind : Kind V O R T) → RunsAreAsks C kind
runs_are_asks C kind config first turns t u trustee greater are lt of of_greater = run_front kind config first turns are t u trustee greater lt of of_greater

pub launched_runs_rise : {V O R T : Type 0} → (C : Type 0) (kind : Kind V O R T) → LaunchedRunsRise C kind
launched_runs_rise C kind config first turns t u trustee greater are lt of of_greater = run_rises kind config first turns are t u trustee greater lt of of_greater
