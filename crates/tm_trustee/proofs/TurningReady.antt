-- A trustee is ready still after each part of a turn.
use Rattle.std.proofs.Common.{◌≡◌, ℕ, ◌+◌, ◌<◌, ◌≤◌, true, List, ◌++◌, length, sym, ◌∙◌, subst, arith}
use Rattle.std.specs.Prelude.{slice_get, IsSomeAnd}
use Rattle.std.specs.declared.option.Option.{Option}
use Rattle.std.specs.declared.option.Option.TheVariants.{None, Some}
use Rattle.std.proofs.lemmas.Option.{slice_get_within}
use Rattle.tm_seq.specs.Kind.{Kind}
use Rattle.tm_batch.specs.declared.limits.TheConstants.{MOST_CLIENTS, MOST_TRUSTEES}
use Rattle.tm_model.specs.Holds.{has_bye}
use Rattle.tm_model.specs.Legal.{IsLegal}
use Rattle.tm_model.specs.Lists.{IsPrefix}
use Rattle.tm_model.specs.Ran.{ran, mark_of}
use Rattle.tm_model.specs.State.{State}
use Rattle.tm_core.proofs.Marks.{ran-append}
use Rattle.tm_core.proofs.Tallies.{bye_more}
use Rattle.tm_pair.specs.Views.{hand_of}
use Rattle.tm_pair.specs.Theory.{Theory}
use Rattle.tm_trustee.specs.AboveAt.{IsAbove}
use Rattle.tm_trustee.specs.Awaiting.{AreAwaited, AreIdle}
use Rattle.tm_trustee.specs.Lanes.{IsLane}
use Rattle.tm_trustee.specs.Serving.{IsCurrent, IsServing, IsGoing, AreLanes, AreTold, AreSaid, GoesOn, done_by, ups_of}
use Rattle.tm_trustee.specs.Tables.{Pairwise, AreOfOne, AreAmong, KeepsAbove, KeepsOwn, IsReady, IsMidway}
use Rattle.tm_trustee.specs.declared.trustee.Trustee.{Trustee}
use Rattle.tm_trustee.proofs.Awaited.{quiet_awaited}
use Rattle.tm_trustee.proofs.Elements.{there_too, there}
use Rattle.tm_trustee.proofs.LaneKeeps.{lane_quiet}

some_weaker : {X : Type 0} (P Q : X → Type 0) (o : Option X) → ((x : X) → P x → Q x) → IsSomeAnd o P → IsSomeAnd o Q
some_weaker P Q None f h = absurd h
some_weaker P Q (Some x) f h = f x h

module _ {V O R T Table Client Owner : Type 0} (theory : Theory V O R T Table Client Owner) where
  -- tables that keep their opening states are of one build still
  of_one_still :
      (old new : List Table) → length new ≡ length old → Pairwise (λ was now. theory.opening now ≡ theory.opening was) old new
      → AreOfOne theory old → AreOfOne theory new
  of_one_still old new many same is =
      let (config, whole, each) = is.built in
      record {
        built = (
          config,
          whole,
          λ t table here. let (was, before) = there_too new old t table (sym many) here in same t was table before here ∙ each t was before,
        );
      }

  module _ (kind : Kind V O R T) where
    -- its own table has its side, and it is the trustee of the state in which that opened
    abbrev pub IsHome : Trustee V Table O R T Client Owner → Table → Type 0
    IsHome t table = theory.HasTrustee table t.side × IsServing theory kind (theory.opening table) t

    pub at_home :
        (tables : List Table) (t : Trustee V Table O R T Client Owner) (own : Table) → IsReady theory kind tables t
        → slice_get tables t.number ≡ Some own → IsHome t own
    at_home tables t own ready here = subst (λ (o : Option Table). IsSomeAnd o (IsHome t)) here ready.home

    -- it has one
    pub own_table : (tables : List Table) (t : Trustee V Table O R T Client Owner) → IsReady theory kind tables t → (own : Table) × (slice_get tables t.number ≡ Some own)
    own_table tables t ready = let (own, here, home) = there (IsHome t) (slice_get tables t.number) ready.home in (own, here)

    abbrev pub IsMidHome : Trustee V Table O R T Client Owner → Table → Type 0
    IsMidHome t table = theory.HasTrustee table t.side × IsGoing theory kind (theory.opening table) t

    pub at_mid :
        (tables : List Table) (t : Trustee V Table O R T Client Owner) (own : Table) → IsMidway theory kind tables t
        → slice_get tables t.number ≡ Some own → IsMidHome t own
    at_mid tables t own mid here = subst (λ (o : Option Table). IsSomeAnd o (IsMidHome t)) here mid.home

    pub mid_table : (tables : List Table) (t : Trustee V Table O R T Client Owner) → IsMidway theory kind tables t → (own : Table) × (slice_get tables t.number ≡ Some own)
    mid_table tables t mid = let (own, here, home) = there (IsMidHome t) (slice_get tables t.number) mid.home in (own, here)

    pub going_of : (opening : State V O R T) (t : Trustee V Table O R T Client Owner) → IsServing theory kind opening t → IsGoing theory kind opening t
    going_of opening t s = record {
      number = s.number;
      clients = s.clients;
      current = s.current;
      free = s.free;
      sides = s.sides;
      above = s.above;
      nested = s.nested;
      held = s.held;
      awaited = s.awaited;
      lanes = s.lanes;
      idle = s.idle;
      said = s.said;
    }

    pub serving_of : (opening : State V O R T) (t : Trustee V Table O R T Client Owner) → IsGoing theory kind opening t → AreTold t.lanes.items → IsServing theory kind opening t
    serving_of opening t s told = record {
      number = s.number;
      clients = s.clients;
      current = s.current;
      free = s.free;
      sides = s.sides;
      above = s.above;
      nested = s.nested;
      held = s.held;
      awaited = s.awaited;
      lanes = s.lanes;
      told = told;
      idle = s.idle;
      said = s.said;
    }

    pub ready_mid : (tables : List Table) (t : Trustee V Table O R T Client Owner) → IsReady theory kind tables t → IsMidway theory kind tables t
    ready_mid tables t ready = record {
      home = some_weaker (λ table. theory.HasTrustee table t.side × IsServing theory kind (theory.opening table) t) (IsMidHome t) (slice_get tables t.number)
          (λ table h. (h.0, going_of (theory.opening table) t h.1)) ready.home;
      built = ready.built;
      above = ready.above;
    }

    pub mid_ready : (tables : List Table) (t : Trustee V Table O R T Client Owner) → IsMidway theory kind tables t → AreTold t.lanes.items → IsReady theory kind tables t
    mid_ready tables t mid told = record {
      home = some_weaker (IsMidHome t) (λ table. theory.HasTrustee table t.side × IsServing theory kind (theory.opening table) t) (slice_get tables t.number)
          (λ table h. (h.0, serving_of (theory.opening table) t h.1 told)) mid.home;
      built = mid.built;
      above = mid.above;
    }

    -- only its sides above went on, with their lanes
    pub above_midway :
        (old new : List Table) (t u : Trustee V Table O R T Client Owner) → u ≡ record t { above = u.above; lanes = u.lanes } → IsMidway theory kind old t
        → IsAbove (t.clients + t.number) u.lanes.items (ups_of theory u) → AreAmong theory new (t.number + 1) u.above.items
        → KeepsAbove theory old new (t.number + 1) (t.clients + t.number)
        → ((own : Table) → slice_get old t.number ≡ Some own
        → AreLanes kind (theory.opening own) (done_by theory t) (t.number + 1) (ups_of theory u) u.lanes.items
        × AreSaid (theory.opening own) (theory.trustee_view t.side).log u.lanes.items)
        → IsMidway theory kind new u
    above_midway old new t u only mid is_above among keeps lanes =
        let v : Trustee V Table O R T Client Owner = record t { above = u.above; lanes = u.lanes } in
        let many = keeps.as_many in
        let seats = among.as_many in
        let seats_before = mid.above.as_many in
        let (own, here) = mid_table old t mid in
        let home = at_mid old t own mid here in
        let sides = home.1.sides in
        let (are, said) = lanes own here in
        let going : IsGoing theory kind (theory.opening own) v = record {
          number = home.1.number;
          clients = home.1.clients;
          current = home.1.current;
          free = home.1.free;
          sides = omega (arith, sides, seats, seats_before, many);
          above = is_above;
          nested = home.1.nested;
          held = home.1.held;
          awaited = home.1.awaited;
          lanes = are;
          idle = home.1.idle;
          said = said;
        } in
        let later : IsMidway theory kind new v = record {
          home =
              subst (λ (o : Option Table). IsSomeAnd o (IsMidHome v)) (sym (keeps.lower t.number (omega arith) ∙ here)) (home.0, going);
          built = of_one_still old new many (λ k x y ex ey. (keeps.others k x y ex ey).opening) mid.built;
          above = among;
        } in
        subst (λ x. IsMidway theory kind new x) (sym only) later

    -- only its own table was served
    pub own_ready :
        (old new : List Table) (t u : Trustee V Table O R T Client Owner) (was now : Table)
        → u ≡ record t { side = u.side; state = u.state; since = u.since } → IsReady theory kind old t
        → slice_get old t.number ≡ Some was → slice_get new t.number ≡ Some now → KeepsOwn theory old new t.number
        → theory.opening now ≡ theory.opening was → theory.HasTrustee now u.side
        → IsCurrent kind (theory.opening was) (theory.trustee_view u.side).log u.since.items u.state
        → ((c : ℕ) → hand_of (theory.trustee_view u.side) c ≡ None) → GoesOn (done_by theory t) (done_by theory u)
        → AreIdle kind (theory.opening was) (theory.trustee_view u.side).log
        → IsPrefix (theory.trustee_view t.side).log (theory.trustee_view u.side).log → IsReady theory kind new u
    own_ready old new t u was now only ready here still own opens mine current free (es, grows, none) idle longer =
        let v : Trustee V Table O R T Client Owner = record t { side = u.side; state = u.state; since = u.since } in
        let home = at_home old t was ready here in
        let opening = theory.opening was in
        let legal : IsLegal kind opening (done_by theory t ++ es) = subst (λ l. IsLegal kind opening l) grows current.represents.is_legal in
        let opened = current.represents.opens in
        let serving : IsServing theory kind opening v = record {
          number = home.1.number;
          clients = home.1.clients;
          current = current;
          free = free;
          sides = home.1.sides;
          above = home.1.above;
          nested = home.1.nested;
          held = home.1.held;
          awaited = subst (λ l. AreAwaited kind opening l) (sym grows) (quiet_awaited kind opening opened (done_by theory t) es legal none home.1.awaited);
          lanes = λ i up lane eu el.
              subst (λ l. IsLane kind opening l (t.number + 1 + i) up lane) (sym grows)
              (lane_quiet kind opening (done_by theory t) (t.number + 1 + i) up lane (home.1.lanes i up lane eu el) opened es legal none);
          told = home.1.told;
          idle = idle;
          said = λ i lane el beyond c lt.
              let (more, e) = longer in
              subst (λ l. has_bye (ran c l) ≡ true) (sym e)
              (subst (λ l. has_bye l ≡ true) (sym (ran-append mark_of c (theory.trustee_view t.side).log more))
              (bye_more (ran c (theory.trustee_view t.side).log) (ran c more) (home.1.said i lane el beyond c lt)));
        } in
        let later : IsReady theory kind new v = record {
          home =
              subst (λ (o : Option Table). IsSomeAnd o (IsHome v)) (sym still)
              (mine, subst (λ s. IsServing theory kind s v) (sym opens) serving);
          built = of_one_still old new own.as_many own.openings ready.built;
          above = record {
            as_many = ready.above.as_many ∙ sym own.as_many;
            mine = λ i table seat is is_seat.
                ready.above.mine i table seat (sym (own.others (t.number + 1 + i) (λ e. absurd (omega (arith, e)))) ∙ is) is_seat;
          };
        } in
        subst (λ x. IsReady theory kind new x) (sym only) later

    -- only what it moved was noted
    pub noted_ready :
        (tables : List Table) (t : Trustee V Table O R T Client Owner) (moved : ℕ) → IsReady theory kind tables t
        → IsReady theory kind tables (record t { moved = moved })
    noted_ready tables t moved ready =
        let v : Trustee V Table O R T Client Owner = record t { moved = moved } in
        let still : (table : Table) → IsHome t table → IsHome v table = λ table home. (
          home.0,
          record {
            number = home.1.number;
            clients = home.1.clients;
            current = home.1.current;
            free = home.1.free;
            sides = home.1.sides;
            above = home.1.above;
            nested = home.1.nested;
            held = home.1.held;
            awaited = home.1.awaited;
            lanes = home.1.lanes;
            told = home.1.told;
            idle = home.1.idle;
            said = home.1.said;
          },
        ) in
        record {
          home = some_weaker (IsHome t) (IsHome v) (slice_get tables t.number) still ready.home;
          built = ready.built;
          above = ready.above;
        }

    -- its sides above are as it notes
    pub is_above : (tables : List Table) (t : Trustee V Table O R T Client Owner) → IsReady theory kind tables t → IsAbove (t.clients + t.number) t.lanes.items (ups_of theory t)
    is_above tables t ready =
        let (own, here) = own_table tables t ready in (at_home tables t own ready here).1.above

    -- its numbers are small
    pub record IsFew (tables : List Table) (t : Trustee V Table O R T Client Owner) : Type 0 where
      pub number : t.number < MOST_TRUSTEES
      pub clients : t.clients ≤ MOST_CLIENTS
      pub above : length t.above.items < MOST_TRUSTEES
      pub within : t.number < length tables

    pub is_few : (tables : List Table) (t : Trustee V Table O R T Client Owner) → IsReady theory kind tables t → IsFew tables t
    is_few tables t ready =
        let (own, here) = own_table tables t ready in
        let serving = (at_home tables t own ready here).1 in
        let (number, config, first, buildable, lt, is) = serving.current.represents.opens in
        let most = subst (λ s. s.setup.config.trustees ≤ MOST_TRUSTEES) (sym is) buildable.trustees.1 in
        let few = subst (λ s. s.setup.config.clients ≤ MOST_CLIENTS) (sym is) buildable.clients.1 in
        let sides = serving.sides in
        let clients = serving.clients in
        record {
          number = omega (arith, sides, most);
          clients = omega (arith, clients, few);
          above = omega (arith, sides, most);
          within = slice_get_within tables t.number own here;
        }

    pub mid_few : (tables : List Table) (t : Trustee V Table O R T Client Owner) → IsMidway theory kind tables t → IsFew tables t
    mid_few tables t mid =
        let (own, here) = mid_table tables t mid in
        let going = (at_mid tables t own mid here).1 in
        let (number, config, first, buildable, lt, is) = going.current.represents.opens in
        let most = subst (λ s. s.setup.config.trustees ≤ MOST_TRUSTEES) (sym is) buildable.trustees.1 in
        let few = subst (λ s. s.setup.config.clients ≤ MOST_CLIENTS) (sym is) buildable.clients.1 in
        let sides = going.sides in
        let clients = going.clients in
        record {
          number = omega (arith, sides, most);
          clients = omega (arith, clients, few);
          above = omega (arith, sides, most);
          within = slice_get_within tables t.number own here;
        }
