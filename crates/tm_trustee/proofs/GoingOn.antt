-- A launch goes on: what a trustee has, and each lane, is as what it has done then says.
use Rattle.std.proofs.Common.{◌≡◌, ◌≢◌, ℕ, ◌+◌, ◌-◌, ◌<◌, ◌≤◌, true, false, List, [], ◌∷◌, ◌++◌, length, map, slice_index_or, inl, inr, refl, sym, ◌∙◌, ap, subst, arith, append_assoc, length-append, length-set, length-drop, ne_eqb}
use Rattle.std.specs.Prelude.{slice_get}
use Rattle.std.specs.List.{AllByRecursion, AllZip}
use Rattle.std.specs.declared.option.Option.TheVariants.{Some}
use Rattle.std.proofs.lemmas.Bool.{cases_lt}
use Rattle.std.proofs.lemmas.List.{length-map, get_or_past}
use Rattle.std.proofs.lemmas.List.FromFn.{length-map-range_with_len}
use Rattle.tm_seq.specs.Kind.{Kind}
use Rattle.tm_seq.specs.declared.kind.Event.{Event}
use Rattle.tm_seq.specs.declared.kind.Next.{Next}
use Rattle.tm_seq.specs.declared.kind.Next.TheVariants.{Ask, Done}
use Rattle.tm_batch.specs.declared.message.Request.{Request}
use Rattle.tm_batch.specs.declared.message.Request.TheVariants.{Apply}
use Rattle.tm_model.specs.declared.entry.Entry.{Entry}
use Rattle.tm_model.specs.Entries.{AreResumes}
use Rattle.tm_model.specs.Holds.{has_bye}
use Rattle.tm_model.specs.Laws.{IsOpening}
use Rattle.tm_model.specs.Legal.{HasFirst, IsLegal}
use Rattle.tm_model.specs.Serve.{works_resumed, state_after}
use Rattle.tm_model.specs.State.{AskOf, Work, Setup, State, ids_above}
use Rattle.tm_core.proofs.Sound.{states_are_sound}
use Rattle.tm_latch.specs.declared.ticket.Ticket.{Ticket}
use Rattle.tm_latch.specs.Tickets.{first_of}
use Rattle.tm_pair.specs.Views.{ClientView}
use Rattle.tm_state.specs.Asking.{HaveAllEnded}
use Rattle.tm_state.specs.Launches.{Pending, work_of}
use Rattle.tm_state.specs.Represents.{Represents}
use Rattle.tm_state.specs.Resuming.{HasGoneOn, Settles}
use Rattle.tm_state.specs.StateView.{StateView}
use Rattle.tm_state.specs.declared.resumed.Resumed.{Resumed}
use Rattle.tm_state.specs.declared.resumed.Resumed.TheVariants.{Asked, Ended}
use Rattle.tm_trustee.specs.Above.{IsAt}
use Rattle.tm_trustee.specs.Awaiting.{IsAskAt, AreAwaited}
use Rattle.tm_trustee.specs.Lanes.{IsAsker, IsLane}
use Rattle.tm_trustee.specs.NestedAsks.{NestedAsk, ToldReply, target, ask_of, asks_of, told_by, replies_of, pending_of, works_at, asked_by, AppliesAmong}
use Rattle.tm_trustee.specs.Serving.{AreLanes}
use Rattle.tm_trustee.specs.Tasks.{AsksAt, HasPlace, MayNote, Notes, AreGoing}
use Rattle.tm_trustee.specs.declared.lane.Lane.{Lane}
use Rattle.tm_trustee.specs.declared.stage.Stage.{Stage}
use Rattle.tm_trustee.specs.declared.stage.Stage.TheVariants.{Before, Out, Over}
use Rattle.tm_trustee.proofs.Awaited.{IsToldRightly, IsRest, IsStop, asks_itself, run_stops, run_lands, run_all_asks, run_all_replies, rest_of, run_awaited}
use Rattle.tm_trustee.proofs.Bridging.{first_works, run_of}
use Rattle.tm_trustee.proofs.Elements.{element_at, same_element, set_cases, there_as}
use Rattle.tm_trustee.proofs.Idle.{idle_behind, ended_idle}
use Rattle.tm_trustee.proofs.LaneRuns.{LaneGoes, lane_goes}
use Rattle.tm_trustee.proofs.LaneSteps.{zip_rest, zip_length, zip_kept, Took, Adds, adds_none, adds_one, both_go, few_asks}
use Rattle.tm_trustee.proofs.Replied.{asked_by-append}
use Rattle.tm_trustee.proofs.Resuming.{same_ran, both_resume}
use Rattle.tm_trustee.proofs.Runs.{IsRunOf, run_resumes}

no_less : (xs : List ℕ) (x : ℕ) → xs ≡ [] → x < length xs → ⊥
no_less xs x none lt = let zero = ap (λ l. length l) none in omega (arith, zero, lt)

module _ {V O R T : Type 0} where
  -- a trustee holds nothing at a number that no trustee has
  held_within : (opening : State V O R T) → IsOpening opening → (u x : ℕ) → x < length (ids_above opening.setup u) → u < opening.setup.config.trustees
  held_within opening (number, config, first, buildable, lt, is) u x some =
      elim (cases_lt u opening.setup.config.trustees) [
        | inl below ↦ below
        | inr past ↦
            let config_is : opening.setup.config ≡ config = ap (λ (s : State V O R T). s.setup.config) is in
            let size : length opening.setup.above ≡ config.trustees = ap (λ (s : State V O R T). length s.setup.above) is ∙ length-map-range_with_len _ 0 config.trustees in
            let count = ap (λ c. c.trustees) config_is in
            absurd (no_less (ids_above opening.setup u) x (get_or_past opening.setup.above u [] (omega (arith, past, size, count))) some)
      ]

  -- as many requests as what they ask, where all are applies
  as_many_asked : (ids : List ℕ) (qs : List (Request V O R T)) → AllByRecursion (AppliesAmong ids) qs → length (asked_by qs) ≡ length qs
  as_many_asked ids [] all = refl
  as_many_asked ids (Apply n op ∷ qs) all = let rest = as_many_asked ids qs all.1 in omega (arith, rest)
  as_many_asked ids (q ∷ qs) all = absurd all.0

  -- noting adds no lane
  pub noted_many : (number : ℕ) (result : Resumed V O R T) (lanes final : List (Lane V O R T)) → Notes number result lanes final → length final ≡ length lanes
  noted_many number Ended lanes final same = ap (λ v. length v) same
  noted_many number (Asked u x op on) lanes final (was, to, at, asks, is) = ap (λ v. length v) is ∙ length-set lanes (u - (number + 1)) to

  module _ (kind : Kind V O R T) (opening : State V O R T) (log since es : List (Entry V O R T)) (ups : List (ClientView V O R T)) (number : ℕ) (held : List ℕ)
      (h new : StateView V O R T) (lanes mids : List (Lane V O R T)) (l : Ticket (Pending T)) (event : Event R) (result : Resumed V O R T)
      (are : AreGoing kind opening log ups number held since h lanes)
      (first : first_of l.id h.launched ≡ Some l)
      (goes : HasGoneOn kind held l event es result h new)
      (after : Represents kind opening (log ++ (since ++ es)) new)
      (rightly : IsToldRightly opening.setup event l.id (work_of l) (λ u. pending_of kind opening u (log ++ since)))
      (as_many : length mids ≡ length lanes)
      (took : (i : ℕ) (lane mid : Lane V O R T) → slice_get lanes i ≡ Some lane → slice_get mids i ≡ Some mid
      → (ws : List (Work T)) → Took (told_by (number + 1 + i) (work_of l ∷ ws) l.number event) lane mid) where
    abbrev done : List (Entry V O R T)
    done = log ++ since

    abbrev s : State V O R T
    s = state_after kind opening done

    abbrev s' : State V O R T
    s' = state_after kind opening (done ++ es)

    abbrev last : Next O T R
    last = goes.2

    joined : log ++ (since ++ es) ≡ done ++ es
    joined = sym (append_assoc log since es)

    abbrev opens : IsOpening opening
    opens = are.current.represents.opens

    legal_now : IsLegal kind opening done
    legal_now = are.current.represents.is_legal

    legal : IsLegal kind opening (done ++ es)
    legal = subst (λ x. IsLegal kind opening x) joined after.is_legal

    number_is : h.number ≡ opening.setup.number
    number_is = are.current.represents.keeps.number ∙ ap (λ (x : Setup). x.number) (states_are_sound kind opening done opens legal_now).setup

    run : IsRunOf opening.setup l.id l.number event es last
    run = run_of kind opening.setup h.number held l.id l.number goes.0 l.task.task event es goes.1 last number_is are.holds goes.4

    pub only_resumes : AreResumes es
    only_resumes = run_resumes opening.setup l.id l.number event es last run

    abbrev rest_works : List (Work T)
    rest_works = (first_works s h l are.current.represents.keeps first).0

    here : works_at s l.id ≡ work_of l ∷ rest_works
    here = (first_works s h l are.current.represents.keeps first).1

    lands : (works_at s' l.id ≡ works_resumed (work_of l ∷ rest_works) last) × ((d : ℕ) → d ≢ l.id → works_at s' d ≡ works_at s d)
    lands = run_lands kind opening opens done es legal l.id l.number event last run (work_of l) rest_works here refl rightly are.awaited

    abbrev told : ℕ → List (ToldReply R)
    told u = told_by u (work_of l ∷ rest_works) l.number event

    abbrev asked : ℕ → List (NestedAsk O)
    asked u = ask_of opening.setup u l.id l.number last

    abbrev RestAt : ℕ → List (NestedAsk O) → Type 0
    RestAt u rest = IsRest kind opening opens done es legal l.id l.number event last run (work_of l) rest_works here refl rightly are.awaited u rest

    rest_at : (u : ℕ) → opening.setup.number < u → (rest : List (NestedAsk O)) × RestAt u rest
    rest_at u lt = rest_of kind opening opens done es legal l.id l.number event last run (work_of l) rest_works here refl rightly are.awaited u lt

    asks_now : (u : ℕ) → opening.setup.number < u → asks_of opening.setup u (done ++ es) ≡ asks_of opening.setup u done ++ asked u
    asks_now u lt = run_all_asks kind opening opens done es legal l.id l.number event last run (work_of l) rest_works here refl rightly are.awaited u lt

    replies_now : (u : ℕ) → replies_of kind opening u (done ++ es) ≡ replies_of kind opening u done ++ told u
    replies_now u = run_all_replies kind opening opens done es legal l.id l.number event last run (work_of l) rest_works here refl rightly are.awaited u

    awaited_now : AreAwaited kind opening (done ++ es)
    awaited_now = run_awaited kind opening opens done es legal l.id l.number event last run (work_of l) rest_works here refl rightly are.awaited

    above : (i : ℕ) → opening.setup.number < number + 1 + i
    above i = let same = are.numbered in omega (arith, same)

    -- no Bye was said above, as a launch goes on
    unsaid : (lane : Lane V O R T) (up : ClientView V O R T) (i : ℕ) → slice_get lanes i ≡ Some lane → slice_get ups i ≡ Some up → has_bye up.sent ≡ false
    unsaid lane up i at_lane at_up =
        elim lane.stage as (λ (st : Stage). lane.stage ≡ st → has_bye up.sent ≡ false) [
          | Before ↦ λ e. subst (λ (st : Stage). IsAt st up) e (are.at i lane up at_lane at_up)
          | Out ↦ λ e. absurd (over (λ b. let no : Before ≡ Out = sym b ∙ e in absurd cc))
          | Over ↦ λ e. absurd (over (λ b. let no : Before ≡ Over = sym b ∙ e in absurd cc))
        ] refl
      where
        over : lane.stage ≢ Before → ⊥
        over ne =
            let ended = are.said i lane at_lane ne in
            let all : HaveAllEnded opening done = λ c lt. subst (λ x. has_bye x ≡ true) (sym (same_ran c log since are.current.only)) (ended c lt) in
            let idle = idle_behind kind opening opens log since are.current.only legal_now are.idle in
            let none = ended_idle kind opening opens done legal_now idle all l.id in
            let no : work_of l ∷ rest_works ≡ [] = sym here ∙ none in
            absurd cc

    is_lane : (i : ℕ) (up : ClientView V O R T) (lane : Lane V O R T) → slice_get ups i ≡ Some up → slice_get lanes i ≡ Some lane → IsLane kind opening done (number + 1 + i) up lane
    is_lane i up lane at_up at_lane = are.kept i up lane at_up at_lane

    -- the launches that asked at a lane and are left are those of the asks that are left
    kept_now :
        (i : ℕ) (up : ClientView V O R T) (lane mid : Lane V O R T) → slice_get ups i ≡ Some up → slice_get lanes i ≡ Some lane → slice_get mids i ≡ Some mid
        → (rest : List (NestedAsk O)) → RestAt (number + 1 + i) rest → AllZip (IsAsker s) mid.askers.items rest
    kept_now i up lane mid at_up at_lane at_mid rest at =
        let u = number + 1 + i in
        let t = took i lane mid at_lane at_mid rest_works in
        let (gone, split, many) = t.askers in
        let tickets = ap (λ x. length x) at.tickets in
        let size = length-map at.gone (λ a. a.ticket) in
        let told_size = length-map (told u) (λ x. x.ticket) in
        zip_rest (IsAsker s) gone mid.askers.items at.gone rest
        (subst (λ x. AllZip (IsAsker s) x (at.gone ++ rest)) split (subst (λ x. AllZip (IsAsker s) lane.askers.items x) at.split (is_lane i up lane at_up at_lane).askers))
        (omega (arith, many, tickets, size, told_size))

    still :
        (i : ℕ) (up : ClientView V O R T) (lane mid : Lane V O R T) → slice_get ups i ≡ Some up → slice_get lanes i ≡ Some lane → slice_get mids i ≡ Some mid
        → (rest : List (NestedAsk O)) → RestAt (number + 1 + i) rest → AllZip (IsAsker s') mid.askers.items rest
    still i up lane mid at_up at_lane at_mid rest at =
        zip_kept (IsAsker s) (IsAsker s') (λ a. a.by ≢ l.id)
        (λ t a ne is. (is.0, subst (λ x. HasFirst x (λ w. w ≡ work_of t)) (sym (lands.1 t.id (λ e. ne (sym is.0 ∙ e)))) is.1))
        mid.askers.items rest (kept_now i up lane mid at_up at_lane at_mid rest at) at.others

    -- the asks that are pending then are of different live objects
    few : (u : ℕ) → opening.setup.number < u → length (pending_of kind opening u (done ++ es)) ≤ opening.setup.config.objects
    few u lt =
        let sound = states_are_sound kind opening (done ++ es) opens legal in
        let live = few_asks s'.live (pending_of kind opening u (done ++ es)) (λ a w. (w.ticket ≡ a.ticket) × IsAskAt opening.setup u w.awaits) (awaited_now.asked u lt) (awaited_now.once u lt) in
        let most = sound.most in
        let objects = ap (λ (x : Setup). x.config.objects) sound.setup in
        omega (arith, live, most, objects)

    -- there is room for its ask at a lane
    room :
        (i : ℕ) (up : ClientView V O R T) (lane mid : Lane V O R T) → slice_get ups i ≡ Some up → slice_get lanes i ≡ Some lane → slice_get mids i ≡ Some mid
        → length (asked (number + 1 + i)) ≡ 1 → (x : ℕ) → x < length (ids_above opening.setup (number + 1 + i)) → HasPlace x mid
    room i up lane mid at_up at_lane at_mid one x within =
        let u = number + 1 + i in
        let lt = above i in
        let (rest, at) = rest_at u lt in
        let is = is_lane i up lane at_up at_lane in
        let t = took i lane mid at_lane at_mid rest_works in
        let most = few u lt in
        let names : length mid.names.items ≡ length (ids_above opening.setup u) =
        sym (length-map mid.names.items (λ n. n.id)) ∙ ap (λ v. length (map (λ n. n.id) v.items)) t.names ∙ ap (λ v. length v) is.names in
        let kept = zip_length (IsAsker s) mid.askers.items rest (kept_now i up lane mid at_up at_lane at_mid rest at) in
        let pending = ap (λ v. length v) at.pending in
        let both = length-append rest (asked u) in
        let cap : mid.askers.capacity ≡ opening.setup.config.objects = t.askers_room ∙ is.askers_room in
        let asks = ap (λ v. length v) (asks_now u lt) in
        let asks_both = length-append (asks_of opening.setup u done) (asked u) in
        let replies = ap (λ v. length v) (replies_now u) in
        let replies_both = length-append (replies_of kind opening u done) (told u) in
        let dropped = length-drop (length (replies_of kind opening u (done ++ es))) (asks_of opening.setup u (done ++ es)) in
        let due = is.due in
        let came = ap (λ v. length v) t.came in
        let came_both = length-append (map (λ y. y.reply) (told u)) mid.came.items in
        let told_size = length-map (told u) (λ y. y.reply) in
        let all_asked = ap (λ v. length v) is.asks in
        let targets = length-map (asks_of opening.setup u done) (λ (a : NestedAsk O). target a) in
        let parts : length (asked_by (up.sent ++ lane.waits.items)) ≡ length (asked_by up.sent) + length (asked_by lane.waits.items) =
        ap (λ v. length v) (asked_by-append up.sent lane.waits.items) ∙ length-append (asked_by up.sent) (asked_by lane.waits.items) in
        let waiting = as_many_asked (ids_above opening.setup u) lane.waits.items is.only in
        let waits : length mid.waits.items ≡ length lane.waits.items = ap (λ v. length v.items) t.waits in
        let waits_cap : mid.waits.capacity ≡ opening.setup.config.objects = ap (λ v. v.capacity) t.waits ∙ is.waits_room in
        record {
          name = omega (arith, names, within);
          askers = omega (arith, kept, pending, both, cap, most, one);
          waits = omega (arith, most, asks, asks_both, replies, replies_both, dropped, due, came, came_both, told_size, all_asked, targets, parts, waiting, waits, waits_cap, one);
        }

    stop : IsStop opening.setup last
    stop = run_stops opening.setup l.id l.number event es last run

    index_of : (u : ℕ) → number < u → number + 1 + (u - (number + 1)) ≡ u
    index_of u lt = omega (arith, lt)

    asks_there : (u x : ℕ) (op : O) (task : T) → last ≡ Ask u x op task → x < length (ids_above opening.setup u)
        → asked u ≡ record { by = l.id; ticket = l.number; id = slice_index_or (ids_above opening.setup u) x 0; op = op } ∷ []
    asks_there u x op task e lt = ap (λ n. ask_of opening.setup u l.id l.number n) e ∙ asks_itself R opening.setup u l.id l.number x op task lt

    -- what it did last can be noted
    may_ask : (u x : ℕ) (op : O) (task : T) (on : Ticket (Pending T)) → last ≡ Ask u x op task → (opening.setup.number < u) × (x < length (ids_above opening.setup u)) → MayNote number (Asked u x op on) mids
    may_ask u x op task on e at =
        let same = are.numbered in
        let within = held_within opening opens u x at.1 in
        let sides = are.sides in
        let many = are.as_many in
        let k = u - (number + 1) in
        let back : number + 1 + k ≡ u = index_of u (omega (arith, same, at.0)) in
        let (mid, at_mid) = element_at mids k (omega (arith, within, sides, many, as_many, same, at.0)) in
        let (lane, at_lane) = there_as mids lanes k mid (sym as_many) at_mid in
        let (up, at_up) = there_as mids ups k mid (sym many ∙ sym as_many) at_mid in
        let one : length (asked (number + 1 + k)) ≡ 1 = subst (λ n. length (asked n) ≡ 1) (sym back) (ap (λ v. length v) (asks_there u x op task e at.1)) in
        (omega (arith, same, at.0), (mid, at_mid, room k up lane mid at_up at_lane at_mid one x (subst (λ n. x < length (ids_above opening.setup n)) (sym back) at.1)))

    pub may_note : MayNote number result mids
    may_note = by last refl goes.5
      where
        by : (next : Next O T R) → last ≡ next → Settles l.id l.number l.task.place next result h.launched new.launched h.ready new.ready → MayNote number result mids
        by (Done r) e settles = subst (λ x. MayNote number x mids) (sym settles.0) tt
        by (Ask u x op task) e settles =
            let on : Ticket (Pending T) = record { id = l.id; number = l.number; task = record { place = l.task.place; task = task; awaits = AskOf u x } } in
            subst (λ y. MayNote number y mids) (sym settles.0) (may_ask u x op task on e (subst (IsStop opening.setup) e stop))

    module _ (final : List (Lane V O R T)) (notes : Notes number result mids final) where
      abbrev Added : ℕ → Lane V O R T → Lane V O R T → Type 0
      Added i mid becomes = Adds (ids_above opening.setup (number + 1 + i)) s' (asked (number + 1 + i)) mid becomes

      asks_here :
          (u x : ℕ) (op : O) (task : T) (i : ℕ) (mid becomes : Lane V O R T) → last ≡ Ask u x op task → (opening.setup.number < u) × (x < length (ids_above opening.setup u))
          → map (λ n. n.id) mid.names.items ≡ ids_above opening.setup (number + 1 + i) → slice_get mids i ≡ Some mid → slice_get final i ≡ Some becomes
          → Notes number (Asked u x op (record { id = l.id; number = l.number; task = record { place = l.task.place; task = task; awaits = AskOf u x } })) mids final
          → Added i mid becomes
      asks_here u x op task i mid becomes e at names at_mid at_final (lane, to, at_lane, asks, is) =
          let on : Ticket (Pending T) = record { id = l.id; number = l.number; task = record { place = l.task.place; task = task; awaits = AskOf u x } } in
          let same = are.numbered in
          let back : number + 1 + (u - (number + 1)) ≡ u = index_of u (omega (arith, same, at.0)) in
          elim (set_cases mids (u - (number + 1)) i to becomes (subst (λ v. slice_get v i ≡ Some becomes) is at_final)) [
            | inl here ↦
                let there : u ≡ number + 1 + i = sym back ∙ ap (λ n. number + 1 + n) (sym here.0) in
                let mid_is : mid ≡ lane = same_element mids (u - (number + 1)) lane mid at_lane (subst (λ n. slice_get mids n ≡ Some mid) here.0 at_mid) in
                let first_on : HasFirst (works_at s' l.id) (λ w. w ≡ work_of on) =
                subst (λ v. HasFirst v (λ w. w ≡ work_of on)) (sym (lands.0 ∙ ap (works_resumed (work_of l ∷ rest_works)) e)) refl in
                let one = subst (λ n. asked n ≡ record { by = l.id; ticket = l.number; id = slice_index_or (ids_above opening.setup n) x 0; op = op } ∷ []) there (asks_there u x op task e at.1) in
                adds_one (ids_above opening.setup (number + 1 + i)) s' (asked (number + 1 + i)) mid becomes l.id l.number x op on one names
                (subst (λ m. AsksAt x op on m becomes) (sym mid_is) (subst (λ m. AsksAt x op on lane m) (sym here.1) asks)) (refl, first_on)
            | inr other ↦
                let ne : u ≢ number + 1 + i = λ there. other.0 (omega (arith, there, back)) in
                let none : asked (number + 1 + i) ≡ [] =
                ap (λ n. ask_of opening.setup (number + 1 + i) l.id l.number n) e ∙ elsewhere u (number + 1 + i) x op task ne in
                adds_none (ids_above opening.setup (number + 1 + i)) s' (asked (number + 1 + i)) mid becomes none (same_element mids i mid becomes at_mid other.1)
          ]
        where
          elsewhere : (u v x : ℕ) (op : O) (task : T) → u ≢ v → ask_of {O = O} {R = R} {T = T} opening.setup v l.id l.number (Ask u x op task) ≡ []
          elsewhere u v x op task ne = rw (ne_eqb u v ne) refl

      adds :
          (i : ℕ) (mid becomes : Lane V O R T) → map (λ n. n.id) mid.names.items ≡ ids_above opening.setup (number + 1 + i) → slice_get mids i ≡ Some mid
          → slice_get final i ≡ Some becomes → Added i mid becomes
      adds i mid becomes names at_mid at_final = by last refl goes.5
        where
          by : (next : Next O T R) → last ≡ next → Settles l.id l.number l.task.place next result h.launched new.launched h.ready new.ready → Added i mid becomes
          by (Done r) e settles =
              let same : final ≡ mids = subst (λ x. Notes number x mids final) settles.0 notes in
              let none : asked (number + 1 + i) ≡ [] = ap (λ n. ask_of opening.setup (number + 1 + i) l.id l.number n) e in
              adds_none (ids_above opening.setup (number + 1 + i)) s' (asked (number + 1 + i)) mid becomes none
              (same_element mids i mid becomes at_mid (subst (λ v. slice_get v i ≡ Some becomes) same at_final))
          by (Ask u x op task) e settles =
              asks_here u x op task i mid becomes e (subst (IsStop opening.setup) e stop) names at_mid at_final (subst (λ y. Notes number y mids final) settles.0 notes)

      many_final : length final ≡ length mids
      many_final = noted_many number result mids final notes

      -- a lane before it, between, and after it
      between :
          (i : ℕ) (becomes : Lane V O R T) → slice_get final i ≡ Some becomes
          → (lane : Lane V O R T) × (mid : Lane V O R T) × (up : ClientView V O R T) × (slice_get lanes i ≡ Some lane) × (slice_get mids i ≡ Some mid) × (slice_get ups i ≡ Some up)
      between i becomes at_final =
          let (mid, at_mid) = there_as final mids i becomes (sym many_final) at_final in
          let (lane, at_lane) = there_as mids lanes i mid (sym as_many) at_mid in
          let (up, at_up) = there_as lanes ups i lane (sym are.as_many) at_lane in
          (lane, mid, up, at_lane, at_mid, at_up)

      both :
          (i : ℕ) (up : ClientView V O R T) (lane mid becomes : Lane V O R T) → slice_get ups i ≡ Some up → slice_get lanes i ≡ Some lane → slice_get mids i ≡ Some mid
          → slice_get final i ≡ Some becomes → LaneGoes (ids_above opening.setup (number + 1 + i)) s' (told (number + 1 + i)) (asked (number + 1 + i)) mid.askers.items lane becomes
      both i up lane mid becomes at_up at_lane at_mid at_final =
          let t = took i lane mid at_lane at_mid rest_works in
          let names = ap (λ v. map (λ n. n.id) v.items) t.names ∙ (is_lane i up lane at_up at_lane).names in
          both_go (ids_above opening.setup (number + 1 + i)) s' (told (number + 1 + i)) (asked (number + 1 + i)) lane mid becomes t (adds i mid becomes names at_mid at_final)

      stage_kept : (i : ℕ) (lane becomes : Lane V O R T) → slice_get lanes i ≡ Some lane → slice_get final i ≡ Some becomes → becomes.stage ≡ lane.stage
      stage_kept i lane becomes at_lane at_final =
          let (was, mid, up, at_was, at_mid, at_up) = between i becomes at_final in
          (both i up was mid becomes at_up at_was at_mid at_final).stage ∙ ap (λ x. x.stage) (sym (same_element lanes i was lane at_was at_lane))

      lanes_now : AreLanes kind opening (done ++ es) (number + 1) ups final
      lanes_now i up becomes at_up at_final =
          let u = number + 1 + i in
          let lt = above i in
          let (lane, mid, other, at_lane, at_mid, at_other) = between i becomes at_final in
          let (rest, at) = rest_at u lt in
          let goes_there = both i up lane mid becomes at_up at_lane at_mid at_final in
          lane_goes kind opening done es u up lane becomes (told u) (asked u) rest mid.askers.items (is_lane i up lane at_up at_lane) goes_there
          (asks_now u lt) (replies_now u) at.pending (at.gone, at.split, at.tickets)
          (still i up lane mid at_up at_lane at_mid rest at) (λ some. unsaid lane up i at_lane at_up)

      pub are_going : AreGoing kind opening log ups number held (since ++ es) new final
      are_going = record {
        numbered = are.numbered;
        holds = are.holds;
        sides = are.sides;
        as_many = many_final ∙ as_many ∙ are.as_many;
        at = λ i lane up at_lane at_up.
            let (was, mid, other, at_was, at_mid, at_other) = between i lane at_lane in
            subst (λ st. IsAt st up) (sym (stage_kept i was lane at_was at_lane)) (are.at i was up at_was at_up);
        current = record { represents = after; only = both_resume since es are.current.only only_resumes };
        awaited = subst (λ x. AreAwaited kind opening x) (sym joined) awaited_now;
        kept = subst (λ x. AreLanes kind opening x (number + 1) ups final) (sym joined) lanes_now;
        idle = are.idle;
        said = λ i lane at_lane ne.
            let (was, mid, other, at_was, at_mid, at_other) = between i lane at_lane in
            are.said i was at_was (λ e. ne (stage_kept i was lane at_was at_lane ∙ e));
      }
