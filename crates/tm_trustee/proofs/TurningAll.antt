-- All sides above at once: what an exchange and a Bye need of each, and what they leave.
use Rattle.std.proofs.Common.{◌≡◌, ◌≢◌, ℕ, ◌+◌, ◌<◌, ◌≤◌, Bool, true, false, List, [], ◌∷◌, ◌++◌, length, map, inl, inr, refl, sym, ◌∙◌, ap, subst, arith, length-append, length-drop}
use Rattle.std.specs.Prelude.{slice_get}
use Rattle.std.specs.List.{AllByRecursion}
use Rattle.std.specs.declared.option.Option.{Option}
use Rattle.std.specs.declared.option.Option.TheVariants.{None, Some}
use Rattle.std.proofs.lemmas.List.{length-map}
use Rattle.std.proofs.lemmas.Option.{slice_get_within}
use Rattle.tm_seq.specs.Kind.{Kind}
use Rattle.tm_batch.specs.declared.message.Request.{Request}
use Rattle.tm_batch.specs.declared.message.Request.TheVariants.{Entrust, Apply, Launch, Grant, Release, Reclaim, Bye}
use Rattle.tm_model.specs.declared.entry.Entry.{Entry}
use Rattle.tm_model.specs.Orderly.{IsOfTrustee}
use Rattle.tm_model.specs.Ran.{ran, answered}
use Rattle.tm_model.specs.State.{State, ids_above, holds_at}
use Rattle.tm_core.proofs.Finding.{no_items}
use Rattle.tm_pair.specs.Sides.{HasRun, IsGoodClient}
use Rattle.tm_trustee.specs.NestedAsks.{target, asks_of, replies_of, pending_of, asked_by, AppliesAmong}
use Rattle.tm_model.specs.Holds.{has_bye}
use Rattle.tm_pair.specs.Views.{BatchView, ClientView}
use Rattle.tm_pair.specs.Theory.{Theory, TheoryLaws}
use Rattle.tm_state.specs.Asking.{HaveAllEnded, TellsEnd}
use Rattle.tm_trustee.specs.Above.{SaysByeAt}
use Rattle.tm_trustee.specs.AboveAt.{IsAbove, EachAt, EachLane, NeedAll}
use Rattle.tm_trustee.specs.Lanes.{IsLane, after_answers_lem}
use Rattle.tm_trustee.specs.Serving.{done_by}
use Rattle.tm_trustee.specs.Steps.{MaySendAsks, ExchangesLane, MaySayBye, SaysByeLane}
use Rattle.tm_trustee.specs.Tables.{AreAmong, KeepsAbove, IsReady, IsMidway}
use Rattle.tm_trustee.specs.Turn.{ExchangesAll}
use Rattle.tm_trustee.specs.declared.lane.Lane.{Lane}
use Rattle.tm_trustee.specs.declared.stage.Stage.{Stage}
use Rattle.tm_trustee.specs.declared.stage.Stage.TheVariants.{Before}
use Rattle.tm_trustee.specs.declared.trustee.Trustee.{Trustee}
use Rattle.tm_trustee.proofs.Elements.{there_too, element_at, same_element, mapped, mapped_from}
use Rattle.tm_trustee.proofs.HeldAbove.{holds_above}
use Rattle.tm_trustee.proofs.Idle.{idle_behind, ended_pending}
use Rattle.tm_trustee.proofs.AboveBye.{before_bye}
use Rattle.tm_trustee.proofs.LaneKeeps.{seen_fits, seen_replies}
use Rattle.tm_trustee.proofs.Replied.{replied_few, asked_by-append}
use Rattle.tm_trustee.proofs.Resuming.{same_ran}
use Rattle.tm_trustee.proofs.TurningLanes.{all_held, exchanged_lane, exchanged_side, said_lane}
use Rattle.tm_trustee.proofs.TurningReady.{at_home, own_table, ready_mid, mid_ready, above_midway}

module _ {V O R T Table Client Owner : Type 0} (theory : Theory V O R T Table Client Owner) where
  answers_before : (stage : Stage) → stage ≡ Before → after_answers_lem stage ≡ Before
  answers_before stage e = ap after_answers_lem e

  -- a lane that is before its Bye is so after an exchange
  stage_kept :
      (was now : Table) (old new : Client) (lane becomes : Lane V O R T) → ExchangesLane theory was now old new lane becomes → lane.stage ≡ Before → becomes.stage ≡ Before
  stage_kept was now old new lane becomes (inl (a, gets, takes, did, keeps)) e = takes.stage ∙ answers_before lane.stage e
  stage_kept was now old new lane becomes (inr (inl (pending, same, did, keeps))) e = ap (λ l. l.stage) same ∙ e
  stage_kept was now old new lane becomes (inr (inr (free, (mid, sent, view, keeps, inl (answer, some, (batch, goes, room, publishes, did, kept)))))) e = goes.stage ∙ e
  stage_kept was now old new lane becomes (inr (inr (free, (mid, sent, view, keeps, inr (answer, none, same, side, stays))))) e = ap (λ l. l.stage) stays ∙ e

  says_of : (was now : Table) (old new : Client) (lane becomes : Lane V O R T) → SaysByeLane theory was now old new lane becomes → SaysByeAt theory (Unit {0}) was now old new
  says_of was now old new lane becomes (inl h) = h.3
  says_of was now old new lane becomes (inr h) = h.2

  -- a Bye keeps what came
  came_kept : (was now : Table) (old new : Client) (lane becomes : Lane V O R T) → SaysByeLane theory was now old new lane becomes → becomes.came.items ≡ lane.came.items
  came_kept was now old new lane becomes (inl said) = ap (λ l. l.came.items) said.2
  came_kept was now old new lane becomes (inr kept) = ap (λ l. l.came.items) kept.1

module _ {V O R T : Type 0} where
  asked_many : (ids : List ℕ) (qs : List (Request V O R T)) → AllByRecursion (AppliesAmong ids) qs → length (asked_by qs) ≡ length qs
  asked_many ids [] all = refl
  asked_many ids (Apply n op ∷ qs) all = let more = asked_many ids qs all.1 in omega (arith, more)
  asked_many ids (Bye ∷ qs) all = absurd all.0
  asked_many ids (Entrust v ∷ qs) all = absurd all.0
  asked_many ids (Launch n t ∷ qs) all = absurd all.0
  asked_many ids (Grant n d ∷ qs) all = absurd all.0
  asked_many ids (Release n ∷ qs) all = absurd all.0
  asked_many ids (Reclaim n ∷ qs) all = absurd all.0

  asked_own : (qs : List (Request V O R T)) → AllByRecursion IsOfTrustee qs → has_bye qs ≡ false → length (asked_by qs) ≡ length qs
  asked_own [] all unsaid = refl
  asked_own (Apply n op ∷ qs) all unsaid = let more = asked_own qs all.1 unsaid in omega (arith, more)
  asked_own (Bye ∷ qs) all unsaid = absurd cc
  asked_own (Entrust v ∷ qs) all unsaid = absurd all.0
  asked_own (Launch n t ∷ qs) all unsaid = absurd all.0
  asked_own (Grant n d ∷ qs) all unsaid = absurd all.0
  asked_own (Release n ∷ qs) all unsaid = absurd all.0
  asked_own (Reclaim n ∷ qs) all unsaid = absurd all.0

  asked_sent : (xs ys : List (Request V O R T)) → AllByRecursion IsOfTrustee (xs ++ ys) → has_bye (xs ++ ys) ≡ false → length (asked_by ys) ≡ length ys
  asked_sent [] ys all unsaid = asked_own ys all unsaid
  asked_sent (Apply n op ∷ xs) ys all unsaid = asked_sent xs ys all.1 unsaid
  asked_sent (Bye ∷ xs) ys all unsaid = absurd cc
  asked_sent (Entrust v ∷ xs) ys all unsaid = absurd all.0
  asked_sent (Launch n t ∷ xs) ys all unsaid = absurd all.0
  asked_sent (Grant n d ∷ xs) ys all unsaid = absurd all.0
  asked_sent (Release n ∷ xs) ys all unsaid = absurd all.0
  asked_sent (Reclaim n ∷ xs) ys all unsaid = absurd all.0

  full_some : (qs : List (Request V O R T)) → qs ≢ [] → 1 ≤ length qs
  full_some [] some = absurd (some refl)
  full_some (q ∷ qs) some = omega arith

module _ {V O R T Table Client Owner : Type 0} (theory : Theory V O R T Table Client Owner) (kind : Kind V O R T) (laws : TheoryLaws theory kind) where
  -- a lane of which something waits is before its Bye
  needs_one :
      (tables : List Table) (t : Trustee V Table O R T Client Owner) → IsReady theory kind tables t → (i : ℕ) (table : Table) (seat : Client) (lane : Lane V O R T)
      → slice_get tables (t.number + 1 + i) ≡ Some table → slice_get t.above.items i ≡ Some seat → slice_get t.lanes.items i ≡ Some lane
      → MaySendAsks theory table seat lane
  needs_one tables t ready i table seat lane et es el =
      let (own, here) = own_table theory kind tables t ready in
      let serving = (at_home theory kind tables t own ready here).1 in
      let (config, whole, each) = ready.built.built in
      let up = mapped theory.client_view t.above.items i seat es in
      let is = serving.lanes i (theory.client_view seat) lane up el in
      let opens = each t.number own here in
      let number = serving.number in
      let clients = serving.clients in
      let of_config = ap (λ (s : State V O R T). s.setup.config) opens in
      let sides = serving.sides in
      let within = slice_get_within t.above.items i seat es in
      let few : t.number + 1 + i < config.trustees =
      subst (λ (k : _). t.number + 1 + i < k.trustees) of_config (omega (arith, sides, within)) in
      let place : (theory.client_view seat).place ≡ config.clients + t.number =
      serving.above.places i (theory.client_view seat) up ∙ ap (λ n. n + t.number) (clients ∙ ap (λ k. k.clients) of_config) in
      record {
        held = all_held (theory.opening table) (theory.client_view seat).place (ids_above (theory.opening own).setup (t.number + 1 + i)) lane.waits.items
            (λ id among. subst (λ c. 1 ≤ holds_at (theory.opening table) c id) (sym place)
            (holds_above kind (theory.opening own) (theory.opening table) t.number config whole (t.number + 1 + i) id opens (each (t.number + 1 + i) table et)
            (omega arith) few among))
            is.only;
        unsaid = λ some. elim is.last [ inl none ↦ none | inr ends ↦ absurd (some ends.1) ];
        room = is.came_room;
        told = serving.told i lane el;
      }

  pub needs_exchange :
      (tables : List Table) (t : Trustee V Table O R T Client Owner) → IsReady theory kind tables t
      → NeedAll (MaySendAsks theory) (t.number + 1) tables t.above.items t.lanes.items
  needs_exchange tables t ready = λ i table seat lane et es el. needs_one tables t ready i table seat lane et es el

  module _ (old new : List Table) (t u : Trustee V Table O R T Client Owner) (ready : IsReady theory kind old t)
      (goes : EachLane (ExchangesLane theory) (t.number + 1) old new t.above.items u.above.items t.lanes.items u.lanes.items)
      (as_many : length u.above.items ≡ length t.above.items) (lanes_many : length u.lanes.items ≡ length t.lanes.items)
      (among : AreAmong theory new (t.number + 1) u.above.items) where
    -- what was at a position before, and what is there now
    pub exchanged_all : (own : Table) → slice_get old t.number ≡ Some own → ExchangesAll theory (theory.opening own) old new t u
    exchanged_all own here = λ i was now before after ew en eb ea.
        let serving = (at_home theory kind old t own ready here).1 in
        let up = mapped theory.client_view t.above.items i before eb in
        let within = slice_get_within t.above.items i before eb in
        let many = serving.above.as_many in
        let size = length-map t.above.items theory.client_view in
        let (lane, el) = element_at t.lanes.items i (omega (arith, within, many, size)) in
        let (becomes, em) = there_too t.lanes.items u.lanes.items i lane lanes_many el in
        exchanged_side theory kind laws (theory.opening own) (done_by theory t) (t.number + 1 + i) was now before after lane becomes
        (ready.above.mine i was before ew eb) (among.mine i now after en ea) (serving.lanes i (theory.client_view before) lane up el)
        (goes i was now before after lane becomes ew en eb ea el em)

    module _ (is_above : IsAbove (t.clients + t.number) u.lanes.items (map theory.client_view u.above.items))
        (keeps : KeepsAbove theory old new (t.number + 1) (t.clients + t.number)) where
      exchanged_one :
          (own : Table) → slice_get old t.number ≡ Some own → (i : ℕ) (after : Client) (becomes : Lane V O R T) → slice_get u.above.items i ≡ Some after
          → slice_get u.lanes.items i ≡ Some becomes
          → IsLane kind (theory.opening own) (done_by theory t) (t.number + 1 + i) (theory.client_view after) becomes × (becomes.stage ≢ Before → HaveAllEnded (theory.opening own) (theory.trustee_view t.side).log)
      exchanged_one own here i after becomes ea em =
          let serving = (at_home theory kind old t own ready here).1 in
          let (before, eb) = there_too u.above.items t.above.items i after (sym as_many) ea in
          let (lane, el) = there_too u.lanes.items t.lanes.items i becomes (sym lanes_many) em in
          let within = slice_get_within t.above.items i before eb in
          let sides = ready.above.as_many in
          let (was, ew) = element_at old (t.number + 1 + i) (omega (arith, within, sides)) in
          let (now, en) = there_too old new (t.number + 1 + i) was keeps.as_many ew in
          let up = mapped theory.client_view t.above.items i before eb in
          let change = goes i was now before after lane becomes ew en eb ea el em in
          let mine = ready.above.mine i was before ew eb in (
            exchanged_lane theory kind laws (theory.opening own) (done_by theory t) (t.number + 1 + i) was now before after lane becomes mine
                (among.mine i now after en ea) (serving.lanes i (theory.client_view before) lane up el) (keeps.others (t.number + 1 + i) was now ew en).opening change,
            λ beyond. serving.said i lane el (λ first. beyond (stage_kept theory was now before after lane becomes change first)),
          )

      pub exchanged_midway : u ≡ record t { above = u.above; lanes = u.lanes } → IsMidway theory kind new u
      exchanged_midway only =
          above_midway theory kind old new t u only (ready_mid theory kind old t ready) is_above among keeps
          (λ own here. (
            λ i up lane eu el.
                let (after, ea, is_up) = mapped_from theory.client_view u.above.items i up eu in
                subst (λ v. IsLane kind (theory.opening own) (done_by theory t) (t.number + 1 + i) v lane) (sym is_up) (exchanged_one own here i after lane ea el).0,
            λ i lane el beyond.
                let within = slice_get_within u.lanes.items i lane el in
                let many = is_above.as_many in
                let size = length-map u.above.items theory.client_view in
                let (after, ea) = element_at u.above.items i (omega (arith, within, many, size)) in
                (exchanged_one own here i after lane ea el).1 beyond,
          ))

  -- what is known of a lane where no ask is pending
  module _ (opening home : State V O R T) (done : List (Entry V O R T)) (u : ℕ) (up : ClientView V O R T) (lane : Lane V O R T)
      (is : IsLane kind opening done u up lane) (good : IsGoodClient kind home up)
      (enough : length (replies_of kind opening u done) ≤ length (asks_of opening.setup u done)) (none : pending_of kind opening u done ≡ []) where
    as_many_told : length (asks_of opening.setup u done) ≤ length (replies_of kind opening u done)
    as_many_told =
        let size = length-drop (length (replies_of kind opening u done)) (asks_of opening.setup u done) in
        let zero = ap (λ l. length l) none in omega (arith, size, zero)

    all_asked : length (asks_of opening.setup u done) ≡ length (asked_by up.sent) + length (asked_by lane.waits.items)
    all_asked =
        sym (length-map (asks_of opening.setup u done) target) ∙ ap (λ l. length l) (is.asks ∙ asked_by-append up.sent lane.waits.items)
        ∙ length-append (asked_by up.sent) (asked_by lane.waits.items)

    pub nothing_waits : lane.waits.items ≡ []
    nothing_waits =
        let told = as_many_told in
        let asks = all_asked in
        let due = is.due in
        let size = asked_many (ids_above opening.setup u) lane.waits.items is.only in
        no_items lane.waits.items (omega (arith, told, asks, due, size))

    pub nothing_out : AllByRecursion IsOfTrustee up.sent → has_bye up.sent ≡ false → up.out ≡ None
    nothing_out asked unsaid = out_none up.out refl
      where
        out_none : (out : Option (BatchView V O R T)) → up.out ≡ out → out ≡ None
        out_none None e = refl
        out_none (Some b) e =
            let runs = subst (λ o. HasRun o up.sent (ran up.place up.seen)) e good.runs in
            let seen = seen_replies kind opening done u up lane is home good in
            let few = replied_few (ran up.place up.seen) (answered up.place up.seen) (seen_fits kind opening done u up lane is home good) in
            let count = ap (λ l. length l) seen in
            let sum = length-append (map (λ t. t.reply) (replies_of kind opening u done)) lane.came.items in
            let size = length-map (replies_of kind opening u done) (λ t. t.reply) in
            let sent = ap (λ l. length l) (ap asked_by runs.0 ∙ asked_by-append (ran up.place up.seen) b.requests) in
            let both = length-append (asked_by (ran up.place up.seen)) (asked_by b.requests) in
            let told = as_many_told in
            let asks = all_asked in
            let many = asked_sent (ran up.place up.seen) b.requests (subst (λ l. AllByRecursion IsOfTrustee l) runs.0 asked) (subst (λ l. has_bye l ≡ false) runs.0 unsaid) in
            let some = full_some b.requests (is.full b e) in
            absurd (omega (arith, few, count, sum, size, sent, both, told, asks, many, some))

  module _ (tables : List Table) (t : Trustee V Table O R T Client Owner) (ready : IsReady theory kind tables t) (own : Table)
      (here : slice_get tables t.number ≡ Some own) (ended : HaveAllEnded (theory.opening own) (theory.trustee_view t.side).log) where
    none_pending : (u : ℕ) → (theory.opening own).setup.number < u → pending_of kind (theory.opening own) u (done_by theory t) ≡ []
    none_pending u lt =
        let serving = (at_home theory kind tables t own ready here).1 in
        let opening = theory.opening own in
        let log = (theory.trustee_view t.side).log in
        let represents = serving.current.represents in
        let idle = idle_behind kind opening represents.opens log t.since.items serving.current.only represents.is_legal serving.idle in
        let all : HaveAllEnded opening (done_by theory t) = λ c few.
        subst (λ l. has_bye l ≡ true) (sym (same_ran c log t.since.items serving.current.only)) (ended c few) in
        ended_pending kind opening represents.opens (done_by theory t) represents.is_legal idle all serving.awaited u lt

    pub needs_bye : NeedAll (MaySayBye theory) (t.number + 1) tables t.above.items t.lanes.items
    needs_bye = λ i table seat lane et es el before.
        let serving = (at_home theory kind tables t own ready here).1 in
        let number = serving.number in
        let above : (theory.opening own).setup.number < t.number + 1 + i = omega (arith, number) in
        let up = mapped theory.client_view t.above.items i seat es in
        nothing_out (theory.opening own) (theory.opening table) (done_by theory t) (t.number + 1 + i) (theory.client_view seat) lane
        (serving.lanes i (theory.client_view seat) lane up el) (laws.client_is_good table seat (ready.above.mine i table seat et es))
        (serving.awaited.enough (t.number + 1 + i) above) (none_pending (t.number + 1 + i) above) (serving.above.asked i (theory.client_view seat) up)
        (before_bye lane.stage (theory.client_view seat) before (serving.above.stages i lane (theory.client_view seat) el up))

    module _ (new : List Table) (u : Trustee V Table O R T Client Owner)
        (goes : EachLane (SaysByeLane theory) (t.number + 1) tables new t.above.items u.above.items t.lanes.items u.lanes.items)
        (as_many : length u.above.items ≡ length t.above.items) (lanes_many : length u.lanes.items ≡ length t.lanes.items)
        (among : AreAmong theory new (t.number + 1) u.above.items)
        (is_above : IsAbove (t.clients + t.number) u.lanes.items (map theory.client_view u.above.items))
        (keeps : KeepsAbove theory tables new (t.number + 1) (t.clients + t.number)) where
      said_one :
          (i : ℕ) (after : Client) (becomes : Lane V O R T) → slice_get u.above.items i ≡ Some after → slice_get u.lanes.items i ≡ Some becomes
          → IsLane kind (theory.opening own) (done_by theory t) (t.number + 1 + i) (theory.client_view after) becomes × (becomes.came.items ≡ [])
      said_one i after becomes ea em =
          let serving = (at_home theory kind tables t own ready here).1 in
          let number = serving.number in
          let (before, eb) = there_too u.above.items t.above.items i after (sym as_many) ea in
          let (lane, el) = there_too u.lanes.items t.lanes.items i becomes (sym lanes_many) em in
          let within = slice_get_within t.above.items i before eb in
          let sides = ready.above.as_many in
          let (was, ew) = element_at tables (t.number + 1 + i) (omega (arith, within, sides)) in
          let (now, en) = there_too tables new (t.number + 1 + i) was keeps.as_many ew in
          let up = mapped theory.client_view t.above.items i before eb in
          let change = goes i was now before after lane becomes ew en eb ea el em in
          let mine = ready.above.mine i was before ew eb in
          let is = serving.lanes i (theory.client_view before) lane up el in
          let above : (theory.opening own).setup.number < t.number + 1 + i = omega (arith, number) in
          let none = nothing_waits (theory.opening own) (theory.opening was) (done_by theory t) (t.number + 1 + i) (theory.client_view before) lane is
          (laws.client_is_good was before mine) (serving.awaited.enough (t.number + 1 + i) above) (none_pending (t.number + 1 + i) above) in (
            said_lane theory kind laws (theory.opening own) (done_by theory t) (t.number + 1 + i) was now before after lane becomes mine (among.mine i now after en ea) is none change,
            came_kept theory was now before after lane becomes change ∙ serving.told i lane el,
          )

      pub said_ready : u ≡ record t { above = u.above; lanes = u.lanes } → IsReady theory kind new u
      said_ready only =
          mid_ready theory kind new u
          (above_midway theory kind tables new t u only (ready_mid theory kind tables t ready) is_above among keeps
          (λ table at. (
            λ i up lane eu el.
                let (after, ea, is_up) = mapped_from theory.client_view u.above.items i up eu in
                subst (λ (x : Table). IsLane kind (theory.opening x) (done_by theory t) (t.number + 1 + i) up lane) (same_element tables t.number table own at here)
                (subst (λ v. IsLane kind (theory.opening own) (done_by theory t) (t.number + 1 + i) v lane) (sym is_up) (said_one i after lane ea el).0),
            λ i lane el beyond. subst (λ (x : Table). HaveAllEnded (theory.opening x) (theory.trustee_view t.side).log) (same_element tables t.number table own at here) ended,
          )))
          (λ i lane el.
          let within = slice_get_within u.lanes.items i lane el in
          let many = is_above.as_many in
          let size = length-map u.above.items theory.client_view in
          let (after, ea) = element_at u.above.items i (omega (arith, within, many, size)) in
          (said_one i after lane ea el).1)

  -- what was said is said of the sides
  pub said_all :
      (old new : List Table) (t u : Trustee V Table O R T Client Owner) → IsReady theory kind old t
      → EachLane (SaysByeLane theory) (t.number + 1) old new t.above.items u.above.items t.lanes.items u.lanes.items → length u.lanes.items ≡ length t.lanes.items
      → EachAt (λ n was now before after. SaysByeAt theory (Unit {0}) was now before after) (t.number + 1) old new t.above.items u.above.items
  said_all old new t u ready goes lanes_many = λ i was now before after ew en eb ea.
      let (own, here) = own_table theory kind old t ready in
      let serving = (at_home theory kind old t own ready here).1 in
      let within = slice_get_within t.above.items i before eb in
      let many = serving.above.as_many in
      let size = length-map t.above.items theory.client_view in
      let (lane, el) = element_at t.lanes.items i (omega (arith, within, many, size)) in
      let (becomes, em) = there_too t.lanes.items u.lanes.items i lane lanes_many el in
      says_of theory was now before after lane becomes (goes i was now before after lane becomes ew en eb ea el em)

  -- all places have said Bye where the answer tells so
  pub all_ended :
      (tables : List Table) (t : Trustee V Table O R T Client Owner) → IsReady theory kind tables t → (own : Table) → slice_get tables t.number ≡ Some own
      → (all : Bool) → TellsEnd kind t.state all → all ≡ true → HaveAllEnded (theory.opening own) (theory.trustee_view t.side).log
  all_ended tables t ready own here all told e =
      let current = (at_home theory kind tables t own ready here).1.current in
      let log = (theory.trustee_view t.side).log in
      let ended = (told (theory.opening own) (log ++ t.since.items) current.represents).0 e in
      λ c lt. subst (λ l. has_bye l ≡ true) (same_ran c log t.since.items current.only) (ended c lt)
