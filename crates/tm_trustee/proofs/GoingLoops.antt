-- A trustee tells a reply that came, or begins a launch, and notes what the launch did last.
use Rattle.std.proofs.Common.{◌≡◌, ◌≢◌, ℕ, ◌+◌, ◌-◌, ◌<◌, ◌≤◌, ◌==◌, cond, List, [], ◌∷◌, ◌++◌, length, inl, inr, refl, sym, ◌∙◌, ap, subst, arith, append_assoc, append-nil, length-append, length-set, length-drop, eq-eqb, ne_eqb}
use Rattle.std.specs.Prelude.{slice_get, slice_set}
use Rattle.std.specs.List.{AllByRecursion, AllZip}
use Rattle.std.specs.declared.option.Option.{Option}
use Rattle.std.specs.declared.option.Option.TheVariants.{None, Some}
use Rattle.std.proofs.lemmas.List.{length-map}
use Rattle.std.proofs.lemmas.Option.{slice_get_within}
use Rattle.tm_seq.specs.Kind.{Kind}
use Rattle.tm_seq.specs.declared.kind.Event.TheVariants.{Begin, Reply}
use Rattle.tm_model.specs.declared.entry.Entry.{Entry}
use Rattle.tm_model.specs.Entries.{AreResumes}
use Rattle.tm_model.specs.Legal.{HasFirst}
use Rattle.tm_model.specs.Serve.{state_after}
use Rattle.tm_model.specs.State.{Awaits, Start, AskOf, Work, Setup, State}
use Rattle.tm_latch.specs.declared.ticket.Ticket.{Ticket}
use Rattle.tm_latch.specs.Tickets.{first_of}
use Rattle.tm_pair.specs.Views.{ClientView}
use Rattle.tm_state.specs.Launches.{Pending, work_of}
use Rattle.tm_state.specs.Represents.{Represents}
use Rattle.tm_state.specs.Resuming.{Makes, HasGoneOn, MayGoOn, IsResumable, KeepsOn}
use Rattle.tm_state.specs.StateView.{StateView}
use Rattle.tm_state.specs.declared.made.Made.{Made}
use Rattle.tm_state.specs.declared.resumed.Resumed.{Resumed}
use Rattle.tm_state.specs.declared.resumed.Resumed.TheVariants.{Asked, Ended}
use Rattle.tm_trustee.specs.Awaiting.{IsAskAt}
use Rattle.tm_trustee.specs.Lanes.{IsAsker, IsLane}
use Rattle.tm_trustee.specs.NestedAsks.{NestedAsk, target, asks_of, told_by, replies_of, pending_of, works_at, asked_by}
use Rattle.tm_trustee.specs.Serving.{AreTold}
use Rattle.tm_trustee.specs.Tasks.{TakesReply, MayNote, Notes, AreGoing, SameCame, MadeMore, IsGoingOn}
use Rattle.tm_trustee.specs.declared.lane.Lane.{Lane}
use Rattle.tm_trustee.proofs.Awaited.{IsToldRightly, reply_tells}
use Rattle.tm_trustee.proofs.Bridging.{works_first}
use Rattle.tm_trustee.proofs.Elements.{element_at, same_element, set_cases, set_here, set_other, there_as}
use Rattle.tm_trustee.proofs.GoingOn.{noted_many, may_note, are_going, only_resumes}
use Rattle.tm_trustee.proofs.LaneSteps.{Took, took_none, took_one, zip_length}
use Rattle.tm_trustee.proofs.Replied.{asked_by-append}
use Rattle.tm_trustee.proofs.Resuming.{both_resume}

awaits_ask : (setup : Setup) (u : ℕ) (a : Awaits) → IsAskAt setup u a → (x : ℕ) × (a ≡ AskOf u x)
awaits_ask setup u Start asks = absurd asks
awaits_ask setup u (AskOf v x) asks = (x, ap (λ n. AskOf n x) asks.0)

first_is : {T : Type 0} (ws : List (Work T)) (v : Work T) → HasFirst ws (λ w. w ≡ v) → (rest : List (Work T)) × (ws ≡ v ∷ rest)
first_is [] v first = absurd first
first_is (w ∷ ws) v first = (ws, ap (λ x. x ∷ ws) first)

module _ {V O R T : Type 0} where
  -- what is resumable, of what goes on
  pub resumable :
      (kind : Kind V O R T) (number : ℕ) (held : List ℕ) (since : List (Entry V O R T)) (h : StateView V O R T) (lanes : List (Lane V O R T))
      → IsGoingOn V O R T kind number held since h lanes → IsResumable kind held since h
  resumable kind number held since h lanes (opening, log, ups, are) = (opening, log, (are.current.represents, are.holds))

  first_asker :
      (s : State V O R T) (t : Ticket (Pending T)) (askers : List (Ticket (Pending T))) (asks : List (NestedAsk O)) → AllZip (IsAsker s) (t ∷ askers) asks
      → (a : NestedAsk O) × (rest : List (NestedAsk O)) × (asks ≡ a ∷ rest) × IsAsker s t a
  first_asker s t askers [] zip = absurd zip
  first_asker s t askers (a ∷ rest) zip = (a, rest, refl, zip.0)

  module _ (kind : Kind V O R T) (opening : State V O R T) (log since : List (Entry V O R T)) (ups : List (ClientView V O R T)) (number : ℕ) (held : List ℕ)
      (h : StateView V O R T) (lanes : List (Lane V O R T)) (are : AreGoing kind opening log ups number held since h lanes) where
    abbrev s : State V O R T
    s = state_after kind opening (log ++ since)

    above : (i : ℕ) → opening.setup.number < number + 1 + i
    above i = let same = are.numbered in omega (arith, same)

    -- as many launches asked and were not told as replies came at least
    pub enough_askers : (i : ℕ) (lane : Lane V O R T) → slice_get lanes i ≡ Some lane → length lane.came.items ≤ length lane.askers.items
    enough_askers i lane at =
        let (up, at_up) = there_as lanes ups i lane (sym are.as_many) at in
        let u = number + 1 + i in
        let is : IsLane kind opening (log ++ since) u up lane = are.kept i up lane at_up at in
        let asks = asks_of opening.setup u (log ++ since) in
        let due = is.due in
        let zip = zip_length (IsAsker s) lane.askers.items (pending_of kind opening u (log ++ since)) is.askers in
        let dropped = length-drop (length (replies_of kind opening u (log ++ since))) asks in
        let all = ap (λ v. length v) is.asks in
        let targets = length-map asks (λ (a : NestedAsk O). target a) in
        let parts : length (asked_by (up.sent ++ lane.waits.items)) ≡ length (asked_by up.sent) + length (asked_by lane.waits.items) =
        ap (λ v. length v) (asked_by-append up.sent lane.waits.items) ∙ length-append (asked_by up.sent) (asked_by lane.waits.items) in
        omega (arith, due, zip, dropped, all, targets, parts)

    module _ (i : ℕ) (lane mid : Lane V O R T) (launch : Ticket (Pending T)) (reply : R) (at_lane : slice_get lanes i ≡ Some lane)
        (takes : TakesReply launch reply lane mid) where
      abbrev u : ℕ
      u = number + 1 + i

      side : (up : ClientView V O R T) × (slice_get ups i ≡ Some up)
      side = there_as lanes ups i lane (sym are.as_many) at_lane

      asker : (a : NestedAsk O) × (rest : List (NestedAsk O)) × (pending_of kind opening u (log ++ since) ≡ a ∷ rest) × IsAsker s launch a
      asker =
          first_asker s launch mid.askers.items (pending_of kind opening u (log ++ since))
          (subst (λ v. AllZip (IsAsker s) v (pending_of kind opening u (log ++ since))) takes.askers (are.kept i side.0 lane side.1 at_lane).askers)

      works : (ws : List (Work T)) × (works_at s launch.id ≡ work_of launch ∷ ws)
      works = first_is (works_at s launch.id) (work_of launch) asker.3.1

      awaits : (x : ℕ) × (launch.task.awaits ≡ AskOf u x)
      awaits =
          let all = subst (λ v. AllByRecursion (λ a. HasFirst (works_at s a.by) (λ w. (w.ticket ≡ a.ticket) × IsAskAt opening.setup u w.awaits)) v) asker.2 (are.awaited.asked u (above i)) in
          let own = subst (λ v. HasFirst v (λ w. (w.ticket ≡ asker.0.ticket) × IsAskAt opening.setup u w.awaits)) (ap (works_at s) (sym asker.3.0) ∙ works.1) all.0 in
          awaits_ask opening.setup u launch.task.awaits own.1

      pub is_first : first_of launch.id h.launched ≡ Some launch
      is_first = works_first s h launch works.0 are.current.represents.keeps works.1

      pub has_begun : launch.task.awaits ≡ Start → ⊥
      has_begun start = let no : AskOf u awaits.0 ≡ Start = sym awaits.1 ∙ start in absurd cc

      pub told_rightly : IsToldRightly opening.setup (Reply reply) launch.id (work_of launch) (λ v. pending_of kind opening v (log ++ since))
      told_rightly = inr (reply, u, awaits.0, refl, awaits.1, above i, (asker.0, asker.1, asker.2, sym asker.3.0))

      tells : (v : ℕ) (ws : List (Work T)) → told_by v (work_of launch ∷ ws) launch.number (Reply reply) ≡ cond (u == v) (record { ticket = launch.number; reply = reply } ∷ []) []
      tells v ws = reply_tells v u awaits.0 (work_of launch) ws launch.number (Reply reply) reply refl awaits.1

      pub took_there :
          (k : ℕ) (was now : Lane V O R T) → slice_get lanes k ≡ Some was → slice_get (slice_set lanes i mid) k ≡ Some now
          → (ws : List (Work T)) → Took (told_by (number + 1 + k) (work_of launch ∷ ws) launch.number (Reply reply)) was now
      took_there k was now at_was at_now ws =
          elim (set_cases lanes i k mid now at_now) [
            | inl here ↦
                let same : was ≡ lane = same_element lanes i lane was at_lane (subst (λ n. slice_get lanes n ≡ Some was) here.0 at_was) in
                let e : u ≡ number + 1 + k = ap (λ n. number + 1 + n) (sym here.0) in
                let one : told_by (number + 1 + k) (work_of launch ∷ ws) launch.number (Reply reply) ≡ record { ticket = launch.number; reply = reply } ∷ [] =
                tells (number + 1 + k) ws ∙ ap (λ b. cond b (record { ticket = launch.number; reply = reply } ∷ []) []) (eq-eqb u (number + 1 + k) e) in
                took_one (told_by (number + 1 + k) (work_of launch ∷ ws) launch.number (Reply reply)) launch.number reply launch was now one
                (subst (λ x. TakesReply launch reply x now) (sym same) (subst (λ x. TakesReply launch reply lane x) (sym here.1) takes))
            | inr other ↦
                let ne : u ≢ number + 1 + k = λ e. other.0 (omega (arith, e)) in
                let none : told_by (number + 1 + k) (work_of launch ∷ ws) launch.number (Reply reply) ≡ [] =
                tells (number + 1 + k) ws ∙ ap (λ b. cond b (record { ticket = launch.number; reply = reply } ∷ []) []) (ne_eqb u (number + 1 + k) ne) in
                took_none (told_by (number + 1 + k) (work_of launch ∷ ws) launch.number (Reply reply)) was now none (same_element lanes k was now at_was other.1)
          ]

      module _ (old made : Made V O R T) (since_is : old.entries.items ≡ since) (es : List (Entry V O R T)) (makes : Makes es old made) (new : StateView V O R T)
          (result : Resumed V O R T) (goes : HasGoneOn kind held launch (Reply reply) es result h new)
          (keeps : KeepsOn kind held old.entries.items made.entries.items h new) where
        entries_are : made.entries.items ≡ since ++ es
        entries_are = makes.entries ∙ ap (λ v. v ++ es) since_is

        after : Represents kind opening (log ++ (since ++ es)) new
        after =
            subst (λ v. Represents kind opening (log ++ v) new) entries_are
            (keeps opening log (subst (λ v. MayGoOn kind held v opening log h) (sym since_is) (are.current.represents, are.holds)))

        pub reply_noted : MayNote number result (slice_set lanes i mid)
        reply_noted =
            may_note kind opening log since es ups number held h new lanes (slice_set lanes i mid) launch (Reply reply) result are is_first goes after told_rightly
            (length-set lanes i mid) took_there

        pub reply_resumes : AreResumes es
        reply_resumes =
            only_resumes kind opening log since es ups number held h new lanes (slice_set lanes i mid) launch (Reply reply) result are is_first goes after told_rightly
            (length-set lanes i mid) took_there

        pub reply_goes : (final : List (Lane V O R T)) → Notes number result (slice_set lanes i mid) final → AreGoing kind opening log ups number held made.entries.items new final
        reply_goes final notes =
            subst (λ v. AreGoing kind opening log ups number held v new final) (sym entries_are)
            (are_going kind opening log since es ups number held h new lanes (slice_set lanes i mid) launch (Reply reply) result are is_first goes after told_rightly
            (length-set lanes i mid) took_there final notes)

    module _ (l : Ticket (Pending T)) (is_first : first_of l.id h.launched ≡ Some l) (start : l.task.awaits ≡ Start)
        (old made : Made V O R T) (since_is : old.entries.items ≡ since) (es : List (Entry V O R T)) (makes : Makes es old made) (new : StateView V O R T)
        (result : Resumed V O R T) (goes : HasGoneOn kind held l Begin es result h new)
        (keeps : KeepsOn kind held old.entries.items made.entries.items h new) where
      begun_are : made.entries.items ≡ since ++ es
      begun_are = makes.entries ∙ ap (λ v. v ++ es) since_is

      begun : Represents kind opening (log ++ (since ++ es)) new
      begun =
          subst (λ v. Represents kind opening (log ++ v) new) begun_are
          (keeps opening log (subst (λ v. MayGoOn kind held v opening log h) (sym since_is) (are.current.represents, are.holds)))

      begins : IsToldRightly {R = R} opening.setup Begin l.id (work_of l) (λ v. pending_of kind opening v (log ++ since))
      begins = inl (refl, start)

      took_nothing :
          (k : ℕ) (was now : Lane V O R T) → slice_get lanes k ≡ Some was → slice_get lanes k ≡ Some now
          → (ws : List (Work T)) → Took (told_by (number + 1 + k) (work_of l ∷ ws) l.number Begin) was now
      took_nothing k was now at_was at_now ws = took_none (told_by (number + 1 + k) (work_of l ∷ ws) l.number Begin) was now refl (same_element lanes k was now at_was at_now)

      pub begin_noted : MayNote number result lanes
      begin_noted = may_note kind opening log since es ups number held h new lanes lanes l Begin result are is_first goes begun begins refl took_nothing

      pub begin_resumes : AreResumes es
      begin_resumes = only_resumes kind opening log since es ups number held h new lanes lanes l Begin result are is_first goes begun begins refl took_nothing

      pub begin_goes : (final : List (Lane V O R T)) → Notes number result lanes final → AreGoing kind opening log ups number held made.entries.items new final
      begin_goes final notes =
          subst (λ v. AreGoing kind opening log ups number held v new final) (sym begun_are)
          (are_going kind opening log since es ups number held h new lanes lanes l Begin result are is_first goes begun begins refl took_nothing final notes)

  -- what was made and then made is made
  pub made_none : (made : Made V O R T) → MadeMore made made
  made_none made = ([], tt, sym (append-nil made.entries.items), λ few. omega (arith, few))

  pub made_one : (old new : Made V O R T) (es : List (Entry V O R T)) → AreResumes es → Makes es old new → MadeMore old new
  made_one old new es only makes = (es, only, makes.entries, λ few. makes.count)

  pub made_twice : (a b c : Made V O R T) → MadeMore a b → MadeMore b c → MadeMore a c
  made_twice a b c (front, first, entries, counts) (es, only, more, then) = (
    front ++ es,
    both_resume front es first only,
    more ∙ ap (λ v. v ++ es) entries ∙ append_assoc a.entries.items front es,
    λ few.
        let size = length-append front es in
        let mid = counts few in
        let last = then (omega (arith, mid)) in
        omega (arith, size, mid, last),
  )

  -- how many replies came at a lane, where there is one
  abbrev pub came_in : Option (Lane V O R T) → ℕ
  came_in None = 0
  came_in (Some lane) = length lane.came.items

  -- noting does not change what came
  pub noted_came :
      (number : ℕ) (result : Resumed V O R T) (lanes final : List (Lane V O R T)) → Notes number result lanes final → (k : ℕ) (lane : Lane V O R T)
      → slice_get final k ≡ Some lane → (was : Lane V O R T) × (slice_get lanes k ≡ Some was) × (lane.came ≡ was.came)
  noted_came number Ended lanes final same k lane at = (lane, subst (λ v. slice_get v k ≡ Some lane) same at, refl)
  noted_came number (Asked u x op on) lanes final (was, to, at_was, asks, is) k lane at =
      elim (set_cases lanes (u - (number + 1)) k to lane (subst (λ v. slice_get v k ≡ Some lane) is at)) [
        | inl here ↦
            (was, subst (λ n. slice_get lanes n ≡ Some was) (sym here.0) at_was, ap (λ v. v.came) here.1 ∙ asks.came)
        | inr other ↦ (lane, other.1, refl)
      ]

  pub noted_told : (number : ℕ) (result : Resumed V O R T) (lanes final : List (Lane V O R T)) → Notes number result lanes final → AreTold lanes → AreTold final
  noted_told number result lanes final notes told k lane at =
      let (was, at_was, same) = noted_came number result lanes final notes k lane at in
      ap (λ v. v.items) same ∙ told k was at_was

  -- after a reply was taken at lane i and what its launch did was noted, the other lanes have what had come
  pub taken_others :
      (number i : ℕ) (result : Resumed V O R T) (first lanes final : List (Lane V O R T)) (mid : Lane V O R T) → length lanes ≡ length first
      → SameCame i first lanes → Notes number result (slice_set lanes i mid) final → SameCame i first final
  taken_others number i result first lanes final mid many same notes k was now at_was at_now ne =
      let (between, at_between, came) = noted_came number result (slice_set lanes i mid) final notes k now at_now in
      let at_lane : slice_get lanes k ≡ Some between = sym (set_other lanes i k mid ne) ∙ at_between in
      ap (λ v. v.items) came ∙ same k was between at_was at_lane ne

  -- and fewer came at it
  pub taken_fewer :
      (number i : ℕ) (result : Resumed V O R T) (lanes final : List (Lane V O R T)) (lane mid : Lane V O R T) (launch : Ticket (Pending T)) (reply : R)
      → slice_get lanes i ≡ Some lane → TakesReply launch reply lane mid → Notes number result (slice_set lanes i mid) final
      → came_in (slice_get final i) < came_in (slice_get lanes i)
  taken_fewer number i result lanes final lane mid launch reply at takes notes =
      let within = slice_get_within lanes i lane at in
      let many = noted_many number result (slice_set lanes i mid) final notes in
      let size = length-set lanes i mid in
      let (now, at_now) = element_at final i (omega (arith, within, many, size)) in
      let (between, at_between, came) = noted_came number result (slice_set lanes i mid) final notes i now at_now in
      let is_mid : between ≡ mid = same_element (slice_set lanes i mid) i mid between (set_here lanes i mid within) at_between in
      let now_size : came_in (slice_get final i) ≡ length mid.came.items = ap came_in at_now ∙ ap (λ v. length v.items) came ∙ ap (λ v. length v.came.items) is_mid in
      let was_size : came_in (slice_get lanes i) ≡ length (reply ∷ mid.came.items) = ap came_in at ∙ ap (λ v. length v) takes.came in
      omega (arith, now_size, was_size)
