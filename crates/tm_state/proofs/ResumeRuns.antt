-- A launch goes on behind a log: what it may be told, and what the longer log leaves.
use Rattle.std.proofs.Common.{◌≡◌, ℕ, ◌+◌, ◌-◌, ◌^◌, ◌<◌, ◌≤◌, min, List, [], ◌∷◌, ◌++◌, length, slice_index_or, inl, inr, refl, sym, ◌∙◌, ap, subst, arith, append_assoc, length-append}
use Rattle.std.specs.Prelude.{◌⊎◌, map, IsSome, IfNone}
use Rattle.std.specs.List.{AllByRecursion}
use Rattle.std.specs.declared.option.Option.{Option}
use Rattle.std.specs.declared.option.Option.TheVariants.{None, Some}
use Rattle.std.proofs.lemmas.Bool.{false≢true}
use Rattle.std.specs.Option.{IsSomeAnd}
use Rattle.tm_seq.specs.Kind.{Kind, KindLaws}
use Rattle.tm_seq.specs.declared.kind.Event.{Event}
use Rattle.tm_seq.specs.declared.kind.Event.TheVariants.{Begin, Reply}
use Rattle.tm_seq.specs.declared.kind.Next.{Next}
use Rattle.tm_seq.specs.declared.kind.Next.TheVariants.{Ask, Done}
use Rattle.tm_batch.specs.declared.limits.TheConstants.{WINDOW}
use Rattle.tm_batch.specs.declared.message.Completion.{Completion}
use Rattle.tm_latch.specs.declared.ticket.Ticket.{Ticket}
use Rattle.tm_latch.specs.Tickets.{first_of, tickets_of}
use Rattle.tm_latch.proofs.Listed.{first_head}
use Rattle.tm_model.specs.declared.entry.Entry.{Entry}
use Rattle.tm_model.specs.declared.entry.Entry.TheVariants.{By, Resume, Sent}
use Rattle.tm_model.specs.State.{Awaits, Start, AskOf, Work, Setup, State}
use Rattle.tm_model.specs.Serve.{state_after}
use Rattle.tm_model.specs.Legal.{HasFirst, IsAwaited, IsLegal}
use Rattle.tm_model.specs.Laws.{IsSound}
use Rattle.tm_objects.specs.Live.{HasLive}
use Rattle.tm_objects.specs.Live as live
use Rattle.tm_objects.specs.Stock.{Stock, changed}
use Rattle.tm_core.proofs.CallerLemmas.{all_weaker}
use Rattle.tm_core.proofs.Joins.{legal_logs_join, state-append}
use Rattle.tm_core.proofs.Sound.{states_are_sound}
use Rattle.tm_state.specs.declared.resumed.Resumed.{Resumed}
use Rattle.tm_state.specs.Launches.{Pending, AwaitsAny, AwaitsReply, Begins, to_begin, work_of}
use Rattle.tm_state.specs.StateView.{StateView}
use Rattle.tm_state.specs.Represents.{Keeps, Represents, requests_in}
use Rattle.tm_state.specs.Resuming.{Continues, Settles, Finishes, HasGoneOn, IsResumable, KeepsOn, AllAwait}
use Rattle.tm_state.proofs.BatchRuns.{requests_in-append}
use Rattle.tm_state.proofs.LaunchCounts.{on_fewer, end_fewer}
use Rattle.tm_state.proofs.ResumeKeeps.{first_at, all_first, launch_counts, ready_place, ready_room, keeps_ask, keeps_done}
use Rattle.tm_state.proofs.ResumeLands.{StopsAbove, settled, runs_land}

-- who has not begun may be told to begin, and who has, the reply
pub may_begin : (R : Type 0) (awaits : Awaits) → awaits ≡ Start → (setup : Setup) → AwaitsAny setup awaits → IsAwaited {R = R} setup awaits Begin
may_begin R Start e setup any = tt
may_begin R (AskOf u i) e setup any = absurd cc

pub may_reply : {R : Type 0} (awaits : Awaits) (r : R) → (awaits ≡ Start → ⊥) → (setup : Setup) → AwaitsAny setup awaits → IsAwaited setup awaits (Reply r)
may_reply Start r begun setup any = absurd (begun refl)
may_reply (AskOf u i) r begun setup any = any

module _ {O R T : Type 0} where
  stops_any :
      (setup other : Setup) → setup ≡ other → (next : Next O T R) → StopsAbove setup next → (u x : ℕ) (op : O) (task : T) → next ≡ Ask u x op task
      → AwaitsAny other (AskOf u x)
  stops_any setup other same next stops u x op task is =
      subst (λ z. AwaitsAny z (AskOf u x)) same (subst (λ n. StopsAbove setup n) is stops)

module _ {V O R T : Type 0} where
  -- the entries of a task are no requests
  no_requests :
      (kind : Kind V O R T) (number : ℕ) (held : List ℕ) (id ticket : ℕ) (es : List (Entry V O R T)) (v : V) (task : T) (event : Event R) (w : V) (next : Next O T R)
      → Continues kind number held id ticket v task event es w next → requests_in es ≡ 0
  no_requests kind number held id ticket [] v task event w next c = refl
  no_requests kind number held id ticket (By _ _ _ _ ∷ es) v task event w next c = absurd c
  no_requests kind number held id ticket (Sent _ _ ∷ es) v task event w next c = absurd c
  no_requests kind number held id ticket (Resume i t e (Done r) ∷ es) v task event w next c = ap requests_in c.4
  no_requests kind number held id ticket (Resume i t e (Ask u x op more) ∷ es) v task event w next c =
      elim c.5 [
        | inl last ↦ ap requests_in last.0
        | inr (inl low) ↦ no_requests kind number held id ticket es _ _ _ w next low.1
        | inr (inr far) ↦ no_requests kind number held id ticket es _ _ _ w next far.2
      ]

  module _ (kind : Kind V O R T) (laws : KindLaws kind) (held : List ℕ) (old : StateView V O R T) (l : Ticket (Pending T)) (first : first_of l.id old.launched ≡ Some l) where
    -- what a launch needs to go on is there
    pub object_there : (since : List (Entry V O R T)) → IsResumable kind held since old → IsSome (live.object_of old.stock.live l.id)
    object_there since (opening, log, may) = subst (λ x. IsSome x) (sym (first_at (state_after kind opening (log ++ since)) old l may.0.keeps first).has) refl

    sound_at : (since : List (Entry V O R T)) (opening : State V O R T) (log : List (Entry V O R T)) → Represents kind opening (log ++ since) old → IsSound opening (state_after kind opening (log ++ since))
    sound_at since opening log rep = states_are_sound kind opening (log ++ since) rep.opens rep.is_legal

    pub counts_there : (since : List (Entry V O R T)) (w : V) → IsResumable kind held since old → HasLive (changed l.id old.stock w).live l.id (λ o. 1 ≤ o.launches)
    counts_there since w (opening, log, may) = launch_counts opening _ (sound_at since opening log may.0) old may.0.keeps l first w

    pub place_there : (since : List (Entry V O R T)) (w : V) → IsResumable kind held since old → l.task.place < length old.ready
    place_there since w (opening, log, may) = ready_place opening _ (sound_at since opening log may.0) old may.0.keeps l first w

    pub room_there : (since : List (Entry V O R T)) (w : V) → IsResumable kind held since old → length (slice_index_or old.ready l.task.place []) < WINDOW
    room_there since w (opening, log, may) = ready_room opening _ (sound_at since opening log may.0) old may.0.keeps l first w

    module _ (since more es : List (Entry V O R T)) (event : Event R) (v w : V) (next : Next O T R) (stock : Stock V) (launched : List (Ticket (Pending T)))
        (ready : List (List (Completion V O R T))) (entries : ℕ) (result : Resumed V O R T) where
      settles_keeps :
          (opening s : State V O R T) → IsSound opening s → Keeps s old → (n : Next O T R) → Settles l.id l.number l.task.place n result old.launched launched old.ready ready
          → Finishes l.id n (changed l.id old.stock w) stock → ((u x : ℕ) (op : O) (task : T) → n ≡ Ask u x op task → AwaitsAny s.setup (AskOf u x))
          → Keeps (settled l.id l.number w n s) (record old { stock = stock; launched = launched; ready = ready; entries = entries })
      settles_keeps opening s sound k (Ask u x op task) settles finishes stops =
          keeps_ask opening s sound old k l first w u x op task stock launched ready entries (stops u x op task refl) finishes settles.1 settles.2
      settles_keeps opening s sound k (Done r) settles finishes stops =
          keeps_done opening s sound old k l first w r stock launched ready entries finishes settles.1 settles.2

      -- the longer log leaves what the trustee has then
      pub keeps_on :
          ((setup : Setup) → AwaitsAny setup l.task.awaits → IsAwaited setup l.task.awaits event) → HasLive old.stock.live l.id (λ o. v ≡ o.value)
          → Continues kind old.number held l.id l.number v l.task.task event es w next → more ≡ since ++ es
          → Settles l.id l.number l.task.place next result old.launched launched old.ready ready → Finishes l.id next (changed l.id old.stock w) stock
          → entries ≡ min (old.entries + length es) (2 ^ 64 - 1)
          → KeepsOn kind held since more old (record old { stock = stock; launched = launched; ready = ready; entries = entries })
      keeps_on may value goes made settles finishes count opening log (rep, holds) =
          let s = state_after kind opening (log ++ since) in
          let sound = sound_at since opening log rep in
          let at = first_at s old l rep.keeps first in
          let val : v ≡ at.object.value = subst (λ x. IsSomeAnd x (λ o. v ≡ o.value)) at.has value in
          let any = all_first (λ t. AwaitsAny s.setup t.task.awaits) l.id old.launched l first rep.keeps.awaits in
          let awaited = may opening.setup (subst (λ z. AwaitsAny z l.task.awaits) sound.setup any) in
          let own : old.number ≡ opening.setup.number = rep.keeps.number ∙ ap (λ (z : Setup). z.number) sound.setup in
          let lands = runs_land kind laws opening rep.opens l.id l.number old.number held own holds es (log ++ since) v l.task.task event w next at.object (work_of l) (map work_of at.rest)
          rep.is_legal at.found at.works val refl refl awaited goes in
          let all : log ++ more ≡ (log ++ since) ++ es = ap (λ x. log ++ x) made ∙ sym (append_assoc log since es) in
          let legal : IsLegal kind opening ((log ++ since) ++ es) = (legal_logs_join kind opening (log ++ since) es).1 rep.is_legal lands.legal in
          let state : state_after kind opening ((log ++ since) ++ es) ≡ settled l.id l.number w next s = state-append kind opening (log ++ since) es ∙ lands.lands in
          let stops : (u x : ℕ) (op : O) (task : T) → next ≡ Ask u x op task → AwaitsAny s.setup (AskOf u x) =
          λ u x op task is. stops_any opening.setup s.setup (sym sound.setup) next lands.stops u x op task is in
          let keeps = settles_keeps opening s sound rep.keeps next settles finishes stops in
          let none = no_requests kind old.number held l.id l.number es v l.task.task event w next goes in
          let both = requests_in-append (log ++ since) es in
          let long = length-append (log ++ since) es in
          let run = rep.run in
          let had = rep.entries in
          subst (λ x. Represents kind opening x (record old { stock = stock; launched = launched; ready = ready; entries = entries })) (sym all)
          (record {
            opens = rep.opens;
            is_legal = legal;
            keeps = subst (λ z. Keeps z (record old { stock = stock; launched = launched; ready = ready; entries = entries })) (sym state) keeps;
            run = omega (arith, run, none, both);
            entries = omega (arith, count, had, long);
          })

waits : (setup : Setup) (awaits : Awaits) → (awaits ≡ Start → ⊥) → AwaitsAny setup awaits → AwaitsReply setup awaits
waits setup Start begun any = begun refl
waits setup (AskOf u i) begun any = any

-- what is answered where something is
pub if_none : {X : Type 0} (r : Option X) (P : Type 0) → P → IfNone r P
if_none None P p = p
if_none (Some x) P p = tt

module _ {V O R T : Type 0} (kind : Kind V O R T) where
  await_by :
      (setup : Setup) (launched own : List (Ticket (Pending T))) (ws : List (Work T)) (id : ℕ) → Begins launched [] → tickets_of id launched ≡ own
      → map work_of own ≡ ws → AllByRecursion (λ t. AwaitsAny setup t.task.awaits) launched → (ws ≡ []) ⊎ HasFirst ws (λ w. AwaitsReply setup w.awaits)
  await_by setup launched [] ws id none is works any = inl (sym works)
  await_by setup launched (t ∷ own) ws id none is works any =
      let first = first_head id launched t own is in
      let awaits = all_first (λ x. AwaitsAny setup x.task.awaits) id launched t first any in
      inr (subst (λ l. HasFirst l (λ w. AwaitsReply setup w.awaits)) works (waits setup t.task.awaits (λ start. false≢true (none id t first start)) awaits))

  -- where none may begin, each first launch awaits a reply
  pub all_await : (h : StateView V O R T) (launched begins : List (Ticket (Pending T))) → launched ≡ h.launched → Begins launched begins → begins ≡ [] → AllAwait kind h
  all_await h launched begins same all none opening log rep =
      let s = state_after kind opening log in
      let sound = states_are_sound kind opening log rep.opens rep.is_legal in
      let no_begin : Begins h.launched [] = subst (λ l. Begins l []) same (subst (λ b. Begins launched b) none all) in
      subst (λ z. AllByRecursion (λ o. (o.works ≡ []) ⊎ HasFirst o.works (λ w. AwaitsReply z w.awaits)) s.live) sound.setup
      (all_weaker _ _ s.live (λ o e. await_by s.setup h.launched (tickets_of o.id h.launched) o.works o.id no_begin refl e rep.keeps.awaits) rep.keeps.works)

module _ {V O R T : Type 0} (kind : Kind V O R T) (laws : KindLaws kind) (held : List ℕ) (was old : StateView V O R T) (same : was ≡ old) (l : Ticket (Pending T))
    (first : first_of l.id was.launched ≡ Some l) (i n p : ℕ) (ii : i ≡ l.id) (ni : n ≡ l.number) (pi : p ≡ l.task.place) (since : List (Entry V O R T))
    (resumable : IsResumable kind held since old) where
  may : IsResumable kind held since was
  may = subst (λ h. IsResumable kind held since h) (sym same) resumable

  pub object_marked : IsSome (live.object_of was.stock.live i)
  object_marked = subst (λ x. IsSome (live.object_of was.stock.live x)) (sym ii) (object_there kind laws held was l first since may)

  pub counts_marked : (w : V) → HasLive (changed i was.stock w).live i (λ o. 1 ≤ o.launches)
  counts_marked w = subst (λ x. HasLive (changed x was.stock w).live x (λ o. 1 ≤ o.launches)) (sym ii) (counts_there kind laws held was l first since w may)

  pub place_marked : V → p < length was.ready
  place_marked w = subst (λ x. x < length was.ready) (sym pi) (place_there kind laws held was l first since w may)

  pub room_marked : V → length (slice_index_or was.ready p []) < WINDOW
  room_marked w = subst (λ x. length (slice_index_or was.ready x []) < WINDOW) (sym pi) (room_there kind laws held was l first since w may)

  module _ (event : Event R) (es : List (Entry V O R T)) (v w : V) (next : Next O T R) (result : Resumed V O R T) (mid launched : List (Ticket (Pending T)))
      (ready : List (List (Completion V O R T))) (stock : Stock V) (entries : ℕ) (value : HasLive was.stock.live i (λ o. v ≡ o.value))
      (goes : Continues kind was.number held l.id l.number v l.task.task event es w next) (middle : mid ≡ was.launched)
      (settles : Settles i n p next result mid launched was.ready ready) where
    value_at : HasLive was.stock.live l.id (λ o. v ≡ o.value)
    value_at = subst (λ x. HasLive was.stock.live x (λ o. v ≡ o.value)) ii value

    settles_at : Settles l.id l.number l.task.place next result was.launched launched was.ready ready
    settles_at =
        subst (λ m. Settles l.id l.number l.task.place next result m launched was.ready ready) middle
        (subst (λ x. Settles x l.number l.task.place next result mid launched was.ready ready) ii
        (subst (λ x. Settles i x l.task.place next result mid launched was.ready ready) ni
        (subst (λ x. Settles i n x next result mid launched was.ready ready) pi settles)))

    -- what it did, of what was had
    pub gone_marked : (new : StateView V O R T) → launched ≡ new.launched → ready ≡ new.ready → HasGoneOn kind held l event es result old new
    gone_marked new is_launched is_ready =
        subst (λ h. HasGoneOn kind held l event es result h new) same (
          v,
          w,
          next,
          value_at,
          goes,
          subst (λ x. Settles l.id l.number l.task.place next result was.launched x was.ready new.ready) is_launched
              (subst (λ x. Settles l.id l.number l.task.place next result was.launched launched was.ready x) is_ready settles_at),
        )

    pub keeps_marked :
        (more : List (Entry V O R T)) → ((setup : Setup) → AwaitsAny setup l.task.awaits → IsAwaited setup l.task.awaits event) → more ≡ since ++ es
        → Finishes i next (changed i was.stock w) stock → entries ≡ min (was.entries + length es) (2 ^ 64 - 1)
        → KeepsOn kind held since more old (record was { stock = stock; launched = launched; ready = ready; entries = entries })
    keeps_marked more told made finishes count =
        subst (λ h. KeepsOn kind held since more h (record was { stock = stock; launched = launched; ready = ready; entries = entries })) same
        (keeps_on kind laws held was l first since more es event v w next stock launched ready entries result told value_at goes made settles_at
        (subst (λ x. Finishes x next (changed x was.stock w) stock) ii finishes) count)

    fewer_by : (n : Next O T R) → Settles l.id l.number l.task.place n result was.launched launched was.ready ready → l.task.awaits ≡ Start → to_begin launched + 1 ≡ to_begin was.launched
    fewer_by (Ask u x op task) s start =
        ap (λ ls. to_begin ls + 1) s.1 ∙ on_fewer l.id (record { place = l.task.place; task = task; awaits = AskOf u x }) was.launched l first start refl
    fewer_by (Done r) s start = ap (λ ls. to_begin ls + 1) s.1 ∙ end_fewer l.id was.launched l first start

    -- one less is to begin
    pub fewer_marked : l.task.awaits ≡ Start → to_begin launched + 1 ≡ to_begin old.launched
    fewer_marked start =
        subst (λ (h : StateView V O R T). to_begin launched + 1 ≡ to_begin h.launched) same (fewer_by next settles_at start)
