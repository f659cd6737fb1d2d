-- What a good core tells of each batch that is asked or taken, and that an id which a place holds is live.
-- Other crates import from this file.
use Rattle.std.proofs.Common.{◌≡◌, ◌≢◌, ℕ, ◌+◌, ◌-◌, ◌<◌, ◌≤◌, true, false, not, cond, List, [], ◌∷◌, ◌++◌, length, map, slice_set, inl, inr, refl, sym, ◌∙◌, ap, subst, arith, eq-eqb, length-append, get_or-set_same, get_or-set_other}
use Rattle.std.proofs.lemmas.List.{set_past}
use Rattle.std.specs.Prelude.{◌==◌}
use Rattle.std.specs.Option.{IsSomeAnd}
use Rattle.std.specs.declared.option.Option.{Option}
use Rattle.std.specs.declared.option.Option.TheVariants.{None, Some}
use Rattle.std.proofs.lemmas.Bool.{cases_eq, cases_lt}
use Rattle.tm_seq.specs.Kind.{Kind}
use Rattle.tm_seq.specs.declared.kind.Event.{Event}
use Rattle.tm_seq.specs.declared.kind.Next.{Next}
use Rattle.tm_batch.specs.declared.message.Request.{Request}
use Rattle.tm_batch.specs.declared.message.Request.TheVariants.{Entrust, Apply, Launch, Grant, Release, Reclaim, Bye}
use Rattle.tm_batch.specs.declared.message.Answer.{Answer}
use Rattle.tm_batch.specs.declared.message.Answer.TheVariants.{Entrusted, Replied, Launched, Granted, Released, Reclaimed, ByeDone}
use Rattle.tm_batch.specs.declared.message.AnswerBatch.{AnswerBatch}
use Rattle.tm_model.specs.declared.entry.Entry.{Entry}
use Rattle.tm_model.specs.declared.entry.Entry.TheVariants.{By, Resume, Sent}
use Rattle.tm_model.specs.State.{Start, Object, State, place_count, holds_of, with_holds, total, change, object_of, holds_in, holds_at, IsHeld}
use Rattle.tm_model.specs.Serve.{value_run, value_advanced, works_resumed, works_in, served, resumed, after, state_after}
use Rattle.tm_model.specs.Legal.{Serves, IsLegal}
use Rattle.tm_model.specs.Slots.{Empty, Asked, Taken, Answered, slot_of}
use Rattle.tm_model.specs.GoodSlots.{Agrees, Reached}
use Rattle.tm_model.specs.Ran.{mark_of, ran, waiting_after}
use Rattle.tm_model.specs.Batches.{batches}
use Rattle.tm_model.specs.Entries.{entries_by, AreResumes}
use Rattle.tm_model.specs.Holds.{Names, has_bye, answers_in, launches_in, gave, ended_in, came}
use Rattle.tm_model.specs.Orderly.{IsOrderly}
use Rattle.tm_model.specs.Good.{FullBox, FullSlot, FullCore, unserved, got_with, IsOutInOrder, IsGood}
use Rattle.tm_model.specs.Laws.{IsOpening, IsPromised, BatchesArePromised, HeldAreLive}
use Rattle.tm_model.proofs.Byes.{not_in_none, bye_names}
use Rattle.tm_core.proofs.CallerLemmas.{found}
use Rattle.tm_core.proofs.Tallies.{came_more, came_same, bye_in, gave-append, launches_in-append, bye_more}
use Rattle.tm_core.proofs.Rising.{holds_sum, holds_are_sum, sum_change, sum_kept}
use Rattle.tm_core.proofs.Balance.{sum_released, sum_reclaimed, sum_appended}
use Rattle.tm_core.proofs.AllAnswers.{batches_have_all_answers}
use Rattle.tm_core.proofs.Living.{completed_live}
use Rattle.tm_core.proofs.Joins.{state-append, legal_logs_join}
use Rattle.tm_core.proofs.Ordered.{IsOrdered, after_ordered, log_ordered, opening_ordered}

module _ {V T : Type 0} where
  -- a change that takes no hold of a place
  sum_change_more :
      (c id i : ℕ) (f : Object V T → Object V T) (live : List (Object V T))
      → ((o : Object V T) → (f o).id ≡ o.id) → ((o : Object V T) → holds_of o c ≤ holds_of (f o) c)
      → holds_sum c id live ≤ holds_sum c id (change i f live)
  sum_change_more c id i f [] same more = omega arith
  sum_change_more c id i f (o ∷ live) same more =
      let rest = sum_change_more c id i f live same more in
      let first : cond (o.id == id) (holds_of o c) 0 ≤ cond ((f o).id == id) (holds_of (f o) c) 0 =
      rw (same o)
      (elim (o.id == id) as (λ t. cond t (holds_of o c) 0 ≤ cond t (holds_of (f o) c) 0) [ true ↦ more o | false ↦ omega arith ]) in
      elim (o.id == i) as
      (λ t. let x = cond t (f o) o in
      cond (o.id == id) (holds_of o c) 0 + holds_sum c id live ≤ cond (x.id == id) (holds_of x c) 0 + holds_sum c id (change i f live)) [
        | true ↦ omega (arith, first, rest)
        | false ↦ omega (arith, rest)
      ]

  -- one hold more takes none away
  granted_more : (c d : ℕ) (o : Object V T) → holds_of o c ≤ holds_of (with_holds d (holds_of o d + 1) o) c
  granted_more c d o =
      elim (cases_eq c d) [
        | inl e ↦
            elim (cases_lt d (length o.holds)) [
              | inl lt ↦ let now = get_or-set_same o.holds d (holds_of o d + 1) 0 lt in rw e (omega (arith, now))
              | inr ge ↦ let same = set_past o.holds d (holds_of o d + 1) ge in rw same (omega arith)
            ]
        | inr ne ↦ let same = get_or-set_other o.holds d c (holds_of o d + 1) 0 ne in omega (arith, same)
      ]

  pub holds_one : (o : Option (Object V T)) (c : ℕ) → 1 ≤ holds_in o c → IsSomeAnd o (λ x. 1 ≤ holds_of x c)
  holds_one None c h = omega (arith, h)
  holds_one (Some x) c h = h

module _ {V O R T : Type 0} where
  -- a request that is not a Bye takes no more holds of its place than it gives away
  served_holds :
      (kind : Kind V O R T) (n c id : ℕ) (q : Request V O R T) (a : Answer V O R T) (s : State V O R T)
      → c < n → q ≢ Bye → Serves kind s c q a → IsOrdered n s
      → holds_sum c id s.live ≤ holds_sum c id (served kind c q a s).live + gave id (q ∷ [])
  served_holds kind n c id (Entrust v) (Entrusted name) s lt other may h =
      let more = sum_appended c id s.live (record { id = name.id; value = v; holds = slice_set (map (λ _. 0) s.places) c 1; works = [] }) in
      omega (arith, more)
  served_holds kind n c id (Apply i op) (Replied r) s lt other may h =
      let same = sum_change c id i.id (λ o. record o { value = value_run kind o.value op r }) s.live (λ o. refl) (λ o. refl) in
      omega (arith, same)
  served_holds kind n c id (Launch i task) (Launched ticket) s lt other may h =
      let same = sum_change c id i.id
      (λ o. record o { works = o.works ++ record { place = c; ticket = ticket; task = task; awaits = Start } ∷ [] }) s.live (λ o. refl) (λ o. refl) in
      omega (arith, same)
  served_holds kind n c id (Grant i d) Granted s lt other may h =
      let more = sum_change_more c id i.id (λ o. with_holds d (holds_of o d + 1) o) s.live (λ o. refl) (granted_more c d) in
      omega (arith, more)
  served_holds kind n c id (Release i) Released s lt other may h =
      let (x, at, one) = found (object_of s.live i.id) (λ o. 1 ≤ holds_of o c) may.0 in
      let less = sum_released n 1 s.next_id s.live h.rises c id c i.id x at one lt in
      let stay = sum_kept c id (change i.id (λ o. with_holds c (holds_of o c - 1) o) s.live) in
      let own : ◌≡◌ {A = ℕ} (cond (c == c) (cond (i.id == id) 1 0) 0) (cond (i.id == id) 1 0) = ap (λ t. cond t (cond (i.id == id) 1 0) 0) (eq-eqb c c refl) in
      omega (arith, less, stay, own)
  served_holds kind n c id (Reclaim i) (Reclaimed v) s lt other may h =
      let (x, at, one) = found (object_of s.live i.id) (λ o. 1 ≤ holds_of o c) may.0 in
      let all : (total x ≡ 1) × (v ≡ x.value) = subst (λ o. IsSomeAnd o (λ o. (total o ≡ 1) × (v ≡ o.value))) at may.1 in
      let less = sum_reclaimed n 1 s.next_id s.live h.rises c id c i.id x at one all.0 in
      let own : ◌≡◌ {A = ℕ} (cond (c == c) (cond (i.id == id) 1 0) 0) (cond (i.id == id) 1 0) = ap (λ t. cond t (cond (i.id == id) 1 0) 0) (eq-eqb c c refl) in
      omega (arith, less, own)
  served_holds kind n c id Bye ByeDone s lt other may h = absurd (other refl)
  served_holds kind n c id _ _ s lt other may h = omega arith

  no_bye : (q : Request V O R T) (qs : List (Request V O R T)) → has_bye (q ∷ qs) ≢ true → (q ≢ Bye) × (has_bye qs ≢ true)
  no_bye Bye qs h = absurd (h refl)
  no_bye (Entrust v) qs h = (λ e. cc, h)
  no_bye (Apply i op) qs h = (λ e. cc, h)
  no_bye (Launch i task) qs h = (λ e. cc, h)
  no_bye (Grant i d) qs h = (λ e. cc, h)
  no_bye (Release i) qs h = (λ e. cc, h)
  no_bye (Reclaim i) qs h = (λ e. cc, h)

  -- so do requests in a row
  entries_hold :
      (kind : Kind V O R T) (n c k id : ℕ) (qs : List (Request V O R T)) (answers : List (Answer V O R T)) (s : State V O R T)
      → c < n → has_bye qs ≢ true → IsLegal kind s (entries_by c k qs answers) → IsOrdered n s
      → holds_sum c id s.live ≤ holds_sum c id (state_after kind s (entries_by c k qs answers)).live + gave id qs
  entries_hold kind n c k id [] answers s lt not legal h = omega arith
  entries_hold kind n c k id (q ∷ qs) [] s lt not legal h = omega arith
  entries_hold kind n c k id (q ∷ qs) (a ∷ answers) s lt not legal h =
      let no = no_bye q qs not in
      let s' = after kind s (By c k q a) in
      let first = served_holds kind n c id q a s lt no.0 legal.0.2 h in
      let rest = entries_hold kind n c (k + 1) id qs answers s' lt no.1 legal.1 (after_ordered kind n s (By c k q a) legal.0 h) in
      let joined = gave-append id (q ∷ []) qs in
      omega (arith, first, rest, joined)

  resumed_holds :
      (kind : Kind V O R T) (c id i ticket : ℕ) (event : Event R) (next : Next O T R) (s : State V O R T)
      → holds_sum c id (resumed kind i ticket event next s).live ≡ holds_sum c id s.live
  resumed_holds kind c id i ticket event next s =
      let f : Object V T → Object V T = λ o. record o { value = value_advanced kind o.value o.works event next; works = works_resumed o.works next } in
      rw (completed_live (works_in (object_of s.live i)) ticket next _)
      (sum_kept c id (change i f s.live) ∙ sum_change c id i f s.live (λ o. refl) (λ o. refl))

  -- resumes change no holds
  resumes_hold :
      (kind : Kind V O R T) (c id : ℕ) (es : List (Entry V O R T)) (s : State V O R T) → AreResumes es
      → holds_sum c id (state_after kind s es).live ≡ holds_sum c id s.live
  resumes_hold kind c id [] s h = refl
  resumes_hold kind c id (Resume i ticket event next ∷ es) s h =
      resumes_hold kind c id es (after kind s (Resume i ticket event next)) h ∙ resumed_holds kind c id i ticket event next s
  resumes_hold kind c id (By d k q a ∷ es) s h = absurd h
  resumes_hold kind c id (Sent d room ∷ es) s h = absurd h

  reached_is :
      (kind : Kind V O R T) (opening : State V O R T) (box : FullBox V O R T) (slot : FullSlot V O R T) (c : ℕ) (log : List (Entry V O R T))
      → Reached mark_of (batches kind opening) (IsLegal kind opening) box slot c log → batches kind opening c log ≡ got_with box slot.got
  reached_is kind opening Empty slot c log h = h
  reached_is kind opening (Asked b room) slot c log h = h
  reached_is kind opening (Taken b room) slot c log h = h
  reached_is kind opening (Answered a upto room) slot c log h = h

  module _
      (kind : Kind V O R T) (opening : State V O R T) (core : FullCore V O R T) (c : ℕ) (b : List (Request V O R T))
      (is : IsOpening opening) (good : IsGood kind opening core) (lt : c < length core.slots)
      (asked : unserved (slot_of core c).box ≡ b) (got : got_with (slot_of core c).box (slot_of core c).got ≡ (slot_of core c).got)
      (sent : (slot_of core c).sent ≡ ran c core.log ++ b) (orderly : IsOrderly opening c (ran c core.log) (slot_of core c).got b) where
    abbrev log : List (Entry V O R T)
    log = core.log

    abbrev s : State V O R T
    s = state_after kind opening core.log

    abbrev slot : FullSlot V O R T
    slot = slot_of core c

    -- a place holds more than it gives away by requests of the batch that come before one that names an id
    holds_enough :
        (before after : List (Request V O R T)) (q : Request V O R T) (id : ℕ) → b ≡ before ++ q ∷ after → Names q id
        → (has_bye before ≢ true) × (gave id before < holds_at s c id)
    holds_enough before after q id parts names =
        let was = good.accounts c lt in
        let none : has_bye b ≢ true = λ bye. bye_names before after q id (sym (orderly.bye bye).0 ∙ parts) names in
        let unclosed : has_bye (ran c log) ≢ true = λ bye. not_in_none before after q (sym (orderly.last bye) ∙ parts) in
        let still : has_bye slot.sent ≢ true = λ bye. elim (bye_in (ran c log) b (sym (ap has_bye sent) ∙ bye)) [ inl h ↦ unclosed h | inr h ↦ none h ] in
        let had = was.holds still id in
        let (all, many, settled) = batches_have_all_answers kind opening log c in
        let counted = ap length all in
        let joined = length-append (answers_in (batches kind opening c log)) (waiting_after c [] log) in
        let reached : batches kind opening c log ≡ slot.got = reached_is kind opening slot.box slot c log (good.slots.slots c lt).reached ∙ got in
        let got_length = ap (λ l. length (answers_in l)) reached in
        let came_is = came_same opening c (ran c log) b slot.got id (omega (arith, counted, joined, many, got_length)) in
        let came_all : came opening c slot.sent (got_with slot.box slot.got) id ≡ came opening c (ran c log) slot.got id =
        ap (λ l. came opening c l (got_with slot.box slot.got) id) sent ∙ ap (λ g. came opening c (ran c log ++ b) g id) got ∙ came_is in
        let given = ap (gave id) sent ∙ gave-append id (ran c log) b in
        let own = ap (gave id) asked in
        let more = orderly.held before after q id parts names in
        let split_before = gave-append id (ran c log) before in (
          λ bye. none (ap has_bye parts ∙ bye_more before (q ∷ after) bye),
          omega (arith, had, came_all, given, own, more, split_before),
        )

    told : IsPromised kind opening core.log c b
    told = record {
      held = λ resumes answers before after q id parts names only many legal.
          let n = place_count opening.setup in
          let k = length (ran c log) in
          let own = entries_by c k before answers in
          let (legal_log, legal_more) = (legal_logs_join kind opening log (resumes ++ own)).0 legal in
          let (legal_resumes, legal_own) = (legal_logs_join kind s resumes own).0 legal_more in
          let s1 = state_after kind s resumes in
          let s2 = state_after kind s1 own in
          let lands : state_after kind opening (log ++ (resumes ++ own)) ≡ s2 = state-append kind opening log (resumes ++ own) ∙ state-append kind s resumes own in
          let ordered : IsOrdered n s = log_ordered kind n opening log legal_log (opening_ordered opening is) in
          let ordered1 : IsOrdered n s1 = log_ordered kind n s resumes legal_resumes ordered in
          let ordered2 : IsOrdered n s2 = log_ordered kind n s1 own legal_own ordered1 in
          let within : c < n = subst (λ m. c < m) good.places lt in
          let (none, enough) = holds_enough before after q id parts names in
          let same = resumes_hold kind c id resumes s only in
          let less = entries_hold kind n c k id before answers s1 within none legal_own ordered1 in
          let at = holds_are_sum n 1 s.next_id c id s.live ordered.rises in
          let at2 = holds_are_sum n 1 s2.next_id c id s2.live ordered2.rises in
          let one : 1 ≤ holds_in (object_of s2.live id) c = omega (arith, enough, same, less, at, at2) in
          subst (λ (x : State V O R T). IsHeld x c id) (sym lands) (holds_one (object_of s2.live id) c one);
      grants = orderly.grants;
      launches =
          let was = good.accounts c lt in
          let all = was.launches in
          let window = was.window in
          let own = ap launches_in asked in
          let ended = ap ended_in got in
          omega (arith, all, window, own, ended);
      trustee = orderly.trustee;
      bye = λ bye.
          let was = good.accounts c lt in
          let (alone, ended) = orderly.bye bye in
          let all = was.launches in
          let own = ap launches_in asked in
          let got_ended = ap ended_in got in
          let joined = ap launches_in sent ∙ launches_in-append (ran c log) b in
          (alone, omega (arith, all, own, got_ended, joined, ended), omega (arith, all, own, got_ended, joined, ended));
      last = orderly.last;
    }

  pub batches_are_promised : (kind : Kind V O R T) → BatchesArePromised kind
  batches_are_promised kind opening core c b room is good lt =
      let slot = slot_of core c in
      let was = good.accounts c lt in
      let place = good.slots.slots c lt in (
        λ e.
            let out : IsOutInOrder opening c (Asked b room) slot core.log =
            subst (λ (x : FullBox V O R T). IsOutInOrder opening c x slot core.log) e was.out in
            let agrees : Agrees mark_of (batches kind opening) (IsLegal kind opening) (Asked b room) slot c core.log =
            subst (λ (x : FullBox V O R T). Agrees mark_of (batches kind opening) (IsLegal kind opening) x slot c core.log) e place.agrees in
            told kind opening core c b is good lt (ap unserved e) (ap (λ x. got_with x slot.got) e) agrees.1 out.0,
        λ e.
            let out : IsOutInOrder opening c (Taken b room) slot core.log =
            subst (λ (x : FullBox V O R T). IsOutInOrder opening c x slot core.log) e was.out in
            let agrees : Agrees mark_of (batches kind opening) (IsLegal kind opening) (Taken b room) slot c core.log =
            subst (λ (x : FullBox V O R T). Agrees mark_of (batches kind opening) (IsLegal kind opening) x slot c core.log) e place.agrees in
            told kind opening core c b is good lt (ap unserved e) (ap (λ x. got_with x slot.got) e) agrees.1 out.0,
      )

  -- what is answered and not yet got brings no less
  came_with :
      (opening : State V O R T) (c id : ℕ) (sent : List (Request V O R T)) (box : FullBox V O R T) (got : List (AnswerBatch V O R T))
      → came opening c sent got id ≤ came opening c sent (got_with box got) id
  came_with opening c id sent Empty got = omega arith
  came_with opening c id sent (Asked b room) got = omega arith
  came_with opening c id sent (Taken b room) got = omega arith
  came_with opening c id sent (Answered a upto room) got = came_more opening c sent got a id

  pub held_are_live : (kind : Kind V O R T) → HeldAreLive kind
  held_are_live kind opening core c id is good lt still some =
      let slot = slot_of core c in
      let s = state_after kind opening core.log in
      let was = (good.accounts c lt).holds still id in
      let more = came_with opening c id slot.sent slot.box slot.got in
      holds_one (object_of s.live id) c (omega (arith, was, more, some))
