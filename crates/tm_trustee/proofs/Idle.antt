-- A place that said Bye has nothing unfinished and nothing ready: it stays so, and where all have said it no ask is pending.
use Rattle.std.proofs.Common.{◌≡◌, ◌≢◌, ℕ, ◌+◌, ◌<◌, ◌≤◌, true, List, [], ◌∷◌, ◌++◌, length, inl, inr, refl, sym, ◌∙◌, ap, subst, arith, append-nil, eq-eqb, ne_eqb}
use Rattle.std.specs.List.{AllByRecursion}
use Rattle.std.specs.declared.option.Option.TheVariants.{Some}
use Rattle.std.proofs.lemmas.Bool.{cases_eq}
use Rattle.tm_seq.specs.Kind.{Kind}
use Rattle.tm_batch.specs.declared.message.Request.{Request}
use Rattle.tm_batch.specs.declared.message.Answer.{Answer}
use Rattle.tm_model.specs.declared.entry.Entry.{Entry}
use Rattle.tm_model.specs.declared.entry.Entry.TheVariants.{Sent}
use Rattle.tm_model.specs.State.{Work, Object, State, object_of, place_of, place_count}
use Rattle.tm_model.specs.Serve.{works_in, state_after}
use Rattle.tm_model.specs.Legal.{HasFirst, IsLegal}
use Rattle.tm_model.specs.Entries.{AreResumes, added, entries_by}
use Rattle.tm_model.specs.Holds.{has_bye, launches_in, unfinished, works_of}
use Rattle.tm_model.specs.Laws.{IsOpening, IsSoundObject, IsPromised}
use Rattle.tm_model.specs.Ran.{ran, mark_of}
use Rattle.tm_core.proofs.CallerLemmas.{option_cases, all_weaker}
use Rattle.tm_core.proofs.Finding.{all_found}
use Rattle.tm_core.proofs.Joins.{legal_logs_join, state-append}
use Rattle.tm_core.proofs.LaunchLog.{log_launches}
use Rattle.tm_core.proofs.Marks.{ran-append}
use Rattle.tm_core.proofs.Ordered.{opening_ordered, log_ordered}
use Rattle.tm_core.proofs.Sound.{states_are_sound}
use Rattle.tm_core.proofs.Tallies.{bye_in}
use Rattle.tm_state.specs.Asking.{HaveAllEnded}
use Rattle.tm_trustee.specs.NestedAsks.{NestedAsk, pending_of, works_at}
use Rattle.tm_trustee.specs.Awaiting.{IsAskAt, AreAwaited, AreIdle}
use Rattle.tm_trustee.proofs.Resuming.{resumes_run, same_ran}

own_work : {T : Type 0} (w : Work T) (ws : List (Work T)) → 1 ≤ works_of w.place (w ∷ ws)
own_work w ws = rw (eq-eqb w.place w.place refl) (omega arith)

module _ {V T : Type 0} where
  -- an object with an unfinished launch has one of some place
  works_counted : (live : List (Object V T)) (id : ℕ) (o : Object V T) (w : Work T) (ws : List (Work T)) → object_of live id ≡ Some o → o.works ≡ w ∷ ws → 1 ≤ unfinished w.place live
  works_counted [] id o w ws at works = absurd cc
  works_counted (x ∷ live) id o w ws at works =
      elim (cases_eq x.id id) [
        | inl e ↦
            let here = rw (eq-eqb x.id id e) at at in
            let is : x ≡ o = cc in
            let own = own_work w ws in
            let same : works_of w.place x.works ≡ works_of w.place (w ∷ ws) = ap (λ (y : Object V T). works_of w.place y.works) is ∙ ap (works_of w.place) works in
            omega (arith, own, same)
        | inr ne ↦
            let later = rw (ne_eqb x.id id ne) at at in
            let more = works_counted live id o w ws later works in
            omega (arith, more)
      ]

  no_works_left :
      (live : List (Object V T)) (id : ℕ) (o : Object V T) → object_of live id ≡ Some o → (n : ℕ) (ws : List (Work T)) → o.works ≡ ws
      → AllByRecursion (λ w. w.place < n) ws → ((c : ℕ) → c < n → unfinished c live ≡ 0) → ws ≡ []
  no_works_left live id o at n [] is places none = refl
  no_works_left live id o at n (w ∷ ws) is places none =
      let one = works_counted live id o w ws at is in
      let nothing = none w.place places.0 in
      absurd (omega (arith, one, nothing))

none_first :
    {O T : Type 0} (works : ℕ → List (Work T)) → ((id : ℕ) → works id ≡ []) → (asks : List (NestedAsk O)) (P : NestedAsk O → Work T → Type 0)
    → AllByRecursion (λ a. HasFirst (works a.by) (P a)) asks → asks ≡ []
none_first works none [] P all = refl
none_first works none (a ∷ asks) P all = absurd (subst (λ l. HasFirst l (P a)) (none a.by) all.0)

module _ {V O R T : Type 0} where
  entries_own : (c k : ℕ) (b : List (Request V O R T)) (answers : List (Answer V O R T)) → length answers ≡ length b → ran c (entries_by c k b answers) ≡ b
  entries_own c k [] [] e = refl
  entries_own c k [] (a ∷ answers) e = absurd (omega (arith, e))
  entries_own c k (q ∷ b) [] e = absurd (omega (arith, e))
  entries_own c k (q ∷ b) (a ∷ answers) e = rw (eq-eqb c c refl) (ap (λ l. q ∷ l) (entries_own c (k + 1) b answers (omega (arith, e))))

  entries_other : (c d k : ℕ) (b : List (Request V O R T)) (answers : List (Answer V O R T)) → c ≢ d → ran c (entries_by d k b answers) ≡ []
  entries_other c d k [] answers ne = refl
  entries_other c d k (q ∷ b) [] ne = refl
  entries_other c d k (q ∷ b) (a ∷ answers) ne = rw (ne_eqb d c (λ e. ne (sym e))) (entries_other c d (k + 1) b answers ne)

  -- what the entries of a batch run
  added_own :
      (log resumes : List (Entry V O R T)) (d room : ℕ) (b : List (Request V O R T)) (answers : List (Answer V O R T)) → AreResumes resumes → length answers ≡ length b
      → ran d (added log resumes d b room answers) ≡ b
  added_own log resumes d room b answers only many =
      let es = entries_by d (length (ran d log)) b answers in
      ran-append mark_of d resumes (es ++ Sent d room ∷ []) ∙ ap (λ l. l ++ ran d (es ++ Sent d room ∷ [])) (resumes_run d resumes only)
      ∙ ran-append mark_of d es (Sent d room ∷ []) ∙ append-nil (ran d es) ∙ entries_own d (length (ran d log)) b answers many

  added_other :
      (log resumes : List (Entry V O R T)) (c d room : ℕ) (b : List (Request V O R T)) (answers : List (Answer V O R T)) → AreResumes resumes → c ≢ d
      → ran c (added log resumes d b room answers) ≡ []
  added_other log resumes c d room b answers only ne =
      let es = entries_by d (length (ran d log)) b answers in
      ran-append mark_of c resumes (es ++ Sent d room ∷ []) ∙ ap (λ l. l ++ ran c (es ++ Sent d room ∷ [])) (resumes_run c resumes only)
      ∙ ran-append mark_of c es (Sent d room ∷ []) ∙ append-nil (ran c es) ∙ entries_other c d (length (ran d log)) b answers ne

module _ {V O R T : Type 0} (kind : Kind V O R T) (opening : State V O R T) (opens : IsOpening opening) where
  -- what is unfinished or ready for place c after some entries is no more than before, and what they launched
  flows :
      (log es : List (Entry V O R T)) (c : ℕ) → c < place_count opening.setup → IsLegal kind opening (log ++ es)
      → unfinished c (state_after kind opening (log ++ es)).live + length (place_of (state_after kind opening (log ++ es)) c).ready
      ≤ launches_in (ran c es) + (unfinished c (state_after kind opening log).live + length (place_of (state_after kind opening log) c).ready)
  flows log es c lt legal =
      let n = place_count opening.setup in
      let s = state_after kind opening log in
      let parts = (legal_logs_join kind opening log es).0 legal in
      let flow = log_launches kind n c lt 0 [] s es (log_ordered kind n opening log parts.0 (opening_ordered opening opens)) parts.1 in
      let lands = state-append kind opening log es in
      let live = ap (λ (x : State V O R T). unfinished c x.live) lands in
      let ready = ap (λ (x : State V O R T). length (place_of x c).ready) lands in
      omega (arith, flow, live, ready)

  -- it is idle after resumes
  pub idle_behind : (log es : List (Entry V O R T)) → AreResumes es → IsLegal kind opening (log ++ es) → AreIdle kind opening log → AreIdle kind opening (log ++ es)
  idle_behind log es only legal idle c lt said =
      let none : ran c es ≡ [] = resumes_run c es only in
      let before : has_bye (ran c log) ≡ true = subst (λ l. has_bye l ≡ true) (same_ran c log es only) said in
      let was = idle c lt before in
      let flow = flows log es c lt legal in
      let launched = ap launches_in none in
      omega (arith, was, flow, launched)

  -- and after the entries of a batch that was promised
  pub idle_answered :
      (log resumes : List (Entry V O R T)) (d room : ℕ) (b : List (Request V O R T)) (answers : List (Answer V O R T)) → AreResumes resumes
      → IsLegal kind opening (log ++ added log resumes d b room answers) → length answers ≡ length b → IsPromised kind opening log d b
      → AreIdle kind opening log → AreIdle kind opening (log ++ added log resumes d b room answers)
  idle_answered log resumes d room b answers only legal many promised idle c lt said =
      let es = added log resumes d b room answers in
      let flow = flows log es c lt legal in
      elim (cases_eq c d) [
        | inl same ↦
            let own : ran c es ≡ b = ap (λ m. ran m es) same ∙ added_own log resumes d room b answers only many in
            let all : has_bye (ran c log ++ b) ≡ true = subst (λ l. has_bye l ≡ true) (ran-append mark_of c log es ∙ ap (λ l. ran c log ++ l) own) said in
            let launched = ap launches_in own in
            elim (bye_in (ran c log) b all) [
              | inl before ↦
                  let was = idle c lt before in
                  let none = ap launches_in (promised.last (subst (λ m. has_bye (ran m log) ≡ true) same before)) in
                  omega (arith, was, flow, launched, none)
              | inr now ↦
                  let (bye, ended, ready) = promised.bye now in
                  let none = ap launches_in bye in
                  let live : unfinished c (state_after kind opening log).live ≡ 0 = ap (λ m. unfinished m (state_after kind opening log).live) same ∙ ended in
                  let nothing : length (place_of (state_after kind opening log) c).ready ≡ 0 = ap (λ m. length (place_of (state_after kind opening log) m).ready) same ∙ ready in
                  omega (arith, flow, launched, none, live, nothing)
            ]
        | inr ne ↦
            let other : ran c es ≡ [] = added_other log resumes c d room b answers only ne in
            let before : has_bye (ran c log) ≡ true =
            subst (λ l. has_bye l ≡ true) (ran-append mark_of c log es ∙ ap (λ l. ran c log ++ l) other ∙ append-nil (ran c log)) said in
            let was = idle c lt before in
            let launched = ap launches_in other in
            omega (arith, was, flow, launched)
      ]

  -- where all places have said Bye no launch is unfinished
  pub ended_idle : (log : List (Entry V O R T)) → IsLegal kind opening log → AreIdle kind opening log → HaveAllEnded opening log → (id : ℕ) → works_at (state_after kind opening log) id ≡ []
  ended_idle log legal idle ended id =
      let s = state_after kind opening log in
      elim (option_cases (object_of s.live id)) [
        | inl none ↦ ap works_in none
        | inr (o, at) ↦
            let sound = states_are_sound kind opening log opens legal in
            let works = (all_found (IsSoundObject opening s) id s.live o at sound.objects).works in
            ap works_in at ∙ no_works_left s.live id o at (place_count opening.setup) o.works refl
            (all_weaker _ (λ w. w.place < place_count opening.setup) o.works (λ w h. h.0) works)
            (λ c lt. let none = idle c lt (ended c lt) in omega (arith, none))
      ]

  pub ended_pending :
      (log : List (Entry V O R T)) → IsLegal kind opening log → AreIdle kind opening log → HaveAllEnded opening log → AreAwaited kind opening log
      → (u : ℕ) → opening.setup.number < u → pending_of kind opening u log ≡ []
  ended_pending log legal idle ended are u lt =
      none_first (works_at (state_after kind opening log)) (ended_idle log legal idle ended) (pending_of kind opening u log)
      (λ a w. (w.ticket ≡ a.ticket) × IsAskAt opening.setup u w.awaits) (are.asked u lt)
