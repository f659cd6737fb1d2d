-- Behind resumes a batch is promised still, and what a trustee has is current once it has answered one.
use Rattle.std.proofs.Common.{◌≡◌, ℕ, ◌+◌, ◌-◌, ◌^◌, ◌<◌, min, true, List, [], ◌∷◌, ◌++◌, length, refl, sym, ◌∙◌, ap, subst, arith, append_assoc, append-nil}
use Rattle.std.specs.Prelude.{IsSomeAnd}
use Rattle.std.specs.declared.option.Option.{Option}
use Rattle.std.specs.declared.option.Option.TheVariants.{Some}
use Rattle.tm_seq.specs.Kind.{Kind}
use Rattle.tm_batch.specs.declared.batch.Batch.{Batch}
use Rattle.tm_batch.specs.declared.message.Request.{Request}
use Rattle.tm_batch.specs.declared.message.Answer.{Answer}
use Rattle.tm_batch.specs.declared.message.AnswerBatch.{AnswerBatch}
use Rattle.tm_model.specs.declared.entry.Entry.{Entry}
use Rattle.tm_model.specs.declared.entry.Entry.TheVariants.{By, Resume, Sent}
use Rattle.tm_model.specs.Answering.{MayGrow}
use Rattle.tm_model.specs.Batches.{batches}
use Rattle.tm_model.specs.Entries.{AreResumes, entries_by, batch_entries, added}
use Rattle.tm_model.specs.Holds.{has_bye, launches_in, unfinished}
use Rattle.tm_model.specs.Laws.{IsOpening, IsPromised}
use Rattle.tm_model.specs.Legal.{IsLegal}
use Rattle.tm_model.specs.Lists.{EndsIn}
use Rattle.tm_model.specs.Ran.{mark_of, ran}
use Rattle.tm_model.specs.Serve.{state_after}
use Rattle.tm_model.specs.State.{State, place_of, place_count, IsHeld}
use Rattle.tm_core.proofs.Joins.{legal_logs_join, resumes_are_none, state-append}
use Rattle.tm_core.proofs.LaunchLog.{log_launches}
use Rattle.tm_core.proofs.Marks.{ran-append, none_not_of, settled-append, settled_none}
use Rattle.tm_core.proofs.Ordered.{opening_ordered, log_ordered}
use Rattle.tm_state.specs.StateView.{StateView}
use Rattle.tm_state.specs.Represents.{Represents, requests_in}
use Rattle.tm_state.specs.Asking.{MayRunBatch, HasAnswered as HasRunIt}
use Rattle.tm_pair.specs.Views.{BatchView, TrusteeView, hand_of}
use Rattle.tm_pair.specs.Calls.{MayAnswer, HasAnswered}
use Rattle.tm_pair.specs.Sides.{IsGoodTrustee}
use Rattle.tm_trustee.specs.Serving.{resumes_in, GoesOn, IsCurrent}

module _ {V O R T : Type 0} where
  -- resumes run nothing
  pub resumes_run : (c : ℕ) (es : List (Entry V O R T)) → AreResumes es → ran c es ≡ []
  resumes_run c [] only = refl
  resumes_run c (Resume id ticket event next ∷ es) only = resumes_run c es only
  resumes_run c (By d k q a ∷ es) only = absurd only
  resumes_run c (Sent d room ∷ es) only = absurd only

  pub same_ran : (c : ℕ) (log es : List (Entry V O R T)) → AreResumes es → ran c (log ++ es) ≡ ran c log
  same_ran c log es only = ran-append mark_of c log es ∙ ap (λ l. ran c log ++ l) (resumes_run c es only) ∙ append-nil (ran c log)

  pub both_resume : (es fs : List (Entry V O R T)) → AreResumes es → AreResumes fs → AreResumes (es ++ fs)
  both_resume [] fs first then = then
  both_resume (Resume id ticket event next ∷ es) fs first then = both_resume es fs first then
  both_resume (By d k q a ∷ es) fs first then = absurd first
  both_resume (Sent d room ∷ es) fs first then = absurd first

  pub resumes_in-append : (es fs : List (Entry V O R T)) → resumes_in (es ++ fs) ≡ resumes_in es + resumes_in fs
  resumes_in-append [] fs = omega arith
  resumes_in-append (Resume id ticket event next ∷ es) fs = let more = resumes_in-append es fs in omega (arith, more)
  resumes_in-append (By d k q a ∷ es) fs = resumes_in-append es fs
  resumes_in-append (Sent d room ∷ es) fs = resumes_in-append es fs

  entries_resume : (c k : ℕ) (b : List (Request V O R T)) (answers : List (Answer V O R T)) → resumes_in (entries_by c k b answers) ≡ 0
  entries_resume c k [] answers = refl
  entries_resume c k (q ∷ b) [] = refl
  entries_resume c k (q ∷ b) (a ∷ answers) = entries_resume c (k + 1) b answers

  batch_resumes :
      (log : List (Entry V O R T)) (c : ℕ) (b : List (Request V O R T)) (room : ℕ) (answers : List (Answer V O R T))
      → resumes_in (batch_entries log c b room answers) ≡ 0
  batch_resumes log c b room answers =
      let joined = resumes_in-append (entries_by c (length (ran c log)) b answers) (Sent c room ∷ []) in
      let none = entries_resume c (length (ran c log)) b answers in
      omega (arith, joined, none)

  module _ (kind : Kind V O R T) (opening : State V O R T) where
    -- a batch that is promised behind a log is promised behind it and some resumes
    promised_behind :
        (log since : List (Entry V O R T)) (c : ℕ) (b : List (Request V O R T)) → IsOpening opening → IsLegal kind opening (log ++ since)
        → AreResumes since → c < place_count opening.setup → IsPromised kind opening log c b → IsPromised kind opening (log ++ since) c b
    promised_behind log since c b opens legal only lt p =
        let n = place_count opening.setup in
        let s = state_after kind opening log in
        let parts = (legal_logs_join kind opening log since).0 legal in
        let flow = log_launches kind n c lt 0 [] s since (log_ordered kind n opening log parts.0 (opening_ordered opening opens)) parts.1 in
        let lands : state_after kind opening (log ++ since) ≡ state_after kind s since = state-append kind opening log since in
        let live = ap (λ (x : State V O R T). unfinished c x.live) lands in
        let ready = ap (λ (x : State V O R T). length (place_of x c).ready) lands in
        let none = ap launches_in (resumes_run c since only) in
        let most = p.launches in
        let count : length (ran c log) ≡ length (ran c (log ++ since)) = ap length (sym (same_ran c log since only)) in
        record {
          held = λ resumes answers before after q id split names are many legal.
              let es = entries_by c (length (ran c log)) before answers in
              let e = ap (λ l. log ++ l) (append_assoc since resumes es) ∙ sym (append_assoc log since (resumes ++ es))
              ∙ ap (λ k. (log ++ since) ++ (resumes ++ entries_by c k before answers)) count in
              subst (λ l. IsHeld (state_after kind opening l) c id) e
              (p.held (since ++ resumes) answers before after q id split names (both_resume since resumes only are) many
              (subst (λ l. IsLegal kind opening l) (sym e) legal));
          grants = p.grants;
          launches = omega (arith, flow, live, ready, none, most);
          trustee = p.trustee;
          bye = λ bye. let (alone, ended, nothing) = p.bye bye in (alone, omega (arith, flow, live, ready, none, ended, nothing), omega (arith, flow, live, ready, none, ended, nothing));
          last = λ said. p.last (subst (λ l. has_bye l ≡ true) (same_ran c log since only) said);
        }

    -- a batch in hand may be run behind what was resumed
    pub in_hand_may_run :
        (view : TrusteeView V O R T) (since : List (Entry V O R T)) (state : StateView V O R T) (c : ℕ) (batch : Batch V O R T)
        → IsGoodTrustee kind opening view → IsCurrent kind opening view.log since state → c < place_count opening.setup
        → hand_of view c ≡ Some (record { requests = batch.requests.items; room = batch.room })
        → MayRunBatch kind opening (view.log ++ since) c batch.requests.items state
    in_hand_may_run view since state c batch good current lt is = record {
      represents = current.represents;
      in_range = lt;
      settled =
          settled-append mark_of c view.log since (good.settled c lt)
          (settled_none mark_of c since (none_not_of mark_of c since (resumes_are_none since current.only)));
      promised =
          promised_behind view.log since c batch.requests.items good.opens current.represents.is_legal current.only lt
          (good.in_hand c (record { requests = batch.requests.items; room = batch.room }) is).promised;
    }

    -- the entries of a batch behind a log and some resumes are those behind the log
    module _ (log since : List (Entry V O R T)) (c : ℕ) (b : List (Request V O R T)) (room : ℕ) (a : AnswerBatch V O R T) (only : AreResumes since) where
      grown : (log ++ since) ++ added (log ++ since) [] c b room a.answers.items ≡ log ++ added log since c b room a.answers.items
      grown =
          append_assoc log since (batch_entries (log ++ since) c b room a.answers.items)
          ∙ ap (λ l. log ++ (since ++ (entries_by c (length l) b a.answers.items ++ Sent c room ∷ []))) (same_ran c log since only)

      grows_behind : MayGrow kind opening (log ++ since) [] c b room a → MayGrow kind opening log since c b room a
      grows_behind grows = record {
        only = only;
        as_many = grows.as_many;
        is_legal = subst (λ l. IsLegal kind opening l) grown grows.is_legal;
        last = subst (λ l. EndsIn (batches kind opening c l) a) grown grows.last;
      }

    module _ (view : TrusteeView V O R T) (since : List (Entry V O R T)) (old new : StateView V O R T) (c : ℕ) (batch : Batch V O R T) (a : AnswerBatch V O R T)
        (only : AreResumes since) (is : hand_of view c ≡ Some (record { requests = batch.requests.items; room = batch.room }))
        (may : MayRunBatch kind opening (view.log ++ since) c batch.requests.items old)
        (ran_it : HasRunIt kind c batch.requests.items batch.room a old new) where
      -- the answers that a trustee gives may be given behind what it resumed
      pub may_answer : MayAnswer kind opening c since a view
      may_answer =
          subst (λ (o : Option (BatchView V O R T)). IsSomeAnd o (λ hand. MayGrow kind opening view.log since c hand.requests hand.room a)) (sym is)
          (grows_behind view.log since c batch.requests.items batch.room a only (ran_it opening (view.log ++ since) may).0)

      module _ (after : TrusteeView V O R T) (has : HasAnswered c since a view after) where
        log_is : after.log ≡ view.log ++ added view.log since c batch.requests.items batch.room a.answers.items
        log_is =
            subst (λ (o : Option (BatchView V O R T)). IsSomeAnd o (λ hand. after.log ≡ view.log ++ added view.log since c hand.requests hand.room a.answers.items))
            is has.log

        -- and it is current with nothing resumed since
        pub current_behind : IsCurrent kind opening after.log [] new
        current_behind = record {
          represents =
              subst (λ l. Represents kind opening l new)
              (grown view.log since c batch.requests.items batch.room a only ∙ sym log_is ∙ sym (append-nil after.log))
              (ran_it opening (view.log ++ since) may).1;
          only = tt;
        }

        pub goes_behind : GoesOn (view.log ++ since) (after.log ++ [])
        goes_behind =
            let es = batch_entries view.log c batch.requests.items batch.room a.answers.items in (
              es,
              append-nil after.log ∙ log_is ∙ sym (append_assoc view.log since es),
              batch_resumes view.log c batch.requests.items batch.room a.answers.items,
            )

  -- what goes on twice goes on
  pub goes_far : (a b c : List (Entry V O R T)) → GoesOn a b → GoesOn b c → GoesOn a c
  goes_far a b c (es, is, none) (fs, then, nothing) =
      let joined = resumes_in-append es fs in
      (es ++ fs, then ∙ ap (λ l. l ++ fs) is ∙ append_assoc a es fs, omega (arith, joined, none, nothing))

  pub goes_nowhere : (a : List (Entry V O R T)) → GoesOn a a
  goes_nowhere a = ([], sym (append-nil a), refl)

  -- where the list of what was resumed is a new one
  pub emptied_current :
      (kind : Kind V O R T) (opening : State V O R T) (log since : List (Entry V O R T)) (state : StateView V O R T) → since ≡ []
      → IsCurrent kind opening log [] state → IsCurrent kind opening log since state
  emptied_current kind opening log since state none is = subst (λ l. IsCurrent kind opening log l state) (sym none) is

  pub emptied_goes : (old log since : List (Entry V O R T)) → since ≡ [] → GoesOn old (log ++ []) → GoesOn old (log ++ since)
  emptied_goes old log since none is = subst (λ l. GoesOn old (log ++ l)) (sym none) is

  -- where the log is one that is the same, and the opening state
  pub current_as :
      (kind : Kind V O R T) (a b : State V O R T) (log same since : List (Entry V O R T)) (state : StateView V O R T) → b ≡ a → same ≡ log
      → IsCurrent kind a log since state → IsCurrent kind b same since state
  current_as kind a b log same since state opens is current =
      subst (λ s. IsCurrent kind s same since state) (sym opens) (subst (λ l. IsCurrent kind a l since state) (sym is) current)

  pub goes_as : (old log same since : List (Entry V O R T)) → same ≡ log → GoesOn old (log ++ since) → GoesOn old (same ++ since)
  goes_as old log same since is goes = subst (λ l. GoesOn old (l ++ since)) (sym is) goes

  requests_in-resumes : (log es : List (Entry V O R T)) → AreResumes es → requests_in (log ++ es) ≡ requests_in log
  requests_in-resumes [] [] only = refl
  requests_in-resumes [] (Resume id ticket event next ∷ es) only = requests_in-resumes [] es only
  requests_in-resumes [] (By d k q a ∷ es) only = absurd only
  requests_in-resumes [] (Sent d room ∷ es) only = absurd only
  requests_in-resumes (By d k q a ∷ log) es only = ap (λ n. 1 + n) (requests_in-resumes log es only)
  requests_in-resumes (Resume id ticket event next ∷ log) es only = requests_in-resumes log es only
  requests_in-resumes (Sent d room ∷ log) es only = requests_in-resumes log es only

  -- how many requests were run is how many are in the log
  pub run_behind :
      (kind : Kind V O R T) (opening : State V O R T) (log since : List (Entry V O R T)) (state : StateView V O R T) → IsCurrent kind opening log since state
      → state.run ≡ min (requests_in log) (2 ^ 64 - 1)
  run_behind kind opening log since state current =
      current.represents.run ∙ ap (λ n. min n (2 ^ 64 - 1)) (requests_in-resumes log since current.only)
