-- A place of which nothing waits for an answer, and no launch for its completion.
use Rattle.std.proofs.Common.{◌≡◌, ℕ, ◌<◌, ◌≤◌, true, false, List, [], ◌∷◌, ◌++◌, inl, inr, refl, sym, ◌∙◌, ap, arith, append-nil, eq-eqb, ne_eqb}
use Rattle.std.specs.List.{AllByRecursion}
use Rattle.std.specs.declared.option.Option.{Option}
use Rattle.std.specs.declared.option.Option.TheVariants.{None, Some}
use Rattle.std.proofs.lemmas.Bool.{cases_eq}
use Rattle.tm_seq.specs.Kind.{Kind}
use Rattle.tm_batch.specs.declared.message.Request.{Request}
use Rattle.tm_batch.specs.declared.message.Request.TheVariants.{Entrust, Apply, Launch, Grant, Release, Reclaim, Bye}
use Rattle.tm_batch.specs.declared.message.AnswerBatch.{AnswerBatch}
use Rattle.tm_model.specs.declared.entry.Entry.{Entry}
use Rattle.tm_model.specs.declared.entry.Entry.TheVariants.{By, Resume, Sent}
use Rattle.tm_model.specs.State.{Work, Object, State, object_of}
use Rattle.tm_model.specs.Slots.{Empty, Asked, Taken, Answered}
use Rattle.tm_model.specs.Good.{FullBox, FullSlot, got_with}
use Rattle.tm_model.specs.GoodSlots.{Agrees}
use Rattle.tm_model.specs.Entries.{AreResumes}
use Rattle.tm_model.specs.Serve.{works_in}
use Rattle.tm_model.specs.Legal.{IsLegal}
use Rattle.tm_model.specs.Lists.{IsPrefix}
use Rattle.tm_model.specs.Ran.{mark_of, ran}
use Rattle.tm_model.specs.Batches.{batches}
use Rattle.tm_model.specs.Holds.{has_bye, launches_in, ended_in, works_of, unfinished}
use Rattle.tm_core.proofs.Tallies.{ended_in-append}
use Rattle.tm_pair.specs.SideViews.{batch_out}
use Rattle.tm_client.specs.Lanes.{asks_in, out_requests}
use Rattle.tm_course.specs.Courses.{NoneWorks}
use Rattle.tm_course.proofs.Idle.{none_resumed}

module _ {V O R T : Type 0} where
  -- requests of which none is a caller's, and none a Bye, are none
  only_byes : (b : List (Request V O R T)) → asks_in b ≡ [] → (has_bye b ≡ true → ⊥) → b ≡ []
  only_byes [] e none = refl
  only_byes (Bye ∷ b) e none = absurd (none refl)
  only_byes (Entrust v ∷ b) e none = absurd cc
  only_byes (Apply n op ∷ b) e none = absurd cc
  only_byes (Launch n task ∷ b) e none = absurd cc
  only_byes (Grant n d ∷ b) e none = absurd cc
  only_byes (Release n ∷ b) e none = absurd cc
  only_byes (Reclaim n ∷ b) e none = absurd cc

  -- they launch nothing
  pub launch_none : (b : List (Request V O R T)) → asks_in b ≡ [] → launches_in b ≡ 0
  launch_none [] e = refl
  launch_none (Bye ∷ b) e = launch_none b e
  launch_none (Entrust v ∷ b) e = absurd cc
  launch_none (Apply n op ∷ b) e = absurd cc
  launch_none (Launch n task ∷ b) e = absurd cc
  launch_none (Grant n d ∷ b) e = absurd cc
  launch_none (Release n ∷ b) e = absurd cc
  launch_none (Reclaim n ∷ b) e = absurd cc

  pub bye_behind : (xs ys : List (Request V O R T)) → has_bye ys ≡ true → has_bye (xs ++ ys) ≡ true
  bye_behind [] ys has = has
  bye_behind (Bye ∷ xs) ys has = refl
  bye_behind (Entrust v ∷ xs) ys has = bye_behind xs ys has
  bye_behind (Apply n op ∷ xs) ys has = bye_behind xs ys has
  bye_behind (Launch n task ∷ xs) ys has = bye_behind xs ys has
  bye_behind (Grant n d ∷ xs) ys has = bye_behind xs ys has
  bye_behind (Release n ∷ xs) ys has = bye_behind xs ys has
  bye_behind (Reclaim n ∷ xs) ys has = bye_behind xs ys has

  no_bye_behind : (xs ys sent : List (Request V O R T)) → sent ≡ xs ++ ys → has_bye sent ≡ false → has_bye ys ≡ true → ⊥
  no_bye_behind xs ys sent e none has = let both : true ≡ false = sym (bye_behind xs ys has) ∙ ap has_bye (sym e) ∙ none in absurd cc

  -- all that was sent was run
  pub all_run :
      (kind : Kind V O R T) (opening : State V O R T) (box : FullBox V O R T) (slot : FullSlot V O R T) (c : ℕ) (log : List (Entry V O R T))
      → asks_in (out_requests (batch_out box slot.sent)) ≡ [] → has_bye slot.sent ≡ false
      → Agrees mark_of (batches kind opening) (IsLegal kind opening) box slot c log → ran c log ≡ slot.sent
  all_run kind opening Empty slot c log none no_bye agrees = sym agrees.1
  all_run kind opening (Answered a upto room) slot c log none no_bye agrees = sym agrees.1
  all_run kind opening (Asked b room) slot c log none no_bye agrees =
      let nothing = only_byes b none (no_bye_behind (ran c log) b slot.sent agrees.1 no_bye) in
      sym (agrees.1 ∙ ap (λ l. ran c log ++ l) nothing ∙ append-nil (ran c log))
  all_run kind opening (Taken b room) slot c log none no_bye agrees =
      let nothing = only_byes b none (no_bye_behind (ran c log) b slot.sent agrees.1 no_bye) in
      sym (agrees.1 ∙ ap (λ l. ran c log ++ l) nothing ∙ append-nil (ran c log))

  -- what was run is a front of what was sent
  pub ran_front :
      (kind : Kind V O R T) (opening : State V O R T) (box : FullBox V O R T) (slot : FullSlot V O R T) (c : ℕ) (log : List (Entry V O R T))
      → Agrees mark_of (batches kind opening) (IsLegal kind opening) box slot c log → IsPrefix (ran c log) slot.sent
  ran_front kind opening Empty slot c log agrees = ([], agrees.1 ∙ sym (append-nil (ran c log)))
  ran_front kind opening (Answered a upto room) slot c log agrees = ([], agrees.1 ∙ sym (append-nil (ran c log)))
  ran_front kind opening (Asked b room) slot c log agrees = (b, agrees.1)
  ran_front kind opening (Taken b room) slot c log agrees = (b, agrees.1)

  -- no fewer launches ended by all that left than by what came
  pub ended_more : (box : FullBox V O R T) (got : List (AnswerBatch V O R T)) → ended_in got ≤ ended_in (got_with box got)
  ended_more Empty got = omega arith
  ended_more (Asked b room) got = omega arith
  ended_more (Taken b room) got = omega arith
  ended_more (Answered a upto room) got = let more = ended_in-append got (a ∷ []) in omega (arith, more)

  -- resumes stand nowhere where no launch is unfinished
  pub nothing_since :
      (kind : Kind V O R T) (n : ℕ) (s : State V O R T) (since : List (Entry V O R T)) → NoneWorks s → IsLegal kind s since → AreResumes since → since ≡ []
  nothing_since kind n s [] none legal only = refl
  nothing_since kind n s (Resume id ticket event next ∷ since) none legal only = absurd (none_resumed kind n s id ticket event next legal.0 (none id))
  nothing_since kind n s (By c k q a ∷ since) none legal only = absurd only
  nothing_since kind n s (Sent c room ∷ since) none legal only = absurd only

first_counts : {T : Type 0} (w : Work T) (ws : List (Work T)) → 1 ≤ works_of w.place (w ∷ ws)
first_counts w ws = rw (eq-eqb w.place w.place refl) (omega arith)

module _ {V T : Type 0} where
  -- a launch of a live object counts among the unfinished
  found_counts : (c id : ℕ) (live : List (Object V T)) (o : Object V T) → object_of live id ≡ Some o → works_of c o.works ≤ unfinished c live
  found_counts c id [] o at = absurd cc
  found_counts c id (x ∷ live) o at =
      elim (cases_eq x.id id) [
        | inl e ↦
            let here = rw (eq-eqb x.id id e) at at in
            let is : x ≡ o = cc in
            let same = ap (λ (y : Object V T). works_of c y.works) is in
            omega (arith, same)
        | inr ne ↦ let later = rw (ne_eqb x.id id ne) at at in let more = found_counts c id live o later in omega (arith, more)
      ]

  none_of_object :
      (n : ℕ) (live : List (Object V T)) (id : ℕ) (o : Object V T) (ws : List (Work T)) → ((c : ℕ) → c < n → unfinished c live ≡ 0) → object_of live id ≡ Some o → o.works ≡ ws
      → AllByRecursion (λ (w : Work T). w.place < n) ws → ws ≡ []
  none_of_object n live id o [] none at is places = refl
  none_of_object n live id o (w ∷ ws) none at is places =
      let some = first_counts w ws in
      let counts = found_counts w.place id live o at in
      let same = ap (works_of w.place) is in
      let nought = none w.place places.0 in
      absurd (omega (arith, some, counts, same, nought))

  -- where no place has an unfinished launch, no object has
  pub none_of_all :
      (n : ℕ) (live : List (Object V T)) → ((c : ℕ) → c < n → unfinished c live ≡ 0)
      → ((id : ℕ) (o : Object V T) → object_of live id ≡ Some o → AllByRecursion (λ (w : Work T). w.place < n) o.works) → (id : ℕ) (x : Option (Object V T))
      → object_of live id ≡ x → works_in x ≡ []
  none_of_all n live none places id None at = refl
  none_of_all n live none places id (Some o) at = none_of_object n live id o o.works none at refl (places id o at)
