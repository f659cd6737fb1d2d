-- Where the entries of a task that goes on land: in the state of one resume, by what the task does last.
use Rattle.std.proofs.Common.{◌≡◌, ℕ, ◌≤◌, Bool, true, false, cond, List, [], ◌∷◌, ◌++◌, length, inl, inr, refl, sym, ◌∙◌, ap, subst, arith, eq-eqb, ne_eqb}
use Rattle.std.specs.List.{AllByRecursion}
use Rattle.std.specs.declared.option.Option.TheVariants.{Some}
use Rattle.std.specs.Option.{IsSomeAnd}
use Rattle.std.proofs.lemmas.Bool.{cases_eq}
use Rattle.tm_seq.specs.Kind.{Kind, KindLaws, IsResume}
use Rattle.tm_seq.specs.declared.kind.Event.{Event}
use Rattle.tm_seq.specs.declared.kind.Event.TheVariants.{NotAbove, NoObject}
use Rattle.tm_seq.specs.declared.kind.Next.{Next}
use Rattle.tm_seq.specs.declared.kind.Next.TheVariants.{Ask, Done}
use Rattle.tm_model.specs.declared.entry.Entry.{Entry}
use Rattle.tm_model.specs.declared.entry.Entry.TheVariants.{By, Resume, Sent}
use Rattle.tm_model.specs.State.{AskOf, Work, Setup, Object, State, total, change, kept, object_of, place_count, with_live}
use Rattle.tm_model.specs.Serve.{is_lacking, value_resumed, value_advanced, works_resumed, works_in, completed, after, state_after}
use Rattle.tm_model.specs.Legal.{IsAwaited, HasFirst, MayCome, IsLegal}
use Rattle.tm_model.specs.Laws.{IsOpening, IsSound, IsSoundObject}
use Rattle.tm_core.proofs.CallerLemmas.{all_weaker}
use Rattle.tm_core.proofs.Finding.{change_found}
use Rattle.tm_core.proofs.Joins.{legal_logs_join, state-append}
use Rattle.tm_core.proofs.Sound.{states_are_sound}
use Rattle.tm_state.specs.Launches.{AwaitsReply}
use Rattle.tm_state.specs.Resuming.{AreHeld, Continues}
use Rattle.tm_state.proofs.RowsOrder.{alone, change_same, sound_ordered}

module _ {V O R T : Type 0} (kind : Kind V O R T) (laws : KindLaws kind) where
  advanced :
      (v w : V) (task : T) (event : Event R) (next : Next O T R) (t : Bool) → is_lacking kind next ≡ t → w ≡ (kind.advance v task event).0
      → next ≡ (kind.advance v task event).1 → w ≡ cond t v (kind.advance v task event).0
  advanced v w task event next false lacks value does = value
  advanced v w task event (Ask u x op more) true lacks value does = absurd cc
  advanced v w task event (Done r) true lacks value does =
      let no_memory : r ≡ kind.no_memory = (laws.lacks_is r).0 lacks in
      value ∙ laws.advance_kept v task event (sym does ∙ ap (λ (x : R). Done x) no_memory)

  -- the value after a lawful resume is that of the state's advance
  pub resume_value : (v w : V) (task : T) (event : Event R) (next : Next O T R) → IsResume kind v task event w next → w ≡ value_resumed kind v task event next
  resume_value v w task event next resume =
      elim resume [
        | inl e ↦ advanced v w task event next (is_lacking kind next) refl (ap (λ (p : V × Next O T R). p.0) e) (ap (λ (p : V × Next O T R). p.1) e)
        | inr e ↦
            let lacks : is_lacking kind next ≡ true = ap (is_lacking kind) e.1 ∙ (laws.lacks_is kind.no_memory).1 refl in
            rw lacks e.0
      ]

-- what a task does next, where its type does not show
abbrev pub ask_next : {O T : Type 0} (R : Type 0) → ℕ → ℕ → O → T → Next O T R
ask_next R u x op task = Ask u x op task

abbrev pub done_next : {R T : Type 0} (O : Type 0) → R → Next O T R
done_next O r = Done r

-- what an ask of an object above awaits
abbrev pub StopsAbove : {O R T : Type 0} → Setup → Next O T R → Type 0
StopsAbove setup (Ask u x op task) = AwaitsReply setup (AskOf u x)
StopsAbove setup (Done r) = Unit {0}

module _ {O R T : Type 0} where
  works_again :
      (ws : List (Work T)) (u x : ℕ) (op : O) (task : T) (next : Next O T R) → works_resumed (works_resumed ws (ask_next R u x op task)) next ≡ works_resumed ws next
  works_again [] u x op task next = refl
  works_again (w ∷ ws) u x op task (Ask _ _ _ _) = refl
  works_again (w ∷ ws) u x op task (Done r) = refl

module _ {O T : Type 0} where
  pub works_as_many : (R : Type 0) (ws : List (Work T)) (u x : ℕ) (op : O) (task : T) → length (works_resumed ws (ask_next R u x op task)) ≡ length ws
  works_as_many R [] u x op task = refl
  works_as_many R (w ∷ ws) u x op task = refl

module _ {V T : Type 0} where
  -- where each object has a hold or a launch, none goes
  kept_all : (live : List (Object V T)) → AllByRecursion (λ o. 1 ≤ total o) live → kept live ≡ live
  kept_all [] h = refl
  kept_all (o ∷ live) h =
      elim (cases_eq (total o) 0) [
        | inl e ↦ absurd (let most = h.0 in omega (arith, most, e))
        | inr ne ↦ rw (ne_eqb (total o) 0 ne) (ap (λ l. o ∷ l) (kept_all live h.1))
      ]

  -- a change after a change of the same object
  pub change_twice :
      (id : ℕ) (f g h : Object V T → Object V T) (live : List (Object V T)) → ((o : Object V T) → (f o).id ≡ o.id) → ((o : Object V T) → g (f o) ≡ h o)
      → change id g (change id f live) ≡ change id h live
  change_twice id f g h [] same both = refl
  change_twice id f g h (o ∷ live) same both =
      let more = change_twice id f g h live same both in
      elim (cases_eq o.id id) [
        | inl e ↦ rw (eq-eqb o.id id e, eq-eqb (f o).id id (same o ∙ e), both o, more) refl
        | inr ne ↦ rw (ne_eqb o.id id ne, ne_eqb o.id id ne, more) refl
      ]

module _ {V O R T : Type 0} where
  -- an object whose first launch did `next`, and left the value w
  abbrev pub gone : V → Next O T R → Object V T → Object V T
  gone w next o = record o { value = w; works = works_resumed o.works next }

  -- the state where the first launch of an object did `next`, and left the value w
  abbrev pub settled : ℕ → ℕ → V → Next O T R → State V O R T → State V O R T
  settled id ticket w next s =
      completed (works_in (object_of s.live id)) ticket next (with_live (kept (change id (gone w next) s.live)) s)

  completed_ask :
      (ws : List (Work T)) (ticket u x : ℕ) (op : O) (task : T) (s : State V O R T) → completed ws ticket (Ask u x op task) s ≡ s
  completed_ask [] ticket u x op task s = refl
  completed_ask (w ∷ ws) ticket u x op task s = refl

  completed_again :
      (ws : List (Work T)) (ticket u x : ℕ) (op : O) (task : T) (next : Next O T R) (s : State V O R T)
      → completed (works_resumed ws (ask_next R u x op task)) ticket next s ≡ completed ws ticket next s
  completed_again [] ticket u x op task next s = refl
  completed_again (w ∷ ws) ticket u x op task (Ask _ _ _ _) s = refl
  completed_again (w ∷ ws) ticket u x op task (Done r) s = refl

module _ {V O T : Type 0} where
  still_held :
      (R : Type 0) (id u x : ℕ) (op : O) (task : T) (w : V) (live : List (Object V T)) → AllByRecursion (λ o. 1 ≤ total o) live
      → AllByRecursion (λ o. 1 ≤ total o) (change id (gone w (ask_next R u x op task)) live)
  still_held R id u x op task w [] h = tt
  still_held R id u x op task w (o ∷ live) h =
      let more = still_held R id u x op task w live h.1 in
      elim (cases_eq o.id id) [
        | inl e ↦
            let many = works_as_many R o.works u x op task in
            let most = h.0 in
            rw (eq-eqb o.id id e) (omega (arith, many, most), more)
        | inr ne ↦ rw (ne_eqb o.id id ne) (h.0, more)
      ]

module _ {V O R T : Type 0} where
  -- an ask leaves all objects
  pub settled_ask :
      (id ticket u x : ℕ) (op : O) (task : T) (w : V) (s : State V O R T) → AllByRecursion (λ o. 1 ≤ total o) s.live
      → settled id ticket w (Ask u x op task) s ≡ with_live (change id (gone w (ask_next R u x op task)) s.live) s
  settled_ask id ticket u x op task w s h =
      completed_ask (works_in (object_of s.live id)) ticket u x op task _
      ∙ ap (λ live. with_live live s) (kept_all _ (still_held R id u x op task w s.live h))

  -- what comes after an ask lands where it would without it
  settled_again :
      (id ticket u x : ℕ) (op : O) (task : T) (v w : V) (next : Next O T R) (s : State V O R T) (o : Object V T) → object_of s.live id ≡ Some o
      → settled id ticket w next (with_live (change id (gone v (ask_next R u x op task)) s.live) s) ≡ settled id ticket w next s
  settled_again id ticket u x op task v w next s o at =
      let f = gone v (ask_next R u x op task) in
      let live : change id (gone w next) (change id f s.live) ≡ change id (gone w next) s.live =
      change_twice id f (gone w next) (gone w next) s.live (λ y. refl) (λ y. ap (λ ws. record y { value = w; works = ws }) (works_again y.works u x op task next)) in
      let found : object_of (change id f s.live) id ≡ Some (f o) =
      elim (change_found id id f s.live o (λ y. refl) at) [ inl is ↦ is.1 | inr bad ↦ absurd (bad.0 refl) ] in
      let to : State V O R T = with_live (kept (change id (gone w next) s.live)) s in
      ap (λ l. completed (works_in (object_of (change id f s.live) id)) ticket next (with_live (kept l) s)) live
      ∙ ap (λ y. completed (works_in y) ticket next to) found ∙ completed_again o.works ticket u x op task next to
      ∙ ap (λ y. completed (works_in y) ticket next to) (sym at)

  pub held_total : (opening s : State V O R T) → IsSound opening s → AllByRecursion (λ o. 1 ≤ total o) s.live
  held_total opening s sound = all_weaker (IsSoundObject opening s) _ s.live (λ o h. h.total) sound.objects

  module _ (kind : Kind V O R T) (laws : KindLaws kind) (opening : State V O R T) (opens : IsOpening opening) (id ticket : ℕ) where
    -- one resume of the first launch of an object
    module _ (s : State V O R T) (sound : IsSound opening s) (o : Object V T) (at : object_of s.live id ≡ Some o) (wk : Work T) (ws : List (Work T)) (works : o.works ≡ wk ∷ ws)
        (event : Event R) (w : V) (next : Next O T R) (lawful : IsResume kind o.value wk.task event w next) where
      value_is : value_advanced kind o.value o.works event next ≡ w
      value_is = ap (λ l. value_advanced kind o.value l event next) works ∙ sym (resume_value kind laws o.value w wk.task event next lawful)

      pub one_lands : after kind s (Resume id ticket event next) ≡ settled id ticket w next s
      one_lands =
          let f : Object V T → Object V T = λ x. record x { value = value_advanced kind x.value x.works event next; works = works_resumed x.works next } in
          let only = alone (place_count opening.setup) 1 s.next_id id s.live o (sound_ordered opening s sound).rises at in
          let same : change id f s.live ≡ change id (gone w next) s.live =
          change_same id f (gone w next) s.live
          (all_weaker _ _ s.live
          (λ x is named. ap (λ (v : V). record x { value = v; works = works_resumed x.works next }) (ap (λ (y : Object V T). value_advanced kind y.value y.works event next) (is named) ∙ value_is)) only) in
          ap (λ live. completed (works_in (object_of s.live id)) ticket next (with_live (kept live) s)) same

      pub one_may : wk.ticket ≡ ticket → IsAwaited s.setup wk.awaits event → MayCome kind s (Resume id ticket event next)
      one_may number awaits =
          let value = resume_value kind laws o.value w wk.task event next lawful in
          let P : Work T → Type 0 = λ x. (x.ticket ≡ ticket) × IsAwaited s.setup x.awaits event × IsResume kind o.value x.task event (value_resumed kind o.value x.task event next) next in
          let first : HasFirst o.works P =
          subst (λ l. HasFirst l P) (sym works) (number, awaits, subst (λ (y : V). IsResume kind o.value wk.task event y next) value lawful) in
          subst
          (λ y. IsSomeAnd y (λ o. HasFirst o.works (λ w. (w.ticket ≡ ticket) × IsAwaited s.setup w.awaits event
          × IsResume kind o.value w.task event (value_resumed kind o.value w.task event next) next))) (sym at) first

    module _ (number : ℕ) (held : List ℕ) (own : number ≡ opening.setup.number) (holds : AreHeld opening.setup held) where
      -- what the entries of a task that goes on do behind a log
      pub record Lands (log es : List (Entry V O R T)) (w : V) (next : Next O T R) : Type 0 where
        pub legal : IsLegal kind (state_after kind opening log) es
        pub lands : state_after kind (state_after kind opening log) es ≡ settled id ticket w next (state_after kind opening log)
        pub stops : StopsAbove opening.setup next

      -- one entry
      lands_one :
          (log : List (Entry V O R T)) (o : Object V T) (wk : Work T) (ws : List (Work T)) (event : Event R) (w : V) (next : Next O T R)
          → IsLegal kind opening log → object_of (state_after kind opening log).live id ≡ Some o → o.works ≡ wk ∷ ws → wk.ticket ≡ ticket
          → IsAwaited opening.setup wk.awaits event → IsResume kind o.value wk.task event w next → StopsAbove opening.setup next
          → Lands log (Resume id ticket event next ∷ []) w next
      lands_one log o wk ws event w next legal at works tick awaits lawful stops =
          let s = state_after kind opening log in
          let sound = states_are_sound kind opening log opens legal in
          let aw : IsAwaited s.setup wk.awaits event = subst (λ z. IsAwaited z wk.awaits event) (sym sound.setup) awaits in
          record {
            legal = (one_may s sound o at wk ws works event w next lawful tick aw, tt);
            lands = one_lands s sound o at wk ws works event w next lawful;
            stops = stops;
          }

      -- an entry, and what comes behind it
      lands_more :
          (log es : List (Entry V O R T)) (o : Object V T) (wk : Work T) (ws : List (Work T)) (event : Event R) (v w : V) (u x : ℕ) (op : O) (task : T) (next : Next O T R)
          → IsLegal kind opening log → object_of (state_after kind opening log).live id ≡ Some o → o.works ≡ wk ∷ ws → wk.ticket ≡ ticket
          → IsAwaited opening.setup wk.awaits event → IsResume kind o.value wk.task event v (Ask u x op task)
          → ((more : List (Entry V O R T)) → IsLegal kind opening more
          → object_of (state_after kind opening more).live id ≡ Some (gone v (ask_next R u x op task) o) → Lands more es w next)
          → Lands log (Resume id ticket event (Ask u x op task) ∷ es) w next
      lands_more log es o wk ws event v w u x op task next legal at works tick awaits lawful behind =
          let s = state_after kind opening log in
          let e : Entry V O R T = Resume id ticket event (Ask u x op task) in
          let sound = states_are_sound kind opening log opens legal in
          let aw : IsAwaited s.setup wk.awaits event = subst (λ z. IsAwaited z wk.awaits event) (sym sound.setup) awaits in
          let may = one_may s sound o at wk ws works event v (Ask u x op task) lawful tick aw in
          let to : State V O R T = with_live (change id (gone v (ask_next R u x op task)) s.live) s in
          let one : after kind s e ≡ to =
          one_lands s sound o at wk ws works event v (Ask u x op task) lawful ∙ settled_ask id ticket u x op task v s (held_total opening s sound) in
          let joined : state_after kind opening (log ++ e ∷ []) ≡ after kind s e = state-append kind opening log (e ∷ []) in
          let legal_more : IsLegal kind opening (log ++ e ∷ []) = (legal_logs_join kind opening log (e ∷ [])).1 legal (may, tt) in
          let found : object_of to.live id ≡ Some (gone v (ask_next R u x op task) o) =
          elim (change_found id id (gone v (ask_next R u x op task)) s.live o (λ y. refl) at) [ inl is ↦ is.1 | inr bad ↦ absurd (bad.0 refl) ] in
          let rest = behind (log ++ e ∷ []) legal_more (ap (λ (z : State V O R T). object_of z.live id) (joined ∙ one) ∙ found) in
          record {
            legal = (may, subst (λ z. IsLegal kind z es) joined rest.legal);
            lands =
                subst (λ z. state_after kind z es ≡ settled id ticket w next z) joined rest.lands
                ∙ ap (λ z. settled id ticket w next z) one ∙ settled_again id ticket u x op task v w next s o at;
            stops = rest.stops;
          }

      named :
          (i t : ℕ) (e event : Event R) (next : Next O T R) (es : List (Entry V O R T)) → i ≡ id → t ≡ ticket → e ≡ event
          → Resume id ticket event next ∷ es ≡ Resume i t e next ∷ es
      named i t e event next es ii ti ei =
          ap (λ a. Resume a ticket event next ∷ es) (sym ii) ∙ ap (λ b. Resume i b event next ∷ es) (sym ti) ∙ ap (λ z. Resume i t z next ∷ es) (sym ei)

      pub runs_land :
          (es log : List (Entry V O R T)) (v : V) (task : T) (event : Event R) (w : V) (next : Next O T R) (o : Object V T) (wk : Work T) (ws : List (Work T))
          → IsLegal kind opening log → object_of (state_after kind opening log).live id ≡ Some o → o.works ≡ wk ∷ ws → v ≡ o.value → task ≡ wk.task
          → wk.ticket ≡ ticket → IsAwaited opening.setup wk.awaits event → Continues kind number held id ticket v task event es w next
          → Lands log es w next
      runs_land [] log v task event w next o wk ws legal at works val tk tick awaits c = absurd c
      runs_land (By _ _ _ _ ∷ es) log v task event w next o wk ws legal at works val tk tick awaits c = absurd c
      runs_land (Sent _ _ ∷ es) log v task event w next o wk ws legal at works val tk tick awaits c = absurd c
      runs_land (Resume i t e (Done r) ∷ es) log v task event w next o wk ws legal at works val tk tick awaits (ii, ti, ei, lawful, none, is) =
          let same : Resume id ticket event (Done r) ∷ [] ≡ Resume i t e (Done r) ∷ es =
          named i t e event (Done r) [] ii ti ei ∙ ap (λ l. Resume i t e (Done r) ∷ l) (sym none) in
          let law : IsResume kind o.value wk.task event w (Done r) = subst (λ y. IsResume kind y wk.task event w (Done r)) val (subst (λ y. IsResume kind v y event w (Done r)) tk lawful) in
          subst (λ l. Lands log l w next) same
          (subst (λ n. Lands log (Resume id ticket event (Done r) ∷ []) w n) (sym is) (lands_one log o wk ws event w (Done r) legal at works tick awaits law tt))
      runs_land (Resume i t e (Ask u x op more) ∷ es) log v task event w next o wk ws legal at works val tk tick awaits (between, ii, ti, ei, lawful, goes) =
          let law : IsResume kind o.value wk.task event between (Ask u x op more) =
          subst (λ y. IsResume kind y wk.task event between (Ask u x op more)) val (subst (λ y. IsResume kind v y event between (Ask u x op more)) tk lawful) in
          let then : Work T = record wk { task = more; awaits = AskOf u x } in
          let on : (gone between (ask_next R u x op more) o).works ≡ then ∷ ws = ap (λ l. works_resumed l (ask_next R u x op more)) works in
          subst (λ l. Lands log l w next) (named i t e event (Ask u x op more) es ii ti ei)
          (elim goes [
            | inl last ↦
                let above : StopsAbove opening.setup (ask_next R u x op more) =
                let hold = holds u in let lt = last.3.0 in let in_range = last.3.1 in (omega (arith, lt, own), omega (arith, hold, in_range)) in
                let one = lands_one log o wk ws event between (Ask u x op more) legal at works tick awaits law above in
                subst (λ l. Lands log (Resume id ticket event (Ask u x op more) ∷ l) w next) (sym last.0)
                (subst (λ n. Lands log (Resume id ticket event (Ask u x op more) ∷ []) w n) (sym last.2)
                (subst (λ y. Lands log (Resume id ticket event (Ask u x op more) ∷ []) y (Ask u x op more)) (sym last.1) one))
            | inr (inl low) ↦
                lands_more log es o wk ws event between w u x op more next legal at works tick awaits law
                (λ longer legal_more found.
                let le = low.0 in
                runs_land es longer between more NotAbove w next (gone between (ask_next R u x op more) o) then ws legal_more found on refl refl tick (omega (arith, le, own)) low.1)
            | inr (inr far) ↦
                lands_more log es o wk ws event between w u x op more next legal at works tick awaits law
                (λ longer legal_more found.
                let lt = far.0 in
                let out = far.1 in
                let hold = holds u in
                runs_land es longer between more NoObject w next (gone between (ask_next R u x op more) o) then ws legal_more found on refl refl tick (omega (arith, lt, own), omega (arith, out, hold)) far.2)
          ])
