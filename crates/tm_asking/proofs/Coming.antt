-- What comes with the answers of a batch: replies to questions, and launches that lack their completion.
use Rattle.std.proofs.Common.{◌≡◌, ◌≢◌, ℕ, ◌≤◌, ◌⊎◌, inl, inr, List, [], ◌∷◌, ◌++◌, length, map, drop, refl, sym, ◌∙◌, ap, subst, arith}
use Rattle.std.specs.List.{AllByRecursion, AllZip, Contains}
use Rattle.std.proofs.lemmas.Bool.{cases_eq}
use Rattle.tm_batch.specs.declared.message.Request.{Request}
use Rattle.tm_batch.specs.declared.message.Request.TheVariants.{Entrust, Apply, Launch, Grant, Release, Reclaim, Bye}
use Rattle.tm_batch.specs.declared.message.Answer.{Answer}
use Rattle.tm_batch.specs.declared.message.Answer.TheVariants.{Replied, Launched, TicketsSpent}
use Rattle.tm_model.specs.declared.entry.Entry.{Entry}
use Rattle.tm_model.specs.Fits.{Fits}
use Rattle.tm_core.proofs.CallerLemmas.{all_weaker}
use Rattle.tm_client.specs.declared.lane.Waiting.{Waiting}
use Rattle.tm_client.specs.declared.answers.Arrival.{Arrival}
use Rattle.tm_client.specs.declared.answers.Came.{Came}
use Rattle.tm_client.specs.declared.answers.Came.TheVariants.{Answered}
use Rattle.tm_client.specs.Launches.{arrival_by, arrivals_of, launches_of}
use Rattle.tm_client.proofs.Moving.{told_or_plain, arrival_plain}
use Rattle.tm_asking.specs.Asking.{HasReply, come_at, IsCome, IsTold}
use Rattle.tm_asking.proofs.Among.{none_among, first_among, later_among, among_cases}
use Rattle.tm_asking.proofs.Taking.{come_here, come_other}

module _ {V O R T : Type 0} where
  pub come_more : (t : ℕ) (xs ys : List (Arrival V ℕ O R T)) → come_at t (xs ++ ys) ≡ come_at t xs ++ come_at t ys
  come_more t [] ys = refl
  come_more t (x ∷ xs) ys =
      elim (cases_eq x.trustee t) [
        | inl e ↦ come_here t x (xs ++ ys) e ∙ ap (λ l. (x.after, x.came) ∷ l) (come_more t xs ys) ∙ ap (λ l. l ++ come_at t ys) (sym (come_here t x xs e))
        | inr ne ↦ come_other t x (xs ++ ys) ne ∙ come_more t xs ys ∙ ap (λ l. l ++ come_at t ys) (sym (come_other t x xs ne))
      ]

  -- what arrived of a trustee came of it
  pub come_among : (t : ℕ) (arrived : List (Arrival V ℕ O R T)) (a : Arrival V ℕ O R T) → Contains arrived a → a.trustee ≡ t → Contains (come_at t arrived) (a.after, a.came)
  come_among t [] a h own = absurd (none_among a h)
  come_among t (x ∷ arrived) a h own =
      elim (among_cases x arrived a h) [
        | inl e ↦
            let same : x.trustee ≡ t = ap (λ y. y.trustee) (sym e) ∙ own in
            subst (λ l. Contains l (a.after, a.came)) (sym (come_here t x arrived same))
            (subst (λ (y : Arrival V ℕ O R T). Contains ((y.after, y.came) ∷ come_at t arrived) (a.after, a.came)) e (first_among (a.after, a.came) (come_at t arrived)))
        | inr later ↦
            let rest = come_among t arrived a later own in
            elim (cases_eq x.trustee t) [
              | inl same ↦
                  subst (λ l. Contains l (a.after, a.came)) (sym (come_here t x arrived same)) (later_among (x.after, x.came) (come_at t arrived) (a.after, a.came) rest)
              | inr ne ↦ subst (λ l. Contains l (a.after, a.came)) (sym (come_other t x arrived ne)) rest
            ]
      ]

  -- ---- with answers

  -- an answer tells a reply, or that there will be one, or that no ticket was left
  abbrev pub IsOutcome : Answer V O R T → Type 0
  IsOutcome (Replied r) = Unit {0}
  IsOutcome (Launched ticket) = Unit {0}
  IsOutcome (TicketsSpent task) = Unit {0}
  IsOutcome _ = ⊥

  one_outcome : (q : Request V O R T) (a : Answer V O R T) → HasReply q → Fits q a → IsOutcome a
  one_outcome (Apply name op) (Replied r) own fits = tt
  one_outcome (Apply name op) _ own fits = absurd fits
  one_outcome (Launch name task) (Launched ticket) own fits = tt
  one_outcome (Launch name task) (TicketsSpent back) own fits = tt
  one_outcome (Launch name task) _ own fits = absurd fits
  one_outcome (Entrust v) a own fits = absurd own
  one_outcome (Grant name d) a own fits = absurd own
  one_outcome (Release name) a own fits = absurd own
  one_outcome (Reclaim name) a own fits = absurd own
  one_outcome Bye a own fits = absurd own

  pub outcomes : (b : List (Request V O R T)) (answers : List (Answer V O R T)) → AllByRecursion HasReply b → AllZip Fits b answers → AllByRecursion IsOutcome answers
  outcomes [] [] own fits = tt
  outcomes [] (a ∷ answers) own fits = absurd fits
  outcomes (q ∷ b) [] own fits = absurd fits
  outcomes (q ∷ b) (a ∷ answers) own fits = (one_outcome q a own.0 fits.0, outcomes b answers own.1 fits.1)

  -- continuations with answers
  abbrev pub paired : List (Waiting ℕ) → List (Answer V O R T) → List (ℕ × Answer V O R T)
  paired [] answers = []
  paired (w ∷ ws) [] = []
  paired (w ∷ ws) (a ∷ answers) = (w.after, a) ∷ paired ws answers

  pub paired_numbers : (ws : List (Waiting ℕ)) (answers : List (Answer V O R T)) → length answers ≤ length ws
      → map (λ c. c.0) (paired ws answers) ++ map (λ w. w.after) (drop (length answers) ws) ≡ map (λ w. w.after) ws
  paired_numbers [] [] le = refl
  paired_numbers [] (a ∷ answers) le = absurd (omega (arith, le))
  paired_numbers (w ∷ ws) [] le = refl
  paired_numbers (w ∷ ws) (a ∷ answers) le = ap (λ l. w.after ∷ l) (paired_numbers ws answers (omega (arith, le)))

  pub paired_answers : (ws : List (Waiting ℕ)) (answers : List (Answer V O R T)) → length answers ≤ length ws → map (λ c. c.1) (paired ws answers) ≡ answers
  paired_answers [] [] le = refl
  paired_answers [] (a ∷ answers) le = absurd (omega (arith, le))
  paired_answers (w ∷ ws) [] le = refl
  paired_answers (w ∷ ws) (a ∷ answers) le = ap (λ l. a ∷ l) (paired_answers ws answers (omega (arith, le)))

  -- what is of some answers with their numbers is of one more
  come_behind : (log : List (Entry V O R T)) (told : List (ℕ × Answer V O R T)) (c : ℕ × Answer V O R T) (xs : List (ℕ × Came V O R T)) → AllByRecursion (IsCome log told) xs
      → AllByRecursion (IsCome log (c ∷ told)) xs
  come_behind log told c xs h =
      all_weaker (IsCome log told) (IsCome log (c ∷ told)) xs (λ x come. (come.0, later_among c told (x.0, come.0) come.1, come.2)) h

  -- what arrives with the answers is of them
  pub arrivals_come :
      (log : List (Entry V O R T)) (t : ℕ) (ws : List (Waiting ℕ)) (answers : List (Answer V O R T)) → AllByRecursion IsOutcome answers
      → AllByRecursion (IsCome log (paired ws answers)) (come_at t (arrivals_of t ws answers))
  arrivals_come log t [] answers own = tt
  arrivals_come log t (w ∷ ws) [] own = tt
  arrivals_come log t (w ∷ ws) (Replied r ∷ answers) own =
      subst (AllByRecursion (IsCome log (paired (w ∷ ws) (Replied r ∷ answers))))
      (sym (come_here t (record { trustee = t; name = w.name; after = w.after; came = Answered (Replied r) }) (arrivals_of t ws answers) refl)) (
        (Replied r, first_among (w.after, Replied r) (paired ws answers), refl),
        come_behind log (paired ws answers) (w.after, Replied r) (come_at t (arrivals_of t ws answers)) (arrivals_come log t ws answers own.1),
      )
  arrivals_come log t (w ∷ ws) (Launched ticket ∷ answers) own =
      come_behind log (paired ws answers) (w.after, Launched ticket) (come_at t (arrivals_of t ws answers)) (arrivals_come log t ws answers own.1)
  arrivals_come log t (w ∷ ws) (TicketsSpent task ∷ answers) own =
      subst (AllByRecursion (IsCome log (paired (w ∷ ws) (TicketsSpent task ∷ answers))))
      (sym (come_here t (record { trustee = t; name = w.name; after = w.after; came = Answered (TicketsSpent task) }) (arrivals_of t ws answers) refl)) (
        (TicketsSpent task, first_among (w.after, TicketsSpent task) (paired ws answers), refl),
        come_behind log (paired ws answers) (w.after, TicketsSpent task) (come_at t (arrivals_of t ws answers)) (arrivals_come log t ws answers own.1),
      )
  arrivals_come log t (w ∷ ws) (_ ∷ answers) own = absurd own.0

  -- and so is what waits for a completion then
  pub launches_told : (ws : List (Waiting ℕ)) (answers : List (Answer V O R T)) → AllByRecursion IsOutcome answers → AllByRecursion (IsTold (paired ws answers)) (launches_of ws answers)
  launches_told [] answers own = tt
  launches_told (w ∷ ws) [] own = tt
  launches_told (w ∷ ws) (Replied r ∷ answers) own =
      all_weaker (IsTold (paired ws answers)) (IsTold ((w.after, Replied r) ∷ paired ws answers)) (launches_of ws answers)
      (λ l h. later_among (w.after, Replied r) (paired ws answers) (l.after, Launched l.ticket) h) (launches_told ws answers own.1)
  launches_told (w ∷ ws) (Launched ticket ∷ answers) own = (
    first_among (w.after, Launched ticket) (paired ws answers),
    all_weaker (IsTold (paired ws answers)) (IsTold ((w.after, Launched ticket) ∷ paired ws answers)) (launches_of ws answers)
        (λ l h. later_among (w.after, Launched ticket) (paired ws answers) (l.after, Launched l.ticket) h) (launches_told ws answers own.1),
  )
  launches_told (w ∷ ws) (TicketsSpent task ∷ answers) own =
      all_weaker (IsTold (paired ws answers)) (IsTold ((w.after, TicketsSpent task) ∷ paired ws answers)) (launches_of ws answers)
      (λ l h. later_among (w.after, TicketsSpent task) (paired ws answers) (l.after, Launched l.ticket) h) (launches_told ws answers own.1)
  launches_told (w ∷ ws) (_ ∷ answers) own = absurd own.0

  -- each continuation arrives with its answer, or waits for a completion then
  abbrev pub Goes : ℕ → List (Waiting ℕ) → List (Answer V O R T) → ℕ × Answer V O R T → Type 0
  Goes t ws answers c = Contains (map (λ x. x.0) (come_at t (arrivals_of t ws answers))) c.0 ⊎ Contains (map (λ l. l.after) (launches_of ws answers)) c.0

  -- with one more in front
  goes_later :
      (t : ℕ) (w : Waiting ℕ) (a : Answer V O R T) (ws : List (Waiting ℕ)) (answers : List (Answer V O R T)) (c : ℕ × Answer V O R T)
      → IsOutcome a → Goes t ws answers c → Goes t (w ∷ ws) (a ∷ answers) c
  goes_later t w (Replied r) ws answers c own (inl comes) =
      inl (subst (λ l. Contains (map (λ x. x.0) l) c.0)
      (sym (come_here t (record { trustee = t; name = w.name; after = w.after; came = Answered (Replied r) }) (arrivals_of t ws answers) refl))
      (later_among w.after (map (λ x. x.0) (come_at t (arrivals_of t ws answers))) c.0 comes))
  goes_later t w (Replied r) ws answers c own (inr waits) = inr waits
  goes_later t w (Launched ticket) ws answers c own (inl comes) = inl comes
  goes_later t w (Launched ticket) ws answers c own (inr waits) = inr (later_among w.after (map (λ l. l.after) (launches_of ws answers)) c.0 waits)
  goes_later t w (TicketsSpent task) ws answers c own (inl comes) =
      inl (subst (λ l. Contains (map (λ x. x.0) l) c.0)
      (sym (come_here t (record { trustee = t; name = w.name; after = w.after; came = Answered (TicketsSpent task) }) (arrivals_of t ws answers) refl))
      (later_among w.after (map (λ x. x.0) (come_at t (arrivals_of t ws answers))) c.0 comes))
  goes_later t w (TicketsSpent task) ws answers c own (inr waits) = inr waits
  goes_later t w _ ws answers c own h = absurd own

  goes_first :
      (t : ℕ) (w : Waiting ℕ) (a : Answer V O R T) (ws : List (Waiting ℕ)) (answers : List (Answer V O R T)) → IsOutcome a → Goes t (w ∷ ws) (a ∷ answers) (w.after, a)
  goes_first t w (Replied r) ws answers own =
      inl (subst (λ l. Contains (map (λ x. x.0) l) w.after)
      (sym (come_here t (record { trustee = t; name = w.name; after = w.after; came = Answered (Replied r) }) (arrivals_of t ws answers) refl))
      (first_among w.after (map (λ x. x.0) (come_at t (arrivals_of t ws answers)))))
  goes_first t w (Launched ticket) ws answers own = inr (first_among w.after (map (λ l. l.after) (launches_of ws answers)))
  goes_first t w (TicketsSpent task) ws answers own =
      inl (subst (λ l. Contains (map (λ x. x.0) l) w.after)
      (sym (come_here t (record { trustee = t; name = w.name; after = w.after; came = Answered (TicketsSpent task) }) (arrivals_of t ws answers) refl))
      (first_among w.after (map (λ x. x.0) (come_at t (arrivals_of t ws answers)))))
  goes_first t w _ ws answers own = absurd own

  pub all_go : (t : ℕ) (ws : List (Waiting ℕ)) (answers : List (Answer V O R T)) → AllByRecursion IsOutcome answers → AllByRecursion (Goes t ws answers) (paired ws answers)
  all_go t [] answers own = tt
  all_go t (w ∷ ws) [] own = tt
  all_go t (w ∷ ws) (a ∷ answers) own = (
    goes_first t w a ws answers own.0,
    all_weaker (Goes t ws answers) (Goes t (w ∷ ws) (a ∷ answers)) (paired ws answers) (λ c h. goes_later t w a ws answers c own.0 h) (all_go t ws answers own.1),
  )

  -- nothing arrives of another trustee
  one_elsewhere : (u t : ℕ) (w : Waiting ℕ) (a : Answer V O R T) → u ≢ t → come_at u (arrival_by t w a) ≡ []
  one_elsewhere u t w a ne = elim (told_or_plain a) [
    | inl (ticket, e) ↦ rw e refl
    | inr plain ↦
        ap (come_at u) (arrival_plain t w a plain)
        ∙ come_other u (record { trustee = t; name = w.name; after = w.after; came = Answered a }) [] (λ e. ne (sym e))
  ]

  pub arrivals_elsewhere : (u t : ℕ) (ws : List (Waiting ℕ)) (answers : List (Answer V O R T)) → u ≢ t → come_at u (arrivals_of t ws answers) ≡ []
  arrivals_elsewhere u t [] answers ne = refl
  arrivals_elsewhere u t (w ∷ ws) [] ne = refl
  arrivals_elsewhere u t (w ∷ ws) (a ∷ answers) ne =
      come_more u (arrival_by t w a) (arrivals_of t ws answers) ∙ ap (λ l. l ++ come_at u (arrivals_of t ws answers)) (one_elsewhere u t w a ne)
      ∙ arrivals_elsewhere u t ws answers ne
