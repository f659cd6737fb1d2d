-- Logs that are joined: the two are legal, their states and what leaves by them go on, and an answer adds one batch of its place.
-- Other crates import from this file.
use Rattle.std.proofs.Common.{◌≡◌, ◌≢◌, ℕ, suc, ◌+◌, Bool, true, false, cond, List, [], ◌∷◌, ◌++◌, length, refl, sym, ◌∙◌, ap, arith, eq-eqb, ne_eqb, append_assoc, append-nil, ◌≤◌, length-take}
use Rattle.std.specs.Prelude.{◌==◌}
use Rattle.tm_seq.specs.Kind.{Kind}
use Rattle.tm_batch.specs.declared.limits.TheConstants.{MOST_COMPLETIONS}
use Rattle.tm_batch.specs.declared.message.Request.{Request}
use Rattle.tm_batch.specs.declared.message.Answer.{Answer}
use Rattle.tm_batch.specs.declared.message.AnswerBatch.{AnswerBatch}
use Rattle.tm_model.specs.declared.entry.Entry.{Entry}
use Rattle.tm_model.specs.declared.entry.Entry.TheVariants.{By, Resume, Sent}
use Rattle.tm_model.specs.State.{State, place_of}
use Rattle.tm_model.specs.Serve.{after, state_after}
use Rattle.tm_model.specs.Legal.{IsLegal}
use Rattle.tm_model.specs.GoodSlots.{Ran, IsBatchOf, AreOfNone}
use Rattle.tm_model.specs.Ran.{mark_of, ran, waiting_after}
use Rattle.tm_model.specs.Batches.{leaving, batches_from, batches}
use Rattle.tm_model.specs.Entries.{entries_by, AreResumes, batch_entries, added}
use Rattle.tm_model.specs.Answering.{MayGrow}
use Rattle.tm_model.specs.Laws.{LegalLogsJoin, GrowingAdds}
use Rattle.tm_model.specs.Leaving.{BatchesJoin}
use Rattle.tm_core.proofs.Lists.{same_last}

module _ {V O R T : Type 0} where
  legal_join :
      (kind : Kind V O R T) (s : State V O R T) (xs ys : List (Entry V O R T))
      → IsLegal kind s xs → IsLegal kind (state_after kind s xs) ys → IsLegal kind s (xs ++ ys)
  legal_join kind s [] ys p q = q
  legal_join kind s (e ∷ xs) ys p q = (p.0, legal_join kind (after kind s e) xs ys p.1 q)

  legal_parts :
      (kind : Kind V O R T) (s : State V O R T) (xs ys : List (Entry V O R T))
      → IsLegal kind s (xs ++ ys) → IsLegal kind s xs × IsLegal kind (state_after kind s xs) ys
  legal_parts kind s [] ys p = (tt, p)
  legal_parts kind s (e ∷ xs) ys p = let more = legal_parts kind (after kind s e) xs ys p.1 in ((p.0, more.0), more.1)

  pub legal_logs_join : (kind : Kind V O R T) → LegalLogsJoin kind
  legal_logs_join kind = λ opening log es. (legal_parts kind opening log es, legal_join kind opening log es)

  pub state-append :
      (kind : Kind V O R T) (s : State V O R T) (xs ys : List (Entry V O R T))
      → state_after kind s (xs ++ ys) ≡ state_after kind (state_after kind s xs) ys
  state-append kind s [] ys = refl
  state-append kind s (e ∷ xs) ys = state-append kind (after kind s e) xs ys

  pub resumes_are_none : (es : List (Entry V O R T)) → AreResumes es → AreOfNone mark_of es
  resumes_are_none [] h = tt
  resumes_are_none (Resume id ticket event next ∷ es) h = (refl, resumes_are_none es h)
  resumes_are_none (By c k q a ∷ es) h = absurd h
  resumes_are_none (Sent c room ∷ es) h = absurd h

  pub entries_are_batch :
      (c k room : ℕ) (b : List (Request V O R T)) (answers : List (Answer V O R T)) → length answers ≡ length b
      → IsBatchOf mark_of c b room (entries_by c k b answers ++ Sent c room ∷ [])
  entries_are_batch c k room [] answers e = refl
  entries_are_batch c k room (q ∷ b) [] e = absurd cc
  entries_are_batch c k room (q ∷ b) (a ∷ answers) e =
      ap (λ l. Ran c q ∷ l) (entries_are_batch c (k + 1) room b answers (omega (arith, e)))

  cond_cons_append :
      (t : Bool) (x : AnswerBatch V O R T) (l m r : List (AnswerBatch V O R T)) → cond t (x ∷ (l ++ r)) (m ++ r) ≡ cond t (x ∷ l) m ++ r
  cond_cons_append true x l m r = refl
  cond_cons_append false x l m r = refl

  module _ (kind : Kind V O R T) (c : ℕ) where
    later :
        (n : ℕ) (w : List (Answer V O R T)) (s : State V O R T) (xs ys : List (Entry V O R T))
        → batches_from kind c (n + 1) w s (xs ++ ys)
        ≡ batches_from kind c (n + 1) w s xs ++ batches_from kind c (n + 1 + length xs) (waiting_after c w xs) (state_after kind s xs) ys
        → batches_from kind c (n + 1) w s (xs ++ ys)
        ≡ batches_from kind c (n + 1) w s xs ++ batches_from kind c (n + suc (length xs)) (waiting_after c w xs) (state_after kind s xs) ys
    later n w s xs ys e =
        e ∙ ap (λ m. batches_from kind c (n + 1) w s xs ++ batches_from kind c m (waiting_after c w xs) (state_after kind s xs) ys) (omega arith)

    pub batches-append :
        (n : ℕ) (w : List (Answer V O R T)) (s : State V O R T) (xs ys : List (Entry V O R T))
        → batches_from kind c n w s (xs ++ ys)
        ≡ batches_from kind c n w s xs ++ batches_from kind c (n + length xs) (waiting_after c w xs) (state_after kind s xs) ys
    batches-append n w s [] ys = ap (λ m. batches_from kind c m w s ys) (omega arith)
    batches-append n w s (By d k q a ∷ xs) ys =
        let v = cond (d == c) (w ++ a ∷ []) w in
        let s' = after kind s (By d k q a) in
        later n v s' xs ys (batches-append (n + 1) v s' xs ys)
    batches-append n w s (Resume id ticket event next ∷ xs) ys =
        let s' = after kind s (Resume id ticket event next) in
        later n w s' xs ys (batches-append (n + 1) w s' xs ys)
    batches-append n w s (Sent d room ∷ xs) ys =
        let s' = after kind s (Sent d room) in
        elim (d == c) as
        (λ t. cond t (leaving c room (n + 1) w s ∷ batches_from kind c (n + 1) [] s' (xs ++ ys)) (batches_from kind c (n + 1) w s' (xs ++ ys))
        ≡ cond t (leaving c room (n + 1) w s ∷ batches_from kind c (n + 1) [] s' xs) (batches_from kind c (n + 1) w s' xs)
        ++ batches_from kind c (n + suc (length xs)) (waiting_after c (cond t [] w) xs) (state_after kind s' xs) ys) [
          | true ↦ ap (λ l. leaving c room (n + 1) w s ∷ l) (later n [] s' xs ys (batches-append (n + 1) [] s' xs ys))
          | false ↦ later n w s' xs ys (batches-append (n + 1) w s' xs ys)
        ]

    -- resumes let nothing leave
    pub quiet_resumes :
        (n : ℕ) (w : List (Answer V O R T)) (s : State V O R T) (xs ys : List (Entry V O R T)) → AreResumes xs
        → batches_from kind c n w s (xs ++ ys) ≡ batches_from kind c (n + length xs) w (state_after kind s xs) ys
    quiet_resumes n w s [] ys h = ap (λ m. batches_from kind c m w s ys) (omega arith)
    quiet_resumes n w s (Resume id ticket event next ∷ xs) ys h =
        let s' = after kind s (Resume id ticket event next) in
        quiet_resumes (n + 1) w s' xs ys h ∙ ap (λ m. batches_from kind c m w (state_after kind s' xs) ys) (omega arith)
    quiet_resumes n w s (By d k q a ∷ xs) ys h = absurd h
    quiet_resumes n w s (Sent d room ∷ xs) ys h = absurd h

    -- one answer batch leaves by a batch of the place
    pub own_batch :
        (n k : ℕ) (w : List (Answer V O R T)) (s : State V O R T) (b : List (Request V O R T)) (answers : List (Answer V O R T)) (room : ℕ)
        → length answers ≡ length b
        → batches_from kind c n w s (entries_by c k b answers ++ Sent c room ∷ [])
        ≡ leaving c room (n + length b + 1) (w ++ answers) (state_after kind s (entries_by c k b answers)) ∷ []
    own_batch n k w s [] [] room e =
        rw (eq-eqb c c refl, append-nil w) (ap (λ m. leaving c room m w s ∷ []) (omega arith))
    own_batch n k w s [] (a ∷ answers) room e = absurd cc
    own_batch n k w s (q ∷ b) [] room e = absurd cc
    own_batch n k w s (q ∷ b) (a ∷ answers) room e =
        let s' = after kind s (By c k q a) in
        let own : cond (c == c) (w ++ a ∷ []) w ≡ w ++ a ∷ [] = ap (λ t. cond t (w ++ a ∷ []) w) (eq-eqb c c refl) in
        ap (λ v. batches_from kind c (n + 1) v s' (entries_by c (k + 1) b answers ++ Sent c room ∷ [])) own
        ∙ own_batch (n + 1) (k + 1) (w ++ a ∷ []) s' b answers room (omega (arith, e))
        ∙ ap (λ v. leaving c room (n + 1 + length b + 1) v (state_after kind s' (entries_by c (k + 1) b answers)) ∷ []) (append_assoc w (a ∷ []) answers)
        ∙ ap (λ m. leaving c room m (w ++ a ∷ answers) (state_after kind s' (entries_by c (k + 1) b answers)) ∷ []) (omega arith)

    -- nothing leaves by a batch of another place
    pub others_batch :
        (n d k : ℕ) (w : List (Answer V O R T)) (s : State V O R T) (b : List (Request V O R T)) (answers : List (Answer V O R T)) (room : ℕ)
        → c ≢ d → batches_from kind c n w s (entries_by d k b answers ++ Sent d room ∷ []) ≡ []
    others_batch n d k w s [] answers room ne = rw (ne_eqb d c (λ e. ne (sym e))) refl
    others_batch n d k w s (q ∷ b) [] room ne = rw (ne_eqb d c (λ e. ne (sym e))) refl
    others_batch n d k w s (q ∷ b) (a ∷ answers) room ne =
        others_batch (n + 1) d (k + 1) (cond (d == c) (w ++ a ∷ []) w) (after kind s (By d k q a)) b answers room ne

  -- one answer batch leaves by a batch, with no more gifts than its room and no more completions than may leave
  added_leaves :
      (kind : Kind V O R T) (opening : State V O R T) (log resumes : List (Entry V O R T)) (c : ℕ) (b : List (Request V O R T)) (room : ℕ)
      (answers : List (Answer V O R T)) → AreResumes resumes → length answers ≡ length b
      → (a : AnswerBatch V O R T)
      × (batches kind opening c (log ++ added log resumes c b room answers) ≡ batches kind opening c log ++ a ∷ [])
      × (length a.gifts.items ≤ room) × (length a.completions.items ≤ MOST_COMPLETIONS)
  added_leaves kind opening log resumes c b room answers only many =
      let s = state_after kind (state_after kind (state_after kind opening log) resumes) (entries_by c (length (ran c log)) b answers) in (
        _,
        batches-append kind c 0 [] opening log (added log resumes c b room answers)
            ∙ ap (λ l. batches kind opening c log ++ l)
            (quiet_resumes kind c (0 + length log) (waiting_after c [] log) (state_after kind opening log) resumes (batch_entries log c b room answers) only
            ∙ own_batch kind c (0 + length log + length resumes) (length (ran c log)) (waiting_after c [] log)
            (state_after kind (state_after kind opening log) resumes) b answers room many),
        rw (length-take room (place_of s c).gifts) (omega arith),
        rw (length-take MOST_COMPLETIONS (place_of s c).ready) (omega arith),
      )

  -- an answer batch has no more gifts than the room, and no more completions than may leave
  pub growing_few :
      (kind : Kind V O R T) (opening : State V O R T) (log resumes : List (Entry V O R T)) (c : ℕ) (b : List (Request V O R T)) (room : ℕ)
      (a : AnswerBatch V O R T) → MayGrow kind opening log resumes c b room a → (length a.gifts.items ≤ room) × (length a.completions.items ≤ MOST_COMPLETIONS)
  growing_few kind opening log resumes c b room a may =
      let (left, leaves, gifts, completions) = added_leaves kind opening log resumes c b room a.answers.items may.only may.as_many in
      let (front, ends) = may.last in
      let same : left ≡ a = same_last (batches kind opening c log) front left a (sym leaves ∙ ends) in
      rw (← same) (gifts, completions)

  pub growing_adds : (kind : Kind V O R T) → GrowingAdds kind
  growing_adds kind opening log resumes c b room a may =
      let answers = a.answers.items in
      let es = added log resumes c b room answers in
      let (left, leaves, gifts, completions) = added_leaves kind opening log resumes c b room answers may.only may.as_many in
      let (front, ends) = may.last in
      let same : left ≡ a = same_last (batches kind opening c log) front left a (sym leaves ∙ ends) in
      record {
        is_legal = may.is_legal;
        grows = (
          resumes,
          batch_entries log c b room answers,
          refl,
          resumes_are_none resumes may.only,
          entries_are_batch c (length (ran c log)) room b answers may.as_many,
        );
        leaves = leaves ∙ ap (λ x. batches kind opening c log ++ x ∷ []) same;
        leaves_other = λ d ne.
            batches-append kind d 0 [] opening log es
            ∙ ap (λ l. batches kind opening d log ++ l)
            (quiet_resumes kind d (0 + length log) (waiting_after d [] log) (state_after kind opening log) resumes (batch_entries log c b room answers)
            may.only
            ∙ others_batch kind d (0 + length log + length resumes) c (length (ran c log)) (waiting_after d [] log)
            (state_after kind (state_after kind opening log) resumes) b answers room ne)
            ∙ append-nil _;
      }

  pub batches_join : (kind : Kind V O R T) → BatchesJoin kind
  batches_join kind = λ opening log es c. batches-append kind c 0 [] opening log es ∙ ap (λ n. batches kind opening c log ++ batches_from kind c n (waiting_after c [] log) (state_after kind opening log) es) (omega arith)
