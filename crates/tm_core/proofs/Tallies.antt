-- What is counted of requests and answers (gifts, holds given away and brought, launches, Byes), where lists are joined.
-- Other crates import from this file.
use Rattle.std.proofs.Common.{◌≡◌, ℕ, ◌+◌, ◌≤◌, ◌⊎◌, true, cond, List, [], ◌∷◌, ◌++◌, length, inl, inr, refl, sym, ◌∙◌, ap, arith, append_assoc, add-zero, eq-eqb, ne_eqb}
use Rattle.std.proofs.lemmas.Bool.{cases_eq}
use Rattle.tm_batch.specs.declared.message.Name.{Name}
use Rattle.tm_batch.specs.declared.message.Request.{Request}
use Rattle.tm_batch.specs.declared.message.Request.TheVariants.{Entrust, Apply, Launch, Grant, Release, Reclaim, Bye}
use Rattle.tm_batch.specs.declared.message.Answer.{Answer}
use Rattle.tm_batch.specs.declared.message.Answer.TheVariants.{Entrusted, NotEntrusted, Replied, Launched, TicketsSpent, Granted, Gone, GiftsFull, Released, Reclaimed, Shared, ByeDone}
use Rattle.tm_batch.specs.declared.message.AnswerBatch.{AnswerBatch}
use Rattle.tm_model.specs.State.{State}
use Rattle.tm_model.specs.Holds.{has_bye, launches_in, gave, brought, brought_by, spent_in, Names, answers_in, gifts_in, gifts_of, ended_in, came}

pub gifts_of-append : (id : ℕ) (xs ys : List Name) → gifts_of id (xs ++ ys) ≡ gifts_of id xs + gifts_of id ys
gifts_of-append id [] ys = omega arith
gifts_of-append id (n ∷ xs) ys = let more = gifts_of-append id xs ys in omega (arith, more)

module _ {V O R T : Type 0} where
  pub ended_in-append : (xs ys : List (AnswerBatch V O R T)) → ended_in (xs ++ ys) ≡ ended_in xs + ended_in ys
  ended_in-append [] ys = omega arith
  ended_in-append (a ∷ xs) ys = let more = ended_in-append xs ys in omega (arith, more)

  pub answers_in-append : (xs ys : List (AnswerBatch V O R T)) → answers_in (xs ++ ys) ≡ answers_in xs ++ answers_in ys
  answers_in-append [] ys = refl
  answers_in-append (a ∷ xs) ys =
      ap (λ l. a.answers.items ++ l) (answers_in-append xs ys) ∙ sym (append_assoc a.answers.items (answers_in xs) (answers_in ys))

  pub gifts_in-append : (xs ys : List (AnswerBatch V O R T)) → gifts_in (xs ++ ys) ≡ gifts_in xs ++ gifts_in ys
  gifts_in-append [] ys = refl
  gifts_in-append (a ∷ xs) ys =
      ap (λ l. a.gifts.items ++ l) (gifts_in-append xs ys) ∙ sym (append_assoc a.gifts.items (gifts_in xs) (gifts_in ys))

  -- more answers bring no less
  brought_more : (id : ℕ) (qs : List (Request V O R T)) (xs ys : List (Answer V O R T)) → brought_by id qs xs ≤ brought_by id qs (xs ++ ys)
  brought_more id [] xs ys = omega arith
  brought_more id (q ∷ qs) [] ys = omega arith
  brought_more id (q ∷ qs) (a ∷ xs) ys = let more = brought_more id qs xs ys in omega (arith, more)

  pub came_more :
      (opening : State V O R T) (c : ℕ) (sent : List (Request V O R T)) (got : List (AnswerBatch V O R T)) (a : AnswerBatch V O R T) (id : ℕ)
      → came opening c sent got id ≤ came opening c sent (got ++ a ∷ []) id
  came_more opening c sent got a id =
      let brought = brought_more id sent (answers_in got) (answers_in (a ∷ [])) in
      let gifts = gifts_of-append id (gifts_in got) (gifts_in (a ∷ [])) in
      rw (answers_in-append got (a ∷ []), gifts_in-append got (a ∷ [])) (omega (arith, brought, gifts))

  -- answers to what was sent before bring the same
  brought_same :
      (id : ℕ) (qs b : List (Request V O R T)) (answers : List (Answer V O R T)) → length answers ≤ length qs
      → brought_by id (qs ++ b) answers ≡ brought_by id qs answers
  brought_same id [] [] answers le = refl
  brought_same id [] (q ∷ b) [] le = refl
  brought_same id [] (q ∷ b) (a ∷ answers) le = absurd (omega (arith, le))
  brought_same id (q ∷ qs) b [] le = refl
  brought_same id (q ∷ qs) b (a ∷ answers) le = ap (λ n. brought id q a + n) (brought_same id qs b answers (omega (arith, le)))

  pub came_same :
      (opening : State V O R T) (c : ℕ) (sent b : List (Request V O R T)) (got : List (AnswerBatch V O R T)) (id : ℕ)
      → length (answers_in got) ≤ length sent → came opening c (sent ++ b) got id ≡ came opening c sent got id
  came_same opening c sent b got id le = rw (brought_same id sent b (answers_in got) le) refl

  pub gave-append : (id : ℕ) (xs ys : List (Request V O R T)) → gave id (xs ++ ys) ≡ gave id xs + gave id ys
  gave-append id [] ys = omega arith
  gave-append id (Entrust v ∷ xs) ys = gave-append id xs ys
  gave-append id (Apply n op ∷ xs) ys = gave-append id xs ys
  gave-append id (Launch n task ∷ xs) ys = gave-append id xs ys
  gave-append id (Grant n d ∷ xs) ys = gave-append id xs ys
  gave-append id (Release n ∷ xs) ys = let more = gave-append id xs ys in omega (arith, more)
  gave-append id (Reclaim n ∷ xs) ys = let more = gave-append id xs ys in omega (arith, more)
  gave-append id (Bye ∷ xs) ys = gave-append id xs ys

  pub launches_in-append : (xs ys : List (Request V O R T)) → launches_in (xs ++ ys) ≡ launches_in xs + launches_in ys
  launches_in-append [] ys = omega arith
  launches_in-append (Launch n task ∷ xs) ys = let more = launches_in-append xs ys in omega (arith, more)
  launches_in-append (Entrust v ∷ xs) ys = launches_in-append xs ys
  launches_in-append (Apply n op ∷ xs) ys = launches_in-append xs ys
  launches_in-append (Grant n d ∷ xs) ys = launches_in-append xs ys
  launches_in-append (Release n ∷ xs) ys = launches_in-append xs ys
  launches_in-append (Reclaim n ∷ xs) ys = launches_in-append xs ys
  launches_in-append (Bye ∷ xs) ys = launches_in-append xs ys

  pub spent_in-append : (xs ys : List (Answer V O R T)) → spent_in (xs ++ ys) ≡ spent_in xs + spent_in ys
  spent_in-append [] ys = omega arith
  spent_in-append (TicketsSpent task ∷ xs) ys = let more = spent_in-append xs ys in omega (arith, more)
  spent_in-append (Entrusted name ∷ xs) ys = spent_in-append xs ys
  spent_in-append (NotEntrusted refusal v ∷ xs) ys = spent_in-append xs ys
  spent_in-append (Replied r ∷ xs) ys = spent_in-append xs ys
  spent_in-append (Launched ticket ∷ xs) ys = spent_in-append xs ys
  spent_in-append (Granted ∷ xs) ys = spent_in-append xs ys
  spent_in-append (Gone ∷ xs) ys = spent_in-append xs ys
  spent_in-append (GiftsFull ∷ xs) ys = spent_in-append xs ys
  spent_in-append (Released ∷ xs) ys = spent_in-append xs ys
  spent_in-append (Reclaimed v ∷ xs) ys = spent_in-append xs ys
  spent_in-append (Shared ∷ xs) ys = spent_in-append xs ys
  spent_in-append (ByeDone ∷ xs) ys = spent_in-append xs ys

  -- a Bye among joined requests is one of the first or of the second
  pub bye_in : (xs ys : List (Request V O R T)) → has_bye (xs ++ ys) ≡ true → (has_bye xs ≡ true) ⊎ (has_bye ys ≡ true)
  bye_in [] ys e = inr e
  bye_in (Bye ∷ xs) ys e = inl refl
  bye_in (Entrust v ∷ xs) ys e = bye_in xs ys e
  bye_in (Apply n op ∷ xs) ys e = bye_in xs ys e
  bye_in (Launch n task ∷ xs) ys e = bye_in xs ys e
  bye_in (Grant n d ∷ xs) ys e = bye_in xs ys e
  bye_in (Release n ∷ xs) ys e = bye_in xs ys e
  bye_in (Reclaim n ∷ xs) ys e = bye_in xs ys e

  pub bye_more : (xs ys : List (Request V O R T)) → has_bye xs ≡ true → has_bye (xs ++ ys) ≡ true
  bye_more [] ys e = absurd cc
  bye_more (Bye ∷ xs) ys e = refl
  bye_more (Entrust v ∷ xs) ys e = bye_more xs ys e
  bye_more (Apply n op ∷ xs) ys e = bye_more xs ys e
  bye_more (Launch n task ∷ xs) ys e = bye_more xs ys e
  bye_more (Grant n d ∷ xs) ys e = bye_more xs ys e
  bye_more (Release n ∷ xs) ys e = bye_more xs ys e
  bye_more (Reclaim n ∷ xs) ys e = bye_more xs ys e

  pub bye_at : (xs ys : List (Request V O R T)) → has_bye (xs ++ Bye ∷ ys) ≡ true
  bye_at [] ys = refl
  bye_at (Bye ∷ xs) ys = refl
  bye_at (Entrust v ∷ xs) ys = bye_at xs ys
  bye_at (Apply n op ∷ xs) ys = bye_at xs ys
  bye_at (Launch n task ∷ xs) ys = bye_at xs ys
  bye_at (Grant n d ∷ xs) ys = bye_at xs ys
  bye_at (Release n ∷ xs) ys = bye_at xs ys
  bye_at (Reclaim n ∷ xs) ys = bye_at xs ys

  -- a request gives nothing away of an id, or names it and gives one
  pub one_gave : (id : ℕ) (q : Request V O R T) → (gave id (q ∷ []) ≡ 0) ⊎ ((gave id (q ∷ []) ≡ 1) × Names q id)
  one_gave id (Entrust v) = inl refl
  one_gave id (Apply n op) = inl refl
  one_gave id (Launch n task) = inl refl
  one_gave id (Grant n d) = inl refl
  one_gave id (Release n) =
      elim (cases_eq n.id id) [
        | inl e ↦ inr (ap (λ t. cond t 1 0 + 0) (eq-eqb n.id id e) ∙ add-zero 1, e)
        | inr ne ↦ inl (ap (λ t. cond t 1 0 + 0) (ne_eqb n.id id ne) ∙ add-zero 0)
      ]
  one_gave id (Reclaim n) =
      elim (cases_eq n.id id) [
        | inl e ↦ inr (ap (λ t. cond t 1 0 + 0) (eq-eqb n.id id e) ∙ add-zero 1, e)
        | inr ne ↦ inl (ap (λ t. cond t 1 0 + 0) (ne_eqb n.id id ne) ∙ add-zero 0)
      ]
  one_gave id Bye = inl refl
