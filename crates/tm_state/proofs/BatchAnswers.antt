-- A batch that is run and answered: the log may grow by it.
use Rattle.std.proofs.Common.{◌≡◌, ℕ, ◌+◌, ◌-◌, ◌^◌, min, List, [], ◌∷◌, ◌++◌, length, take, refl, sym, ◌∙◌, ap, subst, arith, append_assoc, length-append}
use Rattle.tm_seq.specs.Kind.{Kind}
use Rattle.tm_batch.specs.declared.message.Request.{Request}
use Rattle.tm_batch.specs.declared.message.Answer.{Answer}
use Rattle.tm_batch.specs.declared.message.AnswerBatch.{AnswerBatch}
use Rattle.tm_model.specs.declared.entry.Entry.{Entry}
use Rattle.tm_model.specs.declared.entry.Entry.TheVariants.{Sent}
use Rattle.tm_model.specs.State.{State, place_of}
use Rattle.tm_model.specs.Serve.{state_after}
use Rattle.tm_model.specs.Legal.{IsLegal}
use Rattle.tm_model.specs.Lists.{EndsIn}
use Rattle.tm_model.specs.Ran.{ran, waiting_after}
use Rattle.tm_model.specs.Batches.{leaving, batches_from, batches}
use Rattle.tm_model.specs.Entries.{entries_by, added}
use Rattle.tm_core.proofs.AllAnswers.{batches_have_all_answers}
use Rattle.tm_core.proofs.Joins.{batches_join, own_batch, state-append}
use Rattle.tm_state.specs.StateView.{StateView}
use Rattle.tm_state.specs.Represents.{Represents}
use Rattle.tm_state.specs.Asking.{HasRunAll, MayLeave, HasLeft, IsAnswerable, HasAnswered}

module _ {V O R T : Type 0} where
  pub length-entries :
      (c k : ℕ) (b : List (Request V O R T)) (answers : List (Answer V O R T)) → length answers ≡ length b
      → length (entries_by c k b answers) ≡ length b
  length-entries c k [] answers e = refl
  length-entries c k (q ∷ b) [] e = absurd cc
  length-entries c k (q ∷ b) (a ∷ answers) e = let more = length-entries c (k + 1) b answers (omega (arith, e)) in omega (arith, more)

  -- what leaves for a place is the answer batch of the same parts
  leaving_is :
      (c room n : ℕ) (answers : List (Answer V O R T)) (s : State V O R T) (a : AnswerBatch V O R T)
      → a.front ≡ min n (2 ^ 64 - 1) → a.answers.items ≡ answers → a.gifts.items ≡ take room (place_of s c).gifts
      → a.completions.items ≡ take 16 (place_of s c).ready → leaving c room n answers s ≡ a
  leaving_is c room n answers s a front same gifts completions =
      ap (λ m. record { front = m; answers = record { items = answers }; gifts = record { items = take room (place_of s c).gifts }; completions = record { items = take 16 (place_of s c).ready } }) (sym front)
      ∙ ap (λ l. record { front = a.front; answers = record { items = l }; gifts = record { items = take room (place_of s c).gifts }; completions = record { items = take 16 (place_of s c).ready } }) (sym same)
      ∙ ap (λ l. record { front = a.front; answers = a.answers; gifts = record { items = l }; completions = record { items = take 16 (place_of s c).ready } }) (sym gifts)
      ∙ ap (λ l. record { front = a.front; answers = a.answers; gifts = a.gifts; completions = record { items = l } }) (sym completions)

  module _ (kind : Kind V O R T) where
    -- what a batch lets leave behind a log whose answers to the place have left
    one_leaves :
        (opening : State V O R T) (log : List (Entry V O R T)) (c : ℕ) (b : List (Request V O R T)) (room : ℕ) (answers : List (Answer V O R T))
        → length answers ≡ length b → waiting_after c [] log ≡ []
        → batches kind opening c (log ++ added log [] c b room answers)
        ≡ batches kind opening c log
        ++ leaving c room (length log + length b + 1) answers (state_after kind opening (log ++ entries_by c (length (ran c log)) b answers)) ∷ []
    one_leaves opening log c b room answers many none =
        let es = entries_by c (length (ran c log)) b answers in
        let s = state_after kind opening log in
        batches_join kind opening log (added log [] c b room answers) c
        ∙ ap (λ l. batches kind opening c log ++ l)
        (ap (λ w. batches_from kind c (length log) w s (es ++ Sent c room ∷ [])) none
        ∙ own_batch kind c (length log) (length (ran c log)) [] s b answers room many
        ∙ ap (λ t. leaving c room (length log + length b + 1) answers t ∷ []) (sym (state-append kind opening log es)))

    pub may_leave :
        (c : ℕ) (b : List (Request V O R T)) (answers : List (Answer V O R T)) (old mid : StateView V O R T) → IsAnswerable kind c b old
        → HasRunAll kind c b answers old mid → MayLeave kind c mid
    may_leave c b answers old mid (opening, log, may) run =
        (opening, log ++ entries_by c (length (ran c log)) b answers, (run opening log may).1, may.in_range)

    pub has_answered :
        (c : ℕ) (b : List (Request V O R T)) (room given : ℕ) (answers : List (Answer V O R T)) (a : AnswerBatch V O R T) (old mid new : StateView V O R T)
        → given ≡ room → HasRunAll kind c b answers old mid → HasLeft kind c given a mid new → a.answers.items ≡ answers
        → HasAnswered kind c b room a old new
    has_answered c b room given answers a old mid new is_room run left same opening log may =
        let es = entries_by c (length (ran c log)) b answers in
        let (many, stands) = run opening log may in
        let (gifts, completions, front, after) = subst (λ r. HasLeft kind c r a mid new) is_room left opening (log ++ es) stands may.in_range in
        let s = state_after kind opening (log ++ es) in
        let none : waiting_after c [] log ≡ [] = (batches_have_all_answers kind opening log c).2 may.settled in
        let count = length-entries c (length (ran c log)) b answers many in
        let joined = length-append log es in
        let at : min (length (log ++ es) + 1) (2 ^ 64 - 1) ≡ min (length log + length b + 1) (2 ^ 64 - 1) = ap (λ n. min n (2 ^ 64 - 1)) (omega (arith, joined, count)) in
        let all : log ++ added log [] c b room answers ≡ (log ++ es) ++ Sent c room ∷ [] = sym (append_assoc log es (Sent c room ∷ [])) in
        let grown : Represents kind opening (log ++ added log [] c b room answers) new = subst (λ l. Represents kind opening l new) (sym all) after in
        let is = leaving_is c room (length log + length b + 1) answers s a (front ∙ at) same gifts completions in
        let leaves = one_leaves opening log c b room answers many none ∙ ap (λ x. batches kind opening c log ++ x ∷ []) is in (
          record {
            only = tt;
            as_many = ap (λ l. length l) same ∙ many;
            is_legal = subst (λ l. IsLegal kind opening (log ++ added log [] c b room l)) (sym same) grown.is_legal;
            last = subst (λ l. EndsIn (batches kind opening c (log ++ added log [] c b room l)) a) (sym same) (batches kind opening c log, leaves);
          },
          subst (λ l. Represents kind opening (log ++ added log [] c b room l) new) (sym same) grown,
        )
