-- Each answer batch left by the last entry of a front of the log, and the tickets of its completions were given out by then.
use Rattle.std.proofs.Common.{◌≡◌, ◌≢◌, ℕ, ◌+◌, ◌-◌, ◌^◌, ◌⊎◌, min, Bool, true, false, ◌||◌, cond, List, [], ◌∷◌, ◌++◌, length, inl, inr, refl, sym, ◌∙◌, ap, subst, arith, eq-eqb, ne_eqb, append-nil, append_assoc, zero-add}
use Rattle.std.specs.Prelude.{◌==◌}
use Rattle.std.specs.List.{AllByRecursion, Contains}
use Rattle.std.proofs.lemmas.Bool.{cases_eq}
use Rattle.std.proofs.lemmas.List.Elements.{Contains-append_left, Contains-append_right, Contains-push}
use Rattle.tm_seq.specs.Kind.{Kind}
use Rattle.tm_seq.specs.declared.kind.Next.TheVariants.{Ask, Done}
use Rattle.tm_batch.specs.declared.message.Request.{Request}
use Rattle.tm_batch.specs.declared.message.Request.TheVariants.{Launch}
use Rattle.tm_batch.specs.declared.message.Answer.{Answer}
use Rattle.tm_batch.specs.declared.message.Answer.TheVariants.{Launched}
use Rattle.tm_batch.specs.declared.message.Completion.{Completion}
use Rattle.tm_batch.specs.declared.message.AnswerBatch.{AnswerBatch}
use Rattle.tm_model.specs.declared.entry.Entry.{Entry}
use Rattle.tm_model.specs.declared.entry.Entry.TheVariants.{By, Resume, Sent}
use Rattle.tm_model.specs.State.{State, place_of}
use Rattle.tm_model.specs.Serve.{after, state_after}
use Rattle.tm_model.specs.Legal.{IsLegal}
use Rattle.tm_model.specs.Ran.{mark_of, answered}
use Rattle.tm_model.specs.Batches.{leaving, batches_from, batches}
use Rattle.tm_model.specs.Given.{ended_from, ended_for, completions_in}
use Rattle.tm_model.specs.Holds.{answers_in}
use Rattle.tm_model.specs.ClientLaws.{BatchesLeaveAtFronts, TicketsComeFirst}
use Rattle.tm_core.proofs.AllAnswers.{batches_have_all_answers}
use Rattle.tm_core.proofs.CallerLemmas.{all_weaker}
use Rattle.tm_core.proofs.ClientAnswers.{settled_by_last}
use Rattle.tm_core.proofs.Completing.{ended_by}
use Rattle.tm_core.proofs.EndingOnce.{completions_are_of_launches}
use Rattle.tm_core.proofs.Joins.{legal_logs_join}
use Rattle.tm_core.proofs.Tracing.{is_among, given_after}

none_among : {X : Type 0} (before after : List X) (a : X) → [] ≢ before ++ a ∷ after
none_among [] after a e = cc
none_among (x ∷ before) after a e = cc

module _ {X : Type 0} (P : X → Type 0) where
  all_front : (xs ys : List X) → AllByRecursion P (xs ++ ys) → AllByRecursion P xs
  all_front [] ys h = tt
  all_front (x ∷ xs) ys h = (h.0, all_front xs ys h.1)

  all_behind : (xs ys : List X) → AllByRecursion P (xs ++ ys) → AllByRecursion P ys
  all_behind [] ys h = h
  all_behind (x ∷ xs) ys h = all_behind xs ys h.1

module _ {V O R T : Type 0} (kind : Kind V O R T) (c : ℕ) where
  -- an answer batch left by the last entry of a front, whose length it tells, and what left by that front are the batches up to it
  record LeftAt (n : ℕ) (w : List (Answer V O R T)) (s : State V O R T) (log : List (Entry V O R T)) (before : List (AnswerBatch V O R T))
      (a : AnswerBatch V O R T) : Type 0 where
    front : List (Entry V O R T)
    room : ℕ
    tail : List (Entry V O R T)
    begins : log ≡ (front ++ Sent c room ∷ []) ++ tail
    leaves : batches_from kind c n w s (front ++ Sent c room ∷ []) ≡ before ++ a ∷ []
    tells : a.front ≡ min (n + length (front ++ Sent c room ∷ [])) (2 ^ 64 - 1)

  -- an entry before the front
  left_later :
      (n : ℕ) (w v : List (Answer V O R T)) (s : State V O R T) (e : Entry V O R T) (es : List (Entry V O R T))
      (before more : List (AnswerBatch V O R T)) (a : AnswerBatch V O R T)
      → ((l : List (Entry V O R T)) → batches_from kind c n w s (e ∷ l) ≡ more ++ batches_from kind c (n + 1) v (after kind s e) l)
      → LeftAt (n + 1) v (after kind s e) es before a → LeftAt n w s (e ∷ es) (more ++ before) a
  left_later n w v s e es before more a first later =
      let long : n + 1 + length (later.front ++ Sent c later.room ∷ []) ≡ n + length (e ∷ (later.front ++ Sent c later.room ∷ [])) = omega arith in
      record {
        front = e ∷ later.front;
        room = later.room;
        tail = later.tail;
        begins = ap (λ l. e ∷ l) later.begins;
        leaves = first (later.front ++ Sent c later.room ∷ []) ∙ ap (λ l. more ++ l) later.leaves ∙ sym (append_assoc more before (a ∷ []));
        tells = later.tells ∙ ap (λ m. min m (2 ^ 64 - 1)) long;
      }

  -- at an entry by which a batch of the place leaves: it is that batch, or one behind it
  left_own :
      (n : ℕ) (w : List (Answer V O R T)) (s : State V O R T) (d room : ℕ) (es : List (Entry V O R T)) (before after_it : List (AnswerBatch V O R T))
      (a : AnswerBatch V O R T) → d ≡ c
      → leaving c room (n + 1) w s ∷ batches_from kind c (n + 1) [] (after kind s (Sent d room)) es ≡ before ++ a ∷ after_it
      → ((further : List (AnswerBatch V O R T)) → batches_from kind c (n + 1) [] (after kind s (Sent d room)) es ≡ further ++ a ∷ after_it
      → LeftAt (n + 1) [] (after kind s (Sent d room)) es further a)
      → LeftAt n w s (Sent d room ∷ es) before a
  left_own n w s d room es [] after_it a is e later =
      let own : leaving c room (n + 1) w s ≡ a = cc in
      record {
        front = [];
        room = room;
        tail = es;
        begins = ap (λ x. Sent x room ∷ es) is;
        leaves = rw (eq-eqb c c refl) (ap (λ x. x ∷ []) own);
        tells = ap (λ x. x.front) (sym own);
      }
  left_own n w s d room es (b ∷ before) after_it a is e later =
      let own : leaving c room (n + 1) w s ≡ b = cc in
      let rest : batches_from kind c (n + 1) [] (after kind s (Sent d room)) es ≡ before ++ a ∷ after_it = cc in
      left_later n w [] s (Sent d room) es before (b ∷ []) a
      (λ l. rw (eq-eqb d c is) (ap (λ x. x ∷ batches_from kind c (n + 1) [] (after kind s (Sent d room)) l) own))
      (later before rest)

  left_at :
      (n : ℕ) (w : List (Answer V O R T)) (s : State V O R T) (log : List (Entry V O R T)) (before after_it : List (AnswerBatch V O R T))
      (a : AnswerBatch V O R T) → batches_from kind c n w s log ≡ before ++ a ∷ after_it → LeftAt n w s log before a
  left_at n w s [] before after_it a e = absurd (none_among before after_it a e)
  left_at n w s (By d k q b ∷ es) before after_it a e =
      left_later n w _ s (By d k q b) es before [] a (λ l. refl) (left_at (n + 1) _ _ es before after_it a e)
  left_at n w s (Resume id ticket event next ∷ es) before after_it a e =
      left_later n w w s (Resume id ticket event next) es before [] a (λ l. refl) (left_at (n + 1) w _ es before after_it a e)
  left_at n w s (Sent d room ∷ es) before after_it a e =
      let s' = after kind s (Sent d room) in
      let first = leaving c room (n + 1) w s in
      elim (cases_eq d c) [
        | inl is ↦
            let own : (d == c) ≡ true = eq-eqb d c is in
            left_own n w s d room es before after_it a is
            (ap (λ t. cond t (first ∷ batches_from kind c (n + 1) [] s' es) (batches_from kind c (n + 1) w s' es)) (sym own) ∙ e)
            (λ further at. left_at (n + 1) [] s' es further after_it a at)
        | inr ne ↦
            let other : (d == c) ≡ false = ne_eqb d c ne in
            left_later n w w s (Sent d room) es before [] a
            (λ l. ap (λ t. cond t (first ∷ batches_from kind c (n + 1) [] s' l) (batches_from kind c (n + 1) w s' l)) other)
            (left_at (n + 1) w s' es before after_it a
            (ap (λ t. cond t (first ∷ batches_from kind c (n + 1) [] s' es) (batches_from kind c (n + 1) w s' es)) (sym other) ∙ e))
      ]

module _ {V O R T : Type 0} where
  -- a ticket that was given out to a place by an entry is in its answer
  among_after :
      (c d k t : ℕ) (given : List ℕ) (q : Request V O R T) (a : Answer V O R T) → is_among t (given_after c given (By d k q a)) ≡ true
      → (is_among t given ≡ true) ⊎ ((d ≡ c) × (a ≡ Launched t))
  among_after c d k t given (Launch n task) (Launched ticket) is =
      elim (cases_eq d c) [
        | inl e ↦
            let here : (ticket == t) || is_among t given ≡ true = rw (eq-eqb d c e) at is in
            elim (cases_eq ticket t) [
              | inl same ↦ inr (e, ap (λ m. Launched m) same)
              | inr ne ↦ inl (ap (λ b. b || is_among t given) (sym (ne_eqb ticket t ne)) ∙ here)
            ]
        | inr ne ↦ inl (rw (ne_eqb d c ne) at is)
      ]
  among_after c d k t given _ _ is = inl is

  -- the ticket of a launch that ends was given out before, or is among the answers
  ended_given :
      (c : ℕ) (given : List ℕ) (es : List (Entry V O R T))
      → AllByRecursion (λ x. (is_among x.ticket given ≡ true) ⊎ Contains (answered c es) (Launched x.ticket)) (ended_from c given es)
  ended_given c given [] = tt
  ended_given c given (By d k q a ∷ es) =
      rw (ended_by c d k given q a es)
      (all_weaker _ (λ x. (is_among x.ticket given ≡ true) ⊎ Contains (answered c (By d k q a ∷ es)) (Launched x.ticket))
      (ended_from c (given_after c given (By d k q a)) es)
      (λ x known. elim known [
        | inl before ↦
            elim (among_after c d k x.ticket given q a before) [
              | inl had ↦ inl had
              | inr (e, is) ↦
                  inr (subst (λ t. Contains (cond t (a ∷ answered c es) (answered c es)) (Launched x.ticket)) (sym (eq-eqb d c e))
                  (subst (λ (y : Answer V O R T). Contains (y ∷ answered c es) (Launched x.ticket)) (sym is)
                  (Contains-append_left (Launched x.ticket ∷ []) (answered c es) (Launched x.ticket) (Contains-push [] (Launched x.ticket)))))
            ]
        | inr later ↦
            inr (elim (d == c) as (λ t. Contains (cond t (a ∷ answered c es) (answered c es)) (Launched x.ticket)) [
              | true ↦ Contains-append_right (a ∷ []) (answered c es) (Launched x.ticket) later
              | false ↦ later
            ])
      ])
      (ended_given c (given_after c given (By d k q a)) es))
  ended_given c given (Resume id ticket event (Ask u i op task) ∷ es) = ended_given c given es
  ended_given c given (Resume id ticket event (Done r) ∷ es) =
      let more = ended_given c given es in
      let x : Completion V O R T = record { ticket = ticket; reply = r } in
      let known : (b : Bool) → is_among ticket given ≡ b
      → AllByRecursion (λ x. (is_among x.ticket given ≡ true) ⊎ Contains (answered c es) (Launched x.ticket)) (cond b (x ∷ ended_from c given es) (ended_from c given es)) =
      λ b. elim b as
      (λ b. is_among ticket given ≡ b
      → AllByRecursion (λ x. (is_among x.ticket given ≡ true) ⊎ Contains (answered c es) (Launched x.ticket)) (cond b (x ∷ ended_from c given es) (ended_from c given es))) [
        | true ↦ λ is. (inl is, more)
        | false ↦ λ is. more
      ] in
      known (is_among ticket given) refl
  ended_given c given (Sent d room ∷ es) = ended_given c given es

  -- what holds of all completions holds of the last batch's
  last_completions :
      (P : Completion V O R T → Type 0) (before : List (AnswerBatch V O R T)) (a : AnswerBatch V O R T)
      → AllByRecursion P (completions_in (before ++ a ∷ [])) → AllByRecursion P a.completions.items
  last_completions P [] a h = all_front P a.completions.items [] h
  last_completions P (b ∷ before) a h = last_completions P before a (all_behind P b.completions.items (completions_in (before ++ a ∷ [])) h)

  module _ (kind : Kind V O R T) where
    pub batches_leave_at_fronts : BatchesLeaveAtFronts kind
    batches_leave_at_fronts opening log c before after_it a e =
        let left = left_at kind c 0 [] opening log before after_it a e in
        (left.front, left.room, (left.tail, left.begins), left.leaves, left.tells ∙ ap (λ m. min m (2 ^ 64 - 1)) (zero-add _))

    pub tickets_come_first : TicketsComeFirst kind
    tickets_come_first opening log c before after_it a is legal lt e =
        let left = left_at kind c 0 [] opening log before after_it a e in
        let upto = left.front ++ Sent c left.room ∷ [] in
        let here = ((legal_logs_join kind opening upto left.tail).0 (subst (λ l. IsLegal kind opening l) left.begins legal)).0 in
        let (all, many, none) = batches_have_all_answers kind opening upto c in
        let settled = settled_by_last mark_of c left.room left.front (Sent c left.room) refl in
        let same : answers_in (before ++ a ∷ []) ≡ answered c upto =
        ap answers_in (sym left.leaves) ∙ sym (append-nil _) ∙ ap (λ l. answers_in (batches kind opening c upto) ++ l) (sym (none settled)) ∙ all in
        let (ended, once) = completions_are_of_launches kind opening upto c is here lt in
        let given = all_weaker _ (λ x. Contains (answers_in (before ++ a ∷ [])) (Launched x.ticket)) (ended_for c upto)
        (λ x known. elim known [
          | inl before ↦ absurd (let no : false ≡ true = before in cc)
          | inr later ↦ subst (λ l. Contains l (Launched x.ticket)) (sym same) later
        ]) (ended_given c [] upto) in
        last_completions _ before a
        (all_front _ (completions_in (before ++ a ∷ [])) _
        (subst (λ l. AllByRecursion (λ x. Contains (answers_in (before ++ a ∷ [])) (Launched x.ticket)) l)
        (sym (ap (λ l. completions_in l ++ (place_of (state_after kind opening upto) c).ready) (sym left.leaves) ∙ ended)) given))
