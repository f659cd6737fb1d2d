-- How what was asked and replied at one trustee joins.
use Rattle.std.proofs.Common.{◌≡◌, ℕ, suc, ◌+◌, ◌≤◌, true, false, cond, List, [], ◌∷◌, ◌++◌, length, refl, sym, ◌∙◌, ap, subst, arith, append_assoc, append-nil, length-append}
use Rattle.std.specs.Prelude.{◌==◌, Bool}
use Rattle.std.specs.List.{AllZip, Contains}
use Rattle.std.proofs.lemmas.List.{get_or_append_left, get_or-append-add}
use Rattle.tm_batch.specs.declared.message.Request.{Request}
use Rattle.tm_batch.specs.declared.message.Answer.{Answer}
use Rattle.tm_batch.specs.declared.message.Answer.TheVariants.{Entrusted, NotEntrusted, Replied, Launched, TicketsSpent, Granted, Gone, GiftsFull, Released, Reclaimed, Shared, ByeDone}
use Rattle.tm_model.specs.declared.entry.Entry.{Entry}
use Rattle.tm_model.specs.Ran.{mark_of, ran, answered}
use Rattle.tm_core.proofs.AllAnswers.{as_many}
use Rattle.tm_core.proofs.Longer.{answered-append}
use Rattle.tm_core.proofs.Marks.{ran-append}
use Rattle.tm_pair.specs.Views.{ClientView}
use Rattle.tm_client.proofs.Told.{none_left}
use Rattle.tm_asking.specs.Questions.{Question, requests_at, replies_at, HasEnded, IsReplyOf, HasAskedAll, HasAskedSome}
use Rattle.tm_asking.proofs.Dealing.{requests_more}

module _ {A B : Type 0} where
  zip_join : (P : A → B → Type 0) (xs us : List A) (ys bs : List B) → AllZip P xs ys → AllZip P us bs → AllZip P (xs ++ us) (ys ++ bs)
  zip_join P [] us [] bs h k = k
  zip_join P [] us (y ∷ ys) bs h k = absurd h
  zip_join P (x ∷ xs) us [] bs h k = absurd h
  zip_join P (x ∷ xs) us (y ∷ ys) bs h k = (h.0, zip_join P xs us ys bs h.1 k)

  zip_weaker : (P Q : A → B → Type 0) (xs : List A) (ys : List B) → ((x : A) (y : B) → P x y → Q x y) → AllZip P xs ys → AllZip Q xs ys
  zip_weaker P Q [] [] each h = tt
  zip_weaker P Q [] (y ∷ ys) each h = absurd h
  zip_weaker P Q (x ∷ xs) [] each h = absurd h
  zip_weaker P Q (x ∷ xs) (y ∷ ys) each h = (each x y h.0, zip_weaker P Q xs ys each h.1)

  zip_count : (P : A → B → Type 0) (xs : List A) (ys : List B) → AllZip P xs ys → length xs ≡ length ys
  zip_count P [] [] h = refl
  zip_count P [] (y ∷ ys) h = absurd h
  zip_count P (x ∷ xs) [] h = absurd h
  zip_count P (x ∷ xs) (y ∷ ys) h = ap (λ n. suc n) (zip_count P xs ys h.1)

module _ {X : Type 0} where
  in_front : (xs ys : List X) (x : X) → Contains xs x → Contains (xs ++ ys) x
  in_front xs ys x (k, lt, e) = let joined = length-append xs ys in (k, omega (arith, lt, joined), get_or_append_left xs ys x k lt ∙ e)

  behind : (xs ys : List X) (x : X) → Contains ys x → Contains (xs ++ ys) x
  behind xs ys x (k, lt, e) = let joined = length-append xs ys in (length xs + k, omega (arith, lt, joined), get_or-append-add xs ys k x ∙ e)

-- a list that begins another of the same length is that one
same_front : {X : Type 0} (xs rest ys : List X) → ys ≡ xs ++ rest → length ys ≤ length xs → ys ≡ xs
same_front xs rest ys e le =
    let joined = length-append xs rest in
    let many = ap length e in
    e ∙ ap (λ l. xs ++ l) (none_left rest (omega (arith, joined, many, le))) ∙ append-nil xs

cond_both : {R : Type 0} (b : Bool) (r : R) (xs ys : List R) → cond b (r ∷ (xs ++ ys)) (xs ++ ys) ≡ cond b (r ∷ xs) xs ++ ys
cond_both true r xs ys = refl
cond_both false r xs ys = refl

module _ {V O R T : Type 0} where
  pub ended_front : (log more : List (Entry V O R T)) (ticket : ℕ) (r : R) → HasEnded log ticket r → HasEnded (log ++ more) ticket r
  ended_front log more ticket r (id, event, has) = (id, event, in_front log more _ has)

  ended_behind : (log more : List (Entry V O R T)) (ticket : ℕ) (r : R) → HasEnded more ticket r → HasEnded (log ++ more) ticket r
  ended_behind log more ticket r (id, event, has) = (id, event, behind log more _ has)

  pub reply_front : (missing : R) (log more : List (Entry V O R T)) (a : Answer V O R T) (r : R) → IsReplyOf missing log a r → IsReplyOf missing (log ++ more) a r
  reply_front missing log more (Replied reply) r h = h
  reply_front missing log more (Launched ticket) r h = ended_front log more ticket r h
  reply_front missing log more (TicketsSpent task) r h = h
  reply_front missing log more (Entrusted n) r h = absurd h
  reply_front missing log more (NotEntrusted refusal v) r h = absurd h
  reply_front missing log more Granted r h = absurd h
  reply_front missing log more Gone r h = absurd h
  reply_front missing log more GiftsFull r h = absurd h
  reply_front missing log more Released r h = absurd h
  reply_front missing log more (Reclaimed v) r h = absurd h
  reply_front missing log more Shared r h = absurd h
  reply_front missing log more ByeDone r h = absurd h

  reply_behind : (missing : R) (log more : List (Entry V O R T)) (a : Answer V O R T) (r : R) → IsReplyOf missing more a r → IsReplyOf missing (log ++ more) a r
  reply_behind missing log more (Replied reply) r h = h
  reply_behind missing log more (Launched ticket) r h = ended_behind log more ticket r h
  reply_behind missing log more (TicketsSpent task) r h = h
  reply_behind missing log more (Entrusted n) r h = absurd h
  reply_behind missing log more (NotEntrusted refusal v) r h = absurd h
  reply_behind missing log more Granted r h = absurd h
  reply_behind missing log more Gone r h = absurd h
  reply_behind missing log more GiftsFull r h = absurd h
  reply_behind missing log more Released r h = absurd h
  reply_behind missing log more (Reclaimed v) r h = absurd h
  reply_behind missing log more Shared r h = absurd h
  reply_behind missing log more ByeDone r h = absurd h

  replies_join : (missing : R) (log more : List (Entry V O R T)) (xs ys : List (Answer V O R T)) (rs os : List R) → AllZip (IsReplyOf missing log) xs rs
      → AllZip (IsReplyOf missing more) ys os → AllZip (IsReplyOf missing (log ++ more)) (xs ++ ys) (rs ++ os)
  replies_join missing log more xs ys rs os h k =
      zip_join (IsReplyOf missing (log ++ more)) xs ys rs os
      (zip_weaker (IsReplyOf missing log) (IsReplyOf missing (log ++ more)) xs rs (reply_front missing log more) h)
      (zip_weaker (IsReplyOf missing more) (IsReplyOf missing (log ++ more)) ys os (reply_behind missing log more) k)

  module _ (missing : R) (requests more : List (Request V O R T)) (replies others : List R) (was mid now : ClientView V O R T)
      (first : HasAskedAll missing requests replies was mid) where
    module _ (grown : List (Entry V O R T)) (place : now.place ≡ mid.place) (seen : now.seen ≡ mid.seen ++ grown) where
      seen_joined : now.seen ≡ was.seen ++ (first.grown ++ grown)
      seen_joined = seen ∙ ap (λ l. l ++ grown) first.seen ∙ append_assoc was.seen first.grown grown

      ran_joined : ran now.place (first.grown ++ grown) ≡ requests ++ ran now.place grown
      ran_joined = ran-append mark_of now.place first.grown grown ∙ ap (λ l. l ++ ran now.place grown) (ap (λ c. ran c first.grown) place ∙ first.runs)

      answered_joined : answered now.place (first.grown ++ grown) ≡ answered mid.place first.grown ++ answered now.place grown
      answered_joined = answered-append now.place first.grown grown ∙ ap (λ l. l ++ answered now.place grown) (ap (λ c. answered c first.grown) place)

    sent_joined : (asked : List (Request V O R T)) → now.sent ≡ mid.sent ++ asked → now.sent ≡ was.sent ++ (requests ++ asked)
    sent_joined asked sent = sent ∙ ap (λ l. l ++ asked) first.sent ∙ append_assoc was.sent requests asked

    pub all_joined : HasAskedAll missing more others mid now → HasAskedAll missing (requests ++ more) (replies ++ others) was now
    all_joined second = record {
      place = second.place ∙ first.place;
      sent = sent_joined more second.sent;
      grown = first.grown ++ second.grown;
      seen = seen_joined second.grown second.place second.seen;
      runs = ran_joined second.grown second.place second.seen ∙ ap (λ l. requests ++ l) second.runs;
      replied = subst (λ l. AllZip (IsReplyOf missing (first.grown ++ second.grown)) l (replies ++ others)) (sym (answered_joined second.grown second.place second.seen))
          (replies_join missing first.grown second.grown (answered mid.place first.grown) (answered now.place second.grown) replies others first.replied second.replied);
    }

    pub some_joined : HasAskedSome missing more others mid now → HasAskedSome missing (requests ++ more) (replies ++ others) was now
    some_joined second =
        let (unasked, asked_of) = second.first in
        let (unrun, ran_of) = second.runs in
        let (unreplied, answered_of) = second.answered_first in record {
          place = second.place ∙ first.place;
          asked = requests ++ second.asked;
          first = (unasked, ap (λ l. requests ++ l) asked_of ∙ sym (append_assoc requests second.asked unasked));
          sent = sent_joined second.asked second.sent;
          grown = first.grown ++ second.grown;
          seen = seen_joined second.grown second.place second.seen;
          runs = (
            unrun,
            ap (λ l. requests ++ l) ran_of ∙ sym (append_assoc requests (ran now.place second.grown) unrun)
                ∙ ap (λ l. l ++ unrun) (sym (ran_joined second.grown second.place second.seen)),
          );
          answers = answered mid.place first.grown ++ second.answers;
          answered_first = (
            unreplied,
            answered_joined second.grown second.place second.seen ∙ ap (λ l. answered mid.place first.grown ++ l) answered_of
                ∙ sym (append_assoc (answered mid.place first.grown) second.answers unreplied),
          );
          replied = replies_join missing first.grown second.grown (answered mid.place first.grown) second.answers replies others first.replied second.replied;
        }

  pub all_as_some : (missing : R) (requests more : List (Request V O R T)) (replies : List R) (was now : ClientView V O R T)
      → HasAskedAll missing requests replies was now → HasAskedSome missing (requests ++ more) replies was now
  all_as_some missing requests more replies was now all = record {
    place = all.place;
    asked = requests;
    first = (more, refl);
    sent = all.sent;
    grown = all.grown;
    seen = all.seen;
    runs = ([], sym all.runs ∙ sym (append-nil (ran now.place all.grown)));
    answers = answered now.place all.grown;
    answered_first = ([], sym (append-nil (answered now.place all.grown)));
    replied = all.replied;
  }

  pub some_as_all : (missing : R) (requests : List (Request V O R T)) (replies : List R) (was now : ClientView V O R T)
      → HasAskedSome missing requests replies was now → length replies ≡ length requests → HasAskedAll missing requests replies was now
  some_as_all missing requests replies was now some many =
      let (unasked, asked_of) = some.first in
      let (unrun, ran_of) = some.runs in
      let (unreplied, answered_of) = some.answered_first in
      let each = zip_count (IsReplyOf missing some.grown) some.answers replies some.replied in
      let pairs = as_many now.place some.grown in
      let a = ap length asked_of in
      let b = ap length ran_of in
      let d = ap length answered_of in
      let aa = length-append some.asked unasked in
      let bb = length-append (ran now.place some.grown) unrun in
      let dd = length-append some.answers unreplied in
      let all_asked : requests ≡ some.asked = same_front some.asked unasked requests asked_of (omega (arith, many, each, pairs, b, d, bb, dd)) in
      let all_ran : some.asked ≡ ran now.place some.grown =
      same_front (ran now.place some.grown) unrun some.asked ran_of (omega (arith, many, each, pairs, a, d, aa, dd)) in
      let all_answered : answered now.place some.grown ≡ some.answers =
      same_front some.answers unreplied (answered now.place some.grown) answered_of (omega (arith, many, each, pairs, a, b, aa, bb)) in record {
        place = some.place;
        sent = some.sent ∙ ap (λ l. was.sent ++ l) (sym all_asked);
        grown = some.grown;
        seen = some.seen;
        runs = sym all_ran ∙ sym all_asked;
        replied = subst (λ l. AllZip (IsReplyOf missing some.grown) l replies) (sym all_answered) some.replied;
      }

  -- ---- of two lists of questions

  replies_more : (t : ℕ) (qs more : List (Question V O R T)) (rs os : List R) → length rs ≡ length qs
      → replies_at t (qs ++ more) (rs ++ os) ≡ replies_at t qs rs ++ replies_at t more os
  replies_more t [] more [] os e = refl
  replies_more t [] more (r ∷ rs) os e = absurd (omega (arith, e))
  replies_more t (q ∷ qs) more [] os e = absurd (omega (arith, e))
  replies_more t (q ∷ qs) more (r ∷ rs) os e =
      ap (λ l. cond (q.trustee == t) (r ∷ l) l) (replies_more t qs more rs os (omega (arith, e)))
      ∙ cond_both (q.trustee == t) r (replies_at t qs rs) (replies_at t more os)

  cond_count : (b : Bool) (r : R) (q : Request V O R T) (rs : List R) (qs : List (Request V O R T)) → length rs ≡ length qs → length (cond b (r ∷ rs) rs) ≡ length (cond b (q ∷ qs) qs)
  cond_count true r q rs qs e = ap (λ n. suc n) e
  cond_count false r q rs qs e = e

  replies_count : (t : ℕ) (qs : List (Question V O R T)) (rs : List R) → length rs ≡ length qs → length (replies_at t qs rs) ≡ length (requests_at t qs)
  replies_count t [] rs e = refl
  replies_count t (q ∷ qs) [] e = absurd (omega (arith, e))
  replies_count t (q ∷ qs) (r ∷ rs) e = cond_count (q.trustee == t) r q.request (replies_at t qs rs) (requests_at t qs) (replies_count t qs rs (omega (arith, e)))

  pub questions_joined : (t : ℕ) (questions more : List (Question V O R T)) (replies others : List R) → length replies ≡ length questions
      → (requests_at t (questions ++ more) ≡ requests_at t questions ++ requests_at t more)
      × (replies_at t (questions ++ more) (replies ++ others) ≡ replies_at t questions replies ++ replies_at t more others)
      × (length (replies_at t questions replies) ≡ length (requests_at t questions))
  questions_joined t questions more replies others e =
      (requests_more t questions more, replies_more t questions more replies others e, replies_count t questions replies e)
