-- A client that was asked one question more.
use Rattle.std.proofs.Common.{◌≡◌, ◌≢◌, ℕ, ◌+◌, ◌<◌, inl, inr, true, false, List, [], ◌∷◌, ◌++◌, length, map, sym, ◌∙◌, ap, subst, arith, append_assoc, append-nil, length-append, length-set}
use Rattle.std.specs.Prelude.{slice_get}
use Rattle.std.specs.List.{AllByRecursion}
use Rattle.std.specs.declared.option.Option.TheVariants.{Some}
use Rattle.std.proofs.lemmas.List.{map-append}
use Rattle.std.proofs.lemmas.Option.{slice_get_within}
use Rattle.tm_model.specs.Holds.{answers_in}
use Rattle.tm_core.proofs.CallerLemmas.{all-append, found_both}
use Rattle.tm_pair.specs.Views.{ClientView}
use Rattle.tm_client.specs.declared.lane.Lane.{Lane}
use Rattle.tm_client.specs.declared.trust.Trust.{Trust}
use Rattle.tm_client.specs.declared.answers.Arrival.{Arrival}
use Rattle.tm_client.specs.declared.books.Books.{Books}
use Rattle.tm_client.specs.Lanes.{name_of, HasAccepted}
use Rattle.tm_client.specs.declared.answers.Why.{Why}
use Rattle.tm_client.specs.declared.answers.Why.TheVariants.{NotHeld, WindowFull, Closed, TrustsFull, NoClient}
use Rattle.tm_client.specs.Asking.{IsFull, ApplyWhy, HasAsked}
use Rattle.tm_client.proofs.Elements.{set_cases}
use Rattle.tm_asking.specs.Questions.{Question, requests_at}
use Rattle.tm_asking.specs.Asking.{numbers_at, untaken_at, HasReply, IsDealt, IsTold, IsAskedAt, IsAsking, MayAskBy}
use Rattle.tm_asking.proofs.Dealing.{requests_here, requests_other, requests_more, numbers_here, numbers_other, numbers_more}
use Rattle.tm_asking.proofs.Sides.{same_side}

module _ {V O R T : Type 0} where
  one_request : (t : ℕ) (qs : List (Question V O R T)) (q : Question V O R T) → q.trustee ≡ t → requests_at t (qs ++ q ∷ []) ≡ requests_at t qs ++ q.request ∷ []
  one_request t qs q e = requests_more t qs (q ∷ []) ∙ ap (λ xs. requests_at t qs ++ xs) (requests_here t q [] e)

  no_request : (t : ℕ) (qs : List (Question V O R T)) (q : Question V O R T) → q.trustee ≢ t → requests_at t (qs ++ q ∷ []) ≡ requests_at t qs
  no_request t qs q ne = requests_more t qs (q ∷ []) ∙ ap (λ xs. requests_at t qs ++ xs) (requests_other t q [] ne) ∙ append-nil (requests_at t qs)

  one_number : (t n : ℕ) (qs : List (Question V O R T)) (q : Question V O R T) → q.trustee ≡ t → n ≡ length qs → numbers_at t 0 (qs ++ q ∷ []) ≡ numbers_at t 0 qs ++ n ∷ []
  one_number t n qs q e is =
      let at : 0 + length qs ≡ n = omega (arith, is) in
      numbers_more t 0 qs (q ∷ []) ∙ ap (λ xs. numbers_at t 0 qs ++ xs) (numbers_here t (0 + length qs) q [] e ∙ ap (λ m. m ∷ []) at)

  no_number : (t : ℕ) (qs : List (Question V O R T)) (q : Question V O R T) → q.trustee ≢ t → numbers_at t 0 (qs ++ q ∷ []) ≡ numbers_at t 0 qs
  no_number t qs q ne =
      numbers_more t 0 qs (q ∷ []) ∙ ap (λ xs. numbers_at t 0 qs ++ xs) (numbers_other t (0 + length qs) q [] ne) ∙ append-nil (numbers_at t 0 qs)

module _ {V O R T D : Type 0} (view : D → ClientView V O R T) (missing : R) where
  asked_here :
      (t n : ℕ) (was : ClientView V O R T) (asked : List (Question V O R T)) (replies : List R) (arrived : List (Arrival V ℕ O R T))
      (lane becomes : Lane V ℕ D O R T) (q : Question V O R T) → IsAskedAt view missing t was asked replies arrived lane
      → HasReply q.request → HasAccepted q.request n lane becomes → q.trustee ≡ t → n ≡ length asked
      → IsAskedAt view missing t was (asked ++ q ∷ []) replies arrived becomes
  asked_here t n was asked replies arrived lane becomes q a own h is many =
      let launched : becomes.launched.items ≡ lane.launched.items = ap (λ l. l.items) h.launched in record {
        side = same_side was (view lane.side) (view becomes.side) (ap view h.side) a.side;
        is_open = h.closing ∙ a.is_open;
        sent =
            ap (λ s. (view s).sent ++ becomes.waits.items) h.side ∙ ap (λ ws. (view lane.side).sent ++ ws) h.waits
            ∙ sym (append_assoc (view lane.side).sent lane.waits.items (q.request ∷ [])) ∙ ap (λ xs. xs ++ q.request ∷ []) a.sent
            ∙ append_assoc was.sent (requests_at t asked) (q.request ∷ []) ∙ ap (λ xs. was.sent ++ xs) (sym (one_request t asked q is));
        waits_reply = subst (λ ws. AllByRecursion HasReply ws) (sym h.waits) (all-append HasReply lane.waits.items (q.request ∷ []) a.waits_reply (own, tt));
        told = a.told;
        numbers =
            ap (λ ws. map (λ c. c.0) a.told ++ map (λ w. w.after) ws) h.afters
            ∙ ap (λ xs. map (λ c. c.0) a.told ++ xs) (map-append (λ w. w.after) lane.afters.items ((record { after = n; name = name_of q.request }) ∷ []))
            ∙ sym (append_assoc (map (λ c. c.0) a.told) (map (λ w. w.after) lane.afters.items) (n ∷ []))
            ∙ ap (λ xs. xs ++ n ∷ []) a.numbers ∙ sym (one_number t n asked q is many);
        got = ap (λ s. answers_in (view s).got) h.side ∙ a.got;
        dealt = subst (λ ls. AllByRecursion (IsDealt missing a.side.grown replies (untaken_at t arrived ls)) a.told) (sym launched) a.dealt;
        come = a.come;
        unfinished = subst (λ ls. AllByRecursion (IsTold a.told) ls) (sym launched) a.unfinished;
      }

  asked_elsewhere :
      (t : ℕ) (was : ClientView V O R T) (asked : List (Question V O R T)) (replies : List R) (arrived : List (Arrival V ℕ O R T))
      (lane : Lane V ℕ D O R T) (q : Question V O R T) → IsAskedAt view missing t was asked replies arrived lane → q.trustee ≢ t
      → IsAskedAt view missing t was (asked ++ q ∷ []) replies arrived lane
  asked_elsewhere t was asked replies arrived lane q a ne = record {
    side = a.side;
    is_open = a.is_open;
    sent = a.sent ∙ ap (λ xs. was.sent ++ xs) (sym (no_request t asked q ne));
    waits_reply = a.waits_reply;
    told = a.told;
    numbers = a.numbers ∙ sym (no_number t asked q ne);
    got = a.got;
    dealt = a.dealt;
    come = a.come;
    unfinished = a.unfinished;
  }

  pub asking_more :
      (n : ℕ) (was : ℕ → ClientView V O R T) (asked : List (Question V O R T)) (replies : List R) (old new : Books V ℕ D O R T) (q : Question V O R T)
      → IsAsking view missing was asked replies old → HasReply q.request → n ≡ length asked → n < length replies → HasAsked q.trustee q.request n 0 old new
      → IsAsking view missing was (asked ++ q ∷ []) replies new
  asking_more n was asked replies old new q is own many room h =
      let as_many : length new.lanes.items ≡ length old.lanes.items = ap length h.lanes ∙ length-set old.lanes.items q.trustee h.becomes in
      let within = slice_get_within old.lanes.items q.trustee h.lane h.of_lane in
      let one = length-append asked (q ∷ []) in record {
        few = omega (arith, one, many, room);
        known = subst (λ k. AllByRecursion (λ p. p.trustee < k) (asked ++ q ∷ [])) (sym as_many)
            (all-append (λ p. p.trustee < length old.lanes.items) asked (q ∷ []) is.known (within, tt));
        lanes = λ t lane e.
            subst (λ xs. IsAskedAt view missing t (was t) (asked ++ q ∷ []) replies xs lane) (sym (ap (λ a. a.items) h.rest.arrived))
            (elim (set_cases old.lanes.items q.trustee t h.becomes lane (subst (λ xs. slice_get xs t ≡ Some lane) h.lanes e)) [
              | inl (same, becomes) ↦
                  subst (λ l. IsAskedAt view missing t (was t) (asked ++ q ∷ []) replies old.arrived.items l) (sym becomes)
                  (asked_here t n (was t) asked replies old.arrived.items h.lane h.becomes q
                  (is.lanes t h.lane (subst (λ k. slice_get old.lanes.items k ≡ Some h.lane) (sym same) h.of_lane)) own h.accepts (sym same) many)
              | inr (other, there) ↦
                  asked_elsewhere t (was t) asked replies old.arrived.items lane q (is.lanes t lane there) (λ same. other (sym same))
            ]);
      }

module _ {V O R T D : Type 0} where
  -- where a client holds a trust whose trustee was not closed, an operation is refused for a full window alone
  pub why_full : (books : Books V ℕ D O R T) (trust : Trust) (why : Why) → MayAskBy books trust → ApplyWhy books trust why → IsFull books trust.trustee
  why_full books trust NotHeld may h = absurd (h may.0)
  why_full books trust Closed may h =
      let (lane, at, closing, still) = found_both (slice_get books.lanes.items trust.trustee) (λ l. l.closing ≡ true) (λ l. l.closing ≡ false) h.1 may.1 in absurd cc
  why_full books trust WindowFull may h = h.2
  why_full books trust TrustsFull may h = absurd h
  why_full books trust NoClient may h = absurd h
