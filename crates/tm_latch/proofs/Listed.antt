-- Lemmas on the tickets of one object among all.
use Rattle.std.proofs.Common.{◌≡◌, ◌≢◌, ℕ, ◌+◌, List, [], ◌∷◌, ◌++◌, length, Some, None, refl, sym, ap, ◌∙◌, inl, inr, arith}
use Rattle.std.specs.Prelude.{◌==◌}
use Rattle.std.proofs.lemmas.Bool.{cases_eq, eq-eqb, ne_eqb}
use Rattle.std.proofs.lemmas.List.{append-nil}
use Rattle.std.proofs.lemmas.List.Elements.{filter-append}
use Rattle.tm_latch.specs.declared.ticket.Ticket.{Ticket}
use Rattle.tm_latch.specs.Tickets.{ticket_for, first_of, tickets_of, with_first, without_first}
use Rattle.tm_latch.specs.Queues.{AreOf}

module _ {K : Type 0} where
  -- the first ticket of an object is the first of its tickets
  pub first_head : (id : ℕ) (ts : List (Ticket K)) (t : Ticket K) (rest : List (Ticket K)) → tickets_of id ts ≡ t ∷ rest → first_of id ts ≡ Some t
  first_head id [] t rest e = absurd (cc)
  first_head id (u ∷ us) t rest e = elim (cases_eq u.id id) [
    | inl same ↦ rw (eq-eqb u.id id same) (let f = rw (eq-eqb u.id id same) at e in let one : u ≡ t = cc in ap (λ (x : Ticket K). Some x) one)
    | inr other ↦ rw (ne_eqb u.id id other) (first_head id us t rest (rw (ne_eqb u.id id other) at e))
  ]

  pub first_none : (id : ℕ) (ts : List (Ticket K)) → tickets_of id ts ≡ [] → first_of id ts ≡ None
  first_none id [] e = refl
  first_none id (u ∷ us) e = elim (cases_eq u.id id) [
    | inl same ↦ let f = rw (eq-eqb u.id id same) at e in absurd (cc)
    | inr other ↦ rw (ne_eqb u.id id other) (first_none id us (rw (ne_eqb u.id id other) at e))
  ]

  -- the tickets of an object are of it
  pub are_of : (id : ℕ) (ts : List (Ticket K)) → AreOf id (tickets_of id ts)
  unfolding AreOf
  are_of id [] = tt
  are_of id (u ∷ us) = elim (cases_eq u.id id) [
    | inl same ↦ rw (eq-eqb u.id id same) (same, are_of id us)
    | inr other ↦ rw (ne_eqb u.id id other) (are_of id us)
  ]

  -- one more ticket stands behind those of its object, and others stay
  pub entered_own : (id n : ℕ) (k : K) (ts : List (Ticket K)) → tickets_of id (ts ++ ticket_for id n k ∷ []) ≡ tickets_of id ts ++ ticket_for id n k ∷ []
  entered_own id n k ts = rw (filter-append (λ (t : Ticket K). t.id == id) ts (ticket_for id n k ∷ []), eq-eqb id id refl) refl

  pub entered_other : (id n : ℕ) (k : K) (ts : List (Ticket K)) (other : ℕ) → other ≢ id → tickets_of other (ts ++ ticket_for id n k ∷ []) ≡ tickets_of other ts
  entered_other id n k ts other differs = rw (filter-append (λ (t : Ticket K). t.id == other) ts (ticket_for id n k ∷ []), ne_eqb id other (λ e. differs (sym e))) (append-nil (tickets_of other ts))

  -- without the first ticket of an object its others are left, and those of other objects stay
  pub left_own : (id : ℕ) (ts : List (Ticket K)) (t : Ticket K) (rest : List (Ticket K)) → tickets_of id ts ≡ t ∷ rest → tickets_of id (without_first id ts) ≡ rest
  unfolding without_first
  left_own id [] t rest e = absurd (cc)
  left_own id (u ∷ us) t rest e = elim (cases_eq u.id id) [
    | inl same ↦ rw (eq-eqb u.id id same) (let f = rw (eq-eqb u.id id same) at e in cc)
    | inr other ↦ rw (ne_eqb u.id id other, ne_eqb u.id id other) (left_own id us t rest (rw (ne_eqb u.id id other) at e))
  ]

  pub left_other : (id : ℕ) (ts : List (Ticket K)) (other : ℕ) → other ≢ id → tickets_of other (without_first id ts) ≡ tickets_of other ts
  unfolding without_first
  left_other id [] other differs = refl
  left_other id (u ∷ us) other differs = elim (cases_eq u.id id) [
    | inl same ↦ rw (eq-eqb u.id id same, ne_eqb u.id other (λ e. differs (sym e ∙ same))) refl
    | inr not_here ↦ elim (cases_eq u.id other) [
      | inl there ↦ rw (ne_eqb u.id id not_here, eq-eqb u.id other there) (ap (λ (l : List (Ticket K)). u ∷ l) (left_other id us other differs))
      | inr not_there ↦ rw (ne_eqb u.id id not_here, ne_eqb u.id other not_there) (left_other id us other differs)
    ]
  ]

  pub left_length : (id : ℕ) (ts : List (Ticket K)) (t : Ticket K) (rest : List (Ticket K)) → tickets_of id ts ≡ t ∷ rest → length (without_first id ts) + 1 ≡ length ts
  unfolding without_first
  left_length id [] t rest e = absurd (cc)
  left_length id (u ∷ us) t rest e = elim (cases_eq u.id id) [
    | inl same ↦ rw (eq-eqb u.id id same) (omega arith)
    | inr other ↦ let more = left_length id us t rest (rw (ne_eqb u.id id other) at e) in rw (ne_eqb u.id id other) (omega (arith, more))
  ]

  -- where the first ticket of an object has another task, its others stay, and so do those of other objects
  pub with_own :
      (id : ℕ) (k : K) (ts : List (Ticket K)) (t : Ticket K) (rest : List (Ticket K)) → tickets_of id ts ≡ t ∷ rest
      → tickets_of id (with_first id k ts) ≡ record t { task = k } ∷ rest
  unfolding with_first
  with_own id k [] t rest e = absurd (cc)
  with_own id k (u ∷ us) t rest e = elim (cases_eq u.id id) [
    | inl same ↦
        let f = rw (eq-eqb u.id id same) at e in
        let head : u ≡ t = cc in
        let tail : tickets_of id us ≡ rest = cc in
        rw (eq-eqb u.id id same, eq-eqb u.id id same) (ap (λ (x : Ticket K). record x { task = k } ∷ tickets_of id us) head ∙ ap (λ (l : List (Ticket K)). record t { task = k } ∷ l) tail)
    | inr other ↦ rw (ne_eqb u.id id other, ne_eqb u.id id other) (with_own id k us t rest (rw (ne_eqb u.id id other) at e))
  ]

  pub with_none : (id : ℕ) (k : K) (ts : List (Ticket K)) → tickets_of id ts ≡ [] → with_first id k ts ≡ ts
  unfolding with_first
  with_none id k [] e = refl
  with_none id k (u ∷ us) e = elim (cases_eq u.id id) [
    | inl same ↦ let f = rw (eq-eqb u.id id same) at e in absurd (cc)
    | inr other ↦ rw (ne_eqb u.id id other) (ap (λ (l : List (Ticket K)). u ∷ l) (with_none id k us (rw (ne_eqb u.id id other) at e)))
  ]

  pub with_other : (id : ℕ) (k : K) (ts : List (Ticket K)) (other : ℕ) → other ≢ id → tickets_of other (with_first id k ts) ≡ tickets_of other ts
  unfolding with_first
  with_other id k [] other differs = refl
  with_other id k (u ∷ us) other differs = elim (cases_eq u.id id) [
    | inl same ↦ rw (eq-eqb u.id id same, ne_eqb u.id other (λ e. differs (sym e ∙ same))) refl
    | inr not_here ↦ elim (cases_eq u.id other) [
      | inl there ↦ rw (ne_eqb u.id id not_here, eq-eqb u.id other there) (ap (λ (l : List (Ticket K)). u ∷ l) (with_other id k us other differs))
      | inr not_there ↦ rw (ne_eqb u.id id not_here, ne_eqb u.id other not_there) (with_other id k us other differs)
    ]
  ]

  pub with_length : (id : ℕ) (k : K) (ts : List (Ticket K)) → length (with_first id k ts) ≡ length ts
  unfolding with_first
  with_length id k [] = refl
  with_length id k (u ∷ us) = elim (cases_eq u.id id) [
    | inl same ↦ rw (eq-eqb u.id id same) refl
    | inr other ↦ rw (ne_eqb u.id id other) (let more = with_length id k us in omega (arith, more))
  ]
