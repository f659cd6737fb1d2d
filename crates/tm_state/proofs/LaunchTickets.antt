-- Tickets: the first of an object among all, and what one finds.
use Rattle.std.proofs.Common.{◌≡◌, ◌≢◌, ℕ, ◌+◌, List, [], ◌∷◌, ◌++◌, inl, inr, refl, sym, ◌∙◌, ap, subst, eq-eqb, ne_eqb}
use Rattle.std.specs.Prelude.{IsSome, option_map}
use Rattle.std.specs.List.{AllByRecursion}
use Rattle.std.specs.declared.option.Option.{Option}
use Rattle.std.specs.declared.option.Option.TheVariants.{None, Some}
use Rattle.std.proofs.lemmas.Bool.{cases_eq}
use Rattle.tm_latch.specs.declared.ticket.Ticket.{Ticket}
use Rattle.tm_latch.specs.Tickets.{ticket_for, first_of, tickets_of}
use Rattle.tm_latch.specs.declared.entered.Entered.{Entered}
use Rattle.tm_latch.specs.declared.entered.Entered.TheVariants.{Running, Queued}
use Rattle.tm_latch.proofs.Listed.{first_head, first_none}
use Rattle.tm_core.proofs.CallerLemmas.{option_cases}

module _ {K : Type 0} where
  -- the first launch of an object is the first of its launches
  head_by : (id : ℕ) (ts own : List (Ticket K)) (t : Ticket K) → tickets_of id ts ≡ own → first_of id ts ≡ Some t → (rest : List (Ticket K)) × (own ≡ t ∷ rest)
  head_by id ts [] t is first = absurd (let none = first_none id ts is in let bad : None ≡ Some t = sym none ∙ first in cc)
  head_by id ts (u ∷ rest) t is first =
      let found : Some u ≡ Some t = sym (first_head id ts u rest is) ∙ first in
      let same : u ≡ t = cc in
      (rest, ap (λ x. x ∷ rest) same)

  pub head_of : (id : ℕ) (ts : List (Ticket K)) (t : Ticket K) → first_of id ts ≡ Some t → (rest : List (Ticket K)) × (tickets_of id ts ≡ t ∷ rest)
  head_of id ts t first = head_by id ts (tickets_of id ts) t refl first

  same_by : (id : ℕ) (xs ys own : List (Ticket K)) → tickets_of id xs ≡ own → tickets_of id ys ≡ own → first_of id xs ≡ first_of id ys
  same_by id xs ys [] x y = first_none id xs x ∙ sym (first_none id ys y)
  same_by id xs ys (t ∷ rest) x y = first_head id xs t rest x ∙ sym (first_head id ys t rest y)

  -- who has the same launches of an object has the same first
  pub first_same : (id : ℕ) (xs ys : List (Ticket K)) → tickets_of id xs ≡ tickets_of id ys → first_of id xs ≡ first_of id ys
  first_same id xs ys e = same_by id xs ys (tickets_of id ys) e refl

  pub first_id : (id : ℕ) (ts : List (Ticket K)) (t : Ticket K) → first_of id ts ≡ Some t → t.id ≡ id
  first_id id [] t e = absurd cc
  first_id id (u ∷ ts) t e =
      elim (cases_eq u.id id) [
        | inl here ↦ let f = rw (eq-eqb u.id id here) at e in let same : u ≡ t = cc in ap (λ x. x.id) (sym same) ∙ here
        | inr ne ↦ first_id id ts t (rw (ne_eqb u.id id ne) at e)
      ]

  -- one more behind
  pub append_some : (id : ℕ) (ts : List (Ticket K)) (l t : Ticket K) → first_of id ts ≡ Some t → first_of id (ts ++ l ∷ []) ≡ Some t
  append_some id [] l t e = absurd cc
  append_some id (u ∷ ts) l t e =
      elim (cases_eq u.id id) [
        | inl here ↦ let f = rw (eq-eqb u.id id here) at e in rw (eq-eqb u.id id here) f
        | inr ne ↦ rw (ne_eqb u.id id ne) (append_some id ts l t (rw (ne_eqb u.id id ne) at e))
      ]

  pub append_last : (id : ℕ) (ts : List (Ticket K)) (l : Ticket K) → first_of id ts ≡ None → l.id ≡ id → first_of id (ts ++ l ∷ []) ≡ Some l
  append_last id [] l e own = rw (eq-eqb l.id id own) refl
  append_last id (u ∷ ts) l e own =
      elim (cases_eq u.id id) [
        | inl here ↦ absurd (let f = rw (eq-eqb u.id id here) at e in cc)
        | inr ne ↦ rw (ne_eqb u.id id ne) (append_last id ts l (rw (ne_eqb u.id id ne) at e) own)
      ]

  pub append_none : (id : ℕ) (ts : List (Ticket K)) (l : Ticket K) → first_of id ts ≡ None → l.id ≢ id → first_of id (ts ++ l ∷ []) ≡ None
  append_none id [] l e other = rw (ne_eqb l.id id other) refl
  append_none id (u ∷ ts) l e other =
      elim (cases_eq u.id id) [
        | inl here ↦ absurd (let f = rw (eq-eqb u.id id here) at e in cc)
        | inr ne ↦ rw (ne_eqb u.id id ne) (append_none id ts l (rw (ne_eqb u.id id ne) at e) other)
      ]

  pub none_all : (id : ℕ) (ts : List (Ticket K)) → first_of id ts ≡ None → AllByRecursion (λ t. t.id ≢ id) ts
  none_all id [] e = tt
  none_all id (u ∷ ts) e =
      elim (cases_eq u.id id) [
        | inl here ↦ absurd (let f = rw (eq-eqb u.id id here) at e in cc)
        | inr ne ↦ (ne, none_all id ts (rw (ne_eqb u.id id ne) at e))
      ]

-- what a ticket found, by whether a ticket runs
pub is_running :
    {X K : Type 0} (o : Option X) (r : Entered K) (task back : K) → (o ≡ None → r ≡ Running task) → (IsSome o → r ≡ Queued) → r ≡ Running back
    → (o ≡ None) × (back ≡ task)
is_running o r task back runs waits is =
    elim (option_cases o) [
      | inl none ↦ let e : Running back ≡ Running task = sym is ∙ runs none in (none, cc)
      | inr some ↦ absurd (let e : Running back ≡ Queued = sym is ∙ waits (subst (λ x. IsSome x) (sym some.1) refl) in cc)
    ]

pub is_waiting :
    {X K : Type 0} (o : Option X) (r : Entered K) (task : K) → (o ≡ None → r ≡ Running task) → r ≡ Queued → IsSome o
is_waiting o r task runs is =
    elim (option_cases o) [
      | inl none ↦ absurd (let e : Queued ≡ Running task = sym is ∙ runs none in cc)
      | inr some ↦ subst (λ x. IsSome x) (sym some.1) refl
    ]

-- the ticket that is handed out
pub next_there :
    {K : Type 0} (o : Option (Ticket K)) (r : Option (ℕ × K)) (n : ℕ) (k : K) → r ≡ option_map (λ t. (t.number, t.task)) o → r ≡ Some (n, k)
    → (l : Ticket K) × (o ≡ Some l) × (l.number ≡ n) × (l.task ≡ k)
next_there {K} o r n k is some =
    elim (option_cases o) [
      | inl none ↦
          absurd (let e : ◌≡◌ {A = Option (ℕ × K)} (Some (n, k)) None = sym some ∙ is ∙ ap (λ x. option_map (λ t. (t.number, t.task)) x) none in cc)
      | inr there ↦
          let l = there.0 in
          let e : ◌≡◌ {A = Option (ℕ × K)} (Some (n, k)) (Some (l.number, l.task)) = sym some ∙ is ∙ ap (λ x. option_map (λ t. (t.number, t.task)) x) there.1 in
          let p : ◌≡◌ {A = ℕ × K} (n, k) (l.number, l.task) = cc in
          (l, there.1, ap (λ (x : ℕ × K). x.0) (sym p), ap (λ (x : ℕ × K). x.1) (sym p))
    ]

pub none_there : {K : Type 0} (o : Option (Ticket K)) (r : Option (ℕ × K)) → r ≡ option_map (λ t. (t.number, t.task)) o → r ≡ None → o ≡ None
none_there {K} o r is none =
    elim (option_cases o) [
      | inl e ↦ e
      | inr there ↦
          absurd (let l = there.0 in let e : ◌≡◌ {A = Option (ℕ × K)} None (Some (l.number, l.task)) = sym none ∙ is ∙ ap (λ x. option_map (λ t. (t.number, t.task)) x) there.1 in cc)
    ]

pub ticket_is : {K : Type 0} (l : Ticket K) (id n : ℕ) (k : K) → l.id ≡ id → l.number ≡ n → l.task ≡ k → ticket_for id n k ≡ l
ticket_is l id n k own number task =
    ap (λ i. ticket_for i n k) (sym own) ∙ ap (λ i. ticket_for l.id i k) (sym number) ∙ ap (λ t. ticket_for l.id l.number t) (sym task)
