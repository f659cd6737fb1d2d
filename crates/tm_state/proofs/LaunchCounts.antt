-- How many launches have not begun.
use Rattle.std.proofs.Common.{◌≡◌, ℕ, ◌+◌, List, [], ◌∷◌, inl, inr, ◌∙◌, ap, arith, eq-eqb, ne_eqb}
use Rattle.std.specs.declared.option.Option.TheVariants.{Some}
use Rattle.std.proofs.lemmas.Bool.{cases_eq}
use Rattle.tm_latch.specs.declared.ticket.Ticket.{Ticket}
use Rattle.tm_latch.specs.Tickets.{first_of, with_first, without_first}
use Rattle.tm_model.specs.State.{Start}
use Rattle.tm_state.specs.Launches.{Pending, to_begin, one_to_begin}

module _ {T : Type 0} where
  -- one less has not begun, once one has
  pub on_fewer :
      (id : ℕ) (k : Pending T) (launched : List (Ticket (Pending T))) (t : Ticket (Pending T)) → first_of id launched ≡ Some t → t.task.awaits ≡ Start
      → one_to_begin k.awaits ≡ 0 → to_begin (with_first id k launched) + 1 ≡ to_begin launched
  unfolding with_first
  on_fewer id k [] t first start begun = absurd cc
  on_fewer id k (u ∷ launched) t first start begun =
      elim (cases_eq u.id id) [
        | inl here ↦
            let f = rw (eq-eqb u.id id here) at first in
            let same : u ≡ t = cc in
            let was : one_to_begin u.task.awaits ≡ 1 = ap (λ (x : Ticket (Pending T)). one_to_begin x.task.awaits) same ∙ ap one_to_begin start in
            rw (eq-eqb u.id id here) (omega (arith, was, begun))
        | inr ne ↦
            let more = on_fewer id k launched t (rw (ne_eqb u.id id ne) at first) start begun in
            rw (ne_eqb u.id id ne) (omega (arith, more))
      ]

  pub end_fewer :
      (id : ℕ) (launched : List (Ticket (Pending T))) (t : Ticket (Pending T)) → first_of id launched ≡ Some t → t.task.awaits ≡ Start
      → to_begin (without_first id launched) + 1 ≡ to_begin launched
  unfolding without_first
  end_fewer id [] t first start = absurd cc
  end_fewer id (u ∷ launched) t first start =
      elim (cases_eq u.id id) [
        | inl here ↦
            let f = rw (eq-eqb u.id id here) at first in
            let same : u ≡ t = cc in
            let was : one_to_begin u.task.awaits ≡ 1 = ap (λ (x : Ticket (Pending T)). one_to_begin x.task.awaits) same ∙ ap one_to_begin start in
            rw (eq-eqb u.id id here) (omega (arith, was))
        | inr ne ↦
            let more = end_fewer id launched t (rw (ne_eqb u.id id ne) at first) start in
            rw (ne_eqb u.id id ne) (omega (arith, more))
      ]
