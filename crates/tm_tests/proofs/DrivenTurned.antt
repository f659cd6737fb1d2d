-- Sides stay seated, and the other trustees ready for a turn, through a turn of a trustee.
use Rattle.std.proofs.Common.{◌≡◌, ◌≢◌, ℕ, ◌+◌, inl, inr, List, sym, ◌∙◌, subst, arith}
use Rattle.std.proofs.lemmas.Bool.{cases_order}
use Rattle.std.specs.Prelude.{slice_get}
use Rattle.std.specs.declared.option.Option.TheVariants.{Some}
use Rattle.tm_seq.specs.Counting.{counter_kind}
use Rattle.tm_seq.specs.declared.counter.Counter.{Counter}
use Rattle.tm_seq.specs.declared.counter.CounterOp.{CounterOp}
use Rattle.tm_seq.specs.declared.counter.CounterReply.{CounterReply}
use Rattle.tm_seq.specs.declared.counter.CounterTask.{CounterTask}
use Rattle.tm_pair.specs.Theory.{Theory}
use Rattle.tm_trustee.specs.Tables.{IsReady, KeepsTables}
use Rattle.tm_trustee.specs.Turn.{KeepsParts}
use Rattle.tm_tests.specs.Driving.{counting, IsSeated, IsDriven, KeepsOthers}
use Rattle.tm_trustee.proofs.Elements.{same_element}
use Rattle.tm_tests.proofs.DrivenKept.{still_of, still_driven}
use Rattle.tm_trustee.specs.declared.trustee.Trustee.{Trustee}

module _ {Table Client Owner : Type 0} (theory : Theory Counter CounterOp CounterReply CounterTask Table Client Owner) where
  -- a turn of trustee n leaves it ready
  pub turn_driven :
      (old new : List Table) (n : ℕ) (t u : Trustee Counter Table CounterOp CounterReply CounterTask Client Owner) → IsDriven theory old n t
      → IsReady theory counter_kind new u → KeepsParts t u → IsDriven theory new n u
  turn_driven old new n t u driven ready parts =
      record { ready = ready; number = parts.number ∙ driven.number; clients = parts.clients ∙ driven.clients }

  -- and the sides of its own table
  pub turn_keeps :
      (old new : List Table) (n : ℕ) (t : Trustee Counter Table CounterOp CounterReply CounterTask Client Owner) → IsDriven theory old n t
      → KeepsTables theory old new t.number (t.clients + t.number) → (other : Client) → IsSeated theory old n other → IsSeated theory new n other
  turn_keeps old new n t driven keeps other seated =
      let is = driven.number in
      still_of theory theory.HasClient (counting n) old new n other keeps.as_many keeps.openings
      (λ x y ex ey.
      keeps.clients_here x y (subst (λ k. slice_get old k ≡ Some x) (sym is) ex) (subst (λ k. slice_get new k ≡ Some y) (sym is) ey) other)
      seated

  -- a table's owner of number k stays its owner through a turn of another trustee n
  owner_keeps :
      (old new : List Table) (n k : ℕ) (was now : Table) (other : Owner) → KeepsTables theory old new n (1 + n)
      → k ≢ n → slice_get old k ≡ Some was → slice_get new k ≡ Some now → theory.HasTrustee was other → theory.HasTrustee now other
  owner_keeps old new n k was now other keeps ne at e has =
      elim (cases_order k n) [
        | inl same ↦ absurd (ne same)
        | inr (inl lt) ↦ subst (λ x. theory.HasTrustee x other) (sym (same_element old k was now at (sym (keeps.lower k lt) ∙ e))) has
        | inr (inr lt) ↦ (keeps.others_above k was now lt at e).trustee other has
      ]

  -- a side of another place than the one that trustee n has above stays one of its table's through a turn of trustee n
  seat_keeps :
      (old new : List Table) (n k : ℕ) (was now : Table) (other : Client) → KeepsTables theory old new n (1 + n)
      → (theory.client_view other).place ≢ 1 + n → slice_get old k ≡ Some was → slice_get new k ≡ Some now → theory.HasClient was other → theory.HasClient now other
  seat_keeps old new n k was now other keeps ne at e has =
      elim (cases_order k n) [
        | inl is ↦
            keeps.clients_here was now (subst (λ m. slice_get old m ≡ Some was) is at) (subst (λ m. slice_get new m ≡ Some now) is e) other has
        | inr (inl lt) ↦ subst (λ x. theory.HasClient x other) (sym (same_element old k was now at (sym (keeps.lower k lt) ∙ e))) has
        | inr (inr lt) ↦ (keeps.others_above k was now lt at e).clients other ne has
      ]

  -- a turn of trustee n leaves the sides of other places than its own above, and the other trustees
  pub turn_keeps_others :
      (old new : List Table) (n : ℕ) (t : Trustee Counter Table CounterOp CounterReply CounterTask Client Owner) → IsDriven theory old n t
      → KeepsTables theory old new t.number (t.clients + t.number) → KeepsOthers theory old new (1 + n)
  turn_keeps_others old new n t driven kept =
      let keeps : KeepsTables theory old new n (1 + n) =
      subst (λ m. KeepsTables theory old new m (1 + m)) driven.number
      (subst (λ c. KeepsTables theory old new t.number (c + t.number)) driven.clients kept) in
      record {
        sides = λ m other ne seated.
            still_of theory theory.HasClient (counting m) old new m other keeps.as_many keeps.openings
            (λ x y ex ey. seat_keeps old new n m x y other keeps ne ex ey) seated;
        trustees = λ m u ne its.
            still_driven theory old new m u keeps.as_many keeps.openings
            (λ k x y is ex ey. owner_keeps old new n k x y u.side keeps (λ same. ne (omega (arith, is, same))) ex ey)
            (λ i x y seat ex ey up. seat_keeps old new n i x y seat keeps (λ same. ne (omega (arith, up, same))) ex ey)
            its;
      }
