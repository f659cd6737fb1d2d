-- Turns of a trustee, one after another.
use Rattle.std.proofs.Common.{◌≡◌, ◌≢◌, ℕ, zero, suc, List, [], ◌++◌, refl, sym, ◌∙◌, ap, subst, append_assoc, append-nil}
use Rattle.std.specs.Prelude.{slice_get}
use Rattle.std.specs.declared.option.Option.TheVariants.{Some}
use Rattle.tm_seq.specs.Kind.{Kind}
use Rattle.tm_pair.specs.Theory.{Theory}
use Rattle.tm_model.specs.Lists.{IsPrefix}
use Rattle.tm_trustee.specs.Serving.{ups_of}
use Rattle.tm_trustee.specs.Tables.{IsReady}
use Rattle.tm_trustee.specs.Turn.{HasEnded, Tells}
use Rattle.tm_trustee.proofs.TurningReady.{own_table}
use Rattle.tm_trustee.specs.declared.served.Served.{Served}
use Rattle.tm_trustee.specs.declared.served.Served.TheVariants.{Ended}
use Rattle.tm_trustee.specs.declared.trustee.Trustee.{Trustee}
use Rattle.tm_runtime.specs.Serving.{TurnsOnce, TurnsOn}

module _ {V O R T Table Client Owner : Type 0} (theory : Theory V O R T Table Client Owner) (kind : Kind V O R T) where
  pub turns_none : (tables : List Table) (t : Trustee V Table O R T Client Owner) → TurnsOn theory kind 0 tables t tables t
  unfolding TurnsOn
  turns_none tables t = (refl, refl)

  pub turns_more : (n : ℕ) (served : Served) (tables between tables_new : List Table) (t mid u : Trustee V Table O R T Client Owner) → TurnsOn theory kind n tables t between mid
      → TurnsOnce theory kind served between tables_new mid u → served ≢ Ended → TurnsOn theory kind (suc n) tables t tables_new u
  unfolding TurnsOn
  turns_more n served tables between tables_new t mid u on once ne = (between, mid, served, on, once, ne)

  -- a front of a front is one
  pub front_of_itself : {X : Type 0} (xs : List X) → IsPrefix xs xs
  front_of_itself xs = ([], sym (append-nil xs))

  pub front_on : {X : Type 0} (xs ys zs : List X) → IsPrefix xs ys → IsPrefix ys zs → IsPrefix xs zs
  front_on xs ys zs (more, e) (last, f) = (more ++ last, f ∙ ap (λ l. l ++ last) e ∙ append_assoc xs more last)

  module _ (served : Served) (tables tables_new : List Table) (t u : Trustee V Table O R T Client Owner) (once : TurnsOnce theory kind served tables tables_new t u)
      (ready : IsReady theory kind tables t) (ready_new : IsReady theory kind tables_new u) where
    -- its table after the turn
    now_at : (own : Table) × (slice_get tables_new t.number ≡ Some own)
    now_at =
        let (own, at) = own_table theory kind tables_new u ready_new in
        (own, subst (λ n. slice_get tables_new n ≡ Some own) once.parts.number at)

    pub turn_grows : IsPrefix (theory.trustee_view t.side).log (theory.trustee_view u.side).log
    turn_grows =
        let (was, at) = own_table theory kind tables t ready in
        let (now, there) = now_at in (once.turned was now at there).log

    pub turn_ends : served ≡ Ended → (table : Table) → slice_get tables_new u.number ≡ Some table
        → HasEnded (theory.opening table) (theory.trustee_view u.side) (ups_of theory u)
    turn_ends said table at_table =
        let (was, at) = own_table theory kind tables t ready in
        let there = subst (λ n. slice_get tables_new n ≡ Some table) once.parts.number at_table in
        let tells = (once.turned was table at there).tells in
        let ended : HasEnded (theory.opening was) (theory.trustee_view u.side) (ups_of theory u) =
        subst (λ s. Tells s (HasEnded (theory.opening was) (theory.trustee_view u.side) (ups_of theory u)) u.moved) said tells in
        subst (λ o. HasEnded o (theory.trustee_view u.side) (ups_of theory u))
        (sym (once.keeps.openings t.number was table at there)) ended
