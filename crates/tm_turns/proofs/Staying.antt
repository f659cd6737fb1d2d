-- What is of a table, and a trustee that is ready for a turn, through calls at other sides. Tests import it.
use Rattle.std.proofs.Common.{◌≡◌, ℕ, ◌+◌, ◌<◌, inl, inr, List, length, sym, ◌∙◌, subst, arith}
use Rattle.std.specs.Prelude.{slice_get, slice_set, IsSomeAnd}
use Rattle.std.specs.declared.option.Option.{Option}
use Rattle.std.specs.declared.option.Option.TheVariants.{Some}
use Rattle.tm_seq.specs.Kind.{Kind}
use Rattle.tm_pair.specs.Theory.{Theory}
use Rattle.tm_trustee.proofs.Elements.{set_cases, same_element, there_too, mapped}
use Rattle.tm_trustee.proofs.TurningReady.{IsHome, at_home, own_table}
use Rattle.tm_trustee.specs.Serving.{IsServing}
use Rattle.tm_trustee.specs.Tables.{Pairwise, IsReady}
use Rattle.tm_trustee.specs.declared.trustee.Trustee.{Trustee}

pub is_some : {X : Type 0} (o : Option X) (P : X → Type 0) (x : X) → o ≡ Some x → P x → IsSomeAnd o P
is_some o P x e h = subst (λ r. IsSomeAnd r P) (sym e) h

module _ {X : Type 0} where
  -- what joins the element of before with the one written joins what stood at each index with what stands there
  pub joined :
      (Joins : X → X → Type 0) → ((x : X) → Joins x x) → (xs : List X) (i k : ℕ) (was becomes old new : X)
      → slice_get xs i ≡ Some was → Joins was becomes → slice_get xs k ≡ Some old → slice_get (slice_set xs i becomes) k ≡ Some new → Joins old new
  joined Joins self xs i k was becomes old new at joins was_there e =
      elim (set_cases xs i k becomes new e) [
        | inl h ↦
            let here : slice_get xs i ≡ Some old = subst (λ n. slice_get xs n ≡ Some old) h.0 was_there in
            subst (λ x. Joins x new) (sym (same_element xs i was old at here)) (subst (λ x. Joins was x) (sym h.1) joins)
        | inr h ↦ subst (λ x. Joins old x) (sym (same_element xs k old new was_there h.1)) (self old)
      ]

module _ {V O R T Table Client Owner : Type 0} (theory : Theory V O R T Table Client Owner) where
  -- a trustee is ready still where its own side and those above are of the tables still
  pub still_ready :
      (kind : Kind V O R T) (old new : List Table) (t : Trustee V Table O R T Client Owner) → length new ≡ length old
      → Pairwise (λ was now. theory.opening now ≡ theory.opening was) old new
      → ((was now : Table) → slice_get old t.number ≡ Some was → slice_get new t.number ≡ Some now → theory.HasTrustee was t.side → theory.HasTrustee now t.side)
      → ((i : ℕ) (was now : Table) (seat : Client) → t.number < i → slice_get old i ≡ Some was → slice_get new i ≡ Some now
      → (theory.client_view seat).place ≡ t.clients + t.number → theory.HasClient was seat → theory.HasClient now seat)
      → IsReady theory kind old t → IsReady theory kind new t
  still_ready kind old new t many openings mine above ready =
      let (config, whole, each) = ready.built.built in
      let (own, at_own) = own_table theory kind old t ready in
      let home = at_home theory kind old t own ready at_own in
      let (own_now, e_own) = there_too old new t.number own many at_own in
      record {
        built = record {
          built = (config, whole, λ i now e. let (was, at) = there_too new old i now (sym many) e in openings i was now at e ∙ each i was at);
        };
        home =
            is_some (slice_get new t.number) (IsHome theory kind t) own_now e_own
            (mine own own_now at_own e_own home.0, subst (λ s. IsServing theory kind s t) (sym (openings t.number own own_now at_own e_own)) home.1);
        above = record {
          as_many = ready.above.as_many ∙ sym many;
          mine = λ i now seat e of.
              let (was, at) = there_too new old (t.number + 1 + i) now (sym many) e in
              let up = home.1.above.places i (theory.client_view seat) (mapped theory.client_view t.above.items i seat of) in
              above (t.number + 1 + i) was now seat (omega arith) at e up (ready.above.mine i was seat at of);
        };
      }
