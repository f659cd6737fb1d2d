-- Trustees stay ready for a turn, and sides seated, through calls at other sides.
use Rattle.std.proofs.Common.{◌≡◌, ◌≢◌, ℕ, ◌+◌, ◌<◌, inl, inr, List, length, refl, sym, ◌∙◌, ap, subst, arith}
use Rattle.std.proofs.lemmas.List.{length-set, get_or-set_same}
use Rattle.std.proofs.lemmas.Option.{slice_get_within, slice_get-get_or}
use Rattle.std.specs.Prelude.{slice_get, slice_set, slice_index_or, IsSomeAnd}
use Rattle.std.specs.declared.option.Option.{Option}
use Rattle.std.specs.declared.option.Option.TheVariants.{Some}
use Rattle.tm_seq.specs.Kind.{Kind}
use Rattle.tm_seq.specs.Counting.{counter_kind}
use Rattle.tm_seq.specs.declared.counter.Counter.{Counter}
use Rattle.tm_seq.specs.declared.counter.CounterOp.{CounterOp}
use Rattle.tm_seq.specs.declared.counter.CounterReply.{CounterReply}
use Rattle.tm_seq.specs.declared.counter.CounterTask.{CounterTask}
use Rattle.tm_model.specs.State.{State}
use Rattle.tm_pair.specs.Theory.{Theory}
use Rattle.tm_trustee.proofs.Elements.{set_cases, set_other, same_element, there_too, there, mapped}
use Rattle.tm_trustee.proofs.TurningReady.{IsHome, at_home, own_table}
use Rattle.tm_trustee.specs.Serving.{IsServing}
use Rattle.tm_trustee.specs.Tables.{Pairwise, IsReady}
use Rattle.tm_tests.specs.Driving.{counting, IsDriven, KeepsOthers}
use Rattle.tm_trustee.specs.declared.trustee.Trustee.{Trustee}

pub is_some : {X : Type 0} (o : Option X) (P : X → Type 0) (x : X) → o ≡ Some x → P x → IsSomeAnd o P
is_some o P x e h = subst (λ r. IsSomeAnd r P) (sym e) h

module _ {X : Type 0} where
  -- so what joins the one of before with the one written joins what stood at each index with what stands there
  pub joined :
      (Joins : X → X → Type 0) → ((x : X) → Joins x x) → (xs : List X) (i k : ℕ) (was becomes old new : X)
      → slice_get xs i ≡ Some was → Joins was becomes → slice_get xs k ≡ Some old → slice_get (slice_set xs i becomes) k ≡ Some new → Joins old new
  joined Joins self xs i k was becomes old new at joins was_there e =
      elim (set_cases xs i k becomes new e) [
        | inl h ↦
            let here : slice_get xs i ≡ Some old = subst (λ n. slice_get xs n ≡ Some old) h.0 was_there in
            subst (λ x. Joins x new) (sym (same_element xs i was old at here)) (subst (λ x. Joins was x) (sym h.1) joins)
        | inr h ↦ subst (λ x. Joins old x) (sym (same_element xs k old new was_there h.1)) (self old)
      ]

module _ {V O R T Table Client Owner : Type 0} (theory : Theory V O R T Table Client Owner) where
  -- what is of a table is of the one at the same number later
  pub still_of :
      {A : Type 0} (Has : Table → A → Type 0) (opening : State V O R T) (old new : List Table) (n : ℕ) (a : A) → length new ≡ length old
      → ((i : ℕ) (was now : Table) → slice_get old i ≡ Some was → slice_get new i ≡ Some now → theory.opening now ≡ theory.opening was)
      → ((was now : Table) → slice_get old n ≡ Some was → slice_get new n ≡ Some now → Has was a → Has now a)
      → IsSomeAnd (slice_get old n) (λ table. (theory.opening table ≡ opening) × Has table a)
      → IsSomeAnd (slice_get new n) (λ table. (theory.opening table ≡ opening) × Has table a)
  still_of Has opening old new n a many openings keeps is =
      let (was, at, (opens, has)) = there (λ table. (theory.opening table ≡ opening) × Has table a) (slice_get old n) is in
      let (now, e) = there_too old new n was many at in
      is_some (slice_get new n) (λ table. (theory.opening table ≡ opening) × Has table a) now e (openings n was now at e ∙ opens, keeps was now at e has)

module _ {V O R T Table Client Owner : Type 0} (theory : Theory V O R T Table Client Owner) where
  -- the table of a side that is seated, as it is read at its index
  pub seat_of :
      (tables : List Table) (n : ℕ) (opening : State V O R T) (d : Table) (side : Client)
      → IsSomeAnd (slice_get tables n) (λ table. (theory.opening table ≡ opening) × theory.HasClient table side)
      → (slice_get tables n ≡ Some (slice_index_or tables n d)) × (theory.opening (slice_index_or tables n d) ≡ opening)
      × theory.HasClient (slice_index_or tables n d) side
  seat_of tables n opening d side seated =
      let (table, at, (opens, has)) = there (λ x. (theory.opening x ≡ opening) × theory.HasClient x side) (slice_get tables n) seated in
      let here : slice_get tables n ≡ Some (slice_index_or tables n d) = slice_get-get_or tables n d (slice_get_within tables n table at) in
      let is : table ≡ slice_index_or tables n d = same_element tables n (slice_index_or tables n d) table here at in
      (here, subst (λ x. theory.opening x ≡ opening) is opens, subst (λ x. theory.HasClient x side) is has)

  -- a side after a call of it is seated where it was
  pub call_seated :
      (tables : List Table) (n : ℕ) (opening : State V O R T) (d becomes : Table) (side after : Client)
      → IsSomeAnd (slice_get tables n) (λ table. (theory.opening table ≡ opening) × theory.HasClient table side)
      → theory.opening becomes ≡ theory.opening (slice_index_or tables n d) → theory.HasClient becomes after
      → IsSomeAnd (slice_get (slice_set tables n becomes) n) (λ table. (theory.opening table ≡ opening) × theory.HasClient table after)
  call_seated tables n opening d becomes side after seated kept mine =
      let (at, opens, has) = seat_of tables n opening d side seated in
      let lt = slice_get_within tables n (slice_index_or tables n d) at in
      let reads : slice_index_or (slice_set tables n becomes) n d ≡ becomes = get_or-set_same tables n becomes d lt in
      let more : n < length (slice_set tables n becomes) = subst (λ k. n < k) (sym (length-set tables n becomes)) lt in
      let here : slice_get (slice_set tables n becomes) n ≡ Some becomes =
      slice_get-get_or (slice_set tables n becomes) n d more ∙ ap (λ x. Some x) reads in
      is_some (slice_get (slice_set tables n becomes) n) (λ table. (theory.opening table ≡ opening) × theory.HasClient table after) becomes here (kept ∙ opens, mine)

  -- a side of another table is seated where it was
  pub elsewhere_seated :
      (tables : List Table) (n m : ℕ) (opening : State V O R T) (becomes : Table) (other : Client) → m ≢ n
      → IsSomeAnd (slice_get tables m) (λ table. (theory.opening table ≡ opening) × theory.HasClient table other)
      → IsSomeAnd (slice_get (slice_set tables n becomes) m) (λ table. (theory.opening table ≡ opening) × theory.HasClient table other)
  elsewhere_seated tables n m opening becomes other ne seated =
      subst (λ o. IsSomeAnd o (λ table. (theory.opening table ≡ opening) × theory.HasClient table other)) (sym (set_other tables n m becomes ne)) seated

module _ {V O R T Table Client Owner : Type 0} (theory : Theory V O R T Table Client Owner) where
  pub still_ready :
      (kind : Kind V O R T) (old new : List Table) (t : Trustee V Table O R T Client Owner) → length new ≡ length old
      → Pairwise (λ was now. theory.opening now ≡ theory.opening was) old new
      → ((was now : Table) → slice_get old t.number ≡ Some was → slice_get new t.number ≡ Some now → theory.HasTrustee was t.side → theory.HasTrustee now t.side)
      → ((i : ℕ) (was now : Table) (seat : Client) → t.number < i → slice_get old i ≡ Some was → slice_get new i ≡ Some now
      → (theory.client_view seat).place ≡ t.clients + t.number → theory.HasClient was seat → theory.HasClient now seat)
      → IsReady theory kind old t → IsReady theory kind new t
  still_ready kind old new t many openings mine above ready =
      let (config, whole, each) = ready.built.built in
      let (own, at_own) = own_table theory kind old t ready in
      let home = at_home theory kind old t own ready at_own in
      let (own_now, e_own) = there_too old new t.number own many at_own in
      record {
        built = record {
          built = (config, whole, λ i now e. let (was, at) = there_too new old i now (sym many) e in openings i was now at e ∙ each i was at);
        };
        home =
            is_some (slice_get new t.number) (IsHome theory kind t) own_now e_own
            (mine own own_now at_own e_own home.0, subst (λ s. IsServing theory kind s t) (sym (openings t.number own own_now at_own e_own)) home.1);
        above = record {
          as_many = ready.above.as_many ∙ sym many;
          mine = λ i now seat e of.
              let (was, at) = there_too new old (t.number + 1 + i) now (sym many) e in
              let up = home.1.above.places i (theory.client_view seat) (mapped theory.client_view t.above.items i seat of) in
              above (t.number + 1 + i) was now seat (omega arith) at e up (ready.above.mine i was seat at of);
        };
      }

module _ {Table Client Owner : Type 0} (theory : Theory Counter CounterOp CounterReply CounterTask Table Client Owner) where
  -- a trustee is driven still that is ready still
  pub still_driven :
      (old new : List Table) (n : ℕ) (t : Trustee Counter Table CounterOp CounterReply CounterTask Client Owner) → length new ≡ length old
      → Pairwise (λ was now. theory.opening now ≡ theory.opening was) old new
      → ((k : ℕ) (was now : Table) → k ≡ n → slice_get old k ≡ Some was → slice_get new k ≡ Some now → theory.HasTrustee was t.side → theory.HasTrustee now t.side)
      → ((i : ℕ) (was now : Table) (seat : Client) → slice_get old i ≡ Some was → slice_get new i ≡ Some now
      → (theory.client_view seat).place ≡ 1 + n → theory.HasClient was seat → theory.HasClient now seat)
      → IsDriven theory old n t → IsDriven theory new n t
  still_driven old new n t many openings mine above driven =
      let is = driven.number in
      let ones = driven.clients in
      record {
        ready = still_ready theory counter_kind old new t many openings (λ was now at e has. mine t.number was now is at e has)
            (λ i was now seat lt at e up has. above i was now seat at e (omega (arith, up, is, ones)) has) driven.ready;
        number = is;
        clients = ones;
      }

  -- a call at a side of place c of the table of number n
  pub call_keeps :
      (old : List Table) (n c : ℕ) (was becomes : Table) → slice_get old n ≡ Some was → theory.opening becomes ≡ theory.opening was
      → ((other : Client) → (theory.client_view other).place ≢ c → theory.HasClient was other → theory.HasClient becomes other)
      → ((other : Owner) → theory.HasTrustee was other → theory.HasTrustee becomes other)
      → KeepsOthers theory old (slice_set old n becomes) c
  call_keeps old n c was becomes at opening clients trustees =
      let new : List Table = slice_set old n becomes in
      let many : length new ≡ length old = length-set old n becomes in
      let openings : (i : ℕ) (x y : Table) → slice_get old i ≡ Some x → slice_get new i ≡ Some y → theory.opening y ≡ theory.opening x =
      λ i x y ex ey. joined (λ a b. theory.opening b ≡ theory.opening a) (λ a. refl) old n i was becomes x y at opening ex ey in
      record {
        sides = λ m other ne seated.
            still_of theory theory.HasClient (counting m) old new m other many openings
            (λ x y ex ey. joined (λ a b. theory.HasClient a other → theory.HasClient b other) (λ a h. h) old n m was becomes x y at (clients other ne) ex ey) seated;
        trustees = λ m t ne driven.
            still_driven old new m t many openings
            (λ k x y is ex ey. joined (λ a b. theory.HasTrustee a t.side → theory.HasTrustee b t.side) (λ a h. h) old n k was becomes x y at (trustees t.side) ex ey)
            (λ i x y seat ex ey up.
            joined (λ a b. theory.HasClient a seat → theory.HasClient b seat) (λ a h. h) old n i was becomes x y at
            (clients seat (λ same. ne (omega (arith, up, same)))) ex ey)
            driven;
      }
