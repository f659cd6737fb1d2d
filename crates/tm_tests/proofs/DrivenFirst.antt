-- How the trustees of the tests begin.
use Rattle.std.proofs.Common.{◌≡◌, ℕ, zero, suc, ◌+◌, ◌<◌, ◌==◌, List, [], ◌∷◌, map, filter, refl, sym, subst, arith, ne_eqb}
use Rattle.std.specs.Prelude.{slice_get, IsSomeAnd}
use Rattle.std.specs.List.{IsDistinct}
use Rattle.std.specs.declared.option.Option.TheVariants.{Some}
use Rattle.std.proofs.lemmas.List.Sums.{length-filter, count_by-le-length}
use Rattle.tm_seq.specs.Counting.{counter_kind}
use Rattle.tm_seq.specs.declared.counter.Counter.{Counter}
use Rattle.tm_seq.specs.declared.counter.CounterOp.{CounterOp}
use Rattle.tm_seq.specs.declared.counter.CounterReply.{CounterReply}
use Rattle.tm_seq.specs.declared.counter.CounterTask.{CounterTask}
use Rattle.tm_batch.specs.declared.config.First.{First}
use Rattle.tm_batch.specs.declared.message.Name.{Name}
use Rattle.tm_model.specs.State.{ids_above}
use Rattle.tm_model.specs.Opening.{is_named, IsBuildable, placed_on}
use Rattle.tm_pair.specs.Theory.{Theory}
use Rattle.tm_trustee.specs.Serving.{IsServing}
use Rattle.tm_trustee.specs.Begun.{MayBegin}
use Rattle.tm_trustee.specs.Tables.{AreAmong}
use Rattle.tm_trustee.proofs.TurningReady.{IsHome}
use Rattle.tm_tests.specs.Driving.{small, one_counter, counting, held_above, IsDriven}
use Rattle.tm_tests.proofs.DrivenKept.{is_some}
use Rattle.tm_trustee.specs.declared.trustee.Trustee.{Trustee}

pub small_buildable : IsBuildable small one_counter
unfolding IsDistinct
small_buildable = record {
  clients = (omega arith, omega arith);
  trustees = (omega arith, omega arith);
  objects = (omega arith, omega arith);
  trusts = (omega arith, omega arith);
  last_id = omega arith;
  trustee = (omega arith, tt);
  held = ((λ e. absurd cc), tt);
  once = (((refl, tt), (tt, tt)), tt);
  below = ((omega arith, (omega arith, tt)), tt);
  room = λ t. let n = length-filter (λ f. f.trustee == t) one_counter in let most = count_by-le-length (λ f. f.trustee == t) one_counter in omega (arith, n, most);
  ids = λ t. let n = length-filter (λ f. f.trustee == t) one_counter in let most = count_by-le-length (λ f. f.trustee == t) one_counter in omega (arith, n, most);
  named = λ c lt. let most = count_by-le-length (is_named c) one_counter in omega (arith, most);
}

-- what each trustee holds above
holds_above : (n u : ℕ) → n < 2 → map (λ m. m.1.id) (filter (λ m. m.0 == u) (held_above n)) ≡ ids_above (counting n).setup u
holds_above zero zero lt = refl
holds_above zero (suc zero) lt = refl
holds_above zero (suc (suc u)) lt = rw (ne_eqb 1 (suc (suc u)) (λ e. absurd (omega (arith, e)))) refl
holds_above (suc zero) zero lt = refl
holds_above (suc zero) (suc zero) lt = refl
holds_above (suc zero) (suc (suc u)) lt = refl
holds_above (suc (suc n)) u lt = absurd (omega (arith, lt))

-- a trustee may begin with what is placed on it, what it holds above, and a side at each greater one
pub begins_with :
    (n : ℕ) (first : List (First Counter)) (names : List (ℕ × Name)) (seats : ℕ) → n < 2 → first ≡ placed_on n one_counter → names ≡ held_above n
    → n + 1 + seats ≡ 2 → MayBegin (counting n) n small one_counter first names seats
begins_with n first names seats lt placed held sides = record {
  opens = record { buildable = small_buildable; in_range = lt; placed = placed };
  opening = refl;
  nested = λ u. subst (λ (l : List (ℕ × Name)). map (λ m. m.1.id) (filter (λ m. m.0 == u) l) ≡ ids_above (counting n).setup u) (sym held) (holds_above n u lt);
  sides = sides;
}

module _ {Table Client Owner : Type 0} (theory : Theory Counter CounterOp CounterReply CounterTask Table Client Owner) where
  each_opens :
      (low high : Table) → theory.opening low ≡ counting 0 → theory.opening high ≡ counting 1 → (t : ℕ) (table : Table)
      → slice_get (low ∷ high ∷ []) t ≡ Some table → theory.opening table ≡ counting t
  each_opens low high at_low at_high zero table e = let is : low ≡ table = cc in subst (λ x. theory.opening x ≡ counting 0) is at_low
  each_opens low high at_low at_high (suc zero) table e = let is : high ≡ table = cc in subst (λ x. theory.opening x ≡ counting 1) is at_high
  each_opens low high at_low at_high (suc (suc t)) table e = absurd cc

  -- a trustee is ready that serves, whose own side is of the table of its number, and whose sides above are of those behind
  begun_ready :
      (low high own : Table) (n : ℕ) (t : Trustee Counter Table CounterOp CounterReply CounterTask Client Owner)
      → theory.opening low ≡ counting 0 → theory.opening high ≡ counting 1 → slice_get (low ∷ high ∷ []) n ≡ Some own
      → theory.opening own ≡ counting n → IsServing theory counter_kind (counting n) t → theory.HasTrustee own t.side
      → AreAmong theory (low ∷ high ∷ []) (n + 1) t.above.items → IsDriven theory (low ∷ high ∷ []) n t
  begun_ready low high own n t at_low at_high here opens serving has above =
      let is : t.number ≡ n = serving.number in
      let home : IsSomeAnd (slice_get (low ∷ high ∷ []) n) (IsHome theory counter_kind t) =
      is_some (slice_get (low ∷ high ∷ []) n) (IsHome theory counter_kind t) own here
      (has, subst (λ s. IsServing theory counter_kind s t) (sym opens) serving) in
      record {
        ready = record {
          home = subst (λ m. IsSomeAnd (slice_get (low ∷ high ∷ []) m) (IsHome theory counter_kind t)) (sym is) home;
          built = record { built = (small, one_counter, each_opens low high at_low at_high) };
          above = subst (λ m. AreAmong theory (low ∷ high ∷ []) (m + 1) t.above.items) (sym is) above;
        };
        number = is;
        clients = serving.clients;
      }

  pub greater_ready :
      (low high : Table) (t : Trustee Counter Table CounterOp CounterReply CounterTask Client Owner)
      → theory.opening low ≡ counting 0 → theory.opening high ≡ counting 1 → IsServing theory counter_kind (counting 1) t
      → theory.HasTrustee high t.side → t.above.items ≡ [] → IsDriven theory (low ∷ high ∷ []) 1 t
  greater_ready low high t at_low at_high serving has none =
      begun_ready low high high 1 t at_low at_high refl at_high serving has
      (subst (λ l. AreAmong theory (low ∷ high ∷ []) 2 l) (sym none) (record { as_many = refl; mine = λ i table seat at of. absurd cc }))

  seat_of_high :
      (low high : Table) (seat : Client) → theory.HasClient high seat → (i : ℕ) (table : Table) (side : Client)
      → slice_get (low ∷ high ∷ []) (suc i) ≡ Some table → slice_get (seat ∷ []) i ≡ Some side → theory.HasClient table side
  seat_of_high low high seat has zero table side at of =
      let here : high ≡ table = cc in
      let is : seat ≡ side = cc in
      subst (λ x. theory.HasClient x side) here (subst (λ y. theory.HasClient high y) is has)
  seat_of_high low high seat has (suc i) table side at of = absurd cc

  pub lesser_ready :
      (low high : Table) (t : Trustee Counter Table CounterOp CounterReply CounterTask Client Owner) (seat : Client)
      → theory.opening low ≡ counting 0 → theory.opening high ≡ counting 1 → IsServing theory counter_kind (counting 0) t
      → theory.HasTrustee low t.side → theory.HasClient high seat → t.above.items ≡ seat ∷ [] → IsDriven theory (low ∷ high ∷ []) 0 t
  lesser_ready low high t seat at_low at_high serving has sits one =
      begun_ready low high low 0 t at_low at_high refl at_low serving has
      (subst (λ l. AreAmong theory (low ∷ high ∷ []) 1 l) (sym one)
      (record {
        as_many = refl;
        mine = λ i table side at of.
            let later : 1 + i ≡ suc i = omega arith in
            seat_of_high low high seat sits i table side (subst (λ m. slice_get (low ∷ high ∷ []) m ≡ Some table) later at) of;
      }))
