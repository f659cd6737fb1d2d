-- How the trustees that launch begin.
use Rattle.std.proofs.Common.{◌≡◌, ℕ, zero, suc, ◌+◌, ◌<◌, ◌≤◌, ◌==◌, List, [], ◌∷◌, map, filter, refl, sym, subst, arith, ne_eqb}
use Rattle.std.specs.Prelude.{slice_get, IsSomeAnd}
use Rattle.std.specs.List.{IsDistinct}
use Rattle.std.specs.declared.option.Option.TheVariants.{Some}
use Rattle.std.proofs.lemmas.List.Sums.{length-filter, count_by-le-length}
use Rattle.tm_seq.specs.Counting.{counter_kind}
use Rattle.tm_seq.specs.declared.counter.Counter.{Counter}
use Rattle.tm_seq.specs.declared.counter.CounterOp.{CounterOp}
use Rattle.tm_seq.specs.declared.counter.CounterReply.{CounterReply}
use Rattle.tm_seq.specs.declared.counter.CounterTask.{CounterTask}
use Rattle.tm_batch.specs.declared.config.First.{First}
use Rattle.tm_batch.specs.declared.message.Name.{Name}
use Rattle.tm_model.specs.State.{ids_above}
use Rattle.tm_model.specs.Opening.{is_named, IsBuildable, placed_on}
use Rattle.tm_pair.specs.Theory.{Theory}
use Rattle.tm_pair.specs.Views.{new_client}
use Rattle.tm_trustee.specs.Serving.{IsServing}
use Rattle.tm_trustee.specs.Begun.{MayBegin}
use Rattle.tm_trustee.specs.Tables.{AreAmong}
use Rattle.tm_trustee.proofs.TurningReady.{IsHome}
use Rattle.tm_tests.specs.Driving.{IsDriven}
use Rattle.tm_tests.specs.Launching.{three, two_counters, launching, held_by_middle, HasAsked, IsPlayed}
use Rattle.tm_tests.proofs.DrivenKept.{is_some}
use Rattle.tm_trustee.specs.declared.trustee.Trustee.{Trustee}

pub three_buildable : IsBuildable three two_counters
unfolding IsDistinct
three_buildable = record {
  clients = (omega arith, omega arith);
  trustees = (omega arith, omega arith);
  objects = (omega arith, omega arith);
  trusts = (omega arith, omega arith);
  last_id = omega arith;
  trustee = (omega arith, (omega arith, tt));
  held = ((λ e. absurd cc), ((λ e. absurd cc), tt));
  once = ((tt, tt), ((tt, tt), tt));
  below = ((omega arith, tt), ((omega arith, tt), tt));
  room = λ t. let n = length-filter (λ f. f.trustee == t) two_counters in let most = count_by-le-length (λ f. f.trustee == t) two_counters in omega (arith, n, most);
  ids = λ t. let n = length-filter (λ f. f.trustee == t) two_counters in let most = count_by-le-length (λ f. f.trustee == t) two_counters in omega (arith, n, most);
  named = λ c lt. let most = count_by-le-length (is_named c) two_counters in omega (arith, most);
}

-- what each of them holds above
holds_above : (n u : ℕ) → 1 ≤ n → n < 3 → map (λ m. m.1.id) (filter (λ m. m.0 == u) (held_by_middle n)) ≡ ids_above (launching n).setup u
holds_above zero u le lt = absurd (omega (arith, le))
holds_above (suc zero) zero le lt = refl
holds_above (suc zero) (suc zero) le lt = refl
holds_above (suc zero) (suc (suc zero)) le lt = refl
holds_above (suc zero) (suc (suc (suc u))) le lt = rw (ne_eqb 2 (suc (suc (suc u))) (λ e. absurd (omega (arith, e)))) refl
holds_above (suc (suc zero)) zero le lt = refl
holds_above (suc (suc zero)) (suc zero) le lt = refl
holds_above (suc (suc zero)) (suc (suc zero)) le lt = refl
holds_above (suc (suc zero)) (suc (suc (suc u))) le lt = refl
holds_above (suc (suc (suc n))) u le lt = absurd (omega (arith, lt))

-- a trustee may begin with what is placed on it, what it holds above, and a side at each greater one
pub begins_with :
    (n : ℕ) (first : List (First Counter)) (names : List (ℕ × Name)) (seats : ℕ) → 1 ≤ n → n < 3 → first ≡ placed_on n two_counters → names ≡ held_by_middle n
    → n + 1 + seats ≡ 3 → MayBegin (launching n) n three two_counters first names seats
begins_with n first names seats le lt placed held sides = record {
  opens = record { buildable = three_buildable; in_range = lt; placed = placed };
  opening = refl;
  nested = λ u. subst (λ (l : List (ℕ × Name)). map (λ m. m.1.id) (filter (λ m. m.0 == u) l) ≡ ids_above (launching n).setup u) (sym held) (holds_above n u le lt);
  sides = sides;
}

module _ {Table Client Owner : Type 0} (theory : Theory Counter CounterOp CounterReply CounterTask Table Client Owner) (least mid most : Table)
    (of_least : theory.opening least ≡ launching 0) (of_mid : theory.opening mid ≡ launching 1) (of_most : theory.opening most ≡ launching 2) where
  abbrev tables : List Table
  tables = least ∷ mid ∷ most ∷ []

  each_opens : (t : ℕ) (table : Table) → slice_get tables t ≡ Some table → theory.opening table ≡ launching t
  each_opens zero table e = let is : least ≡ table = cc in subst (λ x. theory.opening x ≡ launching 0) is of_least
  each_opens (suc zero) table e = let is : mid ≡ table = cc in subst (λ x. theory.opening x ≡ launching 1) is of_mid
  each_opens (suc (suc zero)) table e = let is : most ≡ table = cc in subst (λ x. theory.opening x ≡ launching 2) is of_most
  each_opens (suc (suc (suc t))) table e = absurd cc

  -- a trustee is ready that serves, whose own side is of the table of its number, and whose sides above are of those behind
  begun_ready :
      (n : ℕ) (own : Table) (t : Trustee Counter Table CounterOp CounterReply CounterTask Client Owner) → slice_get tables n ≡ Some own
      → IsServing theory counter_kind (launching n) t → theory.HasTrustee own t.side → AreAmong theory tables (n + 1) t.above.items → IsDriven theory tables n t
  begun_ready n own t here serving has above =
      let is : t.number ≡ n = serving.number in
      let home : IsSomeAnd (slice_get tables n) (IsHome theory counter_kind t) =
      is_some (slice_get tables n) (IsHome theory counter_kind t) own here
      (has, subst (λ s. IsServing theory counter_kind s t) (sym (each_opens n own here)) serving) in
      record {
        ready = record {
          home = subst (λ m. IsSomeAnd (slice_get tables m) (IsHome theory counter_kind t)) (sym is) home;
          built = record { built = (three, two_counters, each_opens) };
          above = subst (λ m. AreAmong theory tables (m + 1) t.above.items) (sym is) above;
        };
        number = is;
        clients = serving.clients;
      }

  seat_of_most :
      (seat : Client) → theory.HasClient most seat → (i : ℕ) (table : Table) (side : Client) → slice_get tables (suc (suc i)) ≡ Some table
      → slice_get (seat ∷ []) i ≡ Some side → theory.HasClient table side
  seat_of_most seat has zero table side at of =
      let here : most ≡ table = cc in
      let is : seat ≡ side = cc in
      subst (λ x. theory.HasClient x side) here (subst (λ y. theory.HasClient most y) is has)
  seat_of_most seat has (suc i) table side at of = absurd cc

  pub first_played :
      (middle greatest : Trustee Counter Table CounterOp CounterReply CounterTask Client Owner) (seat client : Client)
      → IsServing theory counter_kind (launching 1) middle → theory.HasTrustee mid middle.side → middle.above.items ≡ seat ∷ [] → theory.HasClient most seat
      → IsServing theory counter_kind (launching 2) greatest → theory.HasTrustee most greatest.side → greatest.above.items ≡ []
      → theory.HasClient mid client → theory.client_view client ≡ new_client 0 → IsPlayed theory tables middle greatest client 0
  first_played middle greatest seat client serves has one sits serves_most has_most none mine first = record {
    middle =
        begun_ready 1 mid middle refl serves has
        (subst (λ l. AreAmong theory tables 2 l) (sym one)
        (record {
          as_many = refl;
          mine = λ i table side at of.
              let later : 2 + i ≡ suc (suc i) = omega arith in
              seat_of_most seat sits i table side (subst (λ m. slice_get tables m ≡ Some table) later at) of;
        }));
    greatest =
        begun_ready 2 most greatest refl serves_most has_most
        (subst (λ l. AreAmong theory tables 3 l) (sym none) (record { as_many = refl; mine = λ i table side at of. absurd cc }));
    seated = (of_mid, mine);
    asked = subst (λ view. HasAsked 0 view) (sym first) (record { place = refl; works = tt; size = omega arith });
    few = omega arith;
  }
