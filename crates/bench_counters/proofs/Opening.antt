-- How the runtime of the clients begins.
use Rattle.std.proofs.Common.{◌≡◌, ◌≢◌, ℕ, zero, suc, ◌+◌, ◌<◌, ◌≤◌, ◌==◌, List, [], ◌∷◌, ◌++◌, length, map, filter, refl, sym, ◌∙◌, ap, subst, arith, length-append}
use Rattle.std.specs.Prelude.{nat_eq, slice_get, slice_index_or, IsSomeAnd, All}
use Rattle.std.specs.List.{IsDistinct, AllByRecursion, range_with_len}
use Rattle.std.specs.declared.option.Option.TheVariants.{Some}
use Rattle.std.proofs.lemmas.List.Sums.{length-filter, count_by-le-length}
use Rattle.std.proofs.Math.Seq.{get_or-append_seam}
use Rattle.std.proofs.Math.ListN.{get_or-append}
use Rattle.std.proofs.lemmas.List.{get_or_default}
use Rattle.tm_seq.specs.Counting.{counter_kind}
use Rattle.tm_seq.specs.declared.counter.Counter.{Counter}
use Rattle.tm_seq.specs.declared.counter.CounterOp.{CounterOp}
use Rattle.tm_seq.specs.declared.counter.CounterReply.{CounterReply}
use Rattle.tm_seq.specs.declared.counter.CounterTask.{CounterTask}
use Rattle.tm_batch.specs.declared.config.First.{First}
use Rattle.tm_batch.specs.declared.message.Name.{Name}
use Rattle.tm_model.specs.State.{State, ids_above, holds_at}
use Rattle.tm_model.specs.Opening.{is_named, IsBuildable}
use Rattle.tm_pair.specs.Theory.{Theory, IsNewClientOf, IsNewTable}
use Rattle.tm_toggle.specs.Ruled.{opening_by}
use Rattle.tm_toggle.specs.Shared.{opening_at, client_at, shared_theory, IsClientOf, IsSame}
use Rattle.tm_toggle.specs.declared.shared.SharedTable.{SharedTable}
use Rattle.tm_toggle.specs.declared.sides.SharedClient.{SharedClient}
use Rattle.tm_trustee.specs.Serving.{IsServing}
use Rattle.tm_trustee.specs.Begun.{MayBegin}
use Rattle.tm_trustee.specs.Tables.{AreAmong, IsReady}
use Rattle.tm_trustee.proofs.TurningReady.{IsHome}
use Rattle.tm_trustee.specs.declared.trustee.Trustee.{Trustee}
use Rattle.bench_counters.specs.Counting.{config_of, first_of, counting, IsOfCounter, MayAsk}

from : (a n : ℕ) → range_with_len a (suc n) ≡ range_with_len a n ++ (a + n) ∷ []
from a zero = let e : a ≡ a + 0 = omega arith in ap (λ k. k ∷ []) e
from a (suc n) =
    let e : (a + 1) + n ≡ a + suc n = omega arith in
    ap (λ l. a ∷ l) (from (a + 1) n ∙ ap (λ k. range_with_len (a + 1) n ++ k ∷ []) e)

-- the numbers below one more
pub range_more : (n : ℕ) → range_with_len 0 (n + 1) ≡ range_with_len 0 n ++ n ∷ []
range_more n =
    let e : n + 1 ≡ suc n = omega arith in
    let f : 0 + n ≡ n = omega arith in
    ap (λ k. range_with_len 0 k) e ∙ from 0 n ∙ ap (λ k. range_with_len 0 n ++ k ∷ []) f

built :
    (n : ℕ) → 1 ≤ n → n ≤ 3 → AllByRecursion (λ (f : First Counter). f.holders ≢ []) (first_of n)
    → AllByRecursion (λ (f : First Counter). IsDistinct nat_eq f.holders) (first_of n)
    → AllByRecursion (λ (f : First Counter). AllByRecursion (λ h. h < n + f.trustee) f.holders) (first_of n) → IsBuildable (config_of n) (first_of n)
built n some few held once below = record {
  clients = (some, omega (arith, few));
  trustees = (omega arith, omega arith);
  objects = (omega arith, omega arith);
  trusts = (omega arith, omega arith);
  last_id = omega arith;
  trustee = (omega arith, tt);
  held = held;
  once = once;
  below = below;
  room = λ t. let k = length-filter (λ f. f.trustee == t) (first_of n) in let most = count_by-le-length (λ f. f.trustee == t) (first_of n) in omega (arith, k, most);
  ids = λ t. let k = length-filter (λ f. f.trustee == t) (first_of n) in let most = count_by-le-length (λ f. f.trustee == t) (first_of n) in omega (arith, k, most);
  named = λ c lt. let most = count_by-le-length (is_named c) (first_of n) in omega (arith, most);
}

pub buildable : (n : ℕ) → 1 ≤ n → n ≤ 3 → IsBuildable (config_of n) (first_of n)
unfolding IsDistinct
buildable zero some few = absurd (omega (arith, some))
buildable (suc zero) some few = built 1 some few ((λ e. absurd cc), tt) ((tt, tt), tt) ((omega arith, tt), tt)
buildable (suc (suc zero)) some few = built 2 some few ((λ e. absurd cc), tt) (((refl, tt), (tt, tt)), tt) ((omega arith, (omega arith, tt)), tt)
buildable (suc (suc (suc zero))) some few =
    built 3 some few ((λ e. absurd cc), tt) (((refl, (refl, tt)), ((refl, tt), (tt, tt))), tt) ((omega arith, (omega arith, (omega arith, tt))), tt)
buildable (suc (suc (suc (suc n)))) some few = absurd (omega (arith, few))

-- each client holds the counter at first
pub holds_first : (n c : ℕ) → n ≤ 3 → c < n → 0 < holds_at (counting n 1) c 1
holds_first zero c few lt = absurd (omega (arith, lt))
holds_first (suc zero) zero few lt = omega arith
holds_first (suc zero) (suc c) few lt = absurd (omega (arith, lt))
holds_first (suc (suc zero)) zero few lt = omega arith
holds_first (suc (suc zero)) (suc zero) few lt = omega arith
holds_first (suc (suc zero)) (suc (suc c)) few lt = absurd (omega (arith, lt))
holds_first (suc (suc (suc zero))) zero few lt = omega arith
holds_first (suc (suc (suc zero))) (suc zero) few lt = omega arith
holds_first (suc (suc (suc zero))) (suc (suc zero)) few lt = omega arith
holds_first (suc (suc (suc zero))) (suc (suc (suc c))) few lt = absurd (omega (arith, lt))
holds_first (suc (suc (suc (suc n)))) c few lt = absurd (omega (arith, few))

-- the greater trustee holds nothing above
holds_above : (n u : ℕ) → [] ≡ ids_above (counting n 1).setup u
holds_above n zero = refl
holds_above n (suc zero) = refl
holds_above n (suc (suc u)) = refl

-- it may begin with the counter and no side above
pub begins :
    (n : ℕ) (first : List (First Counter)) (names : List (ℕ × Name)) (seats : ℕ) → 1 ≤ n → n ≤ 3 → first ≡ first_of n → names ≡ []
    → 2 + seats ≡ 2 → MayBegin (counting n 1) 1 (config_of n) (first_of n) first names seats
begins n first names seats some few is none sides = record {
  opens = record { buildable = buildable n some few; in_range = omega arith; placed = is };
  opening = refl;
  nested = λ u. subst (λ (l : List (ℕ × Name)). map (λ m. m.1.id) (filter (λ m. m.0 == u) l) ≡ ids_above (counting n 1).setup u) (sym none) (holds_above n u);
  sides = sides;
}

module _ {Table Client Owner : Type 0} (theory : Theory Counter CounterOp CounterReply CounterTask Table Client Owner) where
  each_opens :
      (n : ℕ) (low high : Table) → theory.opening low ≡ counting n 0 → theory.opening high ≡ counting n 1 → (t : ℕ) (table : Table)
      → slice_get (low ∷ high ∷ []) t ≡ Some table → theory.opening table ≡ counting n t
  each_opens n low high at_low at_high zero table e = let is : low ≡ table = cc in subst (λ x. theory.opening x ≡ counting n 0) is at_low
  each_opens n low high at_low at_high (suc zero) table e = let is : high ≡ table = cc in subst (λ x. theory.opening x ≡ counting n 1) is at_high
  each_opens n low high at_low at_high (suc (suc t)) table e = absurd cc

  -- the greater trustee is ready for a turn
  pub ready :
      (n : ℕ) (low high : Table) (t : Trustee Counter Table CounterOp CounterReply CounterTask Client Owner)
      → theory.opening low ≡ counting n 0 → theory.opening high ≡ counting n 1 → IsServing theory counter_kind (counting n 1) t
      → theory.HasTrustee high t.side → t.above.items ≡ [] → IsReady theory counter_kind (low ∷ high ∷ []) t
  ready n low high t at_low at_high serving has none =
      let is : t.number ≡ 1 = serving.number in
      let home : IsSomeAnd (slice_get (low ∷ high ∷ []) 1) (IsHome theory counter_kind t) =
      (has, subst (λ s. IsServing theory counter_kind s t) (sym at_high) serving) in
      record {
        home = subst (λ m. IsSomeAnd (slice_get (low ∷ high ∷ []) m) (IsHome theory counter_kind t)) (sym is) home;
        built = record { built = (config_of n, first_of n, each_opens n low high at_low at_high) };
        above =
            subst (λ m. AreAmong theory (low ∷ high ∷ []) (m + 1) t.above.items) (sym is)
            (subst (λ l. AreAmong theory (low ∷ high ∷ []) 2 l) (sym none) (record { as_many = refl; mine = λ i table seat at of. absurd cc }));
      }

  -- a side as its table gave it may ask
  new_may_ask :
      (n c : ℕ) (table : Table) (side : Client) → theory.opening table ≡ counting n 1 → n ≤ 3 → c < n → IsNewClientOf theory table c side
      → MayAsk theory table side
  new_may_ask n c table side opens few lt new =
      let at : (theory.client_view side).place ≡ c = ap (λ v. v.place) new.view in (
        record {
          mine = new.mine;
          client = rw (at, opens) lt;
          holds = rw (at, opens) (holds_first n c few lt);
          sent = subst (λ v. AllByRecursion IsOfCounter v.sent) (sym new.view) tt;
        },
        ap (λ v. v.out) new.view,
      )

  -- of a new table's sides, the last is the lesser trustee's, and those before it are the clients'
  pub new_sides :
      (n : ℕ) (table : Table) (all front : List Client) (last : Client) (owner : Owner) → n ≤ 3
      → IsNewTable theory (counting n 1) table all owner → all ≡ front ++ last ∷ []
      → All (λ side. MayAsk theory table side) front × IsNewClientOf theory table n last
  new_sides n table all front last owner few new e =
      let many : length all ≡ n + 1 = new.count in
      let parts = length-append front (last ∷ []) in
      let is = ap length e in
      let count : length front ≡ n = omega (arith, many, parts, is) in
      let end : last ≡ slice_index_or all n last =
      sym (ap (λ l. slice_index_or l n last) e ∙ ap (λ k. slice_index_or (front ++ last ∷ []) k last) (sym count) ∙ get_or-append_seam front last [] last) in (
        λ k d lt.
            let side = slice_index_or front k d in
            let at : side ≡ slice_index_or all k side =
            sym (ap (λ l. slice_index_or l k side) e ∙ get_or-append front (last ∷ []) side k lt ∙ get_or_default front k side d lt) in
            new_may_ask n k table side new.opens few (omega (arith, lt, count)) (new.clients_are k side (omega (arith, lt, count, many)) at),
        new.clients_are n last (omega (arith, many)) end,
      )

-- a side may ask at each handle of its table
pub carried :
    (table handle : SharedTable Counter CounterOp CounterReply CounterTask) (side : SharedClient Counter CounterOp CounterReply CounterTask)
    → IsSame table handle → IsClientOf counter_kind handle side → MayAsk (shared_theory counter_kind) table side
    → MayAsk (shared_theory counter_kind) handle side
carried table handle side same mine may =
    let asked = may.0 in
    let opens : opening_at handle ≡ opening_at table = ap opening_by same.key in (
      record {
        mine = mine;
        client =
            subst (λ (o : State Counter CounterOp CounterReply CounterTask). (client_at side).place < o.setup.config.clients) (sym opens) asked.client;
        holds =
            subst (λ (o : State Counter CounterOp CounterReply CounterTask). 0 < holds_at o (client_at side).place 1) (sym opens) asked.holds;
        sent = asked.sent;
      },
      may.1,
    )
