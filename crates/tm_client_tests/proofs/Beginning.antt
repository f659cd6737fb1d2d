-- How the runtime of the tests begins.
use Rattle.std.proofs.Common.{◌≡◌, ◌≢◌, ℕ, zero, suc, ◌+◌, ◌<◌, ◌≤◌, ◌⊎◌, ◌==◌, Bool, true, false, inl, inr, List, [], ◌∷◌, length, map, filter, refl, sym, ◌∙◌, ap, subst, arith}
use Rattle.std.specs.Prelude.{slice_get, slice_index_or}
use Rattle.std.specs.List.{AllByRecursion, IsDistinct}
use Rattle.std.specs.declared.option.Option.TheVariants.{Some}
use Rattle.std.proofs.lemmas.List.Sums.{length-filter, count_by-le-length}
use Rattle.tm_seq.specs.Kind.{Kind}
use Rattle.tm_batch.specs.declared.config.Config.{Config}
use Rattle.tm_batch.specs.declared.config.First.{First}
use Rattle.tm_batch.specs.declared.limits.TheConstants.{MOST_TRUSTS}
use Rattle.tm_batch.specs.declared.message.Name.{Name}
use Rattle.tm_model.specs.State.{State, holds_at, ids_above, place_count}
use Rattle.tm_model.specs.Opening.{is_named, IsBuildable}
use Rattle.tm_pair.specs.Theory.{Theory, IsNewClientOf, IsNewTable}
use Rattle.tm_trustee.specs.Serving.{IsServing}
use Rattle.tm_trustee.specs.Begun.{MayBegin as TrusteeMayBegin}
use Rattle.tm_trustee.specs.Tables.{IsReady}
use Rattle.tm_trustee.specs.declared.trustee.Trustee.{Trustee}
use Rattle.tm_client.specs.declared.books.Books.{Books}
use Rattle.tm_client.specs.declared.client.Client.{Client}
use Rattle.tm_client.specs.Begun.{named_at, new_lane, MayBegin}
use Rattle.tm_client.specs.Clients.{IsClient}
use Rattle.tm_client_tests.specs.Playing.{small, one_object, opening, held_by, IsOne, IsPlaying}
use Rattle.tm_client_tests.proofs.Played.{is_some}

module _ {V : Type 0} (v : V) where
  pub buildable : (trusts : ℕ) → 1 ≤ trusts → trusts ≤ MOST_TRUSTS → IsBuildable (small trusts) (one_object v)
  unfolding IsDistinct
  buildable trusts some most = record {
    clients = (omega arith, omega arith);
    trustees = (omega arith, omega arith);
    objects = (omega arith, omega arith);
    trusts = (some, most);
    last_id = omega arith;
    trustee = (omega arith, tt);
    held = ((λ e. absurd cc), tt);
    once = ((tt, tt), tt);
    below = ((omega arith, tt), tt);
    room = λ t. let n = length-filter (λ f. f.trustee == t) (one_object v) in let few = count_by-le-length (λ f. f.trustee == t) (one_object v) in omega (arith, n, few);
    ids = λ t. let n = length-filter (λ f. f.trustee == t) (one_object v) in let few = count_by-le-length (λ f. f.trustee == t) (one_object v) in omega (arith, n, few);
    named = λ c lt. let few = count_by-le-length (is_named c) (one_object v) in omega (arith, few, some);
  }

truth : (b : Bool) → (b ≡ true) ⊎ (b ≡ false)
truth true = inl refl
truth false = inr refl

few_held : (c : ℕ) → length (held_by c) ≤ 1
few_held zero = omega arith
few_held (suc c) = omega arith

held_there : (c : ℕ) → AllByRecursion (λ (h : ℕ × Name). h.0 < 2) (held_by c)
held_there zero = (omega arith, tt)
held_there (suc c) = tt

module _ {V : Type 0} (O R T : Type 0) (v : V) where
  -- trustee 1 has nothing above
  nothing_above : (trusts u : ℕ) → [] ≡ ids_above (opening {V = V} {O = O} {R = R} {T = T} v trusts 1).setup u
  nothing_above trusts zero = refl
  nothing_above trusts (suc zero) = refl
  nothing_above trusts (suc (suc u)) = refl

  -- what a client holds at each trustee is what the opening gives it
  given_so : (trusts c t id : ℕ) → c < 2 → t < 2 → named_at t id (held_by c) ≡ holds_at (opening {V = V} {O = O} {R = R} {T = T} v trusts t) c id
  given_so trusts zero zero id few lt = refl
  given_so trusts zero (suc zero) id few lt = elim (truth (1 == id)) [ inl same ↦ rw same refl | inr other ↦ rw other refl ]
  given_so trusts (suc zero) zero id few lt = refl
  given_so trusts (suc zero) (suc zero) id few lt = elim (truth (1 == id)) [ inl same ↦ rw same refl | inr other ↦ rw other refl ]
  given_so trusts (suc (suc c)) t id few lt = absurd (omega (arith, few))
  given_so trusts c (suc (suc t)) id few lt = absurd (omega (arith, lt))

module _ {V O R T : Type 0} (v : V) where
  pub trustee_begins :
      (trusts : ℕ) (config : Config) (first : List (First V)) (names : List (ℕ × Name)) (seats : ℕ) → 1 ≤ trusts → trusts ≤ MOST_TRUSTS
      → config ≡ small trusts → first ≡ one_object v → names ≡ [] → seats ≡ 0
      → TrusteeMayBegin (opening {V = V} {O = O} {R = R} {T = T} v trusts 1) 1 config (one_object v) first names seats
  trustee_begins trusts config first names seats some most is placed none zero_seats =
      subst (λ (c : Config). TrusteeMayBegin (opening {V = V} {O = O} {R = R} {T = T} v trusts 1) 1 c (one_object v) first names seats) (sym is) (record {
        opens = record { buildable = buildable v trusts some most; in_range = omega arith; placed = placed };
        opening = refl;
        nested = λ u.
            subst (λ (l : List (ℕ × Name)). map (λ m. m.1.id) (filter (λ m. m.0 == u) l) ≡ ids_above (opening {V = V} {O = O} {R = R} {T = T} v trusts 1).setup u)
            (sym none) (nothing_above O R T v trusts u);
        sides = omega (arith, zero_seats);
      })

  pub client_begins :
      (trusts c : ℕ) (config : Config) (sides : ℕ) (held : List (ℕ × Name)) → 1 ≤ trusts → trusts ≤ MOST_TRUSTS → c < 2
      → config ≡ small trusts → sides ≡ 2 → held ≡ held_by c → MayBegin V O R T c config (one_object v) sides held
  client_begins trusts c config sides held some most lt is two its =
      subst (λ (x : Config). MayBegin V O R T c x (one_object v) sides held) (sym is)
      (subst (λ (h : List (ℕ × Name)). MayBegin V O R T c (small trusts) (one_object v) sides h) (sym its) (record {
        buildable = buildable v trusts some most;
        number_of = lt;
        sides_of = two;
        trustees = held_there c;
        given = λ t id below. given_so O R T v trusts c t id lt below;
        most = let few = few_held c in omega (arith, few, some);
      }))

-- a runtime may be built from what is equal to a config and a list from which one may
pub buildable_so :
    {V : Type 0} (v : V) (trusts : ℕ) (config : Config) (first : List (First V)) → 1 ≤ trusts → trusts ≤ MOST_TRUSTS → config ≡ small trusts
    → first ≡ one_object v → IsBuildable config first
buildable_so v trusts config first some most is placed =
    subst (λ (x : Config). IsBuildable x first) (sym is)
    (subst (λ l. IsBuildable (small trusts) l) (sym placed) (buildable v trusts some most))

pub none_held : (c : ℕ) → c ≢ 0 → [] ≡ held_by c
none_held zero some = absurd (some refl)
none_held (suc c) some = refl

module _ {V O R T Table Side Owner : Type 0} (theory : Theory V O R T Table Side Owner) (kind : Kind V O R T) (v : V) (trusts : ℕ) where
  each_opens :
      (low high : Table) → theory.opening low ≡ opening v trusts 0 → theory.opening high ≡ opening v trusts 1 → (t : ℕ) (table : Table)
      → slice_get (low ∷ high ∷ []) t ≡ Some table → theory.opening table ≡ opening v trusts t
  each_opens low high at_low at_high zero table e = let is : low ≡ table = cc in subst (λ x. theory.opening x ≡ opening v trusts 0) is at_low
  each_opens low high at_low at_high (suc zero) table e = let is : high ≡ table = cc in subst (λ x. theory.opening x ≡ opening v trusts 1) is at_high
  each_opens low high at_low at_high (suc (suc t)) table e = absurd cc

  -- the greater trustee is ready for a turn
  greater_ready :
      (low high : Table) (t : Trustee V Table O R T Side Owner)
      → theory.opening low ≡ opening v trusts 0 → theory.opening high ≡ opening v trusts 1 → IsServing theory kind (opening v trusts 1) t
      → theory.HasTrustee high t.side → t.above.items ≡ [] → IsReady theory kind (low ∷ high ∷ []) t
  greater_ready low high t at_low at_high serving has none =
      let is : t.number ≡ 1 = serving.number in
      let home : (theory.HasTrustee high t.side) × IsServing theory kind (theory.opening high) t =
      (has, subst (λ s. IsServing theory kind s t) (sym at_high) serving) in
      record {
        home =
            is_some (slice_get (low ∷ high ∷ []) t.number) (λ table. theory.HasTrustee table t.side × IsServing theory kind (theory.opening table) t) high
            (ap (λ n. slice_get (low ∷ high ∷ []) n) is) home;
        built = record { built = (small trusts, one_object v, each_opens low high at_low at_high) };
        above = record {
          as_many = ap (λ n. n + 1 + length t.above.items) is ∙ ap (λ (l : List Side). 2 + length l) none;
          mine = λ i table seat at of. let no : slice_get [] i ≡ Some seat = subst (λ (l : List Side). slice_get l i ≡ Some seat) none of in absurd cc;
        };
      }

  -- a client at first
  pub first_one :
      (high : Table) (c : ℕ) (low_side high_side : Side) (books : Books V ℕ Side O R T) → books.number ≡ c
      → IsClient theory.client_view (opening v trusts) books → books.lanes.items ≡ map new_lane (low_side ∷ high_side ∷ []) → theory.HasClient high high_side
      → IsOne theory (opening v trusts) high c books
  first_one high c low_side high_side books number is lanes has = record {
    number = number;
    client = is;
    seated =
        is_some (slice_get books.lanes.items 1) (λ l. theory.HasClient high l.side) (new_lane high_side) (ap (λ xs. slice_get xs 1) lanes) has;
  }

  each_one :
      (high : Table) (one other : Client V ℕ Table O R T Side Owner) → IsOne theory (opening v trusts) high 0 one.books
      → IsOne theory (opening v trusts) high 1 other.books → (i : ℕ) (c : Client V ℕ Table O R T Side Owner)
      → slice_get (one ∷ other ∷ []) i ≡ Some c → IsOne theory (opening v trusts) high i c.books
  each_one high one other first second zero c e =
      let is : one ≡ c = cc in
      subst (λ (x : Client V ℕ Table O R T Side Owner). IsOne theory (opening v trusts) high 0 x.books) is first
  each_one high one other first second (suc zero) c e =
      let is : other ≡ c = cc in
      subst (λ (x : Client V ℕ Table O R T Side Owner). IsOne theory (opening v trusts) high 1 x.books) is second
  each_one high one other first second (suc (suc i)) c e = absurd cc

  pub first_plays :
      (low high : Table) (t : Trustee V Table O R T Side Owner)
      (one other : Client V ℕ Table O R T Side Owner) → theory.opening low ≡ opening v trusts 0
      → theory.opening high ≡ opening v trusts 1 → IsServing theory kind (opening v trusts 1) t → theory.HasTrustee high t.side → t.above.items ≡ []
      → IsOne theory (opening v trusts) high 0 one.books → IsOne theory (opening v trusts) high 1 other.books
      → IsPlaying theory kind (low ∷ high ∷ []) t (one ∷ other ∷ [])
  first_plays low high t one other at_low at_high serving has none first second = record {
    openings = opening v trusts;
    high = high;
    at = refl;
    opens = sym at_high;
    ready = greater_ready low high t at_low at_high serving has none;
    number = serving.number;
    count = refl;
    each = each_one high one other first second;
  }

module _ {V O R T Table Side Owner : Type 0} (theory : Theory V O R T Table Side Owner) where
  -- a client's side of a new table, as it is read at its place
  pub side_of :
      (s : State V O R T) (table : Table) (sides : List Side) (owner : Owner) (c : ℕ) (side : Side) → IsNewTable theory s table sides owner
      → c < place_count s.setup → side ≡ slice_index_or sides c side → IsNewClientOf theory table c side
  side_of s table sides owner c side new lt read = new.clients_are c side (subst (λ n. c < n) (sym new.count) lt) read
