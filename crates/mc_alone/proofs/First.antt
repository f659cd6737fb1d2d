-- A store with one client, before its first command; and the names of its objects.
use Rattle.std.proofs.Common.{◌≡◌, ℕ, zero, suc, ◌+◌, ◌<◌, ◌≤◌, Bool, true, false, cond, List, [], ◌∷◌, ◌++◌, length, map, refl, sym, ◌∙◌, ap, subst, arith, eq-eqb, ne_eqb, append_assoc, append-nil}
use Rattle.std.specs.Prelude.{◌==◌, slice_get}
use Rattle.std.specs.List.{AllByRecursion, AllZip, filter, range_with_len}
use Rattle.std.specs.declared.option.Option.TheVariants.{Some}
use Rattle.std.proofs.lemmas.Option.{slice_get_within}
use Rattle.std.proofs.lemmas.List.FromFn.{get_or-map-range_with_len, length-map-range_with_len}
use Rattle.tm_seq.specs.declared.sum.Sum.TheVariants as sum
use Rattle.tm_batch.specs.declared.config.First.{First}
use Rattle.tm_batch.specs.declared.message.Name.{Name}
use Rattle.tm_model.specs.Opening.{placed_on}
use Rattle.tm_model.specs.Ran.{ran}
use Rattle.tm_laws.specs.Objects.{value_by}
use Rattle.tm_pair.specs.Views.{ClientView, new_client}
use Rattle.tm_pair.specs.Plain.{client_at, trustee_at}
use Rattle.tm_pair.specs.declared.plain.PlainClient.{PlainClient}
use Rattle.tm_build.specs.Holding.{held_from, ids_in}
use Rattle.tm_client.specs.Begun.{IsFirstTrust}
use Rattle.tm_client.specs.declared.trust.Trust.{Trust}
use Rattle.tm_trustee.specs.NestedAsks.{IsApply}
use Rattle.tm_trustee.proofs.Elements.{element_at, mapped_from}
use Rattle.tm_turns.specs.Making.{HasBuilt}
use Rattle.tm_turns.specs.Whole.{HasLane}
use Rattle.mc_item.specs.declared.limits.TheConstants.{CLASSES}
use Rattle.mc_model.specs.declared.reply.ShardReply.{ShardReply}
use Rattle.mc_model.specs.Class.{Class, new_class}
use Rattle.mc_laws.specs.Classes.{new_classes, class_at}
use Rattle.mc_shard.specs.declared.op.ShardOp.{ShardOp}
use Rattle.mc_route.specs.Laws.{ClassesAreFound}
use Rattle.mc_route.specs.Places.{StoreValue, trustee_of, index_of, first_shard, first_desk, store_first}
use Rattle.mc_next.specs.Parts.{StoreTask, store_kind}
use Rattle.mc_next.specs.Clients.{StoreBooks}
use Rattle.mc_next.specs.Works.{named_by, name_in}
use Rattle.mc_solo.specs.Serving.{StoreTurns, store_config}
use Rattle.mc_alone.specs.Classes.{StoreLane, IsLaunch, StandsAt}
use Rattle.mc_alone.proofs.Chain.{AreNames}

all_at : {X : Type 0} (P : X → Type 0) (xs : List X) (i : ℕ) (x : X) → AllByRecursion P xs → slice_get xs i ≡ Some x → P x
all_at P [] i x all e = absurd cc
all_at P (y ∷ xs) zero x all e = let same : y ≡ x = cc in subst P same all.0
all_at P (y ∷ xs) (suc i) x all e = all_at P xs i x all.1 e

-- ---- where an object stands among those of its trustee

module _ (trustees bound : ℕ) where
  abbrev pub shards : ℕ → ℕ → List (First StoreValue)
  shards k n = map (first_shard 1 trustees bound) (range_with_len k n)

  -- the number of a class tells it
  same_number : (c d : ℕ) → first_shard 1 trustees bound c ≡ first_shard 1 trustees bound d → c ≡ d
  same_number c d e =
      let value : sum.First (new_class c 0 bound) ≡ sum.First (new_class d 0 bound) = ap (λ (f : First StoreValue). f.value) e in
      let class : new_class c 0 bound ≡ new_class d 0 bound = cc in
      ap (λ (s : Class). s.class) class

  not_desk : (c : ℕ) → first_desk 1 ≡ first_shard 1 trustees bound c → ⊥
  not_desk c e = let apart : 0 ≡ trustee_of c trustees = ap (λ (f : First StoreValue). f.trustee) e in omega (arith, apart)

  some_is : {X : Type 0} (x y : X) → Some x ≡ Some y → x ≡ y
  some_is x y e = cc

  alone : (c i : ℕ) → slice_get (first_desk 1 ∷ []) i ≡ Some (first_shard 1 trustees bound c) → ⊥
  alone c zero e = not_desk c (some_is (first_desk 1) (first_shard 1 trustees bound c) e)
  alone c (suc i) e = absurd cc

  -- of a list of one more
  cons_above : (k c : ℕ) (x : First StoreValue) (rest : List (First StoreValue)) (i : ℕ) → (x ≡ first_shard 1 trustees bound c → k ≤ c)
      → ((j : ℕ) → slice_get rest j ≡ Some (first_shard 1 trustees bound c) → k ≤ c) → slice_get (x ∷ rest) i ≡ Some (first_shard 1 trustees bound c) → k ≤ c
  cons_above k c x rest zero here later e = here (some_is x (first_shard 1 trustees bound c) e)
  cons_above k c x rest (suc i) here later e = later i e

  cons_once : (c : ℕ) (x : First StoreValue) (rest : List (First StoreValue)) (i j : ℕ) → (x ≡ first_shard 1 trustees bound c → (y : ℕ) → slice_get rest y ≡ Some (first_shard 1 trustees bound c) → ⊥)
      → ((y z : ℕ) → slice_get rest y ≡ Some (first_shard 1 trustees bound c) → slice_get rest z ≡ Some (first_shard 1 trustees bound c) → y ≡ z)
      → slice_get (x ∷ rest) i ≡ Some (first_shard 1 trustees bound c) → slice_get (x ∷ rest) j ≡ Some (first_shard 1 trustees bound c) → i ≡ j
  cons_once c x rest zero zero apart later e f = refl
  cons_once c x rest zero (suc j) apart later e f = absurd (apart (some_is x (first_shard 1 trustees bound c) e) j f)
  cons_once c x rest (suc i) zero apart later e f = absurd (apart (some_is x (first_shard 1 trustees bound c) f) i e)
  cons_once c x rest (suc i) (suc j) apart later e f = ap suc (later i j e f)

  module _ (p : First StoreValue → Bool) where
    -- those of the store from class k on that pass a test
    abbrev passing : ℕ → ℕ → List (First StoreValue)
    passing k n = filter p (shards k n ++ first_desk 1 ∷ [])

    nowhere : (k c i : ℕ) → slice_get (passing k 0) i ≡ Some (first_shard 1 trustees bound c) → ⊥
    nowhere k c i e =
        (elim (p (first_desk 1)) as (λ b. slice_get (cond b (first_desk 1 ∷ []) []) i ≡ Some (first_shard 1 trustees bound c) → ⊥) [ true ↦ λ f. alone c i f | false ↦ λ f. absurd cc ]) e

    -- a class that is found among those from number k on has no smaller number
    found_above : (k n j c : ℕ) → slice_get (passing k n) j ≡ Some (first_shard 1 trustees bound c) → k ≤ c
    found_above k zero j c e = absurd (nowhere k c j e)
    found_above k (suc n) j c e =
        (elim (p (first_shard 1 trustees bound k)) as
        (λ b. slice_get (cond b (first_shard 1 trustees bound k ∷ passing (k + 1) n) (passing (k + 1) n)) j ≡ Some (first_shard 1 trustees bound c) → k ≤ c) [
          | true ↦ λ f. cons_above k c (first_shard 1 trustees bound k) (passing (k + 1) n) j (λ same. let is = same_number k c same in omega (arith, is))
              (λ i g. let more = found_above (k + 1) n i c g in omega (arith, more)) f
          | false ↦ λ f. let more = found_above (k + 1) n j c f in omega (arith, more)
        ]) e

    -- it is found at one position
    found_once : (k n i j c : ℕ) → slice_get (passing k n) i ≡ Some (first_shard 1 trustees bound c) → slice_get (passing k n) j ≡ Some (first_shard 1 trustees bound c) → i ≡ j
    found_once k zero i j c e f = absurd (nowhere k c i e)
    found_once k (suc n) i j c e f =
        (elim (p (first_shard 1 trustees bound k)) as
        (λ b. slice_get (cond b (first_shard 1 trustees bound k ∷ passing (k + 1) n) (passing (k + 1) n)) i ≡ Some (first_shard 1 trustees bound c)
        → slice_get (cond b (first_shard 1 trustees bound k ∷ passing (k + 1) n) (passing (k + 1) n)) j ≡ Some (first_shard 1 trustees bound c) → i ≡ j) [
          | true ↦ λ u v. cons_once c (first_shard 1 trustees bound k) (passing (k + 1) n) i j
              (λ same y g. let is = same_number k c same in let more = found_above (k + 1) n y c g in omega (arith, is, more)) (λ y z g h. found_once (k + 1) n y z c g h) u v
          | false ↦ λ u v. found_once (k + 1) n i j c u v
        ]) e f

  -- ---- the names

  -- an element that passes a test stands behind those before it that do
  behind : (p : First StoreValue → Bool) (front : List (First StoreValue)) (x : First StoreValue) (rest : List (First StoreValue)) → p x ≡ true
      → slice_get (filter p (front ++ x ∷ rest)) (length (filter p front)) ≡ Some x
  behind p [] x rest passes = ap (λ b. slice_get (cond b (x ∷ filter p rest) (filter p rest)) 0) passes
  behind p (y ∷ front) x rest passes =
      elim (p y) as
      (λ b. slice_get (cond b (y ∷ filter p (front ++ x ∷ rest)) (filter p (front ++ x ∷ rest))) (length (cond b (y ∷ filter p front) (filter p front))) ≡ Some x) [
        | true ↦ behind p front x rest passes
        | false ↦ behind p front x rest passes
      ]

  -- the names that place 0 holds, of classes from number k on and then the desk, where the classes before are `before`
  held_at : (k n i : ℕ) (before : List (First StoreValue)) → i < n
      → slice_get (held_from 0 before (shards k n ++ first_desk 1 ∷ [])) i ≡ Some (trustee_of (k + i) trustees, length (placed_on (trustee_of (k + i) trustees) (before ++ shards k i)) + 1)
  held_at k zero i before lt = absurd (omega (arith, lt))
  held_at k (suc n) zero before lt =
      let here : k ≡ k + 0 = omega arith in
      ap (λ m. Some (trustee_of m trustees, length (placed_on (trustee_of m trustees) before) + 1)) here
      ∙ ap (λ l. Some (trustee_of (k + 0) trustees, length (placed_on (trustee_of (k + 0) trustees) l) + 1)) (sym (append-nil before))
  held_at k (suc n) (suc i) before lt =
      let next : (k + 1) + i ≡ k + suc i = omega arith in
      held_at (k + 1) n i (before ++ first_shard 1 trustees bound k ∷ []) (omega (arith, lt))
      ∙ ap (λ m. Some (trustee_of m trustees, length (placed_on (trustee_of m trustees) ((before ++ first_shard 1 trustees bound k ∷ []) ++ shards (k + 1) i)) + 1)) next
      ∙ ap (λ l. Some (trustee_of (k + suc i) trustees, length (placed_on (trustee_of (k + suc i) trustees) l) + 1)) (append_assoc before (first_shard 1 trustees bound k ∷ []) (shards (k + 1) i))

  desk_held : (k n : ℕ) (before : List (First StoreValue))
      → slice_get (held_from 0 before (shards k n ++ first_desk 1 ∷ [])) n ≡ Some (0, length (placed_on 0 (before ++ shards k n)) + 1)
  desk_held k zero before = ap (λ l. Some (0, length (placed_on 0 l) + 1)) (sym (append-nil before))
  desk_held k (suc n) before =
      desk_held (k + 1) n (before ++ first_shard 1 trustees bound k ∷ [])
      ∙ ap (λ l. Some (0, length (placed_on 0 l) + 1)) (append_assoc before (first_shard 1 trustees bound k ∷ []) (shards (k + 1) n))

  none_there : (k n : ℕ) → placed_on 0 (shards k n) ≡ []
  none_there k zero = refl
  none_there k (suc n) = ap (λ b. cond b (first_shard 1 trustees bound k ∷ placed_on 0 (shards (k + 1) n)) (placed_on 0 (shards (k + 1) n))) (ne_eqb (trustee_of k trustees) 0 (λ e. omega (arith, e))) ∙ none_there (k + 1) n

  split_at : (k n c : ℕ) → c < n → (rest : List (First StoreValue)) × (shards k n ++ first_desk 1 ∷ [] ≡ shards k c ++ first_shard 1 trustees bound (k + c) ∷ rest)
  split_at k zero c lt = absurd (omega (arith, lt))
  split_at k (suc n) zero lt = let here : k ≡ k + 0 = omega arith in (shards (k + 1) n ++ first_desk 1 ∷ [], ap (λ m. first_shard 1 trustees bound m ∷ (shards (k + 1) n ++ first_desk 1 ∷ [])) here)
  split_at k (suc n) (suc c) lt =
      let (rest, is) = split_at (k + 1) n c (omega (arith, lt)) in
      let next : (k + 1) + c ≡ k + suc c = omega arith in
      (rest, ap (λ l. first_shard 1 trustees bound k ∷ l) (is ∙ ap (λ m. shards (k + 1) c ++ first_shard 1 trustees bound m ∷ rest) next))

  -- how many classes of a trustee stand before a class
  stands_at : (found : ClassesAreFound) (c : ℕ) → 2 ≤ trustees → c < CLASSES → length (placed_on (trustee_of c trustees) (shards 0 c)) ≡ index_of c trustees
  stands_at found c fewest below =
      let p = λ (f : First StoreValue). f.trustee == trustee_of c trustees in
      let (rest, is) = split_at 0 64 c below in
      let same : 0 + c ≡ c = omega arith in
      let cut : shards 0 64 ++ first_desk 1 ∷ [] ≡ shards 0 c ++ first_shard 1 trustees bound c ∷ rest = is ∙ ap (λ m. shards 0 c ++ first_shard 1 trustees bound m ∷ rest) same in
      found_once p 0 64 (length (placed_on (trustee_of c trustees) (shards 0 c))) (index_of c trustees) c
      (ap (λ l. slice_get (filter p l) (length (filter p (shards 0 c)))) cut ∙ behind p (shards 0 c) (first_shard 1 trustees bound c) rest (eq-eqb (trustee_of c trustees) (trustee_of c trustees) refl))
      (found 1 trustees bound c fewest below)

-- ---- what was built

module _ (trustees bound : ℕ) (turns : StoreTurns) (trusts : List Trust) (b : HasBuilt store_kind (store_config 1 trustees) (store_first 1 trustees bound) turns (trusts ∷ [])) where
  fewest_is : 2 ≤ trustees
  fewest_is = b.are.buildable.trustees.0

  names_of : (books : StoreBooks (PlainClient StoreValue ShardOp ShardReply StoreTask)) (held : List (ℕ × Name)) (its : List Trust) → AllZip (IsFirstTrust books) held its
      → map (λ (t : Trust). (t.trustee, t.name.id)) its ≡ ids_in held
  names_of books [] [] all = refl
  names_of books [] (t ∷ its) all = absurd all
  names_of books (h ∷ held) [] all = absurd all
  names_of books (h ∷ held) (t ∷ its) all =
      ap (λ n. (n, t.name.id) ∷ map (λ (t : Trust). (t.trustee, t.name.id)) its) all.0.names.trustee ∙ ap (λ (m : Name). (h.0, m.id) ∷ map (λ (t : Trust). (t.trustee, t.name.id)) its) all.0.names.name
      ∙ ap (λ l. (h.0, h.1.id) ∷ l) (names_of books held its all.1)

  name_at : (i : ℕ) (p : ℕ × ℕ) → slice_get (map (λ (t : Trust). (t.trustee, t.name.id)) trusts) i ≡ Some p → (named_by trusts i).id ≡ p.1
  name_at i p e =
      let (trust, at, is) = mapped_from (λ (t : Trust). (t.trustee, t.name.id)) trusts i p e in
      ap (λ o. (name_in o).id) at ∙ ap (λ (q : ℕ × ℕ). q.1) (sym is)

  held_are : map (λ (t : Trust). (t.trustee, t.name.id)) trusts ≡ held_from 0 [] (store_first 1 trustees bound)
  held_are =
      let clients = b.are.as_many_clients in
      let (client, of_client) = element_at turns.clients.items 0 (omega (arith, clients)) in
      let (sides, new_sides, is) = b.clients 0 client trusts of_client refl in
      names_of client.books is.held trusts is.trusts_are ∙ is.named

  pub are_names : ClassesAreFound → AreNames trustees (named_by trusts)
  are_names found = record {
    classes = λ c below.
        let same : 0 + c ≡ c = omega arith in
        name_at c (trustee_of (0 + c) trustees, length (placed_on (trustee_of (0 + c) trustees) (shards trustees bound 0 c)) + 1)
        (ap (λ l. slice_get l c) held_are ∙ held_at trustees bound 0 64 c [] below)
        ∙ ap (λ k. length (placed_on (trustee_of k trustees) (shards trustees bound 0 c)) + 1) same ∙ ap (λ k. k + 1) (stands_at trustees bound found c fewest_is below);
    desk =
        name_at 64 (0, length (placed_on 0 (shards trustees bound 0 64)) + 1) (ap (λ l. slice_get l 64) held_are ∙ desk_held trustees bound 0 64 [])
        ∙ ap (λ l. length l + 1) (none_there trustees bound 0 64);
  }

  -- a lane of the client is as new
  new_lane_at : (c t : ℕ) (lane : StoreLane) → HasLane turns c t lane → (lane.counting ≡ 0) × (lane.closing ≡ false) × (client_at lane.side ≡ new_client 0)
  new_lane_at c t lane has =
      let clients = b.are.as_many_clients in
      let lt = slice_get_within turns.clients.items c has.client has.of_client in
      let is_first : c ≡ 0 = omega (arith, lt, clients) in
      let of_first : slice_get turns.clients.items 0 ≡ Some has.client = subst (λ k. slice_get turns.clients.items k ≡ Some has.client) is_first has.of_client in
      let (sides, new_sides, is) = b.clients 0 has.client trusts of_first refl in
      let (side, of_side, same) = mapped_from _ sides t lane (subst (λ xs. slice_get xs t ≡ Some lane) is.begun.lanes has.of_lane) in (
        ap (λ (l : StoreLane). l.counting) same,
        ap (λ (l : StoreLane). l.closing) same,
        ap (λ (l : StoreLane). client_at l.side) same ∙ all_at (λ side. client_at side ≡ new_client 0) sides t side new_sides of_side,
      )

  class_is : (class : ℕ) → class < CLASSES → class_at (new_classes bound) class ≡ new_class class 0 bound
  class_is class below = get_or-map-range_with_len (λ class. new_class class 0 bound) 0 64 class class (new_class class 0 0) below (omega arith)

  pub first_stands : StandsAt trustees bound 0 (new_classes bound) turns
  first_stands = record {
    are = b.are;
    none = λ c t lane has. let (counting, closing, side) = new_lane_at c t lane has in (counting, closing);
    seen = λ t lane has.
        let side = (new_lane_at 0 t lane has).2 in
        ap (λ (v : ClientView StoreValue ShardOp ShardReply StoreTask). v.sent) side ∙ ap (λ (v : ClientView StoreValue ShardOp ShardReply StoreTask). ran 0 v.seen) (sym side);
    applies = λ t lane above has.
        let side = (new_lane_at 0 t lane has).2 in
        subst (AllByRecursion IsApply) (ap (λ (v : ClientView StoreValue ShardOp ShardReply StoreTask). v.sent) (sym side)) tt;
    launches = λ lane has.
        let side = (new_lane_at 0 0 lane has).2 in
        let nothing : [] ≡ (client_at lane.side).sent = ap (λ (v : ClientView StoreValue ShardOp ShardReply StoreTask). v.sent) (sym side) in
        (subst (AllByRecursion IsLaunch) nothing tt, (let long = ap length nothing in omega (arith, long)));
    many = length-map-range_with_len (λ class. new_class class 0 bound) 0 64;
    values = λ class trustee below of.
        let (home, seats, home_new, seats_new, is) = b.trustees (trustee_of class trustees) trustee of in
        let log : (trustee_at trustee.side).log ≡ [] = ap (λ s. (trustee_at s).log) is.side ∙ ap (λ v. v.log) home_new in
        ap (value_by store_kind (sum.First (new_class class 0 bound)) (index_of class trustees + 1)) log ∙ ap sum.First (sym (class_is class below));
  }
