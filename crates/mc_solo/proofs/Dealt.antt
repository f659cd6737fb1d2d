-- The trusts that a build over the store deals out are those of the store.
use Rattle.std.proofs.Common.{◌≡◌, ℕ, zero, suc, ◌+◌, ◌<◌, ◌≤◌, inl, inr, Bool, true, false, cond, List, [], ◌∷◌, ◌++◌, length, map, refl, sym, ◌∙◌, ap, subst, arith}
use Rattle.std.specs.Prelude.{◌==◌, ◌||◌, slice_get}
use Rattle.std.specs.List.{AllByRecursion, AllZip, list_any, range_with_len}
use Rattle.std.specs.declared.option.Option.TheVariants.{Some}
use Rattle.std.proofs.lemmas.Bool.{cases_eq}
use Rattle.std.proofs.lemmas.Option.{slice_get_within}
use Rattle.tm_batch.specs.declared.config.Config.{Config}
use Rattle.tm_batch.specs.declared.config.First.{First}
use Rattle.tm_batch.specs.declared.limits.TheConstants.{FEWEST_TRUSTEES, MOST_TRUSTEES}
use Rattle.tm_batch.specs.declared.message.Name.{Name}
use Rattle.tm_model.specs.Opening.{is_named, placed_on}
use Rattle.tm_pair.specs.declared.plain.PlainClient.{PlainClient}
use Rattle.tm_trustee.proofs.Elements.{element_at, mapped, mapped_from}
use Rattle.tm_client.specs.Asking.{IsHeldBy}
use Rattle.tm_client.specs.Begun.{IsFirstTrust}
use Rattle.tm_client.specs.declared.trust.Trust.{Trust}
use Rattle.tm_build.specs.Holding.{held_from, ids_in}
use Rattle.tm_turns.specs.Making.{HasBuilt}
use Rattle.mc_item.specs.declared.limits.TheConstants.{CLASSES}
use Rattle.mc_model.specs.declared.reply.ShardReply.{ShardReply}
use Rattle.mc_shard.specs.declared.op.ShardOp.{ShardOp}
use Rattle.mc_route.specs.Places.{StoreValue, trustee_of, first_shard, first_desk, store_first}
use Rattle.mc_next.specs.Parts.{StoreTask, store_kind}
use Rattle.mc_next.specs.Clients.{StoreBooks}
use Rattle.mc_solo.specs.Serving.{StoreTurns, MayServe}

-- ---- who is named

eq_true : (a b : ℕ) → a ≡ b → (a == b) ≡ true
eq_true a b e = grind (arith, e)

or_left : (x y : Bool) → x ≡ true → (x || y) ≡ true
or_left true y e = refl
or_left false y e = absurd cc

or_right : (x y : Bool) → y ≡ true → (x || y) ≡ true
or_right true y e = refl
or_right false y e = e

any_in : (c k n : ℕ) → k ≤ c → c < k + n → list_any (λ h. h == c) (range_with_len k n) ≡ true
any_in c k zero le lt = absurd (omega (arith, le, lt))
any_in c k (suc n) le lt =
    elim (cases_eq k c) [
      | inl same ↦ or_left (k == c) (list_any (λ h. h == c) (range_with_len (k + 1) n)) (eq_true k c same)
      | inr other ↦ or_right (k == c) (list_any (λ h. h == c) (range_with_len (k + 1) n)) (any_in c (k + 1) n (omega (arith, le, other)) (omega (arith, lt)))
    ]

module _ (clients trustees bound c : ℕ) (below : c < clients) where
  -- each object of the store names each client
  all_named : (k n : ℕ) → AllByRecursion (λ f. is_named c f ≡ true) (map (first_shard clients trustees bound) (range_with_len k n) ++ first_desk clients ∷ [])
  all_named k zero = (any_in c 0 clients (omega arith) (omega (arith, below)), tt)
  all_named k (suc n) = (any_in c 0 (clients + 1) (omega arith) (omega (arith, below)), all_named (k + 1) n)

  -- a place that each object names holds them all, at their trustees
  all_held : {V : Type 0} (before fs : List (First V)) → AllByRecursion (λ f. is_named c f ≡ true) fs
      → map (λ h. h.0) (held_from c before fs) ≡ map (λ f. f.trustee) fs
  all_held before [] h = refl
  all_held before (f ∷ fs) (here, rest) =
      ap (λ b. map (λ h. h.0) (cond b ((f.trustee, length (placed_on f.trustee before) + 1) ∷ held_from c (before ++ f ∷ []) fs) (held_from c (before ++ f ∷ []) fs))) here
      ∙ ap (λ xs. f.trustee ∷ xs) (all_held (before ++ f ∷ []) fs rest)

-- ---- where the objects stand

module _ (clients trustees bound : ℕ) where
  abbrev pub stand_at : ℕ → ℕ → List ℕ
  stand_at k n = map (λ f. f.trustee) (map (first_shard clients trustees bound) (range_with_len k n) ++ first_desk clients ∷ [])

  class_stands : (k n i : ℕ) → i < n → slice_get (stand_at k n) i ≡ Some (trustee_of (k + i) trustees)
  class_stands k zero i lt = absurd (omega (arith, lt))
  class_stands k (suc n) zero lt = ap (λ j. Some (trustee_of j trustees)) (omega arith)
  class_stands k (suc n) (suc i) lt = class_stands (k + 1) n i (omega (arith, lt)) ∙ ap (λ j. Some (trustee_of j trustees)) (omega arith)

  desk_stands : (k n : ℕ) → slice_get (stand_at k n) n ≡ Some 0
  desk_stands k zero = refl
  desk_stands k (suc n) = desk_stands (k + 1) n

  how_many : (k n : ℕ) → length (stand_at k n) ≡ n + 1
  how_many k zero = refl
  how_many k (suc n) = let rest = how_many (k + 1) n in omega (arith, rest)

-- ---- the trusts of a list of names

module _ (books : StoreBooks (PlainClient StoreValue ShardOp ShardReply StoreTask)) where
  trusts_stand : (held : List (ℕ × Name)) (trusts : List Trust) → AllZip (IsFirstTrust books) held trusts → map (λ t. t.trustee) trusts ≡ map (λ h. h.0) (ids_in held)
  trusts_stand [] [] h = refl
  trusts_stand [] (t ∷ ts) h = absurd h
  trusts_stand (x ∷ xs) [] h = absurd h
  trusts_stand (x ∷ xs) (t ∷ ts) (here, rest) =
      ap (λ n. n ∷ map (λ t. t.trustee) ts) here.names.trustee ∙ ap (λ ns. x.0 ∷ ns) (trusts_stand xs ts rest)

  trusts_held : (held : List (ℕ × Name)) (trusts : List Trust) → AllZip (IsFirstTrust books) held trusts
      → (i : ℕ) (trust : Trust) → slice_get trusts i ≡ Some trust → IsHeldBy books trust
  trusts_held [] [] h i trust e = absurd cc
  trusts_held [] (t ∷ ts) h i trust e = absurd h
  trusts_held (x ∷ xs) [] h i trust e = absurd h
  trusts_held (x ∷ xs) (t ∷ ts) (here, rest) zero trust e = let same : t ≡ trust = cc in subst (IsHeldBy books) same here.listed
  trusts_held (x ∷ xs) (t ∷ ts) (here, rest) (suc i) trust e = trusts_held xs ts rest i trust e

some_is : {X : Type 0} (x y : X) → Some x ≡ Some y → x ≡ y
some_is x y e = cc

from_none : (k : ℕ) → 0 + k ≡ k
from_none k = omega arith

length_map : {X Y : Type 0} (f : X → Y) (xs : List X) → length (map f xs) ≡ length xs
length_map f [] = refl
length_map f (x ∷ xs) = let rest = length_map f xs in omega (arith, rest)

-- ---- what was built

module _ (config : Config) (bound : ℕ) (turns : StoreTurns) (trusts : List (List Trust)) (b : HasBuilt store_kind config (store_first config.clients config.trustees bound) turns trusts) where
  first : List (First StoreValue)
  first = store_first config.clients config.trustees bound

  pub may_serve : (c : ℕ) (of_client : List Trust) → slice_get trusts c ≡ Some of_client → MayServe c of_client turns
  may_serve c of_client at =
      let lt = slice_get_within trusts c of_client at in
      let as_many = b.as_many in
      let clients = b.are.as_many_clients in
      let below : c < config.clients = omega (arith, lt, as_many) in
      let (client, here) = element_at turns.clients.items c (omega (arith, below, clients)) in
      let (sides, new_sides, is) = b.clients c client of_client here at in
      let (number, lanes, is_client) = b.are.clients c client here in
      let tables = b.are.as_many_tables in
      let stand : map (λ t. t.trustee) of_client ≡ stand_at config.clients config.trustees bound 0 CLASSES =
      trusts_stand client.books is.held of_client is.trusts_are ∙ ap (λ xs. map (λ h. h.0) xs) is.named
      ∙ all_held config.clients config.trustees bound c below [] (store_first config.clients config.trustees bound) (all_named config.clients config.trustees bound c below 0 CLASSES) in
      let many = sym (length_map (λ t. t.trustee) of_client) ∙ ap length stand ∙ how_many config.clients config.trustees bound 0 CLASSES in
      let new : (t : ℕ) (lane : _) → slice_get client.books.lanes.items t ≡ Some lane → (lane.counting ≡ 0) × (lane.closing ≡ false) =
      λ t lane e.
      let (side, of_side, same) = mapped_from _ sides t lane (subst (λ xs. slice_get xs t ≡ Some lane) is.begun.lanes e) in
      (ap (λ l. l.counting) same, ap (λ l. l.closing) same) in
      record {
        client = client;
        of_client = here;
        are_trusts = record {
          fewest = subst (λ n. FEWEST_TRUSTEES ≤ n) (sym tables) b.are.buildable.trustees.0;
          most = subst (λ n. n ≤ MOST_TRUSTEES) (sym tables) b.are.buildable.trustees.1;
          many = lanes ∙ sym tables;
          count = many;
          classes = λ class trust in_classes e.
              some_is trust.trustee (trustee_of class (length turns.tables.items))
              (sym (mapped (λ t. t.trustee) of_client class trust e) ∙ ap (λ xs. slice_get xs class) stand
              ∙ class_stands config.clients config.trustees bound 0 CLASSES class in_classes ∙ ap (λ k. Some (trustee_of k config.trustees)) (from_none class)
              ∙ ap (λ n. Some (trustee_of class n)) (sym tables));
          desk = λ trust e.
              some_is trust.trustee 0
              (sym (mapped (λ t. t.trustee) of_client CLASSES trust e) ∙ ap (λ xs. slice_get xs CLASSES) stand
              ∙ desk_stands config.clients config.trustees bound 0 CLASSES);
          held = trusts_held client.books is.held of_client is.trusts_are;
        };
        none = λ t lane e. (new t lane e).0;
        all_open = λ t lane e. (new t lane e).1;
      }
