-- What a walk along a bucket finds, and what a change of one node does to the buckets.
use Rattle.std.proofs.Common.{◌≡◌, ◌≢◌, ℕ, ◌+◌, ◌≤◌, [], ◌∷◌, ◌++◌, length, Option, Some, None, refl, sym, ap, ◌∙◌, arith, append_assoc}
use Rattle.std.proofs.lemmas.List.{append-nil}
use Rattle.slab.specs.Slab.{Slab, get as at_key}
use Rattle.tm_latch.specs.declared.lines.Line.{Line}
use Rattle.tm_latch.specs.declared.lines.Node.{Node}
use Rattle.tm_latch.specs.Lines.{Pairs, get, node_of, Reaches, IsBefore, IsSpot}
use Rattle.tm_latch.proofs.Pairs.{AllIds, none_snoc}
use Rattle.tm_latch.proofs.Chains.{some_same}

-- both have the same at the keys of the nodes with such ids
abbrev pub Stays : (ℕ → Type 0) → Slab Node → Slab Node → Type 0
Stays P old new = (key : ℕ) (n : Node) → at_key old key ≡ Some n → P n.id → at_key new key ≡ Some n

-- so chains of such ids stay
pub reaches_same :
    (P : ℕ → Type 0) (old new : Slab Node) → Stays P old new → (l : Pairs) → AllIds P l → (from to : Option ℕ) → Reaches old from l to → Reaches new from l to
unfolding Reaches AllIds
reaches_same P old new stays [] all from to r = r
reaches_same P old new stays (p ∷ l) all from to (key, next, is, there, r) =
    (key, next, is, stays key (node_of p next) there all.0, reaches_same P old new stays l all.1 next to r)

-- one chain and then another
pub reaches_append : (nodes : Slab Node) (a b : Pairs) (from mid to : Option ℕ) → Reaches nodes from a mid → Reaches nodes mid b to → Reaches nodes from (a ++ b) to
unfolding Reaches
reaches_append nodes [] b from mid to r s = rw r s
reaches_append nodes (p ∷ a) b from mid to (key, next, is, there, r) s = (key, next, is, there, reaches_append nodes a b next mid to r s)

-- one node
pub reaches_one : (nodes : Slab Node) (key : ℕ) (p : ℕ × Line) (next : Option ℕ) → at_key nodes key ≡ Some (node_of p next) → Reaches nodes (Some key) (p ∷ []) next
unfolding Reaches
reaches_one nodes key p next there = (key, next, refl, there, refl)

pub reaches_cons : (nodes : Slab Node) (key : ℕ) (p : ℕ × Line) (next : Option ℕ) (l : Pairs) (to : Option ℕ) → at_key nodes key ≡ Some (node_of p next) → Reaches nodes next l to → Reaches nodes (Some key) (p ∷ l) to
unfolding Reaches
reaches_cons nodes key p next l to there r = (key, next, refl, there, r)

pub reaches_none : (nodes : Slab Node) (first : Option ℕ) (front : Pairs) (to : Option ℕ) → front ≡ [] → first ≡ to → Reaches nodes first front to
unfolding Reaches
reaches_none nodes first [] to none is = is
reaches_none nodes first (p ∷ l) to none is = absurd (cc)

-- what stands before a key reaches it
pub before_reaches : (nodes : Slab Node) (first : Option ℕ) (front : Pairs) (before to : Option ℕ) → IsBefore nodes first front before to → Reaches nodes first front to
unfolding IsBefore
before_reaches nodes first front None to (none, is) = reaches_none nodes first front to none is
before_reaches nodes first front (Some key) to (ahead, p, is, reach, there) =
    rw is (reaches_append nodes ahead (p ∷ []) first (Some key) to reach (reaches_one nodes key p to there))

-- one node more
pub before_snoc :
    (nodes : Slab Node) (first : Option ℕ) (front : Pairs) (before : Option ℕ) (key : ℕ) (p : ℕ × Line) (next : Option ℕ) → IsBefore nodes first front before (Some key)
    → at_key nodes key ≡ Some (node_of p next) → IsBefore nodes first (front ++ p ∷ []) (Some key) next
unfolding IsBefore
before_snoc nodes first front before key p next so_far there = (front, p, refl, before_reaches nodes first front before (Some key) so_far, there)

-- a walk along a chain has come to this key, with no node of the id so far
pub record HasCome (nodes : Slab Node) (first : Option ℕ) (chain : Pairs) (id : ℕ) (before at : Option ℕ) (left : ℕ) : Type 0 where
  pub front : Pairs
  pub rest : Pairs
  pub parts : chain ≡ front ++ rest
  pub passed : get front id ≡ None
  pub ahead : IsBefore nodes first front before at
  pub behind : Reaches nodes at rest None
  pub short : length rest ≤ left

-- what stands at the key to which it came
pub record IsNext (nodes : Slab Node) (rest : Pairs) (key : ℕ) : Type 0 where
  pub pair : ℕ × Line
  pub more : Pairs
  pub next : Option ℕ
  pub parts : rest ≡ pair ∷ more
  pub here : at_key nodes key ≡ Some (node_of pair next)
  pub behind : Reaches nodes next more None

pub next_is : (nodes : Slab Node) (rest : Pairs) (at : Option ℕ) (key : ℕ) → at ≡ Some key → Reaches nodes at rest None → IsNext nodes rest key
unfolding Reaches
next_is nodes [] at key is r = let none : None ≡ Some key = sym r ∙ is in absurd (cc)
next_is nodes (p ∷ l) at key is (k, next, from, there, r) =
    let same : k ≡ key = some_same _ _ (sym from ∙ is) in
    record { pair = p; more = l; next = next; parts = refl; here = rw (← same) there; behind = r }

pub none_is : (nodes : Slab Node) (rest : Pairs) (at : Option ℕ) → at ≡ None → Reaches nodes at rest None → rest ≡ []
unfolding Reaches
none_is nodes [] at is r = refl
none_is nodes (p ∷ l) at is (k, next, from, there, r) = let none : None ≡ Some k = sym is ∙ from in absurd (cc)

module _ (nodes : Slab Node) (first : Option ℕ) (chain : Pairs) (id : ℕ) where
  pub come_first : (left : ℕ) → Reaches nodes first chain None → length chain ≤ left → HasCome nodes first chain id None first left
  unfolding IsBefore
  come_first left r short = record { front = []; rest = chain; parts = refl; passed = refl; ahead = (refl, refl); behind = r; short = short }

  module _ (before at : Option ℕ) (left : ℕ) (come : HasCome nodes first chain id before at left) where
    -- it goes on past a node of another id
    pub come_on :
        (key : ℕ) (n : Node) (after : ℕ) → at ≡ Some key → at_key nodes key ≡ Some n → n.id ≢ id → left ≤ after + 1 → HasCome nodes first chain id (Some key) n.next after
    come_on key n after is there differs one =
        let next = next_is nodes come.rest at key is come.behind in
        let node : node_of next.pair next.next ≡ n = some_same _ _ (sym next.here ∙ there) in
        let further : next.next ≡ n.next = ap (λ (m : Node). m.next) node in
        let same_id : next.pair.0 ≡ n.id = ap (λ (m : Node). m.id) node in
        let step : IsBefore nodes first (come.front ++ next.pair ∷ []) (Some key) n.next =
        before_snoc nodes first come.front before key next.pair n.next (rw is at come.ahead) (rw (← further) next.here) in
        let fewer : length next.more ≤ after = let len = ap (λ (l : Pairs). length l) next.parts in omega (arith, len, come.short, one) in
        record {
          front = come.front ++ next.pair ∷ [];
          rest = next.more;
          parts = come.parts ∙ (ap (λ (l : Pairs). come.front ++ l) next.parts ∙ sym (append_assoc come.front (next.pair ∷ []) next.more));
          passed = none_snoc come.front next.pair id come.passed (λ e. differs (sym same_id ∙ e));
          ahead = step;
          behind = rw (← further) next.behind;
          short = fewer;
        }

    -- it ends at the node of the id
    pub come_to : (key : ℕ) (n : Node) → at ≡ Some key → at_key nodes key ≡ Some n → n.id ≡ id → IsSpot nodes first chain id (record { before = before; key = key })
    come_to key n is there mine =
        let next = next_is nodes come.rest at key is come.behind in
        let node : node_of next.pair next.next ≡ n = some_same _ _ (sym next.here ∙ there) in
        let same_id : next.pair.0 ≡ id = ap (λ (m : Node). m.id) node ∙ mine in
        let pair : next.pair ≡ (id, next.pair.1) = ap (λ (i : ℕ). (i, next.pair.1)) same_id in
        record {
          front = come.front;
          line = next.pair.1;
          back = next.more;
          next = next.next;
          parts = come.parts ∙ ap (λ (l : Pairs). come.front ++ l) (next.parts ∙ ap (λ (p : ℕ × Line). p ∷ next.more) pair);
          before = rw is at come.ahead;
          here = next.here ∙ ap (λ (p : ℕ × Line). Some (node_of p next.next)) pair;
          behind = next.behind;
        }

    -- or behind the last
    end_of : come.rest ≡ [] → get chain id ≡ None
    end_of none = rw (come.parts, none, append-nil come.front) come.passed

    pub come_none : at ≡ None → get chain id ≡ None
    come_none is = end_of (none_is nodes come.rest at is come.behind)

    pub come_last : left ≡ 0 → get chain id ≡ None
    come_last none = end_of (nothing come.rest (omega (arith, come.short, none)))
      where
        nothing : (l : Pairs) → length l ≤ 0 → l ≡ []
        nothing [] few = refl
        nothing (p ∷ l) few = absurd (omega (arith, few))
