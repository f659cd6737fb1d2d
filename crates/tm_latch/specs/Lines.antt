-- The objects on which a ticket runs, as a list of pairs of an id and its line, and the buckets in which they stand.
use Rattle.std.specs.Prelude.{◌≡◌, ⊤, ℕ, ◌%◌, ◌<◌, ◌≢◌, List, [], ◌∷◌, ◌++◌, length, filter, if◌then◌else◌, ◌==◌, slice_index_or, Some, None, Option}
use Rattle.slab.specs.Slab.{Slab, get as at_key, slab_len}
use Rattle.tm_latch.specs.declared.lines.Line.{Line}
use Rattle.tm_latch.specs.declared.lines.Node.{Node}
use Rattle.tm_latch.specs.declared.lines.Spot.{Spot}

-- an id, then its line
abbrev pub Pairs : Type 0
Pairs = List (ℕ × Line)

-- the line of the first pair that has the id
abbrev pub get : Pairs → ℕ → Option Line
get [] id = None
get ((k, l) ∷ rest) id = if k == id then Some l else get rest id

-- no id comes twice
unfoldable pub AreDistinct : Pairs → Type 0
AreDistinct [] = ⊤
AreDistinct (p ∷ rest) = (get rest p.0 ≡ None) × AreDistinct rest

-- new has the line at the id, and at every other id what old has
pub record SetsOnly (old new : Pairs) (id : ℕ) (line : Line) : Type 0 where
  pub this_key : get new id ≡ Some line
  pub other_keys : (k : ℕ) → k ≢ id → get new k ≡ get old k

-- new has no line at the id, and at every other id what old has
pub record LosesOnly (old new : Pairs) (id : ℕ) : Type 0 where
  pub this_key : get new id ≡ None
  pub other_keys : (k : ℕ) → k ≢ id → get new k ≡ get old k

-- the node of a pair, with the key of the next
abbrev pub node_of : ℕ × Line → Option ℕ → Node
node_of p next = record { id = p.0; line = p.1; next = next }

-- from one key to another, each node with the key of the next, stand the nodes of these pairs in order
unfoldable pub Reaches : Slab Node → Option ℕ → Pairs → Option ℕ → Type 0
Reaches nodes from [] to = from ≡ to
Reaches nodes from (p ∷ rest) to = (key : ℕ) × (next : Option ℕ) × (from ≡ Some key) × (at_key nodes key ≡ Some (node_of p next)) × Reaches nodes next rest to

-- the pairs of a bucket, of so many: those whose ids leave its number when they are divided by how many there are
abbrev pub in_bucket : ℕ → ℕ → Pairs → Pairs
in_bucket buckets b pairs = filter (λ p. p.0 % buckets == b) pairs

-- the buckets, by the keys of their first nodes, have these pairs and no others, each bucket its own in order
pub record IsTable (firsts : List (Option ℕ)) (nodes : Slab Node) (pairs : Pairs) : Type 0 where
  pub some : 0 < length firsts
  pub chains : (b : ℕ) → b < length firsts → Reaches nodes (slice_index_or firsts b None) (in_bucket (length firsts) b pairs) None
  pub distinct : AreDistinct pairs
  pub count : slab_len nodes ≡ length pairs

-- before the node of an id, in the chain of its bucket, stands no node, or the node of this key stands last
unfoldable pub IsBefore : Slab Node → Option ℕ → Pairs → Option ℕ → Option ℕ → Type 0
IsBefore nodes first front None to = (front ≡ []) × (first ≡ to)
IsBefore nodes first front (Some key) to =
    (ahead : Pairs) × (p : ℕ × Line) × (front ≡ ahead ++ p ∷ []) × Reaches nodes first ahead (Some key) × (at_key nodes key ≡ Some (node_of p to))

-- the spot of an id in a chain: its node, and the node before it
pub record IsSpot (nodes : Slab Node) (first : Option ℕ) (chain : Pairs) (id : ℕ) (spot : Spot) : Type 0 where
  pub front : Pairs
  pub line : Line
  pub back : Pairs
  pub next : Option ℕ
  pub parts : chain ≡ front ++ (id, line) ∷ back
  pub before : IsBefore nodes first front spot.before (Some spot.key)
  pub here : at_key nodes spot.key ≡ Some (node_of (id, line) next)
  pub behind : Reaches nodes next back None
