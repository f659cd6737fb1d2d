-- What a contract sees of a trustee's objects, and what each call does to them.
use Rattle.std.specs.Prelude.{ℕ, ◌+◌, ◌-◌, List, [], ◌∷◌, ◌++◌, map, drop, length, replicate, slice_index_or, slice_set, refl}
use Rattle.std.specs.Coded.{Coded, code_by, coded×, coded_ℕ, coded_list}
use Rattle.tm_batch.specs.declared.message.Name.{Name}
use Rattle.tm_batch.specs.contracts.message.Name as name
use Rattle.tm_objects.specs.Live.{Live, live_code, holds_of, with_holds, with_launches, with_value, first_held, change, kept, without}

-- how many objects may be live, the greatest id, the next id, the live objects by rising id, and the gifts that wait for each place,
-- the longest waiting first
pub record Stock (V : Type 0) : Type 0 where
  pub most : ℕ
  pub last_id : ℕ
  pub next_id : ℕ
  pub live : List (Live V)
  pub gifts : List (List Name)

-- a stock is stored as the tuple of its fields
abbrev pub stock_code : {V : Type 0} → Coded V → Coded (Stock V)
stock_code {V} code =
    code_by
    (ℕ × (ℕ × (ℕ × (List (Live V) × List (List Name)))))
    (coded× coded_ℕ (coded× coded_ℕ (coded× coded_ℕ (coded× (coded_list (live_code code)) (coded_list (coded_list name.the_row.coded))))))
    (λ s. (s.most, (s.last_id, (s.next_id, (s.live, s.gifts)))))
    (λ p. record { most = p.0; last_id = p.1.0; next_id = p.1.1.0; live = p.1.1.1.0; gifts = p.1.1.1.1 })
    (λ _. refl)

-- the gifts that wait for a place
abbrev pub gifts_of : List (List Name) → ℕ → List Name
gifts_of gifts c = slice_index_or gifts c []

module _ {V : Type 0} where
  -- no objects
  abbrev pub no_objects : ℕ → ℕ → ℕ → Stock V
  no_objects most last_id places = record { most = most; last_id = last_id; next_id = 1; live = []; gifts = replicate places [] }

  -- place c has entrusted v
  abbrev pub entrusted : ℕ → V → Stock V → Stock V
  entrusted c v s = record s { next_id = s.next_id + 1; live = s.live ++ first_held s.next_id v (length s.gifts) c ∷ [] }

  -- place c was granted a hold on the object of a name
  abbrev pub granted : Name → ℕ → Stock V → Stock V
  granted n c s = record s {
    live = change n.id (λ o. with_holds c (holds_of o c + 1) o) s.live;
    gifts = slice_set s.gifts c (gifts_of s.gifts c ++ n ∷ []);
  }

  -- the gift that waited longest for place c has left
  abbrev pub gift_taken : ℕ → Stock V → Stock V
  gift_taken c s = record s { gifts = slice_set s.gifts c (drop 1 (gifts_of s.gifts c)) }

  -- the n gifts that waited longest for place c have left
  abbrev pub gifts_taken : ℕ → ℕ → Stock V → Stock V
  gifts_taken c n s = record s { gifts = slice_set s.gifts c (drop n (gifts_of s.gifts c)) }

  -- work on an object was launched
  abbrev pub begun : ℕ → Stock V → Stock V
  begun id s = record s { live = change id (λ o. with_launches (o.launches + 1) o) s.live }

  -- launched work on an object has ended
  abbrev pub finished : ℕ → Stock V → Stock V
  finished id s = record s { live = kept (change id (λ o. with_launches (o.launches - 1) o) s.live) }

  -- place c has given up a hold
  abbrev pub released : ℕ → ℕ → Stock V → Stock V
  released c id s = record s { live = kept (change id (λ o. with_holds c (holds_of o c - 1) o) s.live) }

  -- the value of an object was taken back
  abbrev pub reclaimed : ℕ → Stock V → Stock V
  reclaimed id s = record s { live = without id s.live }

  -- the value of an object has changed
  abbrev pub changed : ℕ → Stock V → V → Stock V
  changed id s v = record s { live = change id (λ o. with_value v o) s.live }

  -- place c has gone
  abbrev pub closed : ℕ → Stock V → Stock V
  closed c s = record s { live = kept (map (λ o. with_holds c 0 o) s.live); gifts = slice_set s.gifts c [] }
