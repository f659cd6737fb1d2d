-- What holds of all live objects at any time.
use Rattle.std.specs.Prelude.{◌≡◌, ◌<◌, ◌≤◌, length, All}
use Rattle.std.specs.List.{AllPairs}
use Rattle.tm_batch.specs.declared.limits.TheConstants.{MOST_GIFTS}
use Rattle.tm_objects.specs.Live.{LiveList, total}
use Rattle.tm_objects.specs.Stock.{Stock}

-- at most `most` objects are live; they have rising ids from 1 on that were given out; each has a count of 32 bits for each place, and a
-- hold or a launch
pub record IsRising {V : Type 0} (s : LiveList V) : Type 0 where
  pub most : length s.live ≤ s.most
  pub ids : All (λ o. (0 < o.id) × (o.id ≤ s.given)) s.live
  pub rising : AllPairs (λ o p. o.id < p.id) s.live
  pub width : All (λ o. length o.holds ≡ s.places) s.live
  pub held : All (λ o. 0 < total o) s.live
  pub counts : All (λ o. All (λ n. n < 4294967296) o.holds) s.live

-- the same of a stock, whose ids are below the next one; and no more gifts wait for a place than may
pub record IsStock {V : Type 0} (s : Stock V) : Type 0 where
  pub most : length s.live ≤ s.most
  pub ids : All (λ o. (0 < o.id) × (o.id < s.next_id)) s.live
  pub rising : AllPairs (λ o p. o.id < p.id) s.live
  pub width : All (λ o. length o.holds ≡ length s.gifts) s.live
  pub held : All (λ o. 0 < total o) s.live
  pub counts : All (λ o. All (λ n. n < 4294967296) o.holds) s.live
  pub waiting : All (λ gifts. length gifts ≤ MOST_GIFTS) s.gifts
