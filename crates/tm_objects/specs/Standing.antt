-- A trustee's state, seen as the stock of its objects.
use Rattle.std.specs.Prelude.{◌≡◌, ℕ, ◌+◌, map, length}
use Rattle.tm_seq.specs.declared.kind.Next.TheVariants.{Done}
use Rattle.tm_batch.specs.declared.message.Name.{Name}
use Rattle.tm_model.specs.State.{Work, Object, Place, State, object_of, with_live, without}
use Rattle.tm_model.specs.Serve.{works_resumed}
use Rattle.tm_model.specs.Serve as serve
use Rattle.tm_model.specs.State as state
use Rattle.tm_objects.specs.Live.{Live}
use Rattle.tm_objects.specs.Stock.{Stock, entrusted, granted, released, reclaimed, closed, begun, finished, changed, gift_taken, gifts_taken}

-- an object of a state as a live object: its launches are counted
abbrev pub live_of : {V T : Type 0} → Object V T → Live V
live_of o = record { id = o.id; value = o.value; holds = o.holds; launches = length o.works }

module _ {V O R T : Type 0} where
  -- the stock that a state has
  abbrev pub stock_of : State V O R T → Stock V
  stock_of s = record {
    most = s.setup.config.objects;
    last_id = s.setup.config.last_id;
    next_id = s.next_id;
    live = map live_of s.live;
    gifts = map (λ p. p.gifts) s.places;
  }

-- each change of a state is the one of the same name of its stock
module _ (V O R T : Type 0) where
  abbrev pub EntrustsAlike : Type 0
  EntrustsAlike =
      (c : ℕ) (v : V) (n : Name) (s : State V O R T) → n.id ≡ s.next_id → stock_of (serve.entrusted c v n s) ≡ entrusted c v (stock_of s)

  abbrev pub GrantsAlike : Type 0
  GrantsAlike =
      (n : Name) (c : ℕ) (s : State V O R T) → stock_of (serve.granted n c s) ≡ granted n c (stock_of s)

  abbrev pub ReleasesAlike : Type 0
  ReleasesAlike = (c id : ℕ) (s : State V O R T) → stock_of (serve.released c id s) ≡ released c id (stock_of s)

  abbrev pub ReclaimsAlike : Type 0
  ReclaimsAlike = (id : ℕ) (s : State V O R T) → stock_of (with_live (without id s.live) s) ≡ reclaimed id (stock_of s)

  abbrev pub ClosesAlike : Type 0
  ClosesAlike = (c : ℕ) (s : State V O R T) → stock_of (serve.closed c s) ≡ closed c (stock_of s)

  abbrev pub LaunchesAlike : Type 0
  LaunchesAlike =
      (c id : ℕ) (task : T) (ticket : ℕ) (s : State V O R T) → stock_of (serve.launched c id task ticket s) ≡ begun id (stock_of s)

  -- the end of the first launch of an object, which leaves its value
  abbrev pub FinishesAlike : Type 0
  FinishesAlike =
      (id : ℕ) (r : R) (s : State V O R T)
      → stock_of (with_live (state.kept (state.change id (λ o. record o { works = works_resumed {O = O} o.works (Done r) }) s.live)) s) ≡ finished id (stock_of s)

  -- an operation gives an object another value
  abbrev pub ChangesAlike : Type 0
  ChangesAlike =
      (id : ℕ) (v : V) (s : State V O R T) → stock_of (with_live (state.change id (λ o. record o { value = v }) s.live) s) ≡ changed id (stock_of s) v

  -- the gifts that leave with a batch of some room
  abbrev pub SendsAlike : Type 0
  SendsAlike = (c room : ℕ) (s : State V O R T) → stock_of (serve.sent_off c room s) ≡ gifts_taken c room (stock_of s)

-- gifts that are taken one by one
module _ (V : Type 0) where
  abbrev pub TakesNone : Type 0
  TakesNone = (c : ℕ) (s : Stock V) → gifts_taken c 0 s ≡ s

  abbrev pub TakesOneMore : Type 0
  TakesOneMore = (c n : ℕ) (s : Stock V) → gifts_taken c (n + 1) s ≡ gift_taken c (gifts_taken c n s)
