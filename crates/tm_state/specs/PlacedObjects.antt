-- Objects of the build, placed on a trustee one after another.
use Rattle.std.specs.Prelude.{◌≡◌, ◌≢◌, ℕ, ◌+◌, ◌^◌, ◌<◌, ◌≤◌, nat_eq, false, List, [], ◌∷◌, ◌++◌, length, map, replicate}
use Rattle.std.specs.List.{AllByRecursion, IsDistinct}
use Rattle.tm_batch.specs.declared.config.Config.{Config}
use Rattle.tm_batch.specs.declared.config.First.{First}
use Rattle.tm_model.specs.Opening.{opened}
use Rattle.tm_objects.specs.Stock.{Stock}
use Rattle.tm_objects.specs.Standing.{live_of}
use Rattle.tm_state.specs.StateView.{StateView}

module _ {V : Type 0} where
  -- an object of the build may be placed behind those of a stock: its holders are places, none of them twice, there is room and an id,
  -- and no gift waits
  pub record MayPlace (f : First V) (s : Stock V) : Type 0 where
    pub held : f.holders ≢ []
    pub once : IsDistinct nat_eq f.holders
    pub below : AllByRecursion (λ h. h < length s.gifts) f.holders
    pub room : length s.live < s.most
    pub id : s.next_id ≤ s.last_id
    pub gifts : s.gifts ≡ replicate (length s.gifts) []
    pub places : length s.gifts < 2 ^ 32

  module _ (T : Type 0) where
    -- an object of the build is placed, with a hold of each holder
    abbrev pub placed : First V → Stock V → Stock V
    placed f s = record s {
      next_id = s.next_id + 1;
      live = s.live ++ map live_of (opened {T = T} (length s.gifts) s.next_id (f ∷ []));
    }

  module _ (O R T : Type 0) where
    -- what trustee `number` has before anything runs, where the objects `front` of the build are placed on it
    abbrev pub begun_with : ℕ → Config → List (First V) → StateView V O R T
    begun_with number config front = record {
      config = config;
      number = number;
      stock = record {
        most = config.objects;
        last_id = config.last_id;
        next_id = length front + 1;
        live = map live_of (opened {T = T} (config.clients + number) 1 front);
        gifts = replicate (config.clients + number) [];
      };
      closed = replicate (config.clients + number) false;
      launched = [];
      ready = replicate (config.clients + number) [];
      next_ticket = 1;
      run = 0;
      entries = 0;
    }
