-- The tables among which a trustee has its sides.
use Rattle.std.specs.Prelude.{◌≡◌, ◌≢◌, ℕ, ◌+◌, ◌<◌, List, length, slice_get, IsSomeAnd}
use Rattle.std.specs.declared.option.Option.TheVariants.{Some}
use Rattle.tm_batch.specs.declared.config.Config.{Config}
use Rattle.tm_batch.specs.declared.config.First.{First}
use Rattle.tm_seq.specs.Kind.{Kind}
use Rattle.tm_model.specs.Opening.{opening_of}
use Rattle.tm_pair.specs.Theory.{Theory}
use Rattle.tm_trustee.specs.Serving.{IsServing, IsGoing}
use Rattle.tm_trustee.specs.declared.trustee.Trustee.{Trustee}

-- the elements of the same positions of two lists are related
abbrev pub Pairwise : {X : Type 0} → (X → X → Type 0) → List X → List X → Type 0
Pairwise {X} R xs ys = (k : ℕ) (x y : X) → slice_get xs k ≡ Some x → slice_get ys k ≡ Some y → R x y

-- over any tables with their sides
module _ {V O R T Table Client Owner : Type 0} (theory : Theory V O R T Table Client Owner) where
  -- there is one table for each trustee from the first on, all of one config and one list of the build
  pub record AreOfOne (tables : List Table) : Type 0 where
    pub built : (config : Config) × (whole : List (First V)) × ((t : ℕ) (table : Table) → slice_get tables t ≡ Some table → theory.opening table ≡ opening_of t config whole)

  -- sides are of the tables from number `from` on, one each
  pub record AreAmong (tables : List Table) (from : ℕ) (above : List Client) : Type 0 where
    pub as_many : from + length above ≡ length tables
    pub mine : (i : ℕ) (table : Table) (seat : Client) → slice_get tables (from + i) ≡ Some table → slice_get above i ≡ Some seat → theory.HasClient table seat

  -- what calls at sides of one place keep of a table: the sides of other places, and the trustee's
  pub record KeepsOthers (place : ℕ) (was now : Table) : Type 0 where
    pub same : theory.Same was now
    pub opening : theory.opening now ≡ theory.opening was
    pub clients : (other : Client) → (theory.client_view other).place ≢ place → theory.HasClient was other → theory.HasClient now other
    pub trustee : (other : Owner) → theory.HasTrustee was other → theory.HasTrustee now other

  -- what calls at sides of one place leave of tables from number `from` on: the lower ones stay
  pub record KeepsAbove (old new : List Table) (from place : ℕ) : Type 0 where
    pub as_many : length new ≡ length old
    pub lower : (t : ℕ) → t < from → slice_get new t ≡ slice_get old t
    pub others : Pairwise (KeepsOthers place) old new

  -- what serving its own table leaves of tables: the others stay, and the one of the number keeps all clients' sides
  pub record KeepsOwn (old new : List Table) (number : ℕ) : Type 0 where
    pub as_many : length new ≡ length old
    pub others : (t : ℕ) → t ≢ number → slice_get new t ≡ slice_get old t
    pub same : Pairwise theory.Same old new
    pub openings : Pairwise (λ was now. theory.opening now ≡ theory.opening was) old new
    pub clients : (was now : Table) → slice_get old number ≡ Some was → slice_get new number ≡ Some now
        → (other : Client) → theory.HasClient was other → theory.HasClient now other

  -- what a turn of trustee `number`, which has that place above, leaves of tables: all are the same still, those below it stay, and its
  -- own keeps all clients' sides
  pub record KeepsTables (old new : List Table) (number place : ℕ) : Type 0 where
    pub as_many : length new ≡ length old
    pub same : Pairwise theory.Same old new
    pub openings : Pairwise (λ was now. theory.opening now ≡ theory.opening was) old new
    pub lower : (t : ℕ) → t < number → slice_get new t ≡ slice_get old t
    pub clients_here : (was now : Table) → slice_get old number ≡ Some was → slice_get new number ≡ Some now
        → (other : Client) → theory.HasClient was other → theory.HasClient now other
    pub others_above : (t : ℕ) (was now : Table) → number < t → slice_get old t ≡ Some was → slice_get new t ≡ Some now → KeepsOthers place was now

  -- a trustee, whose sides are of these tables: its own of the table of its number, in whose opening state it opened, those above of the
  -- ones behind
  pub record IsReady (kind : Kind V O R T) (tables : List Table) (t : Trustee V Table O R T Client Owner) : Type 0 where
    pub home : IsSomeAnd (slice_get tables t.number) (λ table. theory.HasTrustee table t.side × IsServing theory kind (theory.opening table) t)
    pub built : AreOfOne tables
    pub above : AreAmong tables (t.number + 1) t.above.items

  -- so it is in the midst of a turn
  pub record IsMidway (kind : Kind V O R T) (tables : List Table) (t : Trustee V Table O R T Client Owner) : Type 0 where
    pub home : IsSomeAnd (slice_get tables t.number) (λ table. theory.HasTrustee table t.side × IsGoing theory kind (theory.opening table) t)
    pub built : AreOfOne tables
    pub above : AreAmong tables (t.number + 1) t.above.items
