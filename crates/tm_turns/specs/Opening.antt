-- The tables of a build and the sides that they give.
use Rattle.std.specs.Prelude.{◌≡◌, ℕ, ◌+◌, ◌-◌, List, [], ◌∷◌, ◌++◌, length, map, slice_get}
use Rattle.std.specs.declared.option.Option.TheVariants.{Some}
use Rattle.tm_seq.specs.Kind.{Kind}
use Rattle.tm_batch.specs.declared.config.Config.{Config}
use Rattle.tm_batch.specs.declared.config.First.{First}
use Rattle.tm_model.specs.Opening.{opening_of}
use Rattle.tm_pair.specs.Views.{new_trustee}
use Rattle.tm_pair.specs.Theory.{IsNewClientOf}
use Rattle.tm_pair.specs.Plain.{opening_at, trustee_at, IsTrusteeOf, plain_theory}
use Rattle.tm_pair.specs.declared.plain.PlainTable.{PlainTable}
use Rattle.tm_pair.specs.declared.plain.PlainClient.{PlainClient}
use Rattle.tm_pair.specs.declared.plain.PlainTrustee.{PlainTrustee}
use Rattle.tm_turns.specs.declared.opened.Opened.{Opened}

-- each of some sides behind the list of its place
abbrev pub dealt : {X : Type 0} → List X → List (List X) → List (List X)
dealt [] lists = lists
dealt (side ∷ sides) [] = []
dealt (side ∷ sides) (list ∷ lists) = (list ++ side ∷ []) ∷ dealt sides lists

-- the first trustee at which place p has a side: a client's at each, trustee u's at those above it
abbrev pub lowest : ℕ → ℕ → ℕ
lowest clients p = (p + 1) - clients

module _ {V O R T : Type 0} (kind : Kind V O R T) where
  -- the sides of place p at the first n tables, each as its table gave it
  pub record AreSidesOf (clients n p : ℕ) (tables : List (PlainTable V O R T)) (sides : List (PlainClient V O R T)) : Type 0 where
    pub count : length sides ≡ n - lowest clients p
    pub each : (k : ℕ) (table : PlainTable V O R T) (side : PlainClient V O R T) → slice_get tables (lowest clients p + k) ≡ Some table
        → slice_get sides k ≡ Some side → IsNewClientOf (plain_theory kind) table p side

  -- the tables of the first n trustees of a build, with their sides
  pub record AreOpened (config : Config) (first : List (First V)) (n : ℕ) (opened : Opened V O R T) : Type 0 where
    pub as_many_tables : length opened.tables.items ≡ n
    pub as_many_homes : length opened.homes.items ≡ n
    pub tables : (t : ℕ) (table : PlainTable V O R T) → slice_get opened.tables.items t ≡ Some table → opening_at table ≡ opening_of t config first
    pub homes : (t : ℕ) (table : PlainTable V O R T) (home : PlainTrustee V O R T) → slice_get opened.tables.items t ≡ Some table
        → slice_get opened.homes.items t ≡ Some home → IsTrusteeOf kind table home × (trustee_at home ≡ new_trustee (config.clients + t))
    pub places : length opened.seats.items ≡ config.clients + config.trustees
    pub seats : (p : ℕ) (sides : List (PlainClient V O R T)) → slice_get (map (λ l. l.items) opened.seats.items) p ≡ Some sides
        → AreSidesOf config.clients n p opened.tables.items sides
