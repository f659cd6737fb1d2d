-- What a build makes: new clients and new trustees.
use Rattle.std.specs.Prelude.{◌≡◌, ℕ, ◌+◌, ◌<◌, List, length, slice_get}
use Rattle.std.specs.List.{AllByRecursion, AllZip}
use Rattle.std.specs.declared.option.Option.TheVariants.{Some}
use Rattle.tm_seq.specs.Kind.{Kind}
use Rattle.tm_batch.specs.declared.config.Config.{Config}
use Rattle.tm_batch.specs.declared.config.First.{First}
use Rattle.tm_batch.specs.declared.message.Name.{Name}
use Rattle.tm_model.specs.Opening.{IsBuildable, placed_on, opening_of}
use Rattle.tm_pair.specs.Views.{new_client, new_trustee}
use Rattle.tm_pair.specs.Plain.{client_at, trustee_at, plain_theory}
use Rattle.tm_pair.specs.declared.plain.PlainClient.{PlainClient}
use Rattle.tm_pair.specs.declared.plain.PlainTrustee.{PlainTrustee}
use Rattle.tm_trustee.specs.Serving.{IsServing}
use Rattle.tm_client.specs.Begun.{HasBegun, IsFirstTrust}
use Rattle.tm_client.specs.Clients.{IsClient}
use Rattle.tm_client.specs.declared.trust.Trust.{Trust}
use Rattle.tm_build.specs.Dealing.{AreSplit}
use Rattle.tm_build.specs.Holding.{held_of, ids_in}
use Rattle.tm_turns.specs.Whole.{OneClient, OneTrustee, AreOf}
use Rattle.tm_turns.specs.declared.turns.Turns.{Turns}

-- sides of one place, each as its table gave it
abbrev pub AreNew : {V O R T : Type 0} → ℕ → List (PlainClient V O R T) → Type 0
AreNew p sides = AllByRecursion (λ side. client_at side ≡ new_client p) sides

module _ {V C O R T : Type 0} (kind : Kind V O R T) (config : Config) (first : List (First V)) where
  -- client c with these sides: nothing was asked of it, and it holds just what the list of the build has for it. Its trusts are those of
  -- the objects that name it, in the order of the list, and stand in its list
  pub record IsNewClient (c : ℕ) (sides : List (PlainClient V O R T)) (client : OneClient V C O R T) (trusts : List Trust) : Type 0 where
    pub held : List (ℕ × Name)
    pub named : ids_in held ≡ held_of c first
    pub begun : HasBegun c config sides held client.books
    pub is_client : IsClient (plain_theory kind).client_view (λ t. opening_of t config first) client.books
    pub trusts_are : AllZip (IsFirstTrust client.books) held trusts

  -- the clients of the first n places, each with the sides of its place, and their trusts
  pub record AreNewClients (n : ℕ) (seats : List (List (PlainClient V O R T))) (clients : List (OneClient V C O R T)) (trusts : List (List Trust)) : Type 0 where
    pub as_many : length clients ≡ n
    pub as_many_trusts : length trusts ≡ n
    pub each : (c : ℕ) (client : OneClient V C O R T) (of_client : List Trust) → slice_get clients c ≡ Some client → slice_get trusts c ≡ Some of_client
        → (sides : List (PlainClient V O R T)) × (slice_get seats c ≡ Some sides) × IsNewClient c sides client of_client

module _ {V O R T : Type 0} (kind : Kind V O R T) (config : Config) (first : List (First V)) where
  -- trustee t with these sides: it has what its opening state says, holds above what the list of the build has for it, and moved nothing
  pub record IsNewTrustee (t : ℕ) (home : PlainTrustee V O R T) (seats : List (PlainClient V O R T)) (trustee : OneTrustee V O R T) : Type 0 where
    pub serving : IsServing (plain_theory kind) kind (opening_of t config first) trustee
    pub side : trustee.side ≡ home
    pub above : trustee.above.items ≡ seats
    pub nested : ids_in trustee.nested.items ≡ held_of (config.clients + t) first
    pub moved : trustee.moved ≡ 0

  -- the first n trustees, each with the sides of its place
  pub record AreNewTrustees (n : ℕ) (homes : List (PlainTrustee V O R T)) (seats : List (List (PlainClient V O R T))) (trustees : List (OneTrustee V O R T)) : Type 0 where
    pub as_many : length trustees ≡ n
    pub each : (t : ℕ) (trustee : OneTrustee V O R T) → slice_get trustees t ≡ Some trustee
        → (home : PlainTrustee V O R T) × (seat : List (PlainClient V O R T)) × (slice_get homes t ≡ Some home) × (slice_get seats t ≡ Some seat)
        × IsNewTrustee t home seat trustee

-- a side for each trustee, as its table gave it, in each of the lists of the clients' places
pub record AreForClients {V O R T : Type 0} (config : Config) (seats : List (List (PlainClient V O R T))) : Type 0 where
  pub as_many : (c : ℕ) → c < config.clients → c < length seats
  pub each : (c : ℕ) (sides : List (PlainClient V O R T)) → c < config.clients → slice_get seats c ≡ Some sides
      → (length sides ≡ config.trustees) × AreNew c sides

-- what the trustees hold above by the list of the build, one list for each
pub record AreNestedLists {V : Type 0} (config : Config) (first : List (First V)) (nested : List (List (ℕ × Name))) : Type 0 where
  pub as_many : length nested ≡ config.trustees
  pub each : (t : ℕ) (names : List (ℕ × Name)) → slice_get nested t ≡ Some names → ids_in names ≡ held_of (config.clients + t) first

module _ {V O R T : Type 0} (config : Config) (first : List (First V)) where
  -- the parts of trustee t: its own side and those above, as their tables gave them, what it holds above, and the objects placed on it
  pub record IsPart (t : ℕ) (placed : List (First V)) (home : PlainTrustee V O R T) (seats : List (PlainClient V O R T)) (nested : List (ℕ × Name)) : Type 0 where
    pub buildable : IsBuildable config first
    pub placed_is : placed ≡ placed_on t first
    pub home_is : trustee_at home ≡ new_trustee (config.clients + t)
    pub as_many : t + 1 + length seats ≡ config.trustees
    pub seats_are : AreNew (config.clients + t) seats
    pub nested_is : ids_in nested ≡ held_of (config.clients + t) first

  -- the parts of all trustees
  pub record AreParts (homes : List (PlainTrustee V O R T)) (seats : List (List (PlainClient V O R T))) (nested : List (List (ℕ × Name)))
      (placed : List (List (First V))) : Type 0 where
    pub buildable : IsBuildable config first
    pub as_many_homes : length homes ≡ config.trustees
    pub homes_are : (t : ℕ) (home : PlainTrustee V O R T) → slice_get homes t ≡ Some home → trustee_at home ≡ new_trustee (config.clients + t)
    pub as_many_seats : length seats ≡ config.trustees
    pub seats_are : (t : ℕ) (seat : List (PlainClient V O R T)) → slice_get seats t ≡ Some seat
        → (t + 1 + length seat ≡ config.trustees) × AreNew (config.clients + t) seat
    pub nested_are : AreNestedLists config first nested
    pub placed_are : AreSplit config.trustees first placed

module _ {V C O R T : Type 0} (kind : Kind V O R T) (config : Config) (first : List (First V)) where
  -- clients, tables and trustees were built from a config and a list of objects, and these are the clients' trusts. All are as at first:
  -- each side of a table is as the table gave it
  pub record HasBuilt (turns : Turns V C O R T) (trusts : List (List Trust)) : Type 0 where
    pub are : AreOf kind config first turns
    pub as_many : length trusts ≡ config.clients
    pub clients : (c : ℕ) (client : OneClient V C O R T) (of_client : List Trust) → slice_get turns.clients.items c ≡ Some client
        → slice_get trusts c ≡ Some of_client
        → (sides : List (PlainClient V O R T)) × AreNew c sides × IsNewClient kind config first c sides client of_client
    pub trustees : (t : ℕ) (trustee : OneTrustee V O R T) → slice_get turns.trustees.items t ≡ Some trustee
        → (home : PlainTrustee V O R T) × (seats : List (PlainClient V O R T)) × (trustee_at home ≡ new_trustee (config.clients + t))
        × AreNew (config.clients + t) seats × IsNewTrustee kind config first t home seats trustee
