-- What a turn of a client or of a trustee does to the whole.
use Rattle.std.specs.Prelude.{◌≡◌, ℕ, zero, suc, ◌+◌, ◌-◌, ◌^◌, ◌<◌, ◌≤◌, ◌⊎◌, min, nat_lt, Bool, true, false, ◌||◌, cond, List, [], ◌∷◌, length, slice_get, slice_set}
use Rattle.std.specs.List.{range_with_len}
use Rattle.std.specs.declared.option.Option.TheVariants.{Some}
use Rattle.tm_seq.specs.Kind.{Kind}
use Rattle.tm_pair.specs.Plain.{plain_theory}
use Rattle.tm_pair.specs.declared.plain.PlainTable.{PlainTable}
use Rattle.tm_trustee.specs.Tables.{KeepsTables}
use Rattle.tm_trustee.specs.Turn.{HasGoneUp, KeepsParts, HasTurned as HasServed}
use Rattle.tm_trustee.specs.declared.served.Served.{Served}
use Rattle.tm_client.specs.Turns.{HasTurned}
use Rattle.tm_client.specs.declared.answers.Turn.{Turn}
use Rattle.tm_client.specs.declared.answers.Turn.TheVariants.{Sent, Pending, Got, Idle}
use Rattle.tm_turns.specs.Whole.{OneClient, OneTrustee, Keeps}
use Rattle.tm_turns.specs.declared.turns.Turns.{Turns}

-- a client's turn at a trustee moved something: requests went, or answers came
abbrev pub has_moved : Turn → Bool
has_moved (Sent n) = true
has_moved (Got n) = true
has_moved Pending = false
has_moved Idle = false

module _ {V C O R T : Type 0} (kind : Kind V O R T) where
  -- client c made its turn at trustee t, which said `answer`; all else is as it was
  pub record TurnsAt (c t : ℕ) (answer : Turn) (old new : Turns V C O R T) : Type 0 where
    pub client : OneClient V C O R T
    pub becomes : OneClient V C O R T
    pub was : PlainTable V O R T
    pub now : PlainTable V O R T
    pub of_client : slice_get old.clients.items c ≡ Some client
    pub of_table : slice_get old.tables.items t ≡ Some was
    pub turned : HasTurned (plain_theory kind) kind t answer was now client.books becomes.books
    pub clients : new.clients.items ≡ slice_set old.clients.items c becomes
    pub tables : new.tables.items ≡ slice_set old.tables.items t now
    pub trustees : new.trustees ≡ old.trustees
    pub counts : new.counts ≡ old.counts
    pub keeps : Keeps kind old new

  -- client c made its turns at the trustees below n, in order; whether one of them moved something
  unfoldable pub TurnsBelow : ℕ → ℕ → Bool → Turns V C O R T → Turns V C O R T → Type 0
  TurnsBelow c zero moved old new = (moved ≡ false) × (new ≡ old)
  TurnsBelow c (suc n) moved old new =
      (mid : Turns V C O R T) × (before : Bool) × (answer : Turn) × TurnsBelow c n before old mid × TurnsAt c n answer mid new
      × (moved ≡ (before || has_moved answer))

  -- trustee t made its serving turn, which said `served`; no client changed but by what it keeps of the tables
  pub record ServesAt (t : ℕ) (served : Served) (old new : Turns V C O R T) : Type 0 where
    pub trustee : OneTrustee V O R T
    pub becomes : OneTrustee V O R T
    pub of_trustee : slice_get old.trustees.items t ≡ Some trustee
    pub turned : (was now : PlainTable V O R T) → slice_get old.tables.items trustee.number ≡ Some was → slice_get new.tables.items trustee.number ≡ Some now
        → HasServed (plain_theory kind) kind was now trustee becomes served
    pub above : HasGoneUp (plain_theory kind) old.tables.items new.tables.items trustee becomes
    pub tables : KeepsTables (plain_theory kind) old.tables.items new.tables.items trustee.number (trustee.clients + trustee.number)
    pub parts : KeepsParts trustee becomes
    pub trustees : new.trustees.items ≡ slice_set old.trustees.items t becomes
    pub clients : new.clients ≡ old.clients
    pub counts : new.counts ≡ old.counts
    pub keeps : Keeps kind old new

  -- that turn, and whether it moved something
  abbrev pub Serves : ℕ → Bool → Turns V C O R T → Turns V C O R T → Type 0
  Serves t moved old new = (served : Served) × (serves : ServesAt t served old new) × (moved ≡ nat_lt 0 serves.becomes.moved)

  -- number k's turn, and whether it moved something: that of a client at every trustee, that of a trustee by its place, or none
  abbrev pub Goes : ℕ → Bool → Turns V C O R T → Turns V C O R T → Type 0
  Goes k moved old new =
      ((k < length old.clients.items) × TurnsBelow k (length old.tables.items) moved old new)
      ⊎ (((t : ℕ) × (k ≡ length old.clients.items + t) × (t < length old.trustees.items) × Serves t moved old new)
      ⊎ ((length old.clients.items + length old.trustees.items ≤ k) × (moved ≡ false) × (new ≡ old)))

  -- the numbers had their turns, in order, of which n moved something
  unfoldable pub AllGo : List ℕ → ℕ → Turns V C O R T → Turns V C O R T → Type 0
  AllGo [] n old new = (n ≡ 0) × (new ≡ old)
  AllGo (k ∷ ks) n old new =
      (mid : Turns V C O R T) × (moved : Bool) × (more : ℕ) × Goes k moved old mid × AllGo ks more mid new × (n ≡ cond moved 1 0 + more)

  -- one round: all clients and then all trustees
  abbrev pub GoesRound : ℕ → Turns V C O R T → Turns V C O R T → Type 0
  GoesRound n old new = AllGo (range_with_len 0 (length old.clients.items + length old.trustees.items)) n old new

  -- so many rounds one after another, in each of which something moved, n turns together
  unfoldable pub Rounds : ℕ → ℕ → Turns V C O R T → Turns V C O R T → Type 0
  Rounds zero n old new = (n ≡ 0) × (new ≡ old)
  Rounds (suc rounds) n old new =
      (mid : Turns V C O R T) × (before : ℕ) × (more : ℕ) × Rounds rounds before old mid × GoesRound more mid new × (1 ≤ more) × (n ≡ before + more)

  -- the numbers of a list had their turns, and then all in rounds until one moved nothing; of all these turns n moved something, as a `u64`
  -- counts them
  pub record HasRun (order : List ℕ) (n : ℕ) (old new : Turns V C O R T) : Type 0 where
    pub listed : Turns V C O R T
    pub last : Turns V C O R T
    pub first : ℕ
    pub rounds : ℕ
    pub then : ℕ
    pub list : AllGo order first old listed
    pub goes_round : Rounds rounds then listed last
    pub quiet : GoesRound 0 last new
    pub total : n ≡ min (first + then) (2 ^ 64 - 1)
