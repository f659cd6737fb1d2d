-- For tests: a runtime of two clients and two trustees, of which the greater has an object that client 0 holds, and what it is
-- between two calls.
use Rattle.std.specs.Prelude.{◌≡◌, ℕ, zero, suc, max, List, [], ◌∷◌, length, slice_get}
use Rattle.std.specs.declared.option.Option.TheVariants.{Some}
use Rattle.tm_seq.specs.Kind.{Kind}
use Rattle.tm_batch.specs.declared.message.Name.{Name}
use Rattle.tm_batch.specs.declared.config.Config.{Config}
use Rattle.tm_batch.specs.declared.config.First.{First}
use Rattle.tm_model.specs.State.{State}
use Rattle.tm_model.specs.Opening.{opening_of}
use Rattle.tm_pair.specs.Theory.{Theory}
use Rattle.tm_trustee.specs.Tables.{IsReady}
use Rattle.tm_trustee.specs.declared.trustee.Trustee.{Trustee}
use Rattle.tm_client.specs.declared.books.Books.{Books}
use Rattle.tm_client.specs.declared.client.Client.{Client}
use Rattle.tm_client.specs.Asking.{At}
use Rattle.tm_client.specs.Clients.{IsClient}

-- with room for so many trusts of each client, and with as many ids, at least three
abbrev pub small : ℕ → Config
small trusts = record { clients = 2; trustees = 2; objects = 2; trusts = trusts; last_id = max trusts 3 }

-- the object of the build, which client 0 holds
abbrev pub one_object : {V : Type 0} → V → List (First V)
one_object v = record { trustee = 1; value = v; holders = 0 ∷ [] } ∷ []

-- the state in which trustee n opens
abbrev pub opening : {V O R T : Type 0} → V → ℕ → ℕ → State V O R T
opening v trusts n = opening_of n (small trusts) (one_object v)

-- what a client holds at first, by the numbers of the trustees
abbrev pub held_by : ℕ → List (ℕ × Name)
held_by zero = (1, record { id = 1; place = 0 }) ∷ []
held_by (suc c) = []

module _ {V O R T Table Side Owner : Type 0} (theory : Theory V O R T Table Side Owner) where
  -- client i, by what it keeps: its side at trustee 1 is of the table `high`
  pub record IsOne (openings : ℕ → State V O R T) (high : Table) (i : ℕ) (books : Books V ℕ Side O R T) : Type 0 where
    pub number : books.number ≡ i
    pub client : IsClient theory.client_view openings books
    pub seated : At books 1 (λ lane. theory.HasClient high lane.side)

  -- trustee 1 is ready for a turn, and both clients, by their numbers, have sides of its table
  pub record IsPlaying (kind : Kind V O R T) (tables : List Table) (t : Trustee V Table O R T Side Owner)
      (clients : List (Client V ℕ Table O R T Side Owner)) : Type 0 where
    pub openings : ℕ → State V O R T
    pub high : Table
    pub at : slice_get tables 1 ≡ Some high
    pub opens : openings 1 ≡ theory.opening high
    pub ready : IsReady theory kind tables t
    pub number : t.number ≡ 1
    pub count : length clients ≡ 2
    pub each : (i : ℕ) (c : Client V ℕ Table O R T Side Owner) → slice_get clients i ≡ Some c → IsOne openings high i c.books
