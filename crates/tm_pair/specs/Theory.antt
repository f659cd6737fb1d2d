-- What a table and its sides stand for, what a call at one keeps of the others, and what each table owes.
use Rattle.std.specs.Prelude.{◌≡◌, ◌≢◌, ℕ, ◌<◌, List, length, slice_index_or}
use Rattle.tm_seq.specs.Kind.{Kind}
use Rattle.tm_model.specs.State.{State, place_count}
use Rattle.tm_pair.specs.Views.{ClientView, TrusteeView, new_client, new_trustee}
use Rattle.tm_pair.specs.Sides.{IsGoodClient, IsGoodTrustee}
use Rattle.tm_pair.specs.declared.moves.Move.{Move}

-- what a kind of table tells, by the values, operations, replies and tasks of its kind, the tables and their sides
pub record Theory (V O R T Table Client Owner : Type 0) : Type 1 where
  -- the state in which the trustee opened, from which all logs are legal
  pub opening : Table → State V O R T
  -- what a client's side and the trustee's stand for
  pub client_view : Client → ClientView V O R T
  pub trustee_view : Owner → TrusteeView V O R T
  -- a side is one of a table
  pub HasClient : Table → Client → Type 0
  pub HasTrustee : Table → Owner → Type 0
  -- two handles are of one table, or one is what calls left of the other
  pub Same : Table → Table → Type 0
  -- what a call did to the table itself, as far as its kind tells
  pub Did : Move V O R T → Table → Table → Type 0

module _ {V O R T Table Client Owner : Type 0} (t : Theory V O R T Table Client Owner) where
  -- a call at a client's side keeps the table, the side, the sides of other places and the trustee's
  pub record KeepsSides (was now : Table) (before after : Client) : Type 0 where
    pub same : t.Same was now
    pub opening : t.opening now ≡ t.opening was
    pub mine : t.HasClient now after
    pub clients : (other : Client) → (t.client_view other).place ≢ (t.client_view before).place → t.HasClient was other → t.HasClient now other
    pub trustee : (other : Owner) → t.HasTrustee was other → t.HasTrustee now other

  -- a call at the trustee's side keeps the table, the side and all clients' sides
  pub record KeepsClients (was now : Table) (after : Owner) : Type 0 where
    pub same : t.Same was now
    pub opening : t.opening now ≡ t.opening was
    pub mine : t.HasTrustee now after
    pub clients : (other : Client) → t.HasClient was other → t.HasClient now other

  -- what each table owes: its sides are good, and to be of one table is an equivalence, which keeps the opening state
  pub record TheoryLaws (kind : Kind V O R T) : Type 0 where
    pub client_is_good : (table : Table) (side : Client) → t.HasClient table side → IsGoodClient kind (t.opening table) (t.client_view side)
    pub trustee_is_good : (table : Table) (side : Owner) → t.HasTrustee table side → IsGoodTrustee kind (t.opening table) (t.trustee_view side)
    pub same_refl : (a : Table) → t.Same a a
    pub same_sym : (a b : Table) → t.Same a b → t.Same b a
    pub same_trans : (a b c : Table) → t.Same a b → t.Same b c → t.Same a c
    pub same_opens : (a b : Table) → t.Same a b → t.opening b ≡ t.opening a

  -- a client's side of place c of a table, at first
  pub record IsNewClientOf (table : Table) (c : ℕ) (side : Client) : Type 0 where
    pub mine : t.HasClient table side
    pub view : t.client_view side ≡ new_client c

  -- a table that opened in this state, with its sides at first: one client's side for each place, in order, and the trustee's
  pub record IsNewTable (opening : State V O R T) (table : Table) (clients : List Client) (trustee : Owner) : Type 0 where
    pub opens : t.opening table ≡ opening
    pub count : length clients ≡ place_count opening.setup
    pub clients_are : (c : ℕ) (side : Client) → c < length clients → side ≡ slice_index_or clients c side → IsNewClientOf table c side
    pub mine : t.HasTrustee table trustee
    pub view : t.trustee_view trustee ≡ new_trustee (place_count opening.setup)
