-- What a client has seen of a trustee's log.
use Rattle.std.proofs.Common.{◌≡◌, ℕ, ◌≤◌, false, ap, subst, arith}
use Rattle.std.specs.Prelude.{slice_get}
use Rattle.std.specs.declared.option.Option.TheVariants.{Some}
use Rattle.tm_seq.specs.Kind.{Kind}
use Rattle.tm_model.specs.State.{State, IsHeld}
use Rattle.tm_model.specs.Serve.{state_after}
use Rattle.tm_model.specs.Holds.{has_bye, came}
use Rattle.tm_core.proofs.Tallies.{gave-append}
use Rattle.tm_pair.specs.Sides.{IsGoodClient}
use Rattle.tm_pair.specs.Theory.{Theory}
use Rattle.tm_client.specs.declared.lane.Lane.{Lane}
use Rattle.tm_client.specs.declared.books.Books.{Books}
use Rattle.tm_client.specs.Listing.{listed}
use Rattle.tm_client.specs.Clients.{IsClient}
use Rattle.tm_client.specs.Turns.{Sees}
use Rattle.tm_client.proofs.Living.{sent_is, answers_are, answers_fitting, live}

module _ {V C D O R T Table Owner : Type 0} (theory : Theory V O R T Table D Owner) (kind : Kind V O R T) (openings : ℕ → State V O R T) (t : ℕ)
    (lane : Lane V C D O R T) (books : Books V C D O R T) (is : IsClient theory.client_view openings books)
    (there : slice_get books.lanes.items t ≡ Some lane) (good : IsGoodClient kind (openings t) (theory.client_view lane.side)) where
  -- until the Bye each id that the client's list names is live and held in the state that the seen log leaves
  listed_is_live : (id : ℕ) → has_bye (theory.client_view lane.side).sent ≡ false → 1 ≤ listed t id books.held
      → IsHeld (state_after kind (openings t) (theory.client_view lane.side).seen) (theory.client_view lane.side).place id
  listed_is_live id none some =
      let side = theory.client_view lane.side in
      let holds = is.holds t lane id there in
      let place = ap (λ c. came (openings t) c side.sent side.got id) (is.lanes t lane there).place in
      let joined = gave-append id side.sent lane.waits.items in
      live kind (openings t) side good id (λ bye. absurd cc) (omega (arith, holds, place, joined, some))

  pub sees : Sees theory kind (openings t) t lane books
  sees = record {
    is_legal = good.is_legal;
    runs = sent_is kind (openings t) (theory.client_view lane.side) good;
    entries = answers_are kind (openings t) (theory.client_view lane.side) good;
    fits = answers_fitting kind (openings t) (theory.client_view lane.side) good;
    live = listed_is_live;
  }

  -- by the state in which the trustee opened
  pub sees_at : (opening : State V O R T) → openings t ≡ opening → Sees theory kind opening t lane books
  sees_at opening same = subst (λ s. Sees theory kind s t lane books) same sees
