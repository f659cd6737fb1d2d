-- What came for the requests that were out at a lane. Other crates import from this file.
use Rattle.std.proofs.Common.{◌≡◌, ℕ, ◌<◌, ◌⊎◌, true, false, List, [], ◌∷◌, ◌++◌, length, map, inl, inr, refl, sym, ◌∙◌, ap, subst, arith, length-append}
use Rattle.std.specs.Prelude.{Bool, nat_eq, slice_get}
use Rattle.std.specs.List.{AllByRecursion, IsDistinct}
use Rattle.std.specs.declared.option.Option.TheVariants.{Some}
use Rattle.std.proofs.lemmas.Option.{slice_get_within}
use Rattle.std.proofs.lemmas.List.{map-append}
use Rattle.tm_batch.specs.declared.message.Request.{Request}
use Rattle.tm_batch.specs.declared.message.AnswerBatch.{AnswerBatch}
use Rattle.tm_model.specs.State.{State}
use Rattle.tm_model.specs.Holds.{has_bye}
use Rattle.tm_pair.specs.Views.{ClientView}
use Rattle.tm_client.specs.declared.lane.Lane.{Lane}
use Rattle.tm_client.specs.declared.books.Books.{Books}
use Rattle.tm_client.specs.Lanes.{asks_in, out_requests, IsAccepted, name_of, names_of, unanswered, IsLane}
use Rattle.tm_client.specs.Launches.{told_tickets, tickets_of, waiting_tickets, launches_of, with_told}
use Rattle.tm_client.specs.Clients.{come_of, IsClient}
use Rattle.tm_client.specs.SideLaws.{Brings}
use Rattle.tm_client.specs.Tickets.{EndsTickets}
use Rattle.tm_client.proofs.Accepting.{as_many_wait}
use Rattle.tm_client.proofs.Arriving.{Arrives, arrives, none_arrives, no_bye_asks, bye_behind}
use Rattle.tm_client.proofs.Ended.{Finishes, finishes}

pub none_left : {X : Type 0} (xs : List X) → length xs ≡ 0 → xs ≡ []
none_left [] e = refl
none_left (x ∷ xs) e = absurd (omega (arith, e))

none_asked_of : {X : Type 0} (xs ys : List X) → length (xs ++ ys) ≡ 0 → xs ≡ []
none_asked_of xs ys e = let joined = length-append xs ys in none_left xs (omega (arith, e, joined))

pub bool_cases : (b : Bool) → (b ≡ true) ⊎ (b ≡ false)
bool_cases true = inl refl
bool_cases false = inr refl

module _ {V C D O R T : Type 0} (view : D → ClientView V O R T) (openings : ℕ → State V O R T) (t : ℕ) (a : AnswerBatch V O R T)
    (lane : Lane V C D O R T) (old : Books V C D O R T) (is : IsClient view openings old) (there : slice_get old.lanes.items t ≡ Some lane)
    (new : ClientView V O R T) (run : List (Request V O R T)) (ran_is : (view lane.side).sent ≡ run ++ out_requests (view lane.side).out)
    (same : length a.answers.items ≡ length (out_requests (view lane.side).out))
    (brings : Brings (openings t) (out_requests (view lane.side).out) a (view lane.side) new) (ends : EndsTickets a (view lane.side) new) where
  within : t < length old.lanes.items
  within = slice_get_within old.lanes.items t lane there

  was : IsLane view (openings t) old.number (come_of t old.arrived.items) lane
  was = is.lanes t lane there

  pub after_each : length lane.afters.items ≡ length (unanswered view lane)
  after_each = as_many_wait view (openings t) old.number (come_of t old.arrived.items) lane was

  -- the names of what is out come first
  pub names_are : names_of lane.afters.items ≡ map name_of (asks_in (out_requests (view lane.side).out)) ++ map name_of lane.waits.items
  names_are = was.names ∙ map-append name_of (asks_in (out_requests (view lane.side).out)) lane.waits.items

  -- with a Bye out nothing counts
  pub bye_alone : has_bye (out_requests (view lane.side).out) ≡ true → length (unanswered view lane) ≡ 0
  bye_alone bye =
      let sent : has_bye (view lane.side).sent ≡ true = ap has_bye ran_is ∙ bye_behind run (out_requests (view lane.side).out) bye in
      let none = (was.last (was.said ∙ sent)).1 in
      let counts = was.counting in
      omega (arith, none, counts)

  pub arriving : Arrives t (length old.lanes.items) (out_requests (view lane.side).out) lane.afters.items a.answers.items
  arriving =
      elim (bool_cases (has_bye (out_requests (view lane.side).out))) [
        | inl bye ↦
            let none = none_asked_of (asks_in (out_requests (view lane.side).out)) lane.waits.items (bye_alone bye) in
            let empty = none_left lane.afters.items (after_each ∙ bye_alone bye) in
            subst (λ ks. Arrives t (length old.lanes.items) (out_requests (view lane.side).out) ks a.answers.items) (sym empty)
            (none_arrives t (length old.lanes.items) (out_requests (view lane.side).out) a.answers.items none brings.fits)
        | inr none ↦
            let asks = ap length (no_bye_asks (out_requests (view lane.side).out) none) in
            let joined = length-append (asks_in (out_requests (view lane.side).out)) lane.waits.items in
            let afters = after_each in
            arrives t (length old.lanes.items) (out_requests (view lane.side).out) lane.afters.items a.answers.items (map name_of lane.waits.items)
            (names_are ∙ ap (λ l. map name_of l ++ map name_of lane.waits.items) (no_bye_asks (out_requests (view lane.side).out) none)) within brings.fits same brings.bring none
            (subst (AllByRecursion IsAccepted) (no_bye_asks (out_requests (view lane.side).out) none) was.out_accepted)
            (omega (arith, asks, joined, afters))
      ]

  -- the tickets of the launches that lack their completion, and of those that begin
  pub tickets_are : tickets_of (with_told lane a) ≡ waiting_tickets (view lane.side).got ++ told_tickets a.answers.items
  tickets_are =
      map-append (λ l. l.ticket) lane.launched.items (launches_of lane.afters.items a.answers.items)
      ∙ ap (λ l. l ++ tickets_of (launches_of lane.afters.items a.answers.items)) was.launched
      ∙ ap (λ l. waiting_tickets (view lane.side).got ++ l) arriving.tickets

  pub once : IsDistinct nat_eq (tickets_of (with_told lane a))
  once = subst (IsDistinct nat_eq) (sym tickets_are) ends.told

  pub finishing : Finishes t (length old.lanes.items) (with_told lane a) a.completions.items
  finishing = finishes t (length old.lanes.items) (with_told lane a) a.completions.items within once ends.ended
