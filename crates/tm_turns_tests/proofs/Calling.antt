-- A client keeps its sides where it asks something, and so the whole stays that of one build.
use Rattle.std.proofs.Common.{◌≡◌, ℕ, ◌<◌, inl, inr, length, length-set, refl, sym, ◌∙◌, ap, subst, arith}
use Rattle.std.specs.Prelude.{slice_get, slice_set, List, [], OnOk, OnErr, MatchOption}
use Rattle.std.specs.declared.option.Option.{Option}
use Rattle.std.specs.declared.option.Option.TheVariants.{None, Some}
use Rattle.std.specs.declared.result.Result.{Result}
use Rattle.std.specs.declared.result.Result.TheVariants.{Ok, Err}
use Rattle.tm_seq.specs.Kind.{Kind}
use Rattle.tm_batch.specs.declared.message.Request.{Request}
use Rattle.tm_model.specs.State.{State}
use Rattle.tm_model.specs.Opening.{opening_of}
use Rattle.tm_pair.specs.Plain.{plain_theory}
use Rattle.tm_trustee.proofs.Elements.{set_cases, same_element}
use Rattle.tm_client.specs.Asking.{HasAsked}
use Rattle.tm_client.specs.Taking.{HasTaken}
use Rattle.tm_client.specs.declared.answers.Got.{Got}
use Rattle.tm_client.specs.Clients.{IsClient}
use Rattle.tm_client.specs.declared.lane.Lane.{Lane}
use Rattle.tm_client.specs.declared.books.Books.{Books}
use Rattle.tm_turns.specs.Whole.{OneClient, AreTurns, Keeps, SameSides, StillClient, CallsAt}
use Rattle.tm_turns.specs.declared.turns.Turns.{Turns}
use Rattle.tm_turns.proofs.Clients.{calls_keep}

module _ {V C D O R T : Type 0} where
  one_set :
      (xs : List (Lane V C D O R T)) (i : ℕ) (lane becomes : Lane V C D O R T) (t : ℕ) (was now : Lane V C D O R T) → slice_get xs i ≡ Some lane
      → becomes.side ≡ lane.side → slice_get xs t ≡ Some was → slice_get (slice_set xs i becomes) t ≡ Some now → now.side ≡ was.side
  one_set xs i lane becomes t was now of same at e =
      elim (set_cases xs i t becomes now e) [
        | inl h ↦
            let here : slice_get xs i ≡ Some was = subst (λ k. slice_get xs k ≡ Some was) h.0 at in
            ap (λ (l : Lane V C D O R T). l.side) h.1 ∙ same ∙ ap (λ (l : Lane V C D O R T). l.side) (sym (same_element xs i lane was of here))
        | inr h ↦ ap (λ (l : Lane V C D O R T). l.side) (same_element xs t was now at h.1)
      ]

  asked_sides :
      (t : ℕ) (q : Request V O R T) (after : C) (more : ℕ) (old new : Books V C D O R T) → HasAsked t q after more old new → SameSides old new
  asked_sides t q after more old new is = record {
    number = is.rest.number;
    as_many = ap (λ xs. length xs) is.lanes ∙ length-set old.lanes.items t is.becomes;
    sides = λ s lane becomes at e.
        one_set old.lanes.items t is.lane is.becomes s lane becomes is.of_lane is.accepts.side at (subst (λ xs. slice_get xs s ≡ Some becomes) is.lanes e);
  }

  taken_sides : (after : C) (got : Got V O R T) (old new : Books V C D O R T) → HasTaken after got old new → SameSides old new
  taken_sides after got old new is = record {
    number = is.number;
    as_many = ap (λ xs. length xs) is.lanes ∙ length-set old.lanes.items is.t is.becomes;
    sides = λ s lane becomes at e.
        one_set old.lanes.items is.t is.lane is.becomes s lane becomes is.of_lane is.counts.side at
        (subst (λ xs. slice_get xs s ≡ Some becomes) is.lanes e);
  }

  same_sides : (books : Books V C D O R T) → SameSides books books
  same_sides books = record {
    number = refl;
    as_many = refl;
    sides = λ t lane becomes at e. ap (λ (l : Lane V C D O R T). l.side) (same_element books.lanes.items t lane becomes at e);
  }

module _ {V C O R T : Type 0} where
  -- whether it was taken or refused
  answered_sides :
      {A E : Type 0} (r : Result A E) (t : ℕ) (q : Request V O R T) (after : C) (client becomes : OneClient V C O R T)
      → OnOk r (HasAsked t q after 0 client.books becomes.books) → OnErr r (becomes ≡ client) → SameSides client.books becomes.books
  answered_sides (Ok a) t q after client becomes asked err = asked_sides t q after 0 client.books becomes.books asked
  answered_sides (Err a) t q after client becomes asked err =
      subst (λ (x : OneClient V C O R T). SameSides client.books x.books) (sym err) (same_sides client.books)

  -- whether something had come or not
  came_sides :
      (r : Option (C × Got V O R T)) (client becomes : OneClient V C O R T)
      → MatchOption r ((client.books.arrived.items ≡ []) × (becomes ≡ client)) (λ taken. HasTaken taken.0 taken.1 client.books becomes.books)
      → SameSides client.books becomes.books
  came_sides None client becomes is = subst (λ (x : OneClient V C O R T). SameSides client.books x.books) (sym is.1) (same_sides client.books)
  came_sides (Some taken) client becomes is = taken_sides taken.0 taken.1 client.books becomes.books is

  module _ (kind : Kind V O R T) where
    pub taking_keeps :
        (r : Option (C × Got V O R T)) (c : ℕ) (client becomes : OneClient V C O R T) (old new : Turns V C O R T) → CallsAt c client becomes old new
        → MatchOption r ((client.books.arrived.items ≡ []) × (becomes ≡ client)) (λ taken. HasTaken taken.0 taken.1 client.books becomes.books)
        → StillClient kind client becomes → Keeps kind old new
    taking_keeps r c client becomes old new calls came still =
        calls_keep kind c client becomes old new calls (came_sides r client becomes came) still

    pub asking_keeps :
        {A E : Type 0} (r : Result A E) (c t : ℕ) (q : Request V O R T) (after : C) (client becomes : OneClient V C O R T) (old new : Turns V C O R T)
        → CallsAt c client becomes old new → OnOk r (HasAsked t q after 0 client.books becomes.books) → OnErr r (becomes ≡ client)
        → StillClient kind client becomes → Keeps kind old new
    asking_keeps r c t q after client becomes old new calls asked err still =
        calls_keep kind c client becomes old new calls (answered_sides r t q after client becomes asked err) still

    -- a client of the whole may be called
    pub may_call :
        (c : ℕ) (client : OneClient V C O R T) (turns : Turns V C O R T) → AreTurns kind turns → slice_get turns.clients.items c ≡ Some client
        → (openings : ℕ → State V O R T) × IsClient (plain_theory kind).client_view openings client.books
    may_call c client turns (config, first, are) of =
        let (number, many, ok) = are.clients c client of in (λ s. opening_of s config first, ok)

    -- what keeps the whole keeps how many clients there are
    pub clients_stay :
        (old mid new : Turns V C O R T) → AreTurns kind old → Keeps kind old mid → Keeps kind mid new → 0 < length old.clients.items
        → 0 < length new.clients.items
    clients_stay old mid new (config, first, are) first_keeps then_keeps lt =
        let was = are.as_many_clients in
        let now = (then_keeps config first (first_keeps config first are)).as_many_clients in omega (arith, lt, was, now)

    pub kept : (old new : Turns V C O R T) → AreTurns kind old → Keeps kind old new → AreTurns kind new
    kept old new (config, first, are) keeps = (config, first, keeps config first are)
