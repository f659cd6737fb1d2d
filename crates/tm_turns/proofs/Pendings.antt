-- What a lane that fetches or rests tells of its launches that are pending.
use Rattle.std.proofs.Common.{◌≡◌, ◌≢◌, ℕ, ◌+◌, ◌≤◌, inl, inr, List, [], ◌∷◌, length, refl, ◌∙◌, ap, arith}
use Rattle.std.specs.declared.option.Option.{Option}
use Rattle.std.specs.declared.option.Option.TheVariants.{None}
use Rattle.std.proofs.lemmas.Bool.{cases_eq}
use Rattle.std.proofs.lemmas.List.{length-map}
use Rattle.std.proofs.lemmas.Option.{slice_get_within}
use Rattle.tm_seq.specs.Kind.{Kind}
use Rattle.tm_batch.specs.declared.config.Config.{Config}
use Rattle.tm_batch.specs.declared.config.First.{First}
use Rattle.tm_model.specs.Holds.{has_bye, launches_in}
use Rattle.tm_pair.specs.Views.{BatchView}
use Rattle.tm_pair.specs.Plain.{opening_at, client_at, plain_theory}
use Rattle.tm_trustee.proofs.Elements.{element_at}
use Rattle.tm_client.specs.declared.lane.Unfinished.{Unfinished}
use Rattle.tm_client.specs.Lanes.{out_requests}
use Rattle.tm_client.specs.Turns.{IsByeDue, IsFetchDue}
use Rattle.tm_client.proofs.Tickets.{tickets_tell}
use Rattle.tm_turns.specs.Whole.{OneLane, HasLane, AreOf}
use Rattle.tm_turns.specs.declared.turns.Turns.{Turns}
use Rattle.tm_turns.proofs.Ones.{bool_cases}
use Rattle.tm_turns.proofs.Weights.{HasCause, pending_at}

some_there : {X : Type 0} (xs : List X) → xs ≢ [] → 1 ≤ length xs
some_there [] ne = absurd (ne refl)
some_there (x ∷ xs) ne = omega arith

module _ {V C O R T : Type 0} (kind : Kind V O R T) (config : Config) (first : List (First V)) (turns : Turns V C O R T) (c t : ℕ) (lane : OneLane V C O R T)
    (are : AreOf kind config first turns) (has : HasLane turns c t lane) where
  -- the launches that are pending are those that are out, and those that lack their completion
  pub pending_are :
      pending_at (client_at lane.side) ≡ launches_in (out_requests (client_at lane.side).out) + length lane.launched.items
  pending_are =
      let within = slice_get_within has.client.books.lanes.items t lane has.of_lane in
      let (number, many, ok) = are.clients c has.client has.of_client in
      let tables = are.as_many_tables in
      let (table, at) = element_at turns.tables.items t (omega (arith, within, many, tables)) in
      let mine = are.seated c t lane table has at in
      let tells = (tickets_tell kind (opening_at table) (client_at lane.side) mine.is_good).launches in
      let waiting = ap (λ l. length l) (ok.lanes t lane has.of_lane).launched in
      let as_many = length-map lane.launched.items (λ (l : Unfinished C). l.ticket) in
      omega (arith, tells, waiting, as_many)

  -- a fetch is due where the client asked for one, or a launch of its is pending
  pub fetch_cause : IsFetchDue (plain_theory kind) lane → HasCause kind lane
  fetch_cause due =
      elim due.3 [
        | inl asked ↦ inl asked
        | inr some ↦ let many = some_there lane.launched.items some in let all = pending_are in inr (omega (arith, many, all))
      ]

  -- where nothing is out and nothing is due, none is pending
  pub none_pending :
      (client_at lane.side).out ≡ None → lane.waits.items ≡ [] → ¬ (IsByeDue (plain_theory kind) lane) → ¬ (IsFetchDue (plain_theory kind) lane)
      → pending_at (client_at lane.side) ≡ 0
  none_pending free waits no_bye no_fetch =
      let (number, many, ok) = are.clients c has.client has.of_client in
      let own = ok.lanes t lane has.of_lane in
      let all = pending_are in
      let out = ap (λ (o : Option (BatchView V O R T)). launches_in (out_requests o)) free in
      elim (cases_eq (length lane.launched.items) 0) [
        | inl none ↦ omega (arith, all, out, none)
        | inr some ↦
            elim (bool_cases (has_bye (client_at lane.side).sent)) [
              | inl said ↦
                  let counting = own.counting in
                  let last = (own.last (own.said ∙ said)).1 in
                  absurd (omega (arith, counting, last, some))
              | inr unsaid ↦ absurd (no_fetch (waits, no_bye, unsaid, inr (λ e. some (ap (λ l. length l) e))))
            ]
      ]
