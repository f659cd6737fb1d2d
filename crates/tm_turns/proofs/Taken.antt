-- Where nothing waits or is out, and all that arrived was taken, nothing counts.
use Rattle.std.proofs.Common.{◌≡◌, ◌≢◌, ℕ, inl, inr, List, [], ◌∷◌, ◌++◌, length, refl, ◌∙◌, ap, arith}
use Rattle.std.specs.declared.option.Option.{Option}
use Rattle.std.specs.declared.option.Option.TheVariants.{None}
use Rattle.tm_seq.specs.Kind.{Kind}
use Rattle.tm_batch.specs.declared.message.Request.{Request}
use Rattle.tm_model.specs.State.{State}
use Rattle.tm_model.specs.Holds.{has_bye}
use Rattle.tm_pair.specs.Views.{BatchView}
use Rattle.tm_pair.specs.Plain.{client_at, plain_theory}
use Rattle.tm_pair.specs.declared.plain.PlainClient.{PlainClient}
use Rattle.tm_client.specs.Lanes.{asks_in, out_requests, unanswered, IsLane}
use Rattle.tm_turns.specs.Whole.{OneLane}
use Rattle.tm_turns.specs.Resting.{IsLaneAtRest}
use Rattle.tm_turns.proofs.Ones.{bool_cases}
use Rattle.tm_turns.proofs.Shutting.{TakenLane}

none_if : {X : Type 0} (xs : List X) → ((xs ≢ []) → ⊥) → xs ≡ []
none_if [] none = refl
none_if (x ∷ xs) none = absurd (none (λ e. cc))

module _ {V C O R T : Type 0} (kind : Kind V O R T) where
  pub taken_counts :
      (opening : State V O R T) (c came : ℕ) (b d : OneLane V C O R T) → IsLaneAtRest kind b → TakenLane b d
      → IsLane (plain_theory kind).client_view opening c came d → came ≡ 0 → d.counting ≡ 0
  taken_counts opening c came b d quiet its lane_is come =
      let counts = lane_is.counting in
      let out : (client_at d.side).out ≡ None = ap (λ (s : PlainClient V O R T). (client_at s).out) its.side ∙ quiet.out in
      let waits : d.waits.items ≡ [] = ap (λ w. w.items) its.waits ∙ quiet.waits in
      let none : unanswered client_at d ≡ [] =
      ap (λ (o : Option (BatchView V O R T)). asks_in (out_requests o) ++ d.waits.items) out ∙ waits in
      let none_count : length (unanswered client_at d) ≡ 0 = ap (λ (qs : List (Request V O R T)). length qs) none in
      let sent : (client_at d.side).sent ≡ (client_at b.side).sent = ap (λ (s : PlainClient V O R T). (client_at s).sent) its.side in
      elim (bool_cases (has_bye (client_at b.side).sent)) [
        | inl said ↦ (lane_is.last (lane_is.said ∙ ap (λ (qs : List (Request V O R T)). has_bye qs) sent ∙ said)).1
        | inr unsaid ↦
            let none_b : b.launched.items ≡ [] =
            none_if b.launched.items (λ some. quiet.no_fetch (quiet.waits, quiet.no_bye, unsaid, inr some)) in
            let launched : length d.launched.items ≡ 0 = ap (λ w. length w.items) its.launched ∙ ap (λ xs. length xs) none_b in
            omega (arith, counts, none_count, launched, come)
      ]
