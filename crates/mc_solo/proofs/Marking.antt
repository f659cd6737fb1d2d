-- The marks of a session, and the states of the whole that go with them.
use Rattle.std.proofs.Common.{◌≡◌, ℕ, inl, inr, List, [], ◌∷◌, ◌++◌, length, refl, sym, ◌∙◌, ap, subst, append-nil}
use Rattle.std.specs.Prelude.{slice_get}
use Rattle.std.specs.declared.option.Option.TheVariants.{Some}
use Rattle.tm_asking.specs.Asking.{AllOpen}
use Rattle.tm_turns.specs.Whole.{AreTurns, Keeps}
use Rattle.tm_turns.specs.Driving.{ServesEach}
use Rattle.mc_next.specs.Parts.{StoreView, store_kind}
use Rattle.mc_next.specs.Sessions.{HasMarked}
use Rattle.mc_solo.specs.Serving.{StoreTurns, StoreClient, store_view, KeepsOthers, GoesOn, IsMark, AreMarked, last_state}
use Rattle.mc_solo.specs.Driving.{HasMarks}
use Rattle.mc_solo.proofs.Growing.{grow_same, grow_on, all_grow}

pub both_others : (place : ℕ) (old mid new : StoreTurns) → KeepsOthers place old mid → KeepsOthers place mid new → KeepsOthers place old new
both_others place old mid new a b = record {
  as_many = b.as_many ∙ a.as_many;
  others = λ c other. b.others c other ∙ a.others c other;
}

module _ (place : ℕ) where
  pub on_none : (turns : StoreTurns) → GoesOn place turns turns
  on_none turns = record {
    keeps = λ config first of. of;
    logs = grow_same turns turns refl;
    others = record { as_many = refl; others = λ c other. refl };
  }

  pub on_then : (old mid new : StoreTurns) → GoesOn place old mid → GoesOn place mid new → GoesOn place old new
  on_then old mid new f g = record {
    keeps = λ config first of. g.keeps config first (f.keeps config first of);
    logs = grow_on old mid new f.logs g.logs;
    others = both_others place old mid new f.others g.others;
  }

  -- the trustees served
  pub on_served : (n : ℕ) (turns served : StoreTurns) → AreTurns store_kind turns → served.clients ≡ turns.clients → Keeps store_kind turns served
      → ServesEach store_kind n turns served → GoesOn place turns served
  on_served n turns served (config, first, are) same keeps serves = record {
    keeps = keeps;
    logs = all_grow store_kind config first _ n turns served are serves;
    others = record { as_many = ap (λ xs. length xs.items) same; others = λ c other. ap (λ xs. slice_get xs.items c) same };
  }

  last_more : (start : StoreTurns) (states : List StoreTurns) (mid : StoreTurns) → last_state start (states ++ mid ∷ []) ≡ mid
  last_more start [] mid = refl
  last_more start (s ∷ states) mid = last_more s states mid

  marked_more : (start : StoreTurns) (states : List StoreTurns) (marks : List (ℕ → StoreView)) (mid : StoreTurns) (mark : ℕ → StoreView)
      → AreMarked place start states marks → IsMark place (last_state start states) mid mark → AreMarked place start (states ++ mid ∷ []) (marks ++ mark ∷ [])
  marked_more start [] [] mid mark h is = (is, tt)
  marked_more start [] (m ∷ marks) mid mark h is = absurd h
  marked_more start (s ∷ states) [] mid mark h is = absurd h
  marked_more start (s ∷ states) (m ∷ marks) mid mark h is = (h.0, marked_more s states marks mid mark h.1 is)

  -- it begins
  pub marks_none : (turns : StoreTurns) → HasMarks place turns turns []
  marks_none turns = record { states = []; marked = tt; since = on_none turns }

  module _ (start old new : StoreTurns) (marks : List (ℕ → StoreView)) (h : HasMarks place start old marks) (on : GoesOn place old new) where
    -- no command was answered
    pub marks_still : HasMarks place start new marks
    marks_still = record { states = h.states; marked = h.marked; since = on_then (last_state start h.states) old new h.since on }

    -- one was, or none
    pub marks_then : (client : StoreClient) → slice_get new.clients.items place ≡ Some client → AllOpen client.books → (more : List (ℕ → StoreView)) → HasMarked store_view client.books more
        → HasMarks place start new (marks ++ more)
    marks_then client of_client opened more (inl none) = subst (λ ms. HasMarks place start new ms) (sym (append-nil marks) ∙ ap (λ l. marks ++ l) (sym none)) marks_still
    marks_then client of_client opened more (inr (one, none)) =
        subst (λ l. HasMarks place start new (marks ++ l)) (sym one)
        (record {
          states = h.states ++ new ∷ [];
          marked = marked_more start h.states marks new _ h.marked
              (record { goes = on_then (last_state start h.states) old new h.since on; client = client; of_client = of_client; mark_is = refl; none = none; all_open = opened });
          since = subst (λ x. GoesOn place x new) (sym (last_more start h.states new)) (on_none new);
        })
