-- What was done for the command at work: some of it was asked, and some replies were taken, or neither.
use Rattle.std.proofs.Common.{◌≡◌, ◌≢◌, ℕ, inl, inr, ◌||◌, Bool, true, false, List, [], ◌∷◌, ◌++◌, length, Option, Some, None, refl, sym, ap, subst, ◌∙◌}
use Rattle.std.specs.Prelude.{◌↔◌}
use Rattle.tm_client.specs.declared.trust.Trust.{Trust}
use Rattle.tm_client.specs.Clients.{IsClient}
use Rattle.tm_asking.specs.Asking.{NoneCounts, sides_of}
use Rattle.mc_model.specs.declared.message.Command.{Command}
use Rattle.mc_route.specs.Plans.{frame_of}
use Rattle.mc_next.specs.declared.piece.Piece.{Piece}
use Rattle.mc_next.specs.declared.session.Session.{Session}
use Rattle.mc_next.specs.declared.work.Work.{Work}
use Rattle.mc_next.specs.Parts.{StoreView}
use Rattle.mc_next.specs.Clients.{StoreBooks}
use Rattle.mc_next.specs.Runs.{Setting, SessionView}
use Rattle.mc_next.specs.Sessions.{IsOn, IsGoing, IsGoingOn, IsOf, seen}
use Rattle.mc_next.specs.Works.{left_of, IsFullFor, KeepsClient, StoreState, HasAskedPieces, HasTakenReplies}
use Rattle.mc_next.specs.Deeds.{HasFinished, RestsAtWork}
use Rattle.mc_next.specs.Steps.{NextIsFull, HasTakenSome, HasWorkedOn, IsCaused}
use Rattle.mc_next.proofs.Clients.{keeps_then}
use Rattle.mc_next.proofs.Finished.{goes_on}
use Rattle.mc_next.proofs.Turned.{seen_on, seen_going}
use Rattle.mc_next.proofs.Working.{work_on, work_finished}
use Rattle.mc_next.proofs.Advancing.{asked_less, same_before, finished_less}
use Rattle.mc_next.proofs.Looked.{left_counts}
use Rattle.mc_next.proofs.Stepping.{either_did, neither_did}

-- what asking did
abbrev pub HasAskedOn : {D : Type 0} → (D → StoreView) → List Trust → Bool → Work → Work → StoreBooks D → StoreBooks D → Type 0
HasAskedOn view trusts asked w w_mid books books_mid =
    (pieces : List Piece) × (left_of w.todo ≡ pieces ++ left_of w_mid.todo) × ((asked ≡ true) ↔ (pieces ≢ [])) × HasAskedPieces view trusts pieces w w_mid books books_mid

module _ {D : Type 0} (view : D → StoreView) (trusts : List Trust) (old : Session) (w w_mid w_new : Work) (books books_mid books_new : StoreBooks D) (asked took : Bool)
    (asks : HasAskedOn view trusts asked w w_mid books books_mid) (takes : HasTakenReplies view w_mid w_new books_mid books_new) where
  pub keeps_both : KeepsClient books books_new
  keeps_both = keeps_then books books_mid books_new asks.3.keeps takes.keeps

  pub client_both : (openings : ℕ → StoreState) → IsClient view openings books → IsClient view openings books_new
  client_both openings is = takes.client openings (asks.3.client openings is)

  same_left : left_of w_mid.todo ≡ left_of w_new.todo
  same_left = ap left_of (sym takes.todo)

  module _ (asks_stay : asked ≡ false → (books_mid ≡ books) × (left_of w_mid.todo ≡ left_of w.todo)) (takes_some : took ≡ true → HasTakenSome books_mid books_new) where
    pub did_work : (asked || took) ≡ true → HasWorkedOn (record old { work = Some w }) (record old { work = Some w_new }) books books_new
    did_work e =
        either_did asked took (HasWorkedOn (record old { work = Some w }) (record old { work = Some w_new }) books books_new) e
        (λ is. inl (asked_less old w w_new asks.0 (asks.2.0 is) (asks.1 ∙ ap (λ l. asks.0 ++ l) same_left)))
        (λ none is.
        let (same, left) = asks_stay none in
        inr (same_before old w w_new (sym same_left ∙ left), subst (λ b. HasTakenSome b books_new) same (takes_some is)))

    module _ (takes_stay : took ≡ false → (books_new ≡ books_mid) × (w_new ≡ w_mid)) (none : books_new.arrived.items ≡ [])
        (full : (piece : Piece) (others : List Piece) → left_of w_mid.todo ≡ piece ∷ others → IsFullFor (length books.lanes.items) piece books_mid) where
      pub is_still : (asked || took) ≡ false → books_new ≡ books
      is_still e = let (one, two) = neither_did asked took e in (takes_stay two).0 ∙ (asks_stay one).0

      next_full : (asked || took) ≡ false → NextIsFull (Some w_new) books_new
      next_full e = λ piece others is.
          let (one, two) = neither_did asked took e in
          subst (λ b. IsFullFor (length b.lanes.items) piece b) (sym (is_still e))
          (subst (λ b. IsFullFor (length books.lanes.items) piece b) (asks_stay one).0 (full piece others (same_left ∙ is)))

      rests_with : ¬ (NoneCounts books_new) → (asked || took) ≡ false → RestsAtWork w old (record old { work = Some w_new }) books_new
      rests_with counts e =
          let (one, two) = neither_did asked took e in record {
            becomes = w_new;
            session = refl;
            left = sym same_left ∙ (asks_stay one).1;
            full = next_full e;
            counts = counts;
            none = none;
          }

      counting : (xs : List Piece) → left_of w_new.todo ≡ xs → (left_of w_new.todo ≡ [] → ¬ (NoneCounts books_new)) → (asked || took) ≡ false → ¬ (NoneCounts books_new)
      counting [] is counts e = counts is
      counting (piece ∷ others) is counts e = left_counts books_new w_new (next_full e) (λ empty. let both : piece ∷ others ≡ [] = sym is ∙ empty in cc)

      pub rests : (left_of w_new.todo ≡ [] → ¬ (NoneCounts books_new)) → (asked || took) ≡ false → RestsAtWork w old (record old { work = Some w_new }) books_new
      rests counts e = rests_with (counting (left_of w_new.todo) refl counts e) e

  -- the session goes on
  module _ (s : Setting) (marks : List (ℕ → StoreView)) (first : SessionView) (left readings written : Option (List ℕ)) (running : old.stopped ≡ None) (of : IsOf s trusts (length books.lanes.items))
      (on : IsOn view s marks (record old { work = Some w }) first (seen view books left readings written) books) where
    pub goes_at_work : IsGoing view s marks old.stopped (record old { work = Some w_new }) first (seen view books_new left readings written) books_new
    goes_at_work =
        goes_on view s marks first (seen view books_new left readings written) books_new (record old { work = Some w_new }) running
        (seen_on view s marks (record old { work = Some w_new }) first books_new (seen view books left readings written) (seen view books_new left readings written) refl refl refl
        (work_on view s marks first (seen view books left readings written) trusts old w w_mid w_new books books_mid books_new of asks.0 asks.1 asks.3 takes on))

    pub goes_finished :
        old.work ≡ None → left_of w_new.todo ≡ [] → NoneCounts books_new → (new : Session) → HasFinished view w_new old new books_new
        → IsGoingOn view s marks new first (seen view books_new left readings written) books_new
    goes_finished idle none_left none new f = (
      sides_of view books_new ∷ [],
      inr (refl, none),
      seen_going view s (marks ++ sides_of view books_new ∷ []) new first books_new (seen view books left readings written) (seen view books_new left readings written) refl refl refl
          new.stopped
          (work_finished view s marks first (seen view books left readings written) trusts old w w_mid w_new books books_mid books_new of asks.0 asks.1 asks.3 takes on idle running none_left
          (keeps_both.many ∙ sym of.trustees_are) none new f),
    )

  -- what finishing did
  module _ (command : Command) (frame : w.frame ≡ frame_of command) (idle : old.work ≡ None) (running : old.stopped ≡ None) (new : Session)
      (f : HasFinished view w_new old new books_new) where
    same_frame : w_new.frame ≡ frame_of command
    same_frame = takes.frame ∙ asks.3.frame ∙ frame

    pub finish_did : HasWorkedOn (record old { work = Some w }) new books books_new
    finish_did = inl (finished_less view w w_new old new books_new command idle running same_frame f)

    pub finish_over : new.over ≡ old.over
    finish_over = elim (f.shows command same_frame) [ inl e ↦ ap (λ session. session.over) e | inr e ↦ ap (λ session. session.over) e ]

    pub finish_cause : (reads writes : ℕ) → IsCaused new.stopped reads reads writes writes
    finish_cause reads writes =
        elim (f.shows command same_frame) [
          | inl e ↦ subst (λ o. IsCaused o reads reads writes writes) (sym (ap (λ session. session.stopped) e ∙ running)) (refl, refl)
          | inr e ↦ subst (λ o. IsCaused o reads reads writes writes) (sym (ap (λ session. session.stopped) e)) (refl, refl)
        ]
