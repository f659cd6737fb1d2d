-- By a legal log a place is closed exactly where the log ran a Bye of it.
use Rattle.std.proofs.Common.{◌≡◌, ℕ, ◌<◌, true, false, cond, List, [], ◌∷◌, length, slice_index_or, inl, inr, refl, sym, ◌∙◌, ap, subst, arith, eq-eqb, ne_eqb, get_or-set_same}
use Rattle.std.specs.Prelude.{All, IsTrue}
use Rattle.std.proofs.Math.ListN.{get_or-map}
use Rattle.std.proofs.lemmas.Bool.{cases_eq}
use Rattle.std.proofs.lemmas.List.{length-map}
use Rattle.std.proofs.lemmas.List.Elements.{All-from_get_or}
use Rattle.tm_seq.specs.Kind.{Kind}
use Rattle.tm_batch.specs.declared.message.Request.{Request}
use Rattle.tm_batch.specs.declared.message.Request.TheVariants.{Bye}
use Rattle.tm_batch.specs.declared.message.Answer.{Answer}
use Rattle.tm_batch.specs.declared.message.Answer.TheVariants.{ByeDone}
use Rattle.tm_model.specs.declared.entry.Entry.{Entry}
use Rattle.tm_model.specs.declared.entry.Entry.TheVariants.{By, Resume, Sent}
use Rattle.tm_model.specs.State.{Place, State, no_place, place_of, place_count}
use Rattle.tm_model.specs.Serve.{served, counted, after, state_after}
use Rattle.tm_model.specs.Legal.{Serves, IsLegal}
use Rattle.tm_model.specs.Ran.{ran}
use Rattle.tm_model.specs.Holds.{has_bye}
use Rattle.tm_model.proofs.Byes.{bye_or_not}
use Rattle.tm_core.proofs.Gives.{by_gives, sent_gives, resume_gives}
use Rattle.tm_core.proofs.Numbering.{opening_place}
use Rattle.tm_core.proofs.Ordered.{IsOrdered, opening_ordered, after_ordered, log_ordered}
use Rattle.tm_core.proofs.Places.{place_field}
use Rattle.tm_state.specs.StateView.{StateView}
use Rattle.tm_state.specs.Represents.{Represents}
use Rattle.tm_state.specs.Asking.{HaveAllEnded}

module _ {V O R T : Type 0} where
  -- an open place is closed where some requests have a Bye, and a closed place stays closed
  record Closes (c : ℕ) (s t : State V O R T) (qs : List (Request V O R T)) : Type 0 where
    pub opens : (place_of s c).is_closed ≡ false → (place_of t c).is_closed ≡ has_bye qs
    pub stays : (place_of s c).is_closed ≡ true → (place_of t c).is_closed ≡ true

  -- an entry that leaves a place open or closed, before a log
  closes_more :
      (c : ℕ) (s u t : State V O R T) (qs longer : List (Request V O R T)) → (place_of u c).is_closed ≡ (place_of s c).is_closed
      → has_bye longer ≡ has_bye qs → Closes c u t qs → Closes c s t longer
  closes_more c s u t qs longer same bye more = record {
    opens = λ e. more.opens (same ∙ e) ∙ sym bye;
    stays = λ e. more.stays (same ∙ e);
  }

  module _ (kind : Kind V O R T) (n c : ℕ) (lt : c < n) where
    bye_closes :
        (d j : ℕ) (q : Request V O R T) (a : Answer V O R T) (s : State V O R T) → IsOrdered n s → Serves kind s d q a → d ≡ c → q ≡ Bye
        → (place_of (after kind s (By d j q a)) c).is_closed ≡ true
    bye_closes d j q a s h may own is =
        let done : a ≡ ByeDone = subst (λ (r : Request V O R T). Serves kind s d r a) is may in
        let t = served kind c Bye ByeDone s in
        let within : c < length s.places = omega (arith, h.places, lt) in
        let here : place_of t c ≡ record (place_of s c) { is_closed = true; gifts = [] } = get_or-set_same s.places c _ no_place within in
        let closed : (place_of (counted c t) c).is_closed ≡ (place_of t c).is_closed = place_field (λ p. p.is_closed) t.places c c _ refl in
        rw (own, is, done) (closed ∙ ap (λ p. p.is_closed) here)

    log_closes :
        (s : State V O R T) (es : List (Entry V O R T)) → IsOrdered n s → IsLegal kind s es → Closes c s (state_after kind s es) (ran c es)
    log_closes s [] h legal = record { opens = λ e. e; stays = λ e. e }
    log_closes s (By d j q a ∷ es) h legal =
        let s' = after kind s (By d j q a) in
        let more = log_closes s' es (after_ordered kind n s (By d j q a) legal.0 h) legal.1 in
        let ld : d < n = omega (arith, h.count, legal.0.0) in
        elim (cases_eq d c) [
          | inl e ↦
              let ran_is : ran c (By d j q a ∷ es) ≡ q ∷ ran c es = ap (λ t. cond t (q ∷ ran c es) (ran c es)) (eq-eqb d c e) in
              elim (bye_or_not q) [
                | inl is ↦
                    let shut = more.stays (bye_closes d j q a s h legal.0.2 e is) in
                    let bye : has_bye (ran c (By d j q a ∷ es)) ≡ true = ap has_bye (ran_is ∙ ap (λ x. x ∷ ran c es) is) in
                    record { opens = λ e. shut ∙ sym bye; stays = λ e. shut }
                | inr (not, same) ↦
                    let gives = by_gives kind n c d s h ld j q a legal.0.2 (λ is. absurd (not is)) in
                    closes_more c s s' _ (ran c es) _ gives.closed (ap has_bye ran_is ∙ same (ran c es)) more
              ]
          | inr ne ↦
              let ran_is : ran c (By d j q a ∷ es) ≡ ran c es = ap (λ t. cond t (q ∷ ran c es) (ran c es)) (ne_eqb d c ne) in
              let gives = by_gives kind n c d s h ld j q a legal.0.2 (λ is. ne) in
              closes_more c s s' _ (ran c es) _ gives.closed (ap has_bye ran_is) more
        ]
    log_closes s (Resume id ticket event next ∷ es) h legal =
        let gives = resume_gives kind c s id ticket event next in
        let more = log_closes (after kind s (Resume id ticket event next)) es (after_ordered kind n s (Resume id ticket event next) legal.0 h) legal.1 in
        closes_more c s _ _ (ran c es) _ gives.closed refl more
    log_closes s (Sent d room ∷ es) h legal =
        let gives = sent_gives c d room s (omega (arith, h.places, lt)) in
        let more = log_closes (after kind s (Sent d room)) es (after_ordered kind n s (Sent d room) legal.0 h) legal.1 in
        closes_more c s _ _ (ran c es) _ gives.closed refl more

  module _ (kind : Kind V O R T) (opening : State V O R T) (log : List (Entry V O R T)) (h : StateView V O R T) (stands : Represents kind opening log h) where
    as_many : length h.closed ≡ place_count opening.setup
    as_many =
        let s = state_after kind opening log in
        let ordered = log_ordered kind _ opening log stands.is_legal (opening_ordered opening stands.opens) in
        ap (λ (l : List _). length l) stands.keeps.closed ∙ length-map s.places (λ p. p.is_closed) ∙ ordered.places

    -- a place that stands as closed has said Bye
    closed_is : (c : ℕ) → c < place_count opening.setup → slice_index_or h.closed c false ≡ has_bye (ran c log)
    closed_is c lt =
        let s = state_after kind opening log in
        let first = (opening_place opening c stands.opens lt).1 in
        let closes = log_closes kind (place_count opening.setup) c lt opening log (opening_ordered opening stands.opens) stands.is_legal in
        ap (λ (l : List _). slice_index_or l c false) stands.keeps.closed ∙ get_or-map (λ (p : Place V O R T). p.is_closed) s.places c no_place
        ∙ closes.opens (ap (λ p. p.is_closed) first)

    pub all_said_bye : All IsTrue h.closed → HaveAllEnded opening log
    all_said_bye all c lt = sym (closed_is c lt) ∙ all c false (omega (arith, as_many, lt))

    pub all_are_closed : HaveAllEnded opening log → All IsTrue h.closed
    all_are_closed all =
        All-from_get_or IsTrue h.closed false (λ c lt. let within : c < place_count opening.setup = omega (arith, as_many, lt) in closed_is c within ∙ all c within)
