-- A legal log, from any state on: a place's holds and what it gave away are what it had, what came, and the gifts that wait.
use Rattle.std.proofs.Common.{◌≡◌, ◌≢◌, ℕ, ◌+◌, ◌<◌, true, false, cond, List, [], ◌∷◌, ◌++◌, length, take, inl, inr, refl, sym, ◌∙◌, ap, subst, arith, eq-eqb, ne_eqb, zero-add, get_or-set_same}
use Rattle.std.specs.Prelude.{◌==◌}
use Rattle.std.proofs.Math.Seq.{take-nil}
use Rattle.std.proofs.lemmas.Bool.{cases_eq}
use Rattle.tm_seq.specs.Kind.{Kind}
use Rattle.tm_batch.specs.declared.message.Request.{Request}
use Rattle.tm_batch.specs.declared.message.Request.TheVariants.{Bye}
use Rattle.tm_batch.specs.declared.message.Answer.{Answer}
use Rattle.tm_batch.specs.declared.message.AnswerBatch.{AnswerBatch}
use Rattle.tm_batch.specs.declared.message.Answer.TheVariants.{ByeDone}
use Rattle.tm_model.specs.declared.entry.Entry.{Entry}
use Rattle.tm_model.specs.declared.entry.Entry.TheVariants.{By, Resume, Sent}
use Rattle.tm_model.specs.State.{State, no_place, place_of}
use Rattle.tm_model.specs.Serve.{served, counted, after, state_after}
use Rattle.tm_model.specs.Legal.{Serves, IsLegal}
use Rattle.tm_model.specs.Ran.{ran, answered}
use Rattle.tm_model.specs.Batches.{leaving, batches_from}
use Rattle.tm_model.specs.Holds.{has_bye, gave, brought, brought_by, gifts_in, gifts_of}
use Rattle.tm_model.proofs.Byes.{bye_or_not}
use Rattle.tm_core.proofs.Gives.{Gives, by_gives, sent_gives, resume_gives}
use Rattle.tm_core.proofs.Ordered.{IsOrdered, after_ordered}
use Rattle.tm_core.proofs.Choices.{cond_same}
use Rattle.tm_core.proofs.Places.{place_field}
use Rattle.tm_core.proofs.Rising.{holds_sum, sum_kept, sum_closed}
use Rattle.tm_core.proofs.Tallies.{gave-append, gifts_of-append}

module _ {V O R T : Type 0} where
  -- a place that said Bye: it holds nothing, and no gift waits for it
  pub record IsShut (c : ℕ) (s : State V O R T) : Type 0 where
    pub closed : (place_of s c).is_closed ≡ true
    pub gifts : (place_of s c).gifts ≡ []
    pub holds : (id : ℕ) → holds_sum c id s.live ≡ 0

  shut_stays :
      (c : ℕ) (s t : State V O R T) (given comes : ℕ → ℕ) → Gives c s t given comes → ((id : ℕ) → comes id ≡ 0) → IsShut c s → IsShut c t
  shut_stays c s t given comes gives none was =
      let gifts = gives.shut was.closed was.gifts in
      record {
        closed = gives.closed ∙ was.closed;
        gifts = gifts;
        holds = λ id.
            let moved = gives.holds id in
            let nothing = was.holds id in
            let no = none id in
            let before = ap (gifts_of id) was.gifts in
            let after = ap (gifts_of id) gifts in
            omega (arith, moved, nothing, no, before, after);
      }

  -- what a log gives away of place c by its requests, and what comes by their answers and by what leaves
  pub record Flows (c : ℕ) (s t : State V O R T) (qs : List (Request V O R T)) (answers : List (Answer V O R T))
      (left : List (AnswerBatch V O R T)) : Type 0 where
    pub closed : (place_of t c).is_closed ≡ has_bye qs
    pub holds : has_bye qs ≢ true → (id : ℕ)
        → holds_sum c id t.live + gave id qs + gifts_of id (place_of s c).gifts
        ≡ holds_sum c id s.live + (brought_by id qs answers + gifts_of id (gifts_in left)) + gifts_of id (place_of t c).gifts
    pub shut : has_bye qs ≡ true → IsShut c t

  -- an entry before a log
  flows_more :
      (c : ℕ) (s u t : State V O R T) (given comes : ℕ → ℕ) (qs longer : List (Request V O R T)) (answers further : List (Answer V O R T))
      (left more : List (AnswerBatch V O R T)) → Gives c s u given comes → Flows c u t qs answers left → has_bye longer ≡ has_bye qs
      → ((id : ℕ) → gave id longer ≡ given id + gave id qs)
      → ((id : ℕ) → brought_by id longer further + gifts_of id (gifts_in more) ≡ comes id + (brought_by id qs answers + gifts_of id (gifts_in left)))
      → Flows c s t longer further more
  flows_more c s u t given comes qs longer answers further left more gives flows bye gave_is came_is = record {
    closed = flows.closed ∙ sym bye;
    holds = λ still id.
        let one = gives.holds id in
        let rest = flows.holds (λ is. still (bye ∙ is)) id in
        let away = gave_is id in
        let here = came_is id in
        omega (arith, one, rest, away, here);
    shut = λ is. flows.shut (sym bye ∙ is);
  }

  module _ (kind : Kind V O R T) (n c : ℕ) (lt : c < n) where
    -- a Bye shuts its place
    bye_shuts :
        (d j : ℕ) (q : Request V O R T) (a : Answer V O R T) (s : State V O R T) → IsOrdered n s → Serves kind s d q a → d ≡ c → q ≡ Bye
        → IsShut c (after kind s (By d j q a))
    bye_shuts d j q a s h may own is =
        let done : a ≡ ByeDone = subst (λ (r : Request V O R T). Serves kind s d r a) is may in
        let t = served kind c Bye ByeDone s in
        let within : c < length s.places = omega (arith, h.places, lt) in
        let here : place_of t c ≡ record (place_of s c) { is_closed = true; gifts = [] } = get_or-set_same s.places c _ no_place within in
        let gifts : (place_of (counted c t) c).gifts ≡ (place_of t c).gifts = place_field (λ p. p.gifts) t.places c c _ refl in
        let closed : (place_of (counted c t) c).is_closed ≡ (place_of t c).is_closed = place_field (λ p. p.is_closed) t.places c c _ refl in
        rw (own, is, done) (record {
          closed = closed ∙ ap (λ p. p.is_closed) here;
          gifts = gifts ∙ ap (λ p. p.gifts) here;
          holds = λ id. sum_kept c id _ ∙ sum_closed c id s.live;
        })

    log_shut :
        (s : State V O R T) (es : List (Entry V O R T)) → IsOrdered n s → IsLegal kind s es → ran c es ≡ [] → IsShut c s
        → IsShut c (state_after kind s es)
    log_shut s [] h legal quiet was = was
    log_shut s (By d j q a ∷ es) h legal quiet was =
        elim (cases_eq d c) [
          | inl e ↦
              let some : q ∷ ran c es ≡ [] = ap (λ t. cond t (q ∷ ran c es) (ran c es)) (sym (eq-eqb d c e)) ∙ quiet in
              absurd (cc)
          | inr ne ↦
              let other : (d == c) ≡ false = ne_eqb d c ne in
              let rest : ran c es ≡ [] = ap (λ t. cond t (q ∷ ran c es) (ran c es)) (sym other) ∙ quiet in
              let gives = by_gives kind n c d s h (omega (arith, h.count, legal.0.0)) j q a legal.0.2 (λ is. ne) in
              log_shut (after kind s (By d j q a)) es (after_ordered kind n s (By d j q a) legal.0 h) legal.1 rest
              (shut_stays c s _ _ _ gives (λ id. ap (λ t. cond t (brought id q a) 0) other) was)
        ]
    log_shut s (Resume id ticket event next ∷ es) h legal quiet was =
        log_shut (after kind s (Resume id ticket event next)) es (after_ordered kind n s (Resume id ticket event next) legal.0 h) legal.1 quiet
        (shut_stays c s _ _ _ (resume_gives kind c s id ticket event next) (λ i. refl) was)
    log_shut s (Sent d room ∷ es) h legal quiet was =
        log_shut (after kind s (Sent d room)) es (after_ordered kind n s (Sent d room) legal.0 h) legal.1 quiet
        (shut_stays c s _ _ _ (sent_gives c d room s (omega (arith, h.places, lt)))
        (λ id. ap (λ l. cond (d == c) (gifts_of id (take room l)) 0) was.gifts ∙ ap (λ l. cond (d == c) (gifts_of id l) 0) (take-nil room) ∙ cond_same (d == c) 0)
        was)

    -- a log in which nothing follows a Bye of the place, from a state in which it is open
    pub log_holds :
        (k : ℕ) (w : List (Answer V O R T)) (s : State V O R T) (es : List (Entry V O R T)) → IsOrdered n s → IsLegal kind s es
        → (place_of s c).is_closed ≡ false
        → ((before after : List (Request V O R T)) → ran c es ≡ before ++ Bye ∷ after → after ≡ [])
        → Flows c s (state_after kind s es) (ran c es) (answered c es) (batches_from kind c k w s es)
    log_holds k w s [] h legal still last = record { closed = still; holds = λ no id. omega arith; shut = λ is. absurd (cc) }
    log_holds k w s (By d j q a ∷ es) h legal still last =
        let s' = after kind s (By d j q a) in
        let v = cond (d == c) (w ++ a ∷ []) w in
        let h' = after_ordered kind n s (By d j q a) legal.0 h in
        let ld : d < n = omega (arith, h.count, legal.0.0) in
        elim (cases_eq d c) [
          | inl e ↦
              let own : (d == c) ≡ true = eq-eqb d c e in
              let ran_is : ran c (By d j q a ∷ es) ≡ q ∷ ran c es = ap (λ t. cond t (q ∷ ran c es) (ran c es)) own in
              let answered_is : answered c (By d j q a ∷ es) ≡ a ∷ answered c es = ap (λ t. cond t (a ∷ answered c es) (answered c es)) own in
              elim (bye_or_not q) [
                | inl is ↦
                    let none : ran c es ≡ [] = last [] (ran c es) (ran_is ∙ ap (λ x. x ∷ ran c es) is) in
                    let shut = log_shut s' es h' legal.1 none (bye_shuts d j q a s h legal.0.2 e is) in
                    let bye : has_bye (ran c (By d j q a ∷ es)) ≡ true = ap has_bye (ran_is ∙ ap (λ x. x ∷ ran c es) is) in
                    record { closed = shut.closed ∙ sym bye; holds = λ no. absurd (no bye); shut = λ yes. shut }
                | inr (not, same) ↦
                    let gives = by_gives kind n c d s h ld j q a legal.0.2 (λ is. absurd (not is)) in
                    let more = log_holds (k + 1) v s' es h' legal.1 (gives.closed ∙ still) (λ before after is. last (q ∷ before) after (ran_is ∙ ap (λ l. q ∷ l) is)) in
                    flows_more c s s' _ _ _ (ran c es) _ (answered c es) _ _ _ gives more (ap has_bye ran_is ∙ same (ran c es))
                    (λ id. ap (gave id) ran_is ∙ gave-append id (q ∷ []) (ran c es) ∙ ap (λ t. cond t (gave id (q ∷ [])) 0 + gave id (ran c es)) (sym own))
                    (λ id.
                    let here = ap (λ l. brought_by id l (answered c (By d j q a ∷ es))) ran_is in
                    let there = ap (λ l. brought_by id (q ∷ ran c es) l) answered_is in
                    let one = ap (λ t. cond t (brought id q a) 0) own in
                    omega (arith, here, there, one))
              ]
          | inr ne ↦
              let other : (d == c) ≡ false = ne_eqb d c ne in
              let ran_is : ran c (By d j q a ∷ es) ≡ ran c es = ap (λ t. cond t (q ∷ ran c es) (ran c es)) other in
              let answered_is : answered c (By d j q a ∷ es) ≡ answered c es = ap (λ t. cond t (a ∷ answered c es) (answered c es)) other in
              let gives = by_gives kind n c d s h ld j q a legal.0.2 (λ is. ne) in
              let more = log_holds (k + 1) v s' es h' legal.1 (gives.closed ∙ still) (λ before after is. last before after (ran_is ∙ is)) in
              flows_more c s s' _ _ _ (ran c es) _ (answered c es) _ _ _ gives more (ap has_bye ran_is)
              (λ id. ap (gave id) ran_is ∙ sym (ap (λ t. cond t (gave id (q ∷ [])) 0 + gave id (ran c es)) other ∙ zero-add _))
              (λ id.
              let here = ap (λ l. brought_by id l (answered c (By d j q a ∷ es))) ran_is in
              let there = ap (λ l. brought_by id (ran c es) l) answered_is in
              let none = ap (λ t. cond t (brought id q a) 0) other in
              omega (arith, here, there, none))
        ]
    log_holds k w s (Resume id ticket event next ∷ es) h legal still last =
        let s' = after kind s (Resume id ticket event next) in
        let gives = resume_gives kind c s id ticket event next in
        let more = log_holds (k + 1) w s' es (after_ordered kind n s (Resume id ticket event next) legal.0 h) legal.1 (gives.closed ∙ still) last in
        flows_more c s s' _ _ _ (ran c es) _ (answered c es) _ _ _ gives more refl (λ i. sym (zero-add _)) (λ i. sym (zero-add _))
    log_holds k w s (Sent d room ∷ es) h legal still last =
        let s' = after kind s (Sent d room) in
        let gives = sent_gives c d room s (omega (arith, h.places, lt)) in
        let more = log_holds (k + 1) (cond (d == c) [] w) s' es (after_ordered kind n s (Sent d room) legal.0 h) legal.1 (gives.closed ∙ still) last in
        let first = leaving c room (k + 1) w s in
        let rest : List (Answer V O R T) → List (AnswerBatch V O R T) = λ v. batches_from kind c (k + 1) v s' es in
        flows_more c s s' _ _ _ (ran c es) _ (answered c es) _ _ _ gives more refl (λ id. sym (zero-add _))
        (λ id.
        let left = elim (d == c) as
        (λ t. gifts_of id (gifts_in (cond t (first ∷ rest []) (rest w)))
        ≡ cond t (gifts_of id (take room (place_of s c).gifts)) 0 + gifts_of id (gifts_in (rest (cond t [] w)))) [
          | true ↦ gifts_of-append id (take room (place_of s c).gifts) (gifts_in (rest []))
          | false ↦ omega arith
        ] in
        omega (arith, left))
