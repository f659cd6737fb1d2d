-- The requests of each place are numbered on from what the state counts; a place of an opening state has nothing.
-- Other crates import from this file.
use Rattle.std.proofs.Common.{◌≡◌, ◌≢◌, ℕ, ◌+◌, ◌<◌, true, false, List, [], ◌∷◌, length, inl, inr, refl, sym, ◌∙◌, ap, subst, arith, eq-eqb, ne_eqb, zero-add, get_or-set_same, get_or-set_other, length-set}
use Rattle.std.specs.Prelude.{◌==◌}
use Rattle.std.specs.List.{range_with_len}
use Rattle.std.proofs.Math.ListN.{length-replicate, get_or-replicate}
use Rattle.std.proofs.lemmas.Bool.{cases_eq}
use Rattle.tm_seq.specs.Kind.{Kind}
use Rattle.tm_seq.specs.declared.kind.Event.{Event}
use Rattle.tm_seq.specs.declared.kind.Next.{Next}
use Rattle.tm_seq.specs.declared.kind.Next.TheVariants.{Done}
use Rattle.tm_batch.specs.declared.message.Request.{Request}
use Rattle.tm_batch.specs.declared.message.Request.TheVariants.{Entrust, Apply, Launch, Grant, Release, Reclaim, Bye}
use Rattle.tm_batch.specs.declared.message.Answer.{Answer}
use Rattle.tm_batch.specs.declared.message.Answer.TheVariants.{Entrusted, Replied, Launched, Granted, Released, Reclaimed, ByeDone}
use Rattle.tm_model.specs.declared.entry.Entry.{Entry}
use Rattle.tm_model.specs.declared.entry.Entry.TheVariants.{By, Resume, Sent}
use Rattle.tm_model.specs.State.{Work, State, no_place, place_of, place_count, object_of}
use Rattle.tm_model.specs.Serve.{served, counted, completed, resumed, sent_off, works_in, after, state_after}
use Rattle.tm_model.specs.Legal.{IsLegal}
use Rattle.tm_model.specs.Ran.{ran, numbers}
use Rattle.tm_model.specs.Laws.{IsOpening, RequestsAreNumbered}
use Rattle.tm_core.proofs.Places.{place_field}

module _ {V O R T : Type 0} where
  -- a place of an opening state has nothing
  pub opening_place :
      (opening : State V O R T) (c : ℕ) → IsOpening opening → c < place_count opening.setup → (c < length opening.places) × (place_of opening c ≡ no_place)
  opening_place opening c (number, config, first, can, below, is) lt =
      subst (λ (s : State V O R T). c < place_count s.setup → (c < length s.places) × (place_of s c ≡ no_place)) (sym is)
      (λ lt. (rw length-replicate lt, get_or-replicate (config.clients + number) c no_place no_place lt)) lt

  -- a state has as many places, and has run as many requests of each
  pub record SameCounts (old new : State V O R T) : Type 0 where
    pub places : length new.places ≡ length old.places
    pub served : (c : ℕ) → (place_of new c).served ≡ (place_of old c).served

  served_same : (kind : Kind V O R T) (c : ℕ) (q : Request V O R T) (a : Answer V O R T) (s : State V O R T) → SameCounts s (served kind c q a s)
  served_same kind c (Grant n d) Granted s =
      record { places = length-set s.places d _; served = λ e. place_field (λ p. p.served) s.places d e _ refl }
  served_same kind c Bye ByeDone s =
      record { places = length-set s.places c _; served = λ e. place_field (λ p. p.served) s.places c e _ refl }
  served_same kind c (Entrust v) (Entrusted n) s = record { places = refl; served = λ e. refl }
  served_same kind c (Apply n op) (Replied r) s = record { places = refl; served = λ e. refl }
  served_same kind c (Launch n task) (Launched ticket) s = record { places = refl; served = λ e. refl }
  served_same kind c (Release n) Released s = record { places = refl; served = λ e. refl }
  served_same kind c (Reclaim n) (Reclaimed v) s = record { places = refl; served = λ e. refl }
  served_same kind c _ _ s = record { places = refl; served = λ e. refl }

  completed_same : (ws : List (Work T)) (ticket : ℕ) (next : Next O T R) (s : State V O R T) → SameCounts s (completed ws ticket next s)
  completed_same (w ∷ ws) ticket (Done r) s =
      record { places = length-set s.places w.place _; served = λ e. place_field (λ p. p.served) s.places w.place e _ refl }
  completed_same _ ticket _ s = record { places = refl; served = λ e. refl }

  pub resumed_same :
      (kind : Kind V O R T) (id ticket : ℕ) (event : Event R) (next : Next O T R) (s : State V O R T) → SameCounts s (resumed kind id ticket event next s)
  resumed_same kind id ticket event next s =
      let done = completed_same (works_in (object_of s.live id)) ticket next _ in
      record { places = done.places; served = λ e. done.served e }

  pub sent_same : (c room : ℕ) (s : State V O R T) → SameCounts s (sent_off c room s)
  sent_same c room s = record { places = length-set s.places c _; served = λ e. place_field (λ p. p.served) s.places c e _ refl }

  counted_own : (c : ℕ) (s : State V O R T) → c < length s.places → (place_of (counted c s) c).served ≡ (place_of s c).served + 1
  counted_own c s lt = rw (get_or-set_same s.places c (record (place_of s c) { served = (place_of s c).served + 1 }) no_place lt) refl

  counted_other : (c d : ℕ) (s : State V O R T) → d ≢ c → (place_of (counted c s) d).served ≡ (place_of s d).served
  counted_other c d s ne = rw (get_or-set_other s.places c d (record (place_of s c) { served = (place_of s c).served + 1 }) no_place ne) refl

  module _ (kind : Kind V O R T) where
    -- a state has as many places after an entry
    pub places_after : (s : State V O R T) (e : Entry V O R T) → length (after kind s e).places ≡ length s.places
    places_after s (By d k q a) = length-set (served kind d q a s).places d _ ∙ (served_same kind d q a s).places
    places_after s (Resume id ticket event next) = (resumed_same kind id ticket event next s).places
    places_after s (Sent d room) = (sent_same d room s).places

    -- what a log runs for a place is numbered on from what its state counts
    pub record Counts (c : ℕ) (s : State V O R T) (log : List (Entry V O R T)) : Type 0 where
      pub numbers : numbers c log ≡ range_with_len (place_of s c).served (length (ran c log))
      pub served : (place_of (state_after kind s log) c).served ≡ (place_of s c).served + length (ran c log)

    pub counts : (c : ℕ) (s : State V O R T) (log : List (Entry V O R T)) → c < length s.places → IsLegal kind s log → Counts c s log
    counts c s [] lt legal = record { numbers = refl; served = omega arith }
    counts c s (By d k q a ∷ es) lt legal =
        let s' = after kind s (By d k q a) in
        let there : c < length s'.places = subst (λ n. c < n) (sym (places_after s (By d k q a))) lt in
        let more = counts c s' es there legal.1 in
        let same = served_same kind d q a s in
        elim (cases_eq d c) [
          | inl e ↦
              let within : d < length (served kind d q a s).places = omega (arith, same.places, lt, e) in
              let one : (place_of s' c).served ≡ (place_of s c).served + 1 =
              ap (λ x. (place_of s' x).served) (sym e) ∙ counted_own d (served kind d q a s) within ∙ ap (λ n. n + 1) (same.served d) ∙ ap (λ x. (place_of s x).served + 1) e in
              let number : k ≡ (place_of s c).served = legal.0.1 ∙ ap (λ x. (place_of s x).served) e in
              let here : (d == c) ≡ true = eq-eqb d c e in
              record {
                numbers = rw (here, number) (ap (λ l. (place_of s c).served ∷ l) (more.numbers ∙ ap (λ n. range_with_len n (length (ran c es))) one));
                served = rw here (omega (arith, more.served, one));
              }
          | inr ne ↦
              let none : (place_of s' c).served ≡ (place_of s c).served = counted_other d c (served kind d q a s) (λ e. ne (sym e)) ∙ same.served c in
              let elsewhere : (d == c) ≡ false = ne_eqb d c ne in
              record {
                numbers = rw elsewhere (more.numbers ∙ ap (λ n. range_with_len n (length (ran c es))) none);
                served = rw elsewhere (omega (arith, more.served, none));
              }
        ]
    counts c s (Resume id ticket event next ∷ es) lt legal =
        let s' = after kind s (Resume id ticket event next) in
        let same = resumed_same kind id ticket event next s in
        let more = counts c s' es (subst (λ n. c < n) (sym same.places) lt) legal.1 in
        let none = same.served c in
        record {
          numbers = more.numbers ∙ ap (λ n. range_with_len n (length (ran c es))) none;
          served = more.served ∙ ap (λ n. n + length (ran c es)) none;
        }
    counts c s (Sent d room ∷ es) lt legal =
        let s' = after kind s (Sent d room) in
        let same = sent_same d room s in
        let more = counts c s' es (subst (λ n. c < n) (sym same.places) lt) legal.1 in
        let none = same.served c in
        record {
          numbers = more.numbers ∙ ap (λ n. range_with_len n (length (ran c es))) none;
          served = more.served ∙ ap (λ n. n + length (ran c es)) none;
        }

  pub requests_are_numbered : (kind : Kind V O R T) → RequestsAreNumbered kind
  requests_are_numbered kind opening log c is legal lt =
      let (within, place) = opening_place opening c is lt in
      let all = counts kind c opening log within legal in
      let start : (place_of opening c).served ≡ 0 = ap (λ p. p.served) place in (
        all.numbers ∙ ap (λ n. range_with_len n (length (ran c log))) start,
        all.served ∙ ap (λ n. n + length (ran c log)) start ∙ zero-add _,
      )
