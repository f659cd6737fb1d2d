-- The tickets of a log are older than those that come, so the course of a launch has the only end of its ticket.
use Rattle.std.proofs.Common.{◌≡◌, ℕ, ◌<◌, List, [], ◌∷◌, ◌++◌, inl, inr, refl, subst, arith}
use Rattle.std.specs.Prelude.{◌⊎◌}
use Rattle.std.specs.List.{AllByRecursion}
use Rattle.tm_seq.specs.Kind.{Kind}
use Rattle.tm_seq.specs.declared.kind.Event.{Event}
use Rattle.tm_seq.specs.declared.kind.Next.{Next}
use Rattle.tm_seq.specs.declared.kind.Next.TheVariants.{Done}
use Rattle.tm_model.specs.declared.entry.Entry.{Entry}
use Rattle.tm_model.specs.declared.entry.Entry.TheVariants.{Resume}
use Rattle.tm_model.specs.State.{Work, Setup, State, object_of, place_count}
use Rattle.tm_model.specs.Serve.{after, state_after}
use Rattle.tm_model.specs.Legal.{MayCome, IsLegal}
use Rattle.tm_core.proofs.Bounds.{IsBoundedObject}
use Rattle.tm_core.proofs.CallerLemmas.{found}
use Rattle.tm_core.proofs.Finding.{all_found}
use Rattle.tm_core.proofs.Joins.{state-append, legal_logs_join}
use Rattle.tm_core.proofs.Ordered.{IsOrdered, after_ordered, log_ordered, opening_ordered}
use Rattle.tm_core.proofs.Sound.{IsBounded, after_bounded, opening_bounded}
use Rattle.tm_trustee.specs.NestedAsks.{IsAmong}
use Rattle.tm_trustee.proofs.Works.{log_tickets}
use Rattle.tm_course.specs.Courses.{NoneWorks, LaunchesTakeCourses}
use Rattle.tm_course.proofs.Idle.{first_of}
use Rattle.tm_course.proofs.Courses.{takes}

among_either : {X : Type 0} (x : X) (xs ys : List X) → IsAmong x (xs ++ ys) → IsAmong x xs ⊎ IsAmong x ys
among_either x [] ys among = inr among
among_either x (y ∷ xs) ys (inl e) = inl (inl e)
among_either x (y ∷ xs) ys (inr later) = elim (among_either x xs ys later) [ inl here ↦ inl (inr here) | inr there ↦ inr there ]

module _ {V O R T : Type 0} (kind : Kind V O R T) where
  -- what is resumed has a ticket that was given out
  resumed_ticket :
      (n : ℕ) (built : Setup) (s : State V O R T) (id ticket : ℕ) (event : Event R) (next : Next O T R) → MayCome kind s (Resume id ticket event next)
      → IsBounded n built s → ticket < s.next_ticket
  resumed_ticket n built s id ticket event next may bounded =
      let (o, at, first) = found (object_of s.live id) _ may in
      let (w, rest, is, own) = first_of o.works _ first in
      let bound = all_found (IsBoundedObject n s.next_ticket) id s.live o at bounded.objects in
      let works = subst (λ ws. AllByRecursion (λ (w : Work T). (w.place < n) × (w.ticket < s.next_ticket)) ws) is bound.0.works in
      let less = works.0.1 in
      let same = own.0 in
      omega (arith, less, same)

  old_ticket :
      (n : ℕ) (built : Setup) (s : State V O R T) (log : List (Entry V O R T)) (id ticket : ℕ) (event : Event R) (next : Next O T R) → n ≡ place_count built
      → IsLegal kind s log → IsOrdered n s → IsBounded n built s → IsAmong (Resume id ticket event next) log → ticket < (state_after kind s log).next_ticket
  old_ticket n built s [] id ticket event next is legal ordered bounded among = absurd among
  old_ticket n built s (e ∷ log) id ticket event next is legal ordered bounded (inl same) =
      let here = resumed_ticket n built s id ticket event next (subst (λ x. MayCome kind s x) same legal.0) bounded in
      let grows = log_tickets kind s (e ∷ log) in
      omega (arith, here, grows)
  old_ticket n built s (e ∷ log) id ticket event next is legal ordered bounded (inr later) =
      old_ticket n built (after kind s e) log id ticket event next is legal.1 (after_ordered kind n s e legal.0 ordered)
      (after_bounded kind n built s e is legal.0 ordered bounded) later

  bounded_behind :
      (n : ℕ) (built : Setup) (s : State V O R T) (log : List (Entry V O R T)) → n ≡ place_count built → IsLegal kind s log → IsOrdered n s → IsBounded n built s
      → IsBounded n built (state_after kind s log)
  bounded_behind n built s [] is legal ordered bounded = bounded
  bounded_behind n built s (e ∷ log) is legal ordered bounded =
      bounded_behind n built (after kind s e) log is legal.1 (after_ordered kind n s e legal.0 ordered) (after_bounded kind n built s e is legal.0 ordered bounded)

  pub launches_take_courses : LaunchesTakeCourses kind
  launches_take_courses opening log es c m task ticket is legal idle none others one told =
      let n = place_count opening.setup in
      let (before, behind) = (legal_logs_join kind opening log es).0 legal in
      let start = opening_ordered opening is in
      let s = state_after kind opening log in
      let ordered = log_ordered kind n opening log before start in
      let built : s.setup ≡ opening.setup = (bounded_behind n opening.setup opening log refl before start (opening_bounded opening is)).setup in
      let joined = state-append kind opening log es in
      let t = takes kind n opening.setup s es c m task ticket built behind ordered idle (subst (λ x. NoneWorks x) joined none) others one told in
      record {
        object = t.object;
        of_object = t.of_object;
        steps = t.goes.steps;
        reply = t.goes.reply;
        course = t.goes.course;
        asked = t.goes.asked;
        told = t.goes.told;
        ends = λ id event other among.
            elim (among_either (Resume id ticket event (Done other)) log es among) [
              | inl here ↦
                  let older = old_ticket n opening.setup opening log id ticket event (Done other) refl before start (opening_bounded opening is) here in
                  let newer = t.is_new in
                  absurd (omega (arith, older, newer))
              | inr there ↦ t.goes.ends id ticket event other there
            ];
      }
