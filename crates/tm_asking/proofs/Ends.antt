-- A completion that came to a side is that of its ticket's end, in the part of the log behind what was seen before the ticket came.
use Rattle.std.proofs.Common.{◌≡◌, ℕ, ◌⊎◌, ◌||◌, inl, inr, true, false, List, [], ◌∷◌, ◌++◌, refl, sym, ◌∙◌, ap, subst, eq-eqb, ne_eqb}
use Rattle.std.specs.Prelude.{◌==◌, Bool, cond, nat_eq}
use Rattle.std.specs.List.{AllByRecursion, IsDistinct, Contains}
use Rattle.std.proofs.lemmas.Bool.{cases_eq}
use Rattle.std.proofs.lemmas.List.Elements.{Contains-append_left, Contains-append_right}
use Rattle.std.proofs.lemmas.Map.Keys.{IsDistinct-head, IsDistinct-tail}
use Rattle.tm_seq.specs.Kind.{Kind}
use Rattle.tm_seq.specs.declared.kind.Next.TheVariants.{Ask, Done}
use Rattle.tm_batch.specs.declared.message.Request.{Request}
use Rattle.tm_batch.specs.declared.message.Request.TheVariants.{Launch}
use Rattle.tm_batch.specs.declared.message.Answer.{Answer}
use Rattle.tm_batch.specs.declared.message.Answer.TheVariants.{Launched}
use Rattle.tm_batch.specs.declared.message.Completion.{Completion}
use Rattle.tm_model.specs.declared.entry.Entry.{Entry}
use Rattle.tm_model.specs.declared.entry.Entry.TheVariants.{By, Resume, Sent}
use Rattle.tm_model.specs.State.{State, place_of}
use Rattle.tm_model.specs.Serve.{state_after}
use Rattle.tm_model.specs.Ran.{answered}
use Rattle.tm_model.specs.Given.{ended_from, completions_in}
use Rattle.tm_core.proofs.CallerLemmas.{all_weaker}
use Rattle.tm_core.proofs.Completing.{ended_by}
use Rattle.tm_core.proofs.EndingOnce.{completions_are_of_launches}
use Rattle.tm_core.proofs.Longer.{answered-append}
use Rattle.tm_core.proofs.Tracing.{is_among, given_after}
use Rattle.tm_pair.specs.Views.{ClientView}
use Rattle.tm_pair.specs.Sides.{IsGoodClient}
use Rattle.tm_client.specs.Launches.{told_tickets}
use Rattle.tm_client.proofs.Elements.{contained}
use Rattle.tm_client.proofs.Living.{answers_are}
use Rattle.tm_client.proofs.Moving.{told_or_plain, told_plain}
use Rattle.tm_client.proofs.Tickets.{tells}
use Rattle.tm_asking.specs.Questions.{HasEnded}
use Rattle.tm_asking.proofs.Among.{none_among, first_among, later_among, among_cases, among_parts}

module _ {V O R T : Type 0} where
  -- a ticket that was told is one of the tickets
  told_among : (answers : List (Answer V O R T)) (ticket : ℕ) → Contains answers (Launched ticket) → Contains (told_tickets answers) ticket
  told_among [] ticket h = absurd (none_among (Launched ticket) h)
  told_among (a ∷ answers) ticket h =
      elim (among_cases a answers (Launched ticket) h) [
        | inl e ↦ subst (λ x. Contains (told_tickets (x ∷ answers)) ticket) e (first_among ticket (told_tickets answers))
        | inr later ↦
            elim (told_or_plain a) [
              | inl (other, is) ↦
                  subst (λ x. Contains (told_tickets (x ∷ answers)) ticket) (sym is) (later_among other (told_tickets answers) ticket (told_among answers ticket later))
              | inr plain ↦ subst (λ l. Contains l ticket) (sym (told_plain a answers plain)) (told_among answers ticket later)
            ]
      ]

  distinct_rest : (a : Answer V O R T) (answers : List (Answer V O R T)) → IsDistinct nat_eq (told_tickets (a ∷ answers)) → IsDistinct nat_eq (told_tickets answers)
  distinct_rest a answers h =
      elim (told_or_plain a) [
        | inl (ticket, is) ↦ IsDistinct-tail nat_eq ticket (told_tickets answers) (subst (λ x. IsDistinct nat_eq (told_tickets (x ∷ answers))) is h)
        | inr plain ↦ subst (λ l. IsDistinct nat_eq l) (told_plain a answers plain) h
      ]

  -- a ticket that comes once does not come both before and behind
  not_both : (xs ys : List (Answer V O R T)) (ticket : ℕ) → IsDistinct nat_eq (told_tickets (xs ++ ys)) → Contains xs (Launched ticket) → Contains ys (Launched ticket)
      → ⊥
  not_both [] ys ticket once before behind = none_among (Launched ticket) before
  not_both (a ∷ xs) ys ticket once before behind =
      elim (among_cases a xs (Launched ticket) before) [
        | inl e ↦
            let here = subst (λ x. IsDistinct nat_eq (told_tickets (x ∷ (xs ++ ys)))) (sym e) once in
            let differ = IsDistinct-head nat_eq ticket (told_tickets (xs ++ ys)) here in
            let no : nat_eq ticket ticket ≡ false =
            contained (λ y. nat_eq ticket y ≡ false) (told_tickets (xs ++ ys)) ticket differ
            (told_among (xs ++ ys) ticket (Contains-append_right xs ys (Launched ticket) behind)) in
            let yes = eq-eqb ticket ticket refl in
            cc
        | inr later ↦ not_both xs ys ticket (distinct_rest a (xs ++ ys) once) later behind
      ]

  -- a ticket that was given out to a place by an entry is in its answer
  given_by :
      (c d k t : ℕ) (given : List ℕ) (q : Request V O R T) (a : Answer V O R T) → is_among t (given_after c given (By d k q a)) ≡ true
      → (is_among t given ≡ true) ⊎ ((d ≡ c) × (a ≡ Launched t))
  given_by c d k t given (Launch n task) (Launched ticket) is =
      elim (cases_eq d c) [
        | inl e ↦
            let here : (ticket == t) || is_among t given ≡ true = rw (eq-eqb d c e) at is in
            elim (cases_eq ticket t) [
              | inl same ↦ inr (e, ap (λ m. Launched m) same)
              | inr ne ↦ inl (ap (λ b. b || is_among t given) (sym (ne_eqb ticket t ne)) ∙ here)
            ]
        | inr ne ↦ inl (rw (ne_eqb d c ne) at is)
      ]
  given_by c d k t given _ _ is = inl is

  -- a completion that a log has for a place is that of its ticket's end there, and the ticket was given out before or is told there
  abbrev IsEndIn : ℕ → List ℕ → List (Entry V O R T) → Completion V O R T → Type 0
  IsEndIn c given log x = HasEnded log x.ticket x.reply × ((is_among x.ticket given ≡ true) ⊎ Contains (answered c log) (Launched x.ticket))

  ended_later : (e : Entry V O R T) (es : List (Entry V O R T)) (ticket : ℕ) (reply : R) → HasEnded es ticket reply → HasEnded (e ∷ es) ticket reply
  ended_later e es ticket reply (id, event, has) = (id, event, later_among e es _ has)

  answered_later : (c : ℕ) (e : Entry V O R T) (es : List (Entry V O R T)) (a : Answer V O R T) → Contains (answered c es) a → Contains (answered c (e ∷ es)) a
  answered_later c (By d k q b) es a h =
      elim (d == c) as (λ t. Contains (cond t (b ∷ answered c es) (answered c es)) a) [ true ↦ later_among b (answered c es) a h | false ↦ h ]
  answered_later c (Resume id ticket event next) es a h = h
  answered_later c (Sent d room) es a h = h

  end_later :
      (c : ℕ) (given : List ℕ) (e : Entry V O R T) (es : List (Entry V O R T)) (x : Completion V O R T) → IsEndIn c given es x → IsEndIn c given (e ∷ es) x
  end_later c given e es x (ended, inl before) = (ended_later e es x.ticket x.reply ended, inl before)
  end_later c given e es x (ended, inr later) = (ended_later e es x.ticket x.reply ended, inr (answered_later c e es (Launched x.ticket) later))

  end_by :
      (c d k : ℕ) (given : List ℕ) (q : Request V O R T) (a : Answer V O R T) (es : List (Entry V O R T)) (x : Completion V O R T)
      → IsEndIn c (given_after c given (By d k q a)) es x → IsEndIn c given (By d k q a ∷ es) x
  end_by c d k given q a es x (ended, inr later) =
      (ended_later (By d k q a) es x.ticket x.reply ended, inr (answered_later c (By d k q a) es (Launched x.ticket) later))
  end_by c d k given q a es x (ended, inl before) =
      elim (given_by c d k x.ticket given q a before) [
        | inl had ↦ (ended_later (By d k q a) es x.ticket x.reply ended, inl had)
        | inr (e, is) ↦ (
          ended_later (By d k q a) es x.ticket x.reply ended,
          inr (subst (λ t. Contains (cond t (a ∷ answered c es) (answered c es)) (Launched x.ticket)) (sym (eq-eqb d c e))
              (subst (λ (y : Answer V O R T). Contains (y ∷ answered c es) (Launched x.ticket)) (sym is) (first_among (Launched x.ticket) (answered c es)))),
        )
      ]

  ends_in : (c : ℕ) (given : List ℕ) (log : List (Entry V O R T)) → AllByRecursion (IsEndIn c given log) (ended_from c given log)
  ends_in c given [] = tt
  ends_in c given (By d k q a ∷ es) =
      rw (ended_by c d k given q a es)
      (all_weaker (IsEndIn c (given_after c given (By d k q a)) es) (IsEndIn c given (By d k q a ∷ es)) (ended_from c (given_after c given (By d k q a)) es)
      (end_by c d k given q a es) (ends_in c (given_after c given (By d k q a)) es))
  ends_in c given (Resume id ticket event (Ask u i op task) ∷ es) =
      all_weaker (IsEndIn c given es) (IsEndIn c given (Resume id ticket event (Ask u i op task) ∷ es)) (ended_from c given es)
      (end_later c given (Resume id ticket event (Ask u i op task)) es) (ends_in c given es)
  ends_in c given (Resume id ticket event (Done r) ∷ es) =
      let e : Entry V O R T = Resume id ticket event (Done r) in
      let x : Completion V O R T = record { ticket = ticket; reply = r } in
      let rest = all_weaker (IsEndIn c given es) (IsEndIn c given (e ∷ es)) (ended_from c given es) (end_later c given e es) (ends_in c given es) in
      let own : (b : Bool) → is_among ticket given ≡ b → AllByRecursion (IsEndIn c given (e ∷ es)) (cond b (x ∷ ended_from c given es) (ended_from c given es)) =
      λ b. elim b as (λ b. is_among ticket given ≡ b → AllByRecursion (IsEndIn c given (e ∷ es)) (cond b (x ∷ ended_from c given es) (ended_from c given es))) [
        | true ↦ λ is. (((id, event, first_among e es), inl is), rest)
        | false ↦ λ is. rest
      ] in
      own (is_among ticket given) refl
  ends_in c given (Sent d room ∷ es) =
      all_weaker (IsEndIn c given es) (IsEndIn c given (Sent d room ∷ es)) (ended_from c given es) (end_later c given (Sent d room) es) (ends_in c given es)

  -- the completions of a longer log are those of its front, and then those behind
  ended_parts : (c : ℕ) (given : List ℕ) (xs ys : List (Entry V O R T)) → (later : List ℕ) × (ended_from c given (xs ++ ys) ≡ ended_from c given xs ++ ended_from c later ys)
  ended_parts c given [] ys = (given, refl)
  ended_parts c given (By d k q a ∷ xs) ys =
      let (later, e) = ended_parts c (given_after c given (By d k q a)) xs ys in
      (later, ended_by c d k given q a (xs ++ ys) ∙ e ∙ ap (λ l. l ++ ended_from c later ys) (sym (ended_by c d k given q a xs)))
  ended_parts c given (Resume id ticket event (Ask u i op task) ∷ xs) ys = ended_parts c given xs ys
  ended_parts c given (Resume id ticket event (Done r) ∷ xs) ys =
      let (later, e) = ended_parts c given xs ys in
      let x : Completion V O R T = record { ticket = ticket; reply = r } in
      let both : (b : Bool) → cond b (x ∷ ended_from c given (xs ++ ys)) (ended_from c given (xs ++ ys))
      ≡ cond b (x ∷ ended_from c given xs) (ended_from c given xs) ++ ended_from c later ys =
      λ b. elim b as (λ b. cond b (x ∷ ended_from c given (xs ++ ys)) (ended_from c given (xs ++ ys)) ≡ cond b (x ∷ ended_from c given xs) (ended_from c given xs) ++ ended_from c later ys) [
        | true ↦ ap (λ l. x ∷ l) e
        | false ↦ e
      ] in
      (later, both (is_among ticket given))
  ended_parts c given (Sent d room ∷ xs) ys = ended_parts c given xs ys

  -- A completion that a side got, whose ticket came behind a front of the log that it has seen, is that of the ticket's end behind this front.
  pub ended_behind :
      (kind : Kind V O R T) (opening : State V O R T) (view : ClientView V O R T) (was grown : List (Entry V O R T)) (x : Completion V O R T)
      → IsGoodClient kind opening view → view.seen ≡ was ++ grown → Contains (completions_in view.got) x
      → Contains (answered view.place grown) (Launched x.ticket) → HasEnded grown x.ticket x.reply
  ended_behind kind opening view was grown x good seen came told =
      let c = view.place in
      let (all, distinct) = completions_are_of_launches kind opening view.seen c good.opens good.is_legal good.in_range in
      let ready = (place_of (state_after kind opening view.seen) c).ready in
      let (later, parts) = ended_parts c [] was grown in
      let split : completions_in view.got ++ ready ≡ ended_from c [] was ++ ended_from c later grown =
      ap (λ l. completions_in l ++ ready) (sym good.leaves) ∙ all ∙ ap (λ log. ended_from c [] log) seen ∙ parts in
      let has : Contains (ended_from c [] was ++ ended_from c later grown) x =
      subst (λ l. Contains l x) split (Contains-append_left (completions_in view.got) ready x came) in
      let once : IsDistinct nat_eq (told_tickets (answered c was ++ answered c grown)) =
      subst (λ l. IsDistinct nat_eq (told_tickets l)) (answers_are kind opening view good ∙ ap (answered c) seen ∙ answered-append c was grown)
      (tells kind opening view good).told in
      elim (among_parts (ended_from c [] was) (ended_from c later grown) x has) [
        | inl before ↦
            elim ((contained (IsEndIn c [] was) (ended_from c [] was) x (ends_in c [] was) before).1) [
              | inl nothing ↦ absurd (let no : false ≡ true = nothing in cc)
              | inr answer ↦ absurd (not_both (answered c was) (answered c grown) x.ticket once answer told)
            ]
        | inr behind ↦ (contained (IsEndIn c later grown) (ended_from c later grown) x (ends_in c later grown) behind).0
      ]
