-- What comes with the completions of a batch.
use Rattle.std.proofs.Common.{◌≡◌, ◌≢◌, ℕ, ◌⊎◌, inl, inr, true, not, List, [], ◌∷◌, ◌++◌, map, refl, sym, ◌∙◌, ap, subst, ne_eqb}
use Rattle.std.specs.Prelude.{◌==◌, nat_eq, slice_get, IsSomeAnd}
use Rattle.std.specs.List.{AllByRecursion, IsDistinct, Contains, list_any}
use Rattle.std.specs.declared.option.Option.TheVariants.{Some}
use Rattle.std.proofs.lemmas.Bool.{cases_eq}
use Rattle.std.proofs.lemmas.Option.{slice_get-get_or}
use Rattle.tm_batch.specs.declared.message.Answer.{Answer}
use Rattle.tm_batch.specs.declared.message.Answer.TheVariants.{Launched}
use Rattle.tm_batch.specs.declared.message.Completion.{Completion}
use Rattle.tm_model.specs.declared.entry.Entry.{Entry}
use Rattle.tm_core.proofs.CallerLemmas.{all-append, all_weaker, all_filter, option_cases}
use Rattle.tm_client.specs.declared.lane.Unfinished.{Unfinished}
use Rattle.tm_client.specs.declared.answers.Arrival.{Arrival}
use Rattle.tm_client.specs.declared.answers.Came.TheVariants.{Finished}
use Rattle.tm_client.specs.Launches.{ended_tickets, tickets_of, launch_of, launches_left, finish_of, finished_by, finished_of}
use Rattle.tm_client.proofs.Elements.{contained}
use Rattle.tm_client.proofs.Ended.{find_own, find_other, found_at}
use Rattle.tm_client.proofs.Told.{bool_cases}
use Rattle.tm_asking.specs.Questions.{HasEnded}
use Rattle.tm_asking.specs.Asking.{come_at, IsCome, IsTold}
use Rattle.tm_asking.proofs.Among.{first_among, later_among, kept_among, map_among, flat_among}
use Rattle.tm_asking.proofs.Taking.{come_here, come_other}
use Rattle.tm_asking.proofs.Coming.{come_more, come_among}

-- the launch that is found is one of them, and that of the ticket
launch_among : (ticket : ℕ) (ls : List (Unfinished ℕ)) (l : Unfinished ℕ) → launch_of ticket ls ≡ Some l → Contains ls l × (l.ticket ≡ ticket)
launch_among ticket [] l e = absurd cc
launch_among ticket (x ∷ ls) l e =
    elim (cases_eq x.ticket ticket) [
      | inl own ↦
          let both : Some x ≡ Some l = sym (find_own ticket x ls own) ∙ e in
          let same : x ≡ l = cc in
          subst (λ y. Contains (x ∷ ls) y × (y.ticket ≡ ticket)) same (first_among x ls, own)
      | inr ne ↦ let rest = launch_among ticket ls l (sym (find_other ticket x ls ne) ∙ e) in (later_among x ls l rest.0, rest.1)
    ]

-- of launches that have tickets of their own each is found by its ticket
found_own : (ls : List (Unfinished ℕ)) (l : Unfinished ℕ) → IsDistinct nat_eq (tickets_of ls) → Contains ls l → launch_of l.ticket ls ≡ Some l
found_own ls l once (k, lt, at) =
    let there : slice_get ls k ≡ Some l = slice_get-get_or ls k l lt ∙ ap (λ x. Some x) at in
    let found = found_at l.ticket ls k once (subst (λ o. IsSomeAnd o (λ x. x.ticket ≡ l.ticket)) (sym there) refl) in
    sym found.1 ∙ there

module _ {V O R T : Type 0} where
  -- a ticket that ended is that of a completion
  ended_among : (ticket : ℕ) (xs : List (Completion V O R T)) → list_any (λ g. g == ticket) (ended_tickets xs) ≡ true → (x : Completion V O R T) × Contains xs x × (x.ticket ≡ ticket)
  ended_among ticket [] h = absurd cc
  ended_among ticket (x ∷ xs) h =
      elim (cases_eq x.ticket ticket) [
        | inl own ↦ (x, first_among x xs, own)
        | inr ne ↦
            let (y, has, own) = ended_among ticket xs (rw (ne_eqb x.ticket ticket ne) at h) in
            (y, later_among x xs y has, own)
      ]

  -- a launch arrives with its completion, or lacks it still
  pub launch_goes :
      (t : ℕ) (ls : List (Unfinished ℕ)) (xs : List (Completion V O R T)) (l : Unfinished ℕ) → IsDistinct nat_eq (tickets_of ls) → Contains ls l
      → Contains (map (λ c. c.0) (come_at t (finished_of t ls xs))) l.after ⊎ Contains (map (λ x. x.after) (launches_left (ended_tickets xs) ls)) l.after
  launch_goes t ls xs l once has =
      elim (bool_cases (list_any (λ g. g == l.ticket) (ended_tickets xs))) [
        | inl ended ↦
            let (x, among, own) = ended_among l.ticket xs ended in
            let a : Arrival V ℕ O R T = record { trustee = t; name = l.name; after = l.after; came = Finished x.reply } in
            let found : launch_of x.ticket ls ≡ Some l = ap (λ n. launch_of n ls) own ∙ found_own ls l once has in
            let by : Contains (finished_by t ls x) a = subst (λ o. Contains (finish_of t x.reply o) a) (sym found) (first_among a []) in
            let arrives : Contains (finished_of t ls xs) a = flat_among (λ y. finished_by t ls y) xs x a among by in
            inl (map_among (λ c. c.0) (come_at t (finished_of t ls xs)) (l.after, Finished x.reply) (come_among t (finished_of t ls xs) a arrives refl))
        | inr still ↦
            inr (map_among (λ x. x.after) (launches_left (ended_tickets xs) ls) l
            (kept_among (λ x. not (list_any (λ g. g == x.ticket) (ended_tickets xs))) ls l has (ap not still)))
      ]

  -- a launch that lacks its completion still is one of those that did
  pub left_told : (told : List (ℕ × Answer V O R T)) (gone : List ℕ) (ls : List (Unfinished ℕ)) → AllByRecursion (IsTold told) ls → AllByRecursion (IsTold told) (launches_left gone ls)
  left_told told gone ls h =
      all_weaker (λ l. IsTold told l × (not (list_any (λ g. g == l.ticket) gone) ≡ true)) (IsTold told) (launches_left gone ls) (λ l both. both.0)
      (all_filter (IsTold told) (λ l. not (list_any (λ g. g == l.ticket) gone)) ls h)

  one_finished :
      (log : List (Entry V O R T)) (told : List (ℕ × Answer V O R T)) (t : ℕ) (ls : List (Unfinished ℕ)) (x : Completion V O R T) → AllByRecursion (IsTold told) ls
      → ((l : Unfinished ℕ) → IsTold told l → l.ticket ≡ x.ticket → HasEnded log x.ticket x.reply)
      → AllByRecursion (IsCome log told) (come_at t (finished_by t ls x))
  one_finished log told t ls x all ends =
      elim (option_cases (launch_of x.ticket ls)) [
        | inl none ↦ subst (λ o. AllByRecursion (IsCome log told) (come_at t (finish_of t x.reply o))) (sym none) tt
        | inr (l, found) ↦
            let (has, own) = launch_among x.ticket ls l found in
            let is_told = contained (IsTold told) ls l all has in
            let ended = subst (λ n. HasEnded log n x.reply) (sym own) (ends l is_told own) in
            subst (λ o. AllByRecursion (IsCome log told) (come_at t (finish_of t x.reply o))) (sym found)
            (subst (AllByRecursion (IsCome log told))
            (sym (come_here t (record { trustee = t; name = l.name; after = l.after; came = Finished x.reply }) [] refl))
            ((Launched l.ticket, is_told, (l.ticket, refl, ended)), tt))
      ]

  -- what arrives with completions is of launches that were told, each with the reply with which its work ended
  pub finished_come :
      (log : List (Entry V O R T)) (told : List (ℕ × Answer V O R T)) (t : ℕ) (ls : List (Unfinished ℕ)) (xs : List (Completion V O R T)) → AllByRecursion (IsTold told) ls
      → ((x : Completion V O R T) (l : Unfinished ℕ) → Contains xs x → IsTold told l → l.ticket ≡ x.ticket → HasEnded log x.ticket x.reply)
      → AllByRecursion (IsCome log told) (come_at t (finished_of t ls xs))
  finished_come log told t ls [] all ends = tt
  finished_come log told t ls (x ∷ xs) all ends =
      subst (AllByRecursion (IsCome log told)) (sym (come_more t (finished_by t ls x) (finished_of t ls xs)))
      (all-append (IsCome log told) (come_at t (finished_by t ls x)) (come_at t (finished_of t ls xs))
      (one_finished log told t ls x all (λ l is own. ends x l (first_among x xs) is own))
      (finished_come log told t ls xs all (λ y l has is own. ends y l (later_among x xs y has) is own)))

  -- nothing arrives of another trustee
  none_elsewhere : (u t : ℕ) (ls : List (Unfinished ℕ)) (x : Completion V O R T) → u ≢ t → come_at u (finished_by t ls x) ≡ []
  none_elsewhere u t ls x ne =
      elim (option_cases (launch_of x.ticket ls)) [
        | inl none ↦ ap (λ o. come_at u (finish_of t x.reply o)) none
        | inr (l, found) ↦
            ap (λ o. come_at u (finish_of t x.reply o)) found
            ∙ come_other u (record { trustee = t; name = l.name; after = l.after; came = Finished x.reply }) [] (λ e. ne (sym e))
      ]

  pub finished_elsewhere : (u t : ℕ) (ls : List (Unfinished ℕ)) (xs : List (Completion V O R T)) → u ≢ t → come_at u (finished_of t ls xs) ≡ []
  finished_elsewhere u t ls [] ne = refl
  finished_elsewhere u t ls (x ∷ xs) ne =
      come_more u (finished_by t ls x) (finished_of t ls xs) ∙ ap (λ l. l ++ come_at u (finished_of t ls xs)) (none_elsewhere u t ls x ne)
      ∙ finished_elsewhere u t ls xs ne
