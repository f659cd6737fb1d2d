-- The replies among answers, and the applies among requests.
use Rattle.std.proofs.Common.{◌≡◌, ℕ, ◌+◌, ◌≤◌, ◌⊎◌, false, List, [], ◌∷◌, ◌++◌, length, map, inl, inr, refl, sym, ◌∙◌, ap, subst, arith, append_assoc, length-append}
use Rattle.std.specs.List.{AllByRecursion, AllZip}
use Rattle.tm_batch.specs.declared.message.Request.{Request}
use Rattle.tm_batch.specs.declared.message.Request.TheVariants.{Entrust, Apply, Launch, Grant, Release, Reclaim, Bye}
use Rattle.tm_batch.specs.declared.message.Answer.{Answer}
use Rattle.tm_batch.specs.declared.message.Answer.TheVariants.{Entrusted, NotEntrusted, Replied, Launched, TicketsSpent, Granted, Gone, GiftsFull, Released, Reclaimed, Shared, ByeDone}
use Rattle.tm_model.specs.Fits.{Fits}
use Rattle.tm_model.specs.Holds.{has_bye}
use Rattle.tm_model.specs.Orderly.{IsOfTrustee}
use Rattle.tm_model.specs.Lists.{IsPrefix}
use Rattle.tm_core.proofs.Lists.{front_empty}
use Rattle.tm_trustee.specs.NestedAsks.{asked_by, IsApply, replied_in, EndsInBye}

module _ {V O R T : Type 0} where
  pub replied_first : (a : Answer V O R T) (answers : List (Answer V O R T)) → replied_in (a ∷ answers) ≡ replied_in (a ∷ []) ++ replied_in answers
  replied_first (Replied r) answers = refl
  replied_first (Entrusted n) answers = refl
  replied_first (NotEntrusted w v) answers = refl
  replied_first (Launched t) answers = refl
  replied_first (TicketsSpent t) answers = refl
  replied_first Granted answers = refl
  replied_first Gone answers = refl
  replied_first GiftsFull answers = refl
  replied_first Released answers = refl
  replied_first (Reclaimed v) answers = refl
  replied_first Shared answers = refl
  replied_first ByeDone answers = refl

  pub replied_one : (a : Answer V O R T) → length (replied_in (a ∷ [])) ≤ 1
  replied_one (Replied r) = omega arith
  replied_one (Entrusted n) = omega arith
  replied_one (NotEntrusted w v) = omega arith
  replied_one (Launched t) = omega arith
  replied_one (TicketsSpent t) = omega arith
  replied_one Granted = omega arith
  replied_one Gone = omega arith
  replied_one GiftsFull = omega arith
  replied_one Released = omega arith
  replied_one (Reclaimed v) = omega arith
  replied_one Shared = omega arith
  replied_one ByeDone = omega arith

  pub replied_in-append : (xs ys : List (Answer V O R T)) → replied_in (xs ++ ys) ≡ replied_in xs ++ replied_in ys
  replied_in-append [] ys = refl
  replied_in-append (a ∷ xs) ys =
      replied_first a (xs ++ ys) ∙ ap (λ l. replied_in (a ∷ []) ++ l) (replied_in-append xs ys)
      ∙ sym (append_assoc (replied_in (a ∷ [])) (replied_in xs) (replied_in ys)) ∙ ap (λ l. l ++ replied_in ys) (sym (replied_first a xs))

  -- one more answer was noted
  pub noting :
      (came now all : List R) (answers rest : List (Answer V O R T)) (a : Answer V O R T) → answers ≡ a ∷ rest → now ≡ came ++ replied_in (a ∷ [])
      → came ++ replied_in answers ≡ all → now ++ replied_in rest ≡ all
  noting came now all answers rest a is more e =
      ap (λ l. l ++ replied_in rest) more ∙ append_assoc came (replied_in (a ∷ [])) (replied_in rest)
      ∙ ap (λ l. came ++ l) (sym (replied_first a rest) ∙ sym (ap replied_in is)) ∙ e

  pub noting_room :
      (came now : List R) (answers rest : List (Answer V O R T)) (a : Answer V O R T) (room : ℕ) → answers ≡ a ∷ rest → now ≡ came ++ replied_in (a ∷ [])
      → length came + length answers ≤ room → length now + length rest ≤ room
  noting_room came now answers rest a room is more le =
      let one = replied_one a in
      let all : length answers ≡ length (a ∷ rest) = ap (λ l. length l) is in
      let both : length now ≡ length came + length (replied_in (a ∷ [])) = ap (λ l. length l) more ∙ length-append came (replied_in (a ∷ [])) in
      omega (arith, one, all, both, le)

  asked_first : (q : Request V O R T) (qs : List (Request V O R T)) → asked_by (q ∷ qs) ≡ asked_by (q ∷ []) ++ asked_by qs
  asked_first (Apply n op) qs = refl
  asked_first (Entrust v) qs = refl
  asked_first (Launch n t) qs = refl
  asked_first (Grant n d) qs = refl
  asked_first (Release n) qs = refl
  asked_first (Reclaim n) qs = refl
  asked_first Bye qs = refl

  pub asked_by-append : (xs ys : List (Request V O R T)) → asked_by (xs ++ ys) ≡ asked_by xs ++ asked_by ys
  asked_by-append [] ys = refl
  asked_by-append (q ∷ xs) ys =
      asked_first q (xs ++ ys) ∙ ap (λ l. asked_by (q ∷ []) ++ l) (asked_by-append xs ys)
      ∙ sym (append_assoc (asked_by (q ∷ [])) (asked_by xs) (asked_by ys)) ∙ ap (λ l. l ++ asked_by ys) (sym (asked_first q xs))

  -- no more replies come than applies were run
  pub replied_few : (qs : List (Request V O R T)) (answers : List (Answer V O R T)) → AllZip Fits qs answers → length (replied_in answers) ≤ length (asked_by qs)
  replied_few [] [] fits = omega arith
  replied_few [] (a ∷ answers) fits = absurd fits
  replied_few (q ∷ qs) [] fits = absurd fits
  replied_few (Apply n op ∷ qs) (Replied r ∷ answers) fits = let more = replied_few qs answers fits.1 in omega (arith, more)
  replied_few (Entrust v ∷ qs) (Entrusted n ∷ answers) fits = replied_few qs answers fits.1
  replied_few (Entrust v ∷ qs) (NotEntrusted w b ∷ answers) fits = replied_few qs answers fits.1
  replied_few (Launch n t ∷ qs) (Launched k ∷ answers) fits = replied_few qs answers fits.1
  replied_few (Launch n t ∷ qs) (TicketsSpent b ∷ answers) fits = replied_few qs answers fits.1
  replied_few (Grant n d ∷ qs) (Granted ∷ answers) fits = replied_few qs answers fits.1
  replied_few (Grant n d ∷ qs) (Gone ∷ answers) fits = replied_few qs answers fits.1
  replied_few (Grant n d ∷ qs) (GiftsFull ∷ answers) fits = replied_few qs answers fits.1
  replied_few (Release n ∷ qs) (Released ∷ answers) fits = replied_few qs answers fits.1
  replied_few (Reclaim n ∷ qs) (Reclaimed v ∷ answers) fits = replied_few qs answers fits.1
  replied_few (Reclaim n ∷ qs) (Shared ∷ answers) fits = replied_few qs answers fits.1
  replied_few (Bye ∷ qs) (ByeDone ∷ answers) fits = replied_few qs answers fits.1
  replied_few (q ∷ qs) (a ∷ answers) fits = absurd fits.0

  behind : (q : Request V O R T) (qs : List (Request V O R T)) → IsApply q → has_bye (q ∷ qs) ≡ false → has_bye qs ≡ false
  behind (Apply n op) qs apply e = e
  behind (Entrust v) qs apply e = absurd apply
  behind (Launch n t) qs apply e = absurd apply
  behind (Grant n d) qs apply e = absurd apply
  behind (Release n) qs apply e = absurd apply
  behind (Reclaim n) qs apply e = absurd apply
  behind Bye qs apply e = absurd apply

  -- what stands behind an apply in requests of which the last alone is a Bye
  apply_ends : (q : Request V O R T) (qs : List (Request V O R T)) → IsApply q → EndsInBye (q ∷ qs) → EndsInBye qs
  apply_ends q qs apply ([], e, none) = let is : q ≡ Bye = cc in absurd (subst IsApply is apply)
  apply_ends q qs apply (p ∷ ps, e, none) =
      let same : p ≡ q = cc in
      let rest : qs ≡ ps ++ Bye ∷ [] = cc in
      (ps, rest, behind p ps (subst IsApply (sym same) apply) none)

  apply_last : (q : Request V O R T) (qs : List (Request V O R T)) → IsApply q → (has_bye (q ∷ qs) ≡ false) ⊎ EndsInBye (q ∷ qs) → (has_bye qs ≡ false) ⊎ EndsInBye qs
  apply_last q qs apply (inl none) = inl (behind q qs apply none)
  apply_last q qs apply (inr ends) = inr (apply_ends q qs apply ends)

  bye_alone : (qs : List (Request V O R T)) → (has_bye (Bye ∷ qs) ≡ false) ⊎ EndsInBye (Bye ∷ qs) → qs ≡ []
  bye_alone qs (inl none) = absurd cc
  bye_alone qs (inr ([], e, none)) = let is : qs ≡ [] = cc in is
  bye_alone qs (inr (p ∷ ps, e, none)) =
      let same : p ≡ Bye = cc in absurd (let bad : has_bye (Bye ∷ ps) ≡ false = subst (λ x. has_bye (x ∷ ps) ≡ false) same none in cc)

  no_answers : (qs : List (Request V O R T)) (answers : List (Answer V O R T)) → qs ≡ [] → AllZip Fits qs answers → answers ≡ []
  no_answers [] [] e fits = refl
  no_answers [] (a ∷ answers) e fits = absurd fits
  no_answers (q ∷ qs) answers e fits = absurd cc

  -- where all are applies each answer is a reply, and a Bye behind them has one more
  pub replied_all :
      (qs : List (Request V O R T)) (answers : List (Answer V O R T)) → AllByRecursion IsOfTrustee qs → (has_bye qs ≡ false) ⊎ EndsInBye qs → AllZip Fits qs answers
      → IsPrefix (map (λ r. Replied r) (replied_in answers)) answers
  replied_all [] [] all last fits = ([], refl)
  replied_all [] (a ∷ answers) all last fits = absurd fits
  replied_all (q ∷ qs) [] all last fits = absurd fits
  replied_all (Apply n op ∷ qs) (Replied r ∷ answers) all last fits =
      let (rest, e) = replied_all qs answers all.1 (apply_last (Apply n op) qs tt last) fits.1 in (rest, ap (λ l. Replied r ∷ l) e)
  replied_all (Bye ∷ qs) (ByeDone ∷ answers) all last fits =
      let none : answers ≡ [] = no_answers qs answers (bye_alone qs last) fits.1 in
      subst (λ l. IsPrefix (map (λ r. Replied r) (replied_in (ByeDone ∷ l))) (ByeDone ∷ l)) (sym none) (ByeDone ∷ [], refl)
  replied_all (Entrust v ∷ qs) (a ∷ answers) all last fits = absurd all.0
  replied_all (Launch n t ∷ qs) (a ∷ answers) all last fits = absurd all.0
  replied_all (Grant n d ∷ qs) (a ∷ answers) all last fits = absurd all.0
  replied_all (Release n ∷ qs) (a ∷ answers) all last fits = absurd all.0
  replied_all (Reclaim n ∷ qs) (a ∷ answers) all last fits = absurd all.0
  replied_all (Apply n op ∷ qs) (a ∷ answers) all last fits = absurd fits.0
  replied_all (Bye ∷ qs) (a ∷ answers) all last fits = absurd fits.0

  no_bye_front : (xs ys : List (Request V O R T)) → has_bye (xs ++ ys) ≡ false → has_bye xs ≡ false
  no_bye_front [] ys e = refl
  no_bye_front (Apply n op ∷ xs) ys e = no_bye_front xs ys e
  no_bye_front (Entrust v ∷ xs) ys e = no_bye_front xs ys e
  no_bye_front (Launch n t ∷ xs) ys e = no_bye_front xs ys e
  no_bye_front (Grant n d ∷ xs) ys e = no_bye_front xs ys e
  no_bye_front (Release n ∷ xs) ys e = no_bye_front xs ys e
  no_bye_front (Reclaim n ∷ xs) ys e = no_bye_front xs ys e
  no_bye_front (Bye ∷ xs) ys e = absurd cc

  -- a front of requests of which the last alone may be a Bye has at most that
  front_ends : (xs rest qs : List (Request V O R T)) → xs ++ rest ≡ qs ++ Bye ∷ [] → has_bye qs ≡ false → (has_bye xs ≡ false) ⊎ EndsInBye xs
  front_ends [] rest qs e none = inl refl
  front_ends (x ∷ xs) rest [] e none =
      let is : x ≡ Bye = cc in
      let nothing : xs ++ rest ≡ [] = cc in
      inr ([], ap (λ q. q ∷ xs) is ∙ ap (λ l. Bye ∷ l) (front_empty xs rest nothing), refl)
  front_ends (x ∷ xs) rest (q ∷ qs) e none =
      let same : x ≡ q = cc in
      let later : xs ++ rest ≡ qs ++ Bye ∷ [] = cc in
      more_front x q xs qs same none (front_ends xs rest qs later (behind_any q qs none))
    where
      behind_any : (q : Request V O R T) (qs : List (Request V O R T)) → has_bye (q ∷ qs) ≡ false → has_bye qs ≡ false
      behind_any (Apply n op) qs e = e
      behind_any (Entrust v) qs e = e
      behind_any (Launch n t) qs e = e
      behind_any (Grant n d) qs e = e
      behind_any (Release n) qs e = e
      behind_any (Reclaim n) qs e = e
      behind_any Bye qs e = absurd cc

      one_more : (q : Request V O R T) (xs qs : List (Request V O R T)) → has_bye (q ∷ qs) ≡ false → has_bye xs ≡ false → has_bye (q ∷ xs) ≡ false
      one_more (Apply n op) xs qs e h = h
      one_more (Entrust v) xs qs e h = h
      one_more (Launch n t) xs qs e h = h
      one_more (Grant n d) xs qs e h = h
      one_more (Release n) xs qs e h = h
      one_more (Reclaim n) xs qs e h = h
      one_more Bye xs qs e h = absurd cc

      more_front :
          (x q : Request V O R T) (xs qs : List (Request V O R T)) → x ≡ q → has_bye (q ∷ qs) ≡ false → (has_bye xs ≡ false) ⊎ EndsInBye xs
          → (has_bye (x ∷ xs) ≡ false) ⊎ EndsInBye (x ∷ xs)
      more_front x q xs qs same none (inl unsaid) = inl (ap (λ r. has_bye (r ∷ xs)) same ∙ one_more q xs qs none unsaid)
      more_front x q xs qs same none (inr (ps, e, unsaid)) =
          inr (x ∷ ps, ap (λ l. x ∷ l) e, ap (λ r. has_bye (r ∷ ps)) same ∙ one_more q ps qs none unsaid)

  pub behind_front :
      (xs ys : List (Request V O R T)) → IsPrefix xs ys → (has_bye ys ≡ false) ⊎ EndsInBye ys → (has_bye xs ≡ false) ⊎ EndsInBye xs
  behind_front xs ys (rest, e) (inl unsaid) = inl (no_bye_front xs rest (ap has_bye (sym e) ∙ unsaid))
  behind_front xs ys (rest, e) (inr (qs, is, none)) = front_ends xs rest qs (sym e ∙ is) none
