-- What a log ran of a place, by its requests and the answers to them.
use Rattle.std.proofs.Common.{◌≡◌, ℕ, ◌≤◌, true, false, cond, List, [], ◌∷◌, ◌++◌, length, map, length-append, inl, inr, refl, sym, ◌∙◌, ap, subst, arith, append_assoc, append-nil}
use Rattle.std.specs.Prelude.{◌==◌}
use Rattle.std.specs.List.{AllByRecursion}
use Rattle.std.proofs.lemmas.List.{length-map}
use Rattle.tm_batch.specs.declared.message.Request.{Request}
use Rattle.tm_batch.specs.declared.message.Request.TheVariants.{Entrust, Apply, Launch, Grant, Release, Reclaim, Bye}
use Rattle.tm_batch.specs.declared.message.Answer.{Answer}
use Rattle.tm_batch.specs.declared.message.Answer.TheVariants.{Replied}
use Rattle.tm_model.specs.declared.entry.Entry.{Entry}
use Rattle.tm_model.specs.declared.entry.Entry.TheVariants.{By, Resume, Sent}
use Rattle.tm_model.specs.Lists.{IsPrefix}
use Rattle.tm_model.specs.Orderly.{IsOfTrustee}
use Rattle.tm_model.specs.Ran.{ran, answered}
use Rattle.tm_model.specs.Holds.{has_bye}
use Rattle.tm_laws.specs.Objects.{Run, runs_for}
use Rattle.tm_trustee.specs.NestedAsks.{NestedAsk, ToldReply, target, asked_by, IsApply, HasSent}
use Rattle.tm_trustee.proofs.Replied.{asked_by-append}
use Rattle.tm_rest.specs.Resting.{asks_told}

none_of_length : {X : Type 0} (xs : List X) → length xs ≡ 0 → xs ≡ []
none_of_length [] e = refl
none_of_length (x ∷ xs) e = absurd (omega (arith, e))

module _ {V O R T : Type 0} where
  -- the operations among some requests that have replies, position by position
  abbrev pub runs_in : List (Request V O R T) → List (Answer V O R T) → List (Run O R)
  runs_in [] answers = []
  runs_in (q ∷ qs) [] = []
  runs_in (Apply n op ∷ qs) (Replied r ∷ answers) = record { id = n.id; op = op; reply = r } ∷ runs_in qs answers
  runs_in (q ∷ qs) (a ∷ answers) = runs_in qs answers

  pub runs_are : (c : ℕ) (log : List (Entry V O R T)) → runs_for c log ≡ runs_in (ran c log) (answered c log)
  runs_are c [] = refl
  runs_are c (By d k (Apply n op) (Replied r) ∷ log) =
      ap (λ l. cond (d == c) (record { id = n.id; op = op; reply = r } ∷ l) l) (runs_are c log)
      ∙ elim (d == c) as
      (λ t. cond t (record { id = n.id; op = op; reply = r } ∷ runs_in (ran c log) (answered c log)) (runs_in (ran c log) (answered c log))
      ≡ runs_in (cond t (Apply n op ∷ ran c log) (ran c log)) (cond t (Replied r ∷ answered c log) (answered c log))) [ true ↦ refl | false ↦ refl ]
  runs_are c (Resume id ticket event next ∷ log) = runs_are c log
  runs_are c (Sent d room ∷ log) = runs_are c log
  runs_are c (By d k q a ∷ log) =
      runs_are c log
      ∙ elim (d == c) as
      (λ t. runs_in (ran c log) (answered c log) ≡ runs_in (cond t (q ∷ ran c log) (ran c log)) (cond t (a ∷ answered c log) (answered c log))) [ true ↦ refl | false ↦ refl ]

  -- requests of trustees without a Bye are applies
  pub all_apply : (qs : List (Request V O R T)) → AllByRecursion IsOfTrustee qs → has_bye qs ≡ false → AllByRecursion IsApply qs
  all_apply [] only none = tt
  all_apply (Apply n op ∷ qs) only none = (tt, all_apply qs only.1 none)
  all_apply (Bye ∷ qs) only none = absurd cc
  all_apply (Entrust v ∷ qs) only none = absurd only.0
  all_apply (Launch n task ∷ qs) only none = absurd only.0
  all_apply (Grant n d ∷ qs) only none = absurd only.0
  all_apply (Release n ∷ qs) only none = absurd only.0
  all_apply (Reclaim n ∷ qs) only none = absurd only.0

  pub all_front : (P : Request V O R T → Type 0) (xs ys : List (Request V O R T)) → AllByRecursion P (xs ++ ys) → AllByRecursion P xs
  all_front P [] ys all = tt
  all_front P (x ∷ xs) ys all = (all.0, all_front P xs ys all.1)

  -- as many are asked as there are applies, and no more than there are requests
  pub asked_all : (qs : List (Request V O R T)) → AllByRecursion IsApply qs → length (asked_by qs) ≡ length qs
  asked_all [] all = refl
  asked_all (Apply n op ∷ qs) all = let more = asked_all qs all.1 in omega (arith, more)
  asked_all (Bye ∷ qs) all = absurd all.0
  asked_all (Entrust v ∷ qs) all = absurd all.0
  asked_all (Launch n task ∷ qs) all = absurd all.0
  asked_all (Grant n d ∷ qs) all = absurd all.0
  asked_all (Release n ∷ qs) all = absurd all.0
  asked_all (Reclaim n ∷ qs) all = absurd all.0

  -- asks that were sent and told are the operations of the first requests and answers
  pub told_runs :
      (qs tail : List (Request V O R T)) (asks : List (NestedAsk O)) (told : List (ToldReply R)) (more : List (Answer V O R T)) → AllByRecursion IsApply qs
      → asked_by qs ≡ map target asks → length told ≡ length asks
      → runs_in (qs ++ tail) (map (λ t. Replied t.reply) told ++ more) ≡ asks_told asks told ++ runs_in tail more
  told_runs [] tail [] [] more all e many = refl
  told_runs [] tail [] (t ∷ told) more all e many = absurd (omega (arith, many))
  told_runs [] tail (a ∷ asks) told more all e many = absurd cc
  told_runs (Apply n op ∷ qs) tail [] told more all e many = absurd cc
  told_runs (Apply n op ∷ qs) tail (a ∷ asks) [] more all e many = absurd (omega (arith, many))
  told_runs (Apply n op ∷ qs) tail (a ∷ asks) (t ∷ told) more all e many =
      let first : ◌≡◌ {A = ℕ × O} (n.id, op) (a.id, a.op) = cc in
      let later : asked_by qs ≡ map target asks = cc in
      ap (λ l. record { id = n.id; op = op; reply = t.reply } ∷ l) (told_runs qs tail asks told more all.1 later (omega (arith, many)))
      ∙ ap (λ (p : ℕ × O). record { id = p.0; op = p.1; reply = t.reply } ∷ (asks_told asks told ++ runs_in tail more)) first
  told_runs (Bye ∷ qs) tail asks told more all e many = absurd all.0
  told_runs (Entrust v ∷ qs) tail asks told more all e many = absurd all.0
  told_runs (Launch n task ∷ qs) tail asks told more all e many = absurd all.0
  told_runs (Grant n d ∷ qs) tail asks told more all e many = absurd all.0
  told_runs (Release n ∷ qs) tail asks told more all e many = absurd all.0
  told_runs (Reclaim n ∷ qs) tail asks told more all e many = absurd all.0

  -- a longer front begins with a shorter one
  front_splits : (xs ys qs rest : List (Request V O R T)) → qs ++ rest ≡ xs ++ ys → length xs ≤ length qs → (tail : List (Request V O R T)) × (qs ≡ xs ++ tail) × (ys ≡ tail ++ rest)
  front_splits [] ys qs rest e le = (qs, refl, sym e)
  front_splits (x ∷ xs) ys [] rest e le = absurd (omega (arith, le))
  front_splits (x ∷ xs) ys (q ∷ qs) rest e le =
      let first : q ≡ x = cc in
      let later : qs ++ rest ≡ xs ++ ys = cc in
      let (tail, is, others) = front_splits xs ys qs rest later (omega (arith, le)) in
      (tail, ap (λ l. q ∷ l) is ∙ ap (λ y. y ∷ (xs ++ tail)) first, others)

  nothing_in : (tail rest : List (Request V O R T)) (more : List (Answer V O R T)) → [] ≡ tail ++ rest → runs_in tail more ≡ []
  nothing_in [] rest more e = refl
  nothing_in (q ∷ tail) rest more e = absurd cc

  tail_none : (tail rest : List (Request V O R T)) (more : List (Answer V O R T)) → Bye ∷ [] ≡ tail ++ rest → runs_in tail more ≡ []
  tail_none [] rest more e = refl
  tail_none (q ∷ tail) rest [] e = refl
  tail_none (q ∷ tail) rest (a ∷ more) e =
      let first : Bye ≡ q = cc in
      let later : [] ≡ tail ++ rest = cc in
      subst (λ y. runs_in (y ∷ tail) (a ∷ more) ≡ []) first (nothing_in tail rest more later)

  -- Requests that were run are a front of those that were sent; these are a front of what was asked, or all of it and a Bye. Where as many replies
  -- were told as asks made, they are just the asks.
  pub runs_told :
      (qs sent : List (Request V O R T)) (answers : List (Answer V O R T)) (asks : List (NestedAsk O)) (told : List (ToldReply R)) → IsPrefix qs sent
      → AllByRecursion IsOfTrustee sent → HasSent (map target asks) sent → length answers ≡ length qs → IsPrefix (map (λ t. Replied t.reply) told) answers
      → length told ≡ length asks → runs_in qs answers ≡ asks_told asks told
  runs_told qs sent answers asks told (rest, whole) only (inl (no_bye, (others, asked))) many (more, first) as_many =
      let applies = all_apply sent only no_bye in
      let own = all_front IsApply qs rest (subst (λ l. AllByRecursion IsApply l) whole applies) in
      let long = asked_all qs own in
      let cut : map target asks ≡ asked_by qs ++ (asked_by rest ++ others) =
      asked ∙ ap (λ l. asked_by l ++ others) whole ∙ ap (λ l. l ++ others) (asked_by-append qs rest) ∙ append_assoc (asked_by qs) (asked_by rest) others in
      let a = ap length cut ∙ length-append (asked_by qs) (asked_by rest ++ others) in
      let b = length-map asks target in
      let c = ap length first ∙ length-append (map (λ t. Replied t.reply) told) more in
      let replies : List (Answer V O R T) = map (λ t. Replied t.reply) told in
      let d : length replies ≡ length told = length-map told (λ t. Replied t.reply) in
      let none : asked_by rest ++ others ≡ [] = none_of_length _ (omega (arith, a, b, c, d, long, many, as_many)) in
      let no_more : more ≡ [] = none_of_length more (omega (arith, a, b, c, d, long, many, as_many)) in
      let same : asked_by qs ≡ map target asks = sym (append-nil (asked_by qs)) ∙ ap (λ l. asked_by qs ++ l) (sym none) ∙ sym cut in
      ap (λ l. runs_in l answers) (sym (append-nil qs)) ∙ ap (runs_in (qs ++ [])) first ∙ told_runs qs [] asks told more own same as_many ∙ append-nil (asks_told asks told)
  runs_told qs sent answers asks told (rest, whole) only (inr (before, is_all, no_bye, asked)) many (more, first) as_many =
      let applies = all_apply before (all_front IsOfTrustee before (Bye ∷ []) (subst (λ l. AllByRecursion IsOfTrustee l) is_all only)) no_bye in
      let long = asked_all before applies in
      let b = length-map asks target in
      let a = ap length asked in
      let c = ap length first ∙ length-append (map (λ t. Replied t.reply) told) more in
      let replies : List (Answer V O R T) = map (λ t. Replied t.reply) told in
      let d : length replies ≡ length told = length-map told (λ t. Replied t.reply) in
      let (tail, is, others) = front_splits before (Bye ∷ []) qs rest (sym whole ∙ is_all) (omega (arith, a, b, c, d, long, many, as_many)) in
      ap (λ l. runs_in l answers) is ∙ ap (runs_in (before ++ tail)) first ∙ told_runs before tail asks told more applies asked as_many
      ∙ ap (λ l. asks_told asks told ++ l) (tail_none tail rest more others) ∙ append-nil (asks_told asks told)
