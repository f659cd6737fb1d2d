-- What a log owes a place: completions that are ready go with its next answer batch, and the first launch of some object is there while any
-- launch of the place is unfinished.
use Rattle.std.proofs.Common.{◌≡◌, ◌≢◌, ℕ, zero, suc, ◌+◌, ◌≤◌, inl, inr, cond, List, [], ◌∷◌, ◌++◌, length, take, drop, slice_index_or, slice_set, refl, sym, ◌∙◌, ap, subst, arith, eq-eqb, ne_eqb, length-drop, get_or-set_same, get_or-set_other}
use Rattle.std.specs.List.{AllZip}
use Rattle.std.specs.declared.option.Option.TheVariants.{Some}
use Rattle.std.proofs.lemmas.Bool.{cases_eq, cases_lt}
use Rattle.std.proofs.lemmas.List.{set_past}
use Rattle.tm_seq.specs.Kind.{Kind}
use Rattle.tm_batch.specs.declared.limits.TheConstants.{MOST_COMPLETIONS}
use Rattle.tm_batch.specs.declared.message.Request.{Request}
use Rattle.tm_batch.specs.declared.message.Request.TheVariants.{Entrust, Apply, Launch, Grant, Release, Reclaim, Bye}
use Rattle.tm_batch.specs.declared.message.Answer.{Answer}
use Rattle.tm_batch.specs.declared.message.Answer.TheVariants.{Entrusted, NotEntrusted, Replied, Launched, TicketsSpent, Granted, Gone, GiftsFull, Released, Reclaimed, Shared, ByeDone}
use Rattle.tm_batch.specs.declared.message.AnswerBatch.{AnswerBatch}
use Rattle.tm_model.specs.declared.entry.Entry.{Entry}
use Rattle.tm_model.specs.declared.entry.Entry.TheVariants.{By, Resume, Sent}
use Rattle.tm_model.specs.Lists.{EndsIn}
use Rattle.tm_model.specs.State.{Work, Object, Place, State, no_place, place_of, object_of}
use Rattle.tm_model.specs.Serve.{served, sent_off, after, state_after}
use Rattle.tm_model.specs.Entries.{AreResumes}
use Rattle.tm_model.specs.Batches.{leaving, batches_from, batches}
use Rattle.tm_model.specs.Ran.{waiting_after}
use Rattle.tm_model.specs.Given.{tickets_given}
use Rattle.tm_model.specs.Holds.{works_of, unfinished}
use Rattle.tm_model.specs.Fits.{Fits}
use Rattle.tm_core.proofs.Joins.{state-append, batches_join}
use Rattle.tm_core.proofs.Places.{place_field}
use Rattle.tm_core.proofs.Rising.{RisesTo}
use Rattle.tm_trustee.specs.NestedAsks.{asked_by, replied_in}
use Rattle.tm_trustee.specs.Serving.{resumes_in}
use Rattle.tm_turns.proofs.Spending.{resumes_in-append}

nothing_taken : {X : Type 0} (n : ℕ) (xs : List X) → 1 ≤ n → take n xs ≡ [] → xs ≡ []
nothing_taken n [] some e = refl
nothing_taken zero (x ∷ xs) some e = absurd (omega (arith, some))
nothing_taken (suc n) (x ∷ xs) some e = absurd cc

none_before : {X : Type 0} (front : List X) (x : X) → [] ≢ front ++ x ∷ []
none_before [] x e = cc
none_before (y ∷ front) x e = cc

-- the last element
last_same : {X : Type 0} (front other : List X) (x y : X) → front ++ x ∷ [] ≡ other ++ y ∷ [] → x ≡ y
last_same [] [] x y e = cc
last_same [] (z ∷ other) x y e = absurd (none_before other y (let is : [] ≡ other ++ y ∷ [] = cc in is))
last_same (z ∷ front) [] x y e = absurd (none_before front x (let is : [] ≡ front ++ x ∷ [] = cc in is))
last_same (z ∷ front) (w ∷ other) x y e = last_same front other x y (let is : front ++ x ∷ [] ≡ other ++ y ∷ [] = cc in is)

module _ {V O R T : Type 0} where
  ready_at : State V O R T → ℕ → ℕ
  ready_at s c = length (place_of s c).ready

  served_ready :
      (kind : Kind V O R T) (c d : ℕ) (q : Request V O R T) (a : Answer V O R T) (s : State V O R T)
      → length (place_of (served kind c q a s) d).ready ≡ length (place_of s d).ready
  served_ready kind c d (Grant n e) Granted s = place_field (λ p. length p.ready) s.places e d _ refl
  served_ready kind c d Bye ByeDone s = place_field (λ p. length p.ready) s.places c d _ refl
  served_ready kind c d (Entrust v) (Entrusted n) s = refl
  served_ready kind c d (Apply n op) (Replied r) s = refl
  served_ready kind c d (Launch n task) (Launched ticket) s = refl
  served_ready kind c d (Release n) Released s = refl
  served_ready kind c d (Reclaim n) (Reclaimed v) s = refl
  served_ready kind c d _ _ s = refl

  sent_ready : (c d room : ℕ) (s : State V O R T) → length (place_of (sent_off d room s) c).ready ≤ length (place_of s c).ready
  sent_ready c d room s =
      let p = place_of s d in
      let new : Place V O R T = record p { gifts = drop room p.gifts; ready = drop MOST_COMPLETIONS p.ready } in
      elim (cases_eq c d) [
        | inl e ↦
            subst (λ k. length (slice_index_or (slice_set s.places d new) k no_place).ready ≤ length (place_of s k).ready) (sym e)
            (elim (cases_lt d (length s.places)) [
              | inl lt ↦
                  let here = ap (λ (y : Place V O R T). length y.ready) (get_or-set_same s.places d new no_place lt) in
                  let less = length-drop MOST_COMPLETIONS p.ready in
                  omega (arith, here, less)
              | inr past ↦
                  let same = ap (λ xs. length (slice_index_or xs d no_place).ready) (set_past s.places d new past) in
                  omega (arith, same)
            ])
        | inr ne ↦ let same = ap (λ (y : Place V O R T). length y.ready) (get_or-set_other s.places d c new no_place ne) in omega (arith, same)
      ]

  -- without a resume no completion becomes ready
  pub ready_falls :
      (kind : Kind V O R T) (c : ℕ) (s : State V O R T) (es : List (Entry V O R T)) → resumes_in es ≡ 0
      → length (place_of (state_after kind s es) c).ready ≤ length (place_of s c).ready
  ready_falls kind c s [] none = omega arith
  ready_falls kind c s (By d k q a ∷ es) none =
      let more = ready_falls kind c (after kind s (By d k q a)) es none in
      let t = served kind d q a s in
      let counted = place_field (λ p. length p.ready) t.places d c (record (place_of t d) { served = (place_of t d).served + 1 }) refl in
      let same = served_ready kind d c q a s in
      omega (arith, more, counted, same)
  ready_falls kind c s (Resume id ticket event next ∷ es) none = absurd (omega (arith, none))
  ready_falls kind c s (Sent d room ∷ es) none =
      let more = ready_falls kind c (after kind s (Sent d room)) es none in
      let one = sent_ready c d room s in
      omega (arith, more, one)

  -- where an answer batch left without a completion, none is ready
  pub left_none :
      (kind : Kind V O R T) (opening : State V O R T) (log : List (Entry V O R T)) (c room : ℕ) (a : AnswerBatch V O R T)
      → EndsIn (batches kind opening c (log ++ Sent c room ∷ [])) a → a.completions.items ≡ []
      → length (place_of (state_after kind opening (log ++ Sent c room ∷ [])) c).ready ≡ 0
  left_none kind opening log c room a (front, ends) none =
      let s = state_after kind opening log in
      let joins = batches_join kind opening log (Sent c room ∷ []) c in
      let waiting = waiting_after c [] log in
      let own : batches_from kind c (length log) waiting s (Sent c room ∷ []) ≡ leaving c room (length log + 1) waiting s ∷ [] =
      ap (λ b. cond b (leaving c room (length log + 1) waiting s ∷ []) []) (eq-eqb c c refl) in
      let is : a ≡ leaving c room (length log + 1) waiting s =
      last_same front (batches kind opening c log) a (leaving c room (length log + 1) waiting s) (sym ends ∙ joins ∙ ap (λ l. batches kind opening c log ++ l) own) in
      let taken : take MOST_COMPLETIONS (place_of s c).ready ≡ [] = ap (λ (x : AnswerBatch V O R T). x.completions.items) (sym is) ∙ none in
      let empty : (place_of s c).ready ≡ [] = nothing_taken MOST_COMPLETIONS (place_of s c).ready (omega arith) taken in
      let few = sent_ready c c room s in
      let zero : length (place_of s c).ready ≡ 0 = ap (λ l. length l) empty in
      let at : length (place_of (state_after kind opening (log ++ Sent c room ∷ [])) c).ready ≡ length (place_of (sent_off c room s) c).ready =
      ap (λ (x : State V O R T). length (place_of x c).ready) (state-append kind opening log (Sent c room ∷ [])) in
      omega (arith, few, zero, at)

  -- behind an entry that is no resume, of resumes and others behind them, no resume stands
  pub none_behind :
      (xs ys front tail : List (Entry V O R T)) (c room : ℕ) → front ++ Sent c room ∷ tail ≡ xs ++ ys → AreResumes xs → resumes_in ys ≡ 0
      → resumes_in tail ≡ 0
  none_behind [] ys front tail c room e only none =
      let all = ap resumes_in (sym e) in
      let parts = resumes_in-append front (Sent c room ∷ tail) in
      omega (arith, all, parts, none)
  none_behind (Resume id ticket event next ∷ xs) ys [] tail c room e only none =
      absurd (let head : ◌≡◌ {A = Entry V O R T} (Sent c room) (Resume id ticket event next) = cc in cc)
  none_behind (Resume id ticket event next ∷ xs) ys (f ∷ front) tail c room e only none =
      none_behind xs ys front tail c room (let is : front ++ Sent c room ∷ tail ≡ xs ++ ys = cc in is) only none
  none_behind (By d k q a ∷ xs) ys front tail c room e only none = absurd only
  none_behind (Sent d k ∷ xs) ys front tail c room e only none = absurd only

  pub no_resumes : (es : List (Entry V O R T)) → AreResumes es → resumes_in es ≡ 0 → es ≡ []
  no_resumes [] only none = refl
  no_resumes (Resume id ticket event next ∷ es) only none = absurd (omega (arith, none))
  no_resumes (By c k q a ∷ es) only none = absurd only
  no_resumes (Sent c room ∷ es) only none = absurd only

  -- how many requests some entries ran
  abbrev pub runs_in : List (Entry V O R T) → ℕ
  runs_in [] = 0
  runs_in (By c k q a ∷ es) = 1 + runs_in es
  runs_in (Resume id ticket event next ∷ es) = runs_in es
  runs_in (Sent c room ∷ es) = runs_in es

  pub runs_in-append : (xs ys : List (Entry V O R T)) → runs_in (xs ++ ys) ≡ runs_in xs + runs_in ys
  runs_in-append [] ys = omega arith
  runs_in-append (By c k q a ∷ xs) ys = let more = runs_in-append xs ys in omega (arith, more)
  runs_in-append (Resume id ticket event next ∷ xs) ys = runs_in-append xs ys
  runs_in-append (Sent c room ∷ xs) ys = runs_in-append xs ys

  pub resumes_run : (es : List (Entry V O R T)) → AreResumes es → runs_in es ≡ 0
  resumes_run [] only = refl
  resumes_run (Resume id ticket event next ∷ es) only = resumes_run es only
  resumes_run (By c k q a ∷ es) only = absurd only
  resumes_run (Sent c room ∷ es) only = absurd only

  -- and gave out no more tickets
  given_by : (c k : ℕ) (q : Request V O R T) (a : Answer V O R T) (es : List (Entry V O R T))
      → length (tickets_given (By c k q a ∷ es)) ≤ 1 + length (tickets_given es)
  given_by c k (Launch n task) (Launched ticket) es = omega arith
  given_by c k _ _ es = omega arith

  given_more : (c k : ℕ) (q : Request V O R T) (a : Answer V O R T) (xs ys : List (Entry V O R T))
      → length (tickets_given (xs ++ ys)) ≤ length (tickets_given xs) + runs_in ys
      → length (tickets_given (By c k q a ∷ (xs ++ ys))) ≤ length (tickets_given (By c k q a ∷ xs)) + runs_in ys
  given_more c k (Launch n task) (Launched ticket) xs ys more = omega (arith, more)
  given_more c k _ _ xs ys more = more

  pub tickets_most : (xs ys : List (Entry V O R T)) → length (tickets_given (xs ++ ys)) ≤ length (tickets_given xs) + runs_in ys
  tickets_most [] [] = omega arith
  tickets_most [] (By c k q a ∷ ys) = let more = tickets_most [] ys in let one = given_by c k q a ys in omega (arith, more, one)
  tickets_most [] (Resume id ticket event next ∷ ys) = tickets_most [] ys
  tickets_most [] (Sent c room ∷ ys) = tickets_most [] ys
  tickets_most (By c k q a ∷ xs) ys = given_more c k q a xs ys (tickets_most xs ys)
  tickets_most (Resume id ticket event next ∷ xs) ys = tickets_most xs ys
  tickets_most (Sent c room ∷ xs) ys = tickets_most xs ys

  -- each apply is answered by a reply
  pub asked_replied : (qs : List (Request V O R T)) (answers : List (Answer V O R T)) → AllZip Fits qs answers → length (asked_by qs) ≤ length (replied_in answers)
  asked_replied [] [] fits = omega arith
  asked_replied [] (a ∷ answers) fits = absurd fits
  asked_replied (q ∷ qs) [] fits = absurd fits
  asked_replied (Apply n op ∷ qs) (Replied r ∷ answers) fits = let more = asked_replied qs answers fits.1 in omega (arith, more)
  asked_replied (Entrust v ∷ qs) (Entrusted n ∷ answers) fits = asked_replied qs answers fits.1
  asked_replied (Entrust v ∷ qs) (NotEntrusted w b ∷ answers) fits = asked_replied qs answers fits.1
  asked_replied (Launch n t ∷ qs) (Launched k ∷ answers) fits = asked_replied qs answers fits.1
  asked_replied (Launch n t ∷ qs) (TicketsSpent b ∷ answers) fits = asked_replied qs answers fits.1
  asked_replied (Grant n d ∷ qs) (Granted ∷ answers) fits = asked_replied qs answers fits.1
  asked_replied (Grant n d ∷ qs) (Gone ∷ answers) fits = asked_replied qs answers fits.1
  asked_replied (Grant n d ∷ qs) (GiftsFull ∷ answers) fits = asked_replied qs answers fits.1
  asked_replied (Release n ∷ qs) (Released ∷ answers) fits = asked_replied qs answers fits.1
  asked_replied (Reclaim n ∷ qs) (Reclaimed v ∷ answers) fits = asked_replied qs answers fits.1
  asked_replied (Reclaim n ∷ qs) (Shared ∷ answers) fits = asked_replied qs answers fits.1
  asked_replied (Bye ∷ qs) (ByeDone ∷ answers) fits = asked_replied qs answers fits.1
  asked_replied (q ∷ qs) (a ∷ answers) fits = absurd fits.0

some_work : {T : Type 0} (c : ℕ) (ws : List (Work T)) → 1 ≤ works_of c ws → (w : Work T) × (rest : List (Work T)) × (ws ≡ w ∷ rest)
some_work c [] some = absurd (omega (arith, some))
some_work c (w ∷ ws) some = (w, ws, refl)

module _ {V T : Type 0} where
  -- where a launch of a place is unfinished, some object has a first one
  pub record HasWork (live : List (Object V T)) : Type 0 where
    pub object : Object V T
    pub at : object_of live object.id ≡ Some object
    pub first : Work T
    pub rest : List (Work T)
    pub works : object.works ≡ first ∷ rest

  later_id : (n low next : ℕ) (live : List (Object V T)) (x : Object V T) → RisesTo n low next live → object_of live x.id ≡ Some x → low ≤ x.id
  later_id n low next [] x rises at = absurd cc
  later_id n low next (o ∷ live) x rises at =
      elim (cases_eq o.id x.id) [
        | inl e ↦ let first = rises.0 in omega (arith, e, first)
        | inr ne ↦
            let elsewhere = rw (ne_eqb o.id x.id ne) at at in
            let more = later_id n (o.id + 1) next live x rises.2 elsewhere in
            let first = rises.0 in
            omega (arith, more, first)
      ]

  pub has_work : (c n low next : ℕ) (live : List (Object V T)) → RisesTo n low next live → 1 ≤ unfinished c live → HasWork live
  has_work c n low next [] rises some = absurd (omega (arith, some))
  has_work c n low next (o ∷ live) rises some =
      elim (cases_eq (works_of c o.works) 0) [
        | inr ne ↦
            let (w, rest, is) = some_work c o.works (omega (arith, ne)) in
            record { object = o; at = rw (eq-eqb o.id o.id refl) refl; first = w; rest = rest; works = is }
        | inl none ↦
            let later = has_work c n (o.id + 1) next live rises.2 (omega (arith, some, none)) in
            let above = later_id n (o.id + 1) next live later.object rises.2 later.at in
            record {
              object = later.object;
              at = rw (ne_eqb o.id later.object.id (λ e. absurd (omega (arith, e, above)))) later.at;
              first = later.first;
              rest = later.rest;
              works = later.works;
            }
      ]
