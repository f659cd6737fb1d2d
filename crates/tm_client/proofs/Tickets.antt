-- A ticket comes once, and so does its completion: what came to a side tells which of its launches wait for their completion.
-- Other crates import from this file.
use Rattle.std.proofs.Common.{◌≡◌, ◌≢◌, ℕ, ◌+◌, ◌<◌, ◌≤◌, ◌⊎◌, ◌||◌, Bool, true, false, not, cond, List, [], ◌∷◌, ◌++◌, length, zero, suc, slice_index_or, inl, inr, refl, sym, ◌∙◌, ap, subst, arith, eq-eqb, ne_eqb, append-nil, append_assoc, length-append}
use Rattle.std.specs.Prelude.{◌==◌, nat_eq}
use Rattle.std.specs.List.{AllByRecursion, AllZip, IsDistinct, Contains, list_any, range_with_len}
use Rattle.std.proofs.lemmas.Bool.{cases_eq}
use Rattle.std.proofs.lemmas.List.Concat.{flat_map-append}
use Rattle.std.proofs.lemmas.List.Elements.{Contains-append_left, Contains-append_right, Contains-push, filter-append}
use Rattle.tm_seq.specs.Kind.{Kind}
use Rattle.tm_batch.specs.declared.message.Request.{Request}
use Rattle.tm_batch.specs.declared.message.Request.TheVariants.{Entrust, Apply, Launch, Grant, Release, Reclaim, Bye}
use Rattle.tm_batch.specs.declared.message.Answer.{Answer}
use Rattle.tm_batch.specs.declared.message.Answer.TheVariants.{Entrusted, NotEntrusted, Replied, Launched, TicketsSpent, Granted, Gone, GiftsFull, Released, Reclaimed, Shared, ByeDone}
use Rattle.tm_batch.specs.declared.message.Completion.{Completion}
use Rattle.tm_batch.specs.declared.message.AnswerBatch.{AnswerBatch}
use Rattle.tm_model.specs.declared.entry.Entry.{Entry}
use Rattle.tm_model.specs.declared.entry.Entry.TheVariants.{By, Resume, Sent}
use Rattle.tm_model.specs.State.{State, place_of}
use Rattle.tm_model.specs.Serve.{after, state_after}
use Rattle.tm_model.specs.Legal.{Serves, IsLegal}
use Rattle.tm_model.specs.Ran.{ran, answered}
use Rattle.tm_model.specs.Given.{tickets_given, ended_for, completions_in}
use Rattle.tm_model.specs.Holds.{launches_in, spent_in, answers_in, ended_in}
use Rattle.tm_model.specs.Fits.{Fits}
use Rattle.tm_core.proofs.CallerLemmas.{all-append}
use Rattle.tm_core.proofs.ClientTickets.{tickets_come_first}
use Rattle.tm_core.proofs.EndingOnce.{completions_are_of_launches}
use Rattle.tm_core.proofs.Longer.{ids_never_return}
use Rattle.tm_core.proofs.Tallies.{launches_in-append, spent_in-append, answers_in-append}
use Rattle.tm_pair.specs.Views.{ClientView}
use Rattle.tm_pair.specs.Sides.{IsGoodClient}
use Rattle.tm_client.specs.Lanes.{out_requests}
use Rattle.tm_client.specs.Launches.{remaining, told_tickets, ended_tickets, waiting_tickets}
use Rattle.tm_client.specs.Tickets.{TellsTickets, TicketsTell, CollectsEnd}
use Rattle.tm_client.proofs.Living.{sent_is, answers_are, answers_fitting}

-- how often a number stands in a list
abbrev many : ℕ → List ℕ → ℕ
many t [] = 0
many t (x ∷ xs) = cond (x == t) 1 0 + many t xs

-- whether it stands there
abbrev is_in : ℕ → List ℕ → Bool
is_in t xs = list_any (λ x. x == t) xs

many_own : (t : ℕ) (xs : List ℕ) → many t (t ∷ xs) ≡ 1 + many t xs
many_own t xs = rw (eq-eqb t t refl) refl

many_other : (x t : ℕ) (xs : List ℕ) → x ≢ t → many t (x ∷ xs) ≡ many t xs
many_other x t xs ne = rw (ne_eqb x t ne) (omega arith)

many-append : (t : ℕ) (xs ys : List ℕ) → many t (xs ++ ys) ≡ many t xs + many t ys
many-append t [] ys = omega arith
many-append t (x ∷ xs) ys = let more = many-append t xs ys in omega (arith, more)

-- it stands there as a number that is counted
in_many : (t : ℕ) (xs : List ℕ) → ((is_in t xs ≡ true) × (1 ≤ many t xs)) ⊎ ((is_in t xs ≡ false) × (many t xs ≡ 0))
in_many t [] = inr (refl, refl)
in_many t (x ∷ xs) =
    elim (cases_eq x t) [
      | inl e ↦ rw (eq-eqb x t e) (inl (refl, omega arith))
      | inr ne ↦
          let none = ne_eqb x t ne in
          elim (in_many t xs) [
            | inl (is, some) ↦ rw none (inl (is, omega (arith, some)))
            | inr (is, nothing) ↦ rw none (inr (is, omega (arith, nothing)))
          ]
    ]

-- numbers that differ from one do not count for it
none_many : (t : ℕ) (xs : List ℕ) → AllByRecursion (λ y. nat_eq t y ≡ false) xs → many t xs ≡ 0
none_many t [] h = refl
none_many t (x ∷ xs) h =
    let ne : x ≢ t = λ e. absurd (let yes = eq-eqb t x (sym e) in let no = h.0 in cc) in
    many_other x t xs ne ∙ none_many t xs h.1

many_none : (t : ℕ) (xs : List ℕ) → many t xs ≡ 0 → AllByRecursion (λ y. nat_eq t y ≡ false) xs
many_none t [] none = tt
many_none t (x ∷ xs) none =
    elim (cases_eq x t) [
      | inl e ↦ absurd (let own = rw (eq-eqb x t e) at none in omega (arith, own))
      | inr ne ↦ (ne_eqb t x (λ e. ne (sym e)), many_none t xs (sym (many_other x t xs ne) ∙ none))
    ]

-- in a list of distinct numbers each stands once
distinct_many : (xs : List ℕ) → IsDistinct nat_eq xs → (t : ℕ) → many t xs ≤ 1
unfolding IsDistinct
distinct_many [] h t = omega arith
distinct_many (x ∷ xs) h t =
    elim (cases_eq x t) [
      | inl e ↦ let none = none_many x xs h.0 in subst (λ t. many t (x ∷ xs) ≤ 1) e (let own = many_own x xs in omega (arith, own, none))
      | inr ne ↦ let other = many_other x t xs ne in let more = distinct_many xs h.1 t in omega (arith, other, more)
    ]

many_distinct : (xs : List ℕ) → ((t : ℕ) → many t xs ≤ 1) → IsDistinct nat_eq xs
unfolding IsDistinct
many_distinct [] h = tt
many_distinct (x ∷ xs) h =
    let own = many_own x xs in
    let one = h x in
    (many_none x xs (omega (arith, own, one)), many_distinct xs (λ t. let less = h t in omega (arith, less)))

many_contains : (t : ℕ) (xs : List ℕ) → 1 ≤ many t xs → Contains xs t
many_contains t [] h = absurd (omega (arith, h))
many_contains t (x ∷ xs) h =
    elim (cases_eq x t) [
      | inl e ↦ subst (λ y. Contains (y ∷ xs) t) (sym e) (Contains-append_left (t ∷ []) xs t (Contains-push [] t))
      | inr ne ↦ let other = many_other x t xs ne in Contains-append_right (x ∷ []) xs t (many_contains t xs (omega (arith, other, h)))
    ]

-- what is true of each number is true of one that stands there
all_many : (f : ℕ → ℕ) (t : ℕ) (xs : List ℕ) → AllByRecursion (λ x. 1 ≤ f x) xs → 1 ≤ many t xs → 1 ≤ f t
all_many f t [] all some = absurd (omega (arith, some))
all_many f t (x ∷ xs) all some =
    elim (cases_eq x t) [
      | inl e ↦ subst (λ y. 1 ≤ f y) e all.0
      | inr ne ↦ let other = many_other x t xs ne in all_many f t xs all.1 (omega (arith, other, some))
    ]

-- what is true of each number that stands there is true of all
many_all : (P : ℕ → Type 0) (xs : List ℕ) → ((t : ℕ) → 1 ≤ many t xs → P t) → AllByRecursion P xs
many_all P [] h = tt
many_all P (x ∷ xs) h =
    (h x (let own = many_own x xs in omega (arith, own)), many_all P xs (λ t some. h t (omega (arith, some))))

many_range : (t a n : ℕ) → (many t (range_with_len a n) ≤ 1) × (t < a → many t (range_with_len a n) ≡ 0)
many_range t a zero = (omega arith, λ lt. refl)
many_range t a (suc n) =
    let (most, none) = many_range t (a + 1) n in
    elim (cases_eq a t) [
      | inl e ↦ let nothing = none (omega (arith, e)) in rw (eq-eqb a t e) (omega (arith, nothing), λ lt. absurd (omega (arith, lt, e)))
      | inr ne ↦ rw (ne_eqb a t ne) (omega (arith, most), λ lt. let nothing = none (omega (arith, lt)) in omega (arith, nothing))
    ]

-- tickets that remain

pub remaining-none : (xs : List ℕ) → remaining [] xs ≡ xs
remaining-none [] = refl
remaining-none (x ∷ xs) = ap (λ l. x ∷ l) (remaining-none xs)

many_remaining : (t : ℕ) (gone xs : List ℕ) → many t (remaining gone xs) ≡ cond (is_in t gone) 0 (many t xs)
many_remaining t gone [] = elim (is_in t gone) as (λ b. ◌≡◌ {A = ℕ} 0 (cond b 0 0)) [ true ↦ refl | false ↦ refl ]
many_remaining t gone (x ∷ xs) =
    let more = many_remaining t gone xs in
    elim (cases_eq x t) [
      | inl e ↦
          subst (λ y. many t (cond (not (is_in y gone)) (y ∷ remaining gone xs) (remaining gone xs)) ≡ cond (is_in t gone) 0 (many t (y ∷ xs))) (sym e)
          (let own = many_own t (remaining gone xs) in
          let all = many_own t xs in
          elim (is_in t gone) as
          (λ b. many t (remaining gone xs) ≡ cond b 0 (many t xs)
          → many t (cond (not b) (t ∷ remaining gone xs) (remaining gone xs)) ≡ cond b 0 (many t (t ∷ xs))) [
            | true ↦ λ more. more
            | false ↦ λ more. omega (arith, more, own, all)
          ] more)
      | inr ne ↦
          let other = many_other x t (remaining gone xs) ne in
          let all = many_other x t xs ne in
          (elim (is_in x gone) as (λ b. many t (cond (not b) (x ∷ remaining gone xs) (remaining gone xs)) ≡ many t (remaining gone xs)) [
            | true ↦ refl
            | false ↦ other
          ])
          ∙ more ∙ ap (λ m. cond (is_in t gone) 0 m) (sym all)
    ]

is_in-append : (t : ℕ) (xs ys : List ℕ) → is_in t (xs ++ ys) ≡ (is_in t xs || is_in t ys)
is_in-append t [] ys = refl
is_in-append t (x ∷ xs) ys =
    elim (x == t) as (λ b. (b || is_in t (xs ++ ys)) ≡ ((b || is_in t xs) || is_in t ys)) [ true ↦ refl | false ↦ is_in-append t xs ys ]

-- what remains of a list after two is what remains of it after one and then the other
pub remaining-append : (gone more xs : List ℕ) → remaining (gone ++ more) xs ≡ remaining more (remaining gone xs)
remaining-append gone more [] = refl
remaining-append gone more (x ∷ xs) =
    let rest = remaining-append gone more xs in
    rw (is_in-append x gone more)
    (elim (is_in x gone) as
    (λ b. cond (not (b || is_in x more)) (x ∷ remaining (gone ++ more) xs) (remaining (gone ++ more) xs)
    ≡ remaining more (cond (not b) (x ∷ remaining gone xs) (remaining gone xs))) [
      | true ↦ rest
      | false ↦
          elim (is_in x more) as
          (λ b. cond (not b) (x ∷ remaining (gone ++ more) xs) (remaining (gone ++ more) xs)
          ≡ cond (not b) (x ∷ remaining more (remaining gone xs)) (remaining more (remaining gone xs))) [
            | true ↦ rest
            | false ↦ ap (λ l. x ∷ l) rest
          ]
    ])

pub remaining-cons : (t : ℕ) (ts xs : List ℕ) → remaining (t ∷ ts) xs ≡ remaining ts (remaining (t ∷ []) xs)
remaining-cons t ts xs = remaining-append (t ∷ []) ts xs

-- where none of them is gone, all remain
remaining_all : (gone xs : List ℕ) → ((t : ℕ) → 1 ≤ many t xs → many t gone ≡ 0) → remaining gone xs ≡ xs
remaining_all gone [] h = refl
remaining_all gone (x ∷ xs) h =
    let rest = remaining_all gone xs (λ t some. h t (omega (arith, some))) in
    let none = h x (let own = many_own x xs in omega (arith, own)) in
    elim (in_many x gone) [
      | inl (is, some) ↦ absurd (omega (arith, some, none))
      | inr (is, nothing) ↦ rw is (ap (λ l. x ∷ l) rest)
    ]

one_less : (g : ℕ) (xs : List ℕ) → length xs ≡ many g xs + length (remaining (g ∷ []) xs)
one_less g [] = refl
one_less g (x ∷ xs) =
    let more = one_less g xs in
    elim (cases_eq x g) [
      | inl e ↦ rw (eq-eqb x g e, eq-eqb g x (sym e)) (omega (arith, more))
      | inr ne ↦ rw (ne_eqb x g ne, ne_eqb g x (λ e. ne (sym e))) (omega (arith, more))
    ]

remaining_other : (t : ℕ) (xs : List ℕ) → many t xs ≡ 0 → remaining (t ∷ []) xs ≡ xs
remaining_other t xs none =
    remaining_all (t ∷ []) xs
    (λ u some. many_other t u [] (λ e. let none' : many u xs ≡ 0 = subst (λ u. many u xs ≡ 0) e none in omega (arith, some, none')))

-- the numbers that are gone, each once, and those that remain are all
length_remaining :
    (gone xs : List ℕ) → ((t : ℕ) → many t gone ≤ 1) → ((t : ℕ) → many t xs ≤ 1) → ((t : ℕ) → many t gone ≤ many t xs)
    → length xs ≡ length gone + length (remaining gone xs)
length_remaining [] xs once ones all = let same = ap length (remaining-none xs) in omega (arith, same)
length_remaining (g ∷ gone) xs once ones all =
    let rest = remaining (g ∷ []) xs in
    let own = many_own g gone in
    let one = once g in
    let here = all g in
    let less : (t : ℕ) → many t gone ≤ many t rest = λ t.
    let is = many_remaining t (g ∷ []) xs in
    elim (cases_eq g t) [
      | inl e ↦ subst (λ t. many t gone ≤ many t rest) e (omega (arith, own, one))
      | inr ne ↦
          let other = many_other g t gone ne in
          let has = all t in
          let same : many t rest ≡ many t xs = is ∙ ap (λ b. cond (b || false) 0 (many t xs)) (ne_eqb g t ne) in
          omega (arith, other, has, same)
    ] in
    let most : (t : ℕ) → many t rest ≤ 1 = λ t.
    let is = many_remaining t (g ∷ []) xs in
    let few = ones t in
    elim (is_in t (g ∷ [])) as (λ b. many t rest ≡ cond b 0 (many t xs) → many t rest ≤ 1) [ true ↦ λ is. omega (arith, is) | false ↦ λ is. omega (arith, is, few) ] is in
    let more = length_remaining gone rest (λ t. let less = once t in omega (arith, less)) most less in
    let taken = one_less g xs in
    let whole = ap length (remaining-cons g gone xs) in
    let ones' = ones g in
    omega (arith, more, taken, whole, own, one, here, ones')

-- where a number stands between others and nowhere else, the others remain after it
pub remaining-found :
    (t : ℕ) (before after : List ℕ) → IsDistinct nat_eq (before ++ t ∷ after) → remaining (t ∷ []) (before ++ t ∷ after) ≡ before ++ after
remaining-found t before after h =
    let once = distinct_many (before ++ t ∷ after) h t in
    let all = many-append t before (t ∷ after) in
    let own = many_own t after in
    let joined : remaining (t ∷ []) (before ++ t ∷ after) ≡ remaining (t ∷ []) before ++ remaining (t ∷ []) (t ∷ after) = filter-append _ before (t ∷ after) in
    let front = remaining_other t before (omega (arith, once, all, own)) in
    let behind : remaining (t ∷ []) (t ∷ after) ≡ after = rw (eq-eqb t t refl) (remaining_other t after (omega (arith, once, all, own))) in
    joined ∙ ap (λ l. l ++ remaining (t ∷ []) (t ∷ after)) front ∙ ap (λ l. before ++ l) behind

pub remaining-distinct : (gone xs : List ℕ) → IsDistinct nat_eq xs → IsDistinct nat_eq (remaining gone xs)
remaining-distinct gone xs h =
    many_distinct (remaining gone xs)
    (λ t. let is = many_remaining t gone xs in
    let once = distinct_many xs h t in
    elim (is_in t gone) as (λ b. many t (remaining gone xs) ≡ cond b 0 (many t xs) → many t (remaining gone xs) ≤ 1) [
      | true ↦ λ is. omega (arith, is)
      | false ↦ λ is. omega (arith, is, once)
    ] is)

-- what tells tickets, and what ends them

module _ {V O R T : Type 0} where
  told-append : (xs ys : List (Answer V O R T)) → told_tickets (xs ++ ys) ≡ told_tickets xs ++ told_tickets ys
  told-append [] ys = refl
  told-append (Launched ticket ∷ xs) ys = ap (λ l. ticket ∷ l) (told-append xs ys)
  told-append (Entrusted name ∷ xs) ys = told-append xs ys
  told-append (NotEntrusted refusal back ∷ xs) ys = told-append xs ys
  told-append (Replied r ∷ xs) ys = told-append xs ys
  told-append (TicketsSpent task ∷ xs) ys = told-append xs ys
  told-append (Granted ∷ xs) ys = told-append xs ys
  told-append (Gone ∷ xs) ys = told-append xs ys
  told-append (GiftsFull ∷ xs) ys = told-append xs ys
  told-append (Released ∷ xs) ys = told-append xs ys
  told-append (Reclaimed v ∷ xs) ys = told-append xs ys
  told-append (Shared ∷ xs) ys = told-append xs ys
  told-append (ByeDone ∷ xs) ys = told-append xs ys

  ended-append : (xs ys : List (Completion V O R T)) → ended_tickets (xs ++ ys) ≡ ended_tickets xs ++ ended_tickets ys
  ended-append [] ys = refl
  ended-append (x ∷ xs) ys = ap (λ l. x.ticket ∷ l) (ended-append xs ys)

  length-tickets : (xs : List (Completion V O R T)) → length (ended_tickets xs) ≡ length xs
  length-tickets [] = refl
  length-tickets (x ∷ xs) = let more = length-tickets xs in omega (arith, more)

  -- a launch ended by a completion or a refusal
  ended_parts : (got : List (AnswerBatch V O R T)) → ended_in got ≡ length (ended_tickets (completions_in got)) + spent_in (answers_in got)
  ended_parts [] = refl
  ended_parts (a ∷ got) =
      let more = ended_parts got in
      let completions = ap length (ended-append a.completions.items (completions_in got)) ∙ length-append (ended_tickets a.completions.items) (ended_tickets (completions_in got)) in
      let own = length-tickets a.completions.items in
      let answers = spent_in-append a.answers.items (answers_in got) in
      omega (arith, more, completions, own, answers)

  -- of a launch comes its ticket, or the refusal
  told_one : (q : Request V O R T) (a : Answer V O R T) → Fits q a → launches_in (q ∷ []) ≡ length (told_tickets (a ∷ [])) + spent_in (a ∷ [])
  told_one (Launch n task) (Launched ticket) h = refl
  told_one (Launch n task) (TicketsSpent back) h = refl
  told_one (Launch n task) _ h = absurd h
  told_one (Entrust v) (Entrusted name) h = refl
  told_one (Entrust v) (NotEntrusted refusal back) h = refl
  told_one (Entrust v) _ h = absurd h
  told_one (Apply n op) (Replied r) h = refl
  told_one (Apply n op) _ h = absurd h
  told_one (Grant n d) Granted h = refl
  told_one (Grant n d) Gone h = refl
  told_one (Grant n d) GiftsFull h = refl
  told_one (Grant n d) _ h = absurd h
  told_one (Release n) Released h = refl
  told_one (Release n) _ h = absurd h
  told_one (Reclaim n) (Reclaimed v) h = refl
  told_one (Reclaim n) Shared h = refl
  told_one (Reclaim n) _ h = absurd h
  told_one Bye ByeDone h = refl
  told_one Bye _ h = absurd h

  launches_told : (qs : List (Request V O R T)) (answers : List (Answer V O R T)) → AllZip Fits qs answers
      → launches_in qs ≡ length (told_tickets answers) + spent_in answers
  launches_told [] [] h = refl
  launches_told [] (a ∷ answers) h = absurd h
  launches_told (q ∷ qs) [] h = absurd h
  launches_told (q ∷ qs) (a ∷ answers) h =
      let first = told_one q a h.0 in
      let more = launches_told qs answers h.1 in
      let requests = launches_in-append (q ∷ []) qs in
      let tickets = ap length (told-append (a ∷ []) answers) ∙ length-append (told_tickets (a ∷ [])) (told_tickets answers) in
      let spent = spent_in-append (a ∷ []) answers in
      omega (arith, first, more, requests, tickets, spent)

  contains_told : (answers : List (Answer V O R T)) (ticket k : ℕ) → k < length answers → slice_index_or answers k (Launched ticket) ≡ Launched ticket
      → 1 ≤ many ticket (told_tickets answers)
  contains_told [] ticket k lt at = absurd (omega (arith, lt))
  contains_told (a ∷ answers) ticket zero lt at =
      subst (λ (x : Answer V O R T). 1 ≤ many ticket (told_tickets (x ∷ answers))) (sym at)
      (let own = many_own ticket (told_tickets answers) in omega (arith, own))
  contains_told (a ∷ answers) ticket (suc k) lt at =
      let more = contains_told answers ticket k (omega (arith, lt)) at in
      let joined = ap (many ticket) (told-append (a ∷ []) answers) ∙ many-append ticket (told_tickets (a ∷ [])) (told_tickets answers) in
      omega (arith, more, joined)

  -- the tickets of the answers to a place are tickets that the log gave out
  by_told :
      (kind : Kind V O R T) (s : State V O R T) (t c d k : ℕ) (q : Request V O R T) (a : Answer V O R T) (es : List (Entry V O R T))
      → Serves kind s d q a → many t (told_tickets (answered c es)) ≤ many t (tickets_given es)
      → many t (told_tickets (answered c (By d k q a ∷ es))) ≤ many t (tickets_given (By d k q a ∷ es))
  by_told kind s t c d k (Launch n task) (Launched ticket) es may more =
      elim (d == c) as
      (λ b. many t (told_tickets (cond b (Launched ticket ∷ answered c es) (answered c es))) ≤ many t (ticket ∷ tickets_given es)) [
        | true ↦ omega (arith, more)
        | false ↦ omega (arith, more)
      ]
  by_told kind s t c d k (Entrust v) (Launched ticket) es may more = absurd may
  by_told kind s t c d k (Apply n op) (Launched ticket) es may more = absurd may.1
  by_told kind s t c d k (Grant n e) (Launched ticket) es may more = absurd may.2
  by_told kind s t c d k (Release n) (Launched ticket) es may more = absurd (let no = may.1 in cc)
  by_told kind s t c d k (Reclaim n) (Launched ticket) es may more = absurd may.1
  by_told kind s t c d k Bye (Launched ticket) es may more = absurd cc
  by_told kind s t c d k q a es may more =
      elim (d == c) as (λ b. many t (told_tickets (cond b (a ∷ answered c es) (answered c es))) ≤ many t (tickets_given es)) [ true ↦ more | false ↦ more ]

  given_told :
      (kind : Kind V O R T) (s : State V O R T) (t c : ℕ) (log : List (Entry V O R T)) → IsLegal kind s log
      → many t (told_tickets (answered c log)) ≤ many t (tickets_given log)
  given_told kind s t c [] legal = omega arith
  given_told kind s t c (By d k q a ∷ es) legal =
      by_told kind s t c d k q a es legal.0.2 (given_told kind (after kind s (By d k q a)) t c es legal.1)
  given_told kind s t c (Resume id ticket event next ∷ es) legal = given_told kind (after kind s (Resume id ticket event next)) t c es legal.1
  given_told kind s t c (Sent d room ∷ es) legal = given_told kind (after kind s (Sent d room)) t c es legal.1

  -- what holds of the completions of each of some batches holds of all
  all_completions :
      (P : Completion V O R T → Type 0) (whole before got : List (AnswerBatch V O R T)) → whole ≡ before ++ got
      → ((before after : List (AnswerBatch V O R T)) (a : AnswerBatch V O R T) → whole ≡ before ++ a ∷ after → AllByRecursion P a.completions.items)
      → AllByRecursion P (completions_in got)
  all_completions P whole before [] e h = tt
  all_completions P whole before (a ∷ got) e h =
      all-append P a.completions.items (completions_in got) (h before got a e)
      (all_completions P whole (before ++ a ∷ []) got (e ∙ sym (append_assoc before (a ∷ []) got)) h)

  all_tickets : (P : ℕ → Type 0) (xs : List (Completion V O R T)) → AllByRecursion (λ x. P x.ticket) xs → AllByRecursion P (ended_tickets xs)
  all_tickets P [] h = tt
  all_tickets P (x ∷ xs) h = (h.0, all_tickets P xs h.1)

  -- a completion's ticket counts among those that were told up to its batch
  ticket_counts :
      (before after : List (AnswerBatch V O R T)) (a : AnswerBatch V O R T) (xs : List (Completion V O R T))
      → AllByRecursion (λ x. Contains (answers_in (before ++ a ∷ [])) (Launched x.ticket)) xs
      → AllByRecursion (λ x. 1 ≤ many x.ticket (told_tickets (answers_in (before ++ a ∷ after)))) xs
  ticket_counts before after a [] h = tt
  ticket_counts before after a (x ∷ xs) h =
      let (k, lt, at) = h.0 in
      let some = contains_told (answers_in (before ++ a ∷ [])) x.ticket k lt at in
      let split : answers_in (before ++ a ∷ after) ≡ answers_in (before ++ a ∷ []) ++ answers_in after =
      ap answers_in (sym (append_assoc before (a ∷ []) after)) ∙ answers_in-append (before ++ a ∷ []) after in
      let all = ap (λ l. many x.ticket (told_tickets l)) split ∙ ap (many x.ticket) (told-append (answers_in (before ++ a ∷ [])) (answers_in after))
      ∙ many-append x.ticket (told_tickets (answers_in (before ++ a ∷ []))) (told_tickets (answers_in after)) in
      (omega (arith, some, all), ticket_counts before after a xs h.1)

  module _ (kind : Kind V O R T) (opening : State V O R T) (view : ClientView V O R T) (good : IsGoodClient kind opening view) where
    abbrev told : List ℕ
    told = told_tickets (answers_in view.got)

    abbrev ended : List ℕ
    ended = ended_tickets (completions_in view.got)

    -- a ticket came once
    told_once : (t : ℕ) → many t told ≤ 1
    told_once t =
        let legal = subst (λ l. IsLegal kind opening l) (sym (append-nil view.seen)) good.is_legal in
        let given = (ids_never_return kind opening view.seen [] good.opens legal).2 in
        let range = (many_range t 1 (length (tickets_given view.seen))).0 in
        let all = ap (many t) given in
        let most = given_told kind opening t view.place view.seen good.is_legal in
        let answers = ap (λ l. many t (told_tickets l)) (answers_are kind opening view good) in
        omega (arith, range, all, most, answers)

    -- and so did its completion
    ended_once : (t : ℕ) → many t ended ≤ 1
    ended_once t =
        let (parts, distinct) = completions_are_of_launches kind opening view.seen view.place good.opens good.is_legal good.in_range in
        let ready = (place_of (state_after kind opening view.seen) view.place).ready in
        let once = distinct_many (ended_tickets (ended_for view.place view.seen)) distinct t in
        let whole = ap (λ l. many t (ended_tickets (completions_in l ++ ready))) (sym good.leaves) ∙ ap (λ l. many t (ended_tickets l)) parts in
        let split = ap (many t) (ended-append (completions_in view.got) ready) ∙ many-append t ended (ended_tickets ready) in
        omega (arith, once, whole, split)

    ended_told : AllByRecursion (λ t. 1 ≤ many t told) ended
    ended_told =
        all_tickets (λ t. 1 ≤ many t told) (completions_in view.got)
        (all_completions (λ x. 1 ≤ many x.ticket told) view.got [] view.got refl
        (λ before after a e.
        subst (λ l. AllByRecursion (λ x. 1 ≤ many x.ticket (told_tickets (answers_in l))) a.completions.items) (sym e)
        (ticket_counts before after a a.completions.items
        (tickets_come_first kind opening view.seen view.place before after a good.opens good.is_legal good.in_range (good.leaves ∙ e)))))

    -- no more completions of a ticket came than tickets
    ended_most : (t : ℕ) → many t ended ≤ many t told
    ended_most t =
        let once = ended_once t in
        elim (in_many t ended) [
          | inl (is, some) ↦ let has = all_many (λ t. many t told) t ended ended_told some in omega (arith, once, has)
          | inr (is, none) ↦ omega (arith, none)
        ]

    pub tells : TellsTickets view
    tells =
        let run = ran view.place view.seen in
        let sent = ap launches_in (sent_is kind opening view good) ∙ launches_in-append run (out_requests view.out) in
        let launches = launches_told run (answers_in view.got) (answers_fitting kind opening view good) in
        let parts = ended_parts view.got in
        let waits = length_remaining ended told ended_once told_once ended_most in
        record {
          told = many_distinct told told_once;
          ended = many_distinct ended ended_once;
          come = many_all (λ t. Contains told t) ended (λ t some. many_contains t told (let most = ended_most t in omega (arith, some, most)));
          launches = omega (arith, sent, launches, parts, waits);
        }

  module _ (kind : Kind V O R T) where
    pub tickets_tell : TicketsTell kind
    tickets_tell opening view good = tells kind opening view good

    pub collects_end : CollectsEnd kind
    collects_end opening old new a was good gets =
        let told_old = told_tickets (answers_in old.got) in
        let told_new = told_tickets a.answers.items in
        let gone = ended_tickets (completions_in old.got) in
        let ends = ended_tickets a.completions.items in
        let told_is : told_tickets (answers_in new.got) ≡ told_old ++ told_new =
        ap (λ l. told_tickets (answers_in l)) gets.got
        ∙ ap told_tickets (answers_in-append old.got (a ∷ []) ∙ ap (λ l. answers_in old.got ++ l) (append-nil a.answers.items))
        ∙ told-append (answers_in old.got) a.answers.items in
        let ended_is : ended_tickets (completions_in new.got) ≡ gone ++ ends =
        ap (λ l. ended_tickets (completions_in l)) gets.got
        ∙ ap ended_tickets (flat_map-append (λ (a : AnswerBatch V O R T). a.completions.items) old.got (a ∷ []) ∙ ap (λ l. completions_in old.got ++ l) (append-nil a.completions.items))
        ∙ ended-append (completions_in old.got) a.completions.items in
        let tells_all : (t : ℕ) → (many t told_old + many t told_new ≤ 1) × (many t gone + many t ends ≤ 1)
        × (many t gone ≤ many t told_old) × (many t gone + many t ends ≤ many t told_old + many t told_new) =
        λ t.
        let told = ap (many t) told_is ∙ many-append t told_old told_new in
        let ended = ap (many t) ended_is ∙ many-append t gone ends in
        let one = told_once kind opening new good t in
        let once = ended_once kind opening new good t in
        let most = ended_most kind opening new good t in
        (omega (arith, told, one), omega (arith, ended, once), ended_most kind opening old was t, omega (arith, told, ended, most)) in
        let left : (t : ℕ) → many t (waiting_tickets old.got) + many t gone ≡ many t told_old = λ t.
        let is = many_remaining t gone told_old in
        let (one, once, most, all) = tells_all t in
        elim (in_many t gone) [
          | inl (among, some) ↦ let none : many t (waiting_tickets old.got) ≡ 0 = is ∙ ap (λ b. cond b 0 (many t told_old)) among in omega (arith, one, once, most, none, some)
          | inr (apart, none) ↦ let same : many t (waiting_tickets old.got) ≡ many t told_old = is ∙ ap (λ b. cond b 0 (many t told_old)) apart in omega (arith, same, none)
        ] in
        let now : (t : ℕ) → many t (waiting_tickets old.got ++ told_new) + many t gone ≡ many t told_old + many t told_new =
        λ t. let joined = many-append t (waiting_tickets old.got) told_new in let has = left t in omega (arith, joined, has) in
        let apart : remaining gone told_new ≡ told_new = remaining_all gone told_new (λ t some. let (one, once, most, all) = tells_all t in omega (arith, some, one, most)) in
        record {
          told = many_distinct (waiting_tickets old.got ++ told_new)
              (λ t. let is = now t in let (one, once, most, all) = tells_all t in omega (arith, is, one));
          ended = many_distinct ends (λ t. let (one, once, most, all) = tells_all t in omega (arith, once));
          among = many_all (λ t. Contains (waiting_tickets old.got ++ told_new) t) ends
              (λ t some. many_contains t (waiting_tickets old.got ++ told_new)
              (let is = now t in let (one, once, most, all) = tells_all t in omega (arith, is, once, all, some)));
          waits =
              ap (λ l. remaining l (told_tickets (answers_in new.got))) ended_is ∙ ap (remaining (gone ++ ends)) told_is
              ∙ remaining-append gone ends (told_old ++ told_new)
              ∙ ap (remaining ends) (filter-append _ told_old told_new ∙ ap (λ l. waiting_tickets old.got ++ l) apart);
        }
