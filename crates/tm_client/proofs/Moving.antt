-- Lists that are moved one element after another. Other crates import from this file.
use Rattle.std.proofs.Common.{◌≡◌, ℕ, zero, suc, ◌+◌, ◌≤◌, ◌<◌, ◌⊎◌, inl, inr, List, [], ◌∷◌, ◌++◌, length, min, take, drop, refl, sym, ◌∙◌, ap, arith, append_assoc, append-nil, length-append}
use Rattle.std.specs.Prelude.{slice_get, slice_index_or, remove}
use Rattle.std.specs.declared.option.Option.TheVariants.{None, Some}
use Rattle.tm_batch.specs.declared.message.Answer.{Answer}
use Rattle.tm_batch.specs.declared.message.Answer.TheVariants.{Entrusted, NotEntrusted, Replied, Launched, TicketsSpent, Granted, Gone, GiftsFull, Released, Reclaimed, Shared, ByeDone}
use Rattle.tm_client.specs.declared.answers.Arrival.{Arrival}
use Rattle.tm_client.specs.declared.lane.Waiting.{Waiting}
use Rattle.tm_client.specs.declared.lane.Unfinished.{Unfinished}
use Rattle.tm_client.specs.declared.answers.Came.TheVariants.{Answered}
use Rattle.tm_client.specs.Launches.{ticket_in, told_tickets, arrival_by, launch_by, arrivals_of, launches_of}

next_is : (n : ℕ) → suc n ≡ n + 1
next_is n = omega arith

module _ {X : Type 0} where
  take_next : (n : ℕ) (xs : List X) → take n xs ++ take 1 (drop n xs) ≡ take (suc n) xs
  take_next zero xs = refl
  take_next (suc n) [] = refl
  take_next (suc n) (x ∷ xs) = ap (λ l. x ∷ l) (take_next n xs)

  drop_next : (n : ℕ) (xs : List X) → drop 1 (drop n xs) ≡ drop (suc n) xs
  drop_next zero xs = refl
  drop_next (suc n) [] = refl
  drop_next (suc n) (x ∷ xs) = drop_next n xs

  pub take_one_more : (n : ℕ) (xs : List X) → take n xs ++ take 1 (drop n xs) ≡ take (n + 1) xs
  take_one_more n xs = take_next n xs ∙ ap (λ m. take m xs) (next_is n)

  pub drop_one_more : (n : ℕ) (xs : List X) → drop 1 (drop n xs) ≡ drop (n + 1) xs
  drop_one_more n xs = drop_next n xs ∙ ap (λ m. drop m xs) (next_is n)

  pub take_short : (xs : List X) → length (take 1 xs) ≤ 1
  take_short [] = omega arith
  take_short (x ∷ xs) = omega arith

  pub none_first : (xs : List X) → slice_get xs 0 ≡ None → xs ≡ []
  none_first [] e = refl
  none_first (x ∷ xs) e = absurd cc

  pub nothing_left : (n : ℕ) → drop {A = X} n [] ≡ []
  nothing_left zero = refl
  nothing_left (suc n) = refl

  pub drop_first : (n : ℕ) (xs : List X) → drop n (drop 1 xs) ≡ drop (suc n) xs
  drop_first n [] = nothing_left n
  drop_first n (x ∷ xs) = refl

  pub room_for : (xs : List X) (x : X) (n cap : ℕ) → slice_get xs 0 ≡ Some x → n + min 1 (length xs) ≤ cap → n < cap
  room_for [] x n cap e le = absurd cc
  room_for (y ∷ xs) x n cap e le = omega (arith, le)

  min_step : (n : ℕ) (xs : List X) → min 1 (length xs) + min n (length (drop 1 xs)) ≡ min (suc n) (length xs)
  min_step n [] = omega arith
  min_step n (x ∷ xs) = omega arith

  -- the first element was removed
  pub removed : (xs ys : List X) (x : X) → 0 < length xs → x ≡ slice_index_or xs 0 x → ys ≡ remove xs 0 → xs ≡ x ∷ ys
  removed [] ys x lt is e = absurd (omega (arith, lt))
  removed (y ∷ xs) ys x lt is e = rw e (ap (λ z. z ∷ xs) (sym is))

-- a ticket, or what arrives at once
pub told_or_plain : {V O R T : Type 0} (a : Answer V O R T) → ((ticket : ℕ) × (a ≡ Launched ticket)) ⊎ (ticket_in a ≡ None)
told_or_plain (Launched ticket) = inl (ticket, refl)
told_or_plain (Entrusted name) = inr refl
told_or_plain (NotEntrusted refusal v) = inr refl
told_or_plain (Replied r) = inr refl
told_or_plain (TicketsSpent task) = inr refl
told_or_plain Granted = inr refl
told_or_plain Gone = inr refl
told_or_plain GiftsFull = inr refl
told_or_plain Released = inr refl
told_or_plain (Reclaimed v) = inr refl
told_or_plain Shared = inr refl
told_or_plain ByeDone = inr refl

pub told_plain : {V O R T : Type 0} (a : Answer V O R T) (answers : List (Answer V O R T)) → ticket_in a ≡ None → told_tickets (a ∷ answers) ≡ told_tickets answers
told_plain (Launched ticket) answers e = absurd cc
told_plain (Entrusted name) answers e = refl
told_plain (NotEntrusted refusal v) answers e = refl
told_plain (Replied r) answers e = refl
told_plain (TicketsSpent task) answers e = refl
told_plain Granted answers e = refl
told_plain Gone answers e = refl
told_plain GiftsFull answers e = refl
told_plain Released answers e = refl
told_plain (Reclaimed v) answers e = refl
told_plain Shared answers e = refl
told_plain ByeDone answers e = refl

pub told_so : {V O R T : Type 0} (a : Answer V O R T) (ticket : ℕ) → Some ticket ≡ ticket_in a → a ≡ Launched ticket
told_so (Launched t) ticket e = let same : t ≡ ticket = cc in ap (λ n. Launched n) same
told_so (Entrusted name) ticket e = absurd cc
told_so (NotEntrusted refusal v) ticket e = absurd cc
told_so (Replied r) ticket e = absurd cc
told_so (TicketsSpent task) ticket e = absurd cc
told_so Granted ticket e = absurd cc
told_so Gone ticket e = absurd cc
told_so GiftsFull ticket e = absurd cc
told_so Released ticket e = absurd cc
told_so (Reclaimed v) ticket e = absurd cc
told_so Shared ticket e = absurd cc
told_so ByeDone ticket e = absurd cc

pub launches_none : {C : Type 0} (V O R T : Type 0) (cs : List (Waiting C)) → launches_of {V = V} {O = O} {R = R} {T = T} cs [] ≡ []
launches_none V O R T [] = refl
launches_none V O R T (c ∷ cs) = refl

module _ {V C O R T : Type 0} where
  pub arrival_plain : (t : ℕ) (w : Waiting C) (a : Answer V O R T) → ticket_in a ≡ None
      → arrival_by t w a ≡ (record { trustee = t; name = w.name; after = w.after; came = Answered a }) ∷ []
  arrival_plain t w (Launched ticket) e = absurd cc
  arrival_plain t w (Entrusted name) e = refl
  arrival_plain t w (NotEntrusted refusal v) e = refl
  arrival_plain t w (Replied r) e = refl
  arrival_plain t w (TicketsSpent task) e = refl
  arrival_plain t w Granted e = refl
  arrival_plain t w Gone e = refl
  arrival_plain t w GiftsFull e = refl
  arrival_plain t w Released e = refl
  arrival_plain t w (Reclaimed v) e = refl
  arrival_plain t w Shared e = refl
  arrival_plain t w ByeDone e = refl

  pub launch_plain : (w : Waiting C) (a : Answer V O R T) → ticket_in a ≡ None → launch_by w a ≡ []
  launch_plain w (Launched ticket) e = absurd cc
  launch_plain w (Entrusted name) e = refl
  launch_plain w (NotEntrusted refusal v) e = refl
  launch_plain w (Replied r) e = refl
  launch_plain w (TicketsSpent task) e = refl
  launch_plain w Granted e = refl
  launch_plain w Gone e = refl
  launch_plain w GiftsFull e = refl
  launch_plain w Released e = refl
  launch_plain w (Reclaimed v) e = refl
  launch_plain w Shared e = refl
  launch_plain w ByeDone e = refl

  -- a continuation arrives by its answer, or waits for the completion of its launch
  pub one_goes : (t : ℕ) (w : Waiting C) (a : Answer V O R T) → length (arrival_by t w a) + length (launch_by w a) ≡ 1
  one_goes t w a = elim (told_or_plain a) [
    | inl (ticket, e) ↦ rw e (omega arith)
    | inr plain ↦ rw (arrival_plain t w a plain, launch_plain w a plain) (omega arith)
  ]

  pub arrivals_none : (t : ℕ) (cs : List (Waiting C)) → arrivals_of {V = V} {O = O} {R = R} {T = T} t cs [] ≡ []
  arrivals_none t [] = refl
  arrivals_none t (c ∷ cs) = refl

  pub arrivals_first : (t : ℕ) (cs : List (Waiting C)) (a : Answer V O R T) (answers : List (Answer V O R T))
      → arrivals_of t cs (a ∷ answers) ≡ arrivals_of t cs (a ∷ []) ++ arrivals_of t (drop 1 cs) answers
  arrivals_first t [] a answers = refl
  arrivals_first t (c ∷ cs) a answers =
      ap (λ l. l ++ arrivals_of t cs answers) (sym (append-nil (arrival_by t c a)) ∙ ap (λ l. arrival_by t c a ++ l) (sym (arrivals_none t cs)))

  pub launches_first : (cs : List (Waiting C)) (a : Answer V O R T) (answers : List (Answer V O R T))
      → launches_of cs (a ∷ answers) ≡ launches_of cs (a ∷ []) ++ launches_of (drop 1 cs) answers
  launches_first [] a answers = refl
  launches_first (c ∷ cs) a answers =
      ap (λ l. l ++ launches_of cs answers) (sym (append-nil (launch_by c a)) ∙ ap (λ l. launch_by c a ++ l) (sym (launches_none V O R T cs)))

  pub arrivals_one : (t : ℕ) (cs : List (Waiting C)) (c : Waiting C) (a : Answer V O R T) → slice_get cs 0 ≡ Some c
      → arrivals_of t cs (a ∷ []) ≡ arrival_by t c a
  arrivals_one t [] c a e = absurd cc
  arrivals_one t (d ∷ cs) c a e =
      let is : d ≡ c = cc in ap (λ l. arrival_by t d a ++ l) (arrivals_none t cs) ∙ append-nil (arrival_by t d a) ∙ ap (λ x. arrival_by t x a) is

  pub launches_one : (cs : List (Waiting C)) (c : Waiting C) (a : Answer V O R T) → slice_get cs 0 ≡ Some c → launches_of cs (a ∷ []) ≡ launch_by c a
  launches_one [] c a e = absurd cc
  launches_one (d ∷ cs) c a e =
      let is : d ≡ c = cc in ap (λ l. launch_by d a ++ l) (launches_none V O R T cs) ∙ append-nil (launch_by d a) ∙ ap (λ x. launch_by x a) is

  -- the first of some continuations arrives, or waits on, if there is one
  pub first_goes : (t : ℕ) (cs : List (Waiting C)) (a : Answer V O R T)
      → length (arrivals_of t cs (a ∷ [])) + length (launches_of cs (a ∷ [])) ≡ min 1 (length cs)
  first_goes t [] a = refl
  first_goes t (c ∷ cs) a =
      let one = one_goes t c a in
      let arrives = ap length (arrivals_one t (c ∷ cs) c a refl) in
      let launches = ap length (launches_one (c ∷ cs) c a refl) in
      omega (arith, one, arrives, launches)

  pub arrivals_at_end : (t : ℕ) (arrived all : List (Arrival V C O R T)) (cs : List (Waiting C)) (answers : List (Answer V O R T)) → answers ≡ []
      → arrived ++ arrivals_of t cs answers ≡ all → arrived ≡ all
  arrivals_at_end t arrived all cs answers none e =
      sym (append-nil arrived) ∙ ap (λ l. arrived ++ l) (sym (ap (λ xs. arrivals_of t cs xs) none ∙ arrivals_none t cs)) ∙ e

  pub launches_at_end : (launched all : List (Unfinished C)) (cs : List (Waiting C)) (answers : List (Answer V O R T)) → answers ≡ []
      → launched ++ launches_of cs answers ≡ all → launched ≡ all
  launches_at_end launched all cs answers none e =
      sym (append-nil launched) ∙ ap (λ l. launched ++ l) (sym (ap (λ xs. launches_of cs xs) none ∙ launches_none V O R T cs)) ∙ e

  -- the loop that lets answers arrive, one answer on
  pub arriving :
      (t : ℕ) (arrived arrived_new all : List (Arrival V C O R T)) (cs cs_new : List (Waiting C)) (a : Answer V O R T) (answers rest : List (Answer V O R T))
      → answers ≡ a ∷ rest → arrived_new ≡ arrived ++ arrivals_of t cs (a ∷ []) → cs_new ≡ drop 1 cs
      → arrived ++ arrivals_of t cs answers ≡ all → arrived_new ++ arrivals_of t cs_new rest ≡ all
  arriving t arrived arrived_new all cs cs_new a answers rest is now more e =
      rw (now, more) (
      append_assoc arrived (arrivals_of t cs (a ∷ [])) (arrivals_of t (drop 1 cs) rest)
      ∙ ap (λ l. arrived ++ l) (sym (arrivals_first t cs a rest)) ∙ ap (λ xs. arrived ++ arrivals_of t cs xs) (sym is) ∙ e
      )

  pub launching :
      (launched launched_new all : List (Unfinished C)) (cs cs_new : List (Waiting C)) (a : Answer V O R T) (answers rest : List (Answer V O R T))
      → answers ≡ a ∷ rest → launched_new ≡ launched ++ launches_of cs (a ∷ []) → cs_new ≡ drop 1 cs
      → launched ++ launches_of cs answers ≡ all → launched_new ++ launches_of cs_new rest ≡ all
  launching launched launched_new all cs cs_new a answers rest is now more e =
      rw (now, more) (
      append_assoc launched (launches_of cs (a ∷ [])) (launches_of (drop 1 cs) rest)
      ∙ ap (λ l. launched ++ l) (sym (launches_first cs a rest)) ∙ ap (λ xs. launched ++ launches_of cs xs) (sym is) ∙ e
      )

  -- what it moved, and what it may still move
  pub record Moves (t : ℕ) (arrived arrived_new : List (Arrival V C O R T)) (launched launched_new : List (Unfinished C)) (cs cs_new : List (Waiting C))
      (answers rest : List (Answer V O R T)) : Type 0 where
    pub count : length arrived_new + length launched_new + min (length rest) (length cs_new)
        ≡ length arrived + length launched + min (length answers) (length cs)
    pub arrives : length arrived_new + min (length rest) (length cs_new) ≤ length arrived + min (length answers) (length cs)
    pub launches : length launched_new + min (length rest) (length cs_new) ≤ length launched + min (length answers) (length cs)

  pub moving :
      (t : ℕ) (arrived arrived_new : List (Arrival V C O R T)) (launched launched_new : List (Unfinished C)) (cs cs_new : List (Waiting C))
      (a : Answer V O R T) (answers rest : List (Answer V O R T)) → answers ≡ a ∷ rest → arrived_new ≡ arrived ++ arrivals_of t cs (a ∷ [])
      → launched_new ≡ launched ++ launches_of cs (a ∷ []) → cs_new ≡ drop 1 cs → Moves t arrived arrived_new launched launched_new cs cs_new answers rest
  moving t arrived arrived_new launched launched_new cs cs_new a answers rest is now then more =
      let goes = first_goes t cs a in
      let arrives = ap length now ∙ length-append arrived (arrivals_of t cs (a ∷ [])) in
      let launches = ap length then ∙ length-append launched (launches_of cs (a ∷ [])) in
      let step = min_step (length rest) cs in
      let left = ap length more in
      let all = ap length is in
      record {
        count = omega (arith, goes, arrives, launches, step, left, all);
        arrives = omega (arith, goes, arrives, step, left, all);
        launches = omega (arith, goes, launches, step, left, all);
      }
