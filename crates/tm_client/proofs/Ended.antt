-- Launches whose completions came. Other crates import from this file.
use Rattle.std.proofs.Common.{◌≡◌, ◌≢◌, ℕ, zero, suc, ◌+◌, ◌<◌, ◌≤◌, true, false, cond, Bool, List, [], ◌∷◌, ◌++◌, length, map, take, drop, inl, inr, refl, sym, ◌∙◌, ap, subst, arith, append_assoc, append-nil, length-append, eq-eqb, ne_eqb}
use Rattle.std.specs.Prelude.{◌==◌, ◌-◌, ◌||◌, nat_eq, not, remove, slice_get}
use Rattle.std.specs.List.{AllByRecursion, IsDistinct, list_any}
use Rattle.std.specs.declared.option.Option.{Option}
use Rattle.std.specs.declared.option.Option.TheVariants.{None, Some}
use Rattle.std.proofs.lemmas.Bool.{cases_eq}
use Rattle.std.proofs.lemmas.List.{length-drop}
use Rattle.std.proofs.lemmas.Map.Keys.{IsDistinct-head, IsDistinct-tail, IsDistinct-cons}
use Rattle.std.proofs.Math.Seq.{drop-append_seam, take-append_seam}
use Rattle.tm_batch.specs.declared.message.Completion.{Completion}
use Rattle.tm_core.proofs.CallerLemmas.{all-append}
use Rattle.tm_client.specs.declared.lane.Unfinished.{Unfinished}
use Rattle.tm_client.specs.declared.answers.Arrival.{Arrival}
use Rattle.tm_client.specs.Clients.{MayHand, come_of, brought_in, entrusted_in}
use Rattle.tm_client.specs.Launches.{remaining, ended_tickets, tickets_of, HasTicket, launch_of, other_launches, launches_left, finish_of, finished_by, finished_of}
use Rattle.tm_client.proofs.Moving.{take_one_more}
use Rattle.tm_client.proofs.Arriving.{come_of-append, brought_in-append, entrusted_in-append}

module _ {X : Type 0} where
  -- below its length a list has an element, and what follows from there on
  parts_at : (xs : List X) (at : ℕ) → at < length xs → (x : X) × (slice_get xs at ≡ Some x) × (drop at xs ≡ x ∷ drop (suc at) xs)
  parts_at [] at lt = absurd (omega (arith, lt))
  parts_at (x ∷ xs) zero lt = (x, refl, refl)
  parts_at (x ∷ xs) (suc at) lt = parts_at xs at (omega (arith, lt))

  -- the list that is moved round, one element on
  pub rotated : (xs ring next : List X) (k : ℕ) → k < length xs → ring ≡ drop k xs ++ take k xs → next ≡ drop 1 ring ++ take 1 ring
      → next ≡ drop (k + 1) xs ++ take (k + 1) xs
  rotated xs ring next k lt is more =
      let (y, at, parts) = parts_at xs k lt in
      let all : ring ≡ y ∷ (drop (suc k) xs ++ take k xs) = is ∙ ap (λ l. l ++ take k xs) parts in
      let longer : take k xs ++ y ∷ [] ≡ take (k + 1) xs = ap (λ l. take k xs ++ take 1 l) (sym parts) ∙ take_one_more k xs in
      let next_is : suc k ≡ k + 1 = omega arith in
      more ∙ ap (λ l. drop 1 l ++ take 1 l) all ∙ append_assoc (drop (suc k) xs) (take k xs) (y ∷ []) ∙ ap (λ l. drop (suc k) xs ++ l) longer
      ∙ ap (λ n. drop n xs ++ take (k + 1) xs) next_is

  pub as_long : (ring next : List X) → next ≡ drop 1 ring ++ take 1 ring → length next ≡ length ring
  as_long [] next more = ap length more
  as_long (y ∷ ring) next more = let all = ap length more ∙ length-append ring (y ∷ []) in omega (arith, all)

  -- one element moves behind the others
  pub moved_behind : (xs next : List X) (x : X) → Some x ≡ slice_get xs 0 → next ≡ drop 1 xs ++ x ∷ [] → next ≡ drop 1 xs ++ take 1 xs
  moved_behind [] next x first more = absurd cc
  moved_behind (y ∷ xs) next x first more = let same : x ≡ y = cc in more ∙ ap (λ z. xs ++ z ∷ []) same

  pub none_behind : (xs : List X) → None ≡ slice_get xs 0 → drop 1 xs ≡ drop 1 xs ++ take 1 xs
  none_behind [] first = refl
  none_behind (y ∷ xs) first = absurd cc

  pub room_behind : (xs : List X) (x : X) (cap : ℕ) → Some x ≡ slice_get xs 0 → length xs ≤ cap → length (drop 1 xs) < cap
  room_behind [] x cap first fits = absurd cc
  room_behind (y ∷ xs) x cap first fits = omega (arith, fits)

  -- what moving round, taking the first and moving round again leaves
  pub taken_first : (xs ring : List X) (at : ℕ) → at < length xs → ring ≡ drop at xs ++ take at xs → slice_get ring 0 ≡ slice_get xs at
  taken_first xs ring at lt is =
      let (x, there, parts) = parts_at xs at lt in ap (λ l. slice_get l 0) (is ∙ ap (λ l. l ++ take at xs) parts) ∙ sym there

  pub taken_rest : (xs ring : List X) (at behind : ℕ) → at < length xs → behind ≡ length xs - at - 1 → ring ≡ drop at xs ++ take at xs
      → drop behind (drop 1 ring) ++ take behind (drop 1 ring) ≡ remove xs at
  taken_rest xs ring at behind lt many is =
      let (x, there, parts) = parts_at xs at lt in
      let rest : drop 1 ring ≡ drop (suc at) xs ++ take at xs = ap (drop 1) (is ∙ ap (λ l. l ++ take at xs) parts) in
      let all : behind ≡ length (drop (suc at) xs) = let short = length-drop (suc at) xs in omega (arith, many, short) in
      ap (λ l. drop behind l ++ take behind l) rest ∙ ap (λ n. drop n (drop (suc at) xs ++ take at xs) ++ take n (drop (suc at) xs ++ take at xs)) all
      ∙ ap (λ l. l ++ take (length (drop (suc at) xs)) (drop (suc at) xs ++ take at xs)) (drop-append_seam (drop (suc at) xs) (take at xs))
      ∙ ap (λ l. take at xs ++ l) (take-append_seam (drop (suc at) xs) (take at xs))

  pub rest_long : (xs ring : List X) (at behind : ℕ) → at < length xs → behind ≡ length xs - at - 1 → ring ≡ drop at xs ++ take at xs
      → behind ≤ length (drop 1 ring)
  rest_long xs ring at behind lt many is =
      let (x, there, parts) = parts_at xs at lt in
      let rest = ap (λ l. length (drop 1 l)) (is ∙ ap (λ l. l ++ take at xs) parts) ∙ length-append (drop (suc at) xs) (take at xs) in
      let short = length-drop (suc at) xs in
      omega (arith, many, rest, short)

map_cond : {X Y : Type 0} (f : X → Y) (b : Bool) (x : X) (xs : List X) → map f (cond b (x ∷ xs) xs) ≡ cond b (f x ∷ map f xs) (map f xs)
map_cond f true x xs = refl
map_cond f false x xs = refl

module _ {C : Type 0} where
  -- a launch of the ticket, and one of another
  pub find_own : (t : ℕ) (l : Unfinished C) (ls : List (Unfinished C)) → l.ticket ≡ t → launch_of t (l ∷ ls) ≡ Some l
  find_own t l ls own = ap (λ b. cond b (Some l) (launch_of t ls)) (eq-eqb l.ticket t own)

  pub find_other : (t : ℕ) (l : Unfinished C) (ls : List (Unfinished C)) → l.ticket ≢ t → launch_of t (l ∷ ls) ≡ launch_of t ls
  find_other t l ls ne = ap (λ b. cond b (Some l) (launch_of t ls)) (ne_eqb l.ticket t ne)

  pub drop_own : (t : ℕ) (l : Unfinished C) (ls : List (Unfinished C)) → l.ticket ≡ t → other_launches t (l ∷ ls) ≡ other_launches t ls
  drop_own t l ls own = ap (λ b. cond (not b) (l ∷ other_launches t ls) (other_launches t ls)) (eq-eqb l.ticket t own)

  pub keep_other : (t : ℕ) (l : Unfinished C) (ls : List (Unfinished C)) → l.ticket ≢ t → other_launches t (l ∷ ls) ≡ l ∷ other_launches t ls
  keep_other t l ls ne = ap (λ b. cond (not b) (l ∷ other_launches t ls) (other_launches t ls)) (ne_eqb l.ticket t ne)

  pub none_found : (t : ℕ) (ls : List (Unfinished C)) → AllByRecursion (λ l. l.ticket ≢ t) ls → launch_of t ls ≡ None
  none_found t [] all = refl
  none_found t (l ∷ ls) all = find_other t l ls all.0 ∙ none_found t ls all.1

  pub all_other : (t : ℕ) (ls : List (Unfinished C)) → AllByRecursion (λ l. l.ticket ≢ t) ls → other_launches t ls ≡ ls
  all_other t [] all = refl
  all_other t (l ∷ ls) all = keep_other t l ls all.0 ∙ ap (λ r. l ∷ r) (all_other t ls all.1)

  differ : (t : ℕ) (ls : List (Unfinished C)) → AllByRecursion (λ y. nat_eq t y ≡ false) (tickets_of ls) → AllByRecursion (λ l. l.ticket ≢ t) ls
  differ t [] all = tt
  differ t (l ∷ ls) all = (λ e. let both : true ≡ false = sym (eq-eqb t l.ticket (sym e)) ∙ all.0 in cc, differ t ls all.1)

  -- behind a launch stand those of other tickets
  pub others_differ : (t : ℕ) (l : Unfinished C) (ls : List (Unfinished C)) → IsDistinct nat_eq (tickets_of (l ∷ ls)) → l.ticket ≡ t
      → AllByRecursion (λ x. x.ticket ≢ t) ls
  others_differ t l ls once own =
      subst (λ u. AllByRecursion (λ x. x.ticket ≢ u) ls) own (differ l.ticket ls (IsDistinct-head nat_eq l.ticket (tickets_of ls) once))

  differs_at : (u t : ℕ) (ls : List (Unfinished C)) (at : ℕ) → AllByRecursion (λ x. x.ticket ≢ u) ls → HasTicket ls at t → u ≢ t
  differs_at u t [] at all has = absurd has
  differs_at u t (x ∷ ls) zero all has = λ e. all.0 (has ∙ sym e)
  differs_at u t (x ∷ ls) (suc at) all has = differs_at u t ls at all.1 has

  -- the launch that stands at an index is the one that is found, and its removal leaves the others
  pub found_at : (t : ℕ) (ls : List (Unfinished C)) (at : ℕ) → IsDistinct nat_eq (tickets_of ls) → HasTicket ls at t
      → (at < length ls) × (slice_get ls at ≡ launch_of t ls) × (other_launches t ls ≡ remove ls at)
  found_at t [] at once has = absurd has
  found_at t (l ∷ ls) zero once has =
      (omega arith, sym (find_own t l ls has), drop_own t l ls has ∙ all_other t ls (others_differ t l ls once has))
  found_at t (l ∷ ls) (suc at) once has =
      let (lt, found, rest) = found_at t ls at (IsDistinct-tail nat_eq l.ticket (tickets_of ls) once) has in
      let ne = differs_at l.ticket t ls at (others_differ l.ticket l ls once refl) has in
      (omega (arith, lt), found ∙ sym (find_other t l ls ne), keep_other t l ls ne ∙ ap (λ r. l ∷ r) rest)

  -- where others were passed over so far
  pub passed_more : (t : ℕ) (ls : List (Unfinished C)) (at : ℕ) → at < length ls → (HasTicket ls at t → ⊥) → AllByRecursion (λ l. l.ticket ≢ t) (take at ls)
      → AllByRecursion (λ l. l.ticket ≢ t) (take (at + 1) ls)
  passed_more t ls at lt other all =
      let (l, there, parts) = parts_at ls at lt in
      let ne : l.ticket ≢ t = λ e. other (rw there e) in
      let more : take at ls ++ l ∷ [] ≡ take (at + 1) ls = ap (λ xs. take at ls ++ take 1 xs) (sym parts) ∙ take_one_more at ls in
      subst (AllByRecursion (λ x. x.ticket ≢ t)) more (all-append (λ x. x.ticket ≢ t) (take at ls) (l ∷ []) all (ne, tt))

  -- of another ticket the others find what was found
  still_found : (t u : ℕ) (ls : List (Unfinished C)) → u ≢ t → launch_of u (other_launches t ls) ≡ launch_of u ls
  still_found t u [] ne = refl
  still_found t u (l ∷ ls) ne = elim (cases_eq l.ticket t) [
    | inl own ↦ ap (launch_of u) (drop_own t l ls own) ∙ still_found t u ls ne ∙ sym (find_other u l ls (λ e. ne (sym e ∙ own)))
    | inr other ↦ ap (launch_of u) (keep_other t l ls other) ∙ ap (λ o. cond (l.ticket == u) (Some l) o) (still_found t u ls ne)
  ]

  others_all : (P : ℕ → Type 0) (t : ℕ) (ls : List (Unfinished C)) → AllByRecursion P (tickets_of ls) → AllByRecursion P (tickets_of (other_launches t ls))
  others_all P t [] all = tt
  others_all P t (l ∷ ls) all = elim (cases_eq l.ticket t) [
    | inl own ↦ subst (λ r. AllByRecursion P (tickets_of r)) (sym (drop_own t l ls own)) (others_all P t ls all.1)
    | inr other ↦ subst (λ r. AllByRecursion P (tickets_of r)) (sym (keep_other t l ls other)) (all.0, others_all P t ls all.1)
  ]

  pub others_distinct : (t : ℕ) (ls : List (Unfinished C)) → IsDistinct nat_eq (tickets_of ls) → IsDistinct nat_eq (tickets_of (other_launches t ls))
  others_distinct t [] once = once
  others_distinct t (l ∷ ls) once =
      let tail = IsDistinct-tail nat_eq l.ticket (tickets_of ls) once in
      let head = IsDistinct-head nat_eq l.ticket (tickets_of ls) once in
      elim (cases_eq l.ticket t) [
        | inl own ↦ subst (λ r. IsDistinct nat_eq (tickets_of r)) (sym (drop_own t l ls own)) (others_distinct t ls tail)
        | inr other ↦
            subst (λ r. IsDistinct nat_eq (tickets_of r)) (sym (keep_other t l ls other))
            (IsDistinct-cons nat_eq l.ticket (tickets_of (other_launches t ls)) (others_all (λ y. nat_eq l.ticket y ≡ false) t ls head) (others_distinct t ls tail))
      ]

  -- what is left without some tickets is what is left of the others without the rest of them
  pub left_more : (t : ℕ) (ts : List ℕ) (ls : List (Unfinished C)) → launches_left (t ∷ ts) ls ≡ launches_left ts (other_launches t ls)
  left_more t ts [] = refl
  left_more t ts (l ∷ ls) =
      let any = list_any (λ g. g == l.ticket) ts in
      let more = left_more t ts ls in
      elim (cases_eq l.ticket t) [
        | inl own ↦
            ap (λ b. cond (not (b || any)) (l ∷ launches_left (t ∷ ts) ls) (launches_left (t ∷ ts) ls)) (eq-eqb t l.ticket (sym own)) ∙ more
            ∙ ap (launches_left ts) (sym (drop_own t l ls own))
        | inr other ↦
            ap (λ b. cond (not (b || any)) (l ∷ launches_left (t ∷ ts) ls) (launches_left (t ∷ ts) ls)) (ne_eqb t l.ticket (λ e. other (sym e)))
            ∙ ap (λ r. cond (not any) (l ∷ r) r) more ∙ ap (launches_left ts) (sym (keep_other t l ls other))
      ]

  pub left_none : (ls : List (Unfinished C)) → launches_left [] ls ≡ ls
  left_none [] = refl
  left_none (l ∷ ls) = ap (λ r. l ∷ r) (left_none ls)

  -- the tickets of what is left are the rest of the tickets
  pub tickets_left : (ts : List ℕ) (ls : List (Unfinished C)) → tickets_of (launches_left ts ls) ≡ remaining ts (tickets_of ls)
  tickets_left ts [] = refl
  tickets_left ts (l ∷ ls) =
      let b = not (list_any (λ g. g == l.ticket) ts) in
      map_cond (λ x. x.ticket) b l (launches_left ts ls) ∙ ap (λ r. cond b (l.ticket ∷ r) r) (tickets_left ts ls)

pub ended_rest : {V O R T : Type 0} (x : Completion V O R T) (xs rest : List (Completion V O R T)) → xs ≡ x ∷ rest → IsDistinct nat_eq (ended_tickets xs)
    → IsDistinct nat_eq (ended_tickets rest)
ended_rest x xs rest is once = IsDistinct-tail nat_eq x.ticket (ended_tickets rest) (subst (λ l. IsDistinct nat_eq (ended_tickets l)) is once)

module _ {V O R T C : Type 0} where
  -- one launch at most arrives by a completion, and the others stay
  pub one_out : (t : ℕ) (x : Completion V O R T) (ls : List (Unfinished C)) → IsDistinct nat_eq (tickets_of ls)
      → length (other_launches x.ticket ls) + length (finished_by t ls x) ≡ length ls
  one_out t x [] once = refl
  one_out t x (l ∷ ls) once = elim (cases_eq l.ticket x.ticket) [
    | inl own ↦
        let rest = ap length (drop_own x.ticket l ls own ∙ all_other x.ticket ls (others_differ x.ticket l ls once own)) in
        let found = ap (λ o. length (finish_of {V = V} {O = O} {T = T} t x.reply o)) (find_own x.ticket l ls own) in
        omega (arith, rest, found)
    | inr other ↦
        let rest = ap length (keep_other x.ticket l ls other) in
        let found = ap (λ o. length (finish_of {V = V} {O = O} {T = T} t x.reply o)) (find_other x.ticket l ls other) in
        let more = one_out t x ls (IsDistinct-tail nat_eq l.ticket (tickets_of ls) once) in
        omega (arith, rest, found, more)
  ]

  -- completions of other tickets find the same among the others
  pub rest_finish : (t u : ℕ) (ls : List (Unfinished C)) (xs : List (Completion V O R T)) → AllByRecursion (λ y. nat_eq u y ≡ false) (ended_tickets xs)
      → finished_of t (other_launches u ls) xs ≡ finished_of t ls xs
  rest_finish t u ls [] all = refl
  rest_finish t u ls (x ∷ xs) all =
      let ne : x.ticket ≢ u = λ e. let both : true ≡ false = sym (eq-eqb u x.ticket (sym e)) ∙ all.0 in cc in
      ap (λ o. finish_of t x.reply o ++ finished_of t (other_launches u ls) xs) (still_found u x.ticket ls ne)
      ∙ ap (λ l. finished_by t ls x ++ l) (rest_finish t u ls xs all.1)

  -- the loop that lets launches arrive, one completion on
  pub finishing :
      (t : ℕ) (arrived arrived_new all : List (Arrival V C O R T)) (ls ls_new : List (Unfinished C)) (x : Completion V O R T)
      (xs rest : List (Completion V O R T)) → xs ≡ x ∷ rest → IsDistinct nat_eq (ended_tickets xs) → arrived_new ≡ arrived ++ finished_by t ls x
      → ls_new ≡ other_launches x.ticket ls → arrived ++ finished_of t ls xs ≡ all → arrived_new ++ finished_of t ls_new rest ≡ all
  finishing t arrived arrived_new all ls ls_new x xs rest is once now then e =
      let other =
      IsDistinct-head nat_eq x.ticket (ended_tickets rest) (subst (λ l. IsDistinct nat_eq (ended_tickets l)) is once) in
      rw (now, then) (
      append_assoc arrived (finished_by t ls x) (finished_of t (other_launches x.ticket ls) rest)
      ∙ ap (λ l. arrived ++ (finished_by t ls x ++ l)) (rest_finish t x.ticket ls rest other)
      ∙ ap (λ l. arrived ++ finished_of t ls l) (sym is) ∙ e
      )

  pub leaving :
      (ls ls_new all : List (Unfinished C)) (x : Completion V O R T) (xs rest : List (Completion V O R T)) → xs ≡ x ∷ rest
      → ls_new ≡ other_launches x.ticket ls → launches_left (ended_tickets xs) ls ≡ all → launches_left (ended_tickets rest) ls_new ≡ all
  leaving ls ls_new all x xs rest is now e =
      ap (launches_left (ended_tickets rest)) now ∙ sym (left_more x.ticket (ended_tickets rest) ls)
      ∙ ap (λ l. launches_left (ended_tickets l) ls) (sym is) ∙ e

  pub finished_at_end : (t : ℕ) (arrived all : List (Arrival V C O R T)) (ls : List (Unfinished C)) (xs : List (Completion V O R T)) → xs ≡ []
      → arrived ++ finished_of t ls xs ≡ all → arrived ≡ all
  finished_at_end t arrived all ls xs none e = sym (append-nil arrived) ∙ ap (λ l. arrived ++ finished_of t ls l) (sym none) ∙ e

  pub left_at_end : (ls all : List (Unfinished C)) (xs : List (Completion V O R T)) → xs ≡ [] → launches_left (ended_tickets xs) ls ≡ all → ls ≡ all
  left_at_end ls all xs none e = sym (left_none ls) ∙ ap (λ l. launches_left (ended_tickets l) ls) (sym none) ∙ e

  -- what arrives of trustee t with completions of launches
  pub record Finishes (t n : ℕ) (ls : List (Unfinished C)) (xs : List (Completion V O R T)) : Type 0 where
    pub many : length (finished_of t ls xs) + length (launches_left (ended_tickets xs) ls) ≡ length ls
    pub here : come_of t (finished_of t ls xs) ≡ length (finished_of t ls xs)
    pub elsewhere : (u : ℕ) → u ≢ t → come_of u (finished_of t ls xs) ≡ 0
    pub brought : brought_in (finished_of t ls xs) ≡ 0
    pub entrusted : (u id : ℕ) → entrusted_in u id (finished_of t ls xs) ≡ 0
    pub takeable : AllByRecursion (λ a. (a.trustee < n) × MayHand a.came) (finished_of t ls xs)

  many_finish : (t : ℕ) (ls : List (Unfinished C)) (xs : List (Completion V O R T)) → IsDistinct nat_eq (tickets_of ls) → IsDistinct nat_eq (ended_tickets xs)
      → length (finished_of t ls xs) + length (launches_left (ended_tickets xs) ls) ≡ length ls
  many_finish t ls [] once ended =
      let none : length (launches_left (ended_tickets {V = V} {O = O} {R = R} {T = T} []) ls) ≡ length ls = ap length (left_none ls) in omega (arith, none)
  many_finish t ls (x ∷ xs) once ended =
      let more =
      many_finish t (other_launches x.ticket ls) xs (others_distinct x.ticket ls once) (IsDistinct-tail nat_eq x.ticket (ended_tickets xs) ended) in
      let rest = ap length (rest_finish t x.ticket ls xs (IsDistinct-head nat_eq x.ticket (ended_tickets xs) ended)) in
      let left = ap length (left_more x.ticket (ended_tickets xs) ls) in
      let one = one_out t x ls once in
      let joined = length-append (finished_by t ls x) (finished_of t ls xs) in
      omega (arith, more, rest, left, one, joined)

  here_by : (t : ℕ) (x : Completion V O R T) (o : Option (Unfinished C)) → come_of t (finish_of {V = V} {O = O} {T = T} t x.reply o) ≡ length (finish_of {V = V} {O = O} {T = T} t x.reply o)
  here_by t x None = refl
  here_by t x (Some l) = let own = ap {B = ℕ} (λ e. cond e 1 0) (eq-eqb t t refl) in omega (arith, own)

  elsewhere_by : (u t : ℕ) (x : Completion V O R T) (o : Option (Unfinished C)) → u ≢ t → come_of u (finish_of {V = V} {O = O} {T = T} t x.reply o) ≡ 0
  elsewhere_by u t x None ne = refl
  elsewhere_by u t x (Some l) ne = let other = ap {B = ℕ} (λ e. cond e 1 0) (ne_eqb t u (λ e. ne (sym e))) in omega (arith, other)

  brought_by_end : (t : ℕ) (x : Completion V O R T) (o : Option (Unfinished C)) → brought_in (finish_of {V = V} {O = O} {T = T} t x.reply o) ≡ 0
  brought_by_end t x None = refl
  brought_by_end t x (Some l) = refl

  entrusted_by_end : (u id t : ℕ) (x : Completion V O R T) (o : Option (Unfinished C)) → entrusted_in u id (finish_of {V = V} {O = O} {T = T} t x.reply o) ≡ 0
  entrusted_by_end u id t x None = refl
  entrusted_by_end u id t x (Some l) = refl

  takeable_by : (t n : ℕ) (x : Completion V O R T) (o : Option (Unfinished C)) → t < n
      → AllByRecursion (λ a. (a.trustee < n) × MayHand a.came) (finish_of {V = V} {O = O} {T = T} t x.reply o)
  takeable_by t n x None lt = tt
  takeable_by t n x (Some l) lt = ((lt, tt), tt)

  here_finish : (t : ℕ) (ls : List (Unfinished C)) (xs : List (Completion V O R T)) → come_of t (finished_of t ls xs) ≡ length (finished_of t ls xs)
  here_finish t ls [] = refl
  here_finish t ls (x ∷ xs) =
      let joined = come_of-append t (finished_by t ls x) (finished_of t ls xs) in
      let one = here_by t x (launch_of x.ticket ls) in
      let more = here_finish t ls xs in
      let all = length-append (finished_by t ls x) (finished_of t ls xs) in
      omega (arith, joined, one, more, all)

  elsewhere_finish : (u t : ℕ) (ls : List (Unfinished C)) (xs : List (Completion V O R T)) → u ≢ t → come_of u (finished_of t ls xs) ≡ 0
  elsewhere_finish u t ls [] ne = refl
  elsewhere_finish u t ls (x ∷ xs) ne =
      let joined = come_of-append u (finished_by t ls x) (finished_of t ls xs) in
      let one = elsewhere_by u t x (launch_of x.ticket ls) ne in
      let more = elsewhere_finish u t ls xs ne in
      omega (arith, joined, one, more)

  brought_finish : (t : ℕ) (ls : List (Unfinished C)) (xs : List (Completion V O R T)) → brought_in (finished_of t ls xs) ≡ 0
  brought_finish t ls [] = refl
  brought_finish t ls (x ∷ xs) =
      let joined = brought_in-append (finished_by t ls x) (finished_of t ls xs) in
      let one = brought_by_end t x (launch_of x.ticket ls) in
      let more = brought_finish t ls xs in
      omega (arith, joined, one, more)

  entrusted_finish : (u id t : ℕ) (ls : List (Unfinished C)) (xs : List (Completion V O R T)) → entrusted_in u id (finished_of t ls xs) ≡ 0
  entrusted_finish u id t ls [] = refl
  entrusted_finish u id t ls (x ∷ xs) =
      let joined = entrusted_in-append u id (finished_by t ls x) (finished_of t ls xs) in
      let one = entrusted_by_end u id t x (launch_of x.ticket ls) in
      let more = entrusted_finish u id t ls xs in
      omega (arith, joined, one, more)

  takeable_finish : (t n : ℕ) (ls : List (Unfinished C)) (xs : List (Completion V O R T)) → t < n
      → AllByRecursion (λ a. (a.trustee < n) × MayHand a.came) (finished_of t ls xs)
  takeable_finish t n ls [] lt = tt
  takeable_finish t n ls (x ∷ xs) lt =
      all-append (λ a. (a.trustee < n) × MayHand a.came) (finished_by t ls x) (finished_of t ls xs) (takeable_by t n x (launch_of x.ticket ls) lt)
      (takeable_finish t n ls xs lt)

  pub finishes : (t n : ℕ) (ls : List (Unfinished C)) (xs : List (Completion V O R T)) → t < n → IsDistinct nat_eq (tickets_of ls)
      → IsDistinct nat_eq (ended_tickets xs) → Finishes t n ls xs
  finishes t n ls xs lt once ended = record {
    many = many_finish t ls xs once ended;
    here = here_finish t ls xs;
    elsewhere = λ u ne. elsewhere_finish u t ls xs ne;
    brought = brought_finish t ls xs;
    entrusted = λ u id. entrusted_finish u id t ls xs;
    takeable = takeable_finish t n ls xs lt;
  }
