-- What an intake has of a source, as more is fed and more comes.
use Rattle.std.proofs.Common.{◌≡◌, ◌≢◌, ◌⊎◌, inl, inr, ℕ, zero, suc, ◌+◌, ◌-◌, ◌<◌, ◌≤◌, min, List, [], ◌∷◌, ◌++◌, length, take, drop, Option, Some, refl, sym, ap, subst, ◌∙◌, arith, append_assoc, append-nil, length-append}
use Rattle.std.specs.Prelude.{◌↔◌}
use Rattle.std.proofs.lemmas.Bool.{cases_lt}
use Rattle.std.proofs.lemmas.List.{take_all, take-take, drop-drop, length-take, length-drop, length-take-le}
use Rattle.tm_base.specs.Visible.{Gives}
use Rattle.mc_model.specs.declared.message.Message.{Message}
use Rattle.mc_grammar.specs.declared.progress.Progress.{Progress}
use Rattle.mc_grammar.specs.declared.progress.Progress.TheVariants.{Line, Block, Returned, Pass, Ready}
use Rattle.mc_grammar.specs.declared.reader.Next.{Next}
use Rattle.mc_grammar.specs.declared.reader.Next.TheVariants as next
use Rattle.mc_grammar.specs.Progress.{IsUnfinished, IsReady, Start}
use Rattle.mc_grammar.specs.Reading.{IsRead, ReadsOn, ReadsItem, Comes, ReadsNext}
use Rattle.mc_grammar.specs.Pieces.{kept}
use Rattle.mc_grammar.proofs.Piecewise.{start_unfinished, still_unfinished, took}
use Rattle.mc_intake.specs.declared.intake.TheConstants.{BUFFER}
use Rattle.mc_intake.specs.declared.intake.Intake.{Intake}
use Rattle.mc_intake.specs.declared.intake.Came.{Came}
use Rattle.mc_intake.specs.Intake.{unfed, IsIntake, Takes, Says, HasRead}

pub none_taken : (n : ℕ) → take {A = ℕ} n [] ≡ []
none_taken zero = refl
none_taken (suc n) = refl

-- a message that is not whole is not ready
pub not_ready : (p : Progress) → IsUnfinished p → IsReady p → ⊥
unfolding IsUnfinished
not_ready (Ready y) u h = u.2 u.3.0
not_ready (Line front) u h = absurd h
not_ready (Block _ _) u h = absurd h
not_ready (Returned _ _) u h = absurd h
not_ready (Pass _ _) u h = absurd h

-- what comes next joins what was read
pub reads_kept : (bytes more : List ℕ) (messages : List Message) (old mid new : Progress) (n : Next) → IsRead bytes messages old → ReadsOn old more mid → Comes mid n new
    → ReadsNext mid n new → IsRead (bytes ++ more) (kept messages n) new
unfolding ReadsOn ReadsItem
reads_kept bytes more messages old mid new (next.Command c) r on comes reads = reads (bytes ++ more) messages (on bytes messages r)
reads_kept bytes more messages old mid new (next.Fault fault) r on comes reads = reads (bytes ++ more) messages (on bytes messages r)
reads_kept bytes more messages old mid new next.More r on comes reads = subst (λ p. IsRead (bytes ++ more) messages p) (sym comes.1) (on bytes messages r)

-- of a text that goes on, so much is within the limit
pub within_limit : (limit left : ℕ) (text more : List ℕ) → length (take limit text) + left ≡ limit → take limit (text ++ more) ≡ take limit text ++ take left more
within_limit zero left text more e = let none : left ≡ 0 = omega arith in rw none refl
within_limit (suc limit) left [] more e = let all : left ≡ suc limit = omega arith in rw all refl
within_limit (suc limit) left (x ∷ text) more e = ap (λ l. x ∷ l) (within_limit limit left text more (omega (arith, e)))

split : (n m : ℕ) (ys zs : List ℕ) → zs ≡ drop n ys → take n (take (n + m) ys) ++ take m zs ≡ take (n + m) ys
split zero m ys zs e = let none : 0 + m ≡ m = omega arith in rw (e, none) refl
split (suc n) m [] zs e = rw (e, none_taken (suc n + m)) (none_taken m)
split (suc n) m (y ∷ ys) zs e = let next : suc n + m ≡ suc (n + m) = omega arith in rw next (ap (λ l. y ∷ l) (split n m ys zs e))

-- the bytes that are still to be fed, after the first of them were
pub fed_more : (xs : List ℕ) (from to n : ℕ) → from + n ≤ to
    → take n (take (to - from) (drop from xs)) ++ take (to - (from + n)) (drop (from + n) xs) ≡ take (to - from) (drop from xs)
fed_more xs from to n le =
    let size : to - from ≡ n + (to - (from + n)) = omega (arith, le) in
    ap (λ k. take n (take k (drop from xs)) ++ take (to - (from + n)) (drop (from + n) xs)) size
    ∙ split n (to - (from + n)) (drop from xs) (drop (from + n) xs) (sym (drop-drop n from xs))
    ∙ ap (λ k. take k (drop from xs)) (sym size)

take_first : (n m : ℕ) (xs : List ℕ) → take n (take m xs) ≡ take (min m n) xs
take_first n m xs =
    elim (cases_lt m n) [
      | inl lt ↦
          let least : min m n ≡ m = omega arith in
          let few = length-take m xs in
          take_all n (take m xs) (omega (arith, few, lt)) ∙ ap (λ k. take k xs) (sym least)
      | inr ge ↦ let least : min m n ≡ n = omega arith in take-take n m xs (omega arith) ∙ ap (λ k. take k xs) (sym least)
    ]

unfed_count : (i : Intake) → i.from ≤ i.to → i.to ≤ BUFFER → length i.buffer.items ≡ BUFFER → length (unfed i) ≡ i.to - i.from
unfed_count i le most room =
    let rest = length-drop i.from i.buffer.items in
    length-take-le (i.to - i.from) (drop i.from i.buffer.items) (omega (arith, rest, le, most, room))

pub nothing_unfed : (i : Intake) → i.to ≤ i.from → unfed i ≡ []
nothing_unfed i le = let none : i.to - i.from ≡ 0 = omega (arith, le) in ap (λ k. take k (drop i.from i.buffer.items)) none

unfinished_more : (u v : Progress) (n : Next) → n ≡ next.More → Comes u n v → IsUnfinished u
unfinished_more u v n e comes = (subst (λ m. Comes u m v) e comes).0

pub taking :
    (limit : ℕ) (text : List ℕ) (messages : List Message) (old new : Intake) (n : ℕ) (u : Progress) (nx : Next) → IsIntake limit text messages old
    → new.buffer ≡ old.buffer → new.from ≡ old.from + n → new.to ≡ old.to → new.left ≡ old.left → n ≤ length (unfed old)
    → ReadsOn old.reader (take n (unfed old)) u → Comes u nx new.reader → ReadsNext u nx new.reader → (n < length (unfed old) → IsReady u)
    → Takes limit text messages nx new
taking limit text messages old new n u nx is buffer from to left le on comes reads through =
    let count = unfed_count old is.from_to is.to_end is.room in
    let size : old.from + n ≤ old.to = let within = is.from_to in omega (arith, le, count, within) in
    let new_is : unfed new ≡ take (old.to - (old.from + n)) (drop (old.from + n) old.buffer.items) =
    ap (λ b. take (new.to - new.from) (drop new.from b.items)) buffer ∙ ap (λ k. take (k - new.from) (drop new.from old.buffer.items)) to
    ∙ ap (λ k. take (old.to - k) (drop k old.buffer.items)) from in record {
      is = record {
        room = ap (λ b. length b.items) buffer ∙ is.room;
        from_to = omega (arith, size, from, to);
        to_end = let most = is.to_end in omega (arith, most, to);
        fed = is.fed ++ take n (unfed old);
        parts = append_assoc is.fed (take n (unfed old)) (unfed new) ∙ ap (λ l. is.fed ++ (take n (unfed old) ++ l)) new_is
            ∙ ap (λ l. is.fed ++ l) (fed_more old.buffer.items old.from old.to n size) ∙ is.parts;
        is_read = reads_kept is.fed (take n (unfed old)) messages old.reader u new.reader nx is.is_read on comes reads;
        unfinished = still_unfinished u new.reader nx comes;
        left = let same = is.left in omega (arith, left, same);
      };
      more = λ e.
          elim (cases_lt n (length (unfed old))) [
            | inl lt ↦ absurd (not_ready u (unfinished_more u new.reader nx e comes) (through lt))
            | inr ge ↦
                let end : old.to - (old.from + n) ≡ 0 = omega (arith, ge, count) in
                new_is ∙ ap (λ k. take k (drop (old.from + n) old.buffer.items)) end
          ];
    }

-- where all is fed, nothing more is taken
pub none_fed : (limit : ℕ) (text : List ℕ) (messages : List Message) (i : Intake) → IsIntake limit text messages i → i.to ≤ i.from → Takes limit text messages next.More i
none_fed limit text messages i is le = record { is = is; more = λ e. nothing_unfed i le }

-- bytes came behind a text that is fed whole
pub coming :
    (limit : ℕ) (text : List ℕ) (messages : List Message) (old new : Intake) (bytes : List ℕ) (came : ℕ) → IsIntake limit text messages old → unfed old ≡ []
    → new.reader ≡ old.reader → length new.buffer.items ≡ BUFFER → new.from ≡ 0 → new.to ≡ min came old.left → new.left ≡ old.left - min came old.left
    → came ≤ BUFFER → bytes ≡ take came new.buffer.items → IsIntake limit (text ++ bytes) messages new
coming limit text messages old new bytes came is none reader room from to left le bytes_are =
    let fed_all : is.fed ≡ take limit text = sym (append-nil is.fed) ∙ ap (λ l. is.fed ++ l) (sym none) ∙ is.parts in
    let many : length bytes ≡ came = ap length bytes_are ∙ length-take-le came new.buffer.items (omega (arith, le, room)) in
    let all_in : new.to - 0 ≡ min came old.left = omega (arith, to) in
    let hand : unfed new ≡ take old.left bytes =
    ap (λ k. take (new.to - k) (drop k new.buffer.items)) from ∙ ap (λ k. take k new.buffer.items) all_in
    ∙ sym (take_first old.left came new.buffer.items) ∙ ap (take old.left) (sym bytes_are) in
    let whole : take limit (text ++ bytes) ≡ take limit text ++ take old.left bytes = within_limit limit old.left text bytes is.left in
    let joined = length-append (take limit text) (take old.left bytes) in
    let part = length-take old.left bytes in
    let all = ap length whole in
    let before = is.left in
    record {
      room = room;
      from_to = omega (arith, from);
      to_end = omega (arith, to, le);
      fed = is.fed;
      parts = ap (λ l. l ++ unfed new) fed_all ∙ ap (λ l. take limit text ++ l) hand ∙ sym whole;
      is_read = subst (λ p. IsRead is.fed messages p) (sym reader) is.is_read;
      unfinished = subst IsUnfinished (sym reader) is.unfinished;
      left = omega (arith, left, joined, part, all, before, many);
    }

pub beginning :
    (limit : ℕ) (i : Intake) → IsRead [] [] i.reader → i.reader ≡ Start → length i.buffer.items ≡ BUFFER → i.from ≡ 0 → i.to ≡ 0 → i.left ≡ limit → IsIntake limit [] [] i
beginning limit i read start room from to left =
    let none = none_taken limit in
    let count = ap length none in record {
      room = room;
      from_to = omega (arith, from, to);
      to_end = omega (arith, to);
      fed = [];
      parts = nothing_unfed i (omega (arith, from, to)) ∙ sym none;
      is_read = read;
      unfinished = subst IsUnfinished (sym start) start_unfinished;
      left = omega (arith, count, left);
    }

-- a read brought bytes, as many as it says
pub came_in :
    (limit : ℕ) (text : List ℕ) (messages : List Message) (old new : Intake) (into : List ℕ) (came fed : ℕ) (said : Came) (left left_new : Option (List ℕ))
    → IsIntake limit text messages old → unfed old ≡ [] → new.buffer.items ≡ into → length into ≡ BUFFER → new.reader ≡ old.reader → new.from ≡ 0
    → new.to ≡ fed → new.left ≡ old.left - fed → fed ≡ min came old.left → came ≤ length into → Gives left left_new came into
    → Says said limit text (take came into) left → HasRead limit text messages said left left_new new
came_in limit text messages old new into came fed said left left_new is none items room reader from to rest fed_is most gives says =
    let many : length (take came into) ≡ came = length-take-le came into most in
    let twice : take (length (take came into)) (take came into) ≡ take came into = take_all (length (take came into)) (take came into) (omega arith) in
    record {
      bytes = take came into;
      gives = λ xs e.
          let (parts, now) = gives xs e in (
            subst (λ k. xs ≡ take (length (take came into)) (take came into) ++ drop k xs) (sym many) (subst (λ l. xs ≡ l ++ drop came xs) (sym twice) parts),
            subst (λ k. left_new ≡ Some (drop k xs)) (sym many) now,
          );
      is = coming limit text messages old new (take came into) came is none reader (ap length items ∙ room) from (to ∙ fed_is)
          (rest ∙ ap (λ k. old.left - k) fed_is) (omega (arith, most, room)) (ap (λ l. take came l) (sym items));
      says = says;
    }

-- more came than is within the limit
pub too_much : (limit : ℕ) (text into : List ℕ) (messages : List Message) (i : Intake) (came fed : ℕ) → IsIntake limit text messages i → fed ≡ min came i.left → fed < came
    → came ≤ length into → limit < length (text ++ take came into)
too_much limit text into messages i came fed is fed_is lt most =
    let many = length-take-le came into most in
    let joined = length-append text (take came into) in
    let front = length-take limit text in
    let left = is.left in
    omega (arith, many, joined, front, left, fed_is, lt)

-- all that came is
pub some_came : (limit : ℕ) (text into : List ℕ) (messages : List Message) (i : Intake) (came fed : ℕ) → IsIntake limit text messages i → fed ≡ min came i.left → came ≤ fed
    → came ≢ 0 → came ≤ length into → length into ≡ BUFFER
    → (1 ≤ length (take came into)) × (length (take came into) ≤ BUFFER) × (length (text ++ take came into) ≤ limit)
some_came limit text into messages i came fed is fed_is all some most room =
    let many = length-take-le came into most in
    let joined = length-append text (take came into) in
    let front = length-take limit text in
    let left = is.left in
    (omega (arith, many, some), omega (arith, many, most, room), omega (arith, many, joined, front, left, fed_is, all, some))

-- what is still to be fed is nothing exactly where the two ends meet
pub ends_meet : (limit : ℕ) (text : List ℕ) (messages : List Message) (i : Intake) → IsIntake limit text messages i → unfed i ≡ [] → i.from ≡ i.to
ends_meet limit text messages i is none =
    let count = unfed_count i is.from_to is.to_end is.room in
    let empty = ap length none in
    let le = is.from_to in
    omega (arith, count, empty, le)

some_bytes : (xs : List ℕ) → xs ≢ [] → 0 < length xs
some_bytes [] ne = absurd (ne refl)
some_bytes (x ∷ xs) ne = omega arith

-- of some bytes in hand at least one is fed
pub fewer_unfed :
    (limit : ℕ) (text : List ℕ) (messages : List Message) (old new : Intake) (n : ℕ) → IsIntake limit text messages old
    → new.buffer ≡ old.buffer → new.from ≡ old.from + n → new.to ≡ old.to → n ≤ length (unfed old)
    → ((n ≡ 0) ↔ ((unfed old ≡ []) ⊎ IsReady old.reader)) → unfed old ≢ [] → length (unfed new) < length (unfed old)
fewer_unfed limit text messages old new n is buffer from to le takes some =
    let count = unfed_count old is.from_to is.to_end is.room in
    let least = took (unfed old) n old.reader (some_bytes (unfed old) some) is.unfinished takes in
    let size : new.from ≤ new.to = let within = is.from_to in omega (arith, le, count, within, from, to) in
    let end : new.to ≤ BUFFER = let most = is.to_end in omega (arith, most, to) in
    let after = unfed_count new size end (ap (λ b. length b.items) buffer ∙ is.room) in
    omega (arith, count, after, least, from, to, size)
