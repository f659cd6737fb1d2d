-- A task that goes on: what it has done so far, and what it does in the end.
use Rattle.std.proofs.Common.{◌≡◌, ℕ, ◌+◌, ◌-◌, ◌^◌, ◌<◌, min, List, [], ◌∷◌, ◌++◌, length, inl, inr, refl, sym, ◌∙◌, ap, subst, arith, append_assoc, append-nil, length-append}
use Rattle.std.specs.declared.option.Option.TheVariants.{Some}
use Rattle.tm_seq.specs.Kind.{Kind, KindLaws, Falls, IsResume}
use Rattle.tm_seq.specs.declared.kind.Event.{Event}
use Rattle.tm_seq.specs.declared.kind.Event.TheVariants.{Begin, Reply, NotAbove, NoObject}
use Rattle.tm_seq.specs.declared.kind.Next.{Next}
use Rattle.tm_seq.specs.declared.kind.Next.TheVariants.{Ask, Done}
use Rattle.tm_model.specs.declared.entry.Entry.{Entry}
use Rattle.tm_model.specs.declared.entry.Entry.TheVariants.{Resume}
use Rattle.tm_state.specs.declared.made.Made.{Made}
use Rattle.tm_state.specs.Resuming.{Continues, Makes, IsToldAtOnce, IsHeldAbove}

module _ {V O R T : Type 0} where
  -- each ask is closer to the end of the task
  pub asks_fall :
      (kind : Kind V O R T) → KindLaws kind → (v w : V) (task after : T) (event : Event R) (u x : ℕ) (op : O) (next : Next O T R)
      → IsResume kind v task event w next → next ≡ Ask u x op after → kind.left after < kind.left task
  asks_fall kind laws v w task after event u x op next resume is =
      elim resume [
        | inl e ↦
            let does : Ask u x op after ≡ (kind.advance v task event).1 = sym is ∙ ap (λ (p : V × Next O T R). p.1) e in
            subst (λ (n : Next O T R). Falls kind.left task n) (sym does) (laws.falls v task event)
        | inr e ↦ absurd (let bad : Ask u x op after ≡ Done kind.no_memory = sym is ∙ e.1 in cc)
      ]

  -- what was made so far, up to what a `u64` holds
  pub record HasMade (front : List (Entry V O R T)) (first old : Made V O R T) : Type 0 where
    pub entries : old.entries.items ≡ first.entries.items ++ front
    pub count : min old.count (2 ^ 64 - 1) ≡ min (first.count + length front) (2 ^ 64 - 1)

  makes_more :
      (front es : List (Entry V O R T)) (first old new : Made V O R T) → HasMade front first old → Makes es old new → Makes (front ++ es) first new
  makes_more front es first old new h more =
      let long = length-append front es in
      let had = h.count in
      let have = more.count in
      record {
        entries = more.entries ∙ ap (λ l. l ++ es) h.entries ∙ append_assoc first.entries.items front es;
        count = omega (arith, long, had, have);
      }

  made_more : (front : List (Entry V O R T)) (first new : Made V O R T) → Makes front first new → HasMade front first new
  made_more front first new h = let have = h.count in record { entries = h.entries; count = omega (arith, have) }

  module _ (kind : Kind V O R T) (number : ℕ) (held : List ℕ) (id ticket : ℕ) (first_value : V) (first_task : T) (first_event : Event R) (first_made : Made V O R T) (first_entries : ℕ) where
    -- what a task has done so far: some entries, behind which it goes on from where it is
    pub record HasDone (v : V) (task : T) (event : Event R) (made : Made V O R T) (entries : ℕ) : Type 0 where
      pub front : List (Entry V O R T)
      pub makes : HasMade front first_made made
      pub count : min entries (2 ^ 64 - 1) ≡ min (first_entries + length front) (2 ^ 64 - 1)
      pub goes :
          (es : List (Entry V O R T)) (w : V) (next : Next O T R) → Continues kind number held id ticket v task event es w next
          → Continues kind number held id ticket first_value first_task first_event (front ++ es) w next

    -- all that it did
    abbrev pub Does : V → Next O T R → Made V O R T → ℕ → Type 0
    Does w next made entries =
        (es : List (Entry V O R T)) × Makes es first_made made × (entries ≡ min (first_entries + length es) (2 ^ 64 - 1))
        × Continues kind number held id ticket first_value first_task first_event es w next

    pub done_none : (task : T) → task ≡ first_task → HasDone first_value task first_event first_made first_entries
    done_none task is = record {
      front = [];
      makes = record { entries = sym (append-nil first_made.entries.items); count = let none : length {A = Entry V O R T} [] ≡ 0 = refl in omega (arith, none) };
      count = let none : length {A = Entry V O R T} [] ≡ 0 = refl in omega (arith, none);
      goes = λ es w next c. subst (λ t. Continues kind number held id ticket first_value t first_event es w next) is c;
    }

    module _ (v w : V) (task : T) (event : Event R) (made more : Made V O R T) (entries all : ℕ) (done : HasDone v task event made entries) where
      -- the task ends
      pub does_end :
          (r : R) (next : Next O T R) → IsResume kind v task event w next → next ≡ Done r → Makes (Resume id ticket event next ∷ []) made more → all ≡ min (entries + 1) (2 ^ 64 - 1)
          → Does w (Done r) more all
      does_end r next resume is makes count =
          let long = length-append done.front (Resume id ticket event next ∷ []) in
          let had = done.count in
          let lawful : IsResume kind v task event w (Done r) = subst (λ n. IsResume kind v task event w n) is resume in
          let es : List (Entry V O R T) = Resume id ticket event (Done r) ∷ [] in
          let same : done.front ++ Resume id ticket event next ∷ [] ≡ done.front ++ es = ap (λ n. done.front ++ Resume id ticket event n ∷ []) is in (
            done.front ++ es,
            subst (λ l. Makes l first_made more) same (makes_more done.front (Resume id ticket event next ∷ []) first_made made more done.makes makes),
            let n = ap length same in omega (arith, long, had, count, n),
            done.goes es w (Done r) (refl, refl, refl, lawful, refl, refl),
          )

      module _ (u x : ℕ) (op : O) (after : T) (next : Next O T R) (resume : IsResume kind v task event w next) (is : next ≡ Ask u x op after)
          (makes : Makes (Resume id ticket event next ∷ []) made more) (count : all ≡ min (entries + 1) (2 ^ 64 - 1)) where
        lawful : IsResume kind v task event w (Ask u x op after)
        lawful = subst (λ n. IsResume kind v task event w n) is resume

        abbrev entry : Entry V O R T
        entry = Resume id ticket event (Ask u x op after)

        longer : length (done.front ++ entry ∷ []) ≡ length done.front + 1
        longer = length-append done.front (entry ∷ [])

        made_is : Makes (done.front ++ entry ∷ []) first_made more
        made_is =
            subst (λ n. Makes (done.front ++ Resume id ticket event n ∷ []) first_made more) is
            (makes_more done.front (Resume id ticket event next ∷ []) first_made made more done.makes makes)

        count_is : all ≡ min (first_entries + length (done.front ++ entry ∷ [])) (2 ^ 64 - 1)
        count_is = let had = done.count in let long = longer in omega (arith, had, long, count)

        -- it asks an object that is held above
        pub does_ask : IsHeldAbove number held u x → Does w (Ask u x op after) more all
        does_ask above = (
          done.front ++ entry ∷ [],
          made_is,
          count_is,
          done.goes (entry ∷ []) w (Ask u x op after) (w, refl, refl, refl, lawful, inl (refl, refl, refl, above)),
        )

        behind :
            (told : Event R)
            → ((es : List (Entry V O R T)) (z : V) (last : Next O T R) → Continues kind number held id ticket w after told es z last
            → Continues kind number held id ticket v task event (entry ∷ es) z last)
            → HasDone w after told more all
        behind told on = record {
          front = done.front ++ entry ∷ [];
          makes = made_more (done.front ++ entry ∷ []) first_made more made_is;
          count = let is = count_is in omega (arith, is);
          goes = λ es z last c.
              subst (λ l. Continues kind number held id ticket first_value first_task first_event l z last) (sym (append_assoc done.front (entry ∷ []) es))
              (done.goes (entry ∷ es) z last (on es z last c));
        }

        -- it is told at once that it does not
        pub done_more : (told : Event R) → IsToldAtOnce number held u x (Some told) → HasDone w after told more all
        done_more Begin at = absurd at
        done_more (Reply r) at = absurd at
        done_more NotAbove at = behind NotAbove (λ es z last c. (w, refl, refl, refl, lawful, inr (inl (at, c))))
        done_more NoObject at = behind NoObject (λ es z last c. (w, refl, refl, refl, lawful, inr (inr (at.0, at.1, c))))
