-- A runtime with one object may be built, and what may be asked and answered at its first trustee.
use Rattle.std.proofs.Common.{◌≡◌, ℕ, ◌-◌, ◌<◌, ◌≤◌, ◌==◌, List, [], ◌∷◌, ◌++◌, length, take, inl, inr, refl, sym, ◌∙◌, ap, subst, arith}
use Rattle.std.specs.List.{IsDistinct}
use Rattle.std.proofs.lemmas.List.Sums.{length-filter, count_by-le-length}
use Rattle.std.proofs.Math.Seq.{take-nil}
use Rattle.tm_seq.specs.Kind.{Kind}
use Rattle.tm_batch.specs.declared.message.Name.{Name}
use Rattle.tm_batch.specs.declared.message.Request.{Request}
use Rattle.tm_batch.specs.declared.message.Request.TheVariants.{Apply, Grant}
use Rattle.tm_batch.specs.declared.message.Answer.{Answer}
use Rattle.tm_batch.specs.declared.message.Answer.TheVariants.{Replied, Granted}
use Rattle.tm_batch.specs.declared.message.Completion.{Completion}
use Rattle.tm_batch.specs.declared.message.AnswerBatch.{AnswerBatch}
use Rattle.tm_model.specs.declared.entry.Entry.TheVariants.{Sent}
use Rattle.tm_model.specs.Opening.{is_named, IsBuildable}
use Rattle.tm_model.specs.Holds.{Names, gave, came}
use Rattle.tm_model.specs.Orderly.{IsOrderly}
use Rattle.tm_model.specs.Legal.{IsLegal}
use Rattle.tm_model.specs.Batches.{batches}
use Rattle.tm_model.specs.Entries.{added}
use Rattle.tm_model.specs.Lists.{EndsIn}
use Rattle.tm_model.specs.Answering.{MayGrow}
use Rattle.tm_table_tests.specs.Sample.{sample_config, sample_first, sample, the_name, two_asked, one_granted, granted_log, less_kind}

module _ {V : Type 0} where
  pub sample_buildable : (v : V) → IsBuildable sample_config (sample_first v)
  unfolding IsDistinct
  sample_buildable v = record {
    clients = (omega arith, omega arith);
    trustees = (omega arith, omega arith);
    objects = (omega arith, omega arith);
    trusts = (omega arith, omega arith);
    last_id = omega arith;
    trustee = (omega arith, tt);
    held = ((λ e. absurd cc), tt);
    once = ((tt, tt), tt);
    below = ((omega arith, tt), tt);
    room = λ t. let n = length-filter (λ f. f.trustee == t) (sample_first v) in let most = count_by-le-length (λ f. f.trustee == t) (sample_first v) in omega (arith, n, most);
    ids = λ t. let n = length-filter (λ f. f.trustee == t) (sample_first v) in let most = count_by-le-length (λ f. f.trustee == t) (sample_first v) in omega (arith, n, most);
    named = λ c lt. let most = count_by-le-length (is_named c) (sample_first v) in omega (arith, most);
  }

-- an answer batch of these parts
batch_of :
    {V O R T : Type 0} (front : ℕ) (answers : List (Answer V O R T)) (gifts : List Name) (completions : List (Completion V O R T))
    (a : AnswerBatch V O R T)
    → a.front ≡ front → a.answers.items ≡ answers → a.gifts.items ≡ gifts → a.completions.items ≡ completions
    → record { front = front; answers = record { items = answers }; gifts = record { items = gifts }; completions = record { items = completions } } ≡ a
batch_of front answers gifts completions a f w g r =
    ap (λ n. record { front = n; answers = record { items = answers }; gifts = record { items = gifts }; completions = record { items = completions } }) (sym f)
    ∙ ap (λ l. record { front = a.front; answers = record { items = l }; gifts = record { items = gifts }; completions = record { items = completions } }) (sym w)
    ∙ ap (λ l. record { front = a.front; answers = a.answers; gifts = record { items = l }; completions = record { items = completions } }) (sym g)
    ∙ ap (λ l. record { front = a.front; answers = a.answers; gifts = a.gifts; completions = record { items = l } }) (sym r)

module _ {V : Type 0} (v : V) where
  two_held :
      (before after : List (Request V ℕ ℕ ℕ)) (q : Request V ℕ ℕ ℕ) (id : ℕ) → two_asked ≡ before ++ q ∷ after → Names q id
      → gave id before < came (sample {V = V} {O = ℕ} {R = ℕ} {T = ℕ} v) 0 [] [] id
  two_held [] after q id e names =
      let at : q ≡ Apply the_name 5 = cc in let is : 1 ≡ id = subst (λ r. Names r id) at names in
      subst (λ i. gave {V = V} {O = ℕ} {R = ℕ} {T = ℕ} i [] < came (sample {V = V} {O = ℕ} {R = ℕ} {T = ℕ} v) 0 [] [] i) is (omega arith)
  two_held (b ∷ []) after q id e names =
      let at : q ≡ Apply the_name 6 = cc in let first : b ≡ Apply the_name 5 = cc in let is : 1 ≡ id = subst (λ r. Names r id) at names in
      subst (λ i. gave i (b ∷ []) < came (sample {V = V} {O = ℕ} {R = ℕ} {T = ℕ} v) 0 [] [] i) is
      (subst (λ r. gave 1 (r ∷ []) < came (sample {V = V} {O = ℕ} {R = ℕ} {T = ℕ} v) 0 [] [] 1) (sym first) (omega arith))
  two_held (b ∷ d ∷ []) after q id e names = absurd cc
  two_held (b ∷ d ∷ f ∷ before) after q id e names = absurd cc

  pub two_orderly : IsOrderly (sample {V = V} {O = ℕ} {R = ℕ} {T = ℕ} v) 0 [] [] two_asked
  two_orderly = record {
    held = two_held;
    grants = (tt, (tt, tt));
    launches = omega arith;
    bye = λ e. absurd cc;
    last = λ e. absurd cc;
    trustee = λ le. (tt, (tt, tt));
  }

module _ {V : Type 0} (by : V → ℕ) (v : V) where
  two_may_come :
      (room : ℕ) → by v ≡ 4 → room ≤ 16 → IsLegal (less_kind by) (sample v) (added [] [] 0 two_asked room (Replied 1 ∷ Replied 2 ∷ []))
  two_may_come room four most = (
    (omega arith, refl, (omega arith, inl (ap (λ n. (v, 5 - n)) (sym four)))),
    ((omega arith, refl, (omega arith, inl (ap (λ n. (v, 6 - n)) (sym four)))), ((omega arith, most), tt)),
  )

  pub two_grow :
      (room : ℕ) (a : AnswerBatch V ℕ ℕ ℕ) → by v ≡ 4 → room ≤ 16 → a.front ≡ 3 → a.answers.items ≡ Replied 1 ∷ Replied 2 ∷ []
      → a.gifts.items ≡ [] → a.completions.items ≡ [] → MayGrow (less_kind by) (sample v) [] [] 0 two_asked room a
  two_grow room a four most front answers gifts completions =
      let log = added [] [] 0 two_asked room (Replied 1 ∷ Replied 2 ∷ []) in
      let last : batches (less_kind by) (sample v) 0 log ≡ a ∷ [] =
      ap (λ x. x ∷ []) (batch_of 3 (Replied 1 ∷ Replied 2 ∷ []) (take room []) [] a front answers (gifts ∙ sym (take-nil room)) completions) in
      record {
        only = tt;
        as_many = ap (λ l. length l) answers;
        is_legal = subst (λ l. IsLegal (less_kind by) (sample v) (added [] [] 0 two_asked room l)) (sym answers) (two_may_come room four most);
        last = subst (λ l. EndsIn (batches (less_kind by) (sample v) 0 (added [] [] 0 two_asked room l)) a) (sym answers) ([], last);
      }

module _ {V O R T : Type 0} (v : V) where
  grant_held :
      (before after : List (Request V O R T)) (q : Request V O R T) (id : ℕ) → one_granted ≡ before ++ q ∷ after → Names q id
      → gave id before < came (sample {V = V} {O = O} {R = R} {T = T} v) 0 [] [] id
  grant_held [] after q id e names =
      let at : q ≡ Grant the_name 1 = cc in let is : 1 ≡ id = subst (λ r. Names r id) at names in
      subst (λ i. gave {V = V} {O = O} {R = R} {T = T} i [] < came (sample {V = V} {O = O} {R = R} {T = T} v) 0 [] [] i) is (omega arith)
  grant_held (b ∷ []) after q id e names = absurd cc
  grant_held (b ∷ d ∷ before) after q id e names = absurd cc

  pub grant_orderly : IsOrderly (sample {V = V} {O = O} {R = R} {T = T} v) 0 [] [] one_granted
  grant_orderly = record {
    held = grant_held;
    grants = (omega arith, tt);
    launches = omega arith;
    bye = λ e. absurd cc;
    last = λ e. absurd cc;
    trustee = λ le. absurd (omega (arith, le));
  }

module _ {V O R T : Type 0} (kind : Kind V O R T) (v : V) where
  granted_may_come : (room : ℕ) → room ≤ 16 → IsLegal kind (sample v) (granted_log room)
  granted_may_come room most =
      ((omega arith, refl, (omega arith, omega arith, (refl, λ full. elim full [ inl le ↦ omega (arith, le) | inr le ↦ omega (arith, le) ]))), ((omega arith, most), tt))

  pub grant_grow :
      (room : ℕ) (a : AnswerBatch V O R T) → room ≤ 16 → a.front ≡ 2 → a.answers.items ≡ Granted ∷ []
      → a.gifts.items ≡ [] → a.completions.items ≡ [] → MayGrow kind (sample v) [] [] 0 one_granted room a
  grant_grow room a most front answers gifts completions =
      let last : batches kind (sample v) 0 (granted_log room) ≡ a ∷ [] =
      ap (λ x. x ∷ []) (batch_of 2 (Granted ∷ []) (take room []) [] a front answers (gifts ∙ sym (take-nil room)) completions) in
      record {
        only = tt;
        as_many = ap (λ l. length l) answers;
        is_legal = subst (λ l. IsLegal kind (sample v) (added [] [] 0 one_granted room l)) (sym answers) (granted_may_come room most);
        last = subst (λ l. EndsIn (batches kind (sample v) 0 (added [] [] 0 one_granted room l)) a) (sym answers) ([], last);
      }

  pub gift_grow :
      (room : ℕ) (a : AnswerBatch V O R T) → room ≤ 16 → a.front ≡ 3 → a.answers.items ≡ []
      → a.gifts.items ≡ the_name ∷ [] → a.completions.items ≡ [] → MayGrow kind (sample v) (granted_log room) [] 1 [] 16 a
  gift_grow room a most front answers gifts completions =
      let last : batches kind (sample v) 1 (granted_log room ++ Sent 1 16 ∷ []) ≡ a ∷ [] =
      ap (λ x. x ∷ []) (batch_of 3 [] (the_name ∷ []) [] a front answers gifts completions) in
      record {
        only = tt;
        as_many = ap (λ l. length l) answers;
        is_legal = let (first, left) = granted_may_come room most in (first, (left.0, ((omega arith, omega arith), tt)));
        last = ([], last);
      }
