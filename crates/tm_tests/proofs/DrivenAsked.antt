-- What the places of the tests ask is orderly.
use Rattle.std.proofs.Common.{◌≡◌, ℕ, ◌<◌, true, false, List, [], ◌∷◌, ◌++◌, refl, sym, ◌∙◌, ap, subst, arith}
use Rattle.tm_seq.specs.declared.counter.Counter.{Counter}
use Rattle.tm_seq.specs.declared.counter.CounterOp.{CounterOp}
use Rattle.tm_seq.specs.declared.counter.CounterOp.TheVariants.{Add}
use Rattle.tm_seq.specs.declared.counter.CounterReply.{CounterReply}
use Rattle.tm_seq.specs.declared.counter.CounterTask.{CounterTask}
use Rattle.tm_batch.specs.declared.message.Request.{Request}
use Rattle.tm_batch.specs.declared.message.Request.TheVariants.{Entrust, Apply, Launch, Grant, Release, Reclaim, Bye}
use Rattle.tm_model.specs.State.{State}
use Rattle.tm_model.specs.Holds.{Names, gave, came, has_bye, launches_in, ended_in}
use Rattle.tm_model.specs.Orderly.{IsOrderly}
use Rattle.tm_pair.specs.Views.{ClientView, new_client}
use Rattle.tm_pair.specs.Calls.{Collects}
use Rattle.tm_pair.specs.declared.table.Collected.{Collected}
use Rattle.tm_pair.specs.declared.table.Collected.TheVariants.{Answers, Pending, Idle}
use Rattle.tm_table_tests.specs.Sample.{the_name}
use Rattle.tm_tests.specs.Driving.{counting, adds_and_releases, adds_more, entrusts_two, EndsNothing, MayBye}

module _ {V O R T : Type 0} where
  launches_and_bye : (qs : List (Request V O R T)) → launches_in (qs ++ Bye ∷ []) ≡ launches_in qs
  launches_and_bye [] = refl
  launches_and_bye (Launch n task ∷ qs) = let more = launches_and_bye qs in omega (arith, more)
  launches_and_bye (Entrust v ∷ qs) = launches_and_bye qs
  launches_and_bye (Apply n op ∷ qs) = launches_and_bye qs
  launches_and_bye (Grant n d ∷ qs) = launches_and_bye qs
  launches_and_bye (Release n ∷ qs) = launches_and_bye qs
  launches_and_bye (Reclaim n ∷ qs) = launches_and_bye qs
  launches_and_bye (Bye ∷ qs) = launches_and_bye qs

  names_nothing : (before after : List (Request V O R T)) (q : Request V O R T) (id : ℕ) → Bye ∷ [] ≡ before ++ q ∷ after → ¬ Names q id
  names_nothing [] after q id e names = let is : q ≡ Bye = cc in subst (λ (r : Request V O R T). Names r id) is names
  names_nothing (b ∷ []) after q id e names = absurd cc
  names_nothing (b ∷ d ∷ before) after q id e names = absurd cc

  pub bye_orderly : (opening : State V O R T) (view : ClientView V O R T) → MayBye view → IsOrderly opening view.place view.sent view.got (Bye ∷ [])
  bye_orderly opening view may = record {
    held = λ before after q id e names. absurd (names_nothing before after q id e names);
    grants = (tt, tt);
    launches = let more = launches_and_bye view.sent in let none = may.launches in omega (arith, more, none);
    bye = λ e. (refl, may.launches ∙ sym may.ended);
    last = λ e. let no : false ≡ true = sym may.before ∙ e in absurd cc;
    trustee = λ le. (tt, tt);
  }

module _ {V O R T : Type 0} where
  -- a look leaves a side's place, and what it sent
  pub stays :
      (old new : ClientView V O R T) (found : Collected V O R T) → Collects old new found → (new.place ≡ old.place) × (new.sent ≡ old.sent)
  stays old new (Answers a) h = (h.place, h.sent)
  stays old new Pending h = (h.place, h.sent)
  stays old new Idle h = (ap (λ view. view.place) h.kept, ap (λ view. view.sent) h.kept)

  pub ended_sum :
      (old new : ClientView V O R T) (found : Collected V O R T) → Collects old new found → old.got ≡ [] → EndsNothing found → ended_in new.got ≡ 0
  ended_sum old new (Answers a) h none ends = ap (λ l. ended_in l) (h.got ∙ ap (λ l. l ++ a ∷ []) none) ∙ ends
  ended_sum old new Pending h none ends = absurd ends
  ended_sum old new Idle h none ends = absurd ends

-- a side that asked for the sum, and found answers by which no launch ended, may say Bye
pub may_bye_then :
    {V R T : Type 0} (old new : ClientView V CounterOp R T) (found : Collected V CounterOp R T) → Collects old new found → old.sent ≡ adds_and_releases
    → old.got ≡ [] → EndsNothing found → MayBye new
may_bye_then old new found h sent none ends =
    let same : new.sent ≡ adds_and_releases = (stays old new found h).1 ∙ sent in
    record { before = ap (λ l. has_bye l) same; launches = ap (λ l. launches_in l) same; ended = ended_sum old new found h none ends }

-- so may one that sent nothing
pub may_bye_first : {V O R T : Type 0} (c : ℕ) (view : ClientView V O R T) → view ≡ new_client c → MayBye view
may_bye_first c view is = subst (λ v. MayBye v) (sym is) (record { before = refl; launches = refl; ended = refl })

sum_held :
    (before after : List (Request Counter CounterOp CounterReply CounterTask)) (q : Request Counter CounterOp CounterReply CounterTask) (id : ℕ)
    → adds_and_releases ≡ before ++ q ∷ after → Names q id → gave id before < came (counting 1) 0 [] [] id
sum_held [] after q id e names =
    let at : q ≡ Apply the_name (Add 5) = cc in let is : 1 ≡ id = subst (λ r. Names r id) at names in
    subst (λ i. gave {V = Counter} {O = CounterOp} {R = CounterReply} {T = CounterTask} i [] < came (counting 1) 0 [] [] i) is (omega arith)
sum_held (b ∷ []) after q id e names =
    let at : q ≡ Release the_name = cc in let first : b ≡ Apply the_name (Add 5) = cc in let is : 1 ≡ id = subst (λ r. Names r id) at names in
    subst (λ i. gave i (b ∷ []) < came (counting 1) 0 [] [] i) is
    (subst (λ r. gave 1 (r ∷ []) < came (counting 1) 0 [] [] 1) (sym first) (omega arith))
sum_held (b ∷ d ∷ []) after q id e names = absurd cc
sum_held (b ∷ d ∷ f ∷ before) after q id e names = absurd cc

pub sum_orderly : IsOrderly (counting 1) 0 [] [] adds_and_releases
sum_orderly = record {
  held = sum_held;
  grants = (tt, (tt, tt));
  launches = omega arith;
  bye = λ e. absurd cc;
  last = λ e. absurd cc;
  trustee = λ le. absurd (omega (arith, le));
}

two_held :
    (before after : List (Request Counter CounterOp CounterReply CounterTask)) (q : Request Counter CounterOp CounterReply CounterTask) (id : ℕ)
    → entrusts_two ≡ before ++ q ∷ after → ¬ Names q id
two_held [] after q id e names = let at : q ≡ Entrust (record { value = 1 }) = cc in subst (λ r. Names r id) at names
two_held (b ∷ []) after q id e names = let at : q ≡ Entrust (record { value = 2 }) = cc in subst (λ r. Names r id) at names
two_held (b ∷ d ∷ []) after q id e names = absurd cc
two_held (b ∷ d ∷ f ∷ before) after q id e names = absurd cc

pub two_orderly : IsOrderly (counting 1) 0 [] [] entrusts_two
two_orderly = record {
  held = λ before after q id e names. absurd (two_held before after q id e names);
  grants = (tt, (tt, tt));
  launches = omega arith;
  bye = λ e. absurd cc;
  last = λ e. absurd cc;
  trustee = λ le. absurd (omega (arith, le));
}

more_held :
    (before after : List (Request Counter CounterOp CounterReply CounterTask)) (q : Request Counter CounterOp CounterReply CounterTask) (id : ℕ)
    → adds_more ≡ before ++ q ∷ after → Names q id → gave id before < came (counting 1) 1 [] [] id
more_held [] after q id e names =
    let at : q ≡ Apply the_name (Add 7) = cc in let is : 1 ≡ id = subst (λ r. Names r id) at names in
    subst (λ i. gave {V = Counter} {O = CounterOp} {R = CounterReply} {T = CounterTask} i [] < came (counting 1) 1 [] [] i) is (omega arith)
more_held (b ∷ []) after q id e names = absurd cc
more_held (b ∷ d ∷ before) after q id e names = absurd cc

-- a trustee's place may ask to add more
pub more_orderly : IsOrderly (counting 1) 1 [] [] adds_more
more_orderly = record {
  held = more_held;
  grants = (tt, tt);
  launches = omega arith;
  bye = λ e. absurd cc;
  last = λ e. absurd cc;
  trustee = λ le. (tt, tt);
}
