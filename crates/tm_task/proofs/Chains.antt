-- Deeds one after another.
use Rattle.std.proofs.Common.{◌≡◌, ℕ, zero, suc, ◌+◌, Bool, true, false, List, [], ◌∷◌, ◌++◌, length, map, refl, sym, ap, subst, arith}
use Rattle.std.specs.Prelude.{◌||◌}
use Rattle.tm_seq.specs.Kind.{Kind}
use Rattle.tm_pair.specs.Theory.{Theory}
use Rattle.tm_client.specs.declared.answers.Turn.{Turn}
use Rattle.tm_client.specs.declared.answers.Turn.TheVariants.{Sent, Pending, Got, Idle}
use Rattle.tm_client.specs.declared.trust.Trust.{Trust}
use Rattle.tm_task.specs.declared.deed.Deed.{Deed}
use Rattle.tm_task.specs.declared.deed.Deed.TheVariants.{Added, Started, Asked, Resumed, Turned}
use Rattle.tm_task.specs.declared.stage.Stage.{Stage}
use Rattle.tm_task.specs.Going.{is_some}
use Rattle.tm_task.specs.Progressing.{moves_in, turns_in, went_in, all_pending}
use Rattle.tm_task.specs.Rules.{Rules}
use Rattle.tm_task.specs.Runs.{World, Does, Runs}
use Rattle.tm_task.specs.Stages.{Goes}

module _ {V T U O R K : Type 0} where
  pub moves_append : (xs ys : List (Deed V T U O R K)) → moves_in (xs ++ ys) ≡ moves_in xs + moves_in ys
  moves_append [] ys = omega arith
  moves_append (Added task ∷ xs) ys = moves_append xs ys
  moves_append (Started n move ∷ xs) ys = let more = moves_append xs ys in omega (arith, more)
  moves_append (Asked n i op ∷ xs) ys = moves_append xs ys
  moves_append (Resumed n got move ∷ xs) ys = let more = moves_append xs ys in omega (arith, more)
  moves_append (Turned t turn ∷ xs) ys = moves_append xs ys

  pub turns_append : (xs ys : List (Deed V T U O R K)) → turns_in (xs ++ ys) ≡ turns_in xs ++ turns_in ys
  turns_append [] ys = refl
  turns_append (Added task ∷ xs) ys = turns_append xs ys
  turns_append (Started n move ∷ xs) ys = turns_append xs ys
  turns_append (Asked n i op ∷ xs) ys = turns_append xs ys
  turns_append (Resumed n got move ∷ xs) ys = turns_append xs ys
  turns_append (Turned t turn ∷ xs) ys = ap (λ turns. (t, turn) ∷ turns) (turns_append xs ys)

pub went_append : (xs ys : List (ℕ × Turn)) → went_in (xs ++ ys) ≡ went_in xs + went_in ys
went_append [] ys = omega arith
went_append ((t, Sent n) ∷ xs) ys = let more = went_append xs ys in omega (arith, more)
went_append ((t, Got n) ∷ xs) ys = let more = went_append xs ys in omega (arith, more)
went_append ((t, Pending) ∷ xs) ys = went_append xs ys
went_append ((t, Idle) ∷ xs) ys = went_append xs ys

-- a sum is more than 0 where a part is
pub some_of_two : (m n : ℕ) → is_some (m + n) ≡ (is_some m || is_some n)
some_of_two zero n = let e : 0 + n ≡ n = omega arith in ap is_some e
some_of_two (suc m) n = let e : suc m + n ≡ suc (m + n) = omega arith in ap is_some e

pub or_none : (a b : Bool) → (a || b) ≡ false → (a ≡ false) × (b ≡ false)
or_none true b e = absurd cc
or_none false b e = (refl, e)

pub pending_append : (xs ys : List ℕ) → all_pending (xs ++ ys) ≡ all_pending xs ++ all_pending ys
pending_append [] ys = refl
pending_append (x ∷ xs) ys = ap (λ turns. (x, Pending) ∷ turns) (pending_append xs ys)

pub firsts_append : (xs ys : List (ℕ × Turn)) → map (λ turn. turn.0) (xs ++ ys) ≡ map (λ turn. turn.0) xs ++ map (λ turn. turn.0) ys
firsts_append [] ys = refl
firsts_append (x ∷ xs) ys = ap (λ ts. x.0 ∷ ts) (firsts_append xs ys)

module _ {V T U O R K : Type 0} (rules : Rules V T U O R K) (count : ℕ) where
  pub goes_then : (xs ys : List (Deed V T U O R K)) (old mid new : List (Stage V T U O R K)) → Goes rules count xs old mid → Goes rules count ys mid new
      → Goes rules count (xs ++ ys) old new
  unfolding Goes
  goes_then [] ys old mid new same after = subst (λ s. Goes rules count ys s new) same after
  goes_then (d ∷ xs) ys old mid new (first, step, rest) after = (first, step, goes_then xs ys first mid new rest after)

module _ {V T U O R K D Table Owner : Type 0} (theory : Theory V O R K Table D Owner) (kind : Kind V O R K) (rules : Rules V T U O R K)
    (trusts : List Trust) where
  pub runs_then : (xs ys : List (Deed V T U O R K)) (was mid now : World V T U O R K D Table) → Runs theory kind rules trusts xs was mid
      → Runs theory kind rules trusts ys mid now → Runs theory kind rules trusts (xs ++ ys) was now
  unfolding Runs
  runs_then [] ys was mid now same after = subst (λ w. Runs theory kind rules trusts ys w now) same after
  runs_then (d ∷ xs) ys was mid now (first, does, rest) after = (first, does, runs_then xs ys first mid now rest after)

  pub runs_none : (w : World V T U O R K D Table) → Runs theory kind rules trusts [] w w
  unfolding Runs
  runs_none w = refl

  pub runs_one : (d : Deed V T U O R K) (was now : World V T U O R K D Table) → Does theory kind rules trusts d was now
      → Runs theory kind rules trusts (d ∷ []) was now
  unfolding Runs
  runs_one d was now does = (now, does, refl)

  -- what a run makes of the tasks
  pub runs_goes : (deeds : List (Deed V T U O R K)) (was now : World V T U O R K D Table) → Runs theory kind rules trusts deeds was now
      → Goes rules (length trusts) deeds was.stages now.stages
  unfolding Runs Goes
  runs_goes [] was now same = ap (λ w. w.stages) same
  runs_goes (d ∷ deeds) was now (mid, does, rest) = (mid.stages, does.steps, runs_goes deeds mid now rest)

  -- what each deed keeps a run keeps
  pub runs_keep : (P : World V T U O R K D Table → Type 0)
      → ((d : Deed V T U O R K) (was now : World V T U O R K D Table) → Does theory kind rules trusts d was now → P was → P now)
      → (deeds : List (Deed V T U O R K)) (was now : World V T U O R K D Table) → Runs theory kind rules trusts deeds was now → P was → P now
  unfolding Runs
  runs_keep P keeps [] was now same p = subst P (sym same) p
  runs_keep P keeps (d ∷ deeds) was now (mid, does, rest) p = runs_keep P keeps deeds mid now rest (keeps d was mid does p)
