-- A sum of two lawful kinds is a lawful kind. These are proofs: they stand in specs/ since an `impl` cites its laws from there alone.
use Rattle.std.specs.Prelude.{◌≡◌, ℕ, refl}
use Rattle.std.proofs.Common.{ap, ◌∙◌}
use Rattle.tm_seq.specs.Kind.{Kind, KindLaws, Falls}
use Rattle.tm_seq.specs.Summing.{next_as, sum_advance, sum_kind, sum_left, sum_step}
use Rattle.tm_seq.specs.declared.kind.Event.{Event}
use Rattle.tm_seq.specs.declared.kind.Next.{Next}
use Rattle.tm_seq.specs.declared.kind.Next.TheVariants.{Ask, Done}
use Rattle.tm_seq.specs.declared.sum.Sum.{Sum}
use Rattle.tm_seq.specs.declared.sum.Sum.TheVariants.{First, Second}

-- an end stays an end when the next task is read as one of the sum
next_as_done : {O R T W : Type 0} (f : T → W) (n : Next O T R) (r : R) → next_as f n ≡ Done r → n ≡ Done r
next_as_done f (Ask trustee index op task) r e = cc
next_as_done f (Done reply) r e = cc

-- and so does that a task falls
next_as_falls :
    {O R T W : Type 0} (f : T → W) (left : T → ℕ) (left' : W → ℕ) (task : T) (n : Next O T R)
    → ((t : T) → left' (f t) ≡ left t) → Falls left task n → Falls left' (f task) (next_as f n)
next_as_falls f left left' task (Ask trustee index op after) same h = rw (same after, same task) h
next_as_falls f left left' task (Done reply) same h = tt

module _ {A B O R T U : Type 0} (a : Kind A O R T) (b : Kind B O R U) (other : R) where
  step_kept :
      KindLaws a → KindLaws b → a.no_memory ≡ b.no_memory → (v : Sum A B) (op : O)
      → (sum_step a.step b.step v op).1 ≡ a.no_memory → (sum_step a.step b.step v op).0 ≡ v
  step_kept p q e (First v) op h = ap First (p.step_kept v op h)
  step_kept p q e (Second v) op h = ap Second (q.step_kept v op (h ∙ e))

  advance_kept :
      KindLaws a → KindLaws b → a.no_memory ≡ b.no_memory → (v : Sum A B) (task : Sum T U) (event : Event R)
      → (sum_advance a.advance b.advance other v task event).1 ≡ Done a.no_memory
      → (sum_advance a.advance b.advance other v task event).0 ≡ v
  advance_kept p q e (First v) (First task) event h = ap First (p.advance_kept v task event (next_as_done First _ _ h))
  advance_kept p q e (Second v) (Second task) event h =
      ap Second (q.advance_kept v task event (next_as_done Second _ _ (h ∙ ap (λ r. Done r) e)))
  advance_kept p q e (First v) (Second task) event h = refl
  advance_kept p q e (Second v) (First task) event h = refl

  falls :
      KindLaws a → KindLaws b → (v : Sum A B) (task : Sum T U) (event : Event R)
      → Falls (sum_left a.left b.left) task (sum_advance a.advance b.advance other v task event).1
  falls p q (First v) (First task) event = next_as_falls First a.left (sum_left a.left b.left) task _ (λ t. refl) (p.falls v task event)
  falls p q (Second v) (Second task) event =
      next_as_falls Second b.left (sum_left a.left b.left) task _ (λ t. refl) (q.falls v task event)
  falls p q (First v) (Second task) event = tt
  falls p q (Second v) (First task) event = tt

-- the two sides are lawful and share their reply for want of memory: so the sum is lawful
pub sum_laws :
    {A B O R T U : Type 0} {a : Kind A O R T} {b : Kind B O R U} {other : R}
    → KindLaws a → KindLaws b → a.no_memory ≡ b.no_memory → KindLaws (sum_kind a b other)
sum_laws {a} {b} {other} p q e = record {
  lacks_is = p.lacks_is;
  step_kept = step_kept a b other p q e;
  advance_kept = advance_kept a b other p q e;
  falls = falls a b other p q;
}
