-- What a kind of object does, and which operations and resumes are lawful.
use Rattle.std.specs.Prelude.{◌≡◌, ℕ, ◌<◌, ◌⊎◌, ◌↔◌, Bool, IsTrue}
use Rattle.tm_seq.specs.declared.kind.Event.{Event}
use Rattle.tm_seq.specs.declared.kind.Next.{Next}
use Rattle.tm_seq.specs.declared.kind.Next.TheVariants.{Ask, Done}

-- a kind with values V, operations O, replies R and tasks T
pub record Kind (V O R T : Type 0) : Type 0 where
  -- the value after an operation, and its reply
  pub step : V → O → V × R
  -- the value after launched work was told an event, and what the work does next
  pub advance : V → T → Event R → V × Next O T R
  -- how many more times a task may ask at most
  pub left : T → ℕ
  -- the reply for want of memory
  pub no_memory : R
  -- whether a reply is `no_memory`
  pub lacks : R → Bool

-- the task of an ask is closer to its end than the task that was resumed
abbrev pub Falls : {O R T : Type 0} → (T → ℕ) → T → Next O T R → Type 0
Falls left task (Ask _ _ _ after) = left after < left task
Falls left task (Done _) = Unit {0}

module _ {V O R T : Type 0} where
  -- an operation from `old` to `new` that gave `reply` is lawful: it is the step, or nothing for want of memory
  abbrev pub IsRun : Kind V O R T → V → O → V → R → Type 0
  IsRun kind old op new reply =
      ((new, reply) ≡ kind.step old op) ⊎ ((new ≡ old) × (reply ≡ kind.no_memory))

  -- a resume from `old` to `new` that gave `next` is lawful: it is the advance, or an end for want of memory
  abbrev pub IsResume : Kind V O R T → V → T → Event R → V → Next O T R → Type 0
  IsResume kind old task event new next =
      ((new, next) ≡ kind.advance old task event) ⊎ ((new ≡ old) × (next ≡ Done kind.no_memory))

  -- a reply for want of memory leaves the value, and each ask is closer to the task's end
  pub record KindLaws (kind : Kind V O R T) : Type 0 where
    pub lacks_is : (r : R) → IsTrue (kind.lacks r) ↔ (r ≡ kind.no_memory)
    pub step_kept : (v : V) (op : O) → (kind.step v op).1 ≡ kind.no_memory → (kind.step v op).0 ≡ v
    pub advance_kept :
        (v : V) (task : T) (event : Event R) → (kind.advance v task event).1 ≡ Done kind.no_memory → (kind.advance v task event).0 ≡ v
    pub falls : (v : V) (task : T) (event : Event R) → Falls kind.left task (kind.advance v task event).1
