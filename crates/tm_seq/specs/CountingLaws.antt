-- A counter is a lawful kind. These are proofs: they stand in specs/ since an `impl` cites its laws from there alone.
use Rattle.std.specs.Prelude.{◌≡◌, ◌↔◌, IsTrue, refl}
use Rattle.std.proofs.Common.{arith}
use Rattle.tm_seq.specs.Kind.{KindLaws, Falls}
use Rattle.tm_seq.specs.Counting.{counter_kind, counter_left, counter_next, counter_step, is_no_memory}
use Rattle.tm_seq.specs.declared.kind.Event.{Event}
use Rattle.tm_seq.specs.declared.kind.Event.TheVariants.{Begin, Reply, NotAbove, NoObject}
use Rattle.tm_seq.specs.declared.counter.Counter.{Counter}
use Rattle.tm_seq.specs.declared.counter.CounterOp.{CounterOp}
use Rattle.tm_seq.specs.declared.counter.CounterOp.TheVariants.{Add, Read}
use Rattle.tm_seq.specs.declared.counter.CounterReply.{CounterReply}
use Rattle.tm_seq.specs.declared.counter.CounterReply.TheVariants.{Is, Refused, NoMemory}
use Rattle.tm_seq.specs.declared.counter.CounterTask.{CounterTask}
use Rattle.tm_seq.specs.declared.counter.CounterTask.TheVariants.{End, AskAt, Wait}

lacks_is : (r : CounterReply) → IsTrue (is_no_memory r) ↔ (r ≡ NoMemory)
lacks_is NoMemory = (λ _. refl, λ _. refl)
lacks_is (Is n) = (λ h. cc, λ e. cc)
lacks_is Refused = (λ h. cc, λ e. cc)

kept : (v : Counter) (op : CounterOp) → (counter_step v op).1 ≡ NoMemory → (counter_step v op).0 ≡ v
kept v (Add by) e = cc
kept v Read e = refl

falls : (v : Counter) (task : CounterTask) (event : Event CounterReply) → Falls counter_left task (counter_next v task event)
falls v End Begin = tt
falls v End (Reply _) = tt
falls v End NotAbove = tt
falls v End NoObject = tt
falls v (AskAt _ _) Begin = omega arith
falls v (AskAt _ _) (Reply _) = tt
falls v (AskAt _ _) NotAbove = tt
falls v (AskAt _ _) NoObject = tt
falls v Wait Begin = tt
falls v Wait (Reply _) = tt
falls v Wait NotAbove = tt
falls v Wait NoObject = tt

pub counter_laws : KindLaws counter_kind
counter_laws = record {
  lacks_is = lacks_is;
  step_kept = kept;
  advance_kept = λ v task event e. refl;
  falls = falls;
}
