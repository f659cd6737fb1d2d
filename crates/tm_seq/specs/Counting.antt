-- What a counter does.
use Rattle.std.specs.Prelude.{ℕ, ◌+◌, ◌%◌, ◌^◌, Bool, true, false}
use Rattle.tm_seq.specs.Kind.{Kind}
use Rattle.tm_seq.specs.declared.kind.Event.{Event}
use Rattle.tm_seq.specs.declared.kind.Event.TheVariants.{Begin, Reply}
use Rattle.tm_seq.specs.declared.kind.Next.{Next}
use Rattle.tm_seq.specs.declared.kind.Next.TheVariants.{Ask, Done}
use Rattle.tm_seq.specs.declared.counter.Counter.{Counter}
use Rattle.tm_seq.specs.declared.counter.CounterOp.{CounterOp}
use Rattle.tm_seq.specs.declared.counter.CounterOp.TheVariants.{Add, Read}
use Rattle.tm_seq.specs.declared.counter.CounterReply.{CounterReply}
use Rattle.tm_seq.specs.declared.counter.CounterReply.TheVariants.{Is, Refused, NoMemory}
use Rattle.tm_seq.specs.declared.counter.CounterTask.{CounterTask}
use Rattle.tm_seq.specs.declared.counter.CounterTask.TheVariants.{End, AskAt, Wait}

-- the counter and its reply, when it stands at n
abbrev counted : ℕ → Counter × CounterReply
counted n = (record { value = n }, Is n)

-- an operation of a counter
abbrev pub counter_step : Counter → CounterOp → Counter × CounterReply
counter_step v (Add by) = counted ((v.value + by) % 2 ^ 64)
counter_step v Read = counted v.value

-- what a task of a counter does next; an event that it does not await ends it
abbrev pub counter_next : Counter → CounterTask → Event CounterReply → Next CounterOp CounterTask CounterReply
counter_next v End Begin = Done (Is v.value)
counter_next v (AskAt trustee index) Begin = Ask trustee index Read Wait
counter_next v Wait (Reply reply) = Done reply
counter_next v _ _ = Done Refused

-- a task that has not asked may ask once
abbrev pub counter_left : CounterTask → ℕ
counter_left (AskAt _ _) = 1
counter_left End = 0
counter_left Wait = 0

-- whether a reply of a counter is for want of memory
abbrev pub is_no_memory : CounterReply → Bool
is_no_memory NoMemory = true
is_no_memory (Is _) = false
is_no_memory Refused = false

-- a counter as a kind
abbrev pub counter_kind : Kind Counter CounterOp CounterReply CounterTask
counter_kind = record {
  step = counter_step;
  advance = λ v task event. (v, counter_next v task event);
  left = counter_left;
  no_memory = NoMemory;
  lacks = is_no_memory;
}
