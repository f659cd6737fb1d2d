-- What the desk does.
use Rattle.std.specs.Prelude.{ℕ, ◌+◌, ◌-◌, ◌^◌, min, Bool, ◌&&◌, nat_lt, nat_le, ◌==◌, if◌then◌else◌, Option, Some, None}
use Rattle.tm_seq.specs.Kind.{Kind}
use Rattle.tm_seq.specs.declared.kind.Event.{Event}
use Rattle.tm_seq.specs.declared.kind.Event.TheVariants.{Begin, Reply, NotAbove, NoObject}
use Rattle.tm_seq.specs.declared.kind.Next.{Next}
use Rattle.tm_seq.specs.declared.kind.Next.TheVariants.{Ask, Done}
use Rattle.tm_batch.specs.declared.limits.TheConstants.{FEWEST_TRUSTEES}
use Rattle.mc_item.specs.declared.limits.TheConstants.{CLASSES}
use Rattle.mc_model.specs.declared.reply.ShardReply.{ShardReply}
use Rattle.mc_model.specs.declared.reply.ShardReply.TheVariants as reply
use Rattle.mc_model.specs.Showing.{is_no_memory}
use Rattle.mc_shard.specs.declared.op.ShardOp.{ShardOp}
use Rattle.mc_shard.specs.declared.op.ShardOp.TheVariants as op
use Rattle.mc_route.specs.declared.desk.Desk.{Desk}
use Rattle.mc_route.specs.declared.desk.DeskWork.{DeskWork}
use Rattle.mc_route.specs.declared.desk.DeskWork.TheVariants.{Flush, Count}
use Rattle.mc_route.specs.declared.desk.DeskTask.{DeskTask}
use Rattle.mc_route.specs.Places.{trustee_of, index_of}

-- a count tells how many launches were finished, and no other operation is the desk's
abbrev pub desk_step : Desk → ShardOp → Desk × ShardReply
desk_step v (op.Count moment) = (v, reply.Number v.done)
desk_step v _ = (v, reply.Missing)

-- ---- a task

-- what each class is asked
abbrev pub asked_for : DeskWork → ShardOp
asked_for (Flush delay moment) = op.Flush delay moment
asked_for (Count moment) = op.Count moment

-- what the work ends with, by the sums over all classes
abbrev pub told_by : DeskWork → ℕ → ℕ → ShardReply
told_by (Flush delay moment) held stored = reply.Flushed
told_by (Count moment) held stored = reply.Counts held stored

-- a sum that stands still at 2 ^ 64 - 1
abbrev pub sum_up : ℕ → ℕ → ℕ
sum_up sum more = min (sum + more) (2 ^ 64 - 1)

-- a task before any class is asked
abbrev pub first_task : DeskWork → ℕ → DeskTask
first_task work trustees = record { work = work; trustees = trustees; class = 0; held = 0; stored = 0 }

-- the task once the next class is asked
abbrev pub with_asked : DeskTask → DeskTask
with_asked task = record {
  work = task.work;
  trustees = task.trustees;
  class = task.class + 1;
  held = task.held;
  stored = task.stored;
}

-- the task with the counts of one class more
abbrev pub with_counts : DeskTask → ℕ → ℕ → DeskTask
with_counts task held stored = record {
  work = task.work;
  trustees = task.trustees;
  class = task.class;
  held = sum_up task.held held;
  stored = sum_up task.stored stored;
}

-- the task with a reply that is its work's own, and none with another
abbrev pub with_reply : DeskTask → DeskWork → ShardReply → Option DeskTask
with_reply task (Flush delay moment) reply.Flushed = Some task
with_reply task (Count moment) (reply.Counts held stored) = Some (with_counts task held stored)
with_reply task _ _ = None

-- whether there are trustees to ask, and no more was asked than all classes
abbrev pub is_lawful : DeskTask → Bool
is_lawful task = nat_le FEWEST_TRUSTEES task.trustees && nat_le task.class CLASSES

abbrev pub awaits_begin : DeskTask → Bool
awaits_begin task = is_lawful task && task.class == 0

abbrev pub awaits_reply : DeskTask → Bool
awaits_reply task = is_lawful task && nat_lt 0 task.class

-- ---- what it does next

-- what the desk is, and what a task on it does next
abbrev pub DeskNext : Type 0
DeskNext = Desk × Next ShardOp DeskTask ShardReply

-- the next class is asked
abbrev pub asks_next : DeskTask → Next ShardOp DeskTask ShardReply
asks_next task = Ask (trustee_of task.class task.trustees) (index_of task.class task.trustees) (asked_for task.work) (with_asked task)

-- one more launch is finished
abbrev pub with_done : Desk → Desk
with_done v = record { done = sum_up v.done 1 }

-- the next class is asked, or after the last one the work is finished
abbrev pub goes_on : Desk → DeskTask → DeskNext
goes_on v task =
    if nat_lt task.class CLASSES then (v, asks_next task)
    else (with_done v, Done (told_by task.work task.held task.stored))

-- an event that was not awaited ends the work
abbrev pub gives_up : Desk → DeskNext
gives_up v = (v, Done reply.Missing)

-- the work goes on with this task, or there is none to go on with
abbrev pub goes_on_with : Desk → Option DeskTask → DeskNext
goes_on_with v None = gives_up v
goes_on_with v (Some task) = goes_on v task

-- a task is told an event; a reply for want of memory ends it with that
abbrev pub desk_told : Desk → DeskTask → Event ShardReply → DeskNext
desk_told v task Begin = if awaits_begin task then goes_on v task else gives_up v
desk_told v task (Reply r) =
    if is_no_memory r then (v, Done reply.NoMemory)
    else if awaits_reply task then goes_on_with v (with_reply task task.work r)
    else gives_up v
desk_told v task NotAbove = gives_up v
desk_told v task NoObject = gives_up v

-- how many classes are still to be asked
abbrev pub desk_left : DeskTask → ℕ
desk_left task = CLASSES - task.class

-- the desk as a kind
abbrev pub desk_kind : Kind Desk ShardOp ShardReply DeskTask
desk_kind = record {
  step = desk_step;
  advance = desk_told;
  left = desk_left;
  no_memory = reply.NoMemory;
  lacks = is_no_memory;
}
