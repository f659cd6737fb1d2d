-- The desk is a lawful kind. These are proofs: they stand in specs/ since an `impl` cites its laws from there alone.
use Rattle.std.specs.Prelude.{◌≡◌, ℕ, Bool, true, false, cond, nat_lt, Option, Some, None, refl}
use Rattle.std.proofs.Common.{◌<◌, arith, ap, sym}
use Rattle.std.proofs.lemmas.Bool.{ltb-true}
use Rattle.tm_seq.specs.Kind.{KindLaws, Falls}
use Rattle.tm_seq.specs.declared.kind.Event.{Event}
use Rattle.tm_seq.specs.declared.kind.Event.TheVariants.{Begin, Reply, NotAbove, NoObject}
use Rattle.tm_seq.specs.declared.kind.Next.TheVariants.{Done}
use Rattle.mc_item.specs.declared.limits.TheConstants.{CLASSES}
use Rattle.mc_model.specs.declared.reply.ShardReply.{ShardReply}
use Rattle.mc_model.specs.declared.reply.ShardReply.TheVariants as reply
use Rattle.mc_model.specs.Showing.{is_no_memory}
use Rattle.mc_shard.specs.declared.op.ShardOp.{ShardOp}
use Rattle.mc_shard.specs.declared.op.ShardOp.TheVariants as op
use Rattle.mc_shard.specs.Laws.{shard_laws}
use Rattle.mc_route.specs.declared.desk.Desk.{Desk}
use Rattle.mc_route.specs.declared.desk.DeskWork.{DeskWork}
use Rattle.mc_route.specs.declared.desk.DeskWork.TheVariants.{Flush, Count}
use Rattle.mc_route.specs.declared.desk.DeskTask.{DeskTask}
use Rattle.mc_route.specs.Desks.{DeskNext, desk_kind, desk_left, desk_step, desk_told, goes_on, goes_on_with, told_by, with_counts, with_done, with_reply, awaits_begin, awaits_reply}

step_kept : (v : Desk) (o : ShardOp) → (desk_step v o).1 ≡ reply.NoMemory → (desk_step v o).0 ≡ v
step_kept v (op.Count moment) e = refl
step_kept v _ e = refl

-- ---- an end for want of memory leaves the desk

-- where it is the end for want of memory, the desk is as before
Keeps : Desk → DeskNext → Type 0
Keeps v n = n.1 ≡ Done reply.NoMemory → n.0 ≡ v

keeps_either : (v : Desk) (b : Bool) (x y : DeskNext) → Keeps v x → Keeps v y → Keeps v (cond b x y)
keeps_either v true x y h g = h
keeps_either v false x y h g = g

keeps_finished : (v : Desk) (work : DeskWork) (held stored : ℕ) → Keeps v (with_done v, Done (told_by work held stored))
unfolding Keeps
keeps_finished v (Flush delay moment) held stored = λ e. absurd cc
keeps_finished v (Count moment) held stored = λ e. absurd cc

keeps_going : (v : Desk) (task : DeskTask) → Keeps v (goes_on v task)
unfolding Keeps
keeps_going v task = keeps_either v (nat_lt task.class CLASSES) _ _ (λ e. refl) (keeps_finished v task.work task.held task.stored)

keeps_with : (v : Desk) (o : Option DeskTask) → Keeps v (goes_on_with v o)
unfolding Keeps
keeps_with v None = λ e. refl
keeps_with v (Some task) = keeps_going v task

keeps : (v : Desk) (task : DeskTask) (event : Event ShardReply) → Keeps v (desk_told v task event)
unfolding Keeps
keeps v task Begin = keeps_either v (awaits_begin task) _ _ (keeps_going v task) (λ e. refl)
keeps v task (Reply r) =
    keeps_either v (is_no_memory r) _ _ (λ e. refl) (keeps_either v (awaits_reply task) _ _ (keeps_with v (with_reply task task.work r)) (λ e. refl))
keeps v task NotAbove = λ e. refl
keeps v task NoObject = λ e. refl

-- ---- each ask leaves fewer classes to be asked

falls_either : (task : DeskTask) (b : Bool) (x y : DeskNext) → (b ≡ true → Falls desk_left task x.1) → Falls desk_left task y.1 → Falls desk_left task (cond b x y).1
falls_either task true x y h g = h refl
falls_either task false x y h g = g

falls_going : (v : Desk) (before task : DeskTask) → task.class ≡ before.class → Falls desk_left before (goes_on v task).1
falls_going v before task same =
    falls_either before (nat_lt task.class CLASSES) _ _ (λ h. let below : task.class < CLASSES = ltb-true task.class CLASSES h in omega (arith, below, same)) tt

falls_with : (v : Desk) (before : DeskTask) (o : Option DeskTask) → ((t : DeskTask) → o ≡ Some t → t.class ≡ before.class) → Falls desk_left before (goes_on_with v o).1
falls_with v before None same = tt
falls_with v before (Some task) same = falls_going v before task (same task refl)

same_class : (task : DeskTask) (work : DeskWork) (r : ShardReply) (t : DeskTask) → with_reply task work r ≡ Some t → t.class ≡ task.class
same_class task (Flush delay moment) reply.Flushed t e = cc
same_class task (Count moment) (reply.Counts held stored) t e = let is : with_counts task held stored ≡ t = cc in ap (λ (x : DeskTask). x.class) (sym is)
same_class task _ _ t e = absurd cc

falls : (v : Desk) (task : DeskTask) (event : Event ShardReply) → Falls desk_left task (desk_told v task event).1
falls v task Begin = falls_either task (awaits_begin task) _ _ (λ h. falls_going v task task refl) tt
falls v task (Reply r) =
    falls_either task (is_no_memory r) _ _ (λ h. tt)
    (falls_either task (awaits_reply task) _ _ (λ h. falls_with v task (with_reply task task.work r) (same_class task task.work r)) tt)
falls v task NotAbove = tt
falls v task NoObject = tt

pub desk_laws : KindLaws desk_kind
unfolding Keeps
desk_laws = record {
  lacks_is = shard_laws.lacks_is;
  step_kept = step_kept;
  advance_kept = keeps;
  falls = falls;
}
