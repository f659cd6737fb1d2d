-- A launch on the desk, from its beginning to its end.
use Rattle.std.specs.Prelude.{◌≡◌, ℕ, ◌<◌, ◌≤◌, ◌-◌, ◌+◌, ◌^◌, min, sum, map, length, List, [], ◌∷◌, ◌++◌, Option, Some, None}
use Rattle.std.specs.List.{range_with_len}
use Rattle.tm_seq.specs.declared.kind.Event.TheVariants.{Begin, Reply}
use Rattle.tm_seq.specs.declared.kind.Next.{Next}
use Rattle.tm_seq.specs.declared.kind.Next.TheVariants.{Ask, Done}
use Rattle.tm_batch.specs.declared.limits.TheConstants.{FEWEST_TRUSTEES}
use Rattle.mc_item.specs.declared.limits.TheConstants.{CLASSES}
use Rattle.mc_model.specs.declared.reply.ShardReply.{ShardReply}
use Rattle.mc_model.specs.declared.reply.ShardReply.TheVariants.{NoMemory}
use Rattle.mc_shard.specs.declared.op.ShardOp.{ShardOp}
use Rattle.mc_route.specs.declared.desk.Desk.{Desk}
use Rattle.mc_route.specs.declared.desk.DeskWork.{DeskWork}
use Rattle.mc_route.specs.declared.desk.DeskTask.{DeskTask}
use Rattle.mc_route.specs.Places.{trustee_of, index_of}
use Rattle.mc_route.specs.Desks.{asked_for, told_by, first_task, with_done, desk_told}

-- what is asked: the trustee, which of the classes there, and the operation
pub record Asked : Type 0 where
  pub trustee : ℕ
  pub index : ℕ
  pub op : ShardOp

-- what a launch did: what it asked, in order, and, if it has ended, the desk after it and what it was told
pub record Launch : Type 0 where
  pub asked : List Asked
  pub ended : Option (Desk × ShardReply)

-- work that is told the next of these replies each time that it has asked
abbrev pub launch_of : List ShardReply → Desk → Next ShardOp DeskTask ShardReply → Launch
launch_of [] v (Ask trustee index op task) = record { asked = record { trustee = trustee; index = index; op = op } ∷ []; ended = None }
launch_of [] v (Done reply) = record { asked = []; ended = Some (v, reply) }
launch_of (r ∷ replies) v (Ask trustee index op task) =
    let next = desk_told v task (Reply r) in
    let later = launch_of replies next.0 next.1 in
    record { asked = record { trustee = trustee; index = index; op = op } ∷ later.asked; ended = later.ended }
launch_of (r ∷ replies) v (Done reply) = record { asked = []; ended = Some (v, reply) }

-- a launch of a task
abbrev pub launched : Desk → DeskTask → List ShardReply → Launch
launched v task replies =
    let begun = desk_told v task Begin in
    launch_of replies begun.0 begun.1

-- the class of this number is asked where it stands
abbrev pub class_asked : DeskWork → ℕ → ℕ → Asked
class_asked work trustees class = record {
  trustee = trustee_of class trustees;
  index = index_of class trustees;
  op = asked_for work;
}

-- so many classes are asked, in the order of their numbers
abbrev pub classes_asked : DeskWork → ℕ → ℕ → List Asked
classes_asked work trustees n = map (class_asked work trustees) (range_with_len 0 n)

-- the work's own replies, with these counts of items and stores
abbrev pub own_replies : DeskWork → List (ℕ × ℕ) → List ShardReply
own_replies work counts = map (λ c. told_by work c.0 c.1) counts

-- a sum of counts that stands still at 2 ^ 64 - 1
abbrev pub total_of : (ℕ × ℕ → ℕ) → List (ℕ × ℕ) → ℕ
total_of part counts = min (sum (map part counts)) (2 ^ 64 - 1)

-- where each class replies, all classes are asked once, in order, and the work ends with the sums
abbrev pub DeskAsksEachClass : Type 0
DeskAsksEachClass =
    (v : Desk) (work : DeskWork) (trustees : ℕ) (counts : List (ℕ × ℕ)) → FEWEST_TRUSTEES ≤ trustees → length counts ≡ CLASSES
    → launched v (first_task work trustees) (own_replies work counts) ≡ record {
      asked = classes_asked work trustees CLASSES;
      ended = Some (with_done v, told_by work (total_of (λ c. c.0) counts) (total_of (λ c. c.1) counts));
    }

-- where memory is wanting for a class, no further one is asked, and the work ends with that
abbrev pub DeskStopsForMemory : Type 0
DeskStopsForMemory =
    (v : Desk) (work : DeskWork) (trustees : ℕ) (counts : List (ℕ × ℕ)) (others : List ShardReply) → FEWEST_TRUSTEES ≤ trustees → length counts < CLASSES
    → launched v (first_task work trustees) (own_replies work counts ++ NoMemory ∷ others) ≡ record {
      asked = classes_asked work trustees (length counts + 1);
      ended = Some (v, NoMemory);
    }
