-- Launches on the desk, one class after another.
use Rattle.std.proofs.Common.{◌≡◌, ◌∙◌, ℕ, suc, ◌+◌, ◌-◌, ◌^◌, ◌<◌, ◌≤◌, min, Bool, true, false, cond, ◌&&◌, List, [], ◌∷◌, ◌++◌, map, length, Some, refl, ap, arith, zero-add}
use Rattle.std.specs.Prelude.{sum}
use Rattle.std.specs.List.{fold, range_with_len}
use Rattle.std.proofs.lemmas.Bool.{lt-ltb, le-leb}
use Rattle.std.proofs.lemmas.List.Sums.{sum_by-cons}
use Rattle.tm_seq.specs.declared.kind.Event.TheVariants.{Reply}
use Rattle.tm_seq.specs.declared.kind.Next.TheVariants.{Done}
use Rattle.mc_model.specs.declared.reply.ShardReply.{ShardReply}
use Rattle.mc_model.specs.declared.reply.ShardReply.TheVariants.{NoMemory}
use Rattle.mc_route.specs.declared.desk.Desk.{Desk}
use Rattle.mc_route.specs.declared.desk.DeskWork.{DeskWork}
use Rattle.mc_route.specs.declared.desk.DeskWork.TheVariants.{Flush, Count}
use Rattle.mc_route.specs.declared.desk.DeskTask.{DeskTask}
use Rattle.mc_route.specs.Desks.{DeskNext, asks_next, told_by, sum_up, first_task, goes_on, gives_up, with_done, desk_told, awaits_begin, awaits_reply}
use Rattle.mc_route.specs.Launches.{Launch, launch_of, launched, class_asked, classes_asked, own_replies, total_of}

-- a task that asked so many classes, with these sums
abbrev task_at : DeskWork → ℕ → ℕ → ℕ → ℕ → DeskTask
task_at work trustees class held stored = record { work = work; trustees = trustees; class = class; held = held; stored = stored }

-- a sum after one class more, which only a count changes
abbrev adds : DeskWork → ℕ → ℕ → ℕ
adds (Flush delay moment) sum more = sum
adds (Count moment) sum more = sum_up sum more

-- ---- one class

both_true : (a b c : Bool) → a ≡ true → b ≡ true → c ≡ true → ((a && b) && c) ≡ true
both_true true true true e f g = refl
both_true true true false e f g = g
both_true true false c e f g = absurd cc
both_true false b c e f g = absurd cc

reply_awaited : (work : DeskWork) (trustees class held stored : ℕ) → 2 ≤ trustees → class < 64 → awaits_reply (task_at work trustees (class + 1) held stored) ≡ true
reply_awaited work trustees class held stored some below =
    both_true _ _ _ (le-leb 2 trustees some) (le-leb (class + 1) 64 (omega arith)) (lt-ltb 0 (class + 1) (omega arith))

begin_awaited : (work : DeskWork) (trustees : ℕ) → 2 ≤ trustees → awaits_begin (first_task work trustees) ≡ true
begin_awaited work trustees some = both_true _ _ _ (le-leb 2 trustees some) refl refl

-- the next class is asked
asks : (v : Desk) (task : DeskTask) → task.class < 64 → goes_on v task ≡ (v, asks_next task)
asks v task below =
    ap (λ (b : Bool). cond b (v, asks_next task) (with_done v, Done (told_by task.work task.held task.stored))) (lt-ltb task.class 64 below)

-- the class's own reply is taken, and the work goes on
own_told : (v : Desk) (work : DeskWork) (trustees class held stored a b : ℕ) → 2 ≤ trustees → class < 64
    → desk_told v (task_at work trustees (class + 1) held stored) (Reply (told_by work a b)) ≡ goes_on v (task_at work trustees (class + 1) (adds work held a) (adds work stored b))
own_told v (Flush delay moment) trustees class held stored a b some below =
    let task = task_at (Flush delay moment) trustees (class + 1) held stored in
    ap (λ (c : Bool). cond c (goes_on v task) (gives_up v)) (reply_awaited (Flush delay moment) trustees class held stored some below)
own_told v (Count moment) trustees class held stored a b some below =
    let task = task_at (Count moment) trustees (class + 1) (sum_up held a) (sum_up stored b) in
    ap (λ (c : Bool). cond c (goes_on v task) (gives_up v)) (reply_awaited (Count moment) trustees class held stored some below)

-- ---- all classes that are left

launch_at : List ShardReply → DeskNext → Launch
launch_at replies next = launch_of replies next.0 next.1

abbrev held_after : DeskWork → ℕ → List (ℕ × ℕ) → ℕ
held_after work held counts = fold (adds work) held (map (λ c. c.0) counts)

abbrev stored_after : DeskWork → ℕ → List (ℕ × ℕ) → ℕ
stored_after work stored counts = fold (adds work) stored (map (λ c. c.1) counts)

all_left : (v : Desk) (work : DeskWork) (trustees : ℕ) (counts : List (ℕ × ℕ)) (class held stored : ℕ) → 2 ≤ trustees → class + length counts ≡ 64
    → launch_at (own_replies work counts) (goes_on v (task_at work trustees class held stored)) ≡ record {
      asked = map (class_asked work trustees) (range_with_len class (length counts));
      ended = Some (with_done v, told_by work (held_after work held counts) (stored_after work stored counts));
    }
unfolding launch_at
all_left v work trustees [] class held stored some all =
    let last : class ≡ 64 = omega arith in
    ap (λ (n : ℕ). launch_at [] (goes_on v (task_at work trustees n held stored))) last
all_left v work trustees (c ∷ counts) class held stored some all =
    let below : class < 64 = omega arith in
    let replies = own_replies work counts in
    let first = class_asked work trustees class in
    ap (λ (n : DeskNext). launch_at (told_by work c.0 c.1 ∷ replies) n) (asks v (task_at work trustees class held stored) below)
    ∙ ap (λ (n : DeskNext). let later = launch_at replies n in let l : Launch = record { asked = first ∷ later.asked; ended = later.ended } in l) (own_told v work trustees class held stored c.0 c.1 some below)
    ∙ ap (λ (later : Launch). let l : Launch = record { asked = first ∷ later.asked; ended = later.ended } in l) (all_left v work trustees counts (class + 1) (adds work held c.0) (adds work stored c.1) some (omega arith))

-- a launch that is done asks nothing more
done_launch : (replies : List ShardReply) (v : Desk) (r : ShardReply) → launch_of replies v (Done r) ≡ record { asked = []; ended = Some (v, r) }
done_launch [] v r = refl
done_launch (x ∷ replies) v r = refl

stops : (v : Desk) (work : DeskWork) (trustees : ℕ) (counts : List (ℕ × ℕ)) (others : List ShardReply) (class held stored : ℕ) → 2 ≤ trustees → class + length counts < 64
    → launch_at (own_replies work counts ++ NoMemory ∷ others) (goes_on v (task_at work trustees class held stored)) ≡ record {
      asked = map (class_asked work trustees) (range_with_len class (suc (length counts)));
      ended = Some (v, NoMemory);
    }
unfolding launch_at
stops v work trustees [] others class held stored some all =
    let first = class_asked work trustees class in
    ap (λ (n : DeskNext). launch_at (NoMemory ∷ others) n) (asks v (task_at work trustees class held stored) (omega arith))
    ∙ ap (λ (later : Launch). let l : Launch = record { asked = first ∷ later.asked; ended = later.ended } in l) (done_launch others v NoMemory)
stops v work trustees (c ∷ counts) others class held stored some all =
    let below : class < 64 = omega arith in
    let replies = own_replies work counts ++ NoMemory ∷ others in
    let first = class_asked work trustees class in
    ap (λ (n : DeskNext). launch_at (told_by work c.0 c.1 ∷ replies) n) (asks v (task_at work trustees class held stored) below)
    ∙ ap (λ (n : DeskNext). let later = launch_at replies n in let l : Launch = record { asked = first ∷ later.asked; ended = later.ended } in l) (own_told v work trustees class held stored c.0 c.1 some below)
    ∙ ap (λ (later : Launch). let l : Launch = record { asked = first ∷ later.asked; ended = later.ended } in l) (stops v work trustees counts others (class + 1) (adds work held c.0) (adds work stored c.1) some (omega arith))

-- ---- from the beginning

-- a sum that stands still at each step is the sum that stands still
fold_is : (moment : ℕ) (xs : List ℕ) (n : ℕ) → n ≤ 2 ^ 64 - 1 → fold (adds (Count moment)) n xs ≡ min (n + sum xs) (2 ^ 64 - 1)
fold_is moment [] n fits = omega arith
fold_is moment (x ∷ xs) n fits =
    let so_far : ℕ = min (n + x) (2 ^ 64 - 1) in
    let more : sum (x ∷ xs) ≡ x + sum xs = sum_by-cons (λ n. n) x xs in
    let last : min (so_far + sum xs) (2 ^ 64 - 1) ≡ min (n + sum (x ∷ xs)) (2 ^ 64 - 1) = omega arith in
    fold_is moment xs so_far (omega arith) ∙ last

totals_are : (work : DeskWork) (counts : List (ℕ × ℕ)) → told_by work (held_after work 0 counts) (stored_after work 0 counts) ≡ told_by work (total_of (λ c. c.0) counts) (total_of (λ c. c.1) counts)
totals_are (Flush delay moment) counts = refl
totals_are (Count moment) counts =
    let held = map (λ (c : ℕ × ℕ). c.0) counts in
    let stored = map (λ (c : ℕ × ℕ). c.1) counts in
    let held_is : held_after (Count moment) 0 counts ≡ min (sum held) (2 ^ 64 - 1) = fold_is moment held 0 (omega arith) ∙ ap (λ n. min n (2 ^ 64 - 1)) (zero-add (sum held)) in
    let stored_is : stored_after (Count moment) 0 counts ≡ min (sum stored) (2 ^ 64 - 1) = fold_is moment stored 0 (omega arith) ∙ ap (λ n. min n (2 ^ 64 - 1)) (zero-add (sum stored)) in
    ap (λ n. told_by (Count moment) n (stored_after (Count moment) 0 counts)) held_is ∙ ap (λ n. told_by (Count moment) (min (sum held) (2 ^ 64 - 1)) n) stored_is

begins : (v : Desk) (work : DeskWork) (trustees : ℕ) (replies : List ShardReply) → 2 ≤ trustees → launched v (first_task work trustees) replies ≡ launch_at replies (goes_on v (first_task work trustees))
unfolding launch_at
begins v work trustees replies some =
    ap (λ (b : Bool). launch_at replies (cond b (goes_on v (first_task work trustees)) (gives_up v))) (begin_awaited work trustees some)

pub asks_each : (v : Desk) (work : DeskWork) (trustees : ℕ) (counts : List (ℕ × ℕ)) → 2 ≤ trustees → length counts ≡ 64
    → launched v (first_task work trustees) (own_replies work counts) ≡ record {
      asked = classes_asked work trustees 64;
      ended = Some (with_done v, told_by work (total_of (λ c. c.0) counts) (total_of (λ c. c.1) counts));
    }
asks_each v work trustees counts some all =
    begins v work trustees (own_replies work counts) some
    ∙ all_left v work trustees counts 0 0 0 some (omega arith)
    ∙ ap (λ (n : ℕ). let l : Launch = record { asked = map (class_asked work trustees) (range_with_len 0 n); ended = Some (with_done v, told_by work (held_after work 0 counts) (stored_after work 0 counts)) } in l) all
    ∙ ap (λ (r : ShardReply). let l : Launch = record { asked = classes_asked work trustees 64; ended = Some (with_done v, r) } in l) (totals_are work counts)

suc_is : (n : ℕ) → suc n ≡ n + 1
suc_is n = omega arith

pub stops_for_memory : (v : Desk) (work : DeskWork) (trustees : ℕ) (counts : List (ℕ × ℕ)) (others : List ShardReply) → 2 ≤ trustees → length counts < 64
    → launched v (first_task work trustees) (own_replies work counts ++ NoMemory ∷ others) ≡ record {
      asked = classes_asked work trustees (length counts + 1);
      ended = Some (v, NoMemory);
    }
stops_for_memory v work trustees counts others some few =
    begins v work trustees (own_replies work counts ++ NoMemory ∷ others) some
    ∙ stops v work trustees counts others 0 0 0 some (omega arith)
    ∙ ap (λ (n : ℕ). let l : Launch = record { asked = classes_asked work trustees n; ended = Some (v, NoMemory) } in l) (suc_is (length counts))
