-- The classes reply to a launch on the desk.
use Rattle.std.proofs.Common.{◌≡◌, ◌∙◌, ℕ, suc, ◌-◌, ◌^◌, ◌<◌, ◌≤◌, min, List, [], ◌∷◌, ◌++◌, map, take, drop, length, Option, Some, refl, ap, sym, subst, inl, inr, arith}
use Rattle.std.specs.Prelude.{◌⊎◌, sum}
use Rattle.std.proofs.lemmas.List.{append-nil, length-map, length-take, take_all, drop_all}
use Rattle.std.proofs.lemmas.Simd.{map-map}
use Rattle.mc_model.specs.declared.message.Command.{Command}
use Rattle.mc_model.specs.declared.message.Command.TheVariants as command
use Rattle.mc_model.specs.declared.reply.ShardReply.{ShardReply}
use Rattle.mc_model.specs.declared.reply.ShardReply.TheVariants.{NoMemory}
use Rattle.mc_model.specs.Items.{count_of}
use Rattle.mc_model.specs.Class.{Class, settled, flush_step}
use Rattle.mc_laws.specs.Classes.{first_changed, sum_of}
use Rattle.mc_laws.specs.Replies.{AreFlushed, AreCounted, ClassesReply}
use Rattle.mc_shard.specs.Shard.{shard_step}
use Rattle.mc_route.specs.declared.desk.Desk.{Desk}
use Rattle.mc_route.specs.declared.desk.DeskWork.{DeskWork}
use Rattle.mc_route.specs.declared.desk.DeskWork.TheVariants.{Flush, Count}
use Rattle.mc_route.specs.declared.desk.DeskTask.{DeskTask}
use Rattle.mc_route.specs.declared.planning.Ask.TheVariants as ask
use Rattle.mc_route.specs.Desks.{asked_for, told_by, first_task, with_done}
use Rattle.mc_route.specs.Launches.{Launch, launched, own_replies, total_of}
use Rattle.mc_route.specs.ClassLaunches.{AreAsked}
use Rattle.mc_route.specs.Plans.{ask_of}
use Rattle.mc_route.proofs.LaunchSteps.{asks_each, stops_for_memory}

-- a class after it was asked
abbrev after_ask : DeskWork → Class → Class
after_ask work s = (shard_step s (asked_for work)).0

-- what a class counts
abbrev tally : Class → ℕ × ℕ
tally s = (count_of s.items, s.stored)

-- the replies of some classes that were asked
abbrev replies_of : DeskWork → List Class → List ShardReply
replies_of work classes = own_replies work (map tally (map (after_ask work) classes))

own_reply : (work : DeskWork) (s : Class) → (shard_step s (asked_for work)).1 ≡ told_by work (count_of (after_ask work s).items) (after_ask work s).stored
own_reply (Flush delay moment) s = refl
own_reply (Count moment) s = refl

-- all classes replied, or the first n of them and then memory was wanting
record AllAsked (work : DeskWork) (classes : List Class) (replies : List ShardReply) (new : List Class) : Type 0 where
  replied : replies ≡ replies_of work classes
  changed : new ≡ map (after_ask work) classes

record SomeAsked (work : DeskWork) (classes : List Class) (replies : List ShardReply) (new : List Class) : Type 0 where
  count : ℕ
  below : count < length classes
  replied : replies ≡ replies_of work (take count classes) ++ NoMemory ∷ []
  changed : new ≡ first_changed count (after_ask work) classes

one_more : (work : DeskWork) (s : Class) (replies others told : List ShardReply) → replies ≡ (shard_step s (asked_for work)).1 ∷ others → others ≡ told → replies ≡ told_by work (count_of (after_ask work s).items) (after_ask work s).stored ∷ told
one_more work s replies others told is same =
    is ∙ ap (λ (r : ShardReply). r ∷ others) (own_reply work s) ∙ ap (λ (l : List ShardReply). told_by work (count_of (after_ask work s).items) (after_ask work s).stored ∷ l) same

asked_how : (work : DeskWork) (classes : List Class) (replies : List ShardReply) (new : List Class) → AreAsked (asked_for work) classes replies new → AllAsked work classes replies new ⊎ SomeAsked work classes replies new
asked_how work [] replies new h = inl (record { replied = h.0; changed = h.1 })
asked_how work (s ∷ classes) replies new h =
    elim h [
      | inl stop ↦ inr (record { count = 0; below = omega arith; replied = stop.0; changed = stop.1 })
      | inr on ↦ elim (asked_how work classes on.0 on.1 on.4) [
        | inl all ↦ inl (record {
          replied = one_more work s replies on.0 (replies_of work classes) on.2 all.replied;
          changed = on.3 ∙ ap (λ (l : List Class). after_ask work s ∷ l) all.changed;
        })
        | inr some ↦ inr (record {
          count = suc some.count;
          below = (let under : some.count < length classes = some.below in omega arith);
          replied = one_more work s replies on.0 (replies_of work (take some.count classes) ++ NoMemory ∷ []) on.2 some.replied;
          changed = on.3 ∙ ap (λ (l : List Class). after_ask work s ∷ l) some.changed;
        })
      ]
    ]

-- ---- the two works

-- the end of a launch, and what the classes replied
Ends : Desk → DeskTask → List ShardReply → (ShardReply → Type 0) → Type 0
Ends v task replies Replied = (after : Desk) × (reply : ShardReply) × ((launched v task replies).ended ≡ Some (after, reply)) × Replied reply

all_changed : (f : Class → Class) (classes : List Class) → length classes ≡ 64 → map f classes ≡ first_changed 64 f classes
all_changed f classes all =
    sym (ap (λ (l : List Class). map f l ++ drop 64 classes) (take_all 64 classes (omega arith)) ∙ ap (λ (l : List Class). map f classes ++ l) (drop_all 64 classes (omega arith)) ∙ append-nil (map f classes))

counts_length : (work : DeskWork) (classes : List Class) → length (map tally (map (after_ask work) classes)) ≡ length classes
counts_length work classes = length-map (map (after_ask work) classes) tally ∙ length-map classes (after_ask work)

-- the end of a launch to which all classes replied
all_end : (v : Desk) (work : DeskWork) (trustees : ℕ) (classes : List Class) (replies : List ShardReply) (new : List Class) → 2 ≤ trustees → length classes ≡ 64 → AllAsked work classes replies new
    → (launched v (first_task work trustees) replies).ended ≡ Some (with_done v, told_by work (sum_of (λ s. count_of s.items) new) (sum_of (λ s. s.stored) new))
all_end v work trustees classes replies new some all asked =
    let news = map (after_ask work) classes in
    let counts = map tally news in
    let e = asks_each v work trustees counts some (counts_length work classes ∙ all) in
    ap (λ (l : List ShardReply). (launched v (first_task work trustees) l).ended) asked.replied ∙ ap (λ (l : Launch). l.ended) e
    ∙ ap (λ (l : List ℕ). let r : Option (Desk × ShardReply) = Some (with_done v, told_by work (min (sum l) (2 ^ 64 - 1)) (total_of (λ c. c.1) counts)) in r) (map-map (λ (c : ℕ × ℕ). c.0) tally news)
    ∙ ap (λ (l : List ℕ). let r : Option (Desk × ShardReply) = Some (with_done v, told_by work (sum_of (λ s. count_of s.items) news) (min (sum l) (2 ^ 64 - 1))) in r) (map-map (λ (c : ℕ × ℕ). c.1) tally news)
    ∙ ap (λ (l : List Class). let r : Option (Desk × ShardReply) = Some (with_done v, told_by work (sum_of (λ s. count_of s.items) l) (sum_of (λ s. s.stored) l)) in r) (sym asked.changed)

-- the end of a launch where memory was wanting
some_end : (v : Desk) (work : DeskWork) (trustees : ℕ) (classes : List Class) (replies : List ShardReply) (new : List Class) → 2 ≤ trustees → length classes ≡ 64 → SomeAsked work classes replies new
    → (launched v (first_task work trustees) replies).ended ≡ Some (v, NoMemory)
some_end v work trustees classes replies new some all asked =
    let first = take asked.count classes in
    let under : asked.count < length classes = asked.below in
    let e =
    stops_for_memory v work trustees (map tally (map (after_ask work) first)) [] some (let n : length (map tally (map (after_ask work) first)) ≡ length first = counts_length work first in let m : length first ≡ min asked.count (length classes) = length-take asked.count classes in omega arith)
    in
    ap (λ (l : List ShardReply). (launched v (first_task work trustees) l).ended) asked.replied ∙ ap (λ (l : Launch). l.ended) e

flush_ends : (v : Desk) (delay moment trustees : ℕ) (classes : List Class) (replies : List ShardReply) (new : List Class) → 2 ≤ trustees → length classes ≡ 64 → AreAsked (asked_for (Flush delay moment)) classes replies new
    → Ends v (first_task (Flush delay moment) trustees) replies (λ r. AreFlushed classes delay moment new (r ∷ []))
unfolding Ends
flush_ends v delay moment trustees classes replies new some all asked =
    let f = λ (s : Class). (flush_step s delay moment).0 in
    elim (asked_how (Flush delay moment) classes replies new asked) [
      | inl h ↦ (_, _, all_end v (Flush delay moment) trustees classes replies new some all h, inl (h.changed ∙ all_changed f classes all, refl))
      | inr h ↦ (_, _, some_end v (Flush delay moment) trustees classes replies new some all h, inr (h.count, (let under : h.count < length classes = h.below in omega arith), h.changed, refl))
    ]

count_ends : (v : Desk) (moment trustees : ℕ) (classes : List Class) (replies : List ShardReply) (new : List Class) → 2 ≤ trustees → length classes ≡ 64 → AreAsked (asked_for (Count moment)) classes replies new
    → Ends v (first_task (Count moment) trustees) replies (λ r. AreCounted classes moment new (r ∷ []))
unfolding Ends
count_ends v moment trustees classes replies new some all asked =
    let f = λ (s : Class). settled s moment in
    elim (asked_how (Count moment) classes replies new asked) [
      | inl h ↦ (_, _, all_end v (Count moment) trustees classes replies new some all h, inl (h.changed ∙ all_changed f classes all, refl))
      | inr h ↦ (_, _, some_end v (Count moment) trustees classes replies new some all h, inr (h.count, (let under : h.count < length classes = h.below in omega arith), h.changed, refl))
    ]

same_task : (a b : DeskTask) → ask.Desk a ≡ ask.Desk b → a ≡ b
same_task a b e = cc

-- ---- the commands

pub launches_are_replies : (v : Desk) (c : Command) (moment trustees : ℕ) (task : DeskTask) (classes : List Class) (replies : List ShardReply) (new : List Class)
    → 2 ≤ trustees → length classes ≡ 64 → ask_of c moment trustees ≡ ask.Desk task → AreAsked (asked_for task.work) classes replies new
    → (after : Desk) × (reply : ShardReply) × ((launched v task replies).ended ≡ Some (after, reply)) × ClassesReply classes c moment new (reply ∷ [])
unfolding Ends
launches_are_replies v (command.FlushAll delay quiet) moment trustees task classes replies new some all is asked =
    let first = first_task (Flush delay moment) trustees in
    let same : first ≡ task = same_task first task is in
    let P : DeskTask → Type 0 = λ t. (after : Desk) × (reply : ShardReply) × ((launched v t replies).ended ≡ Some (after, reply)) × AreFlushed classes delay moment new (reply ∷ []) in
    let Q : DeskTask → Type 0 = λ t. AreAsked (asked_for t.work) classes replies new in
    subst P same (flush_ends v delay moment trustees classes replies new some all (subst Q (sym same) asked))
launches_are_replies v command.Stats moment trustees task classes replies new some all is asked =
    let first = first_task (Count moment) trustees in
    let same : first ≡ task = same_task first task is in
    let P : DeskTask → Type 0 = λ t. (after : Desk) × (reply : ShardReply) × ((launched v t replies).ended ≡ Some (after, reply)) × AreCounted classes moment new (reply ∷ []) in
    let Q : DeskTask → Type 0 = λ t. AreAsked (asked_for t.work) classes replies new in
    subst P same (count_ends v moment trustees classes replies new some all (subst Q (sym same) asked))
launches_are_replies v _ moment trustees task classes replies new some all is asked = absurd cc
