-- The end of a launch is what all classes reply to the command.
use Rattle.std.proofs.Common.{◌≡◌, ℕ, ◌+◌, ◌<◌, ◌≤◌, List, [], ◌∷◌, length, inl, inr, refl, sym, ◌∙◌, ap, subst, arith}
use Rattle.std.specs.Prelude.{◌⊎◌, Option, Some}
use Rattle.tm_seq.specs.declared.kind.Event.TheVariants.{Begin, Reply}
use Rattle.tm_seq.specs.declared.kind.Next.TheVariants.{Ask, Done}
use Rattle.tm_seq.specs.declared.sum.Sum.TheVariants as sum
use Rattle.tm_model.specs.State.{Start, Setup}
use Rattle.tm_laws.specs.Objects.{on_object}
use Rattle.tm_course.specs.Courses.{asked_in, told_in, IsCourse}
use Rattle.mc_model.specs.declared.message.Command.{Command}
use Rattle.mc_model.specs.declared.message.Command.TheVariants as command
use Rattle.mc_model.specs.declared.reply.ShardReply.{ShardReply}
use Rattle.mc_model.specs.declared.reply.ShardReply.TheVariants as reply
use Rattle.mc_model.specs.Class.{Class, new_class}
use Rattle.mc_laws.specs.Classes.{class_at}
use Rattle.mc_laws.specs.Replies.{ClassesReply}
use Rattle.mc_shard.specs.declared.op.ShardOp.{ShardOp}
use Rattle.mc_shard.specs.Shard.{shard_step}
use Rattle.mc_route.specs.declared.desk.Desk.{Desk}
use Rattle.mc_route.specs.declared.desk.DeskWork.{DeskWork}
use Rattle.mc_route.specs.declared.desk.DeskWork.TheVariants.{Flush, Count}
use Rattle.mc_route.specs.declared.desk.DeskTask.{DeskTask}
use Rattle.mc_route.specs.declared.planning.Ask.TheVariants as ask
use Rattle.mc_route.specs.ClassLaunches.{AreAsked, LaunchesAreReplies}
use Rattle.mc_route.specs.Desks.{asked_for, first_task, desk_told}
use Rattle.mc_route.specs.Launches.{launch_of, launched}
use Rattle.mc_route.specs.Places.{trustee_of, index_of}
use Rattle.mc_route.specs.Plans.{ask_of}
use Rattle.mc_next.specs.Parts.{store_kind}
use Rattle.mc_store_laws.specs.Parts.{ClassRuns}
use Rattle.mc_desk_laws.specs.Desk.{zip_runs, IsNamed, DeskCoursesAreReplies}
use Rattle.mc_desk_laws.proofs.Told.{OnDesk, Steps, TellsOn, IsStanding, told_stands, begun_stands, Told, course_told}
use Rattle.mc_desk_laws.proofs.Positions.{HaveReplied, run_at, each_replied}

-- ---- classes that were not asked

unchanged : (op : ShardOp) (classes new : List Class) → HaveReplied op classes [] new → new ≡ classes
unchanged op [] new h = h
unchanged op (s ∷ classes) [] h = absurd h
unchanged op (s ∷ classes) (w ∷ new) h =
    ap (λ (x : Class). x ∷ new) h.0 ∙ ap (λ (l : List Class). s ∷ l) (unchanged op classes new h.1)

-- for the first of them, if there is one, memory was wanting
unasked : (op : ShardOp) (classes new : List Class) → new ≡ classes → (replies : List ShardReply) × AreAsked op classes replies new
unasked op [] new e = ([], (refl, e))
unasked op (s ∷ classes) new e = (reply.NoMemory ∷ [], inl (refl, e))

-- ---- from what was told to what is asked

-- the classes were asked one after another, and by their replies work that did this next ends with that, unless it ended for want of memory
record Asks (op : ShardOp) (classes new : List Class) (d : Desk) (n : OnDesk) (end : ShardReply) : Type 0 where
  replies : List ShardReply
  asked : AreAsked op classes replies new
  ends : (end ≡ reply.NoMemory) ⊎ ((after : Desk) × ((launch_of replies d n).ended ≡ Some (after, end)))

done_ends : (replies : List ShardReply) (d : Desk) (r : ShardReply) → (launch_of replies d (Done r)).ended ≡ Some (d, r)
done_ends [] d r = refl
done_ends (x ∷ replies) d r = refl

-- a class made its step, and the others follow
one_more : (op : ShardOp) (s w : Class) (r : ShardReply) (classes new : List Class) (replies : List ShardReply) → w ≡ (shard_step s op).0 → r ≡ (shard_step s op).1
    → AreAsked op classes replies new → AreAsked op (s ∷ classes) (r ∷ replies) (w ∷ new)
one_more op s w r classes new replies is told rest =
    inr (replies, new, ap (λ (x : ShardReply). x ∷ replies) told, ap (λ (x : Class). x ∷ new) is, rest)

module _ (work : DeskWork) (trustees : ℕ) where
  asks : (replies : List ShardReply) (classes new : List Class) (j : ℕ) (d : Desk) (n : OnDesk) (end : ShardReply) → j + length classes ≡ 64
      → IsStanding work trustees j n → TellsOn d n replies end → HaveReplied (asked_for work) classes replies new → Asks (asked_for work) classes new d n end
  asks replies classes new j d (Done x) end all stands tells h =
      let op = asked_for work in
      let same = unchanged op classes new (subst (λ l. HaveReplied op classes l new) tells.0 h) in
      let (told, asked) = unasked op classes new same in
      record {
        replies = told;
        asked = asked;
        ends = inr (d, done_ends told d x ∙ ap (λ (r : ShardReply). let o : Option (Desk × ShardReply) = Some (d, r) in o) (sym tells.1));
      }
  asks [] classes new j d (Ask v i op later) end all stands tells h = absurd tells
  asks (r ∷ replies) [] new j d (Ask v i op later) end all stands tells h =
      let below : j < 64 = stands.3 in
      absurd (omega (arith, below, all))
  asks (r ∷ replies) (s ∷ classes) [] j d (Ask v i op later) end all stands tells h = absurd h
  asks (r ∷ replies) (s ∷ classes) (w ∷ new) j d (Ask v i op later) end all stands tells h =
      let own = asked_for work in
      elim h.0 [
        | inl went ↦ elim tells [
          | inl stop ↦
              let same = unchanged own classes new (subst (λ l. HaveReplied own classes l new) stop.0 h.1) in
              let (told, asked) = unasked own classes new same in
              record { replies = r ∷ told; asked = one_more own s w r classes new told went.0 went.1 asked; ends = inl stop.1 }
          | inr on ↦
              let next = desk_told d later (Reply r) in
              let more = asks replies classes new (j + 1) next.0 next.1 end (omega (arith, all)) (told_stands d later r work trustees (j + 1) stands.4 stands.5 stands.6) on h.1 in
              record { replies = r ∷ more.replies; asked = one_more own s w r classes new more.replies went.0 went.1 more.asked; ends = more.ends }
        ]
        | inr kept ↦
            let stop : (replies ≡ []) × (end ≡ reply.NoMemory) =
            elim tells [
              | inl stop ↦ stop
              | inr on ↦ subst (λ (x : ShardReply). TellsOn (desk_told d later (Reply x)).0 (desk_told d later (Reply x)).1 replies end) kept.1 on
            ] in
            let same = unchanged own classes new (subst (λ l. HaveReplied own classes l new) stop.0 h.1) in
            record {
              replies = reply.NoMemory ∷ [];
              asked = inl (refl, ap (λ (x : Class). x ∷ new) kept.0 ∙ ap (λ (l : List Class). s ∷ l) same);
              ends = inl stop.1;
            }
      ]

-- ---- the commands

same_task : (a b : DeskTask) → ask.Desk a ≡ ask.Desk b → a ≡ b
same_task a b e = cc

-- a launch is asked with a task that has not begun
is_first : (c : Command) (moment trustees : ℕ) (task : DeskTask) → ask_of c moment trustees ≡ ask.Desk task → (work : DeskWork) × (task ≡ first_task work trustees)
is_first (command.FlushAll delay quiet) moment trustees task is = (Flush delay moment, sym (same_task (first_task (Flush delay moment) trustees) task is))
is_first command.Stats moment trustees task is = (Count moment, sym (same_task (first_task (Count moment) trustees) task is))
is_first _ moment trustees task is = absurd cc

same_end : (u v : Desk) (a b : ShardReply) (o : Option (Desk × ShardReply)) → o ≡ Some (u, a) → o ≡ Some (v, b) → a ≡ b
same_end u v a b o e f =
    let both : Some (u, a) ≡ Some (v, b) = sym e ∙ f in
    let pair : (u, a) ≡ (v, b) = cc in
    ap (λ (p : Desk × ShardReply). p.1) pair

-- where classes may have replied so, memory may have been wanting at the end
forgets : (c : Command) (moment trustees : ℕ) (task : DeskTask) (classes new : List Class) (r : ShardReply) → ask_of c moment trustees ≡ ask.Desk task
    → ClassesReply classes c moment new (r ∷ []) → ClassesReply classes c moment new (reply.NoMemory ∷ [])
forgets (command.FlushAll delay quiet) moment trustees task classes new r is (inl all) = inr (64, omega arith, all.0, refl)
forgets (command.FlushAll delay quiet) moment trustees task classes new r is (inr some) = inr (some.0, some.1, some.2, refl)
forgets command.Stats moment trustees task classes new r is (inl all) = inr (64, omega arith, all.0, refl)
forgets command.Stats moment trustees task classes new r is (inr some) = inr (some.0, some.1, some.2, refl)
forgets _ moment trustees task classes new r is h = absurd cc

module _ (law : LaunchesAreReplies) (setup : Setup) (trustees : ℕ) (d : Desk) (work : DeskWork) (steps : Steps) (end : ShardReply) (classes new : List Class)
    (some : 2 ≤ trustees) (first : setup.number ≡ 0) (named : (class : ℕ) → class < 64 → IsNamed setup trustees class)
    (course : IsCourse store_kind setup (sum.Second d) (sum.Second (first_task work trustees)) Start steps end) (all : length classes ≡ 64) (others : length new ≡ 64)
    (runs : (class : ℕ) → class < 64 → ClassRuns (class_at classes class)
    (on_object (index_of class trustees + 1) (zip_runs (asked_in setup (trustee_of class trustees) steps) (told_in (trustee_of class trustees) Start steps)))
    (class_at new class)) where
  told : Told setup trustees work first named d steps end
  told = course_told setup trustees work first named d steps end course

  replied : HaveReplied (asked_for work) classes told.replies new
  replied =
      each_replied (asked_for work) classes new told.replies (λ k. new_class k 0 0) (all ∙ sym others) (λ k lt.
      run_at trustees (asked_for work) (class_at classes k) (class_at new k) told.replies k 0 k (omega arith)
      (subst (λ l. ClassRuns (class_at classes k) (on_object (index_of k trustees + 1) l) (class_at new k)) (told.runs (trustee_of k trustees)) (runs k (omega (arith, lt, all)))))

  asks_all : Asks (asked_for work) classes new (desk_told d (first_task work trustees) Begin).0 (desk_told d (first_task work trustees) Begin).1 end
  asks_all =
      elim told.tells [
        | inl none ↦
            let op = asked_for work in
            let same = unchanged op classes new (subst (λ l. HaveReplied op classes l new) none.0 replied) in
            let (replies, asked) = unasked op classes new same in
            record { replies = replies; asked = asked; ends = inl none.1 }
        | inr on ↦
            let next = desk_told d (first_task work trustees) Begin in
            asks work trustees told.replies classes new 0 next.0 next.1 end (omega (arith, all)) (begun_stands d work trustees) on replied
      ]

  ends_so : (c : Command) (moment : ℕ) → ask_of c moment trustees ≡ ask.Desk (first_task work trustees) → ClassesReply classes c moment new (end ∷ [])
  ends_so c moment is =
      let (after, r, ended, all_reply) = law d c moment trustees (first_task work trustees) classes asks_all.replies new some all is asks_all.asked in
      elim asks_all.ends [
        | inl none ↦ subst (λ (x : ShardReply). ClassesReply classes c moment new (x ∷ [])) (sym none)
            (forgets c moment trustees (first_task work trustees) classes new r is all_reply)
        | inr (later, ends) ↦
            subst (λ (x : ShardReply). ClassesReply classes c moment new (x ∷ []))
            (same_end after later r end (launched d (first_task work trustees) asks_all.replies).ended ended ends) all_reply
      ]

pub desk_courses : LaunchesAreReplies → DeskCoursesAreReplies
desk_courses law setup trustees d c moment task steps end classes new some first named is course all others runs =
    let (work, e) = is_first c moment trustees task is in
    ends_so law setup trustees d work steps end classes new some first named
    (subst (λ t. IsCourse store_kind setup (sum.Second d) (sum.Second t) Start steps end) e course) all others runs c moment (is ∙ ap (λ t. ask.Desk t) e)
