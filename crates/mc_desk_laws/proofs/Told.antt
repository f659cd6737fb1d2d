-- What a launch was told, as a list of replies of class 0, 1, and so on.
use Rattle.std.proofs.Common.{◌≡◌, ℕ, ◌+◌, ◌<◌, ◌≤◌, true, false, cond, List, [], ◌∷◌, inl, inr, refl, sym, ◌∙◌, ap, subst, arith}
use Rattle.std.specs.Prelude.{◌==◌, ◌&&◌, ◌⊎◌, Bool, nat_lt, length, slice_index_or}
use Rattle.std.proofs.lemmas.Bool.{cond_both, false≢true, eqb-true, ltb-true, lt-ltb}
use Rattle.tm_seq.specs.Kind.{IsResume}
use Rattle.tm_seq.specs.Summing.{next_as}
use Rattle.tm_seq.specs.declared.kind.Event.{Event}
use Rattle.tm_seq.specs.declared.kind.Event.TheVariants.{Begin, Reply, NotAbove, NoObject}
use Rattle.tm_seq.specs.declared.kind.Next.{Next}
use Rattle.tm_seq.specs.declared.kind.Next.TheVariants.{Ask, Done}
use Rattle.tm_seq.specs.declared.sum.Sum.TheVariants as sum
use Rattle.tm_model.specs.State.{Awaits, Start, AskOf, Setup, ids_above}
use Rattle.tm_model.specs.Legal.{IsAwaited}
use Rattle.tm_laws.specs.Objects.{Run}
use Rattle.tm_course.specs.Courses.{WorkStep, awaited_by, asked_in, told_in, IsCourse}
use Rattle.mc_model.specs.declared.reply.ShardReply.{ShardReply}
use Rattle.mc_model.specs.declared.reply.ShardReply.TheVariants as reply
use Rattle.mc_model.specs.Showing.{is_no_memory}
use Rattle.mc_shard.specs.declared.op.ShardOp.{ShardOp}
use Rattle.mc_route.specs.declared.desk.Desk.{Desk}
use Rattle.mc_route.specs.declared.desk.DeskWork.{DeskWork}
use Rattle.mc_route.specs.declared.desk.DeskWork.TheVariants.{Flush, Count}
use Rattle.mc_route.specs.declared.desk.DeskTask.{DeskTask}
use Rattle.mc_route.specs.Desks.{DeskNext, asked_for, first_task, with_reply, awaits_begin, awaits_reply, goes_on, goes_on_with, desk_told}
use Rattle.mc_route.specs.Places.{StoreValue, trustee_of, index_of}
use Rattle.mc_next.specs.Parts.{StoreTask, store_kind}
use Rattle.mc_desk_laws.specs.Desk.{zip_runs, IsNamed}

-- what the desk and a task on it do next
abbrev pub OnDesk : Type 0
OnDesk = Next ShardOp DeskTask ShardReply

-- the same, as a step of the store's
abbrev pub OnStore : Type 0
OnStore = Next ShardOp StoreTask ShardReply

abbrev pub as_store : OnDesk → OnStore
as_store n = next_as sum.Second n

abbrev pub Steps : Type 0
Steps = List (WorkStep ShardOp ShardReply StoreTask)

-- Work that did this next was told these replies, one after each ask, and ended with that: by itself, or for want of memory behind a reply.
abbrev pub TellsOn : Desk → OnDesk → List ShardReply → ShardReply → Type 0
TellsOn d (Done x) replies end = (replies ≡ []) × (end ≡ x)
TellsOn d (Ask u i op later) [] end = ⊥
TellsOn d (Ask u i op later) (r ∷ replies) end =
    ((replies ≡ []) × (end ≡ reply.NoMemory)) ⊎ TellsOn (desk_told d later (Reply r)).0 (desk_told d later (Reply r)).1 replies end

-- of the replies of classes j, j + 1 and so on, to an operation, those of the classes of trustee u
abbrev pub class_runs : ℕ → ShardOp → ℕ → ℕ → List ShardReply → List (Run ShardOp ShardReply)
class_runs trustees op u j [] = []
class_runs trustees op u j (r ∷ replies) =
    cond (trustee_of j trustees == u) (record { id = index_of j trustees + 1; op = op; reply = r } ∷ class_runs trustees op u (j + 1) replies) (class_runs trustees op u (j + 1) replies)

-- what is done next is an ask of class j, or the end
abbrev pub IsStanding : DeskWork → ℕ → ℕ → OnDesk → Type 0
IsStanding work trustees j (Ask u i op later) =
    (u ≡ trustee_of j trustees) × (i ≡ index_of j trustees) × (op ≡ asked_for work) × (j < 64) × (later.work ≡ work) × (later.trustees ≡ trustees) × (later.class ≡ j + 1)
IsStanding work trustees j (Done r) = Unit {0}

-- ---- each step asks the next class

goes_on_stands : (d : Desk) (task : DeskTask) (work : DeskWork) (trustees j : ℕ) → task.work ≡ work → task.trustees ≡ trustees → task.class ≡ j → IsStanding work trustees j (goes_on d task).1
goes_on_stands d task work trustees j of_work of_trustees of_class =
    cond_both (nat_lt task.class 64) _ _ (λ (n : DeskNext). IsStanding work trustees j n.1)
    (λ e. (
      ap (λ k. trustee_of k task.trustees) of_class ∙ ap (trustee_of j) of_trustees,
      ap (λ k. index_of k task.trustees) of_class ∙ ap (index_of j) of_trustees,
      ap asked_for of_work,
      (let below : task.class < 64 = ltb-true task.class 64 e in omega (arith, below, of_class)),
      of_work,
      of_trustees,
      ap (λ k. k + 1) of_class,
    ))
    (λ e. tt)

with_reply_stands : (d : Desk) (task : DeskTask) (own : DeskWork) (r : ShardReply) (work : DeskWork) (trustees j : ℕ) → task.work ≡ work → task.trustees ≡ trustees → task.class ≡ j
    → IsStanding work trustees j (goes_on_with d (with_reply task own r)).1
with_reply_stands d task (Flush delay moment) reply.Flushed work trustees j a b c = goes_on_stands d task work trustees j a b c
with_reply_stands d task (Count moment) (reply.Counts held stored) work trustees j a b c = goes_on_stands d _ work trustees j a b c
with_reply_stands d task _ _ work trustees j a b c = tt

pub told_stands : (d : Desk) (task : DeskTask) (r : ShardReply) (work : DeskWork) (trustees j : ℕ) → task.work ≡ work → task.trustees ≡ trustees → task.class ≡ j
    → IsStanding work trustees j (desk_told d task (Reply r)).1
told_stands d task r work trustees j a b c =
    cond_both (is_no_memory r) _ _ (λ (n : DeskNext). IsStanding work trustees j n.1) (λ e. tt)
    (λ e. cond_both (awaits_reply task) _ _ (λ (n : DeskNext). IsStanding work trustees j n.1) (λ e. with_reply_stands d task task.work r work trustees j a b c) (λ e. tt))

pub begun_stands : (d : Desk) (work : DeskWork) (trustees : ℕ) → IsStanding work trustees 0 (desk_told d (first_task work trustees) Begin).1
begun_stands d work trustees =
    cond_both (awaits_begin (first_task work trustees)) _ _ (λ (n : DeskNext). IsStanding work trustees 0 n.1)
    (λ e. goes_on_stands d (first_task work trustees) work trustees 0 refl refl refl) (λ e. tt)

-- ---- a course, step by step

-- a course from what was done next
abbrev Follows : Setup → StoreValue → OnStore → Steps → ShardReply → Type 0
Follows setup v (Ask u i op later) steps end = IsCourse store_kind setup v later (AskOf u i) steps end
Follows setup v (Done r) steps end = (steps ≡ []) × (end ≡ r)

first_step : (setup : Setup) (v : StoreValue) (task : StoreTask) (awaits : Awaits) (event : Event ShardReply) (next : OnStore) (steps : Steps) (end : ShardReply)
    → IsCourse store_kind setup v task awaits ((event, next) ∷ steps) end
    → IsAwaited setup awaits event × ((w : StoreValue) × IsResume store_kind v task event w next × Follows setup w next steps end)
first_step setup v task awaits event (Ask u i op later) steps end h = h
first_step setup v task awaits event (Done r) steps end h = (h.0, (h.1.0, h.1.1, (h.2, h.3)))

-- a step that was lawful: the desk's, or an end for want of memory
how_resumed : (setup : Setup) (d : Desk) (task : DeskTask) (event : Event ShardReply) (w : StoreValue) (next : OnStore) (steps : Steps) (end : ShardReply)
    → IsResume store_kind (sum.Second d) (sum.Second task) event w next → Follows setup w next steps end
    → ((next ≡ as_store (desk_told d task event).1) × Follows setup (sum.Second (desk_told d task event).0) (as_store (desk_told d task event).1) steps end)
    ⊎ ((next ≡ Done reply.NoMemory) × (steps ≡ []) × (end ≡ reply.NoMemory))
how_resumed setup d task event w next steps end (inl went) h =
    inl (ap (λ (p : StoreValue × OnStore). p.1) went, subst (λ (p : StoreValue × OnStore). Follows setup p.0 p.1 steps end) went h)
how_resumed setup d task event w next steps end (inr ended) h =
    let now : Follows setup w (Done reply.NoMemory) steps end = subst (λ (n : OnStore). Follows setup w n steps end) ended.1 h in
    inr (ended.1, now.0, now.1)

-- ---- what is asked with what is told

zip_at : (a b : Bool) (x id : ℕ) (op : ShardOp) (r : ShardReply) (asked : List (ℕ × ShardOp)) (told : List ShardReply) → (a ≡ true → (b ≡ true) × (x ≡ id))
    → zip_runs (cond (a && b) ((x, op) ∷ asked) asked) (cond a (r ∷ told) told) ≡ cond a (record { id = id; op = op; reply = r } ∷ zip_runs asked told) (zip_runs asked told)
zip_at true true x id op r asked told h =
    ap (λ (k : ℕ). let l : List (Run ShardOp ShardReply) = record { id = k; op = op; reply = r } ∷ zip_runs asked told in l) (h refl).1
zip_at true false x id op r asked told h = absurd (false≢true (h refl).0)
zip_at false b x id op r asked told h = refl

-- an ask of class j, with the reply to it
zip_step : (setup : Setup) (trustees j u v i : ℕ) (op own : ShardOp) (r : ShardReply) (asked : List (ℕ × ShardOp)) (told : List ShardReply) (runs : List (Run ShardOp ShardReply))
    → IsNamed setup trustees j → v ≡ trustee_of j trustees → i ≡ index_of j trustees → op ≡ own → zip_runs asked told ≡ runs
    → zip_runs (cond ((v == u) && nat_lt i (length (ids_above setup u))) ((slice_index_or (ids_above setup u) i 0, op) ∷ asked) asked) (cond (v == u) (r ∷ told) told)
    ≡ cond (trustee_of j trustees == u) (record { id = index_of j trustees + 1; op = own; reply = r } ∷ runs) runs
zip_step setup trustees j u v i op own r asked told runs named of_v of_i of_op rest =
    let id : ℕ = index_of j trustees + 1 in
    let named_here : (v == u) ≡ true → (nat_lt i (length (ids_above setup u)) ≡ true) × (slice_index_or (ids_above setup u) i 0 ≡ id) =
    λ e.
    let here : trustee_of j trustees ≡ u = sym of_v ∙ eqb-true v u e in
    let at : (index_of j trustees < length (ids_above setup u)) × (slice_index_or (ids_above setup u) (index_of j trustees) 0 ≡ id) =
    subst (λ t. (index_of j trustees < length (ids_above setup t)) × (slice_index_or (ids_above setup t) (index_of j trustees) 0 ≡ id)) here named in
    let at_i : (i < length (ids_above setup u)) × (slice_index_or (ids_above setup u) i 0 ≡ id) =
    subst (λ k. (k < length (ids_above setup u)) × (slice_index_or (ids_above setup u) k 0 ≡ id)) (sym of_i) at in
    (lt-ltb i (length (ids_above setup u)) at_i.0, at_i.1)
    in
    zip_at (v == u) (nat_lt i (length (ids_above setup u))) (slice_index_or (ids_above setup u) i 0) id op r asked told named_here
    ∙ ap (λ (t : ℕ). let l : List (Run ShardOp ShardReply) = cond (t == u) (record { id = id; op = op; reply = r } ∷ zip_runs asked told) (zip_runs asked told) in l) of_v
    ∙ ap (λ (o : ShardOp). let l : List (Run ShardOp ShardReply) = cond (trustee_of j trustees == u) (record { id = id; op = o; reply = r } ∷ zip_runs asked told) (zip_runs asked told) in l) of_op
    ∙ ap (λ (m : List (Run ShardOp ShardReply)). let l : List (Run ShardOp ShardReply) = cond (trustee_of j trustees == u) (record { id = id; op = own; reply = r } ∷ m) m in l) rest

-- ---- the whole course

-- work that did this next was told these replies, from class j on, and at each trustee what was asked goes with them
record Led (setup : Setup) (trustees : ℕ) (op : ShardOp) (j : ℕ) (d : Desk) (n : OnDesk) (steps : Steps) (end : ShardReply) : Type 0 where
  replies : List ShardReply
  tells : TellsOn d n replies end
  runs : (u : ℕ) (event : Event ShardReply) → zip_runs (asked_in setup u ((event, as_store n) ∷ steps)) (told_in u (awaited_by (as_store n)) steps) ≡ class_runs trustees op u j replies

module _ (setup : Setup) (trustees : ℕ) (work : DeskWork) (first : setup.number ≡ 0) (named : (class : ℕ) → class < 64 → IsNamed setup trustees class) where
  -- what is asked and told where an end for want of memory is all that is left
  none_left : (u : ℕ) (event : Event ShardReply) (next : OnStore) (steps : Steps) → next ≡ Done reply.NoMemory → steps ≡ []
      → zip_runs (asked_in setup u ((event, next) ∷ steps)) (told_in u (awaited_by next) steps) ≡ []
  none_left u event next steps ends no_more =
      ap (λ (n : OnStore). zip_runs (asked_in setup u ((event, n) ∷ steps)) (told_in u (awaited_by n) steps)) ends
      ∙ ap (λ (l : Steps). zip_runs (asked_in setup u l) (told_in u Start l)) no_more

  leads : (steps : Steps) (j : ℕ) (d : Desk) (n : OnDesk) (end : ShardReply) → IsStanding work trustees j n → Follows setup (sum.Second d) (as_store n) steps end
      → Led setup trustees (asked_for work) j d n steps end
  leads steps j d (Done r) end stands h = record {
    replies = [];
    tells = (refl, h.1);
    runs = λ u event. ap (λ (l : Steps). zip_runs (asked_in setup u l) (told_in u Start l)) h.0;
  }
  leads [] j d (Ask v i op later) end stands h = absurd h
  leads ((Begin, next) ∷ steps) j d (Ask v i op later) end stands h =
      absurd (first_step setup (sum.Second d) (sum.Second later) (AskOf v i) Begin next steps end h).0
  leads ((NotAbove, next) ∷ steps) j d (Ask v i op later) end stands h =
      let awaited : v ≤ setup.number = (first_step setup (sum.Second d) (sum.Second later) (AskOf v i) NotAbove next steps end h).0 in
      let at : v ≡ trustee_of j trustees = stands.0 in
      absurd (omega (arith, awaited, first, at))
  leads ((NoObject, next) ∷ steps) j d (Ask v i op later) end stands h =
      let awaited = (first_step setup (sum.Second d) (sum.Second later) (AskOf v i) NoObject next steps end h).0 in
      let few : length (ids_above setup (trustee_of j trustees)) ≤ index_of j trustees =
      subst (λ k. length (ids_above setup (trustee_of j trustees)) ≤ k) stands.1 (subst (λ t. length (ids_above setup t) ≤ i) stands.0 awaited.1) in
      let there : index_of j trustees < length (ids_above setup (trustee_of j trustees)) = (named j stands.3).0 in
      absurd (omega (arith, few, there))
  leads ((Reply r, next) ∷ steps) j d (Ask v i op later) end stands h =
      let s = first_step setup (sum.Second d) (sum.Second later) (AskOf v i) (Reply r) next steps end h in
      elim (how_resumed setup d later (Reply r) s.1.0 next steps end s.1.1 s.1.2) [
        | inl on ↦
            let told = desk_told d later (Reply r) in
            let more = leads steps (j + 1) told.0 told.1 end (told_stands d later r work trustees (j + 1) stands.4 stands.5 stands.6) on.1 in
            record {
              replies = r ∷ more.replies;
              tells = inr more.tells;
              runs = λ u event. zip_step setup trustees j u v i op (asked_for work) r (asked_in setup u ((Reply r, next) ∷ steps)) (told_in u (awaited_by next) steps)
                  (class_runs trustees (asked_for work) u (j + 1) more.replies) (named j stands.3) stands.0 stands.1 stands.2
                  (ap (λ (n : OnStore). zip_runs (asked_in setup u ((Reply r, n) ∷ steps)) (told_in u (awaited_by n) steps)) on.0 ∙ more.runs u (Reply r));
            }
        | inr ended ↦ record {
          replies = r ∷ [];
          tells = inl (refl, ended.2);
          runs = λ u event. zip_step setup trustees j u v i op (asked_for work) r (asked_in setup u ((Reply r, next) ∷ steps)) (told_in u (awaited_by next) steps)
              [] (named j stands.3) stands.0 stands.1 stands.2 (none_left u (Reply r) next steps ended.0 ended.1);
        }
      ]

  -- a launch was told these replies, from class 0 on, unless memory was wanting when it began
  pub record Told (d : Desk) (steps : Steps) (end : ShardReply) : Type 0 where
    pub replies : List ShardReply
    pub tells :
        ((replies ≡ []) × (end ≡ reply.NoMemory))
        ⊎ TellsOn (desk_told d (first_task work trustees) Begin).0 (desk_told d (first_task work trustees) Begin).1 replies end
    pub runs : (u : ℕ) → zip_runs (asked_in setup u steps) (told_in u Start steps) ≡ class_runs trustees (asked_for work) u 0 replies

  pub course_told : (d : Desk) (steps : Steps) (end : ShardReply) → IsCourse store_kind setup (sum.Second d) (sum.Second (first_task work trustees)) Start steps end → Told d steps end
  course_told d [] end h = absurd h
  course_told d ((Reply r, next) ∷ steps) end h = absurd (first_step setup (sum.Second d) (sum.Second (first_task work trustees)) Start (Reply r) next steps end h).0
  course_told d ((NotAbove, next) ∷ steps) end h = absurd (first_step setup (sum.Second d) (sum.Second (first_task work trustees)) Start NotAbove next steps end h).0
  course_told d ((NoObject, next) ∷ steps) end h = absurd (first_step setup (sum.Second d) (sum.Second (first_task work trustees)) Start NoObject next steps end h).0
  course_told d ((Begin, next) ∷ steps) end h =
      let task = first_task work trustees in
      let s = first_step setup (sum.Second d) (sum.Second task) Start Begin next steps end h in
      elim (how_resumed setup d task Begin s.1.0 next steps end s.1.1 s.1.2) [
        | inl on ↦
            let begun = desk_told d task Begin in
            let more = leads steps 0 begun.0 begun.1 end (begun_stands d work trustees) on.1 in
            record {
              replies = more.replies;
              tells = inr more.tells;
              runs = λ u. ap (λ (n : OnStore). zip_runs (asked_in setup u ((Begin, n) ∷ steps)) (told_in u (awaited_by n) steps)) on.0 ∙ more.runs u Begin;
            }
        | inr ended ↦ record {
          replies = [];
          tells = inl (refl, ended.2);
          runs = λ u. none_left u Begin next steps ended.0 ended.1;
        }
      ]
