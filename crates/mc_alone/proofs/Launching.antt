-- A command that is launched on the desk: the classes reply to it.
use Rattle.std.proofs.Common.{◌≡◌, ℕ, zero, suc, ◌+◌, ◌^◌, ◌<◌, ◌≤◌, inl, inr, true, false, cond, List, [], ◌∷◌, ◌++◌, length, map, refl, sym, ◌∙◌, ap, subst, arith, append_assoc, append-nil, length-append, eq-eqb, ne_eqb}
use Rattle.std.specs.Prelude.{slice_get}
use Rattle.std.specs.List.{AllByRecursion, AllZip, Contains}
use Rattle.std.specs.declared.option.Option.TheVariants.{Some}
use Rattle.std.proofs.lemmas.Bool.{cases_eq}
use Rattle.tm_seq.specs.declared.kind.Event.{Event}
use Rattle.tm_seq.specs.declared.kind.Next.{Next}
use Rattle.tm_seq.specs.declared.kind.Next.TheVariants.{Done}
use Rattle.tm_seq.specs.declared.sum.Sum.TheVariants as sum
use Rattle.tm_batch.specs.declared.message.Request.{Request}
use Rattle.tm_batch.specs.declared.message.Request.TheVariants.{Entrust, Apply, Launch, Grant, Release, Reclaim, Bye}
use Rattle.tm_batch.specs.declared.message.Answer.{Answer}
use Rattle.tm_batch.specs.declared.message.Answer.TheVariants.{Replied, Launched, TicketsSpent}
use Rattle.tm_model.specs.declared.entry.Entry.{Entry}
use Rattle.tm_model.specs.declared.entry.Entry.TheVariants.{By, Resume, Sent}
use Rattle.tm_model.specs.State.{Object, Start, object_of}
use Rattle.tm_model.specs.Serve.{value_run, after, state_after}
use Rattle.tm_model.specs.History.{history_of, first_value, lived, value_told, tasks_resumed}
use Rattle.tm_model.specs.Fits.{Fits}
use Rattle.tm_model.specs.Legal.{MayCome, IsLegal}
use Rattle.tm_model.specs.Laws.{IsOpening}
use Rattle.tm_model.specs.Ran.{mark_of, ran, answered}
use Rattle.tm_core.proofs.Histories.{histories_tell_values}
use Rattle.tm_core.proofs.Joins.{legal_logs_join}
use Rattle.tm_core.proofs.Longer.{after_gives_tickets}
use Rattle.tm_core.proofs.Marks.{ran-append}
use Rattle.tm_core.proofs.Ordered.{IsOrdered, after_ordered, opening_ordered}
use Rattle.tm_core.proofs.Sound.{states_are_sound}
use Rattle.tm_laws.specs.Objects.{on_object, runs_for, runs_of, ObjectsRun, OnePlaceRuns}
use Rattle.tm_pair.specs.Plain.{client_at, trustee_at}
use Rattle.tm_asking.specs.Questions.{requests_at, replies_at, IsReplyOf, HasAskedAll}
use Rattle.tm_course.specs.Courses.{asked_in, told_in, IsCourse, NoneWorks, TookCourse}
use Rattle.tm_course.proofs.Tickets.{launches_take_courses}
use Rattle.tm_rest.specs.Resting.{asks_told, NothingCounts}
use Rattle.tm_rest.proofs.Idle.{rests_are_idle}
use Rattle.tm_rest.proofs.Runs.{runs_in, runs_are}
use Rattle.tm_trustee.specs.NestedAsks.{NestedAsk, ToldReply, IsAmong, IsApply, target, asks_of, replies_of}
use Rattle.tm_turns.specs.Whole.{HasLane}
use Rattle.mc_item.specs.declared.limits.TheConstants.{CLASSES}
use Rattle.mc_model.specs.declared.message.Command.{Command}
use Rattle.mc_model.specs.declared.reply.ShardReply.{ShardReply}
use Rattle.mc_model.specs.declared.reply.ShardReply.TheVariants.{Missing}
use Rattle.mc_model.specs.Class.{Class}
use Rattle.mc_model.specs.Showing.{is_no_memory}
use Rattle.mc_laws.specs.Replies.{ClassesReply}
use Rattle.mc_shard.specs.declared.op.ShardOp.{ShardOp}
use Rattle.mc_route.specs.declared.desk.Desk.{Desk}
use Rattle.mc_route.specs.declared.desk.DeskTask.{DeskTask}
use Rattle.mc_route.specs.declared.planning.Ask.TheVariants as ask
use Rattle.mc_route.specs.Laws.{ClassesAreFound}
use Rattle.mc_route.specs.Places.{StoreValue, trustee_of, index_of, store_first}
use Rattle.mc_route.specs.Plans.{ask_of}
use Rattle.mc_next.specs.Parts.{Named, StoreTask, StoreQuestion, store_kind}
use Rattle.mc_next.specs.Works.{StoreState}
use Rattle.mc_solo.specs.Serving.{StoreTurns, store_config, LogsGrow}
use Rattle.mc_store_laws.specs.Parts.{ValuesAreClasses}
use Rattle.mc_desk_laws.specs.Desk.{zip_runs, DeskCoursesAreReplies}
use Rattle.mc_alone.specs.Classes.{StoreLane, StoreTrustee, IsLaunch, StandsAt}
use Rattle.mc_alone.proofs.Openings.{opening, trustee_within, class_held, desk_is}
use Rattle.mc_alone.proofs.Grown.{StoreLog, OfStore, lane_of, trustee_at_number, is_opening, Grew, grew, nested, others_none}
use Rattle.mc_alone.proofs.Replying.{log_fits}
use Rattle.mc_alone.proofs.Stepping.{Stepped, stepped}

-- ---- lists

zip_is : {O R : Type 0} (asks : List (NestedAsk O)) (told : List (ToldReply R)) → asks_told asks told ≡ zip_runs (map target asks) (map (λ t. t.reply) told)
zip_is [] told = refl
zip_is (a ∷ asks) [] = refl
zip_is (a ∷ asks) (t ∷ told) = ap (λ l. record { id = a.id; op = a.op; reply = t.reply } ∷ l) (zip_is asks told)

among_of : {X : Type 0} (x : X) (xs : List X) → Contains xs x → IsAmong x xs
among_of x [] (k, lt, is) = absurd (omega (arith, lt))
among_of x (y ∷ xs) (zero, lt, is) = inl is
among_of x (y ∷ xs) (suc k, lt, is) = inr (among_of x xs (k, omega (arith, lt), is))

among_more : {X : Type 0} (x : X) (xs ys : List X) → IsAmong x xs → IsAmong x (xs ++ ys)
among_more x [] ys h = absurd h
among_more x (y ∷ xs) ys (inl e) = inl e
among_more x (y ∷ xs) ys (inr h) = inr (among_more x xs ys h)

among_behind : {X : Type 0} (x : X) (xs ys : List X) → IsAmong x ys → IsAmong x (xs ++ ys)
among_behind x [] ys h = h
among_behind x (y ∷ xs) ys h = inr (among_behind x xs ys h)

-- ---- the desk stays one

IsSecond : StoreValue → Type 0
IsSecond v = (d : Desk) × (v ≡ sum.Second d)

second_run : (d : Desk) (op : ShardOp) (r : ShardReply) → IsSecond (value_run store_kind (sum.Second d) op r)
unfolding IsSecond
second_run d op r = elim (is_no_memory r) as (λ t. (e : Desk) × (cond t (sum.Second d) (store_kind.step (sum.Second d) op).0 ≡ sum.Second e)) [ true ↦ (d, refl) | false ↦ (_, refl) ]

second_task : (d : Desk) (task : StoreTask) (event : Event ShardReply) → IsSecond (store_kind.advance (sum.Second d) task event).0
unfolding IsSecond
second_task d (sum.First task) event = (d, refl)
second_task d (sum.Second task) event = (_, refl)

second_told : (d : Desk) (tasks : List StoreTask) (event : Event ShardReply) (next : Next ShardOp StoreTask ShardReply) → IsSecond (value_told store_kind (sum.Second d) tasks event next)
unfolding IsSecond
second_told d [] event next = (d, refl)
second_told d (task ∷ tasks) event (Done r) =
    let went = second_task d task event in
    elim (is_no_memory r) as (λ t. (e : Desk) × (cond t (sum.Second d) (store_kind.advance (sum.Second d) task event).0 ≡ sum.Second e)) [ true ↦ (d, refl) | false ↦ went ]
second_told d (task ∷ tasks) event next = second_task d task event

lived_second : (v : StoreValue) (tasks : List StoreTask) (es : StoreLog) → IsSecond v → IsSecond (lived store_kind v tasks es).0
unfolding IsSecond
lived_second v tasks [] is = is
lived_second v tasks (By c k (Apply n op) (Replied r) ∷ es) (d, e) =
    let (w, same) = second_run d op r in
    lived_second (value_run store_kind v op r) tasks es (w, ap (λ u. value_run store_kind u op r) e ∙ same)
lived_second v tasks (By c k (Launch n task) (Launched ticket) ∷ es) is = lived_second v (tasks ++ task ∷ []) es is
lived_second v tasks (Resume id ticket event next ∷ es) (d, e) =
    let (w, same) = second_told d tasks event next in
    lived_second (value_told store_kind v tasks event next) (tasks_resumed tasks next) es (w, ap (λ u. value_told store_kind u tasks event next) e ∙ same)
lived_second v tasks (_ ∷ es) is = lived_second v tasks es is

-- the value with which an object of the opening began
began_with :
    (opening : StoreState) (log : StoreLog) (id : ℕ) (o : Object StoreValue StoreTask) (v : StoreValue) → object_of opening.live id ≡ Some o → first_value opening log id ≡ Some v → o.value ≡ v
began_with opening log id o v at first = let began = rw at at first in let same : o.value ≡ v = cc in same

-- ---- tickets are left

next_few : (s : StoreState) (log : StoreLog) → IsLegal store_kind s log → IsOrdered 1 s → (state_after store_kind s log).next_ticket ≤ s.next_ticket + length (ran 0 log)
next_few s [] legal ordered = omega arith
next_few s (By d k q a ∷ es) legal ordered =
    let lt = legal.0.0 in
    let count = ordered.count in
    let here : d ≡ 0 = omega (arith, lt, count) in
    let more = next_few (after store_kind s (By d k q a)) es legal.1 (after_ordered store_kind 1 s (By d k q a) legal.0 ordered) in
    let own : length (ran 0 (By d k q a ∷ es)) ≡ suc (length (ran 0 es)) = ap (λ t. length (cond t (q ∷ ran 0 es) (ran 0 es))) (eq-eqb d 0 here) in
    elim (after_gives_tickets store_kind s (By d k q a) legal.0) [
      | inl same ↦ let e = same.0 in omega (arith, more, own, e)
      | inr one ↦ let e = one.0 in omega (arith, more, own, e)
    ]
next_few s (Resume id ticket event next ∷ es) legal ordered =
    let e : Entry StoreValue ShardOp ShardReply StoreTask = Resume id ticket event next in
    let more = next_few (after store_kind s e) es legal.1 (after_ordered store_kind 1 s e legal.0 ordered) in
    elim (after_gives_tickets store_kind s e legal.0) [
      | inl same ↦ let e = same.0 in omega (arith, more, e)
      | inr one ↦ let bad : [] ≡ s.next_ticket ∷ [] = one.1 [] in absurd cc
    ]
next_few s (Sent c room ∷ es) legal ordered = next_few (after store_kind s (Sent c room)) es legal.1 (after_ordered store_kind 1 s (Sent c room) legal.0 ordered)

-- where one answer stands in a log
one_of : (a : Answer StoreValue ShardOp ShardReply StoreTask) (es : StoreLog) → answered 0 es ≡ a ∷ []
    → (before : StoreLog) × (k : ℕ) × (q : Request StoreValue ShardOp ShardReply StoreTask) × (later : StoreLog) × (es ≡ before ++ By 0 k q a ∷ later) × (ran 0 before ≡ [])
one_of a [] e = absurd cc
one_of a (Resume id ticket event next ∷ es) e =
    let (before, k, q, later, is, none) = one_of a es e in (Resume id ticket event next ∷ before, k, q, later, ap (λ l. Resume id ticket event next ∷ l) is, none)
one_of a (Sent c room ∷ es) e = let (before, k, q, later, is, none) = one_of a es e in (Sent c room ∷ before, k, q, later, ap (λ l. Sent c room ∷ l) is, none)
one_of a (By d k q b ∷ es) e =
    elim (cases_eq d 0) [
      | inl here ↦
          let first : b ∷ answered 0 es ≡ a ∷ [] = ap (λ t. cond t (b ∷ answered 0 es) (answered 0 es)) (sym (eq-eqb d 0 here)) ∙ e in
          let same : b ≡ a = cc in
          ([], k, q, es, ap (λ x. By x k q b ∷ es) here ∙ ap (λ x. By 0 k q x ∷ es) same, refl)
      | inr apart ↦
          let rest : answered 0 es ≡ a ∷ [] = ap (λ t. cond t (b ∷ answered 0 es) (answered 0 es)) (sym (ne_eqb d 0 apart)) ∙ e in
          let (before, j, p, later, is, none) = one_of a es rest in
          (By d k q b ∷ before, j, p, later, ap (λ l. By d k q b ∷ l) is, ap (λ t. cond t (q ∷ ran 0 before) (ran 0 before)) (ne_eqb d 0 apart) ∙ none)
    ]

-- a launch is refused only where the tickets are spent
spent_late : (s : StoreState) (k : ℕ) (q : Request StoreValue ShardOp ShardReply StoreTask) (back : StoreTask) → MayCome store_kind s (By 0 k q (TicketsSpent back))
    → s.setup.config.last_id < s.next_ticket
spent_late s k (Launch m task) back may = may.2.1.1
spent_late s k (Entrust v) back may = absurd may.2
spent_late s k (Apply m op) back may = absurd may.2.1
spent_late s k (Grant m d) back may = absurd may.2.2
spent_late s k (Release m) back may = let is = may.2.1 in absurd cc
spent_late s k (Reclaim m) back may = absurd may.2.1
spent_late s k Bye back may = let is = may.2 in absurd cc

all_behind : {X : Type 0} (P : X → Type 0) (xs ys : List X) → AllByRecursion P xs → AllByRecursion P ys → AllByRecursion P (xs ++ ys)
all_behind P [] ys h k = k
all_behind P (x ∷ xs) ys h k = (h.0, all_behind P xs ys h.1 k)

-- ---- the launch

module _ (trustees bound : ℕ) (fewest : 2 ≤ trustees) (found : ClassesAreFound) (objects_run : ObjectsRun store_kind) (one_place : OnePlaceRuns StoreValue ShardOp ShardReply StoreTask)
    (values_are : ValuesAreClasses) (desk_replies : DeskCoursesAreReplies) (named : Named) (desk_named : (named CLASSES).id ≡ 1)
    (n : ℕ) (classes : List Class) (old new : StoreTurns) (st : StandsAt trustees bound n classes old) (are : OfStore trustees bound new) (none : NothingCounts new) (logs : LogsGrow old new)
    (command : Command) (moment : ℕ) (task : DeskTask) (of_command : ask_of command moment trustees ≡ ask.Desk task) (left : n + 1 < 2 ^ 64) (r : ShardReply) where
  abbrev pub launch : StoreQuestion
  launch = record { trustee = 0; request = Launch (named CLASSES) (sum.Second task) }

  elsewhere : (t : ℕ) → 1 ≤ t → (requests_at t (launch ∷ []) ≡ [])
  elsewhere t above = ap (λ b. cond b (launch.request ∷ []) []) (ne_eqb 0 t (λ e. omega (arith, above, e)))

  module _ (asked : (t : ℕ) (lane becomes : StoreLane) → HasLane old 0 t lane → HasLane new 0 t becomes
      → HasAskedAll Missing (requests_at t (launch ∷ [])) (replies_at t (launch ∷ []) (r ∷ [])) (client_at lane.side) (client_at becomes.side)) where
    applies_more : (t : ℕ) → 1 ≤ t → AllByRecursion IsApply (requests_at t (launch ∷ []))
    applies_more t above = subst (AllByRecursion IsApply) (sym (elsewhere t above)) tt

    some : 0 < trustees
    some = omega (arith, fewest)

    launches_now : (lane : StoreLane) → HasLane new 0 0 lane → AllByRecursion IsLaunch (client_at lane.side).sent × (length (client_at lane.side).sent ≤ n + 1)
    launches_now lane has =
        let (was, had) = lane_of trustees bound old st.are 0 some in
        let (all, few) = st.launches was had in
        let h = asked 0 was lane had has in
        let long = ap length h.sent ∙ length-append (client_at was.side).sent (launch.request ∷ []) in
        (subst (AllByRecursion IsLaunch) (sym h.sent) (all_behind IsLaunch (client_at was.side).sent (launch.request ∷ []) all (tt, tt)), omega (arith, few, long))

    module _ (x0 y0 : StoreTrustee) (of_x0 : slice_get old.trustees.items 0 ≡ Some x0) (of_y0 : slice_get new.trustees.items 0 ≡ Some y0) where
      abbrev g0 : Grew trustees bound n classes old new st are none logs (launch ∷ []) (r ∷ []) asked applies_more 0 x0 y0
      g0 = grew trustees bound n classes old new st are none logs (launch ∷ []) (r ∷ []) asked applies_more 0 x0 y0 some of_x0 of_y0

      abbrev log0 : StoreLog
      log0 = (trustee_at x0.side).log

      opens : IsOpening (opening trustees bound 0)
      opens = is_opening trustees bound new are 0 some

      -- a ticket was left
      not_spent : (back : StoreTask) → answered 0 g0.es ≡ TicketsSpent back ∷ [] → ⊥
      not_spent back e =
          let o = opening trustees bound 0 in
          let (before, k, q, later, is, none_before) = one_of (TicketsSpent back) g0.es e in
          let entry : Entry StoreValue ShardOp ShardReply StoreTask = By 0 k q (TicketsSpent back) in
          let whole : IsLegal store_kind o ((log0 ++ before) ++ entry ∷ later) =
          subst (IsLegal store_kind o) (ap (λ l. log0 ++ l) is ∙ sym (append_assoc log0 before (entry ∷ later))) g0.legal in
          let (front, back_legal) = (legal_logs_join store_kind o (log0 ++ before) (entry ∷ later)).0 whole in
          let sound = states_are_sound store_kind o (log0 ++ before) opens front in
          let spent = spent_late (state_after store_kind o (log0 ++ before)) k q back back_legal.0 in
          let few = next_few o (log0 ++ before) front (opening_ordered o opens) in
          let config = ap (λ u. u.config.last_id) sound.setup in
          let (lane, has) = lane_of trustees bound old st.are 0 some in
          let idle = rests_are_idle ℕ store_kind (store_config 1 trustees) (store_first 1 trustees bound) old 0 x0 st.are st.none of_x0 in
          let (all, few_sent) = st.launches lane has in
          let long = ap length (ran-append mark_of 0 log0 before ∙ ap (λ l. ran 0 log0 ++ l) none_before ∙ append-nil (ran 0 log0) ∙ idle.ran_all 0 lane has) in
          omega (arith, spent, few, config, few_sent, long, left)

      -- so there is a ticket, and work that ended with the reply
      record IsTicket : Type 0 where
        pub ticket : ℕ
        pub is : answered 0 g0.es ≡ Launched ticket ∷ []
        pub ended : (id : ℕ) × (event : Event ShardReply) × Contains g0.grown (Resume id ticket event (Done r))

      ticket_of : (answers : List (Answer StoreValue ShardOp ShardReply StoreTask)) → answered 0 g0.es ≡ answers → AllZip Fits (launch.request ∷ []) answers
          → AllZip (IsReplyOf Missing g0.grown) answers (r ∷ []) → IsTicket
      ticket_of [] e fits is = absurd fits
      ticket_of (Launched ticket ∷ []) e fits is = record { ticket = ticket; is = e; ended = is.0 }
      ticket_of (TicketsSpent back ∷ []) e fits is = absurd (not_spent back e)
      ticket_of (a ∷ b ∷ answers) e fits is = absurd fits.1
      ticket_of (a ∷ []) e fits is = absurd fits.0

      ticket : IsTicket
      ticket =
          let o = opening trustees bound 0 in
          let all = log_fits (state_after store_kind o log0) 0 g0.es ((legal_logs_join store_kind o log0 g0.es).0 g0.legal).1 in
          ticket_of (answered 0 g0.es) refl (subst (λ l. AllZip Fits l (answered 0 g0.es)) g0.ran_is all) g0.answers

      course : TookCourse store_kind (opening trustees bound 0) log0 g0.es (named CLASSES) (sum.Second task) ticket.ticket
      course =
          let o = opening trustees bound 0 in
          let idle = rests_are_idle ℕ store_kind (store_config 1 trustees) (store_first 1 trustees bound) old 0 x0 st.are st.none of_x0 in
          let now = rests_are_idle ℕ store_kind (store_config 1 trustees) (store_first 1 trustees bound) new 0 y0 are none of_y0 in
          launches_take_courses store_kind o log0 g0.es 0 (named CLASSES) (sum.Second task) ticket.ticket opens g0.legal idle.works
          (subst (λ l. NoneWorks (state_after store_kind o l)) g0.log now.works)
          (λ d lt ne. absurd (omega (arith, lt, ne))) g0.ran_is ticket.is

      -- the reply is that with which it ended
      reply_is : r ≡ course.reply
      reply_is =
          let (id, event, there) = ticket.ended in
          let (tail, before, whole) = g0.seen in
          course.ends id event r
          (subst (λ l. IsAmong (Resume id ticket.ticket event (Done r)) l) (sym whole)
          (among_more (Resume id ticket.ticket event (Done r)) (before ++ g0.grown) tail
          (among_behind (Resume id ticket.ticket event (Done r)) before g0.grown (among_of (Resume id ticket.ticket event (Done r)) g0.grown there))))

      -- the object is the desk
      desk : (d : Desk) × (course.object.value ≡ sum.Second d)
      unfolding IsSecond
      desk =
          let o = opening trustees bound 0 in
          let idle = rests_are_idle ℕ store_kind (store_config 1 trustees) (store_first 1 trustees bound) old 0 x0 st.are st.none of_x0 in
          let (v, first, tells) = histories_tell_values store_kind o log0 (named CLASSES).id course.object opens idle.is_legal course.of_object in
          let (own, d, at, value) = desk_is trustees bound found fewest in
          let there : object_of o.live (named CLASSES).id ≡ Some own = ap (object_of o.live) desk_named ∙ at in
          let is : own.value ≡ v = began_with o log0 (named CLASSES).id own v there first in
          let (w, same) = lived_second v [] (history_of (named CLASSES).id log0) (d, sym is ∙ value) in
          (w, ap (λ (p : StoreValue × List StoreTask). p.0) tells ∙ same)

      own : ℕ → List (ShardOp × ShardReply)
      own class = on_object (index_of class trustees + 1) (zip_runs (asked_in (opening trustees bound 0).setup (trustee_of class trustees) course.steps) (told_in (trustee_of class trustees) Start course.steps))

      own_is : (class : ℕ) (x y : StoreTrustee) (lt : trustee_of class trustees < trustees) → class < CLASSES → (of_x : slice_get old.trustees.items (trustee_of class trustees) ≡ Some x)
          → (of_y : slice_get new.trustees.items (trustee_of class trustees) ≡ Some y)
          → runs_of (index_of class trustees + 1) (grew trustees bound n classes old new st are none logs (launch ∷ []) (r ∷ []) asked applies_more (trustee_of class trustees) x y lt of_x of_y).es
          ≡ own class
      unfolding own
      own_is class x y lt below of_x of_y =
          let t = trustee_of class trustees in
          let id = index_of class trustees + 1 in
          let o = opening trustees bound 0 in
          let (above, within) = trustee_within trustees bound found fewest class in
          let g = grew trustees bound n classes old new st are none logs (launch ∷ []) (r ∷ []) asked applies_more t x y lt of_x of_y in
          one_place 1 id g.es
          (λ c ne. elim (cases_eq c 0) [
            | inl e ↦ ap (λ k. runs_for k g.es) e ∙ runs_are 0 g.es ∙ ap (λ l. runs_in l (answered 0 g.es)) (g.ran_is ∙ elsewhere t above)
            | inr other ↦ others_none trustees bound n classes old new st are none logs (launch ∷ []) (r ∷ []) asked applies_more t x y lt of_x of_y c (omega (arith, ne, other))
          ])
          ∙ ap (on_object id)
          (nested trustees bound n classes old new st are none logs (launch ∷ []) (r ∷ []) asked applies_more t x y x0 y0 lt of_x of_y some of_x0 of_y0 above
          ∙ zip_is (asks_of o.setup t g0.es) (replies_of store_kind (state_after store_kind o log0) t g0.es)
          ∙ ap (λ l. zip_runs l (map (λ t. t.reply) (replies_of store_kind (state_after store_kind o log0) t g0.es))) (course.asked t) ∙ ap (zip_runs (asked_in o.setup t course.steps)) (course.told t))

      step : Stepped trustees bound fewest found objects_run values_are n classes old new st are none logs (launch ∷ []) (r ∷ []) asked applies_more launches_now own own_is
      step = stepped trustees bound fewest found objects_run values_are n classes old new st are none logs (launch ∷ []) (r ∷ []) asked applies_more launches_now own own_is

      replies_are : (after : List Class) × StandsAt trustees bound (n + 1) after new × ClassesReply classes command moment after (r ∷ [])
      unfolding own
      replies_are =
          let o = opening trustees bound 0 in
          let (d, value) = desk in (
            step.after,
            step.stands,
            subst (λ z. ClassesReply classes command moment step.after (z ∷ [])) (sym reply_is)
                (desk_replies o.setup trustees d command moment task course.steps course.reply classes step.after fewest refl (λ class below. class_held trustees bound found fewest class below) of_command
                (subst (λ v. IsCourse store_kind o.setup v (sum.Second task) Start course.steps course.reply) value course.course) st.many step.many step.runs),
          )

    pub launch_replies : (after : List Class) × StandsAt trustees bound (n + 1) after new × ClassesReply classes command moment after (r ∷ [])
    launch_replies =
        let (x0, of_x0) = trustee_at_number trustees bound old st.are 0 some in
        let (y0, of_y0) = trustee_at_number trustees bound new are 0 some in
        replies_are x0 y0 of_x0 of_y0
