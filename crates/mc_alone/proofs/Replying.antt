-- A command whose parts are asked of classes: the classes reply to it.
use Rattle.std.proofs.Common.{◌≡◌, ℕ, ◌+◌, ◌<◌, ◌≤◌, inl, inr, true, false, cond, List, [], ◌∷◌, ◌++◌, length, map, sym, ◌∙◌, ap, subst, arith, append-nil}
use Rattle.std.specs.Prelude.{◌==◌, slice_get}
use Rattle.std.specs.List.{AllByRecursion, AllZip}
use Rattle.std.specs.declared.option.Option.TheVariants.{Some}
use Rattle.std.proofs.lemmas.Bool.{cases_eq}
use Rattle.tm_batch.specs.declared.message.Refusal.TheVariants.{ObjectsFull, SerialsSpent}
use Rattle.tm_batch.specs.declared.message.Request.{Request}
use Rattle.tm_batch.specs.declared.message.Request.TheVariants.{Entrust, Apply, Launch, Grant, Release, Reclaim, Bye}
use Rattle.tm_batch.specs.declared.message.Answer.{Answer}
use Rattle.tm_batch.specs.declared.message.Answer.TheVariants.{Entrusted, NotEntrusted, Replied, Launched, TicketsSpent, Granted, Gone, GiftsFull, Released, Reclaimed, Shared, ByeDone}
use Rattle.tm_model.specs.declared.entry.Entry.TheVariants.{By, Resume, Sent}
use Rattle.tm_model.specs.Serve.{after, state_after}
use Rattle.tm_model.specs.Fits.{Fits}
use Rattle.tm_model.specs.Legal.{Serves, IsLegal}
use Rattle.tm_model.specs.Ran.{ran, answered}
use Rattle.tm_core.proofs.Joins.{legal_logs_join}
use Rattle.tm_laws.specs.Objects.{on_object, runs_for, runs_of, ObjectsRun, OnePlaceRuns}
use Rattle.tm_pair.specs.Plain.{client_at, trustee_at}
use Rattle.tm_asking.specs.Questions.{requests_at, replies_at, HasAskedAll}
use Rattle.tm_course.proofs.Idle.{idle_logs_are_quiet}
use Rattle.tm_rest.specs.Resting.{asks_told, NothingCounts}
use Rattle.tm_rest.proofs.Idle.{rests_are_idle}
use Rattle.tm_rest.proofs.Runs.{runs_in, runs_are}
use Rattle.tm_trustee.specs.NestedAsks.{IsApply, replies_of}
use Rattle.tm_turns.specs.Whole.{HasLane}
use Rattle.mc_item.specs.declared.limits.TheConstants.{CLASSES}
use Rattle.mc_model.specs.declared.reply.ShardReply.{ShardReply}
use Rattle.mc_model.specs.declared.reply.ShardReply.TheVariants.{Missing}
use Rattle.mc_model.specs.Class.{Class}
use Rattle.mc_model.specs.Plain.{Part}
use Rattle.mc_laws.specs.Replies.{AreClassParts}
use Rattle.mc_shard.specs.declared.op.ShardOp.{ShardOp}
use Rattle.mc_route.specs.Laws.{ClassesAreFound}
use Rattle.mc_route.specs.Places.{StoreValue, trustee_of, index_of, store_first}
use Rattle.mc_route.specs.Plans.{shard_part}
use Rattle.mc_next.specs.Parts.{Named, StoreTask, StoreQuestion, part_asked, store_kind}
use Rattle.mc_next.specs.Works.{StoreState}
use Rattle.mc_solo.specs.Serving.{StoreTurns, store_config, LogsGrow}
use Rattle.mc_store_laws.specs.Parts.{runs_at, PartsRun, ValuesAreClasses}
use Rattle.mc_alone.specs.Classes.{StoreLane, StoreTrustee, IsLaunch, StandsAt}
use Rattle.mc_alone.proofs.Openings.{opening, trustee_within}
use Rattle.mc_alone.proofs.Grown.{StoreLog, OfStore, lane_of, trustee_at_number, is_opening, grew, nested, others_none}
use Rattle.mc_alone.proofs.Parts.{parts_runs, parts_apply, parts_elsewhere}
use Rattle.mc_alone.proofs.Stepping.{Stepped, stepped}

-- an answer that may come to a request fits it
served_fits : (s : StoreState) (c : ℕ) (q : Request StoreValue ShardOp ShardReply StoreTask) (a : Answer StoreValue ShardOp ShardReply StoreTask) → Serves store_kind s c q a → Fits q a
served_fits s c (Entrust v) (Entrusted name) may = tt
served_fits s c (Entrust v) (NotEntrusted ObjectsFull back) may = may.0
served_fits s c (Entrust v) (NotEntrusted SerialsSpent back) may = may.0
served_fits s c (Entrust v) _ may = absurd may
served_fits s c (Apply n op) (Replied r) may = tt
served_fits s c (Apply n op) _ may = absurd may.1
served_fits s c (Launch n task) (Launched ticket) may = tt
served_fits s c (Launch n task) (TicketsSpent back) may = may.1.0
served_fits s c (Launch n task) _ may = absurd may.1
served_fits s c (Grant n d) Granted may = tt
served_fits s c (Grant n d) Gone may = tt
served_fits s c (Grant n d) GiftsFull may = tt
served_fits s c (Grant n d) _ may = absurd may.2
served_fits s c (Release n) Released may = tt
served_fits s c (Release n) _ may = let other = may.1 in absurd (cc)
served_fits s c (Reclaim n) (Reclaimed v) may = tt
served_fits s c (Reclaim n) Shared may = tt
served_fits s c (Reclaim n) _ may = absurd may.1
served_fits s c Bye ByeDone may = tt
served_fits s c Bye _ may = absurd (cc)

-- so do all answers of a log
pub log_fits : (s : StoreState) (c : ℕ) (log : StoreLog) → IsLegal store_kind s log → AllZip Fits (ran c log) (answered c log)
log_fits s c [] legal = tt
log_fits s c (By d k q a ∷ es) legal =
    let more = log_fits (after store_kind s (By d k q a)) c es legal.1 in
    let first = served_fits s d q a legal.0.2 in
    elim (d == c) as (λ t. AllZip Fits (cond t (q ∷ ran c es) (ran c es)) (cond t (a ∷ answered c es) (answered c es))) [ true ↦ (first, more) | false ↦ more ]
log_fits s c (Resume id ticket event next ∷ es) legal = log_fits (after store_kind s (Resume id ticket event next)) c es legal.1
log_fits s c (Sent d room ∷ es) legal = log_fits (after store_kind s (Sent d room)) c es legal.1

all_behind : {X : Type 0} (P : X → Type 0) (xs ys : List X) → AllByRecursion P xs → AllByRecursion P ys → AllByRecursion P (xs ++ ys)
all_behind P [] ys h k = k
all_behind P (x ∷ xs) ys h k = (h.0, all_behind P xs ys h.1 k)

module _ (trustees bound : ℕ) (fewest : 2 ≤ trustees) (found : ClassesAreFound) (objects_run : ObjectsRun store_kind) (one_place : OnePlaceRuns StoreValue ShardOp ShardReply StoreTask)
    (values_are : ValuesAreClasses) (parts_run : PartsRun) (named : Named) (names : (c : ℕ) → c < CLASSES → (named c).id ≡ index_of c trustees + 1)
    (n : ℕ) (classes : List Class) (old new : StoreTurns) (st : StandsAt trustees bound n classes old) (are : OfStore trustees bound new) (none : NothingCounts new) (logs : LogsGrow old new)
    (moment : ℕ) (parts : List Part) (replies : List ShardReply) (many : length replies ≡ length parts) where
  abbrev pub qs : List StoreQuestion
  qs = map (part_asked named trustees) (map (shard_part moment) parts)

  module _ (asked : (t : ℕ) (lane becomes : StoreLane) → HasLane old 0 t lane → HasLane new 0 t becomes
      → HasAskedAll Missing (requests_at t qs) (replies_at t qs replies) (client_at lane.side) (client_at becomes.side)) where
    applies_more : (t : ℕ) → 1 ≤ t → AllByRecursion IsApply (requests_at t qs)
    applies_more t above = parts_apply named trustees moment t parts

    launches_now : (lane : StoreLane) → HasLane new 0 0 lane → AllByRecursion IsLaunch (client_at lane.side).sent × (length (client_at lane.side).sent ≤ n + 1)
    launches_now lane has =
        let (was, had) = lane_of trustees bound old st.are 0 (omega (arith, fewest)) in
        let (all, few) = st.launches was had in
        let same : (client_at lane.side).sent ≡ (client_at was.side).sent =
        (asked 0 was lane had has).sent ∙ ap (λ l. (client_at was.side).sent ++ l) (parts_elsewhere named trustees moment parts) ∙ append-nil (client_at was.side).sent in
        let long = ap length same in
        (subst (AllByRecursion IsLaunch) (sym same) all, omega (arith, few, long))

    own_is : (class : ℕ) (x y : StoreTrustee) (lt : trustee_of class trustees < trustees) → class < CLASSES → (of_x : slice_get old.trustees.items (trustee_of class trustees) ≡ Some x)
        → (of_y : slice_get new.trustees.items (trustee_of class trustees) ≡ Some y)
        → runs_of (index_of class trustees + 1) (grew trustees bound n classes old new st are none logs qs replies asked applies_more (trustee_of class trustees) x y lt of_x of_y).es
        ≡ runs_at moment class parts replies
    own_is class x y lt below of_x of_y =
        let t = trustee_of class trustees in
        let id = index_of class trustees + 1 in
        let (above, within) = trustee_within trustees bound found fewest class in
        let some : 0 < trustees = omega (arith, fewest) in
        let (x0, of_x0) = trustee_at_number trustees bound old st.are 0 some in
        let (y0, of_y0) = trustee_at_number trustees bound new are 0 some in
        let g = grew trustees bound n classes old new st are none logs qs replies asked applies_more t x y lt of_x of_y in
        let g0 = grew trustees bound n classes old new st are none logs qs replies asked applies_more 0 x0 y0 some of_x0 of_y0 in
        let o = opening trustees bound 0 in
        let idle = rests_are_idle ℕ store_kind (store_config 1 trustees) (store_first 1 trustees bound) old 0 x0 st.are st.none of_x0 in
        let quiet = idle_logs_are_quiet store_kind o (trustee_at x0.side).log g0.es (is_opening trustees bound new are 0 some) g0.legal idle.works
        (λ c one. ap (λ k. ran k g0.es) (let zero_is : c ≡ 0 = omega (arith, one) in zero_is) ∙ g0.ran_is ∙ parts_elsewhere named trustees moment parts) t in
        let no_ask : runs_for 1 g.es ≡ [] =
        nested trustees bound n classes old new st are none logs qs replies asked applies_more t x y x0 y0 lt of_x of_y some of_x0 of_y0 above
        ∙ ap (λ l. asks_told l (replies_of store_kind (state_after store_kind o (trustee_at x0.side).log) t g0.es)) quiet.0 in
        let fits_all = log_fits (state_after store_kind (opening trustees bound t) (trustee_at x.side).log) 0 g.es
        ((legal_logs_join store_kind (opening trustees bound t) (trustee_at x.side).log g.es).0 g.legal).1 in
        let fits : AllZip Fits (requests_at t qs) (answered 0 g.es) = subst (λ l. AllZip Fits l (answered 0 g.es)) g.ran_is fits_all in
        one_place 0 id g.es
        (λ c ne. elim (cases_eq c 1) [
          | inl e ↦ subst (λ k. runs_for k g.es ≡ []) (sym e) no_ask
          | inr other ↦ others_none trustees bound n classes old new st are none logs qs replies asked applies_more t x y lt of_x of_y c (omega (arith, ne, other))
        ])
        ∙ ap (on_object id) (runs_are 0 g.es ∙ ap (λ l. runs_in l (answered 0 g.es)) g.ran_is)
        ∙ parts_runs named trustees moment class names below g.grown parts replies (answered 0 g.es) many fits g.answers

    step : Stepped trustees bound fewest found objects_run values_are n classes old new st are none logs qs replies asked applies_more launches_now (λ class. runs_at moment class parts replies) own_is
    step = stepped trustees bound fewest found objects_run values_are n classes old new st are none logs qs replies asked applies_more launches_now (λ class. runs_at moment class parts replies) own_is

    pub parts_reply : (after : List Class) × StandsAt trustees bound (n + 1) after new × AreClassParts classes parts moment after replies
    parts_reply = (step.after, step.stands, parts_run classes step.after parts moment replies st.many step.many many step.runs)
