-- Commands one after another: the classes reply to each.
use Rattle.std.proofs.Common.{◌≡◌, ℕ, suc, ◌+◌, ◌^◌, ◌<◌, ◌≤◌, List, [], ◌∷◌, length, map, refl, sym, ◌∙◌, ap, subst, arith}
use Rattle.std.specs.Prelude.{slice_get}
use Rattle.std.specs.declared.option.Option.TheVariants.{Some}
use Rattle.std.proofs.lemmas.List.{length-map}
use Rattle.std.proofs.lemmas.Option.{slice_get_within}
use Rattle.tm_laws.specs.Objects.{ObjectsRun, OnePlaceRuns}
use Rattle.tm_pair.specs.Plain.{client_at}
use Rattle.tm_asking.specs.Asking.{side_in, sides_of}
use Rattle.tm_asking.specs.Questions.{requests_at, replies_at, HasAskedAll}
use Rattle.tm_rest.specs.Resting.{NothingCounts}
use Rattle.tm_turns.specs.Whole.{HasLane}
use Rattle.mc_item.specs.declared.limits.TheConstants.{CLASSES}
use Rattle.mc_model.specs.declared.message.Command.{Command}
use Rattle.mc_model.specs.declared.message.Command.TheVariants as command
use Rattle.mc_model.specs.declared.reply.ShardReply.{ShardReply}
use Rattle.mc_model.specs.declared.reply.ShardReply.TheVariants.{Missing}
use Rattle.mc_model.specs.Class.{Class}
use Rattle.mc_model.specs.Plain.{Part, parts_of}
use Rattle.mc_laws.specs.Replies.{AreClassParts, ClassesReply, ClassesRun}
use Rattle.mc_shard.specs.declared.op.ShardOp.{ShardOp}
use Rattle.mc_route.specs.declared.desk.DeskTask.{DeskTask}
use Rattle.mc_route.specs.declared.planning.Ask.TheVariants as ask
use Rattle.mc_route.specs.Laws.{ClassesAreFound}
use Rattle.mc_route.specs.Places.{StoreValue, index_of, store_first}
use Rattle.mc_route.specs.Plans.{ask_of, shard_part}
use Rattle.mc_next.specs.Parts.{Named, StoreTask, StoreView, StoreQuestion, part_asked, questions_of, questions_each, store_kind}
use Rattle.mc_next.specs.Works.{launch_asked}
use Rattle.mc_next.specs.Runs.{HaveReplies, AreAskedInTurn}
use Rattle.mc_solo.specs.Serving.{StoreTurns, StoreClient, store_view, store_config, IsMark, AreMarked}
use Rattle.mc_store_laws.specs.Parts.{PartsRun, ValuesAreClasses}
use Rattle.mc_desk_laws.specs.Desk.{DeskCoursesAreReplies}
use Rattle.mc_alone.specs.Classes.{StoreLane, StandsAt}
use Rattle.mc_alone.proofs.Grown.{OfStore}
use Rattle.mc_alone.proofs.Launching.{launch_replies}
use Rattle.mc_alone.proofs.Replying.{parts_reply}

-- the laws of the crates below
pub record Laws : Type 0 where
  pub found : ClassesAreFound
  pub objects_run : ObjectsRun store_kind
  pub one_place : OnePlaceRuns StoreValue ShardOp ShardReply StoreTask
  pub values_are : ValuesAreClasses
  pub parts_run : PartsRun
  pub desk_replies : DeskCoursesAreReplies

-- the names of the store's objects
pub record AreNames (trustees : ℕ) (named : Named) : Type 0 where
  pub classes : (c : ℕ) → c < CLASSES → (named c).id ≡ index_of c trustees + 1
  pub desk : (named CLASSES).id ≡ 1

module _ (trustees bound : ℕ) (fewest : 2 ≤ trustees) (laws : Laws) (named : Named) (names : AreNames trustees named) where
  module _ (n : ℕ) (classes : List Class) (old new : StoreTurns) (st : StandsAt trustees bound n classes old) (mark : ℕ → StoreView) (marked : IsMark 0 old new mark) where
    are : OfStore trustees bound new
    are = marked.goes.keeps (store_config 1 trustees) (store_first 1 trustees bound) st.are

    none : NothingCounts new
    none c t lane has =
        let many = are.as_many_clients in
        let lt = slice_get_within new.clients.items c has.client has.of_client in
        let first : c ≡ 0 = omega (arith, lt, many) in
        let both : Some has.client ≡ Some marked.client = sym has.of_client ∙ ap (λ k. slice_get new.clients.items k) first ∙ marked.of_client in
        let same : has.client ≡ marked.client = cc in
        let here : slice_get marked.client.books.lanes.items t ≡ Some lane = ap (λ (x : StoreClient). slice_get x.books.lanes.items t) (sym same) ∙ has.of_lane in
        (marked.none t lane here, marked.all_open t lane here)

    -- the mark is what the client's sides stand for
    side_there : (t : ℕ) (lane : StoreLane) → HasLane new 0 t lane → mark t ≡ client_at lane.side
    side_there t lane has =
        let both : Some has.client ≡ Some marked.client = sym has.of_client ∙ marked.of_client in
        let same : has.client ≡ marked.client = cc in
        ap (λ m. m t) marked.mark_is ∙ ap (λ (x : StoreClient). sides_of store_view x.books t) (sym same) ∙ ap (λ o. side_in store_view t o) has.of_lane

    module _ (before : ℕ → StoreView) (before_is : (t : ℕ) (lane : StoreLane) → HasLane old 0 t lane → before t ≡ client_at lane.side) (qs : List StoreQuestion) (replies : List ShardReply)
        (asked : (t : ℕ) → t < trustees → HasAskedAll Missing (requests_at t qs) (replies_at t qs replies) (before t) (mark t)) where
      asked_lanes : (t : ℕ) (lane becomes : StoreLane) → HasLane old 0 t lane → HasLane new 0 t becomes
          → HasAskedAll Missing (requests_at t qs) (replies_at t qs replies) (client_at lane.side) (client_at becomes.side)
      asked_lanes t lane becomes has has_now =
          let (number, many, is) = are.clients 0 has_now.client has_now.of_client in
          let lt = slice_get_within has_now.client.books.lanes.items t becomes has_now.of_lane in
          subst (λ v. HasAskedAll Missing (requests_at t qs) (replies_at t qs replies) v (client_at becomes.side)) (before_is t lane has)
          (subst (λ v. HasAskedAll Missing (requests_at t qs) (replies_at t qs replies) (before t) v) (side_there t becomes has_now) (asked t (omega (arith, lt, many))))

    -- what the classes reply to a command
    Replied : Command → ℕ → List ShardReply → Type 0
    Replied c moment replies = (after : List Class) × StandsAt trustees bound (n + 1) after new × ClassesReply classes c moment after replies

    module _ (before : ℕ → StoreView) (before_is : (t : ℕ) (lane : StoreLane) → HasLane old 0 t lane → before t ≡ client_at lane.side) (moment : ℕ) where
      of_parts : (parts : List Part) (replies : List ShardReply) → length (map (part_asked named trustees) (map (shard_part moment) parts)) ≡ length replies
          → ((t : ℕ) → t < trustees → HasAskedAll Missing (requests_at t (map (part_asked named trustees) (map (shard_part moment) parts))) (replies_at t (map (part_asked named trustees) (map (shard_part moment) parts)) replies) (before t) (mark t))
          → (after : List Class) × StandsAt trustees bound (n + 1) after new × AreClassParts classes parts moment after replies
      of_parts parts replies many asked =
          let one = length-map (map (shard_part moment) parts) (part_asked named trustees) in
          let two = length-map parts (shard_part moment) in
          parts_reply trustees bound fewest laws.found laws.objects_run laws.one_place laws.values_are laws.parts_run named names.classes n classes old new st are none marked.goes.logs moment parts replies
          (omega (arith, many, one, two)) (asked_lanes before before_is (map (part_asked named trustees) (map (shard_part moment) parts)) replies asked)

      of_launch : (c : Command) (task : DeskTask) (replies : List ShardReply) → ask_of c moment trustees ≡ ask.Desk task → n + 1 < 2 ^ 64 → length replies ≡ 1
          → ((t : ℕ) → t < trustees → HasAskedAll Missing (requests_at t (launch_asked named task ∷ [])) (replies_at t (launch_asked named task ∷ []) replies) (before t) (mark t))
          → (after : List Class) × StandsAt trustees bound (n + 1) after new × ClassesReply classes c moment after replies
      of_launch c task [] of_command left many asked = absurd (omega (arith, many))
      of_launch c task (r ∷ []) of_command left many asked =
          launch_replies trustees bound fewest laws.found laws.objects_run laws.one_place laws.values_are laws.desk_replies named names.desk n classes old new st are none marked.goes.logs c moment task of_command left r
          (asked_lanes before before_is (launch_asked named task ∷ []) (r ∷ []) asked)
      of_launch c task (r ∷ q ∷ replies) of_command left many asked = absurd (omega (arith, many))

      Asked : List StoreQuestion → List ShardReply → Type 0
      Asked qs replies = (t : ℕ) → t < trustees → HasAskedAll Missing (requests_at t qs) (replies_at t qs replies) (before t) (mark t)

      replied : (c : Command) (replies : List ShardReply) → n + 1 < 2 ^ 64 → length (questions_of named trustees c moment) ≡ length replies
          → Asked (questions_of named trustees c moment) replies → Replied c moment replies
      unfolding Replied Asked
      replied (command.Store how key flags exptime value quiet) replies left many asked = of_parts (parts_of (command.Store how key flags exptime value quiet)) replies many asked
      replied (command.Get keys with_cas) replies left many asked = of_parts (parts_of (command.Get keys with_cas)) replies many asked
      replied (command.GetTouch exptime keys with_cas) replies left many asked = of_parts (parts_of (command.GetTouch exptime keys with_cas)) replies many asked
      replied (command.Delete key quiet) replies left many asked = of_parts (parts_of (command.Delete key quiet)) replies many asked
      replied (command.Change up key by quiet) replies left many asked = of_parts (parts_of (command.Change up key by quiet)) replies many asked
      replied (command.Touch key exptime quiet) replies left many asked = of_parts (parts_of (command.Touch key exptime quiet)) replies many asked
      replied (command.FlushAll delay quiet) replies left many asked = of_launch (command.FlushAll delay quiet) _ replies refl left (sym many) asked
      replied command.Stats replies left many asked = of_launch command.Stats _ replies refl left (sym many) asked
      replied command.Version replies left many asked = of_parts [] replies many asked
      replied (command.Verbosity quiet) replies left many asked = of_parts [] replies many asked
      replied command.Quit replies left many asked = of_parts [] replies many asked

  here : (c : Command) (more moment : ℕ) (rs : List ShardReply) (n : ℕ) (classes : List Class) (old new : StoreTurns) (st : StandsAt trustees bound n classes old) (mark : ℕ → StoreView)
      → IsMark 0 old new mark → (before : ℕ → StoreView) → ((t : ℕ) (lane : StoreLane) → HasLane old 0 t lane → before t ≡ client_at lane.side) → n + suc more < 2 ^ 64
      → length (questions_of named trustees c moment) ≡ length rs
      → ((t : ℕ) → t < trustees → HasAskedAll Missing (requests_at t (questions_of named trustees c moment)) (replies_at t (questions_of named trustees c moment) rs) (before t) (mark t))
      → (after : List Class) × StandsAt trustees bound (n + 1) after new × ClassesReply classes c moment after rs
  unfolding Replied Asked
  here c more moment rs n classes old new st mark marked before before_is few many asked = replied n classes old new st mark marked before before_is moment c rs (omega (arith, few)) many asked

  -- all commands, through states at which the client stood at these marks
  pub chain :
      (commands : List Command) (moments : List ℕ) (replies : List (List ShardReply)) (before : ℕ → StoreView) (marks : List (ℕ → StoreView)) (states : List StoreTurns)
      (n : ℕ) (classes : List Class) (turns : StoreTurns) → StandsAt trustees bound n classes turns → ((t : ℕ) (lane : StoreLane) → HasLane turns 0 t lane → before t ≡ client_at lane.side)
      → length moments ≡ length commands → n + length commands < 2 ^ 64 → HaveReplies (questions_each named trustees commands moments) replies
      → AreAskedInTurn trustees (questions_each named trustees commands moments) replies before marks → AreMarked 0 turns states marks
      → (after : List Class) × ClassesRun classes commands moments replies after
  chain [] (moment ∷ moments) replies before marks states n classes turns st before_is many few each asked marked = absurd (omega (arith, many))
  chain [] [] [] before marks states n classes turns st before_is many few each asked marked = (classes, (refl, refl, refl))
  chain [] [] (rs ∷ replies) before marks states n classes turns st before_is many few each asked marked = absurd each
  chain (c ∷ commands) [] replies before marks states n classes turns st before_is many few each asked marked = absurd (omega (arith, many))
  chain (c ∷ commands) (moment ∷ moments) [] before marks states n classes turns st before_is many few each asked marked = absurd each
  chain (c ∷ commands) (moment ∷ moments) (rs ∷ replies) before [] states n classes turns st before_is many few each asked marked = absurd asked
  chain (c ∷ commands) (moment ∷ moments) (rs ∷ replies) before (mark ∷ marks) [] n classes turns st before_is many few each asked marked = absurd marked
  chain (c ∷ commands) (moment ∷ moments) (rs ∷ replies) before (mark ∷ marks) (mid ∷ states) n classes turns st before_is many few each asked marked =
      let (next, stands, reply) = here c (length commands) moment rs n classes turns mid st mark marked.0 before before_is few each.0 asked.0 in
      let (after, rest) = chain commands moments replies mark marks states (n + 1) next mid stands (λ t lane has. side_there n classes turns mid st mark marked.0 t lane has)
      (omega (arith, many)) (omega (arith, few)) each.1 asked.1 marked.1 in
      (after, (next, moment, moments, rs, replies, refl, refl, reply, rest))
