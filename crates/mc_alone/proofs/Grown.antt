-- Two states of a store with one client, at neither of which a request counts: what its trustees did between them.
use Rattle.std.proofs.Common.{◌≡◌, ◌≢◌, ℕ, ◌+◌, ◌-◌, ◌<◌, ◌≤◌, inl, inr, cond, List, [], ◌∷◌, ◌++◌, refl, sym, ◌∙◌, ap, subst, arith, ne_eqb}
use Rattle.std.specs.Prelude.{slice_get}
use Rattle.std.specs.List.{AllByRecursion, AllZip}
use Rattle.std.specs.declared.option.Option.TheVariants.{Some}
use Rattle.std.proofs.lemmas.Bool.{cases_eq, cases_lt}
use Rattle.std.proofs.lemmas.Option.{slice_get_within}
use Rattle.tm_batch.specs.declared.message.Request.{Request}
use Rattle.tm_batch.specs.declared.message.Request.TheVariants.{Apply}
use Rattle.tm_batch.specs.declared.message.Answer.TheVariants.{Replied}
use Rattle.tm_model.specs.declared.entry.Entry.{Entry}
use Rattle.tm_model.specs.declared.entry.Entry.TheVariants.{By}
use Rattle.tm_model.specs.Serve.{after, state_after}
use Rattle.tm_model.specs.Legal.{IsLegal}
use Rattle.tm_model.specs.Laws.{IsOpening}
use Rattle.tm_model.specs.Ran.{mark_of, ran, answered}
use Rattle.tm_model.specs.Holds.{launches_in}
use Rattle.tm_core.proofs.Marks.{ran-append}
use Rattle.tm_core.proofs.Ordered.{IsOrdered, after_ordered, opening_ordered}
use Rattle.tm_laws.specs.Objects.{runs_for}
use Rattle.tm_pair.specs.Plain.{client_at, trustee_at}
use Rattle.tm_asking.specs.Questions.{requests_at, replies_at, IsReplyOf, HasAskedAll}
use Rattle.tm_rest.specs.Resting.{asks_told, NothingCounts}
use Rattle.tm_rest.proofs.Idle.{rests_are_idle}
use Rattle.tm_trustee.specs.NestedAsks.{IsApply, asks_of, replies_of}
use Rattle.tm_trustee.proofs.Elements.{element_at}
use Rattle.tm_trustee.proofs.Runs.{asks_of-append, replies_of-append}
use Rattle.tm_turns.specs.Whole.{HasLane, AreOf}
use Rattle.tm_turns.proofs.TurnKeeps.{place_of_lane}
use Rattle.tm_turns.proofs.Unlaunched.{launches_none}
use Rattle.mc_model.specs.declared.reply.ShardReply.{ShardReply}
use Rattle.mc_model.specs.declared.reply.ShardReply.TheVariants.{Missing}
use Rattle.mc_model.specs.Class.{Class}
use Rattle.mc_shard.specs.declared.op.ShardOp.{ShardOp}
use Rattle.mc_route.specs.Places.{StoreValue, store_first}
use Rattle.mc_next.specs.Parts.{StoreTask, StoreQuestion, store_kind}
use Rattle.mc_next.specs.Works.{StoreState}
use Rattle.mc_solo.specs.Serving.{StoreTurns, store_config, LogsGrow}
use Rattle.mc_alone.specs.Classes.{StoreLane, StoreTrustee, StandsAt}
use Rattle.mc_alone.proofs.Openings.{opening}
use Rattle.mc_alone.proofs.Growth.{AskNothing, asks_nothing, opens_idle, place_grew, runs_for-append, nested_grew}

abbrev pub StoreLog : Type 0
StoreLog = List (Entry StoreValue ShardOp ShardReply StoreTask)

nothing_in : {X : Type 0} (xs ys : List X) → xs ++ ys ≡ [] → ys ≡ []
nothing_in [] ys e = e
nothing_in (x ∷ xs) ys e = absurd cc

-- applies launch nothing
pub apply_launches : (qs : List (Request StoreValue ShardOp ShardReply StoreTask)) → AllByRecursion IsApply qs → launches_in qs ≡ 0
apply_launches [] all = refl
apply_launches (Apply n op ∷ qs) all = apply_launches qs all.1
apply_launches (_ ∷ qs) all = absurd all.0

all_both : {X : Type 0} (P : X → Type 0) (xs ys : List X) → AllByRecursion P xs → AllByRecursion P ys → AllByRecursion P (xs ++ ys)
all_both P [] ys h k = k
all_both P (x ∷ xs) ys h k = (h.0, all_both P xs ys h.1 k)

-- places that a table does not have run nothing
beyond : (n c : ℕ) (s : StoreState) (es : StoreLog) → IsLegal store_kind s es → IsOrdered n s → n ≤ c → runs_for c es ≡ []
beyond n c s [] legal ordered le = refl
beyond n c s (By d k (Apply m op) (Replied r) ∷ es) legal ordered le =
    let lt = legal.0.0 in
    let count = ordered.count in
    let ne : d ≢ c = λ e. omega (arith, lt, count, le, e) in
    ap (λ t. cond t (record { id = m.id; op = op; reply = r } ∷ runs_for c es) (runs_for c es)) (ne_eqb d c ne)
    ∙ beyond n c (after store_kind s (By d k (Apply m op) (Replied r))) es legal.1 (after_ordered store_kind n s (By d k (Apply m op) (Replied r)) legal.0 ordered) le
beyond n c s (e ∷ es) legal ordered le = beyond n c (after store_kind s e) es legal.1 (after_ordered store_kind n s e legal.0 ordered) le

module _ (trustees bound : ℕ) where
  -- a state of a store with one client
  abbrev pub OfStore : StoreTurns → Type 0
  OfStore turns = AreOf store_kind (store_config 1 trustees) (store_first 1 trustees bound) turns

  -- what its client keeps for a trustee
  pub lane_of : (turns : StoreTurns) → OfStore turns → (t : ℕ) → t < trustees → (lane : StoreLane) × HasLane turns 0 t lane
  lane_of turns are t lt =
      let clients = are.as_many_clients in
      let (client, of_client) = element_at turns.clients.items 0 (omega (arith, clients)) in
      let (number, many, is) = are.clients 0 client of_client in
      let (lane, of_lane) = element_at client.books.lanes.items t (omega (arith, many, lt)) in
      (lane, record { client = client; of_client = of_client; of_lane = of_lane })

  pub trustee_at_number : (turns : StoreTurns) → OfStore turns → (t : ℕ) → t < trustees → (x : StoreTrustee) × (slice_get turns.trustees.items t ≡ Some x)
  trustee_at_number turns are t lt = let many = are.as_many_trustees in element_at turns.trustees.items t (omega (arith, lt, many))

  pub is_opening : (turns : StoreTurns) → OfStore turns → (t : ℕ) → t < trustees → IsOpening (opening trustees bound t)
  is_opening turns are t lt = (t, store_config 1 trustees, store_first 1 trustees bound, are.buildable, lt, refl)

  -- trustees that nobody launches at ask nothing
  pub quiet_trustee :
      (turns : StoreTurns) (are : OfStore turns) → NothingCounts turns → ((t : ℕ) (lane : StoreLane) → 1 ≤ t → HasLane turns 0 t lane → AllByRecursion IsApply (client_at lane.side).sent)
      → (t : ℕ) (x : StoreTrustee) → 1 ≤ t → t < trustees → slice_get turns.trustees.items t ≡ Some x
      → AskNothing store_kind (1 + t) (opening trustees bound t).setup (trustee_at x.side).log
  quiet_trustee turns are none applies t x above lt of =
      let idle = rests_are_idle ℕ store_kind (store_config 1 trustees) (store_first 1 trustees bound) turns t x are none of in
      let o = opening trustees bound t in
      let (lane, has) = lane_of turns are t lt in
      asks_nothing store_kind (1 + t) o.setup o (trustee_at x.side).log idle.is_legal (opening_ordered o (is_opening turns are t lt)) (opens_idle o (is_opening turns are t lt))
      (λ c below. elim (cases_eq c 0) [
        | inl e ↦
            ap (λ k. launches_in (ran k (trustee_at x.side).log)) e
            ∙ ap launches_in (idle.ran_all 0 lane has) ∙ apply_launches (client_at lane.side).sent (applies t lane above has)
        | inr ne ↦
            let u : ℕ = c - 1 in
            let is : c ≡ 1 + u = omega (arith, ne) in
            ap (λ k. launches_in (ran k (trustee_at x.side).log)) is ∙ launches_none (ran (1 + u) (trustee_at x.side).log) (idle.only u (omega (arith, below, ne)))
      ])

  module _ (n : ℕ) (classes : List Class) (old new : StoreTurns) (st : StandsAt trustees bound n classes old) (are : OfStore new) (none : NothingCounts new) (logs : LogsGrow old new)
      (qs : List StoreQuestion) (replies : List ShardReply)
      (asked : (t : ℕ) (lane becomes : StoreLane) → HasLane old 0 t lane → HasLane new 0 t becomes
      → HasAskedAll Missing (requests_at t qs) (replies_at t qs replies) (client_at lane.side) (client_at becomes.side))
      (applies_more : (t : ℕ) → 1 ≤ t → AllByRecursion IsApply (requests_at t qs)) where
    -- so it is with all that the client has sent now
    pub applies_now : (t : ℕ) (lane : StoreLane) → t < trustees → 1 ≤ t → HasLane new 0 t lane → AllByRecursion IsApply (client_at lane.side).sent
    applies_now t lane lt above has =
        let (was, had) = lane_of old st.are t lt in
        subst (AllByRecursion IsApply) (sym (asked t was lane had has).sent) (all_both IsApply (client_at was.side).sent (requests_at t qs) (st.applies t was above had) (applies_more t above))

    lane_below : (t : ℕ) (lane : StoreLane) → HasLane new 0 t lane → t < trustees
    lane_below t lane has = let (number, many, is) = are.clients 0 has.client has.of_client in let lt = slice_get_within has.client.books.lanes.items t lane has.of_lane in omega (arith, lt, many)

    pub applies_all : (t : ℕ) (lane : StoreLane) → 1 ≤ t → HasLane new 0 t lane → AllByRecursion IsApply (client_at lane.side).sent
    applies_all t lane above has = applies_now t lane (lane_below t lane has) above has

    -- the client has seen all that it sent
    pub seen_now : (t : ℕ) (lane : StoreLane) → HasLane new 0 t lane → (client_at lane.side).sent ≡ ran 0 (client_at lane.side).seen
    seen_now t lane has =
        let (was, had) = lane_of old st.are t (lane_below t lane has) in
        let h = asked t was lane had has in
        let place = place_of_lane store_kind (store_config 1 trustees) (store_first 1 trustees bound) new 0 t has.client lane are has.of_client has.of_lane in
        h.sent ∙ ap (λ l. l ++ requests_at t qs) (st.seen t was had) ∙ ap (λ l. ran 0 (client_at was.side).seen ++ l) (sym h.runs ∙ ap (λ p. ran p h.grown) place)
        ∙ sym (ran-append mark_of 0 (client_at was.side).seen h.grown) ∙ ap (ran 0) (sym h.seen)

    -- what one trustee did
    pub record Grew (t : ℕ) (x y : StoreTrustee) : Type 0 where
      pub es : StoreLog
      pub grown : StoreLog
      pub log : (trustee_at y.side).log ≡ (trustee_at x.side).log ++ es
      pub legal : IsLegal store_kind (opening trustees bound t) ((trustee_at x.side).log ++ es)
      pub ran_is : ran 0 es ≡ requests_at t qs
      pub answers : AllZip (IsReplyOf Missing grown) (answered 0 es) (replies_at t qs replies)
      -- what the client saw of it stands in the log
      pub seen : (tail : StoreLog) × (before : StoreLog) × ((trustee_at x.side).log ++ es ≡ (before ++ grown) ++ tail)

    pub grew : (t : ℕ) (x y : StoreTrustee) → t < trustees → slice_get old.trustees.items t ≡ Some x → slice_get new.trustees.items t ≡ Some y → Grew t x y
    grew t x y lt of_x of_y =
        let (es, grows) = logs.grow t x y of_x of_y in
        let (lane, has) = lane_of old st.are t lt in
        let (becomes, has_now) = lane_of new are t lt in
        let h = asked t lane becomes has has_now in
        let idle = rests_are_idle ℕ store_kind (store_config 1 trustees) (store_first 1 trustees bound) old t x st.are st.none of_x in
        let now = rests_are_idle ℕ store_kind (store_config 1 trustees) (store_first 1 trustees bound) new t y are none of_y in
        let place = place_of_lane store_kind (store_config 1 trustees) (store_first 1 trustees bound) new 0 t has_now.client becomes are has_now.of_client has_now.of_lane in
        let (before, saw) = idle.seen 0 lane has in
        let (tail, sees) = now.seen 0 becomes has_now in
        let whole : (trustee_at x.side).log ++ es ≡ ((client_at lane.side).seen ++ h.grown) ++ tail = sym grows ∙ sees ∙ ap (λ l. l ++ tail) h.seen in
        let runs : ran 0 h.grown ≡ requests_at t qs = ap (λ p. ran p h.grown) (sym place) ∙ h.runs in
        let both = place_grew 0 (trustee_at x.side).log es (client_at lane.side).seen h.grown tail before (client_at lane.side).sent (requests_at t qs)
        (idle.ran_all 0 lane has) saw (st.seen t lane has) (ap (ran 0) (sym grows) ∙ now.ran_all 0 becomes has_now ∙ h.sent) whole
        (ap (λ l. l ++ requests_at t qs) (st.seen t lane has) ∙ ap (λ l. ran 0 (client_at lane.side).seen ++ l) (sym runs) ∙ sym (ran-append mark_of 0 (client_at lane.side).seen h.grown)) in
        record {
          es = es;
          grown = h.grown;
          log = grows;
          legal = subst (IsLegal store_kind (opening trustees bound t)) grows now.is_legal;
          ran_is = both.0;
          answers = subst (λ l. AllZip (IsReplyOf Missing h.grown) l (replies_at t qs replies)) (ap (λ p. answered p h.grown) place ∙ sym both.1) h.replied;
          seen = (tail, (client_at lane.side).seen, whole);
        }

    -- by what trustee 0 did, the others ran for it what its work asked since, with the replies that it was told
    pub nested :
        (t : ℕ) (x y x0 y0 : StoreTrustee) (lt : t < trustees) (of_x : slice_get old.trustees.items t ≡ Some x) (of_y : slice_get new.trustees.items t ≡ Some y) (some : 0 < trustees)
        (of_x0 : slice_get old.trustees.items 0 ≡ Some x0) (of_y0 : slice_get new.trustees.items 0 ≡ Some y0) → 1 ≤ t
        → runs_for 1 (grew t x y lt of_x of_y).es
        ≡ asks_told (asks_of (opening trustees bound 0).setup t (grew 0 x0 y0 some of_x0 of_y0).es)
        (replies_of store_kind (state_after store_kind (opening trustees bound 0) (trustee_at x0.side).log) t (grew 0 x0 y0 some of_x0 of_y0).es)
    nested t x y x0 y0 lt of_x of_y some of_x0 of_y0 above =
        let g = grew t x y lt of_x of_y in
        let g0 = grew 0 x0 y0 some of_x0 of_y0 in
        let o = opening trustees bound 0 in
        let log0 = (trustee_at x0.side).log in
        let idle = rests_are_idle ℕ store_kind (store_config 1 trustees) (store_first 1 trustees bound) old t x st.are st.none of_x in
        let now = rests_are_idle ℕ store_kind (store_config 1 trustees) (store_first 1 trustees bound) new t y are none of_y in
        nested_grew 1 (trustee_at x.side).log g.es (asks_of o.setup t log0) (asks_of o.setup t g0.es) (replies_of store_kind o t log0)
        (replies_of store_kind (state_after store_kind o log0) t g0.es) (idle.told 0 x0 above of_x0) (idle.nested 0 x0 above of_x0)
        (ap (runs_for 1) (sym g.log) ∙ now.nested 0 y0 above of_y0
        ∙ ap (λ l. asks_told (asks_of o.setup t l) (replies_of store_kind o t l)) g0.log
        ∙ ap (λ l. asks_told l (replies_of store_kind o t (log0 ++ g0.es))) (asks_of-append o.setup t log0 g0.es)
        ∙ ap (λ l. asks_told (asks_of o.setup t log0 ++ asks_of o.setup t g0.es) l) (replies_of-append store_kind o t log0 g0.es))

    -- no other place ran an operation
    pub others_none :
        (t : ℕ) (x y : StoreTrustee) (lt : t < trustees) (of_x : slice_get old.trustees.items t ≡ Some x) (of_y : slice_get new.trustees.items t ≡ Some y) (c : ℕ) → 2 ≤ c
        → runs_for c (grew t x y lt of_x of_y).es ≡ []
    others_none t x y lt of_x of_y c le =
        let g = grew t x y lt of_x of_y in
        let o = opening trustees bound t in
        let start = opening_ordered o (is_opening new are t lt) in
        let none_of : runs_for c ((trustee_at x.side).log ++ g.es) ≡ [] = elim (cases_lt c (1 + t)) [
          | inl inside ↦
              let u : ℕ = c - 1 in
              let is : c ≡ 1 + u = omega (arith, le) in
              let now = rests_are_idle ℕ store_kind (store_config 1 trustees) (store_first 1 trustees bound) new t y are none of_y in
              let (z, of_z) = trustee_at_number new are u (omega (arith, inside, lt)) in
              let quiet = quiet_trustee new are none applies_all u z (omega (arith, le)) (omega (arith, inside, lt)) of_z in
              ap (runs_for c) (sym g.log) ∙ ap (λ k. runs_for k (trustee_at y.side).log) is ∙ now.nested u z (omega (arith, inside, le)) of_z
              ∙ ap (λ l. asks_told l (replies_of store_kind (opening trustees bound u) t (trustee_at z.side).log)) (quiet.asks t)
          | inr outside ↦ beyond (1 + t) c o ((trustee_at x.side).log ++ g.es) g.legal start (omega (arith, outside))
        ] in
        nothing_in (runs_for c (trustee_at x.side).log) (runs_for c g.es) (sym (runs_for-append c (trustee_at x.side).log g.es) ∙ none_of)
