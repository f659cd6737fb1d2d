-- What is still to do of the whole, as a number, which no turn raises, and each lessens that moves more than light batches.
use Rattle.std.proofs.Common.{◌≡◌, ℕ, zero, suc, ◌+◌, ◌-◌, ◌≤◌, ◌<◌, ◌⊎◌, inl, inr, Bool, List, [], ◌∷◌, length, length-set, refl, sym, ◌∙◌, ap, subst, arith}
use Rattle.std.specs.Prelude.{slice_get, slice_set}
use Rattle.std.specs.declared.option.Option.TheVariants.{Some}
use Rattle.std.proofs.lemmas.Bool.{cases_eq}
use Rattle.std.proofs.lemmas.Option.{slice_get_within}
use Rattle.tm_seq.specs.Kind.{Kind, KindLaws}
use Rattle.tm_batch.specs.declared.config.Config.{Config}
use Rattle.tm_batch.specs.declared.config.First.{First}
use Rattle.tm_model.specs.State.{State, place_count}
use Rattle.tm_model.specs.Slots.{slot_of}
use Rattle.tm_pair.specs.Plain.{opening_at, core_at, client_at, trustee_at, plain_theory}
use Rattle.tm_pair.specs.declared.plain.PlainTable.{PlainTable}
use Rattle.tm_state.specs.Asking.{HaveAllEnded}
use Rattle.tm_trustee.specs.Serving.{IsServing, resumes_in, done_by}
use Rattle.tm_trustee.specs.declared.served.Served.{Served}
use Rattle.tm_trustee.proofs.Elements.{set_other, set_here, there_too, same_element}
use Rattle.tm_trustee.proofs.TurningReady.{at_home, own_table}
use Rattle.tm_client.specs.Clients.{total}
use Rattle.tm_client.specs.declared.answers.Turn.{Turn}
use Rattle.tm_client.proofs.Elements.{total_set}
use Rattle.tm_turns.specs.Whole.{OneClient, OneTrustee, HasLane, AreOf, AreTurns, Keeps}
use Rattle.tm_turns.specs.Going.{TurnsAt, TurnsBelow, ServesAt, Goes, AllGo}
use Rattle.tm_turns.specs.declared.turns.Turns.{Turns}
use Rattle.tm_turns.proofs.Works.{begun}
use Rattle.tm_turns.proofs.Spending.{spends, spends_most, grows_resumes}
use Rattle.tm_turns.proofs.Light.{core_weight, begun-append, resumes_begun}
use Rattle.tm_turns.proofs.ServedWeighs.{IsLightSlot, places_weigh}
use Rattle.tm_turns.proofs.Weights.{IsLight, lane_weight, turn_falls}
use Rattle.tm_turns.proofs.Pendings.{fetch_cause}
use Rattle.tm_turns.proofs.WeightsUp.{tables_weight, sides_weight, moved_at, ups_fall}

-- a trustee: the work that it accepted, less what it resumed and sent above, and its sides there
abbrev pub trustee_weight : {V O R T : Type 0} → Kind V O R T → OneTrustee V O R T → ℕ
trustee_weight kind trustee =
    (begun kind (done_by (plain_theory kind) trustee) - spends (plain_theory kind) trustee) + sides_weight kind trustee.above.items

abbrev pub client_weight : {V C O R T : Type 0} → Kind V O R T → OneClient V C O R T → ℕ
client_weight kind client = total (lane_weight kind) client.books.lanes.items

module _ {V O R T : Type 0} (kind : Kind V O R T) where
  -- the work that a trustee accepted stands in its log
  log_begun :
      (opening : State V O R T) (trustee : OneTrustee V O R T) → IsServing (plain_theory kind) kind opening trustee
      → begun kind (done_by (plain_theory kind) trustee) ≡ begun kind (trustee_at trustee.side).log
  log_begun opening trustee serving =
      let all = begun-append kind (trustee_at trustee.side).log trustee.since.items in
      let none = resumes_begun kind trustee.since.items serving.current.only in
      omega (arith, all, none)

module _ {V C O R T : Type 0} (kind : Kind V O R T) where
  -- what is to do of the whole
  abbrev pub weight : Turns V C O R T → ℕ
  weight turns =
      total (client_weight kind) turns.clients.items + total (trustee_weight kind) turns.trustees.items + tables_weight kind turns.tables.items

  -- less is to do, or what moved was light
  abbrev pub Falls : Turns V C O R T → Turns V C O R T → Type 0 → Type 0
  Falls old new light = (weight new + 1 ≤ weight old) ⊎ ((weight new ≤ weight old) × light)

  falls_on : (old new : Turns V C O R T) (a b : Type 0) → (a → b) → Falls old new a → Falls old new b
  falls_on old new a b f (inl less) = inl less
  falls_on old new a b f (inr (no_more, light)) = inr (no_more, f light)

  pub no_more : (old new : Turns V C O R T) (light : Type 0) → Falls old new light → weight new ≤ weight old
  no_more old new light (inl less) = omega (arith, less)
  no_more old new light (inr (le, is)) = le

  -- a client's turn at a trustee
  pub turn_lessens :
      (c t : ℕ) (answer : Turn) (old new : Turns V C O R T) (config : Config) (first : List (First V)) → AreOf kind config first old
      → (is : TurnsAt kind c t answer old new)
      → Falls old new (IsLight answer (client_at is.turned.lane.side) (client_at is.turned.becomes.side))
  turn_lessens c t answer old new config first are is =
      let has : HasLane old c t is.turned.lane = record { client = is.client; of_client = is.of_client; of_lane = is.turned.turns.of_lane } in
      let mine = are.seated c t is.turned.lane is.was has is.of_table in
      let falls = turn_falls kind t answer is.was is.now is.client.books is.becomes.books is.turned mine (fetch_cause kind config first old c t is.turned.lane are has) in
      let lanes = total_set (lane_weight kind) is.client.books.lanes.items t is.turned.lane is.turned.becomes is.turned.turns.of_lane in
      let of_client : client_weight kind is.becomes ≡ total (lane_weight kind) (slice_set is.client.books.lanes.items t is.turned.becomes) =
      ap (λ xs. total (lane_weight kind) xs) is.turned.turns.lanes in
      let clients = total_set (client_weight kind) old.clients.items c is.client is.becomes is.of_client in
      let of_clients : total (client_weight kind) new.clients.items ≡ total (client_weight kind) (slice_set old.clients.items c is.becomes) =
      ap (λ xs. total (client_weight kind) xs) is.clients in
      let tables = total_set (λ (table : PlainTable V O R T). core_weight kind (core_at table)) old.tables.items t is.was is.now is.of_table in
      let of_tables : tables_weight kind new.tables.items ≡ tables_weight kind (slice_set old.tables.items t is.now) =
      ap (λ xs. tables_weight kind xs) is.tables in
      let trustees : total (trustee_weight kind) new.trustees.items ≡ total (trustee_weight kind) old.trustees.items =
      ap (λ xs. total (trustee_weight kind) xs.items) is.trustees in
      elim falls [
        | inl less ↦ inl (omega (arith, less, lanes, of_client, clients, of_clients, tables, of_tables, trustees))
        | inr (le, light) ↦ inr (omega (arith, le, lanes, of_client, clients, of_clients, tables, of_tables, trustees), light)
      ]

  -- what a serving turn moved was light: it resumed nothing, moved nothing above, and found light batches alone
  pub record IsLightServe (t : ℕ) (served : Served) (old new : Turns V C O R T) (is : ServesAt kind t served old new) : Type 0 where
    pub resumes : resumes_in (done_by (plain_theory kind) is.becomes) ≡ resumes_in (done_by (plain_theory kind) is.trustee)
    pub quiet : moved_at kind is.trustee.above.items is.becomes.above.items ≡ 0
    pub slots : (was : PlainTable V O R T) → slice_get old.tables.items t ≡ Some was → (c : ℕ) → c < place_count (opening_at was).setup
        → IsLightSlot (slot_of (core_at was) c)

  -- its serving turn
  pub serve_lessens :
      (laws : KindLaws kind) (t : ℕ) (served : Served) (old new : Turns V C O R T) (config : Config) (first : List (First V))
      → AreOf kind config first old → (is : ServesAt kind t served old new) → Falls old new (IsLightServe t served old new is)
  serve_lessens laws t served old new config first are is =
      let are_now = is.keeps config first are in
      let of_now : slice_get new.trustees.items t ≡ Some is.becomes =
      subst (λ xs. slice_get xs t ≡ Some is.becomes) (sym is.trustees)
      (set_here old.trustees.items t is.becomes (slice_get_within old.trustees.items t is.trustee is.of_trustee)) in
      let (number_now, ready_now) = are_now.trustees t is.becomes of_now in
      let (number, ready) = are.trustees t is.trustee is.of_trustee in
      let n = is.trustee.number in
      let (was, at_was) = own_table (plain_theory kind) kind old.tables.items is.trustee ready in
      let (now, at_now) = there_too old.tables.items new.tables.items n was is.tables.as_many at_was in
      let at_its : slice_get new.tables.items is.becomes.number ≡ Some now = subst (λ k. slice_get new.tables.items k ≡ Some now) (number ∙ sym number_now) at_now in
      let home = at_home (plain_theory kind) kind old.tables.items is.trustee was ready at_was in
      let home_now = at_home (plain_theory kind) kind new.tables.items is.becomes now ready_now at_its in
      let turned = is.turned was now at_was at_now in
      let places = place_count (opening_at was).setup in
      let found = (places_weigh kind (opening_at was) places was now is.trustee.side is.becomes.side turned.serves home.0 refl (omega arith)).0 in
      let begins = log_begun kind (opening_at was) is.trustee home.1 in
      let begins_now = log_begun kind (opening_at now) is.becomes home_now.1 in
      let most = spends_most (plain_theory kind) kind (opening_at was) is.trustee laws home.1 in
      let most_now = spends_most (plain_theory kind) kind (opening_at now) is.becomes laws home_now.1 in
      let resumes = grows_resumes (done_by (plain_theory kind) is.trustee) (done_by (plain_theory kind) is.becomes) turned.done in
      let mid : List (PlainTable V O R T) = slice_set old.tables.items n now in
      let here = total_set (λ (table : PlainTable V O R T). core_weight kind (core_at table)) old.tables.items n was now at_was in
      let within = slice_get_within old.tables.items n was at_was in
      let seats = ready.above.as_many in
      let seats_now = ready_now.above.as_many in
      let tables_many = is.tables.as_many in
      let many : length is.becomes.above.items ≡ length is.trustee.above.items = omega (arith, seats, seats_now, tables_many, number, number_now) in
      let ups = ups_fall kind (HaveAllEnded (opening_at was) (trustee_at is.becomes.side).log) (n + 1) mid new.tables.items
      is.trustee.above.items is.becomes.above.items
      (is.tables.as_many ∙ sym (length-set old.tables.items n now))
      (ready.above.as_many ∙ sym (length-set old.tables.items n now))
      many
      (λ v lt.
      elim (cases_eq v n) [
        | inl e ↦
            subst (λ k. slice_get new.tables.items k ≡ slice_get mid k) (sym e) (at_now ∙ sym (set_here old.tables.items n now within))
        | inr ne ↦ is.tables.lower v (omega (arith, lt, ne)) ∙ sym (set_other old.tables.items n v now ne)
      ])
      (λ i j x y before after at ex ey es er. (
        _,
        is.above was at_was i x y before after
            (subst (λ k. slice_get old.tables.items k ≡ Some x) at (sym (set_other old.tables.items n j now (λ e. absurd (omega (arith, at, e)))) ∙ ex))
            (subst (λ k. slice_get new.tables.items k ≡ Some y) at ey) es er,
      )) in
      let trustees = total_set (trustee_weight kind) old.trustees.items t is.trustee is.becomes is.of_trustee in
      let of_trustees : total (trustee_weight kind) new.trustees.items ≡ total (trustee_weight kind) (slice_set old.trustees.items t is.becomes) =
      ap (λ xs. total (trustee_weight kind) xs) is.trustees in
      let clients : total (client_weight kind) new.clients.items ≡ total (client_weight kind) old.clients.items = ap (λ xs. total (client_weight kind) xs.items) is.clients in
      elim found [
        | inl less ↦ inl (omega (arith, less, begins, begins_now, most, most_now, resumes, here, ups, trustees, of_trustees, clients))
        | inr (le, slots) ↦
            elim (cases_eq (resumes_in (done_by (plain_theory kind) is.becomes)) (resumes_in (done_by (plain_theory kind) is.trustee))) [
              | inr ne ↦ inl (omega (arith, le, begins, begins_now, most, most_now, resumes, here, ups, trustees, of_trustees, clients, ne))
              | inl same ↦
                  elim (cases_eq (moved_at kind is.trustee.above.items is.becomes.above.items) 0) [
                    | inr ne ↦ inl (omega (arith, le, begins, begins_now, most, most_now, same, here, ups, trustees, of_trustees, clients, ne))
                    | inl none ↦
                        inr (
                          omega (arith, le, begins, begins_now, most, most_now, same, here, ups, trustees, of_trustees, clients),
                          record {
                            resumes = same;
                            quiet = none;
                            slots = λ x ex c lt.
                                let is_was = same_element old.tables.items t was x (subst (λ k. slice_get old.tables.items k ≡ Some was) number at_was) ex in
                                subst (λ (y : PlainTable V O R T). IsLightSlot (slot_of (core_at y) c)) (sym is_was)
                                (slots c (subst (λ (y : PlainTable V O R T). c < place_count (opening_at y).setup) is_was lt));
                          },
                        )
                  ]
            ]
      ]

  -- turns keep the whole of one build

  pub below_keeps : (c n : ℕ) (moved : Bool) (old new : Turns V C O R T) → TurnsBelow kind c n moved old new → Keeps kind old new
  unfolding TurnsBelow
  below_keeps c zero moved old new (none, same) config first are = subst (λ x. AreOf kind config first x) (sym same) are
  below_keeps c (suc n) moved old new (mid, before, answer, below, here, is) config first are =
      here.keeps config first (below_keeps c n before old mid below config first are)

  pub goes_keeps : (k : ℕ) (moved : Bool) (old new : Turns V C O R T) → Goes kind k moved old new → Keeps kind old new
  goes_keeps k moved old new (inl client) = below_keeps k (length old.tables.items) moved old new client.1
  goes_keeps k moved old new (inr (inl (t, at, lt, (served, serves, is)))) = serves.keeps
  goes_keeps k moved old new (inr (inr (beyond, none, same))) = λ config first are. subst (λ x. AreOf kind config first x) (sym same) are

  pub all_keep : (ks : List ℕ) (n : ℕ) (old new : Turns V C O R T) → AllGo kind ks n old new → Keeps kind old new
  unfolding AllGo
  all_keep [] n old new (none, same) config first are = subst (λ x. AreOf kind config first x) (sym same) are
  all_keep (k ∷ ks) n old new (mid, moved, more, goes, rest, is) config first are =
      all_keep ks more mid new rest config first (goes_keeps k moved old mid goes config first are)

  pub turns_still : (old new : Turns V C O R T) → Keeps kind old new → AreTurns kind old → AreTurns kind new
  turns_still old new keeps (config, first, are) = (config, first, keeps config first are)

  -- and raise nothing that is to do

  module _ (laws : KindLaws kind) (config : Config) (first : List (First V)) where
    pub below_falls :
        (c n : ℕ) (moved : Bool) (old new : Turns V C O R T) → AreOf kind config first old → TurnsBelow kind c n moved old new → weight new ≤ weight old
    unfolding TurnsBelow
    below_falls c zero moved old new are (none, same) = let w = ap (λ (x : Turns V C O R T). weight x) same in omega (arith, w)
    below_falls c (suc n) moved old new are (mid, before, answer, below, here, is) =
        let rest = below_falls c n before old mid are below in
        let last = no_more mid new _ (turn_lessens c n answer mid new config first (below_keeps c n before old mid below config first are) here) in
        omega (arith, rest, last)

    pub goes_falls : (k : ℕ) (moved : Bool) (old new : Turns V C O R T) → AreOf kind config first old → Goes kind k moved old new → weight new ≤ weight old
    goes_falls k moved old new are (inl client) = below_falls k (length old.tables.items) moved old new are client.1
    goes_falls k moved old new are (inr (inl (t, at, lt, (served, serves, is)))) =
        no_more old new _ (serve_lessens laws t served old new config first are serves)
    goes_falls k moved old new are (inr (inr (beyond, none, same))) = let w = ap (λ (x : Turns V C O R T). weight x) same in omega (arith, w)

    pub all_fall : (ks : List ℕ) (n : ℕ) (old new : Turns V C O R T) → AreOf kind config first old → AllGo kind ks n old new → weight new ≤ weight old
    unfolding AllGo
    all_fall [] n old new are (none, same) = let w = ap (λ (x : Turns V C O R T). weight x) same in omega (arith, w)
    all_fall (k ∷ ks) n old new are (mid, moved, more, goes, rest, is) =
        let one = goes_falls k moved old mid are goes in
        let others = all_fall ks more mid new (goes_keeps k moved old mid goes config first are) rest in
        omega (arith, one, others)
